-- The loop over the pieces of a string: what is written so far, and what is still to be written. Assumes nothing.
use Rattle.std.specs.Prelude.{Ok, Err}
use mathlib.Core.Path.{◌≡◌, refl, sym, ap, ◌∙◌, subst}
use mathlib.Core.Bool.{Bool, true, false, ◌&&◌, true≢false}
use mathlib.Core.List.{List, [], ◌∷◌, ◌++◌, append_assoc}
use Prim.Native.Nat.{ℕ, ◌+◌, ◌*◌, ◌-◌, ◌≤◌, ◌<◌}
use native.Mathlib.Omega.{arith}
use lib.ListN.{length}
use Rattle.characters.specs.Choice.{◌is◌}
use Rattle.characters.specs.Utf8.{chars_at, encode, width}
use Rattle.spans.specs.declared.Position.{Position}
use Rattle.rules.specs.Text.{Text, ch, text, LF, is_empty}
use Rattle.rules.specs.Scan.{next, starts_with}
use Rattle.rules.specs.Strings.{is_interp_start}
use Rattle.rules.specs.Lexer.{advance, advances}
use Rattle.rules.proofs.Ahead.{is_eq}
use Rattle.cursor.specs.Strings.{stands}
use Rattle.cursor.specs.Cursor.{held, left}
use Rattle.cursor.specs.declared.Cursor.TheVariants.{Outside}
use Rattle.cursor.proofs.Steps.{enters_string}
use Rattle.cursor.proofs.Pieces.{stops_dollar}
use Rattle.bridge.specs.Bridge.{placed, Within, Reach, exactly, onward}
use Rattle.bridge.proofs.Bytes.{byte_next}
use Rattle.bridge.proofs.Tests.{low_is}
use Rattle.bridge.proofs.Reaches.{one_on}
use Rattle.output.specs.Writing.{Put}
use Rattle.output.proofs.Buffers.{put_then, put_length}
use Rattle.walks.specs.Walks.{quotes}
use Rattle.string_runs.specs.Runs.{run_made, run_errors}
use Rattle.interpolations.specs.Interpolations.{interpolation_at}
use Rattle.prints.specs.Print.{literal, parting, is_name}
use Rattle.prints.specs.Records.{quote_at}
use Rattle.prints.specs.Writing.{outside, in_string, due_space}
use Rattle.print_places.specs.Places.{still, still_of, no_errors, right_from, Emits}
use Rattle.print_places.specs.declared.Flawed.{Flawed}
use Rattle.print_places.specs.declared.Written.{Written}
use Rattle.print_places.proofs.Tokens.{open_still}
use Rattle.print_places.proofs.Elements.{within_placed}
use Rattle.print_strings.specs.Strings.{Spot, spot_of, RowWritten, RowAt, InterpolationWritten, InterpolationAt}
use Rattle.print_strings.specs.declared.Row.{Row}
use Rattle.print_strings.proofs.Interps.{interp_long}
use Rattle.print_strings.proofs.Turns.{quote_still, quote_right, dollar_still, dollar_right, dollar_wrong, end_wrong, feed_wrong, units_wrong}

-- The string that begins at `from` was written up to `c`; `named` says that a `$name` stands right before it.
pub record Stringing (s : List ℕ) (from : ℕ) (out₀ out : List ℕ) (at : ℕ) (c : Position) (place : ℕ) (named : Bool) : Type 0 where
  pub later : Bool
  pub sofar : List ℕ
  pub put : Put out₀ out at sofar place
  pub same :
      (due : Bool)
      → still s (outside due) from
      ≡ due_space due ++ (sofar ++ still_of s (in_string from named) (held later (placed from) c [] (chars_at s c.offset)))
  pub right : right_from s from ≡ no_errors (held later (placed from) c [] (chars_at s c.offset)).errors
  pub within : Within s c
  pub forth : from < c.offset
  pub small : place ≤ at + 8 * (c.offset - from)

-- The string that begins at `from` was written up to the place `c`.
abbrev pub StringingAt : List ℕ → ℕ → List ℕ → List ℕ → ℕ → ℕ → ℕ → Bool → Type 0
StringingAt s from out₀ out at c place named = (q : Position) × (q.offset ≡ c) × Stringing s from out₀ out at q place named

-- ── The beginning ──

module _ (s : List ℕ) (from : ℕ) (w : Within s (placed from)) (q : next (exactly (ch "\"")) (chars_at s from) ≡ true)
    (n : starts_with quotes (chars_at s from) ≡ false) where
  first : Reach s (placed from) (ch "\"" ∷ []) (onward (placed from) 1)
  first = one_on s (placed from) (ch "\"") (omega arith) (omega arith) w q

  entered : left (Outside (placed from)) (chars_at s from) ≡ held false (placed from) (onward (placed from) 1) [] (chars_at s (from + 1))
  unfolding starts_with advance advances
  entered =
      ap (left (Outside (placed from))) first.chars
      ∙ (enters_string (placed from) (chars_at s (from + 1)) (starts_rest first.chars)
      ∙ ap (λ (p : Position). held false (placed from) p [] (chars_at s (from + 1))) moved)
    where
      moved : advance (placed from) (ch "\"") ≡ onward (placed from) 1
      moved = sym first.moved

      starts_rest : chars_at s from ≡ ch "\"" ∷ chars_at s (from + 1) → starts_with (text "\"\"") (chars_at s (from + 1)) ≡ false
      starts_rest e = subst (λ (l : Text). starts_with quotes l ≡ false) e n

  quoted : quote_at s from ≡ true
  unfolding quote_at
  quoted = sym (byte_next (exactly (ch "\"")) (low_is 1 (ch "\"") (omega arith) (omega arith)) s from) ∙ q

  pub string_begin : (out₀ out : List ℕ) (at place : ℕ) → Put out₀ out at (ch "\"" ∷ []) place → StringingAt s from out₀ out at (from + 1) place false
  string_begin out₀ out at place p = (
    onward (placed from) 1,
    refl,
    record {
      later = false;
      sofar = text "\"";
      put = p;
      same = λ due.
          ap (still_of s (outside due)) entered
          ∙ open_still s due (placed from) (onward (placed from) 1) (chars_at s (from + 1)) (omega arith) quoted;
      right = ap (λ l. no_errors l.errors) entered;
      within = first.within;
      forth = omega arith;
      small = omega (arith, p.place);
    },
  )

-- ── A turn ──

-- An error of the units.
pub row_wrong : (s : List ℕ) (from : ℕ) (out₀ out : List ℕ) (at : ℕ) (c : Position) (place : ℕ) (named : Bool)
    → Stringing s from out₀ out at c place named → no_errors (run_errors s c) ≡ false → right_from s from ≡ false
row_wrong s from out₀ out at c place named y h = y.right ∙ units_wrong s (placed from) c y.later h

module _ (s : List ℕ) (from : ℕ) (out₀ out : List ℕ) (at : ℕ) (c : Position) (place : ℕ) (named : Bool)
    (y : Stringing s from out₀ out at c place named) (out' : List ℕ) (r : Spot) where
  late : from ≤ c.offset
  late = omega (arith, y.forth)

  module _ (z : RowWritten s c named out out' place r) where
    abbrev m : Text
    m = run_made s c

    pub row_room : r.out ≤ at + 8 * length s
    row_room = omega (arith, y.small, z.small, z.forth, z.reach.within.inside, y.forth)

    -- The closing quote.
    string_end : (q : Position) → Reach s r.at (ch "\"" ∷ []) q → (out'' : List ℕ) (end : ℕ) → Put out' out'' r.out (ch "\"" ∷ []) end
        → (w : Written) → w.at ≡ q.offset → w.out ≡ end → Emits true s from out₀ out'' at w
    string_end q k out'' end p w e f =
        let l = literal named (encode m) in
        let S = still s (outside true) q.offset in
        let H = held y.later (placed from) c [] (chars_at s c.offset) in
        let b : q.offset ≡ r.at.offset + 1 = reach_one k in
        rw (e, f)
        (record {
          bytes = y.sofar ++ (l ++ text "\"");
          put = put_then out₀ out out'' at place end y.sofar (l ++ text "\"") y.put (put_then out out' out'' place r.out end l (text "\"") z.put p);
          same = λ due.
              y.same due
              ∙ ap (λ (t : List ℕ). due_space due ++ t)
              (ap (λ (t : List ℕ). y.sofar ++ t) (quote_still s (placed from) c y.later named r.at z.reach late q k z.right ∙ sym (append_assoc l (text "\"") S))
              ∙ sym (append_assoc y.sofar (l ++ text "\"") S));
          right = y.right ∙ quote_right s (placed from) c y.later named r.at z.reach late q k z.right;
          within = within_placed s q k.within;
          forth = omega (arith, y.forth, z.forth);
          small = omega (arith, y.small, z.small, z.forth, p.place, y.forth);
        })
      where
        reach_one : Reach s r.at (ch "\"" ∷ []) q → q.offset ≡ r.at.offset + 1
        reach_one k = unfold advances advance width in (ap (λ (p : Position). p.offset) k.moved)

    pub string_closed : next (exactly (ch "\"")) (chars_at s r.at.offset) ≡ true → (out'' : List ℕ) (end : ℕ) → Put out' out'' r.out (ch "\"" ∷ []) end
        → Emits true s from out₀ out'' at (record { at = r.at.offset + 1; out = end })
    string_closed d out'' end p =
        string_end (onward r.at 1) (one_on s r.at (ch "\"") (omega arith) (omega arith) z.reach.within d) out'' end p
        (record { at = r.at.offset + 1; out = end }) refl refl

    -- ── Behind the units stands neither a quote nor a dollar sign ──

    pub string_wrong : next (exactly (ch "\"")) (chars_at s r.at.offset) ≡ false → next (exactly (ch "$")) (chars_at s r.at.offset) ≡ false
        → right_from s from ≡ false
    string_wrong a b = y.right ∙ go (chars_at s r.at.offset) refl z.stops a b
      where
        go : (cs : Text) → chars_at s r.at.offset ≡ cs → stands cs ≡ false → next (exactly (ch "\"")) cs ≡ false → next (exactly (ch "$")) cs ≡ false
            → no_errors (held y.later (placed from) c [] (chars_at s c.offset)).errors ≡ false
        go [] e h a b = end_wrong s (placed from) c y.later named r.at z.reach late z.right e
        go (d ∷ cs) e h a b = by_feed (d is LF) refl
          where
            by_feed : (f : Bool) → (d is LF) ≡ f → no_errors (held y.later (placed from) c [] (chars_at s c.offset)).errors ≡ false
            by_feed true f =
                feed_wrong s (placed from) c y.later named r.at z.reach late z.right cs (e ∙ ap (λ (x : ℕ). x ∷ cs) (is_eq d LF f))
            by_feed false f =
                let no_quote : (d is ch "\"") ≡ false = unfold next in a in
                let no-dollar : (d is ch "$") ≡ false = unfold next in b in
                let x = stops_dollar d cs h (λ g. true≢false (sym (ap (λ (k : ℕ). k is LF) g) ∙ f)) (λ g. true≢false (sym (ap (λ (k : ℕ). k is ch "\"") g) ∙ no_quote)) in
                absurd (true≢false (sym (ap (λ (k : ℕ). k is ch "$") x.0) ∙ no-dollar))

    -- ── An interpolation ──

    module _ (d : next (exactly (ch "$")) (chars_at s r.at.offset) ≡ true) where
      abbrev rest : Text
      rest = chars_at s (r.at.offset + 1)

      dollar : chars_at s r.at.offset ≡ ch "$" ∷ rest
      dollar = (one_on s r.at (ch "$") (omega arith) (omega arith) z.reach.within d).chars

      opens : next is_interp_start rest ≡ true
      opens = (stops_dollar (ch "$") rest (subst (λ (l : Text). stands l ≡ false) dollar z.stops) (λ e. omega arith) (λ e. omega arith)).1

      pub interp_wrong : (e : Position) → ((interpolation_at s r.at).open_end ≡ true) × Reach s r.at (interpolation_at s r.at).chars e
          → right_from s from ≡ false
      interp_wrong e (h, k) = y.right ∙ dollar_wrong s (placed from) c y.later named r.at z.reach late rest dollar opens refl e k z.right h

      pub string_more : (out'' : List ℕ) (i : Spot) → InterpolationWritten s r.at r.named out' out'' r.out i
          → Stringing s from out₀ out'' at i.at i.out i.named
      string_more out'' i v =
          let l = literal named (encode m) in
          let t = parting (named && is_empty m) ++ encode (interpolation_at s r.at).text in
          let N = is_name (encode (interpolation_at s r.at).text) in
          let R : Bool → List ℕ = λ b. still_of s (in_string from b) (held true (placed from) i.at [] (chars_at s i.at.offset)) in
          let p : Put out' out'' r.out t i.out = rw z.name at v.put in
          record {
            later = true;
            sofar = y.sofar ++ (l ++ t);
            put = put_then out₀ out out'' at place i.out y.sofar (l ++ t) y.put (put_then out out' out'' place r.out i.out l t z.put p);
            same = λ due.
                y.same due
                ∙ ap (λ (x : List ℕ). due_space due ++ x)
                (ap (λ (x : List ℕ). y.sofar ++ x)
                (dollar_still s (placed from) c y.later named r.at z.reach late rest dollar opens refl i.at v.reach ∙ sym (append_assoc l t (R N)))
                ∙ (sym (append_assoc y.sofar (l ++ t) (R N)) ∙ ap (λ (b : Bool). (y.sofar ++ (l ++ t)) ++ R b) (sym v.name)));
            right = y.right ∙ dollar_right s (placed from) c y.later named r.at z.reach late rest dollar opens refl i.at v.reach z.right v.shut;
            within = v.reach.within;
            forth = omega (arith, y.forth, z.forth, v.forth);
            small = omega (arith, y.small, z.small, z.forth, v.small, v.forth, y.forth);
          }

-- ── By places ──

module _ (s : List ℕ) (from : ℕ) (out₀ out : List ℕ) (at c place : ℕ) (named : Bool) (y : StringingAt s from out₀ out at c place named) where
  pub at_within : Within s (placed c)
  at_within = subst (λ (n : ℕ). Within s (placed n)) y.1 (within_placed s y.0 y.2.within)

  pub at_small : place ≤ at + 8 * length s
  at_small = omega (arith, y.2.small, y.2.within.inside)

  pub at_length : length out ≡ length out₀
  at_length = put_length _ _ _ _ _ y.2.put

  pub at_bad : (out' : List ℕ) (e : Flawed) → RowAt s c named out out' place (Err e) → right_from s from ≡ false
  at_bad out' e h = row_wrong s from out₀ out at y.0 place named y.2 (h y.0 y.1 y.2.within)

  module _ (out' : List ℕ) (r : Row) (h : RowAt s c named out out' place (Ok r)) where
    abbrev stop : Position
    stop = (h y.0 y.1 y.2.within).0

    stops_at : stop.offset ≡ r.at
    stops_at = (h y.0 y.1 y.2.within).1

    row : RowWritten s y.0 named out out' place (spot_of stop r)
    row = (h y.0 y.1 y.2.within).2

    pub at_room : r.out ≤ at + 8 * length s
    at_room = row_room s from out₀ out at y.0 place named y.2 out' (spot_of stop r) row

    pub row_within : Within s (placed r.at)
    row_within = subst (λ (n : ℕ). Within s (placed n)) stops_at (within_placed s stop row.reach.within)

    -- What stands behind the row, said of its position.
    there : (x : ℕ) (b : Bool) → next (exactly x) (chars_at s r.at) ≡ b → next (exactly x) (chars_at s stop.offset) ≡ b
    there x b f = subst (λ (n : ℕ). next (exactly x) (chars_at s n) ≡ b) (sym stops_at) f

    pub at_closed : next (exactly (ch "\"")) (chars_at s r.at) ≡ true → (out'' : List ℕ) (end : ℕ) → Put out' out'' r.out (ch "\"" ∷ []) end
        → Emits true s from out₀ out'' at (record { at = r.at + 1; out = end })
    at_closed f out'' end p =
        subst (λ (n : ℕ). Emits true s from out₀ out'' at (record { at = n + 1; out = end })) stops_at
        (string_closed s from out₀ out at y.0 place named y.2 out' (spot_of stop r) row (there (ch "\"") true f) out'' end p)

    pub at_stuck : next (exactly (ch "\"")) (chars_at s r.at) ≡ false → next (exactly (ch "$")) (chars_at s r.at) ≡ false → right_from s from ≡ false
    at_stuck f g =
        string_wrong s from out₀ out at y.0 place named y.2 out' (spot_of stop r) row (there (ch "\"") false f) (there (ch "$") false g)

    module _ (f : next (exactly (ch "$")) (chars_at s r.at) ≡ true) (out'' : List ℕ) where
      pub at_open : (e : Flawed) → InterpolationAt s r.at r.named out' out'' r.out (Err e) → right_from s from ≡ false
      at_open e g =
          let x = g stop stops_at row.reach.within in
          interp_wrong s from out₀ out at y.0 place named y.2 out' (spot_of stop r) row (there (ch "$") true f) x.0 (x.1, x.2)

      module _ (i : Row) (g : InterpolationAt s r.at r.named out' out'' r.out (Ok i)) where
        pub at_more : StringingAt s from out₀ out'' at i.at i.out i.named
        at_more =
            let x = g stop stops_at row.reach.within in
            (x.0, x.1, string_more s from out₀ out at y.0 place named y.2 out' (spot_of stop r) row (there (ch "$") true f) out'' (spot_of x.0 i) x.2)

        -- Less is left behind it.
        pub at_less : (c < i.at) × (i.at ≤ length s)
        at_less =
            let x = g stop stops_at row.reach.within in (
              omega (arith, y.1, row.forth, interp_long s stop x.0 x.2.reach, x.1),
              omega (arith, x.1, x.2.reach.within.inside),
            )
