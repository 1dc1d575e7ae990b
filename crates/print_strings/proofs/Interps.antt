-- An interpolation as it is written, and what parts it from a `$name` before it. Assumes nothing.
use Rattle.std.specs.Prelude.{Ok, Err}
use mathlib.Core.Path.{◌≡◌, refl, sym, ap, ◌∙◌, subst}
use mathlib.Core.Bool.{Bool, true, false, not, true≢false}
use mathlib.Core.List.{List, [], ◌∷◌, ◌++◌, append-nil}
use Prim.Native.Nat.{ℕ, ◌+◌, ◌≤◌, ◌<◌}
use native.Mathlib.Omega.{arith}
use lib.ListN.{length}
use lib.Seq.{slice, length-slice}
use Rattle.characters.specs.Choice.{◌is◌, within}
use Rattle.characters.specs.Utf8.{chars_at, encode, encode_char}
use Rattle.characters.proofs.Choice.{if_all}
use Rattle.spans.specs.declared.Position.{Position}
use Rattle.rules.specs.Text.{Text, ch, text, is_letter, is_digit, is_ident_part}
use Rattle.rules.specs.Scan.{Part, next, starts_with, run}
use Rattle.rules.specs.Lexer.{advances}
use Rattle.rules.proofs.Ahead.{is_not}
use Rattle.cursor.specs.Strings.{Interpolation, braces, named, interpolation_of}
use Rattle.bridge.specs.Bridge.{placed, Within, Reach, exactly}
use Rattle.bridge.proofs.Bytes.{starts_one}
use Rattle.bridge.proofs.Reaches.{reach_again}
use Rattle.output.specs.Writing.{Put}
use Rattle.output.proofs.Buffers.{put_then}
use Rattle.walks.specs.declared.Closing.{Closing}
use Rattle.walks.proofs.Whole.{reach_forth}
use Rattle.interpolations.specs.Interpolations.{interpolation_at, PastAt, missing}
use Rattle.interpolations.proofs.InterpLaws.{interp_first, text_bytes_lem, past_forth}
use Rattle.prints.specs.Print.{parting, is_name}
use Rattle.prints.proofs.Bytewise.{BytesOf, low, high, bytes_of_char}
use Rattle.print_places.specs.declared.Flawed.{Flawed}
use Rattle.print_strings.specs.Strings.{InterpolationBy, InterpolationAt}
use Rattle.print_strings.specs.declared.Row.{Row}

parting_length : (b : Bool) → length (parting b) ≤ 6
unfolding parting
parting_length true = omega arith
parting_length false = omega arith

pub parting_place : (a b : List ℕ) (at r : ℕ) (nm : Bool) → Put a b at (parting nm) r → r ≤ at + 6
parting_place a b at r nm u = omega (arith, u.place, parting_length nm)

-- ── A name, or braces ──

-- A character of one byte begins a text exactly if its byte begins the bytes.
next_encode : (x : ℕ) (t : Text) → x ≤ 0x7F → next (exactly x) (encode t) ≡ next (exactly x) t
unfolding next encode
next_encode x [] h = refl
next_encode x (c ∷ t) h = go (bytes_of_char c)
  where
    go : BytesOf c → next (exactly x) (encode_char c ++ encode t) ≡ (c is x)
    go (low l e) = rw e
    go (high l b bs e g _) = rw e (is_not b x (λ z. omega arith) ∙ sym (is_not c x (λ z. omega arith)))

dollar_encode : (t : Text) → starts_with (text "${") (encode (ch "$" ∷ t)) ≡ next (exactly (ch "{")) t
unfolding starts_with encode encode_char
dollar_encode t = starts_one (ch "{") (encode t) ∙ next_encode (ch "{") t (omega arith)

-- No name begins with a brace.
brace_part : is_ident_part (ch "{") ≡ false
unfolding is_ident_part is_letter is_digit within
brace_part = refl

name_brace : (cs : Text) → next (exactly (ch "{")) (run is_ident_part cs).taken ≡ false
unfolding next run
name_brace [] = refl
name_brace (c ∷ cs) =
    if_all (λ (a : Part). next (exactly (ch "{")) a.taken ≡ false) (is_ident_part c)
    (λ h. is_not c (ch "{") (λ e. true≢false (sym h ∙ (ap is_ident_part e ∙ brace_part)))) (λ _. refl)

interp_starts : (cs : Text) → starts_with (text "${") (encode (interpolation_of cs).text) ≡ next (exactly (ch "{")) cs
unfolding interpolation_of braces named next
interp_starts cs =
    if_all (λ (i : Interpolation). starts_with (text "${") (encode i.text) ≡ next (exactly (ch "{")) cs) (starts_with (text "{") cs)
    (λ k. dollar_encode _ ∙ (sym k ∙ starts_one (ch "{") cs))
    (λ k. dollar_encode (run is_ident_part cs).taken ∙ (name_brace cs ∙ (sym k ∙ starts_one (ch "{") cs)))

pub interp_name : (cs : Text) → is_name (encode (interpolation_of cs).text) ≡ not (next (exactly (ch "{")) cs)
unfolding is_name
interp_name cs = ap not (interp_starts cs)

-- ── What was written ──

-- It has a byte at least.
pub interp_long : (s : List ℕ) (p q : Position) → Reach s p (interpolation_at s p).chars q → p.offset < q.offset
interp_long s p q k =
    let f = interp_first (chars_at s (p.offset + 1)) in
    reach_forth s p q (ch "$") f.0 (subst (λ (t : Text). Reach s p t q) f.1 k)

module _ (s : List ℕ) (p : Position) (w : Within s p) (c : Closing) (x : PastAt s p c) where
  no_brace_missing : (f : Bool) → f ≡ true → (l : List ℕ) → l ++ missing f ≡ l
  unfolding missing
  no_brace_missing true e l = append-nil l
  no_brace_missing false e l = absurd (true≢false (sym e))

  module _ (h : c.found ≡ true) (nm b : Bool) (out mid out' : List ℕ) (at place end : ℕ) (u : Put out mid at (parting nm) place)
      (v : Put mid out' place (slice p.offset c.at.offset s) end) (e : b ≡ next (exactly (ch "{")) (chars_at s (p.offset + 1))) where
    interp_by : InterpolationBy s p nm out out' at (Ok (record { at = c.at.offset; out = end; named = not b }))
    interp_by =
        let l = slice p.offset c.at.offset s in
        let t : encode (interpolation_at s p).text ≡ l = text_bytes_lem s p w c x ∙ no_brace_missing c.found h l in (
          c.at,
          refl,
          record {
            reach = x.reach;
            shut = x.same ∙ ap not h;
            put = subst (λ (k : List ℕ). Put out out' at (parting nm ++ k) end) (sym t) (put_then out mid out' at place end (parting nm) l u v);
            name = ap not e ∙ sym (interp_name (chars_at s (p.offset + 1)));
            forth = past_forth s p w c x;
            small = omega (arith, interp_long s p c.at x.reach, u.place, v.place, parting_length nm, length-slice p.offset c.at.offset s x.reach.within.inside);
          },
        )

-- ── By places ──

-- What holds of an interpolation at one position holds at every other at its place.
interp_moved : (s : List ℕ) (p : Position) → Within s p → (nm : Bool) (out out' : List ℕ) (at : ℕ) (r : Row)
    → InterpolationBy s (placed p.offset) nm out out' at (Ok r) → InterpolationBy s p nm out out' at (Ok r)
interp_moved s p w nm out out' at r (e, d, z) =
    let m = reach_again s (placed p.offset) e p (interpolation_at s p).chars z.reach refl w in (
      advances p (interpolation_at s p).chars,
      m.1 ∙ d,
      record {
        reach = m.0;
        shut = z.shut;
        put = z.put;
        name = z.name;
        forth = omega (arith, m.1, z.forth);
        small = omega (arith, m.1, z.small);
      },
    )

module _ (s : List ℕ) (from : ℕ) (w : Within s (placed from)) (c : Closing) (x : PastAt s (placed from) c) (nm : Bool) (out : List ℕ) (at : ℕ) where
  pub interp_open : c.found ≡ false → (out' : List ℕ) (f : Flawed) → InterpolationAt s from nm out out' at (Err f)
  interp_open h out' f p d k =
      let y : InterpolationBy s (placed p.offset) nm out out' at (Err f)
      = subst (λ (n : ℕ). InterpolationBy s (placed n) nm out out' at (Err f)) (sym d) (c.at, x.same ∙ ap not h, x.reach) in
      let m = reach_again s (placed p.offset) y.0 p (interpolation_at s p).chars y.2 refl k in
      (advances p (interpolation_at s p).chars, y.1, m.0)

  pub interp_at : c.found ≡ true → (b : Bool) (mid out' : List ℕ) (place end : ℕ)
      → Put out mid at (parting nm) place → Put mid out' place (slice from c.at.offset s) end
      → b ≡ next (exactly (ch "{")) (chars_at s (from + 1))
      → InterpolationAt s from nm out out' at (Ok (record { at = c.at.offset; out = end; named = not b }))
  interp_at h b mid out' place end u v e p d k =
      let r : Row = record { at = c.at.offset; out = end; named = not b } in
      let y = interp_by s (placed from) w c x h nm b out mid out' at place end u v e in
      interp_moved s p k nm out out' at r (subst (λ (n : ℕ). InterpolationBy s (placed n) nm out out' at (Ok r)) (sym d) y)
