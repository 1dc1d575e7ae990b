-- Laws of a step inside a string. Assumes nothing.
use mathlib.Core.Path.{◌≡◌, refl, sym, ◌∙◌, ap, subst}
use mathlib.Core.Bool.{Bool, true, false, not, ◌&&◌, false≢true}
use mathlib.Core.List.{List, [], ◌∷◌, ◌++◌, append_cancel_left, append-nil}
use Prim.Native.Nat.{ℕ, zero, suc, ◌+◌, ◌-◌, ◌≤◌, ◌<◌}
use lib.ListN.{length, take, drop, length-append}
use lib.Seq.{take-append_seam}
use native.Mathlib.Omega.{arith}
use Rattle.characters.specs.Utf8.{chars_at, width, bytes, encode}
use Rattle.characters.proofs.Texts.{encode_length}
use Rattle.characters.proofs.Widths.{width_bounds}
use Rattle.spans.specs.declared.Position.{Position}
use Rattle.spans.specs.declared.Span.{Span}
use Rattle.rules.specs.Text.{Text, LF, is_empty}
use Rattle.rules.specs.Scan.{next}
use Rattle.rules.specs.Strings.{is_interp_start}
use Rattle.rules.specs.Tables.{StringLiteral, UnterminatedString, LineFeedInString}
use Rattle.rules.specs.Tokens.{Token, TokenizeError}
use Rattle.rules.specs.Lexer.{advance, advances, span, Lexed}
use Rattle.cursor.specs.declared.Cursor.{Cursor}
use Rattle.cursor.specs.declared.Cursor.TheVariants.{Outside, InString}
use Rattle.cursor.specs.Strings.{Interpolation, unit_of, stands, units_made, units_errors, units_ahead}
use Rattle.cursor.specs.Cursor.{and_then, held, left, position, literal, interpolation, error_at, interpolation_errors}
use Rattle.cursor.proofs.Units.{Whole, unit_first, unit_splits, stands_cons, whole_none, whole_unit, whole_join, whole_all}
use Rattle.cursor.proofs.Pieces.{stops_dollar, first_gives, piece_end, piece_feed, piece_quote, string_over, piece_dollar, piece_interp}
use Rattle.bridge.specs.Bridge.{Within, Reach, exactly}
use Rattle.output.specs.Writing.{Put}
use Rattle.output.proofs.Buffers.{put_then}
use Rattle.records.proofs.KindLaws.{string_made, interp_made}
use Rattle.records.specs.Layout.{error_bytes}
use Rattle.records.proofs.Filling.{errors_append}
use Rattle.walks.specs.Errors.{unclosed}
use Rattle.walks.proofs.Errors.{put_no}
use Rattle.walks.proofs.Enclosed.{reach_offset}
use Rattle.walks.proofs.Whole.{reach_forth}
use Rattle.string_runs.specs.declared.Run.{Run}
use Rattle.interpolations.specs.declared.Given.{Given}
use Rattle.strings.specs.declared.Piece.{Piece}
use Rattle.strings.specs.declared.Piece.TheVariants as piece
use Rattle.string_runs.specs.Runs.{run_chars, run_made, run_errors, RunAt}
use Rattle.interpolations.specs.Interpolations.{interpolation_at, InterpolationAt}
use Rattle.strings.specs.Pieces.{literal_piece, token_of, credit, PieceAt}
use Rattle.string_runs.proofs.RunLaws.{error_few}
use Rattle.interpolations.proofs.InterpLaws.{interp_first, text_size, interp_few}

-- ── The units at the front of a text are whole ──

abbrev Front : Text → Type 0
Front cs = (t : Text) × (rest : Text) × Whole cs t rest × (stands rest ≡ false)

-- A unit takes a character at least.
unit_shorter : (cs : Text) → stands cs ≡ true → length (drop (length (unit_of cs).chars) cs) < length cs
unit_shorter cs h =
    let (c, ds, e) = stands_cons cs h in
    go cs c ds e h
  where
    go : (cs : Text) (c : ℕ) (ds : Text) → cs ≡ c ∷ ds → stands cs ≡ true → length (drop (length (unit_of cs).chars) cs) < length cs
    go [] c ds e h = absurd (let z : ◌≡◌ {A = ℕ} 0 1 = cc in omega arith)
    go (b ∷ bs) c ds e h =
        let (t, f) = unit_first b bs in
        let u = (unit_of (b ∷ bs)).chars in
        let k = unit_splits (b ∷ bs) h in
        omega (arith, ap length k, length-append u (drop (length u) (b ∷ bs)), ap length f)

front_by : (n : ℕ) (cs : Text) (b : Bool) → stands cs ≡ b → length cs ≤ n → ((ds : Text) → length ds < length cs → Front ds) → Front cs
front_by n cs false e h f = ([], cs, whole_none cs, e)
front_by n cs true e h f =
    let u = (unit_of cs).chars in
    let ds = drop (length u) cs in
    let (t, rest, w, z) = f ds (unit_shorter cs e) in
    (u ++ t, rest, whole_join cs u ds t rest (whole_unit cs ds e (unit_splits cs e)) w, z)

front : (n : ℕ) (cs : Text) → length cs ≤ n → Front cs
front zero cs h = front_by zero cs (stands cs) refl h (λ ds k. absurd (omega arith))
front (suc n) cs h = front_by (suc n) cs (stands cs) refl h (λ ds k. front n ds (omega arith))

pub front_whole : (cs rest : Text) → cs ≡ take (units_ahead cs) cs ++ rest → Whole cs (take (units_ahead cs) cs) rest × (length (take (units_ahead cs) cs) ≡ units_ahead cs)
front_whole cs rest e =
    let (t, r, w, z) = front (length cs) cs (omega arith) in
    let n = whole_all cs t r w z in
    let k : take (units_ahead cs) cs ≡ t = rw n (ap (take (length t)) w.split ∙ take-append_seam t r) in
    let same : r ≡ rest = append_cancel_left t r rest (sym w.split ∙ (e ∙ ap (λ (l : Text). l ++ rest) k)) in
    (rw (k, ← same) w, rw k (sym n))

-- ── What is held back is empty where nothing was written ──

some_bytes : (m : Text) → length (encode m) ≡ 0 → is_empty m ≡ true
unfolding is_empty bytes
some_bytes [] e = refl
some_bytes (c ∷ m) e = absurd (omega (arith, encode_length (c ∷ m), width_bounds c))

no_bytes : (m : Text) → (length (encode m) ≡ 0 → ⊥) → is_empty m ≡ false
unfolding is_empty encode
no_bytes [] n = absurd (n refl)
no_bytes (c ∷ m) n = refl

-- Nothing was written.
put_empty : (old new : List ℕ) (at r : ℕ) (vs : List ℕ) → Put old new at vs r → r ≡ at → new ≡ old
put_empty old new at r [] w e = w.written
put_empty old new at r (v ∷ vs) w e = absurd (omega (arith, w.place))

not_first : (a b : Bool) → (a && not b) ≡ true → b ≡ false
not_first true false e = refl
not_first true true e = absurd (false≢true e)
not_first false b e = absurd (false≢true e)

-- ── Answers ──

pub literal_span : (start end : Position) (from : ℕ) (r : Run) (next : Cursor) (o : Bool) (ne : ℕ) (z : Span) → z ≡ span start end
    → piece.Token (record { token = record { kind = StringLiteral; span = z; offset = from; length = r.texts - from }; next = next; ran_out = o; texts = r.texts; errors = ne })
    ≡ literal_piece start end from r next o ne
literal_span start end from r next o ne z e = rw e

pub piece_by : (s : List ℕ) (p start : Position) (first : Bool) (texts texts' : List ℕ) (ut : ℕ) (errors errors' : List ℕ) (ue : ℕ) (x y : Piece) → x ≡ y
    → PieceAt s p start first texts texts' ut errors errors' ue y → PieceAt s p start first texts texts' ut errors errors' ue x
piece_by s p start first texts texts' ut errors errors' ue x y e h =
    subst (λ (z : Piece). PieceAt s p start first texts texts' ut errors errors' ue z) (sym e) h

-- ── The step, by what stands behind the units ──

module _ (s : List ℕ) (p start : Position) (first : Bool) (texts texts' : List ℕ) (ut : ℕ) (errors noted : List ℕ) (ue : ℕ) (r : Run)
    (y : RunAt s p texts texts' ut errors noted ue r) where
  abbrev cs : Text
  cs = chars_at s p.offset

  abbrev m : Text
  m = run_made s p

  abbrev es : List TokenizeError
  es = run_errors s p

  abbrev behind : Text
  behind = chars_at s r.at.offset

  run_whole : Whole cs (run_chars s p) behind
  run_whole = (front_whole cs behind y.reach.chars).0

  run_size : length (run_chars s p) ≡ units_ahead cs
  run_size = (front_whole cs behind y.reach.chars).1

  pub run_forth : p.offset ≤ r.at.offset
  run_forth = omega (arith, y.small)

  pub nothing_held : r.texts ≡ ut → is_empty m ≡ true
  nothing_held e = some_bytes m (omega (arith, y.made.place))

  pub something_held : (r.texts ≡ ut → ⊥) → is_empty m ≡ false
  something_held n = no_bytes m (λ e. n (omega (arith, y.made.place)))

  -- At a closing quote: whether there is something to give.
  pub first_held : first ≡ true → (is_empty m && not first) ≡ false
  first_held e = rw e (first_gives m)

  pub later_empty : first ≡ false → r.texts ≡ ut → (is_empty m && not first) ≡ true
  later_empty e n = rw (e, nothing_held n)

  pub later_held : (r.texts ≡ ut → ⊥) → (is_empty m && not first) ≡ false
  later_held n = rw (something_held n)

  -- A literal with errors `fs` behind those of the units.
  gives : (end : Position) (next : Cursor) (o : Bool) (fs : List TokenizeError) (errors' : List ℕ) (ne : ℕ)
      → Put noted errors' r.errors (error_bytes fs) ne → length (error_bytes fs) ≤ credit next → Within s (position next) → r.at.offset ≤ (position next).offset
      → held (not first) start p [] cs ≡ and_then (literal start end m ∷ []) (es ++ fs) o (left next (chars_at s (position next).offset))
      → PieceAt s p start first texts texts' ut errors errors' ue (literal_piece start end ut r next o ne)
  gives end next o fs errors' ne w k v h e =
      let b = errors_append es fs in
      record {
        text = m;
        recorded = es ++ fs;
        same = e;
        kind_made = string_made;
        offset = refl;
        size = omega (arith, y.made.place);
        made = y.made;
        noted = rw b (put_then errors noted errors' ue r.errors ne (error_bytes es) (error_bytes fs) y.noted w);
        within = v;
        forth = omega (arith, y.small);
        small = omega (arith, y.small, y.made.place);
        few = omega (arith, y.few, y.noted.place, w.place);
      }

  -- A law of the units in front, said of the run.
  as_run : (F : Position → Text → List TokenizeError → Lexed)
      → held (not first) start p [] cs ≡ F (advances p (run_chars s p)) (units_made (length (run_chars s p)) cs) (units_errors (length (run_chars s p)) p cs)
      → held (not first) start p [] cs ≡ F r.at m es
  as_run F e =
      let k = length (run_chars s p) in
      e
      ∙ (ap (λ (q : Position). F q (units_made k cs) (units_errors k p cs)) (sym y.reach.moved)
      ∙ ap (λ (n : ℕ). F r.at (units_made n cs) (units_errors n p cs)) run_size)

  whole_before : (rest : Text) → behind ≡ rest → Whole cs (run_chars s p) rest
  whole_before rest e = subst (λ (l : Text). Whole cs (run_chars s p) l) e run_whole

  module _ (errors' : List ℕ) (ne : ℕ) where
    -- The end of the text.
    pub at_end : behind ≡ [] → Put noted errors' r.errors (error_bytes (unclosed false UnterminatedString r.at r.at)) ne
        → PieceAt s p start first texts texts' ut errors errors' ue (literal_piece start r.at ut r (Outside r.at) true ne)
    unfolding unclosed
    at_end c w =
        let F : Position → Text → Text → List TokenizeError → Lexed =
        λ q l m es. and_then (literal start q m ∷ []) (es ++ (error_at UnterminatedString q q ∷ [])) true (left (Outside q) l) in
        gives r.at (Outside r.at) true (error_at UnterminatedString r.at r.at ∷ []) errors' ne w
        (error_few (error_at UnterminatedString r.at r.at)) y.reach.within (omega arith)
        (as_run (λ q. F q []) (piece_end (not first) start p cs (run_chars s p) (whole_before [] c)) ∙ ap (λ (l : Text). F r.at l m es) (sym c))

    -- A line feed.
    pub at_feed : (rest : Text) → behind ≡ LF ∷ rest → Put noted errors' r.errors (error_bytes (unclosed false LineFeedInString start r.at)) ne
        → PieceAt s p start first texts texts' ut errors errors' ue (literal_piece start r.at ut r (Outside r.at) false ne)
    unfolding unclosed
    at_feed rest c w =
        let F : Position → Text → Text → List TokenizeError → Lexed =
        λ q l m es. and_then (literal start q m ∷ []) (es ++ (error_at LineFeedInString start q ∷ [])) false (left (Outside q) l) in
        gives r.at (Outside r.at) false (error_at LineFeedInString start r.at ∷ []) errors' ne w
        (error_few (error_at LineFeedInString start r.at)) y.reach.within (omega arith)
        (as_run (λ q. F q (LF ∷ rest)) (piece_feed (not first) start p cs (run_chars s p) rest (whole_before (LF ∷ rest) c)) ∙ ap (λ (l : Text). F r.at l m es) (sym c))

  -- No error behind those of the units.
  put_units : Put noted noted r.errors (error_bytes []) r.errors
  put_units = put_no noted r.errors

  no_few : (n : ℕ) → length (error_bytes []) ≤ n
  unfolding error_bytes
  no_few n = omega arith

  -- The closing quote, before `q`.
  module _ (q : Position) (k : Reach s r.at (34 ∷ []) q) where
    quote_moved : q ≡ advance r.at 34
    unfolding advances
    quote_moved = k.moved

    quote_forth : r.at.offset < q.offset
    quote_forth = reach_forth s r.at q 34 [] k

    whole_quote : Whole cs (run_chars s p) (34 ∷ chars_at s q.offset)
    whole_quote = whole_before (34 ∷ chars_at s q.offset) k.chars

    pub at_quote : (is_empty m && not first) ≡ false
        → PieceAt s p start first texts texts' ut errors noted ue (literal_piece start q ut r (Outside q) false r.errors)
    at_quote e =
        let h = quote_forth in
        let F : Position → Text → List TokenizeError → Lexed =
        λ z m es. and_then (literal start z m ∷ []) es false (left (Outside z) (chars_at s q.offset)) in
        let e' = subst (λ (n : ℕ). (is_empty (units_made n cs) && not first) ≡ false) (sym run_size) e in
        gives q (Outside q) false [] noted r.errors put_units (no_few 29) k.within (omega arith)
        (as_run (λ z. F (advance z 34)) (piece_quote (not first) start p cs (run_chars s p) (chars_at s q.offset) whole_quote e')
        ∙ (ap (λ (z : Position). F z m es) (sym quote_moved) ∙ ap (λ (l : List TokenizeError). F q m l) (sym (append-nil es))))

    pub is_over : (is_empty m && not first) ≡ true → r.texts ≡ ut → PieceAt s p start first texts texts' ut errors noted ue (piece.Over q r.errors)
    is_over e n =
        let h = quote_forth in
        let F : Position → Text → List TokenizeError → Lexed = λ z m es. and_then [] es false (left (Outside z) (chars_at s q.offset)) in
        let e' = subst (λ (n : ℕ). (is_empty (units_made n cs) && not first) ≡ true) (sym run_size) e in
        record {
          recorded = es;
          same =
              as_run (λ z. F (advance z 34)) (string_over (not first) start p cs (run_chars s p) (chars_at s q.offset) whole_quote e')
              ∙ ap (λ (z : Position). F z m es) (sym quote_moved);
          later = not_first (is_empty m) first e;
          kept = put_empty texts texts' ut r.texts (encode m) y.made n;
          noted = y.noted;
          within = k.within;
          forth = omega (arith, y.small);
          few = omega (arith, y.few, y.noted.place);
        }

  -- An interpolation: a dollar sign that opens one, before `q`.
  module _ (c : ℕ) (q : Position) (k : Reach s r.at (c ∷ []) q) (a : c ≡ LF → ⊥) (b : c ≡ 34 → ⊥) where
    dollar : (c ≡ 36) × (next is_interp_start (chars_at s q.offset) ≡ true)
    dollar = stops_dollar c (chars_at s q.offset) (ap stands (sym k.chars) ∙ y.stops) a b

    dollar_chars : behind ≡ 36 ∷ chars_at s q.offset
    dollar_chars = k.chars ∙ ap (λ (d : ℕ). d ∷ chars_at s q.offset) dollar.0

    pub dollar_stands : next (exactly 36) behind ≡ true
    unfolding next
    dollar_stands = rw dollar_chars

    behind_dollar : q.offset ≡ r.at.offset + 1
    unfolding bytes width
    behind_dollar = reach_offset s r.at q (c ∷ []) k ∙ rw dollar.0

    pub at_dollar : is_empty m ≡ false
        → PieceAt s p start first texts texts' ut errors noted ue (literal_piece start r.at ut r (InString start r.at) false r.errors)
    at_dollar e =
        let rest : Text = 36 ∷ chars_at s q.offset in
        let F : Text → Position → Text → List TokenizeError → Lexed =
        λ l z m es. and_then (literal start z m ∷ []) es false (left (InString start z) l) in
        let e' = subst (λ (n : ℕ). is_empty (units_made n cs) ≡ false) (sym run_size) e in
        gives r.at (InString start r.at) false [] noted r.errors put_units (no_few 0) y.reach.within (omega arith)
        (as_run (F rest) (piece_dollar (not first) start p cs (run_chars s p) (chars_at s q.offset) (whole_before rest dollar_chars) dollar.1 e')
        ∙ (ap (λ (l : Text). F l r.at m es) (sym dollar_chars) ∙ ap (λ (l : List TokenizeError). F behind r.at m l) (sym (append-nil es))))

    module _ (z : Given) (texts'' errors' : List ℕ) (x : InterpolationAt s r.at start texts' texts'' ut noted errors' r.errors z) where
      abbrev i : Interpolation
      i = interpolation_at s r.at

      abbrev e : Position
      e = position z.next

      dollar_is : behind ≡ 36 ∷ chars_at s (r.at.offset + 1)
      dollar_is = dollar_chars ∙ ap (λ (n : ℕ). 36 ∷ chars_at s n) behind_dollar

      interp_opens : next is_interp_start (chars_at s (r.at.offset + 1)) ≡ true
      interp_opens = subst (λ (n : ℕ). next is_interp_start (chars_at s n) ≡ true) behind_dollar dollar.1

      interp_same : is_empty m ≡ true → held (not first) start p [] cs
          ≡ and_then (token_of z.token i.text ∷ []) (es ++ interpolation_errors e i) z.ran_out (left z.next (chars_at s e.offset))
      interp_same h =
          let h' = subst (λ (n : ℕ). is_empty (units_made n cs) ≡ true) (sym run_size) h in
          let rest = chars_at s e.offset in
          let F : Position → Lexed = λ v. and_then (interpolation start v i ∷ []) (es ++ interpolation_errors v i) i.open_end (left (InString start v) rest) in
          let G : Token → Bool → Cursor → Lexed = λ t o c. and_then (t ∷ []) (es ++ interpolation_errors e i) o (left c rest) in
          let t : interpolation start e i ≡ token_of z.token i.text = rw (x.kind, x.span) in
          as_run (λ v m es. and_then (interpolation start (advances v i.chars) i ∷ []) (es ++ interpolation_errors (advances v i.chars) i) i.open_end (left (InString start (advances v i.chars)) rest))
          (piece_interp (not first) start p cs (run_chars s p) (chars_at s (r.at.offset + 1)) rest (whole_before (36 ∷ chars_at s (r.at.offset + 1)) dollar_is) interp_opens h' (sym dollar_is ∙ x.reach.chars))
          ∙ (ap F (sym x.reach.moved)
          ∙ (ap (λ (u : Token). G u i.open_end (InString start e)) t
          ∙ (ap (λ (o : Bool). G (token_of z.token i.text) o (InString start e)) (sym x.ran_out) ∙ ap (λ (c : Cursor). G (token_of z.token i.text) z.ran_out c) (sym x.next))))

      pub at_interp : is_empty m ≡ true → r.texts ≡ ut → PieceAt s p start first texts texts'' ut errors errors' ue (piece.Token z)
      at_interp h n =
          let fs = interpolation_errors e i in
          let b = errors_append es fs in
          let o = reach_offset s r.at e i.chars x.reach in
          let (t, f) = interp_first (chars_at s (r.at.offset + 1)) in
          let g = reach_forth s r.at e 36 t (subst (λ (l : Text). Reach s r.at l e) f x.reach) in
          record {
            text = i.text;
            recorded = es ++ fs;
            same = interp_same h;
            kind_made = rw x.kind interp_made;
            offset = x.offset;
            size = x.size;
            made = subst (λ (v : List ℕ). Put v texts'' ut (encode i.text) z.texts) (put_empty texts texts' ut r.texts (encode m) y.made n) x.made;
            noted = rw b (put_then errors noted errors' ue r.errors z.errors (error_bytes es) (error_bytes fs) y.noted x.noted);
            within = x.reach.within;
            forth = omega (arith, y.small);
            small = omega (arith, y.small, x.made.place, text_size (chars_at s (r.at.offset + 1)));
            few = omega (arith, y.few, y.noted.place, x.noted.place, interp_few e i);
          }
