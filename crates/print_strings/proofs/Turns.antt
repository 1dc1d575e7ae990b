-- A turn of a string's print: the units from a position on, and then a closing quote, an interpolation, or an error. Assumes nothing.
use mathlib.Core.Path.{◌≡◌, refl, sym, ap, ◌∙◌, subst}
use mathlib.Core.Bool.{Bool, true, false, ◌&&◌, true≢false}
use mathlib.Core.List.{List, [], ◌∷◌, ◌++◌}
use Prim.Native.Nat.{ℕ, ◌+◌, ◌≤◌, ◌<◌}
use native.Mathlib.Omega.{arith}
use lib.ListN.{length, drop, take-append-drop}
use Rattle.characters.specs.Utf8.{chars_at, encode}
use Rattle.spans.specs.declared.Position.{Position}
use Rattle.rules.specs.Text.{Text, ch, text, LF, is_empty}
use Rattle.rules.specs.Scan.{next}
use Rattle.rules.specs.Strings.{is_interp_start}
use Rattle.rules.specs.Tables.{UnterminatedString, LineFeedInString}
use Rattle.rules.specs.Tokens.{TokenizeError}
use Rattle.rules.specs.Lexer.{advance, advances, Lexed}
use Rattle.cursor.specs.declared.Cursor.TheVariants.{Outside, InString}
use Rattle.cursor.specs.Strings.{Interpolation, units_made, units_errors, units_ahead, interpolation_of}
use Rattle.cursor.specs.Cursor.{and_then, held, left, literal as literalToken, interpolation, error_at, interpolation_errors}
use Rattle.cursor.proofs.Inside.{left_inside}
use Rattle.cursor.proofs.Units.{Whole}
use Rattle.cursor.proofs.Pieces.{piece_end, piece_feed, piece_quote, string_over, piece_dollar, piece_interp, held_interp}
use Rattle.bridge.specs.Bridge.{Reach}
use Rattle.walks.proofs.Enclosed.{reach_offset}
use Rattle.walks.proofs.Whole.{reach_forth}
use Rattle.string_runs.specs.Runs.{run_chars, run_made, run_errors}
use Rattle.interpolations.specs.Interpolations.{interpolation_at}
use Rattle.strings.proofs.PieceLaws.{front_whole}
use Rattle.prints.specs.Print.{literal, parting, is_name}
use Rattle.prints.specs.Writing.{outside, in_string, one_piece, name_behind}
use Rattle.print_places.specs.Places.{still, still_of, no_errors, right_from}
use Rattle.print_places.proofs.Tokens.{piece_still, right_none, none_still, none_right, wrong_some, close_still, span_from}
use Rattle.print_places.proofs.Elements.{still_placed, right_placed}

-- ── Pieces of a string ──

module _ (s : List ℕ) (start : Position) (nm : Bool) (es : List TokenizeError) (o : Bool) (l r : Lexed) where
  -- A literal.
  literal_still : (q : Position) (m : Text) → l ≡ and_then (literalToken start q m ∷ []) es o r → start.offset ≤ q.offset
      → still_of s (in_string start.offset nm) l ≡ literal nm (encode m) ++ still_of s (in_string start.offset false) r
  unfolding one_piece name_behind
  literal_still q m e h =
      subst (λ (n : ℕ). still_of s (in_string n nm) l ≡ literal nm (encode m) ++ still_of s (in_string n false) r) (span_from start q h)
      (piece_still s (literalToken start q m) es o l r e nm refl)

  -- An interpolation.
  interp_still : (q : Position) (i : Interpolation) → l ≡ and_then (interpolation start q i ∷ []) es o r → start.offset ≤ q.offset
      → still_of s (in_string start.offset nm) l
      ≡ (parting nm ++ encode i.text) ++ still_of s (in_string start.offset (is_name (encode i.text))) r
  unfolding one_piece name_behind
  interp_still q i e h =
      subst (λ (n : ℕ). still_of s (in_string n nm) l ≡ (parting nm ++ encode i.text) ++ still_of s (in_string n (is_name (encode i.text))) r)
      (span_from start q h) (piece_still s (interpolation start q i) es o l r e nm refl)

literal_none : (nm : Bool) (m : Text) → is_empty m ≡ true → literal nm (encode m) ≡ []
unfolding literal encode is_empty
literal_none nm [] e = refl
literal_none nm (c ∷ m) e = absurd (true≢false (sym e))

-- ── The units from a position on ──

module _ (s : List ℕ) (start c : Position) (x nm : Bool) (stop : Position) (reach : Reach s c (run_chars s c) stop) (late : start.offset ≤ c.offset) where
  abbrev cs : Text
  cs = chars_at s c.offset

  abbrev behind : Text
  behind = chars_at s stop.offset

  abbrev H : Lexed
  H = held x start c [] cs

  whole : (rest : Text) → behind ≡ rest → Whole cs (run_chars s c) rest
  whole rest e = subst (λ (l : Text). Whole cs (run_chars s c) l) e (front_whole cs behind reach.chars).0

  size : length (run_chars s c) ≡ units_ahead cs
  size = (front_whole cs behind reach.chars).1

  -- A law of the units in front, said of the run.
  as_run : (F : Position → Text → List TokenizeError → Lexed)
      → H ≡ F (advances c (run_chars s c)) (units_made (length (run_chars s c)) cs) (units_errors (length (run_chars s c)) c cs)
      → H ≡ F stop (run_made s c) (run_errors s c)
  as_run F e =
      let k = length (run_chars s c) in
      e
      ∙ (ap (λ (q : Position). F q (units_made k cs) (units_errors k c cs)) (sym reach.moved)
      ∙ ap (λ (n : ℕ). F stop (units_made n cs) (units_errors n c cs)) size)

  made_is : (b : Bool) (F : Text → Bool) → F (run_made s c) ≡ b → F (units_made (length (run_chars s c)) cs) ≡ b
  made_is b F e = subst (λ (n : ℕ). F (units_made n cs) ≡ b) (sym size) e

  forth : c.offset ≤ stop.offset
  forth = omega (arith, reach_offset s c stop (run_chars s c) reach)

  -- ── The closing quote ──

  module _ (q : Position) (k : Reach s stop (ch "\"" ∷ []) q) (none : run_errors s c ≡ []) where
    moved : advance stop (ch "\"") ≡ q
    unfolding advances
    moved = sym k.moved

    passed : start.offset < q.offset
    passed = omega (arith, forth, reach_forth s stop q (ch "\"") [] k)

    quote_given : (is_empty (run_made s c) && x) ≡ false
        → H ≡ and_then (literalToken start q (run_made s c) ∷ []) (run_errors s c) false (left (Outside q) (chars_at s q.offset))
    quote_given e =
        let F : Position → Text → List TokenizeError → Lexed = λ z m es. and_then (literalToken start z m ∷ []) es false (left (Outside z) (chars_at s q.offset)) in
        as_run (λ z. F (advance z (ch "\"")))
        (piece_quote x start c cs (run_chars s c) (chars_at s q.offset) (whole _ k.chars) (made_is false (λ m. is_empty m && x) e))
        ∙ ap (λ (z : Position). F z (run_made s c) (run_errors s c)) moved

    quote_over : (is_empty (run_made s c) && x) ≡ true → H ≡ and_then [] (run_errors s c) false (left (Outside q) (chars_at s q.offset))
    quote_over e =
        let F : Position → Text → List TokenizeError → Lexed = λ z m es. and_then [] es false (left (Outside z) (chars_at s q.offset)) in
        as_run (λ z. F (advance z (ch "\"")))
        (string_over x start c cs (run_chars s c) (chars_at s q.offset) (whole _ k.chars) (made_is true (λ m. is_empty m && x) e))
        ∙ ap (λ (z : Position). F z (run_made s c) (run_errors s c)) moved

    -- Behind the string.
    closed : (n : Bool) → still_of s (in_string start.offset n) (left (Outside q) (chars_at s q.offset)) ≡ text "\"" ++ still s (outside true) q.offset
    closed n =
        close_still s start.offset n q (chars_at s q.offset) passed ∙ ap (λ (l : List ℕ). text "\"" ++ l) (still_placed s (outside true) q)

    and_left : (a b : Bool) → (a && b) ≡ true → a ≡ true
    and_left true b e = refl
    and_left false b e = absurd (true≢false (sym e))

    pub quote_still : still_of s (in_string start.offset nm) H ≡ literal nm (encode (run_made s c)) ++ (text "\"" ++ still s (outside true) q.offset)
    quote_still = go (is_empty (run_made s c) && x) refl
      where
        go : (b : Bool) → (is_empty (run_made s c) && x) ≡ b
            → still_of s (in_string start.offset nm) H ≡ literal nm (encode (run_made s c)) ++ (text "\"" ++ still s (outside true) q.offset)
        go true e =
            none_still s (in_string start.offset nm) (run_errors s c) false H (left (Outside q) (chars_at s q.offset)) (quote_over e)
            ∙ (closed nm ∙ ap (λ (l : List ℕ). l ++ (text "\"" ++ still s (outside true) q.offset)) (sym (literal_none nm (run_made s c) (and_left (is_empty (run_made s c)) x e))))
        go false e =
            literal_still s start nm (run_errors s c) false H (left (Outside q) (chars_at s q.offset)) q (run_made s c) (quote_given e) (omega (arith, passed))
            ∙ ap (λ (l : List ℕ). literal nm (encode (run_made s c)) ++ l) (closed false)

    pub quote_right : no_errors H.errors ≡ right_from s q.offset
    quote_right = go (is_empty (run_made s c) && x) refl
      where
        go : (b : Bool) → (is_empty (run_made s c) && x) ≡ b → no_errors H.errors ≡ right_from s q.offset
        go true e = none_right (run_errors s c) false H (left (Outside q) (chars_at s q.offset)) (quote_over e) none ∙ right_placed s q
        go false e =
            right_none s (literalToken start q (run_made s c)) (run_errors s c) false H (left (Outside q) (chars_at s q.offset)) (quote_given e) none ∙ right_placed s q

  -- ── An interpolation ──

  module _ (rest : Text) (dollar : behind ≡ ch "$" ∷ rest) (opens : next is_interp_start rest ≡ true) (same : rest ≡ chars_at s (stop.offset + 1))
      (e : Position) (k : Reach s stop (interpolation_at s stop).chars e) where
    abbrev i : Interpolation
    i = interpolation_of rest

    is_at : interpolation_at s stop ≡ i
    is_at = ap interpolation_of (sym same)

    split : ch "$" ∷ rest ≡ i.chars ++ chars_at s e.offset
    split = sym dollar ∙ (k.chars ∙ ap (λ (z : Interpolation). z.chars ++ chars_at s e.offset) is_at)

    moved_on : e ≡ advances stop i.chars
    moved_on = k.moved ∙ ap (λ (z : Interpolation). advances stop z.chars) is_at

    late_end : start.offset ≤ e.offset
    late_end = omega (arith, forth, reach_offset s stop e (interpolation_at s stop).chars k)

    behind_it : Lexed
    behind_it = held true start e [] (chars_at s e.offset)

    -- Where nothing is held back.
    at_once : is_empty (run_made s c) ≡ true → H ≡ and_then (interpolation start e i ∷ []) (run_errors s c ++ interpolation_errors e i) i.open_end behind_it
    unfolding behind_it
    at_once h =
        as_run (λ v m es. and_then (interpolation start (advances v i.chars) i ∷ []) (es ++ interpolation_errors (advances v i.chars) i) i.open_end
        (left (InString start (advances v i.chars)) (chars_at s e.offset)))
        (piece_interp x start c cs (run_chars s c) rest (chars_at s e.offset) (whole _ dollar) opens (made_is true is_empty h) split)
        ∙ (ap (λ (v : Position). and_then (interpolation start v i ∷ []) (run_errors s c ++ interpolation_errors v i) i.open_end (left (InString start v) (chars_at s e.offset))) (sym moved_on)
        ∙ ap (and_then (interpolation start e i ∷ []) (run_errors s c ++ interpolation_errors e i) i.open_end) (left_inside start e (chars_at s e.offset)))

    -- Where a literal comes out first.
    abbrev mid : Lexed
    mid = held true start stop [] (ch "$" ∷ rest)

    first_literal : is_empty (run_made s c) ≡ false → H ≡ and_then (literalToken start stop (run_made s c) ∷ []) (run_errors s c) false mid
    first_literal h =
        as_run (λ v m es. and_then (literalToken start v m ∷ []) es false (left (InString start v) (ch "$" ∷ rest)))
        (piece_dollar x start c cs (run_chars s c) rest (whole _ dollar) opens (made_is false is_empty h))
        ∙ ap (and_then (literalToken start stop (run_made s c) ∷ []) (run_errors s c) false) (left_inside start stop (ch "$" ∷ rest))

    then_interp : mid ≡ and_then (interpolation start e i ∷ []) (interpolation_errors e i) i.open_end behind_it
    unfolding behind_it
    then_interp =
        held_interp true start stop rest (chars_at s e.offset) opens split
        ∙ (ap (λ (v : Position). and_then (interpolation start v i ∷ []) (interpolation_errors v i) i.open_end (left (InString start v) (chars_at s e.offset))) (sym moved_on)
        ∙ ap (and_then (interpolation start e i ∷ []) (interpolation_errors e i) i.open_end) (left_inside start e (chars_at s e.offset)))

    pub dollar_still : still_of s (in_string start.offset nm) H
        ≡ literal nm (encode (run_made s c))
        ++ ((parting (nm && is_empty (run_made s c)) ++ encode (interpolation_at s stop).text)
        ++ still_of s (in_string start.offset (is_name (encode (interpolation_at s stop).text))) (held true start e [] (chars_at s e.offset)))
    unfolding behind_it
    dollar_still = rw is_at (go (is_empty (run_made s c)) refl)
      where
        R : List ℕ
        R = still_of s (in_string start.offset (is_name (encode i.text))) behind_it

        and_none : (b : Bool) → (b && false) ≡ false
        and_none true = refl
        and_none false = refl

        and_all : (b : Bool) → (b && true) ≡ b
        and_all true = refl
        and_all false = refl

        go : (b : Bool) → is_empty (run_made s c) ≡ b
            → still_of s (in_string start.offset nm) H ≡ literal nm (encode (run_made s c)) ++ ((parting (nm && b) ++ encode i.text) ++ R)
        go true h =
            interp_still s start nm (run_errors s c ++ interpolation_errors e i) i.open_end H behind_it e i (at_once h) late_end
            ∙ (ap (λ (b : Bool). (parting b ++ encode i.text) ++ R) (sym (and_all nm))
            ∙ ap (λ (l : List ℕ). l ++ ((parting (nm && true) ++ encode i.text) ++ R)) (sym (literal_none nm (run_made s c) h)))
        go false h =
            literal_still s start nm (run_errors s c) false H mid stop (run_made s c) (first_literal h) (omega (arith, forth))
            ∙ ap (λ (l : List ℕ). literal nm (encode (run_made s c)) ++ l)
            (interp_still s start false (interpolation_errors e i) i.open_end mid behind_it e i then_interp late_end
            ∙ ap (λ (b : Bool). (parting b ++ encode i.text) ++ R) (sym (and_none nm)))

    no_interp_error : i.open_end ≡ false → interpolation_errors e i ≡ []
    unfolding interpolation_errors
    no_interp_error h = rw h

    some_interp_error : i.open_end ≡ true → no_errors (interpolation_errors e i) ≡ false
    unfolding interpolation_errors no_errors
    some_interp_error h = rw h

    pub dollar_right : run_errors s c ≡ [] → (interpolation_at s stop).open_end ≡ false
        → no_errors H.errors ≡ no_errors (held true start e [] (chars_at s e.offset)).errors
    unfolding behind_it
    dollar_right none shut = go (is_empty (run_made s c)) refl
      where
        fine : interpolation_errors e i ≡ []
        fine = no_interp_error (sym (ap (λ (z : Interpolation). z.open_end) is_at) ∙ shut)

        go : (b : Bool) → is_empty (run_made s c) ≡ b → no_errors H.errors ≡ no_errors behind_it.errors
        go true h = right_none s (interpolation start e i) (run_errors s c ++ interpolation_errors e i) i.open_end H behind_it (at_once h) (rw (none, fine))
        go false h =
            right_none s (literalToken start stop (run_made s c)) (run_errors s c) false H mid (first_literal h) none
            ∙ right_none s (interpolation start e i) (interpolation_errors e i) i.open_end mid behind_it then_interp fine

    pub dollar_wrong : run_errors s c ≡ [] → (interpolation_at s stop).open_end ≡ true → no_errors H.errors ≡ false
    unfolding behind_it
    dollar_wrong none shut = go (is_empty (run_made s c)) refl
      where
        bad : no_errors (interpolation_errors e i) ≡ false
        bad = some_interp_error (sym (ap (λ (z : Interpolation). z.open_end) is_at) ∙ shut)

        go : (b : Bool) → is_empty (run_made s c) ≡ b → no_errors H.errors ≡ false
        go true h = wrong_some (interpolation start e i ∷ []) (run_errors s c ++ interpolation_errors e i) i.open_end H behind_it (at_once h) (rw none bad)
        go false h =
            right_none s (literalToken start stop (run_made s c)) (run_errors s c) false H mid (first_literal h) none
            ∙ wrong_some (interpolation start e i ∷ []) (interpolation_errors e i) i.open_end mid behind_it then_interp bad

  -- ── An error ──

  -- The text or the line ends.
  pub end_wrong : run_errors s c ≡ [] → behind ≡ [] → no_errors H.errors ≡ false
  unfolding no_errors
  end_wrong none h =
      wrong_some (literalToken start stop (run_made s c) ∷ []) (run_errors s c ++ (error_at UnterminatedString stop stop ∷ [])) true H (left (Outside stop) [])
      (as_run (λ q m es. and_then (literalToken start q m ∷ []) (es ++ (error_at UnterminatedString q q ∷ [])) true (left (Outside q) []))
      (piece_end x start c cs (run_chars s c) (whole [] h))) (rw none)

  pub feed_wrong : run_errors s c ≡ [] → (rest : Text) → behind ≡ LF ∷ rest → no_errors H.errors ≡ false
  unfolding no_errors
  feed_wrong none rest h =
      wrong_some (literalToken start stop (run_made s c) ∷ []) (run_errors s c ++ (error_at LineFeedInString start stop ∷ [])) false H (left (Outside stop) (LF ∷ rest))
      (as_run (λ q m es. and_then (literalToken start q m ∷ []) (es ++ (error_at LineFeedInString start q ∷ [])) false (left (Outside q) (LF ∷ rest)))
      (piece_feed x start c cs (run_chars s c) rest (whole (LF ∷ rest) h))) (rw none)

-- An error of the units.
pub units_wrong : (s : List ℕ) (start c : Position) (x : Bool) → no_errors (run_errors s c) ≡ false → no_errors (held x start c [] (chars_at s c.offset)).errors ≡ false
units_wrong s start c x h =
    let cs = chars_at s c.offset in
    let rest = drop (units_ahead cs) cs in
    let (w, n) = front_whole cs rest (sym (take-append-drop (units_ahead cs) cs)) in
    wrong_some [] (units_errors (length (run_chars s c)) c cs) false (held x start c [] cs) _ (w.same x start c []) (rw n h)
