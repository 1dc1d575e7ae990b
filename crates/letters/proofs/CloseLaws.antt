-- Laws of a whole character literal, at positions of a text. Assumes nothing.
use Rattle.std.specs.Prelude.{if◌then◌else◌}
use mathlib.Core.Path.{◌≡◌, refl, sym, ◌∙◌, ap, subst}
use mathlib.Core.Bool.{Bool, true, false}
use mathlib.Core.List.{List, [], ◌∷◌, ◌++◌, append-nil}
use Prim.Native.Nat.{ℕ, ◌+◌, ◌*◌, ◌-◌, ◌≤◌}
use lib.ListN.{length}
use native.Mathlib.Omega.{arith}
use Rattle.characters.specs.Utf8.{chars_at, encode}
use Rattle.spans.specs.declared.Position.{Position}
use Rattle.rules.specs.Text.{Text, text}
use Rattle.rules.specs.Scan.{next}
use Rattle.rules.specs.Tables.{CharLiteral, UnterminatedCharacter}
use Rattle.rules.specs.Tokens.{TokenizeError}
use Rattle.rules.specs.Segment.{Fault, fault, Segment}
use Rattle.rules.specs.Characters.{char_token, close_char, parse_char}
use Rattle.rules.specs.Lexer.{segment, advance, errors_of}
use Rattle.cursor.specs.Cursor.{error_at}
use Rattle.records.specs.Layout.{error_bytes}
use Rattle.records.proofs.Filling.{errors_append}
use Rattle.bridge.specs.Bridge.{Within, Reach, onward, exactly}
use Rattle.bridge.proofs.Bytes.{starts_one}
use Rattle.bridge.proofs.Reaches.{reach_join, one_on, advance_flat}
use Rattle.output.specs.Writing.{Put}
use Rattle.output.proofs.Buffers.{put_none, put_then}
use Rattle.multiline.specs.declared.Made.{Made}
use Rattle.walks.specs.Errors.{unclosed}
use Rattle.walks.specs.Segments.{segment_at, errors_at, OneToken}
use Rattle.walks.proofs.Enclosed.{reach_offset}
use Rattle.walks.proofs.Errors.{unclosed_size}
use Rattle.walks.proofs.Whole.{one_token_whole}
use Rattle.string_units.specs.declared.Unit as code
use Rattle.string_units.specs.Units.{made_bytes, mistakes, UnitAt}
use Rattle.string_runs.proofs.RunLaws.{mistakes_few}
use Rattle.letters.specs.Letters.{letter_of, runs_out, closed, ClosedAt, CharacterAt}
use Rattle.letters.proofs.CharLaws.{quote_parse, faults_of, letter_parse, ran_out_parse, letter_errors, errors_then, end_error, close_yes, close_no}

-- The opening quote stands at `p`, before `q`.
module _ (s : List ℕ) (p q : Position) (w : Within s p) (d : next (exactly 39) (chars_at s p.offset) ≡ true) (x : q ≡ onward p 1) where
  pub quote_on : Reach s p (39 ∷ []) q
  quote_on = subst (λ (z : Position). Reach s p (39 ∷ []) z) (sym x) (one_on s p 39 (omega arith) (omega arith) w d)

  quote_moved : q ≡ advance p 39
  quote_moved = x ∙ sym (advance_flat p 39 (omega arith) (omega arith))

  quote_forth : q.offset ≡ p.offset + 1
  quote_forth = ap (λ (z : Position). z.offset) x

  abbrev cs : Text
  cs = chars_at s q.offset

  segment_is : segment_at s p ≡ parse_char cs
  segment_is = ap segment quote_on.chars ∙ quote_parse cs

  -- A segment that is the token of the characters `c` and the text `t`, from `p` to `e`.
  module _ (c t : Text) (fs : List Fault) (o : Bool) (e : Position) (g : segment_at s p ≡ char_token (39 ∷ c) t fs o) (r : Reach s p (39 ∷ c) e) where
    one : OneToken s p CharLiteral t e e
    one = one_token_whole s p e (char_token (39 ∷ c) t fs o) CharLiteral t 39 c g refl refl r refl

    errors_are : errors_at s p ≡ errors_of p (char_token (39 ∷ c) t fs o) fs
    errors_are = ap (λ (h : Segment). errors_of p h h.faults) g

    open_is : (segment_at s p).open_end ≡ o
    open_is = ap (λ (h : Segment). h.open_end) g

    pub character_at : (texts texts' : List ℕ) (ut mt : ℕ) (errors errors' : List ℕ) (ue me : ℕ) → Put texts texts' ut (encode t) mt
        → Put errors errors' ue (error_bytes (errors_of p (char_token (39 ∷ c) t fs o) fs)) me
        → mt ≤ ut + 3 * (e.offset - p.offset) → me ≤ ue + 29 * (e.offset - p.offset)
        → CharacterAt s p texts texts' ut errors errors' ue (record { at = e; texts = mt; errors = me; ran_out = o })
    character_at texts texts' ut mt errors errors' ue me a b h k =
        record { text = t; one = one; made = a; written = rw errors_are b; open_end = open_is; small = h; few = k }

  -- The text ran out.
  pub unfinished : (e : Position) (texts : List ℕ) (ut : ℕ) (errors errors' : List ℕ) (ue me : ℕ)
      → (runs_out cs ≡ true) × Reach s q cs e × (chars_at s e.offset ≡ [])
      → Put errors errors' ue (error_bytes (unclosed false UnterminatedCharacter e e)) me
      → CharacterAt s p texts texts ut errors errors' ue (record { at = e; texts = ut; errors = me; ran_out = true })
  unfolding unclosed encode
  unfinished e texts ut errors errors' ue me y z =
      let f = fault UnterminatedCharacter (length (39 ∷ cs)) (length (39 ∷ cs)) ∷ [] in
      let g = char_token (39 ∷ cs) [] f true in
      let r = reach_join s p q e (39 ∷ []) cs quote_on y.1 in
      let o = reach_offset s p e (39 ∷ cs) r in
      let l = unclosed_size false UnterminatedCharacter e e in
      let h = quote_forth in
      let n = reach_offset s q e cs y.1 in
      character_at cs [] f true e (segment_is ∙ ran_out_parse cs y.0) r texts texts ut ut errors errors' ue me (put_none texts ut)
      (rw (end_error p e g (length (39 ∷ cs)) refl r.moved) z) (omega arith) (omega (arith, z.place))

  -- A letter, and the closing quote or its error.
  module _ (u : code.Unit) (y : (runs_out cs ≡ false) × UnitAt s q (letter_of cs) u) (texts texts' : List ℕ) (ut mt : ℕ) (errors noted : List ℕ) (ue ne : ℕ)
      (a : Put texts texts' ut (made_bytes s q.offset u.next.offset u.made) mt) (b : Put errors noted ue (error_bytes (mistakes q u.mistake)) ne) where
    abbrev c : Text
    c = (letter_of cs).chars

    abbrev t : Text
    t = (letter_of cs).made

    letter_on : Reach s p (39 ∷ c) u.next
    letter_on = reach_join s p q u.next (39 ∷ []) c quote_on y.1.reach

    parse_is : segment_at s p ≡ close_char (39 ∷ c) t (faults_of cs) (chars_at s u.next.offset)
    parse_is = segment_is ∙ letter_parse cs (chars_at s u.next.offset) y.0 y.1.reach.chars

    made_put : Put texts texts' ut (encode t) mt
    made_put = rw y.1.made a

    pub letter_small : mt ≤ ut + (u.next.offset - q.offset)
    letter_small = omega (arith, made_put.place, y.1.small)

    pub letter_few : ne ≤ ue + 29
    letter_few = omega (arith, b.place, mistakes_few q u.mistake)

    -- The errors of the letter, in a segment that takes its characters and `l`.
    faults_are : (l : Text) (g : Segment) → g.chars ≡ 39 ∷ (c ++ l) → errors_of p g (faults_of cs) ≡ mistakes q u.mistake
    faults_are l g z = letter_errors p q cs g l quote_moved z ∙ y.1.errors

    -- The errors of the segment, and those that are written.
    both_put : (f : Bool) (errors' : List ℕ) (me : ℕ) (es : List TokenizeError) → es ≡ mistakes q u.mistake ++ unclosed f UnterminatedCharacter u.next u.next
        → Put noted errors' ne (error_bytes (unclosed f UnterminatedCharacter u.next u.next)) me → Put errors errors' ue (error_bytes es) me
    both_put f errors' me es e z =
        let m = mistakes q u.mistake in
        let v = unclosed f UnterminatedCharacter u.next u.next in
        rw (e, errors_append m v) (put_then errors noted errors' ue ne me (error_bytes m) (error_bytes v) b z)

    both_few : (f : Bool) (errors' : List ℕ) (me : ℕ) → Put noted errors' ne (error_bytes (unclosed f UnterminatedCharacter u.next u.next)) me → me ≤ ue + 58
    both_few f errors' me z = omega (arith, z.place, unclosed_size f UnterminatedCharacter u.next u.next, letter_few)

    module _ (errors' : List ℕ) (me : ℕ) where
      closes : next (exactly 39) (chars_at s u.next.offset) ≡ true → Put noted errors' ne (error_bytes (unclosed true UnterminatedCharacter u.next u.next)) me
          → CharacterAt s p texts texts' ut errors errors' ue (record { at = onward u.next 1; texts = mt; errors = me; ran_out = false })
      unfolding unclosed
      closes h z =
          let g = char_token (39 ∷ (c ++ text "'")) t (faults_of cs) false in
          let v = y.1.reach.within in
          let r = reach_join s p u.next (onward u.next 1) (39 ∷ c) (text "'") letter_on (one_on s u.next 39 (omega arith) (omega arith) v h) in
          character_at (c ++ text "'") t (faults_of cs) false (onward u.next 1)
          (parse_is ∙ close_yes (39 ∷ c) t (chars_at s u.next.offset) (faults_of cs) (starts_one 39 (chars_at s u.next.offset) ∙ h))
          r texts texts' ut mt errors errors' ue me made_put
          (both_put true errors' me (errors_of p g (faults_of cs)) (faults_are (text "'") g refl ∙ sym (append-nil (mistakes q u.mistake))) z)
          (omega (arith, letter_small, quote_forth, y.1.forth)) (omega (arith, both_few true errors' me z, quote_forth, y.1.forth))

      misses : next (exactly 39) (chars_at s u.next.offset) ≡ false → Put noted errors' ne (error_bytes (unclosed false UnterminatedCharacter u.next u.next)) me
          → CharacterAt s p texts texts' ut errors errors' ue (record { at = u.next; texts = mt; errors = me; ran_out = false })
      unfolding unclosed
      misses h z =
          let f = fault UnterminatedCharacter (length (39 ∷ c)) (length (39 ∷ c)) ∷ [] in
          let g = char_token (39 ∷ c) t (faults_of cs ++ f) false in
          let l : List TokenizeError = error_at UnterminatedCharacter u.next u.next ∷ [] in
          character_at c t (faults_of cs ++ f) false u.next
          (parse_is ∙ close_no (39 ∷ c) t (chars_at s u.next.offset) (faults_of cs) (starts_one 39 (chars_at s u.next.offset) ∙ h))
          letter_on texts texts' ut mt errors errors' ue me made_put
          (both_put false errors' me (errors_of p g (faults_of cs ++ f))
          (errors_then p g (faults_of cs) f
          ∙ (ap (λ (m : List TokenizeError). m ++ errors_of p g f) (faults_are [] g (ap (λ (k : Text). 39 ∷ k) (sym (append-nil c))))
          ∙ ap (λ (m : List TokenizeError). mistakes q u.mistake ++ m) (end_error p u.next g (length (39 ∷ c)) refl letter_on.moved))) z)
          (omega (arith, letter_small, quote_forth, y.1.forth)) (omega (arith, both_few false errors' me z, quote_forth, y.1.forth))

    made_is : (r : Made) (e : Position) → r.at ≡ e → r.texts ≡ mt → r.ran_out ≡ false → r ≡ record { at = e; texts = mt; errors = r.errors; ran_out = false }
    made_is r e a b c = λ i. record { at = a i; texts = b i; errors = r.errors; ran_out = c i }

    pub finished : (errors' : List ℕ) (r : Made) → ClosedAt s u.next mt noted errors' ne r → CharacterAt s p texts texts' ut errors errors' ue r
    unfolding closed
    finished errors' r k = go (next (exactly 39) (chars_at s u.next.offset)) refl k.at k.written
      where
        go : (f : Bool) → next (exactly 39) (chars_at s u.next.offset) ≡ f → r.at ≡ (if f then onward u.next 1 else u.next)
            → Put noted errors' ne (error_bytes (unclosed f UnterminatedCharacter u.next u.next)) r.errors
            → CharacterAt s p texts texts' ut errors errors' ue r
        go true h e z =
            subst (λ (m : Made). CharacterAt s p texts texts' ut errors errors' ue m) (sym (made_is r (onward u.next 1) e k.texts k.ran_out)) (closes errors' r.errors h z)
        go false h e z =
            subst (λ (m : Made). CharacterAt s p texts texts' ut errors errors' ue m) (sym (made_is r u.next e k.texts k.ran_out)) (misses errors' r.errors h z)

-- ── The closing quote ──

pub closed_at : (s : List ℕ) (p e : Position) (ut : ℕ) (errors errors' : List ℕ) (ue me : ℕ) (f : Bool) → f ≡ next (exactly 39) (chars_at s p.offset)
    → e ≡ (if f then onward p 1 else p) → Put errors errors' ue (error_bytes (unclosed f UnterminatedCharacter p p)) me
    → ClosedAt s p ut errors errors' ue (record { at = e; texts = ut; errors = me; ran_out = false })
unfolding closed
closed_at s p e ut errors errors' ue me f h x z =
    record { at = x ∙ ap (λ (b : Bool). if b then onward p 1 else p) h; texts = refl; written = subst (λ (b : Bool). Put errors errors' ue (error_bytes (unclosed b UnterminatedCharacter p p)) me) h z; ran_out = refl }
