-- Laws of interpolations: where one ends, and the bytes of its text. Assumes nothing.
use Rattle.std.specs.Prelude.{if◌then◌else◌}
use mathlib.Core.Path.{◌≡◌, refl, sym, ◌∙◌, ap, subst}
use mathlib.Core.Bool.{Bool, true, false, not}
use mathlib.Core.List.{List, [], ◌∷◌, ◌++◌, append-nil}
use Prim.Native.Nat.{ℕ, suc, ◌+◌, ◌-◌, ◌≤◌}
use lib.ListN.{length, drop}
use lib.Seq.{slice}
use native.Mathlib.Omega.{arith}
use Rattle.characters.specs.Utf8.{chars_at, bytes, width, encode, encode_char}
use Rattle.characters.proofs.Choice.{if_all}
use Rattle.characters.proofs.Texts.{encode_append, encode_length, bytes_append}
use Rattle.spans.specs.declared.Position.{Position}
use Rattle.spans.specs.declared.Span.{Span}
use Rattle.rules.specs.Text.{Text, text, is_ident_part}
use Rattle.rules.specs.Scan.{next, starts_with, run, Upto, up_to, closing}
use Rattle.rules.specs.Tables.{StringInterpStart, UnterminatedInterpolation}
use Rattle.rules.specs.Tokens.{TokenizeError}
use Rattle.rules.specs.Lexer.{span}
use Rattle.cursor.specs.declared.Cursor.TheVariants.{InString}
use Rattle.cursor.specs.Strings.{Interpolation, braces, named, interpolation_of}
use Rattle.cursor.specs.Cursor.{error_at, interpolation_errors}
use Rattle.bridge.specs.Bridge.{Within, Reach, onward, exactly, Cut}
use Rattle.bridge.proofs.Tests.{low_is}
use Rattle.bridge.proofs.Bytes.{starts_one, starts_at}
use Rattle.bridge.proofs.Reaches.{reach_join, one_on, onward_suc, flat_reach, cut_reach}
use Rattle.output.specs.Writing.{Put}
use Rattle.output.proofs.Buffers.{put_then}
use Rattle.walks.specs.declared.Closing.{Closing}
use Rattle.records.specs.Layout.{error_bytes}
use Rattle.walks.specs.Errors.{unclosed}
use Rattle.walks.specs.Walks.{UpToAt, brace, behind_mark}
use Rattle.walks.proofs.Enclosed.{reach_offset, reach_slice, same_upto, enclosed}
use Rattle.string_runs.proofs.RunLaws.{error_few}
use Rattle.interpolations.specs.Interpolations.{interpolation_at, PastAt, missing, InterpolationAt}

module _ (s : List ℕ) (p : Position) (w : Within s p) (d : next (exactly 36) (chars_at s p.offset) ≡ true) where
  -- ── Where it ends ──

  behind_dollar : chars_at s p.offset ≡ 36 ∷ chars_at s (p.offset + 1)
  behind_dollar = (one_on s p 36 (omega arith) (omega arith) w d).chars

  -- `${` stands at `p`.
  pub opening_brace : next (exactly 123) (chars_at s (p.offset + 1)) ≡ true → Reach s p (text "${") (onward p 2)
  unfolding starts_with
  opening_brace e =
      flat_reach s p (text "${") (omega arith) w
      (starts_at s p.offset 36 (123 ∷ []) (low_is 1 36 (omega arith) (omega arith)) ∙ rw (d, starts_one 123 (chars_at s (p.offset + 1))) e)

  past_is : (i : Interpolation) (e : Position) (f : Bool) → interpolation_at s p ≡ i → Reach s p i.chars e → i.open_end ≡ not f
      → PastAt s p (record { at = e; found = f })
  past_is i e f x r o =
      record {
        reach = subst (λ (j : Interpolation). Reach s p j.chars e) (sym x) r;
        same = ap (λ (j : Interpolation). j.open_end) x ∙ o;
      }

  pub brace_past : (q e : Position) (c : Closing) → next (exactly 123) (chars_at s (p.offset + 1)) ≡ true → q ≡ onward p 2 → UpToAt brace s q c
      → e ≡ behind_mark c 1 → PastAt s p (record { at = e; found = c.found })
  unfolding interpolation_of braces
  brace_past q e c b x u y =
      let r : Reach s p (text "${") q = subst (λ (z : Position). Reach s p (text "${") z) (sym x) (opening_brace b) in
      let n = enclosed (text "${") brace s p q c r u (omega arith) in
      let v = up_to brace (drop 2 (chars_at s p.offset)) in
      let o : v ≡ up_to brace (drop 1 (chars_at s (p.offset + 1))) = ap (λ (cs : Text). up_to brace (drop 2 cs)) behind_dollar in
      let k : starts_with (text "{") (chars_at s (p.offset + 1)) ≡ true = starts_one 123 (chars_at s (p.offset + 1)) ∙ b in
      past_is (braces v) e c.found (rw (k, o))
      (subst (λ (z : Position). Reach s p (braces v).chars z) (sym y) n)
      (ap (λ (z : Upto). z.open_end) (same_upto (text "${") brace s p q c r u) ∙ u.same)

  pub name_past : (to : ℕ) (e : Position) → next (exactly 123) (chars_at s (p.offset + 1)) ≡ false
      → Cut s (p.offset + 1) (run is_ident_part (chars_at s (p.offset + 1))) to → e ≡ onward p (to - p.offset) → PastAt s p (record { at = e; found = true })
  unfolding interpolation_of named
  name_past to e b k x =
      let name = run is_ident_part (chars_at s (p.offset + 1)) in
      let f = k.forth in
      let n = to - (p.offset + 1) in
      let z : p.offset + 1 + n ≡ to = omega arith in
      let m : to - p.offset ≡ suc n = omega arith in
      let j : starts_with (text "{") (chars_at s (p.offset + 1)) ≡ false = starts_one 123 (chars_at s (p.offset + 1)) ∙ b in
      let r = one_on s p 36 (omega arith) (omega arith) w d in
      let c = cut_reach s (onward p 1) name n r.within (rw z k) in
      past_is (named name.taken) e true (rw j)
      (rw (x, m, ← (onward_suc p n)) (reach_join s p (onward p 1) (onward (onward p 1) n) (36 ∷ []) name.taken r c)) refl

-- ── Its text and its errors ──

text_is : (cs : Text) → (interpolation_of cs).text ≡ (interpolation_of cs).chars ++ (if (interpolation_of cs).open_end then text "}" else [])
unfolding interpolation_of braces named
text_is cs =
    if_all (λ (i : Interpolation). i.text ≡ i.chars ++ (if i.open_end then text "}" else [])) (starts_with (text "{") cs)
    (λ _. go (up_to (text "}") (drop 1 cs))) (λ _. sym (append-nil (36 ∷ (run is_ident_part cs).taken)))
  where
    by : (a : Text) (b : Bool) → a ++ text "}" ≡ a ++ (if b then [] else text "}") ++ (if b then text "}" else [])
    by a true = rw (append-nil a)
    by a false = sym (append-nil (a ++ text "}"))

    go : (u : Upto) → text "${" ++ (u.before ++ text "}") ≡ text "${" ++ (u.before ++ closing (text "}") u) ++ (if u.open_end then text "}" else [])
    go u = ap (λ (t : Text). 36 ∷ 123 ∷ t) (by u.before u.open_end)

pub interp_first : (cs : Text) → (t : Text) × ((interpolation_of cs).chars ≡ 36 ∷ t)
unfolding interpolation_of braces named
interp_first cs = if_all (λ (i : Interpolation). (t : Text) × (i.chars ≡ 36 ∷ t)) (starts_with (text "{") cs) (λ _. (_, refl)) (λ _. (_, refl))

brace_size : (b : Bool) → bytes (if b then text "}" else []) ≤ 1
unfolding bytes width
brace_size true = omega arith
brace_size false = omega arith

-- It has one byte more than the characters at most.
pub text_size : (cs : Text) → length (encode (interpolation_of cs).text) ≤ bytes (interpolation_of cs).chars + 1
text_size cs =
    let i = interpolation_of cs in
    let t : Text = if i.open_end then text "}" else [] in
    rw (encode_length i.text, text_is cs, bytes_append i.chars t) (omega (arith, brace_size i.open_end))

pub interp_few : (q : Position) (i : Interpolation) → length (error_bytes (interpolation_errors q i)) ≤ 29
unfolding interpolation_errors error_bytes
interp_few q i =
    if_all (λ (es : List TokenizeError). length (error_bytes es) ≤ 29) i.open_end (λ _. error_few (error_at UnterminatedInterpolation q q)) (λ _. omega arith)

missing_is : (f o : Bool) → o ≡ not f → encode (if o then text "}" else []) ≡ missing f
unfolding missing encode encode_char
missing_is true o e = rw e
missing_is false o e = rw e

module _ (s : List ℕ) (p : Position) (w : Within s p) (c : Closing) (x : PastAt s p c) where
  pub text_bytes_lem : encode (interpolation_at s p).text ≡ slice p.offset c.at.offset s ++ missing c.found
  text_bytes_lem =
      let i = interpolation_at s p in
      let t : Text = if i.open_end then text "}" else [] in
      ap encode (text_is (chars_at s (p.offset + 1)))
      ∙ (encode_append i.chars t
      ∙ rw (reach_slice s p c.at i.chars x.reach w.inside, missing_is c.found i.open_end x.same))

  pub past_errors : interpolation_errors c.at (interpolation_at s p) ≡ unclosed c.found UnterminatedInterpolation c.at c.at
  unfolding interpolation_errors unclosed
  past_errors = ap (λ (b : Bool). if b then error_at UnterminatedInterpolation c.at c.at ∷ [] else []) x.same ∙ go c.found
    where
      go : (f : Bool) → ◌≡◌ {A = List TokenizeError}
          (if not f then error_at UnterminatedInterpolation c.at c.at ∷ [] else [])
          (if f then [] else error_at UnterminatedInterpolation c.at c.at ∷ [])
      go true = refl
      go false = refl

  pub past_forth : p.offset ≤ c.at.offset
  past_forth = omega (arith, reach_offset s p c.at (interpolation_at s p).chars x.reach)

  -- The text as it is written: the part of the script, and the brace that it lacks.
  pub past_put : (a b t : List ℕ) (ut m r : ℕ) → Put a b ut (slice p.offset c.at.offset s) m → Put b t m (missing c.found) r
      → Put a t ut (encode (interpolation_at s p).text) r
  past_put a b t ut m r y z =
      rw text_bytes_lem (put_then a b t ut m r (slice p.offset c.at.offset s) (missing c.found) y z)

  pub interpolation_at_lem : (start : Position) (texts t texts' : List ℕ) (ut m e : ℕ) (errors errors' : List ℕ) (ue n : ℕ) (z : Span) → z ≡ span start c.at
      → Put texts t ut (slice p.offset c.at.offset s) m → Put t texts' m (missing c.found) e
      → Put errors errors' ue (error_bytes (unclosed c.found UnterminatedInterpolation c.at c.at)) n
      → InterpolationAt s p start texts texts' ut errors errors' ue
      (record {
        token = record { kind = StringInterpStart; span = z; offset = ut; length = e - ut };
        next = InString start c.at;
        ran_out = not c.found;
        texts = e;
        errors = n;
      })
  interpolation_at_lem start texts t texts' ut m e errors errors' ue n z f a b d =
      let y = past_put texts t texts' ut m e a b in
      record {
        next = refl;
        reach = x.reach;
        kind = refl;
        span = f;
        offset = refl;
        size = omega (arith, y.place);
        ran_out = sym x.same;
        made = y;
        noted = rw past_errors d;
      }
