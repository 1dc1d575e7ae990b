-- Tokens that go over lines, by what the walks found. Assumes nothing.
use Rattle.std.specs.Prelude.{if◌then◌else◌}
use mathlib.Core.Path.{◌≡◌, refl, sym, ◌∙◌, ap, subst}
use mathlib.Core.Bool.{true, not, false≢true}
use mathlib.Core.List.{List, [], ◌∷◌, ◌++◌}
use mathlib.Core.Option.{some}
use Prim.Native.Nat.{ℕ, ◌+◌, ◌≤◌, ◌<◌}
use lib.ListN.{length, take, drop}
use lib.Seq.{slice, length-slice}
use native.Mathlib.Omega.{arith}
use Rattle.characters.specs.Utf8.{Scalars, chars_at, chars_of, encode, encode_char, bytes, width}
use Rattle.characters.proofs.Characters.{chars_at_lem}
use Rattle.characters.proofs.Texts.{chars_scalar, scalars_split, encode_chars}
use Rattle.spans.specs.declared.Position.{Position}
use Rattle.spans.specs.declared.Span.{Span}
use Rattle.rules.specs.Text.{Char, Text, text}
use Rattle.rules.specs.Scan.{next, starts_with, run, Upto, up_to, closing}
use Rattle.rules.specs.Tables.{StringLiteral, StringInterpStart, DocComment, Error, UnterminatedRawString, UnterminatedDocComment, UnexpectedCharacter}
use Rattle.rules.specs.Tokens.{TokenizeError}
use Rattle.rules.specs.Segment.{piece, Fault, fault, Segment, with_token}
use Rattle.rules.specs.Comments.{not_lf}
use Rattle.rules.specs.Docs.{trim, clean_doc, line_doc, block_doc}
use Rattle.rules.specs.Strings.{parse_raw_string}
use Rattle.rules.specs.Marks.{unexpected}
use Rattle.rules.specs.Lexer.{dollar_braces, segment, advances, span, errors_of}
use Rattle.bridge.specs.Bridge.{Within, Reach, Flat}
use Rattle.records.specs.declared.errors.ErrorKind.TheVariants as kind
use Rattle.records.specs.Errors.{error_of}
use Rattle.output.specs.Writing.{Put}
use Rattle.records.specs.Layout.{error_record_of, error_bytes}
use Rattle.walks.specs.Errors.{unclosed}
use Rattle.walks.specs.Walks.{star_slash, quotes, brace, feed, UpToAt, behind_mark}
use Rattle.walks.specs.Segments.{segment_at, errors_at, OneToken}
use Rattle.walks.specs.Openings.{opens_doc}
use Rattle.multiline.specs.Tokens.{dollar_brace, slashes, raw_text, begins_nothing, RawAt, BracesAt, DocLineAt, DocBlockAt, UnexpectedAt}
use Rattle.walks.specs.declared.Closing.{Closing}
use Rattle.walks.proofs.Walks.{run_up_to}
use Rattle.walks.proofs.Openings.{raw_segment, braces_segment, line_doc_segment, block_doc_segment}
use Rattle.walks.proofs.Errors.{put_one, errors_size_lem, unclosed_size, put_few}
use Rattle.walks.proofs.Enclosed.{reach_offset, reach_on, reach_slice, upto_on, same_upto, enclosed, line_reach}
use Rattle.walks.proofs.Whole.{reach_forth, whole_error, one_token_whole}
use Rattle.multiline.proofs.BeginsNothing.{unexpected_segment}

-- ── The part of the text that was passed ──

module _ (s : List ℕ) (p q : Position) (t : Text) (w : Within s p) (r : Reach s p t q) where
  pub reach_chars : chars_of (slice p.offset q.offset s) ≡ t
  reach_chars =
      let c = subst Scalars (sym (chars_at_lem s p.offset) ∙ r.chars) (chars_scalar (drop p.offset s)) in
      ap chars_of (reach_slice s p q t r w.inside) ∙ encode_chars t (scalars_split t (chars_at s q.offset) c).0

-- ── A token from its opening mark to its closing mark ──

abbrev token_from : Text → Text → ℕ → Text → List Fault → Upto → Segment
token_from begin mark k t fs u =
    let cs = begin ++ (u.before ++ closing mark u) in
    with_token cs (piece k t (length cs)) fs u.open_end

-- The error of what is not closed.
abbrev faults_from : Text → Text → ℕ → Upto → List Fault
faults_from begin mark k u = if u.open_end then fault k 0 (length (begin ++ (u.before ++ closing mark u))) ∷ [] else []

module _ (b : Char) (bs mark : Text) (s : List ℕ) (p q : Position) (c : Closing) (r : Reach s p (b ∷ bs) q) (x : UpToAt mark s q c) where
  abbrev inner : Upto
  inner = up_to mark (drop (length (b ∷ bs)) (chars_at s p.offset))

  -- The part of the text between the marks.
  pub inner_part : slice q.offset c.at.offset s ≡ encode inner.before
  inner_part =
      reach_slice s q c.at (up_to mark (chars_at s q.offset)).before x.reach r.within.inside
      ∙ ap (λ (v : Upto). encode v.before) (sym (same_upto (b ∷ bs) mark s p q c r x))

  pub inner_chars : chars_of (slice q.offset c.at.offset s) ≡ inner.before
  inner_chars =
      reach_chars s q c.at (up_to mark (chars_at s q.offset)).before r.within x.reach
      ∙ ap (λ (v : Upto). v.before) (sym (same_upto (b ∷ bs) mark s p q c r x))

  inner_open : inner.open_end ≡ not c.found
  inner_open = ap (λ (v : Upto). v.open_end) (same_upto (b ∷ bs) mark s p q c r x) ∙ x.same

  module _ (f : Flat mark) where
    abbrev end : Position
    end = behind_mark c (length mark)

    whole_reach : Reach s p ((b ∷ bs) ++ (inner.before ++ closing mark inner)) end
    whole_reach = enclosed (b ∷ bs) mark s p q c r x f

    pub from_on : (c.at.offset ≤ end.offset) × (p.offset < end.offset)
    from_on = (
      (upto_on mark s q c x f end refl).0,
      reach_forth s p end b _ whole_reach,
    )

    module _ (k : ℕ) (t : Text) (fs : List Fault) (e : segment_at s p ≡ token_from (b ∷ bs) mark k t fs inner) where
      pub from_one : OneToken s p k t end end
      from_one = one_token_whole s p end (token_from (b ∷ bs) mark k t fs inner) k t b _ e refl refl whole_reach refl

      pub from_open : (segment_at s p).open_end ≡ not c.found
      from_open = ap (λ (h : Segment). h.open_end) e ∙ inner_open

    pub from_errors : (k : ℕ) (t : Text) (n : ℕ) → segment_at s p ≡ token_from (b ∷ bs) mark k t (faults_from (b ∷ bs) mark n inner) inner
        → errors_at s p ≡ unclosed c.found n p end
    from_errors k t n e =
        let g = token_from (b ∷ bs) mark k t (faults_from (b ∷ bs) mark n inner) inner in
        ap (λ (h : Segment). errors_of p h h.faults) e ∙ whole_error p end g whole_reach.moved n c.found inner_open refl

-- ── The tokens ──

-- The text of braces, in bytes.
pub braces_bytes : encode (text "${...}") ≡ 36 ∷ 123 ∷ 46 ∷ 46 ∷ 46 ∷ 125 ∷ []
unfolding encode encode_char
braces_bytes = refl

braces_two : bytes dollar_brace ≡ 2
unfolding bytes width
braces_two = refl

three_slashes : bytes slashes ≡ 3
unfolding bytes width
three_slashes = refl

three_block : bytes (text "/**") ≡ 3
unfolding bytes width
three_block = refl

reach_three : (s : List ℕ) (p q : Position) (t : Text) → Reach s p t q → bytes t ≡ 3 → q.offset ≡ p.offset + 3
reach_three s p q t r e = omega (arith, reach_offset s p q t r)

-- Each is handed the position `q` behind its opening mark, what the walk from there found, and the position `end` behind the whole.
module _ (s : List ℕ) (p q : Position) (c : Closing) where
  pub raw_at : (end : Position) (texts texts' : List ℕ) (ut nt : ℕ) (errors errors' : List ℕ) (ue ne : ℕ)
      → starts_with quotes (chars_at s p.offset) ≡ true → Reach s p quotes q → UpToAt quotes s q c → end ≡ behind_mark c 3
      → Put texts texts' ut (slice q.offset c.at.offset s) nt
      → Put errors errors' ue (error_bytes (unclosed c.found UnterminatedRawString p end)) ne
      → RawAt s p texts texts' ut errors errors' ue (record { at = end; texts = nt; errors = ne; ran_out = not c.found })
  unfolding parse_raw_string
  raw_at end texts texts' ut nt errors errors' ue ne e r x f m n =
      let g = raw_segment (chars_at s p.offset) e in
      let es = subst (λ (d : Position). errors_at s p ≡ unclosed c.found UnterminatedRawString p d) (sym f)
      (from_errors _ _ quotes s p q c r x (omega arith) _ _ _ g) in
      let z = subst (λ (d : Position). (c.at.offset ≤ d.offset) × (p.offset < d.offset)) (sym f) (from_on _ _ quotes s p q c r x (omega arith)) in
      let y = reach_forth s p q _ _ r in
      record {
        one = subst (λ (d : Position). OneToken s p StringLiteral (raw_text (chars_at s p.offset)) d d) (sym f)
            (from_one _ _ quotes s p q c r x (omega arith) _ _ _ g);
        made = subst (λ (bs : List ℕ). Put texts texts' ut bs nt) (inner_part _ _ quotes s p q c r x) m;
        written = subst (λ (l : List TokenizeError). Put errors errors' ue (error_bytes l) ne) (sym es) n;
        open_end = from_open _ _ quotes s p q c r x (omega arith) _ _ _ g;
        small = omega (arith, m.place, length-slice q.offset c.at.offset s x.reach.within.inside, z.0, y);
        few = put_few errors errors' ue ne _ p.offset end.offset n (unclosed_size c.found UnterminatedRawString p end) z.1;
      }

  pub braces_at : (end : Position) (texts texts' : List ℕ) (ut nt : ℕ) → starts_with dollar_brace (chars_at s p.offset) ≡ true
      → Reach s p dollar_brace q → UpToAt brace s q c → end ≡ behind_mark c 1
      → Put texts texts' ut (36 ∷ 123 ∷ 46 ∷ 46 ∷ 46 ∷ 125 ∷ []) nt
      → BracesAt s p texts texts' ut (record { at = end; texts = nt; ran_out = not c.found })
  unfolding dollar_braces errors_of
  braces_at end texts texts' ut nt e r x f m =
      let g = braces_segment (chars_at s p.offset) e in
      let o = reach_on s q c.at _ x.reach in
      let z = subst (λ (d : Position). c.at.offset ≤ d.offset) (sym f) (from_on _ _ brace s p q c r x (omega arith)).0 in
      record {
        one = subst (λ (d : Position). OneToken s p StringInterpStart (text "${...}") d d) (sym f)
            (from_one _ _ brace s p q c r x (omega arith) _ _ _ g);
        made = subst (λ (bs : List ℕ). Put texts texts' ut bs nt) (sym braces_bytes) m;
        errors = ap (λ (h : Segment). errors_of p h h.faults) g;
        open_end = from_open _ _ brace s p q c r x (omega arith) _ _ _ g;
        small = omega (arith, m.place, reach_offset s p q dollar_brace r, braces_two, o, z);
      }

  pub doc_block_at : (end : Position) (errors errors' : List ℕ) (ue ne : ℕ) → opens_doc (chars_at s p.offset) ≡ true
      → Reach s p (text "/**") q → UpToAt star_slash s q c → end ≡ behind_mark c 2
      → Put errors errors' ue (error_bytes (unclosed c.found UnterminatedDocComment p end)) ne
      → DocBlockAt s p errors errors' ue
      (record { from = q.offset; to = c.at.offset; at = end; errors = ne; ran_out = not c.found })
  unfolding block_doc
  doc_block_at end errors errors' ue ne e r x f n =
      let g = block_doc_segment (chars_at s p.offset) e in
      let t = inner_chars _ _ star_slash s p q c r x in
      let es = subst (λ (d : Position). errors_at s p ≡ unclosed c.found UnterminatedDocComment p d) (sym f)
      (from_errors _ _ star_slash s p q c r x (omega arith) _ _ _ g) in
      let z = subst (λ (d : Position). p.offset < d.offset) (sym f) (from_on _ _ star_slash s p q c r x (omega arith)).1 in
      record {
        begins = reach_three s p q _ r three_block;
        part = inner_part _ _ star_slash s p q c r x;
        one = subst (λ (d : Position). OneToken s p DocComment (clean_doc (chars_of (slice q.offset c.at.offset s))) d d) (sym f)
            (subst (λ (l : Text). OneToken s p DocComment (clean_doc l) (behind_mark c 2) (behind_mark c 2)) (sym t)
            (from_one _ _ star_slash s p q c r x (omega arith) _ _ _ g));
        written = subst (λ (l : List TokenizeError). Put errors errors' ue (error_bytes l) ne) (sym es) n;
        open_end = from_open _ _ star_slash s p q c r x (omega arith) _ _ _ g;
        forth = reach_on s q c.at _ x.reach;
        inside = x.reach.within.inside;
        few = put_few errors errors' ue ne _ p.offset end.offset n (unclosed_size c.found UnterminatedDocComment p end) z;
      }

  pub doc_line_at : starts_with slashes (chars_at s p.offset) ≡ true → Reach s p slashes q → UpToAt feed s q c
      → DocLineAt s p (record { from = q.offset; to = c.at.offset; at = c.at })
  unfolding line_doc errors_of
  doc_line_at e r x =
      let g = line_doc_segment (chars_at s p.offset) e in
      let rest = drop 3 (chars_at s p.offset) in
      let t : chars_of (slice q.offset c.at.offset s) ≡ (run not_lf rest).taken =
      inner_chars _ _ feed s p q c r x ∙ sym (run_up_to rest) in
      record {
        begins = reach_three s p q _ r three_slashes;
        part = inner_part _ _ feed s p q c r x ∙ ap encode (sym (run_up_to rest));
        one = subst (λ (l : Text). OneToken s p DocComment (trim l) c.at c.at) (sym t)
            (one_token_whole s p c.at (line_doc rest) DocComment (trim (run not_lf rest).taken) _ _ g refl refl
            (line_reach slashes s p q c r x) refl);
        errors = ap (λ (h : Segment). errors_of p h h.faults) g;
        open_end = ap (λ (h : Segment). h.open_end) g;
        forth = reach_on s q c.at _ x.reach;
        inside = x.reach.within.inside;
      }

-- ── A character that begins nothing ──

module _ (s : List ℕ) (p : Position) (w : Within s p) (u : next begins_nothing (chars_at s p.offset) ≡ true) where
  module _ (c : Char) (q : Position) (r : Reach s p (c ∷ []) q) where
    unexpected_is : segment_at s p ≡ unexpected c
    unfolding next
    unexpected_is =
        ap segment r.chars ∙ unexpected_segment c (chars_at s q.offset) (ap (next begins_nothing) (sym r.chars) ∙ u)

    first_is : take 1 (chars_at s p.offset) ≡ c ∷ []
    first_is = ap (take 1) r.chars

    unexpected_errors : errors_at s p ≡ record { kind = UnexpectedCharacter; span = span p q; char = some c } ∷ []
    unfolding unexpected errors_of advances
    unexpected_errors =
        ap (λ (h : Segment). errors_of p h h.faults) unexpected_is
        ∙ ap (λ (e : Position). record { kind = UnexpectedCharacter; span = span p e; char = some c } ∷ []) (sym r.moved)

    pub unexpected_at : (errors errors' : List ℕ) (ue ne : ℕ) (sp : Span) → sp ≡ span p q
        → Put errors errors' ue (error_record_of (error_of (record { kind = kind.UnexpectedCharacter c; span = sp }))) ne
        → UnexpectedAt s p errors errors' ue (record { at = q; errors = ne })
    unfolding unexpected
    unexpected_at errors errors' ue ne sp f n =
        let e : TokenizeError = record { kind = UnexpectedCharacter; span = span p q; char = some c } in
        let x = put_one errors errors' ue ne e (subst (λ (y : Span). Put errors errors' ue (error_record_of (error_of (record { kind = kind.UnexpectedCharacter c; span = y }))) ne) f n) in
        record {
          one = subst (λ (t : Text). OneToken s p Error t q q) (sym first_is)
              (one_token_whole s p q (unexpected c) Error (c ∷ []) c [] unexpected_is refl refl r refl);
          part = reach_slice s p q (c ∷ []) r w.inside ∙ ap encode (sym first_is);
          written = subst (λ (es : List TokenizeError). Put errors errors' ue (error_bytes es) ne) (sym unexpected_errors) x;
          open_end = ap (λ (h : Segment). h.open_end) unexpected_is;
          few = put_few errors errors' ue ne _ p.offset q.offset x (errors_size_lem (e ∷ [])) (reach_forth s p q c [] r);
        }

  pub unexpected_none : {A : Type 0} → chars_at s p.offset ≡ [] → A
  unfolding next
  unexpected_none e = absurd (false≢true (ap (next begins_nothing) (sym e) ∙ u))
