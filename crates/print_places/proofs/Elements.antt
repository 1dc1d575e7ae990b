-- A token of one segment, printed: what is to be written from its place on. Assumes nothing.
use mathlib.Core.Path.{◌≡◌, refl, sym, ap, ◌∙◌}
use mathlib.Core.Bool.{Bool, true, false, not}
use mathlib.Core.List.{List, [], ◌∷◌, ◌++◌, append_assoc}
use Prim.Native.Nat.{ℕ, ◌+◌, ◌*◌, ◌-◌, ◌≤◌, ◌<◌}
use native.Mathlib.Omega.{arith}
use Rattle.characters.specs.Choice.{◌is◌}
use Rattle.characters.specs.Utf8.{chars_at, encode}
use Rattle.spans.specs.declared.Position.{Position}
use Rattle.rules.specs.Text.{Text, text}
use Rattle.rules.specs.Tokens.{Token}
use Rattle.rules.specs.Tables.{EOF}
use Rattle.rules.specs.Lexer.{span}
use Rattle.cursor.specs.Cursor.{left, Yields}
use Rattle.cursor.specs.declared.Cursor.TheVariants.{Outside}
use Rattle.bridge.specs.Bridge.{placed, Within}
use Rattle.output.specs.Writing.{Put}
use Rattle.walks.specs.Segments.{segment_at, errors_at, OneToken}
use Rattle.walks.proofs.Segments.{one_token_yields}
use Rattle.prints.specs.Elements.{Word, lone}
use Rattle.prints.specs.Print.{is_doc}
use Rattle.prints.specs.Records.{quote_at}
use Rattle.prints.specs.Writing.{State, outside, due_space, begun, one_piece, name_behind}
use Rattle.print_places.specs.declared.Written.{Written}
use Rattle.print_places.specs.Places.{lexed_from, still_of, still, no_errors, right_from, GROWTH, Emits}
use Rattle.print_places.proofs.Lineless.{still_lineless, right_lineless}
use Rattle.print_places.proofs.Tokens.{alone_still, quoted_still, right_none, close_still, span_from}

-- ── Places ──

pub within_placed : (s : List ℕ) (p : Position) → Within s p → Within s (placed p.offset)
within_placed s p w =
    record { size = w.size; inside = w.inside; valid = w.valid; lines = omega arith; columns = omega arith }

-- From a position reached, as from its place.
pub still_placed : (s : List ℕ) (state : State) (p : Position) → still_of s state (left (Outside p) (chars_at s p.offset)) ≡ still s state p.offset
still_placed s state p = still_lineless s state p (placed p.offset) (chars_at s p.offset) refl

pub right_placed : (s : List ℕ) (p : Position) → no_errors (left (Outside p) (chars_at s p.offset)).errors ≡ right_from s p.offset
right_placed s p = right_lineless p (placed p.offset) (chars_at s p.offset)

-- ── A token without errors ──

-- The word that is printed for a token of this kind and text.
abbrev pub word_of : ℕ → Text → Word
word_of kind t = record { kind = kind; text = encode t }

module _ (s : List ℕ) (from kind : ℕ) (t : Text) (end q : Position) (o : Bool)
    (y : Yields (Outside (placed from)) (chars_at s from) (record { kind = kind; text = t; span = span (placed from) end } ∷ []) [] o (Outside q) (chars_at s q.offset))
    (late : from ≤ end.offset) (k : (kind is EOF) ≡ false) where
  token : Token
  token = record { kind = kind; text = t; span = span (placed from) end }

  starts : (span (placed from) end).start ≡ from
  starts = span_from (placed from) end late

  pub yields_right : right_from s from ≡ right_from s q.offset
  unfolding token
  yields_right = right_none s token [] o (lexed_from s from) (left (Outside q) (chars_at s q.offset)) y refl ∙ right_placed s q

  -- It stands alone.
  pub yields_alone : quote_at s from ≡ false → (due : Bool)
      → still s (outside due) from ≡ due_space due ++ (begun false (word_of kind t) ++ still s (outside (not (is_doc (lone (word_of kind t))))) q.offset)
  unfolding token
  yields_alone n due =
      alone_still s token [] o (lexed_from s from) (left (Outside q) (chars_at s q.offset)) y due k (ap (quote_at s) starts ∙ n)
      ∙ ap (λ (x : List ℕ). due_space due ++ (begun false (word_of kind t) ++ x)) (still_placed s (outside (not (is_doc (lone (word_of kind t))))) q)

  -- It is a string of its own.
  pub yields_quoted : quote_at s from ≡ true → from < q.offset → (due : Bool)
      → still s (outside due) from ≡ due_space due ++ ((text "\"" ++ (one_piece false (word_of kind t) ++ text "\"")) ++ still s (outside true) q.offset)
  unfolding token
  yields_quoted n h due =
      let w = word_of kind t in
      let r = left (Outside q) (chars_at s q.offset) in
      let S = still s (outside true) q.offset in
      quoted_still s token [] o (lexed_from s from) r y due k (ap (quote_at s) starts ∙ n)
      ∙ ap (λ (x : List ℕ). due_space due ++ (text "\"" ++ x))
      (ap (λ (x : List ℕ). one_piece false w ++ x)
      (close_still s (span (placed from) end).start (name_behind w) q (chars_at s q.offset) (omega (arith, starts)) ∙ ap (λ (x : List ℕ). text "\"" ++ x) (still_placed s (outside true) q))
      ∙ sym (append_assoc (one_piece false w) (text "\"") S))

-- One token that is a segment.
module _ (s : List ℕ) (from kind : ℕ) (t : Text) (q : Position) (one : OneToken s (placed from) kind t q q)
    (right : errors_at s (placed from) ≡ []) (k : (kind is EOF) ≡ false) (out out' : List ℕ) (at : ℕ) (w : Written) (e : w.at ≡ q.offset)
    (few : w.out ≤ at + GROWTH * (q.offset - from)) where
  abbrev yields : Yields (Outside (placed from)) (chars_at s from) (record { kind = kind; text = t; span = span (placed from) q } ∷ []) []
      (segment_at s (placed from)).open_end (Outside q) (chars_at s q.offset)
  yields = rw right at (one_token_yields s (placed from) q kind t q one)

  late : from ≤ q.offset
  late = omega (arith, one.forth)

  pub alone_emits : quote_at s from ≡ false → Put out out' at (begun false (word_of kind t)) w.out
      → Emits (not (is_doc (lone (word_of kind t)))) s from out out' at w
  alone_emits n p =
      rw e
      (record {
        bytes = begun false (word_of kind t);
        put = p;
        same = yields_alone s from kind t q q (segment_at s (placed from)).open_end yields late k n;
        right = yields_right s from kind t q q (segment_at s (placed from)).open_end yields late k;
        within = within_placed s q one.reach.within;
        forth = one.forth;
        small = few;
      })

  pub quoted_emits : quote_at s from ≡ true → Put out out' at (text "\"" ++ (one_piece false (word_of kind t) ++ text "\"")) w.out
      → Emits true s from out out' at w
  quoted_emits n p =
      rw e
      (record {
        bytes = text "\"" ++ (one_piece false (word_of kind t) ++ text "\"");
        put = p;
        same = yields_quoted s from kind t q q (segment_at s (placed from)).open_end yields late k n one.forth;
        right = yields_right s from kind t q q (segment_at s (placed from)).open_end yields late k;
        within = within_placed s q one.reach.within;
        forth = one.forth;
        small = few;
      })
