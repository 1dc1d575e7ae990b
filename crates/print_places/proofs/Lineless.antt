-- What is to be written does not depend on lines and columns. Assumes nothing.
use Rattle.std.specs.Prelude.{if◌then◌else◌}
use mathlib.Core.Path.{◌≡◌, refl, sym, ap, ap₂, ◌∙◌}
use mathlib.Core.Bool.{Bool, ◌||◌, not}
use mathlib.Core.List.{List, [], ◌∷◌, ◌++◌, map}
use Prim.Native.Nat.{ℕ}
use native.Mathlib.Omega.{arith}
use lib.ListN.{take}
use Rattle.characters.specs.Choice.{◌is◌}
use Rattle.spans.specs.declared.Position.{Position}
use Rattle.spans.specs.Span.{single}
use Rattle.rules.specs.Text.{Text}
use Rattle.rules.specs.Tokens.{Token, TokenizeError}
use Rattle.rules.specs.Segment.{Piece, Fault, Segment}
use Rattle.rules.specs.Lexer.{segments, after, span, place_in, tokens_of, errors_of, place, eof}
use Rattle.rules.specs.Script.{as_bytes}
use Rattle.rules.specs.Tables.{EOF}
use Rattle.rules.proofs.Placed.{span_plain, after_offset}
use Rattle.cursor.specs.Cursor.{left}
use Rattle.cursor.specs.declared.Cursor.TheVariants.{Outside}
use Rattle.prints.specs.Elements.{Word, lone, token_word, word_bytes}
use Rattle.prints.specs.Print.{is_doc}
use Rattle.prints.specs.Records.{quote_at}
use Rattle.prints.specs.Writing.{State, outside, in_string, closing_quote, is_due, is_named, continues_at, due_space, begun, one_piece, name_behind, write_tokens, token_text, state_behind}
use Rattle.print_places.specs.Places.{still_of, no_errors}

-- Tokens of the same kinds, texts and starts.
abbrev pub Alike : List Token → List Token → Type 0
Alike [] [] = Unit {0}
Alike [] (u ∷ us) = ⊥
Alike (t ∷ ts) [] = ⊥
Alike (t ∷ ts) (u ∷ us) = (token_word t ≡ token_word u) × (t.span.start ≡ u.span.start) × Alike ts us

alike_append : (ts us vs ws : List Token) → Alike ts us → Alike vs ws → Alike (ts ++ vs) (us ++ ws)
alike_append [] [] vs ws h k = k
alike_append [] (u ∷ us) vs ws h k = absurd h
alike_append (t ∷ ts) [] vs ws h k = absurd h
alike_append (t ∷ ts) (u ∷ us) vs ws (a, b, c) k = (a, b, alike_append ts us vs ws c k)

-- ── The tokens of segments ──

tokens_alike : (p p' : Position) (s : Segment) (xs : List Piece) → p.offset ≡ p'.offset → Alike (tokens_of p s xs) (tokens_of p' s xs)
unfolding tokens_of
tokens_alike p p' s [] e = tt
tokens_alike p p' s (x ∷ xs) e =
    let a : (span p (place_in p s x.end)).start ≡ p.offset = ap (λ y. y.start) (span_plain p (take x.end s.chars)) in
    let b : (span p' (place_in p' s x.end)).start ≡ p'.offset = ap (λ y. y.start) (span_plain p' (take x.end s.chars)) in
    (refl, a ∙ (e ∙ sym b), tokens_alike p p' s xs e)

after_alike : (p p' : Position) (s : Segment) → p.offset ≡ p'.offset → (after p s).offset ≡ (after p' s).offset
after_alike p p' s e = omega (arith, after_offset p s, after_offset p' s)

place_alike : (p p' : Position) (ss : List Segment) → p.offset ≡ p'.offset → Alike (place p ss).body (place p' ss).body
unfolding place
place_alike p p' [] e = tt
place_alike p p' (s ∷ ss) e =
    alike_append (tokens_of p s s.pieces) (tokens_of p' s s.pieces) _ _ (tokens_alike p p' s s.pieces e)
    (place_alike (after p s) (after p' s) ss (after_alike p p' s e))

stop_alike : (p p' : Position) (ss : List Segment) → p.offset ≡ p'.offset → (place p ss).stop.offset ≡ (place p' ss).stop.offset
unfolding place
stop_alike p p' [] e = e
stop_alike p p' (s ∷ ss) e = stop_alike (after p s) (after p' s) ss (after_alike p p' s e)

-- ── What is written for them ──

-- What is written for a word that starts at `n`, where `g` is what is written behind it.
for_word : (ℕ → Bool) → State → Word → ℕ → (State → List ℕ) → List ℕ
for_word q state w n g =
    if w.kind is EOF then closing_quote state
    else (if continues_at state n then one_piece (is_named state) w else closing_quote state ++ (due_space (is_due state) ++ begun (q n) w))
    ++ g (if continues_at state n || q n then in_string n (name_behind w) else outside (not (is_doc (lone w))))

write_first : (q : ℕ → Bool) (state : State) (t : Token) (ts : List Token)
    → write_tokens q state (t ∷ ts) ≡ for_word q state (token_word t) t.span.start (λ z. write_tokens q z ts)
unfolding write_tokens token_text state_behind for_word
write_first q state t ts = refl

behind_first : (q : ℕ → Bool) (state : State) (w : Word) (n : ℕ) (f g : State → List ℕ) → ((z : State) → f z ≡ g z) → for_word q state w n f ≡ for_word q state w n g
unfolding for_word
behind_first q state w n f g h = rw (h (if continues_at state n || q n then in_string n (name_behind w) else outside (not (is_doc (lone w)))))

write_alike : (q : ℕ → Bool) (state : State) (ts us : List Token) → Alike ts us → write_tokens q state (map as_bytes ts) ≡ write_tokens q state (map as_bytes us)
write_alike q state [] [] h = refl
write_alike q state [] (u ∷ us) h = absurd h
write_alike q state (t ∷ ts) [] h = absurd h
write_alike q state (t ∷ ts) (u ∷ us) (a, b, c) =
    let f : State → List ℕ = λ z. write_tokens q z (map as_bytes ts) in
    let g : State → List ℕ = λ z. write_tokens q z (map as_bytes us) in
    write_first q state (as_bytes t) (map as_bytes ts)
    ∙ (ap₂ (λ (w : Word) (n : ℕ). for_word q state (word_bytes w) n f) a b
    ∙ (behind_first q state (word_bytes (token_word u)) u.span.start f g (λ z. write_alike q z ts us c) ∙ sym (write_first q state (as_bytes u) (map as_bytes us))))

-- ── Errors ──

errors_alike : (p p' : Position) (s : Segment) (xs : List Fault) (es es' : List TokenizeError) → no_errors es ≡ no_errors es'
    → no_errors (errors_of p s xs ++ es) ≡ no_errors (errors_of p' s xs ++ es')
unfolding errors_of no_errors
errors_alike p p' s [] es es' h = h
errors_alike p p' s (x ∷ xs) es es' h = refl

right_alike : (p p' : Position) (ss : List Segment) → no_errors (place p ss).errors ≡ no_errors (place p' ss).errors
unfolding place
right_alike p p' [] = refl
right_alike p p' (s ∷ ss) = errors_alike p p' s s.faults _ _ (right_alike (after p s) (after p' s) ss)

-- ── From two positions at one place ──

pub still_lineless : (s : List ℕ) (state : State) (p p' : Position) (cs : Text) → p.offset ≡ p'.offset
    → still_of s state (left (Outside p) cs) ≡ still_of s state (left (Outside p') cs)
unfolding still_of left single
still_lineless s state p p' cs e =
    let ss = segments 0 cs in
    write_alike (quote_at s) state ((place p ss).body ++ (eof (place p ss).stop ∷ [])) ((place p' ss).body ++ (eof (place p' ss).stop ∷ []))
    (alike_append (place p ss).body (place p' ss).body (eof (place p ss).stop ∷ []) (eof (place p' ss).stop ∷ []) (place_alike p p' ss e)
    (refl, stop_alike p p' ss e, tt))

pub right_lineless : (p p' : Position) (cs : Text) → no_errors (left (Outside p) cs).errors ≡ no_errors (left (Outside p') cs).errors
unfolding left
right_lineless p p' cs = right_alike p p' (segments 0 cs)
