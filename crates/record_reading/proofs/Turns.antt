-- Laws of the reader's answers. Assumes nothing.
use Rattle.std.specs.Prelude.{if◌then◌else◌}
use mathlib.Core.Path.{◌≡◌, sym, ap}
use mathlib.Core.Bool.{Bool, true, false, not}
use mathlib.Core.List.{List}
use Prim.Native.Nat.{ℕ, ◌+◌}
use borrow.Author.Tests.{eq-eqb, ne_eqb}
use Rattle.characters.specs.Choice.{◌is◌}
use Rattle.refusals.specs.declared.Refusal.{Refusal}
use Rattle.refusals.specs.declared.Refusal.TheVariants.{Kind, Place}
use Rattle.records.specs.Kinds.{is_kind, error_length}
use Rattle.refusals.specs.Answers.{Answer, got, refused}
use Rattle.refusals.proofs.Answers.{got_is_not_refused, same_got, same_refused}
use Rattle.records.specs.Answers.{Turn, stopped}
use Rattle.record_reading.specs.Reading.{kind_at, is_whole, record_at, is_whole_error, error_at, after_at, next_at, consume_at, match_at, next_error_at}
use Rattle.records.specs.declared.answers.TokenRecord.{TokenRecord}
use Rattle.records.specs.declared.answers.ErrorRecord.{ErrorRecord}

-- Question 7, and then a yes.
abbrev turn_by : {A : Type 0} → Bool → ℕ → A → ℕ → Turn A
turn_by w at a next = if not w then record { answer = refused 7 at; place = at } else record { answer = got a; place = next }

abbrev answer_of : Turn TokenRecord → Answer TokenRecord
answer_of t = t.answer

abbrev place_of : Turn TokenRecord → ℕ
place_of t = t.place

module _ (s : List ℕ) (at : ℕ) where
  -- ── next ──
  pub next_got : (r : TokenRecord) (p : ℕ) → is_whole s at ≡ true → r ≡ record_at s at → p ≡ after_at s at
      → record { answer = got r; place = p } ≡ next_at s at
  unfolding next_at
  next_got r p w a b = rw (w, a, b)

  pub next_stop : (x : Refusal) → (x ≡ Place at) × (is_whole s at ≡ false) → stopped at x ≡ next_at s at
  unfolding next_at
  next_stop x e = rw (e.1, e.0)

  -- ── consume ──
  pub consume_got : (k : ℕ) (r : TokenRecord) (p : ℕ) → is_kind k ≡ true → record { answer = got r; place = p } ≡ next_at s at
      → record { answer = got (r, r.kind is k); place = p } ≡ consume_at s at k
  unfolding consume_at next_at record_at
  consume_got k r p h e = rw h (go (is_whole s at) e)
    where
      go : (w : Bool) → record { answer = got r; place = p } ≡ turn_by w at (record_at s at) (after_at s at)
          → record { answer = got (r, r.kind is k); place = p } ≡ turn_by {A = TokenRecord × Bool} w at (record_at s at, kind_at s at is k) (after_at s at)
      go false f = absurd (got_is_not_refused r 7 at (ap answer_of f))
      go true f =
          let a : r ≡ record_at s at = same_got _ _ (ap answer_of f) in
          let b : p ≡ after_at s at = ap place_of f in
          rw (a, b)

  pub consume_unknown : (k : ℕ) (x : Refusal) → (x ≡ Kind k) × (is_kind k ≡ false) → stopped at x ≡ consume_at s at k
  unfolding consume_at
  consume_unknown k x e = rw (e.1, e.0)

  pub consume_stop : (k : ℕ) (x : Refusal) → is_kind k ≡ true → stopped at x ≡ next_at s at → stopped at x ≡ consume_at s at k
  unfolding consume_at next_at
  consume_stop k x h e = rw h (go (is_whole s at) e)
    where
      go : (w : Bool) → stopped {A = TokenRecord} at x ≡ turn_by {A = TokenRecord} w at (record_at s at) (after_at s at)
          → stopped {A = TokenRecord × Bool} at x ≡ turn_by {A = TokenRecord × Bool} w at (record_at s at, kind_at s at is k) (after_at s at)
      go false f = let z = same_refused _ _ _ _ (ap answer_of f) in rw (z.0, z.1)
      go true f = absurd (got_is_not_refused (record_at s at) _ _ (sym (ap answer_of f)))

  -- ── match ──
  pub match_yes : (k p : ℕ) → is_kind k ≡ true → is_whole s at ≡ true → kind_at s at ≡ k → p ≡ after_at s at
      → record { answer = got true; place = p } ≡ match_at s at k
  unfolding match_at
  match_yes k p h w a b = rw (h, w, eq-eqb (kind_at s at) k a, b)

  pub match_no : (k : ℕ) → is_kind k ≡ true → is_whole s at ≡ true → (kind_at s at ≡ k → ⊥) → record { answer = got false; place = at } ≡ match_at s at k
  unfolding match_at
  match_no k h w a = rw (h, w, ne_eqb (kind_at s at) k a)

  pub match_unknown : (k : ℕ) (x : Refusal) → (x ≡ Kind k) × (is_kind k ≡ false) → stopped at x ≡ match_at s at k
  unfolding match_at
  match_unknown k x e = rw (e.1, e.0)

  pub match_stop : (k : ℕ) (x : Refusal) → is_kind k ≡ true → (x ≡ Place at) × (is_whole s at ≡ false) → stopped at x ≡ match_at s at k
  unfolding match_at
  match_stop k x h e = rw (h, e.1, e.0)

  -- ── the next over errors ──
  pub error_got : (r : ErrorRecord) (n : ℕ) → is_whole_error s at ≡ true → r ≡ error_at s at → n ≡ error_length (kind_at s at)
      → record { answer = got r; place = at + n } ≡ next_error_at s at
  unfolding next_error_at
  error_got r n w a b = rw (w, a, b)

  pub error_stop : is_whole_error s at ≡ false → stopped at (Place at) ≡ next_error_at s at
  unfolding next_error_at
  error_stop w = rw w
