-- `put_tokens` meets its contract. Assumes nothing.
use mathlib.Core.Path.{◌≡◌, sym, ◌∙◌, ap}
use Prim.Native.Nat.{◌+◌, ◌-◌}
use native.Mathlib.Omega.{arith}
use Rattle.refusals.specs.Answers.{of_answer}
use Rattle.records.specs.Answers.{of_turn}
use Rattle.listing_reading.proofs.Turns.{tokens_start, tokens_place, tokens_more, tokens_last, tokens_end, tokens_none, tokens_stop, tokens_refused}
use Rattle.listing_reading.proofs.put_tokens.Goals as goal

pub loop-turn-init : goal.loop-turn-init
loop-turn-init c = let e : c.args.count - 0 ≡ c.args.count = omega arith in rw e (tokens_start _ _ _ _ _ c.requires)

pub shape_of-buf-in_default : goal.shape_of-buf-in_default
shape_of-buf-in_default c = c.loop-turn.invariant.ahead.size

pub returns-in_default : goal.returns-in_default
returns-in_default c = tokens_end _ _ _ _ _ _ _ _ _ c.loop-turn.invariant (tokens_stop _ _ _ _ _ _ _ _ (sym c.next_token.ensures ∙ ap (of_turn _) c.in_default.is))

pub shape_of-buf-in_default-text_check : goal.shape_of-buf-in_default-text_check
shape_of-buf-in_default-text_check c = c.loop-turn.invariant.ahead.size

pub returns-in_default-text_check : goal.returns-in_default-text_check
returns-in_default-text_check c = tokens_end _ _ _ _ _ _ _ _ _ c.loop-turn.invariant (tokens_refused _ _ _ _ _ _ _ (sym c.text_check.ensures ∙ ap of_answer c.in_default-text_check.is))

pub put_record-p-requires : goal.put_record-p-requires
put_record-p-requires c = tokens_place _ _ _ _ _ _ _ _ _ c.loop-turn.invariant _ _ (omega arith) (sym c.next_token.ensures ∙ ap (of_turn _) c.in-Ok.is) (sym c.text_check.ensures ∙ ap of_answer c.in-Ok-text_check.is)

pub shape_of-buf-then-r-eq-EOF : goal.shape_of-buf-then-r-eq-EOF
shape_of-buf-then-r-eq-EOF c = c.put_record-p.auto.buf ∙ c.loop-turn.invariant.ahead.size

pub returns-then-r-eq-EOF : goal.returns-then-r-eq-EOF
returns-then-r-eq-EOF c = tokens_last _ _ _ _ _ _ _ _ _ c.loop-turn.invariant _ _ (omega arith) (sym c.next_token.ensures ∙ ap (of_turn _) c.in-Ok.is) (sym c.text_check.ensures ∙ ap of_answer c.in-Ok-text_check.is) _ _ c.if-r-eq-EOF.true c.put_record-p.ensures

pub loop-turn-preserved : goal.loop-turn-preserved
loop-turn-preserved c =
    let e : c.args.count - (c.loop-turn._turn + 1) ≡ c.args.count - c.loop-turn._turn - 1 = omega arith in
    rw e (tokens_more _ _ _ _ _ _ _ _ _ c.loop-turn.invariant _ _ (omega arith) (sym c.next_token.ensures ∙ ap (of_turn _) c.in-Ok.is) (sym c.text_check.ensures ∙ ap of_answer c.in-Ok-text_check.is) _ _ c.if-r-eq-EOF.false c.put_record-p.ensures)

pub shape_of-buf : goal.shape_of-buf
shape_of-buf c = c.loop-turn.invariant.ahead.size

pub returns : goal.returns
returns c = tokens_end _ _ _ _ _ _ _ _ _ c.loop-turn.invariant (tokens_none _ _ _ _ _ (omega arith))
