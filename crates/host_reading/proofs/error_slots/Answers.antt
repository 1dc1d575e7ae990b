-- `error_slots` meets its contract.
use mathlib.Core.Path.{refl, ◌∙◌, ap}
use Rattle.std.specs.Option.{unwrap_or}
use Rattle.records.proofs.ErrorLaws.{code_or_zero}
use Rattle.host_reading.specs.Records.{span_values, record_values, error_values}
use Rattle.host_reading.proofs.error_slots.Goals as goal

pub returns : goal.returns
unfolding span_values record_values error_values
returns c =
    let code = c.from-code.ensures ∙ c.unwrap_or.ensures ∙ ap (λ o. unwrap_or o 0) c.code.ensures ∙ code_or_zero c.args.next.0.kind in
    rw (c.span_slots.ensures, c.from-kind.ensures ∙ c.number.ensures, code) refl
