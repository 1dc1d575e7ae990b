-- `output::put_error_record` meets its contract.
use mathlib.Core.Path.{◌∙◌, ap}
use Rattle.std.specs.Option.{unwrap_or}
use Rattle.records.proofs.ErrorLaws.{code_or_zero}
use Rattle.records.specs.Layout.{error_record_of}
use Rattle.output.proofs.put_error_record.Goals as goal

pub returns : goal.returns
unfolding error_record_of
returns c =
    let code = c.unwrap_or-code.ensures ∙ ap (λ o. unwrap_or o 0) c.code.ensures ∙ code_or_zero c.args.e.kind in
    rw (c.number.ensures, code) at c.put_error.ensures
