-- `put_error` meets its contract. Assumes nothing.
use mathlib.Core.Path.{◌∙◌, ap}
use Rattle.std.specs.Option.{unwrap_or}
use Rattle.listing_lines.proofs.Words.{error_named}
use Rattle.listing_lines.proofs.put_error.Goals as goal

pub put_error_number-requires : goal.put_error_number-requires
put_error_number-requires c =
    let code = c.unwrap_or-code.ensures ∙ ap (λ o. unwrap_or o 0) c.code.ensures in
    rw (c.number.ensures, code, error_named c.args.r) c.requires

pub returns : goal.returns
returns c =
    let code = c.unwrap_or-code.ensures ∙ ap (λ o. unwrap_or o 0) c.code.ensures in
    rw (c.number.ensures, code, error_named c.args.r) at c.put_error_number.ensures
