-- `name_at` meets its contract. Assumes nothing.
use mathlib.Core.Path.{◌∙◌, ap}
use native.Mathlib.Omega.{arith}
use Rattle.std.proofs.lemmas.Grind.{common_steps}
use Rattle.rules.specs.Tables.{lookup_keyword}
use Rattle.names.proofs.Names.{name_some, name_word, part_slice}
use Rattle.names.proofs.name_at.Goals as goal

pub name_kind-kind-requires : goal.name_kind-kind-requires
name_kind-kind-requires c =
    let f = name_some c.args.text.now c.args.at c.name_end-to.result c.requires.at_value c.name_end-to.ensures in
    grind (arith, common_steps, f, c.name_end-to.ensures.inside)

pub overflow_sub-last : goal.overflow_sub-last
overflow_sub-last c =
    let f = name_some c.args.text.now c.args.at c.name_end-to.result c.requires.at_value c.name_end-to.ensures in
    omega arith

pub returns : goal.returns
returns c =
    let x = c.name_end-to.ensures in
    name_word c.args.text.now c.args.at c.name_end-to.result c.name_kind-kind.result c.requires.at_value x
    (c.name_kind-kind.ensures ∙ ap lookup_keyword (part_slice c.args.text.now c.args.at c.name_end-to.result x.forth))
