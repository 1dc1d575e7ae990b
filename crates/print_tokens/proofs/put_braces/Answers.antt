-- `print_tokens::put_braces` meets its contract. Assumes nothing.
use mathlib.Core.Path.{◌≡◌, sym, subst}
use mathlib.Core.Bool.{true}
use native.Mathlib.Omega.{arith}
use Rattle.characters.specs.Utf8.{chars_at}
use Rattle.spans.specs.declared.Position.{Position}
use Rattle.rules.specs.Scan.{starts_with}
use Rattle.bridge.specs.Bridge.{Within}
use Rattle.multiline.specs.Tokens.{dollar_brace}
use Rattle.print_tokens.proofs.Comments.{braces_placed, braces_emits}
use Rattle.print_tokens.proofs.put_braces.Goals as goal

pub braces-m-requires : goal.braces-m-requires
braces-m-requires c =
    let e = sym c.at_place.ensures in
    record { within = subst (Within c.args.text.now) e c.requires.within; offset_value = subst (λ (p : Position). starts_with dollar_brace (chars_at c.args.text.now p.offset) ≡ true) e c.requires.from_value; used_bound = omega arith }

pub returns : goal.returns
returns c =
    let b = braces_placed c.args.text.now c.args.from _ _ _ _ c.at_place.ensures c.braces-m.ensures in
    braces_emits c.args.text.now c.args.from _ _ _ c.requires.from_value b _ _ _ _ c.put_bytes.ensures
