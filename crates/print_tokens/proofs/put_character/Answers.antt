-- `print_tokens::put_character` meets its contract. Assumes nothing.
use mathlib.Core.Path.{◌≡◌, refl, sym, subst}
use mathlib.Core.Bool.{true}
use native.Mathlib.Omega.{arith}
use Rattle.characters.specs.Utf8.{chars_at}
use Rattle.spans.specs.declared.Position.{Position}
use Rattle.rules.specs.Text.{ch}
use Rattle.rules.specs.Scan.{next}
use Rattle.bridge.specs.Bridge.{Within, exactly}
use Rattle.print_tokens.proofs.Faults.{token_wrong}
use Rattle.print_tokens.proofs.Letters.{letter_placed, letter_few, letter_emits}
use Rattle.print_tokens.proofs.put_character.Goals as goal

pub character-l-requires : goal.character-l-requires
character-l-requires c =
    let e = sym c.at_place.ensures in
    record { within = subst (Within c.args.text.now) e c.requires.within; offset_value = subst (λ (p : Position). next (exactly (ch "'")) (chars_at c.args.text.now p.offset) ≡ true) e c.requires.from_value; room = record { texts = omega arith; errors = omega arith } }

pub returns-then-l-gt0 : goal.returns-then-l-gt0
returns-then-l-gt0 c =
    let l = letter_placed c.args.text.now c.args.from _ _ _ _ _ _ c.at_place.ensures c.character-l.ensures in
    token_wrong c.args.text.now c.args.from _ _ _ l.one _ _ _ l.written (omega (arith, c.if-l-gt0.true))

pub put_made-requires : goal.put_made-requires
put_made-requires c =
    let l = letter_placed c.args.text.now c.args.from _ _ _ _ _ _ c.at_place.ensures c.character-l.ensures in
    let f = letter_few c.args.text.now c.args.from c.requires.from_value _ _ _ _ _ l in
    record { n_in_bounds = omega (arith, f); n_bound = omega (arith, f); at_bound = omega (arith, c.requires.at_bound) }

pub returns : goal.returns
returns c =
    let l = letter_placed c.args.text.now c.args.from _ _ _ _ _ _ c.at_place.ensures c.character-l.ensures in
    letter_emits c.args.text.now c.args.from c.requires.from_value _ _ _ _ _ l refl c.if-l-gt0.false _ _ _ _ c.put_made.ensures
