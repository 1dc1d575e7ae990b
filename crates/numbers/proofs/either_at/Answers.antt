-- `either_at` meets its contract. Assumes nothing.
use mathlib.Core.Path.{sym, ◌∙◌}
use mathlib.Core.List.{[], ◌∷◌}
use Rattle.rules.specs.Text.{one_of}
use Rattle.bridge.proofs.Bytes.{byte_next}
use Rattle.bridge.proofs.Tests.{two_of_lem, low_two}
use Rattle.numbers.proofs.either_at.Goals as goal

pub returns : goal.returns
returns c =
    let l = low_two 1 c.args.a c.args.b c.requires.letter.0 c.requires.letter.1 c.requires.letter_2.0 c.requires.letter_2.1 in
    rw c.byte_at-c.ensures (two_of_lem c.args.a c.args.b _ ∙ sym (byte_next (one_of (c.args.a ∷ c.args.b ∷ [])) l c.args.text.now c.args.at))
