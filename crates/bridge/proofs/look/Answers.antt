-- `look` meets its contract. Assumes nothing.
use mathlib.Core.Path.{sym, ◌∙◌}
use native.Mathlib.Omega.{arith}
use Rattle.characters.proofs.Decoding.{placed_code}
use Rattle.characters.proofs.Characters.{chars_bad, chars_end}
use Rattle.bridge.proofs.Reaches.{next_char}
use Rattle.bridge.proofs.look.Goals as goal

pub decode_valid-d-requires : goal.decode_valid-d-requires
decode_valid-d-requires c = c.requires.valid

pub past-requires : goal.past-requires
past-requires c =
    let e = sym c.decode_valid-d.ensures ∙ c.in-Code.is in
    let q = placed_code _ c.args.p.offset c.in-Code.c c.in-Code.n e in
    record { fits = record { places = omega arith; lines = c.requires.lines; columns = c.requires.columns }; n_value = q.width_is }

pub returns-in-Code : goal.returns-in-Code
returns-in-Code c =
    let e = sym c.decode_valid-d.ensures ∙ c.in-Code.is in
    next_char _ c.args.p _ c.in-Code.c c.in-Code.n c.requires e c.past.ensures

pub returns-in-Bad : goal.returns-in-Bad
returns-in-Bad c = chars_bad _ _ (sym c.decode_valid-d.ensures ∙ c.in-Bad.is)

pub returns-in-End : goal.returns-in-End
returns-in-End c = chars_end _ _ (sym c.decode_valid-d.ensures ∙ c.in-End.is)
