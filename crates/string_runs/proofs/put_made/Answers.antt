use mathlib.Core.Path.{subst}
use Rattle.output.proofs.Buffers.{put_none}
use Rattle.string_units.specs.Units.{IsChar}
use Rattle.string_runs.proofs.RunLaws.{made_put}
use Rattle.string_runs.proofs.put_made.Goals as goal

pub put_char-requires : goal.put_char-requires
put_char-requires c =
    record { c_bound = subst IsChar c.in-Char.is c.requires.char; at_bound = c.requires.at_bound }

pub returns-in-Nothing : goal.returns-in-Nothing
returns-in-Nothing c =
    made_put _ _ c.args.own.now _ _ c.args.made _ c.in-Nothing.is (put_none c.args.texts.now c.args.at)

pub returns-in-Own : goal.returns-in-Own
returns-in-Own c = made_put _ _ c.args.own.now _ _ c.args.made _ c.in-Own.is c.put_bytes.ensures

pub returns-in-Char : goal.returns-in-Char
returns-in-Char c = made_put _ _ c.args.own.now _ _ c.args.made _ c.in-Char.is c.put_char.ensures
