-- `character` meets its contract.
use mathlib.Core.Path.{subst}
use Rattle.bridge.proofs.Reaches.{within_fits}
use Rattle.output.proofs.Buffers.{part_bound}
use Rattle.string_runs.proofs.RunLaws.{made_part}
use Rattle.letters.specs.Letters.{LetterAt}
use Rattle.letters.proofs.CloseLaws.{quote_on, letter_few, finished, unfinished}
use native.Mathlib.Omega.{arith}
use Rattle.letters.proofs.character.Goals as goal

pub letter_at-l-requires : goal.letter_at-l-requires
letter_at-l-requires c =
    (quote_on c.args.text.now c.args.p c.along-q.result c.requires.within c.requires.offset_value c.along-q.ensures).within

pub put_made-made-requires : goal.put_made-made-requires
put_made-made-requires c =
    let y = subst (LetterAt c.args.text.now c.along-q.result) c.in-Ok.is c.letter_at-l.ensures in
    let v = y.1.reach.within in
    record { own_len_bound = part_bound c.args.text.now _ _ _ (omega (arith, v.size)); char = y.1.char; at_bound = omega (arith, c.requires.room.texts) }

pub put_mistake-noted-requires : goal.put_mistake-noted-requires
put_mistake-noted-requires c =
    let y = subst (LetterAt c.args.text.now c.along-q.result) c.in-Ok.is c.letter_at-l.ensures in
    let v = y.1.reach.within in
    record { fits = within_fits c.args.text.now c.along-q.result 1 (quote_on c.args.text.now c.args.p c.along-q.result c.requires.within c.requires.offset_value c.along-q.ensures).within (omega arith); at_bound = omega (arith, c.requires.room.errors) }

pub close-requires : goal.close-requires
close-requires c =
    let y = subst (LetterAt c.args.text.now c.along-q.result) c.in-Ok.is c.letter_at-l.ensures in
    let v = y.1.reach.within in
    let n = letter_few c.args.text.now c.args.p c.along-q.result c.requires.within c.requires.offset_value c.along-q.ensures c.in-Ok.u y _ _ _ _ _ _ _ _ (made_part c.args.text.now _ _ _ c.put_made-made.ensures) c.put_mistake-noted.ensures in
    record { within = v; used_errors_bound = omega (arith, c.requires.room.errors) }

pub returns-in-Ok : goal.returns-in-Ok
returns-in-Ok c =
    let y = subst (LetterAt c.args.text.now c.along-q.result) c.in-Ok.is c.letter_at-l.ensures in
    let v = y.1.reach.within in
    finished c.args.text.now c.args.p c.along-q.result c.requires.within c.requires.offset_value c.along-q.ensures c.in-Ok.u y _ _ _ _ _ _ _ _ (made_part c.args.text.now _ _ _ c.put_made-made.ensures) c.put_mistake-noted.ensures _ c.close.result c.close.ensures

pub returns-in-Err : goal.returns-in-Err
returns-in-Err c =
    let y = subst (LetterAt c.args.text.now c.along-q.result) c.in-Err.is c.letter_at-l.ensures in
    unfinished c.args.text.now c.args.p c.along-q.result c.requires.within c.requires.offset_value c.along-q.ensures c.in-Err.end _ _ _ _ _ _ y c.put_open-noted.ensures
