-- `ask_room` meets its contract. Assumes nothing.
use Rattle.questions.proofs.Questions.{room_3, room_4, room_5, room_yes}
use Rattle.questions.proofs.ask_room.Goals as goal

pub returns-then-tokens-u : goal.returns-then-tokens-u
returns-then-tokens-u c = room_3 _ _ _ _ c.if-tokens-u.true

pub returns-then-texts-u : goal.returns-then-texts-u
returns-then-texts-u c = room_4 _ _ _ _ c.if-tokens-u.false c.if-texts-u.true

pub returns-then-errors-u : goal.returns-then-errors-u
returns-then-errors-u c = room_5 _ _ _ _ c.if-tokens-u.false c.if-texts-u.false c.if-errors-u.true

pub returns : goal.returns
returns c = room_yes _ _ _ _ c.if-tokens-u.false c.if-texts-u.false c.if-errors-u.false
