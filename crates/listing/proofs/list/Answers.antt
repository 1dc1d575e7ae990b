-- `list` meets its contract. Assumes nothing.
use Rattle.listing.proofs.Whole.{long_listed, read_room, read_listed, refused_listed}
use Rattle.listing.proofs.list.Goals as goal

pub returns-then-script-gt-LISTED : goal.returns-then-script-gt-LISTED
returns-then-script-gt-LISTED c = let q = long_listed _ _ _ _ c.if-script-gt-LISTED.true c.put_bytes.ensures in record { put = q.0; upper_bound = q.1 }

pub put_answer-requires : goal.put_answer-requires
put_answer-requires c = let q = read_room _ _ _ _ _ _ _ _ c.tokenize-a.ensures c.if-script-gt-LISTED.false _ c.in-Ok.is in record { errors_in_bounds = q.0; room = q.1 }

pub returns-in-Ok : goal.returns-in-Ok
returns-in-Ok c = let q = read_listed _ _ _ _ _ _ _ _ c.tokenize-a.ensures c.if-script-gt-LISTED.false _ c.in-Ok.is _ _ _ c.put_answer.ensures in record { put = q.0; upper_bound = q.1 }

pub returns-in-Err : goal.returns-in-Err
returns-in-Err c = let q = refused_listed _ _ _ _ _ _ _ _ c.tokenize-a.ensures c.if-script-gt-LISTED.false _ _ _ c.in-Err.is c.number.ensures c.figure.ensures c.zeros-tokens.ensures.size c.zeros-texts.ensures.size c.zeros-errors.ensures.size _ _ _ c.put_refused.ensures in record { put = q.0; upper_bound = q.1 }
