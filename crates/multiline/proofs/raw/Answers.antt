-- `walks::token::raw` meets its contract. The walk from behind its quotes gives its text and its end. Assumes nothing.
use Rattle.walks.specs.Walks.{quotes}
use Rattle.walks.proofs.Enclosed.{reach_on, begin_reach, upto_on}
use Rattle.output.proofs.Buffers.{part_bound, put_slice}
use Rattle.multiline.proofs.Tokens.{raw_at}
use native.Mathlib.Omega.{arith}
use Rattle.multiline.proofs.raw.Goals as goal

pub to_quotes-c-requires : goal.to_quotes-c-requires
to_quotes-c-requires c =
    (begin_reach quotes c.args.text.now c.args.p _ (omega arith) c.requires.within c.requires.offset_value c.along-inner.ensures).within

pub slice_bounds-put_bytes-count : goal.slice_bounds-put_bytes-count
slice_bounds-put_bytes-count c =
    let r = begin_reach quotes c.args.text.now c.args.p _ (omega arith) c.requires.within c.requires.offset_value c.along-inner.ensures in
    let h = reach_on c.args.text.now _ _ _ c.to_quotes-c.ensures.reach in
    omega arith

pub slice_bounds-put_bytes-start : goal.slice_bounds-put_bytes-start
slice_bounds-put_bytes-start c =
    let r = begin_reach quotes c.args.text.now c.args.p _ (omega arith) c.requires.within c.requires.offset_value c.along-inner.ensures in
    let h = reach_on c.args.text.now _ _ _ c.to_quotes-c.ensures.reach in
    let z = upto_on quotes c.args.text.now _ _ c.to_quotes-c.ensures (omega arith) _ c.behind_mark-at.ensures in
    omega arith

pub put_bytes-texts_end-requires : goal.put_bytes-texts_end-requires
put_bytes-texts_end-requires c =
    let r = begin_reach quotes c.args.text.now c.args.p _ (omega arith) c.requires.within c.requires.offset_value c.along-inner.ensures in
    let h = reach_on c.args.text.now _ _ _ c.to_quotes-c.ensures.reach in
    let z = upto_on quotes c.args.text.now _ _ c.to_quotes-c.ensures (omega arith) _ c.behind_mark-at.ensures in
    record { part_bound = part_bound c.args.text.now c.along-inner.result.offset c.to_quotes-c.result.at.offset _ (omega arith); at_bound = c.requires.used_texts_bound }

pub returns : goal.returns
returns c =
    let r = begin_reach quotes c.args.text.now c.args.p _ (omega arith) c.requires.within c.requires.offset_value c.along-inner.ensures in
    raw_at c.args.text.now c.args.p _ _ _ _ _ _ _ _ _ _ _ c.requires.offset_value r c.to_quotes-c.ensures c.behind_mark-at.ensures
    (put_slice c.args.text.now c.along-inner.result.offset c.to_quotes-c.result.at.offset c.put_bytes-texts_end.ensures) c.put_open-errors_end.ensures
