-- `print_escapes::put_escapes` meets its contract. The invariant: what is still to be written, written from here on, gives what the
use native.Mathlib.Omega.{arith}
use Rattle.print_escapes.proofs.Walks.{escape_start, escape_small, escape_run, escape_more, escape_end, escapes_whole}
use Rattle.output.proofs.Buffers.{part_bound, put_slice}
use Rattle.print_escapes.proofs.put_escapes.Goals as goal

pub loop-quote-init : goal.loop-quote-init
loop-quote-init c = escape_start _ _ _ _ _ _ (omega arith) (omega arith)

pub past_bare-stop-requires : goal.past_bare-stop-requires
past_bare-stop-requires c = c.loop-quote.invariant.before

pub put_bytes-place-requires : goal.put_bytes-place-requires
put_bytes-place-requires c =
    let s = escape_small _ _ _ _ _ _ _ _ _ c.loop-quote.invariant in
    record { part_bound = part_bound c.args.text.now c.loop-quote.next c.past_bare-stop.result _ (omega (arith, c.requires.text_bound)); at_bound = omega (arith, s, c.requires.text_bound, c.requires.at_bound) }

pub shape_of-out-then-stop-text : goal.shape_of-out-then-stop-text
shape_of-out-then-stop-text c =
    (escape_run _ _ _ _ _ _ _ _ _ c.loop-quote.invariant _ c.past_bare-stop.ensures _ _ (put_slice c.args.text.now c.loop-quote.next c.past_bare-stop.result c.put_bytes-place.ensures)).writing.size

pub returns-then-stop-text : goal.returns-then-stop-text
returns-then-stop-text c =
    escapes_whole c.args.quote c.args.text.now (escape_end _ _ _ _ _ _ _ _ _ (escape_run _ _ _ _ _ _ _ _ _ c.loop-quote.invariant _ c.past_bare-stop.ensures _ _ (put_slice c.args.text.now c.loop-quote.next c.past_bare-stop.result c.put_bytes-place.ensures)) c.if-stop-text.true)

pub bounds-text-stop : goal.bounds-text-stop
bounds-text-stop c =
    omega (arith, c.loop-quote.invariant.inside, c.past_bare-stop.ensures.inside, c.if-stop-text.false)

pub put_escaped-place-requires : goal.put_escaped-place-requires
put_escaped-place-requires c =
    let x = escape_run _ _ _ _ _ _ _ _ _ c.loop-quote.invariant _ c.past_bare-stop.ensures _ _ (put_slice c.args.text.now c.loop-quote.next c.past_bare-stop.result c.put_bytes-place.ensures) in
    omega (arith, escape_small _ _ _ _ _ _ _ _ _ x, c.requires.text_bound, c.requires.at_bound)

pub overflow_add-next : goal.overflow_add-next
overflow_add-next c =
    omega (arith, c.past_bare-stop.ensures.inside, c.requires.text_bound)

pub loop-quote-smaller : goal.loop-quote-smaller
loop-quote-smaller c =
    omega (arith, c.past_bare-stop.ensures.forth, c.past_bare-stop.ensures.inside, c.if-stop-text.false)

pub loop-quote-preserved : goal.loop-quote-preserved
loop-quote-preserved c =
    let x = escape_run _ _ _ _ _ _ _ _ _ c.loop-quote.invariant _ c.past_bare-stop.ensures _ _ (put_slice c.args.text.now c.loop-quote.next c.past_bare-stop.result c.put_bytes-place.ensures) in
    escape_more _ _ _ _ _ _ _ _ _ x _ _ (omega (arith, c.past_bare-stop.ensures.inside, c.if-stop-text.false)) c.put_escaped-place.ensures
