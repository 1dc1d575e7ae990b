use Rattle.record_reading.specs.Reading.{span_at}
use Rattle.record_reading.proofs.read.get_span.Goals as goal

pub returns : goal.returns
unfolding span_at
returns c = rw (c.get32-start.ensures.0, c.get32-end.ensures.0, c.get32-start_line.ensures.0, c.get32-start_col.ensures.0, c.get32-end_line.ensures.0, c.get32-end_col.ensures.0)
