-- `step` meets its contract.
use Rattle.scanner.proofs.Stepping.{entered_known, entered_begun}
use Rattle.scanner.proofs.step.Goals as goal

-- A step that is known.
pub returns-then-e : goal.returns-then-e
returns-then-e c = entered_known _ _ _ _ _ _ _ _ _ c.if-e.true c.enter-e.ensures

pub outside_step-requires : goal.outside_step-requires
outside_step-requires c =
    let b = entered_begun _ _ _ _ _ _ _ _ _ c.if-e.false c.enter-e.ensures in record {
      in_text = b.within;
      roomy = record { texts = c.requires.used.texts; errors = b.few };
    }

-- A step that is begun outside of strings.
pub returns : goal.returns
returns c =
    let b = entered_begun _ _ _ _ _ _ _ _ _ c.if-e.false c.enter-e.ensures in
    b.onward c.outside_step.result _ _ c.outside_step.ensures
