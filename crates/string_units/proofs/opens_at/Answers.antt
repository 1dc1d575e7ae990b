use mathlib.Core.Path.{sym, ◌∙◌, ap}
use Rattle.rules.specs.Strings.{is_interp_start}
use Rattle.bridge.proofs.Tests.{low_weak}
use Rattle.bridge.proofs.Bytes.{byte_next}
use Rattle.string_units.proofs.Opens.{interp_low}
use Rattle.string_units.proofs.opens_at.Goals as goal

pub returns : goal.returns
returns c =
    c.is_interp_start.ensures ∙ (ap is_interp_start c.byte_at-b.ensures ∙ sym (byte_next is_interp_start (low_weak is_interp_start interp_low) c.args.text.now c.args.at))
