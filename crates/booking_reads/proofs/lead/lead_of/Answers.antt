-- Two words read as signed numbers, and their difference: the definition, at what the calls ensure.
use mathlib.Core.Path.{◌∙◌}
use native.Mathlib.Omega.{arith}
use mir.Syntax.{w64}
use Rattle.rules.specs.Readings.{lead_of}
use Rattle.booking_reads.proofs.Difference.{difference_is}
use Rattle.booking_reads.proofs.lead.lead_of.Goals as goal

pub returns : goal.returns
unfolding lead_of
returns c =
    difference_is w64 c.confidence_of.result c.rivals_most.result (omega arith) (omega arith)
    ∙ rw (c.confidence_of.ensures, c.rivals_most.ensures)
