use Rattle.std.proofs.Common.{◌≡◌, ◌-◌, ◌≤◌, length}
use Rattle.cases.proofs.read_script.Given as goal

abbrev pub invariant-loop-count : goal.invariant-loop-count
invariant-loop-count l = (l.count ≤ length l.script) × (length l.script ≡ length l.initial.script)

abbrev pub decreases-loop-count : goal.decreases-loop-count
decreases-loop-count l = length l.script - l.count
