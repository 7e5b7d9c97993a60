use Rattle.std.proofs.Common.{◌-◌}
use Rattle.kept.specs.Bytes.{object_count}
use Rattle.kept.specs.Marking.{Marking, marked_count}
use Rattle.kept.proofs.sweep.mark_by_sweeps.Given as goal

abbrev pub invariant-sweeps : goal.invariant-sweeps
invariant-sweeps l = Marking l.filled l.through_weak l.marks

abbrev pub decreases-sweeps : goal.decreases-sweeps
decreases-sweeps l = object_count l.filled - marked_count l.filled l.marks
