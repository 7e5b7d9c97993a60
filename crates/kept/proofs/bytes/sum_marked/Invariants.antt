use Rattle.std.proofs.Common.{◌≡◌, ◌-◌}
use Rattle.kept.specs.Bytes.{total_from, marked_size}
use Rattle.kept.proofs.bytes.sum_marked.Given as goal

abbrev pub invariant-loop-object : goal.invariant-loop-object
invariant-loop-object l =
    l.sum ≡ total_from (marked_size l.filled l.marks) l.filled.starts.objects (l.object - l.filled.starts.objects)
