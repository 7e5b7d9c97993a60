use Rattle.filled.proofs.RangeLaws.{Seen}
use Rattle.filled.proofs.covering.range_at.Given as goal

abbrev pub invariant-loop-k : goal.invariant-loop-k
invariant-loop-k l =
    Seen l.filled.tables.slots.now l.filled.starts.slots l.offset l.k l.before l.after
