use Prim.Native.Nat.{◌-◌}
use lib.ListN.{length}
use Rattle.graph.proofs.ClosingLaws.{Loop}
use Rattle.graph.proofs.closing.entries.Given as goal

abbrev pub invariant-loop-t : goal.invariant-loop-t
invariant-loop-t l = Loop l.fn.w l.fn.s l.w l.t

abbrev pub decreases-loop-t : goal.decreases-loop-t
decreases-loop-t l = length l.fn.w.payload.now - l.t.at
