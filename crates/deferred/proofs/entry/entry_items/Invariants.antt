use Prim.Native.Nat.{◌-◌}
use lib.ListN.{length}
use Rattle.deferred.proofs.EntryLaws.{Loop}
use Rattle.deferred.proofs.entry.entry_items.Given as goal

abbrev pub invariant-loop-done : goal.invariant-loop-done
invariant-loop-done l = Loop l.o l.size l.fn.w l.fn.s l.index l.done l.w l.t

abbrev pub decreases-loop-done : goal.decreases-loop-done
decreases-loop-done l = length l.fn.w.payload.now - l.t.at
