use Prim.Native.Nat.{◌-◌}
use lib.ListN.{length}
use Rattle.objects.proofs.ResolveLaws.{Resolving}
use Rattle.objects.proofs.pending.resolves.Given as goal

abbrev pub invariant-loop-p : goal.invariant-loop-p
invariant-loop-p l = Resolving l.fn.w l.o l.fn.s l.w l.t

abbrev pub decreases-loop-p : goal.decreases-loop-p
decreases-loop-p l = length l.fn.w.payload.now - l.t.at
