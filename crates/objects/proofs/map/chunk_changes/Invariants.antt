use Prim.Native.Nat.{◌-◌}
use lib.ListN.{length}
use Rattle.objects.proofs.MapLaws.{Changes}
use Rattle.objects.proofs.map.chunk_changes.Given as goal

abbrev pub invariant-loop-p : goal.invariant-loop-p
invariant-loop-p l = Changes l.fn.w l.space l.fn.s l.w l.t

abbrev pub decreases-loop-p : goal.decreases-loop-p
decreases-loop-p l = length l.fn.w.payload.now - l.t.at
