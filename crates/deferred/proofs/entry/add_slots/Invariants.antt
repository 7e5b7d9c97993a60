use Rattle.deferred.proofs.SlotsLaws.{Adding}
use Rattle.deferred.proofs.entry.add_slots.Given as goal

abbrev pub invariant-loop-i : goal.invariant-loop-i
invariant-loop-i l = Adding l.o l.f l.index l.n l.fn.w l.fn.s l.w l.t l.i
