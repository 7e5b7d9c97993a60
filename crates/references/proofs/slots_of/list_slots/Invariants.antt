use Rattle.std.proofs.Common.{◌≤◌}
use Rattle.references.specs.SlotsOf.{HasLists}
use Rattle.references.proofs.slots_of.list_slots.Given as goal

abbrev pub invariant-loop-slot : goal.invariant-loop-slot
invariant-loop-slot l =
    record {
      from_start : l.filled.starts.slots ≤ l.slot;
      to_count : l.slot ≤ l.filled.counts.slots;
      lists : HasLists l.filled l.slot l.first l.next;
    }

abbrev pub decreases-loop-slot : goal.decreases-loop-slot
decreases-loop-slot l = l.slot
