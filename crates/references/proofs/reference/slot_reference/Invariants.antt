use Rattle.tables.specs.Records.{slot_of}
use Rattle.references.proofs.ReferenceLaws.{Leads}
use Rattle.references.proofs.reference.slot_reference.Given as goal

abbrev pub invariant-chain : goal.invariant-chain
invariant-chain l =
    Leads l.filled l.filled.counts.values (slot_of l.filled.tables.slots.now l.slot).value l.bound l.value l.weak

abbrev pub decreases-chain : goal.decreases-chain
decreases-chain l = l.bound
