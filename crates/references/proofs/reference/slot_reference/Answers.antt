use Rattle.std.proofs.Common.{sym, ◌∙◌}
use Rattle.tables.specs.Records.{slot_of}
use Rattle.references.proofs.ReferenceLaws.{leads_on, leads_object, leads_nowhere}
use Rattle.references.proofs.reference.slot_reference.Goals as goal

pub returns-in-Object : goal.returns-in-Object
returns-in-Object c =
    let part = c.args.filled in
    let l = c.chain in
    leads_object part part.counts.values (slot_of part.tables.slots.now c.args.slot).value l.bound l.value l.weak c.in-Object.object l.invariant (sym c.value_holds.ensures ∙ c.in-Object.is)

pub chain-preserved-then-weak : goal.chain-preserved-then-weak
chain-preserved-then-weak c =
    let part = c.args.filled in
    let l = c.chain in
    let on = leads_on part part.counts.values (slot_of part.tables.slots.now c.args.slot).value l.bound l.value l.weak c.in-Value.number c.in-Value.held_weakly l.invariant (sym c.value_holds.ensures ∙ c.in-Value.is) in
    rw (c.value_fields-value.ensures, c.if-weak.true) (rw c.if-weak.true at on)

pub chain-preserved : goal.chain-preserved
chain-preserved c =
    let part = c.args.filled in
    let l = c.chain in
    let on = leads_on part part.counts.values (slot_of part.tables.slots.now c.args.slot).value l.bound l.value l.weak c.in-Value.number c.in-Value.held_weakly l.invariant (sym c.value_holds.ensures ∙ c.in-Value.is) in
    rw c.value_fields-value.ensures (rw c.if-weak.false at on)

pub returns-in-Nothing : goal.returns-in-Nothing
returns-in-Nothing c =
    let part = c.args.filled in
    let l = c.chain in
    leads_nowhere part part.counts.values (slot_of part.tables.slots.now c.args.slot).value l.bound l.value l.weak l.invariant (sym c.value_holds.ensures ∙ c.in-Nothing.is)
