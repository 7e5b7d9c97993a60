use mathlib.Core.Path.{ap}
use Rattle.definition.specs.Memory.{Mem}
use Rattle.readers.specs.Lent.{lent_of}
use Rattle.readers.specs.Views.{slots_is}
use Rattle.objects.proofs.ResolveLaws.{resolve_none, resolve_below, resolve_waits, resolve_fill, resolve_index}
use Rattle.objects.proofs.pending.resolve.Goals as goal

pub returns-in_default-clause-is : goal.returns-in_default-clause-is
returns-in_default-clause-is c = let a = c.args in resolve_none a.number a.o a.s _ (lent_of a.w.now) c.in_default.ensures (c.with_waiting.ensures (lent_of a.w.now))

pub returns-in_default-clause-index : goal.returns-in_default-clause-index
returns-in_default-clause-index c = rw (ap (λ (m : Mem). m.slots.count) (c.with_waiting.ensures (lent_of c.args.w.now))) c.requires.1

pub fill_slot-requires : goal.fill_slot-requires
fill_slot-requires c = let a = c.args in resolve_below a.number a.o a.s a.s (lent_of a.w.now) c.in-Some.ensures c.requires.0

pub overflow_sub-s : goal.overflow_sub-s
overflow_sub-s c = let a = c.args in resolve_waits a.number a.o a.s a.s (lent_of a.w.now) c.in-Some.ensures c.requires.2

pub returns-clause-is : goal.returns-clause-is
returns-clause-is c =
    let a = c.args in
    let l = lent_of a.w.now in
    resolve_fill a.number a.o a.s _ l c.in-Some.ensures c.fill_slot.ensures (c.with_waiting-2.ensures (slots_is c.fill_slot.new.t l))

pub returns-clause-index : goal.returns-clause-index
returns-clause-index c =
    let a = c.args in
    let q = c.requires in
    let l = lent_of a.w.now in
    resolve_index a.number a.o a.s c.with_waiting-2.result l c.in-Some.ensures c.fill_slot.ensures a.w.now.pending.now (ap (λ (m : Mem). m.slots.count) (c.with_waiting-2.ensures l)) q.0 q.1 q.2
