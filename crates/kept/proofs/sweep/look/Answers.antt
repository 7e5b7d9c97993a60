use Rattle.std.proofs.Common.{sym, ◌∙◌, arith, slice_index}
use Rattle.std.proofs.lemmas.Bool.{eqb-true}
use Rattle.references.specs.SlotsOf.{owner_of}
use Rattle.kept.proofs.MarkLaws.{target_is, leads_listed}
use Rattle.kept.proofs.SweepLaws.{look_on}
use Rattle.kept.proofs.sweep.look.Goals as goal

pub meet-requires : goal.meet-requires
meet-requires c q e =
    let part = c.args.filled in
    let target = target_is part c.args.through_weak c.args.slot c.slot_reference.result c.requires.from_start c.requires.listed c.slot_reference.ensures in
    let listed = leads_listed part c.args.through_weak c.args.slot q (target.there q (sym c.counted.ensures ∙ e)) in
    omega (arith, listed.below_count, c.requires.marking.room)

pub returns : goal.returns
returns c =
    let part = c.args.filled in
    let marks = c.args.marks.now in
    let target = target_is part c.args.through_weak c.args.slot c.slot_reference.result c.requires.from_start c.requires.listed c.slot_reference.ensures in
    let on = rw c.slot_at-owner.ensures at (sym c.is_marked.ensures ∙ c.if-not-is_marked.false) in
    let r = look_on part c.args.through_weak marks c.args.slot c.counted.result c.meet.result c.meet.new.marks c.requires.marking (eqb-true (slice_index marks (owner_of part c.args.slot)) 1 on) (rw c.counted.ensures target) c.meet.ensures in
    rw c.is_some.ensures (record { marking = r.marking; closed = r.closed; changed = r.changed; same = r.same })
