use Rattle.std.proofs.Common.{sym, ◌∙◌}
use Rattle.references.proofs.ReferenceLaws.{listed_at}
use Rattle.references.proofs.ListLaws.{list_enters}
use Rattle.references.specs.SlotsOf.{owner_of}
use Rattle.references.proofs.slots_of.list_slot.Goals as goal

pub returns-then-lists_object : goal.returns-then-lists_object
returns-then-lists_object c =
    let r = c.requires in
    let part = c.args.filled in
    rw c.slot_at-object.ensures
    (let listed = listed_at part (owner_of part c.args.slot) (rw c.slot_at-object.ensures at (sym c.lists_object.ensures ∙ c.if-lists_object.true)) in
    list_enters part c.args.slot c.args.first.now c.args.next.now r.from_start r.listed r.first_room r.next_room listed.from_start listed.below_count r.later)
