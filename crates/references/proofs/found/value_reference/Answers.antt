use Rattle.std.proofs.Common.{sym, ◌∙◌}
use Rattle.references.proofs.ReferenceLaws.{is_object, is_nothing, is_through, held_earlier}
use Rattle.references.proofs.found.value_reference.Goals as goal

pub returns-in-Object : goal.returns-in-Object
returns-in-Object c =
    is_object c.args.filled c.args.bound c.args.value c.in-Object.object (sym c.value_holds.ensures ∙ c.in-Object.is)

pub returns-in-Value : goal.returns-in-Value
returns-in-Value c =
    let part = c.args.filled in
    let k = c.in-Value.number in
    let e = sym c.value_holds.ensures ∙ c.in-Value.is in
    let early = held_earlier part c.args.bound c.args.value k c.in-Value.weak e in
    let r = rw (← c.unpacked.ensures) at (c.requires.found.of_value k early.from_start early.below) in
    let through = is_through part c.args.bound c.args.value k c.in-Value.weak e c.unpacked.result r in
    rw c.under.ensures through

pub returns-in-Nothing : goal.returns-in-Nothing
returns-in-Nothing c =
    is_nothing c.args.filled c.args.bound c.args.value (sym c.value_holds.ensures ∙ c.in-Nothing.is)
