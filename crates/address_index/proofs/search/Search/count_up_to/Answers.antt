use mathlib.Core.Path.{sym, ◌∙◌}
use native.Mathlib.Omega.{arith}
use Rattle.address_index.proofs.CountLaws.{count_after}
use Rattle.address_index.proofs.FindLaws.{after_from, none_after_below}
use Rattle.address_index.proofs.search.Search.count_up_to.Goals as goal

pub loop-low-init : goal.loop-low-init
loop-low-init c =
    let a = c.args in
    (omega arith, omega (arith, c.count_of-high.ensures), λ i l e b. absurd (omega (arith, b)), λ i l e b. absurd (let z = count_after a.self.table.now a.space i a.self.count e l in omega (arith, b, z, c.count_of-high.ensures)))

pub loop-low-preserved-then-is_higher : goal.loop-low-preserved-then-is_higher
loop-low-preserved-then-is_higher c =
    let a = c.args in
    let i = c.loop-low.invariant in
    (omega (arith, i.0), omega (arith, i.1), i.2, after_from a.self.sorted a.space a.place.chunk a.place.offset c.record.ensures (sym c.is_higher.ensures ∙ c.if-is_higher.true))

pub loop-low-preserved : goal.loop-low-preserved
loop-low-preserved c =
    let a = c.args in
    let i = c.loop-low.invariant in
    (omega (arith, i.0), i.1, none_after_below a.self.sorted a.space a.place.chunk a.place.offset c.record.ensures (sym c.is_higher.ensures ∙ c.if-is_higher.false), i.3)
