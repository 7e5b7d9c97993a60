use mathlib.Core.Path.{sym, subst, ◌∙◌}
use Prim.Native.Nat.{suc}
use native.Mathlib.Omega.{arith}
use Rattle.address_index.specs.Numbered.{Parts}
use Rattle.address_index.proofs.FindLaws.{parts_none, parts_found, parts_other}
use Rattle.address_index.proofs.search.Search.find_listed.Goals as goal
use Rattle.address_index.proofs.search.Search.find_listed.Goals.{In_ok-last}

pub returns-in_err-last : goal.returns-in_err-last
returns-in_err-last c =
    let a = c.args in
    let z = c.in_err-last.ensures in
    c.from_residual.ensures ∙ sym (parts_none a.self.sorted a.space a.place.chunk a.place.offset (subst (Parts a.self.table.now a.self.count a.space a.place.chunk a.place.offset) (omega (arith, z)) c.count_up_to.ensures))

-- the records of the space that are not at a higher address, the last one counted
parts : (c : In_ok-last) → Parts c.args.self.table.now c.args.self.count c.args.space c.args.place.chunk c.args.place.offset (suc c.in_ok-last.last)
parts c =
    let a = c.args in
    let z = c.in_ok-last.ensures in
    subst (Parts a.self.table.now a.self.count a.space a.place.chunk a.place.offset) (omega (arith, z.0, z.1)) c.count_up_to.ensures

pub returns-then-not-is_address : goal.returns-then-not-is_address
returns-then-not-is_address c =
    let a = c.args in
    sym (parts_other a.self.sorted a.space a.place.chunk a.place.offset (parts (goal.at.returns-then-not-is_address c).In_ok-last) c.record-i.ensures (sym c.is_address.ensures ∙ c.if-not-is_address.true))

pub returns : goal.returns
returns c =
    let a = c.args in
    rw c.address_at.ensures (sym (parts_found a.self.sorted a.space a.place.chunk a.place.offset (parts (goal.at.returns c).In_ok-last) c.record-i.ensures (sym c.is_address.ensures ∙ c.if-not-is_address.false)))
