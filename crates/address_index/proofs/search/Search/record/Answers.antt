use native.Mathlib.Omega.{arith}
use Rattle.address_index.proofs.CountLaws.{count_low}
use Rattle.address_index.proofs.LinkLaws.{list_holds}
use Rattle.address_index.proofs.search.Search.record.Goals as goal

pub list_cell-requires : goal.list_cell-requires
list_cell-requires c =
    let a = c.args in
    let z = count_low a.self.table.now a.space a.self.count in
    (c.requires.0, omega (arith, z, c.requires.1, a.self.fits), a.self.small)

pub returns : goal.returns
returns c =
    let a = c.args in
    rw (c.list_cell.ensures.is, a.self.is_most) (list_holds a.self.links.lists a.space a.k c.requires.0 c.requires.1)
