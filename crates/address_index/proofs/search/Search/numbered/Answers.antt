use native.Mathlib.Omega.{arith}
use mathlib.Core.Path.{sym}
use Rattle.address_index.proofs.CountLaws.{ordinal_is, ordinal_past}
use Rattle.address_index.proofs.search.Search.numbered.Goals as goal

pub returns-then-count_of-k : goal.returns-then-count_of-k
returns-then-count_of-k c = let a = c.args in sym (ordinal_past a.self.table.now a.space a.self.count a.number (omega (arith, c.count_of.ensures, c.if-count_of-k.true)))

pub returns : goal.returns
returns c = let a = c.args in rw c.address_at.ensures (sym (ordinal_is a.self.table.now a.space a.self.count a.number c.record.ensures))
