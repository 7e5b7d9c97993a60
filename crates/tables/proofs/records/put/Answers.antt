use mathlib.Core.Path.{sym, ◌∙◌}
use native.Mathlib.Omega.{arith}
use Rattle.tables.proofs.Laws.{put_done}
use Rattle.tables.proofs.records.put.Goals as goal

pub returns : goal.returns
returns c = put_done _ _ _ _ _ c.loop-i.invariant (omega arith) (omega arith) (sym c.has_room.ensures ∙ c.if-not-has_room.false)
