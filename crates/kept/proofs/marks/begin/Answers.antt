use Rattle.std.proofs.lemmas.List.{length-replicate}
use Rattle.kept.proofs.MarkLaws.{marking_first, first_only, zeros_at}
use Rattle.kept.proofs.marks.begin.Goals as goal

pub returns-clause-marked : goal.returns-clause-marked
returns-clause-marked c through_weak =
    let part = c.args.filled in
    marking_first part c.clear.new.marks (rw c.clear.ensures (zeros_at _)) (rw (c.clear.ensures, length-replicate) c.requires) c.if-filled.false through_weak

pub returns-clause-first : goal.returns-clause-first
returns-clause-first c =
    let part = c.args.filled in
    first_only part c.clear.new.marks (rw c.clear.ensures (zeros_at _)) (rw (c.clear.ensures, length-replicate) c.requires) c.if-filled.false
