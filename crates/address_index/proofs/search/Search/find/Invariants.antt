use Rattle.std.specs.Prelude.{◌<◌, get_or}
use Rattle.address_index.proofs.FindLaws.{Walk}
use Rattle.address_index.proofs.search.Search.find.Given as goal

abbrev pub invariant-loop-link : goal.invariant-loop-link
invariant-loop-link l =
    let s = l.fn.self in
    (l.looks < 8) × Walk s.table.now s.count s.most (get_or s.index.now 8 0) l.fn.space l.fn.place.chunk l.fn.place.offset l.below l.link

abbrev pub decreases-loop-link : goal.decreases-loop-link
decreases-loop-link l = l.below
