use Rattle.std.specs.Prelude.{◌-◌, ◌≤◌}
use Rattle.address_index.specs.Links.{count_in}
use Rattle.address_index.specs.Numbered.{NoneAfterBelow, AfterFrom}
use Rattle.address_index.proofs.search.Search.count_up_to.Given as goal

abbrev pub invariant-loop-low : goal.invariant-loop-low
invariant-loop-low l =
    let s = l.fn.self in
    (l.low ≤ l.high) × (l.high ≤ count_in s.table.now l.fn.space s.count)
    × NoneAfterBelow s.table.now s.count l.fn.space l.fn.place.chunk l.fn.place.offset l.low
    × AfterFrom s.table.now s.count l.fn.space l.fn.place.chunk l.fn.place.offset l.high

abbrev pub decreases-loop-low : goal.decreases-loop-low
decreases-loop-low l = l.high - l.low
