use Rattle.std.proofs.Common.{◌+◌, ◌-◌, ◌*◌, length}
use Rattle.walker.proofs.NestLaws.{Nest}
use Rattle.walker.proofs.walk.+walk.Given as goal

abbrev pub decreases-parse_ref : goal.decreases-parse_ref
decreases-parse_ref l = 6 * (65 - l.d) + 5

abbrev pub decreases-parse_object : goal.decreases-parse_object
decreases-parse_object l = 6 * (65 - l.d) + 4

abbrev pub decreases-parse_head : goal.decreases-parse_head
decreases-parse_head l = 6 * (65 - l.d) + 3

abbrev pub decreases-parse_items : goal.decreases-parse_items
decreases-parse_items l = 6 * (65 - l.d) + 3

abbrev pub decreases-parse_long_head : goal.decreases-parse_long_head
decreases-parse_long_head l = 6 * (65 - l.d) + 2

abbrev pub decreases-parse_item : goal.decreases-parse_item
decreases-parse_item l = 6 * (65 - l.d) + 2

abbrev pub decreases-parse_map : goal.decreases-parse_map
decreases-parse_map l = 6 * (65 - l.d) + 1

abbrev pub decreases-parse_slot : goal.decreases-parse_slot
decreases-parse_slot l = 6 * (65 - l.d) + 1

abbrev pub decreases-parse_inner : goal.decreases-parse_inner
decreases-parse_inner l = 6 * (65 - l.d)

-- what is left to read gives what the whole object gives
abbrev pub invariant-parse_items-loop-level : goal.invariant-parse_items-loop-level
invariant-parse_items-loop-level l =
    Nest l.fn.w l.fn.s l.d l.fn.whole l.outer.items l.level l.w l.t

-- each iteration reads a byte, or ends a level
abbrev pub decreases-parse_items-loop-level : goal.decreases-parse_items-loop-level
decreases-parse_items-loop-level l = 2 * (length l.w.payload.now - l.t.at) + length l.outer.items
