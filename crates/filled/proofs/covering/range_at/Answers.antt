use Rattle.std.proofs.Common.{arith, sym, ◌∙◌, ◌≡◌}
use Rattle.filled.proofs.RangeLaws.{seen_next, seen_not_raw, seen_gap, raw_slot_listed}
use Rattle.filled.proofs.covering.range_at.Goals as goal

pub loop-k-preserved-in_default : goal.loop-k-preserved-in_default
loop-k-preserved-in_default c =
    seen_not_raw _ _ _ _ _ _ c.loop-k.invariant (raw_slot_listed c.args.filled c.loop-k.k c.loop-k-test.true ∙ sym c.raw_slot.ensures ∙ c.in_default.is)

pub loop-k-preserved : goal.loop-k-preserved
loop-k-preserved c =
    let raw = raw_slot_listed c.args.filled c.loop-k.k c.loop-k-test.true ∙ sym c.raw_slot.ensures ∙ c.in-Some.is in
    let seen = c.loop-k.invariant in
    seen_next _ _ _ _ _ _ _ _ seen (rw raw (sym c.if-contains.ensures))
    (c.nearer-before.ensures _ _ seen.from_start (rw raw (sym c.distance_before.ensures)) seen.before)
    (c.nearer-after.ensures _ _ seen.from_start (rw raw (sym c.distance_after.ensures)) seen.after)

pub returns-clause-found : goal.returns-clause-found
returns-clause-found c =
    let filled = c.args.filled in
    let at_end : filled.counts.slots ≡ c.loop-k.k =
    omega (arith, c.loop-k.auto.k-end (omega (arith, filled.started.slots)), c.loop-k-test.false) in
    rw (at_end, c.slot_of.ensures, c.slot_of-2.ensures) (seen_gap _ _ _ _ _ _ c.loop-k.invariant)
