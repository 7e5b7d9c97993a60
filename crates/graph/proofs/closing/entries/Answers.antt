use mathlib.Core.Path.{◌≡◌}
use Rattle.graph.proofs.ClosingLaws.{Answered, loop_aligned, deferred_answer, reference_answer, loop_fault, loop_smaller, loop_turn}
use Rattle.graph.proofs.closing.entries.Goals.{in-Deferred, in-Reference, In-Ok, After-ends_legacy}
use Rattle.graph.proofs.closing.entries.Goals as goal

pub loop-t-preserved-in-Alignment : goal.loop-t-preserved-in-Alignment
loop-t-preserved-in-Alignment c = search loop_aligned

-- the answer to either kind of entry, where it is a value and where it is a refusal
answer : (c : In-Ok) → Answered c.args.w.now c.args.s c.loop-t.w c.loop-t.t c.match-closing_entry.done c.match-closing_entry.w
answer c =
    elim c.match-closing_entry.branch [
      | in-Deferred w ↦ rw (w.w-is, w.done-is) (search deferred_answer)
      | in-Reference w ↦ rw (w.w-is, w.done-is) (search reference_answer)
    ]

refusal : (c : After-ends_legacy) → Answered c.args.w.now c.args.s c.loop-t.w c.loop-t.t c.match-closing_entry.done c.match-closing_entry.w
refusal c =
    elim c.match-closing_entry.branch [
      | in-Deferred w ↦ rw (w.w-is, w.done-is) (search deferred_answer)
      | in-Reference w ↦ rw (w.w-is, w.done-is) (search reference_answer)
    ]

pub loop-t-smaller : goal.loop-t-smaller
loop-t-smaller c = loop_smaller c.loop-t.invariant (answer (goal.at.loop-t-smaller c).In-Ok) c.in-Ok.is

pub loop-t-preserved : goal.loop-t-preserved
loop-t-preserved c = loop_turn c.loop-t.invariant (answer (goal.at.loop-t-preserved c).In-Ok) c.in-Ok.is

-- a fault that ends a legacy section, and any other
pub returns-in-Err-clause-is : goal.returns-in-Err-clause-is
returns-in-Err-clause-is c =
    let w = c.match-closing_entry.w in
    let h = loop_fault c.loop-t.invariant (refusal (goal.at.returns-in-Err-clause-is c).After-ends_legacy) c.in-Err.is in
    rw (← c.if-ends_legacy.ensures w.payload.now w.trusted.now w.spaces) at h

pub returns-in-Err-2-clause-is : goal.returns-in-Err-2-clause-is
returns-in-Err-2-clause-is c =
    let w = c.match-closing_entry.w in
    let h = loop_fault c.loop-t.invariant (refusal (goal.at.returns-in-Err-2-clause-is c).After-ends_legacy) c.in-Err.is in
    let q : c.in-Err.e ≡ c.in-Err-2.e = cc in
    rw (← c.if-ends_legacy.ensures w.payload.now w.trusted.now w.spaces, q) at h
