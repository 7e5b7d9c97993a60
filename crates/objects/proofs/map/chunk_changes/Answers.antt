use mathlib.Core.Path.{refl}
use Rattle.std.proofs.Common.{rules}
use native.Mathlib.Omega.{arith}
use Rattle.objects.proofs.MapLaws.{changes_start, changes_none, changes_else, changes_within, changes_again}
use Rattle.objects.proofs.map.chunk_changes.Goals as goal

pub loop-p-init : goal.loop-p-init
loop-p-init c = changes_start _ _ _ c.requires.1 c.requires.2

pub returns-after-loop-p-clause-is : goal.returns-after-loop-p-clause-is
returns-after-loop-p-clause-is c = changes_none _ _ _ c.loop-p.invariant c.peek.ensures c.is_tag.ensures c.loop-p-test.false

pub returns-else-peek-space-clause-is : goal.returns-else-peek-space-clause-is
returns-else-peek-space-clause-is c = changes_else _ _ _ c.loop-p.invariant c.peek.ensures c.is_tag.ensures c.loop-p-test.true c.peek-in-loop-p.ensures c.if-peek-space.false

pub loop-p-smaller : goal.loop-p-smaller
loop-p-smaller c = omega (arith, changes_within _ _ _ c.loop-p.invariant c.peek.ensures c.is_tag.ensures c.loop-p-test.true c.peek-in-loop-p.ensures c.requires.0 c.if-peek-space.true)

pub loop-p-preserved : goal.loop-p-preserved
loop-p-preserved c =
    let i = c.loop-p.invariant in
    changes_again _ _ _ i c.peek.ensures c.is_tag.ensures c.loop-p-test.true c.peek-in-loop-p.ensures c.requires.0 c.if-peek-space.true c.next_chunk.ensures refl (search rules)
