use mathlib.Core.Path.{sym, ◌∙◌}
use native.Mathlib.Omega.{arith}
use Prim.Native.Nat.{◌-◌}
use Rattle.std.proofs.Common.{inl, inr}
use Rattle.address_index.proofs.FindLaws.{walk_found, walk_other, walk_on, walk_none}
use Rattle.address_index.proofs.search.Search.find.Goals as goal

pub returns-then-is_address : goal.returns-then-is_address
returns-then-is_address c = rw c.address_at.ensures (sym (walk_found c.loop-link.invariant.1 (omega (arith, c.loop-link-test.true)) (omega (arith, c.loop-link-test.true, c.if-link-below.true)) (sym c.is_address.ensures ∙ c.if-is_address.true)))

pub loop-link-preserved : goal.loop-link-preserved
loop-link-preserved c = (omega (arith, c.loop-link.invariant.0, c.if-looks-eq-LOOKS.false), walk_on c.loop-link.invariant.1 (omega (arith, c.loop-link-test.true)) (omega (arith, c.loop-link-test.true, c.if-link-below.true)) (sym c.is_address.ensures ∙ c.if-is_address.false) c.older-link.ensures)

pub returns-else-link-below : goal.returns-else-link-below
returns-else-link-below c = sym (walk_none c.loop-link.invariant.1 (inr (omega (arith, c.if-link-below.false))))

pub returns-after-loop-link : goal.returns-after-loop-link
returns-after-loop-link c = sym (walk_none c.loop-link.invariant.1 (inl (omega (arith, c.loop-link-test.false))))

pub returns-then-bucket_of-b : goal.returns-then-bucket_of-b
returns-then-bucket_of-b c =
    let a = c.args in
    sym (walk_other c.loop-link.invariant.1 {h = c.loop-link.link - 1} (omega (arith, c.loop-link-test.true)) (λ e. c.if-bucket_of-b.true (c.bucket_of.ensures.0 ∙ rw (← a.self.is_most) e ∙ sym c.bucket-b.ensures.0)))
