-- `Assigned` byte by byte: none, one more, all. Assumes nothing.
use mathlib.Core.Path.{◌≡◌, refl, ◌∙◌}
use mathlib.Core.List.{List}
use mathlib.Core.Logic.{◌⊎◌, inl, inr}
use Prim.Native.Nat.{ℕ, ◌+◌, ◌-◌, ◌<◌, ◌≤◌}
use native.Mathlib.Nat.{eq-or-lt_of_le}
use native.Mathlib.Omega.{arith}
use lib.ListN.{length, set, length-set}
use lib.Seq.{get_or-set_same, get_or-set_other}
use Rattle.heads.specs.declared.heads.Head.{Head}
use Rattle.heads.specs.declared.kinds.Kind.{Kind}
use Rattle.heads.specs.declared.order.Argument.{Argument}
use Rattle.heads.specs.Heads.{argument_of, head, no_head, head_at}
use Rattle.heads.specs.Assigning.{Assigned}

module _ (t : List Head) (first : ℕ) (kind : Kind) (rule : Argument) (mask : ℕ) where
  pub assigned_none : (n : ℕ) → n ≡ 0 → Assigned t first n kind rule mask t
  assigned_none n e =
      record { size = refl; inside = λ b h l. absurd (omega arith); below = λ b h. refl; above = λ b h l. refl }

  module _ (after : List Head) (b x : ℕ) (size : length t ≡ 256) (low : first ≤ b) (small : b < 256) (e : x ≡ argument_of mask rule first b) (d : Assigned t first (b - first) kind rule mask after) where
    has : Head
    has = record { kind = kind; argument = x }

    after_size : length after ≡ 256
    after_size = d.size ∙ size

    more-inside : (k : ℕ) → first ≤ k → (k ≡ b) ⊎ (k < b) → head_at (set after b has) k ≡ head kind (argument_of mask rule first k)
    unfolding has
    more-inside k h (inl q) = rw q (get_or-set_same after b has no_head (omega (arith, after_size)) ∙ rw e)
    more-inside k h (inr l) = get_or-set_other after b k has no_head (omega arith) ∙ d.inside k h (omega arith)

    more-other : (k : ℕ) → (k ≡ b → ⊥) → head_at after k ≡ head_at t k → head_at (set after b has) k ≡ head_at t k
    more-other k n w = get_or-set_other after b k has no_head n ∙ w

    pub assigned_more : Assigned t first (b + 1 - first) kind rule mask (set after b (record { kind = kind; argument = x }))
    unfolding has
    assigned_more =
        record { size = simp length-set d.size; inside = λ k h l. more-inside k h (eq-or-lt_of_le (omega arith)); below = λ k h. more-other k (omega arith) (d.below k h); above = λ k h l. more-other k (omega arith) (d.above k (omega arith) l) }

-- equal numbers, the same assignment
pub assigned_as : {t after : List Head} {kind : Kind} {rule : Argument} {first first' n n' mask mask' : ℕ} → first ≡ first' → n ≡ n' → mask ≡ mask' → Assigned t first n kind rule mask after → Assigned t first' n' kind rule mask' after
assigned_as f n m d = rw (← f, ← n, ← m) d
