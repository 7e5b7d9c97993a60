-- A leaf as a reference one level down, or as an item: what its readers leave, also where they
-- found none. Assumes nothing.
use mathlib.Core.Path.{◌≡◌, sym, subst}
use Prim.Native.Nat.{ℕ, suc, ◌-◌, ◌<◌}
use native.Mathlib.Omega.{arith}
use Rattle.definition.specs.Memory.{Input, Mem}
use Rattle.definition.specs.Reference.{reference, ref_at}
use Rattle.std.specs.Prelude.{Ok, Some}
use Rattle.readers.specs.declared.state.State.{State}
use Rattle.readers.specs.declared.walker.Walker.{Walker}
use Rattle.readers.specs.Views.{Lent, mem}
use Rattle.readers.specs.Lent.{input_of, lent_of, Kept}
use Rattle.objects.specs.declared.item.Level.{Level}
use Rattle.leaves.specs.Leaf.{slot_in, StaysInOrder}
use Rattle.walker.specs.Ready.{Ready, After}
use Rattle.walker.proofs.ScratchLaws.{InOrder, scratch_of, order_of, same_scratch, ready_on}

-- a reference at depth d where levels are left, as it is and as an item
module _ (x : Input) (d : ℕ) (m : Mem) where
  pub one_level : d < 64 → reference x (ref_at x (63 - d)) m ≡ ref_at x (64 - d) m
  unfolding ref_at
  one_level low = let e : 64 - d ≡ suc (63 - d) = omega arith in rw e

  pub leaf_slot : (l : Level) → d < 64 → slot_in x (reference x (ref_at x (63 - d))) l.object l.done m ≡ slot_in x (ref_at x (64 - d)) l.object l.done m
  leaf_slot l low = rw (one_level low)

  pub weak_slot : (l : Level) → d < 63 → slot_in x (reference x (reference x (ref_at x (62 - d)))) l.object l.done m ≡ slot_in x (ref_at x (64 - d)) l.object l.done m
  unfolding ref_at
  weak_slot l low = let e : 64 - d ≡ suc (suc (62 - d)) = omega arith in rw e

-- what a leaf's reader leaves
pub leaf_after : {A : Type 0} {w w' : Walker} {s : State} → Ready w s → (r : A × State) → Kept w w' → StaysInOrder w s (Some r) w' → After w (Ok r) w'
leaf_after g r k o = record { fixed = k.0; indexed = o.0 g.indexed; linked = o.1 g.linked }

-- where none was found, nothing changed
module _ {w w' : Walker} {s : State} (k : Kept w w') (e : lent_of w' ≡ lent_of w) where
  pub ready_still : Ready w s → Ready w' s
  ready_still g =
      ready_on k.0 (subst (λ (l : Lent). InOrder (input_of w) w.heads.now (mem s l) (scratch_of w')) (sym e) (rw (same_scratch w w' k.1) (order_of g)))
