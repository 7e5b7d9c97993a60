-- A weak reference to a leaf, read without the readers of every reference. Assumes nothing: these
-- are definitions.
use Rattle.std.specs.Prelude.{◌≡◌, ℕ, ◌+◌, ◌<◌, length, get_or, Some}
use Rattle.heads.specs.Heads.{head_at}
use Rattle.heads.specs.declared.kinds.Kind.TheVariants.{WeakPrefix}
use Rattle.readers.specs.declared.state.State.{State}
use Rattle.readers.specs.declared.walker.Walker.{Walker}
use Rattle.leaves.specs.declared.leaf.Leaf.{Leaf}
use Rattle.leaves.specs.Leaf.{LeafAt, LeafByte, kind_at}

-- a weak prefix stands at the cursor and the leaf after it; two levels below depth d a reference is
-- not refused
pub record WeakAt (w : Walker) (s : State) (d : ℕ) (r : Leaf) : Type 0 where
  pub deep : d < 63
  pub there : (s.at < length w.payload.now) × (get_or w.payload.now s.at 0 < 256)
  pub weak : (head_at w.heads.now (get_or w.payload.now s.at 0)).kind ≡ WeakPrefix
  pub leaf : LeafAt w (s.at + 1) s.objects (Some r)

-- a weak prefix stands at a place, and after it the head of what may be a leaf
pub record WeakByte (w : Walker) (at : ℕ) : Type 0 where
  pub low : get_or w.payload.now at 0 < 256
  pub weak : kind_at w at ≡ WeakPrefix
  pub leaf : LeafByte w (at + 1)
