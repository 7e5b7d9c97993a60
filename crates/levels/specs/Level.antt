-- Objects within objects, as the loop over them keeps them. Assumes nothing: these are definitions.
use Rattle.std.specs.Prelude.{ℕ, ◌<◌}
use Rattle.readers.specs.declared.walker.Walker.{Walker}
use Rattle.objects.specs.declared.head.NewObject.{NewObject}
use Rattle.objects.specs.Head.{NewAt}

-- the byte at the cursor is the head of this new object; depth and room are left
pub record Begins (w : Walker) (at d kept : ℕ) (new : NewObject) : Type 0 where
  pub head : NewAt w at new
  pub deep : d < 64
  pub roomy : kept < 8
