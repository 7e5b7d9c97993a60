-- What the functions that make the 256 answers promise each other; no part of the format. Assumes
-- nothing: these are definitions.
use Rattle.std.specs.Prelude.{◌≡◌, List, ℕ, ◌+◌, ◌<◌, ◌≤◌, length}
use Rattle.heads.specs.declared.heads.Head.{Head}
use Rattle.heads.specs.declared.kinds.Kind.{Kind}
use Rattle.heads.specs.declared.order.Argument.{Argument}
use Rattle.heads.specs.Heads.{argument_of, head, head_at}

-- n bytes from `first` on have this kind and their arguments, and all others stay
pub record Assigned (t : List Head) (first n : ℕ) (kind : Kind) (rule : Argument) (mask : ℕ)
    (after : List Head) : Type 0 where
  pub size : length after ≡ length t
  pub inside : (b : ℕ) → first ≤ b → b < first + n
      → head_at after b ≡ head kind (argument_of mask rule first b)
  pub below : (b : ℕ) → b < first → head_at after b ≡ head_at t b
  pub above : (b : ℕ) → first + n ≤ b → b < 256 → head_at after b ≡ head_at t b
