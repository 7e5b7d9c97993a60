-- The nearest of some slots of a part. Assumes nothing: these are definitions.
use Rattle.std.specs.Prelude.{◌≡◌, ℕ, ◌<◌, ◌≤◌, Option, Some, None}
use Rattle.filled.specs.declared.nearest.Near.{Near}

-- Of the slots from `start` to below `end` that have a distance, k is the nearest, at this distance:
-- none has a smaller one, and none with a lower number the same.
pub record IsNearest (distance_of : ℕ → Option ℕ) (start end k distance : ℕ) : Type 0 where
  pub from_start : start ≤ k
  pub below_end : k < end
  pub at_distance : distance_of k ≡ Some distance
  pub none_nearer : (j d : ℕ) → start ≤ j → j < end → distance_of j ≡ Some d → distance ≤ d
  pub lower_farther : (j d : ℕ) → start ≤ j → j < k → distance_of j ≡ Some d → distance < d

-- no slot of the part has a distance
abbrev pub NoneNear : (ℕ → Option ℕ) → ℕ → ℕ → Type 0
NoneNear distance_of start end = (j : ℕ) → start ≤ j → j < end → distance_of j ≡ None

-- the nearest slot, or that there is none
abbrev pub Nearest : (ℕ → Option ℕ) → ℕ → ℕ → Option ℕ → Type 0
Nearest distance_of start end (Some k) = (d : ℕ) × IsNearest distance_of start end k d
Nearest distance_of start end None = NoneNear distance_of start end

-- the same, kept with its distance
abbrev pub Tracks : (ℕ → Option ℕ) → ℕ → ℕ → Option Near → Type 0
Tracks distance_of start end (Some near) = IsNearest distance_of start end near.slot near.distance
Tracks distance_of start end None = NoneNear distance_of start end
