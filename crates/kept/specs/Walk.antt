-- The walk with what scratch has. Assumes nothing: these are definitions.
use Rattle.std.specs.Prelude.{◌≡◌, ◌⊎◌, Bool, List, ℕ, ◌+◌, ◌-◌, ◌*◌, ◌<◌, ◌≤◌, length, slice_index}
use Rattle.filled.specs.declared.filled.Filled.{Filled}
use Rattle.references.specs.Found.{HasFound}
use Rattle.references.specs.SlotsOf.{owner_of, HasLists}
use Rattle.kept.specs.declared.walk.Index.{Index}
use Rattle.kept.specs.Bytes.{object_count}
use Rattle.kept.specs.Kept.{Leads}
use Rattle.kept.specs.Marking.{Marking, marked_count}

-- how many numbers of scratch the walk takes
abbrev pub scratch_of : Filled → ℕ
scratch_of part =
    (part.counts.values - part.starts.values) + (part.counts.slots - part.starts.slots)
    + 2 * object_count part

-- the references and lists of the part
pub record Indexed (index : Index) : Type 0 where
  pub found_room : index.filled.counts.values - index.filled.starts.values ≤ length index.found.now
  pub first_room : object_count index.filled ≤ length index.first.now
  pub next_room : index.filled.counts.slots - index.filled.starts.slots ≤ length index.next.now
  pub found : HasFound index.filled index.filled.counts.values index.found.now
  pub lists : HasLists index.filled index.filled.starts.slots index.first.now index.next.now

-- the queue has a place for each object of the part
abbrev pub Roomy : Filled → List ℕ → Type 0
Roomy part queue = object_count part ≤ length queue

-- whatever a slot of object o leads to is marked
abbrev pub IsClosedAt : Filled → Bool → List ℕ → ℕ → Type 0
IsClosedAt part through_weak marks o =
    (s q : ℕ) → owner_of part s ≡ o → Leads part through_weak s q → slice_index marks q ≡ 1

-- object o stands in the queue and its slots have not been looked at
pub record Waits (queue : List ℕ) (done met o : ℕ) : Type 0 where
  pub place : ℕ
  pub not_done : done ≤ place
  pub is_met : place < met
  pub is : slice_index queue place ≡ o

-- the queue has the objects that are met, and each marked one either waits in it or is closed
pub record Walk (part : Filled) (through_weak : Bool) (marks queue : List ℕ) (done met : ℕ) : Type 0
  where
    pub marking : Marking part through_weak marks
    pub count : met ≡ marked_count part marks
    pub done_low : done ≤ met
    pub marked : (i : ℕ) → i < met → slice_index marks (slice_index queue i) ≡ 1
    pub closed_or_waits : (o : ℕ)
        → slice_index marks o ≡ 1
        → IsClosedAt part through_weak marks o ⊎ Waits queue done met o
