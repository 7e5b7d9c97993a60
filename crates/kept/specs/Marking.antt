-- Marks while they are made. Assumes nothing: these are definitions.
use Rattle.std.specs.Prelude.{◌≡◌, ◌≢◌, Bool, not, ◌||◌, if◌then◌else◌, List, ℕ, ◌<◌, ◌≤◌, length, slice_index, slice_set, Option, Some, None}
use Rattle.filled.specs.declared.filled.Filled.{Filled}
use Rattle.references.specs.declared.reference.Reference.{Reference}
use Rattle.references.specs.SlotsOf.{owner_of}
use Rattle.kept.specs.Bytes.{total_from, object_count}
use Rattle.kept.specs.Kept.{Leads, Reached}

-- how many objects of the part are marked
abbrev pub marked_count : Filled → List ℕ → ℕ
marked_count part marks = total_from (slice_index marks) part.starts.objects (object_count part)

-- the part's first object is marked, and each object that is marked is reached
pub record Marking (part : Filled) (through_weak : Bool) (marks : List ℕ) : Type 0 where
  pub room : part.counts.objects ≤ length marks
  pub reached : (o : ℕ) → slice_index marks o ≡ 1 → Reached part through_weak o
  pub bit : (o : ℕ) → slice_index marks o ≢ 1 → slice_index marks o ≡ 0
  pub first : part.starts.objects < part.counts.objects
      → slice_index marks part.starts.objects ≡ 1

-- nothing but the part's first object is marked
pub record OnlyFirst (part : Filled) (marks : List ℕ) (met : ℕ) : Type 0 where
  pub only : (o : ℕ) → slice_index marks o ≡ 1 → o ≡ part.starts.objects
  pub one : (o : ℕ) → slice_index marks o ≡ 1 → met ≡ 1
  pub at_most_one : met ≤ 1
  pub count : met ≡ marked_count part marks
  pub there : 0 < met → part.starts.objects < part.counts.objects

-- more objects are marked than before
pub record HasMore (part : Filled) (marks after : List ℕ) : Type 0 where
  pub more : marked_count part marks < marked_count part after

-- this is the object that the slot leads to, or it leads to none
pub record IsTarget (part : Filled) (through_weak : Bool) (s : ℕ) (object : Option ℕ) : Type 0 where
  pub there : (q : ℕ) → object ≡ Some q → Leads part through_weak s q
  pub only : (q : ℕ) → Leads part through_weak s q → object ≡ Some q

-- if the slot's object is marked, so is the one that the slot leads to
abbrev pub IsClosedAtSlot : Filled → Bool → List ℕ → ℕ → Type 0
IsClosedAtSlot part through_weak marks s =
    (q : ℕ)
    → Leads part through_weak s q
    → slice_index marks (owner_of part s) ≡ 1
    → slice_index marks q ≡ 1

-- whatever a slot of a marked object leads to is marked
pub record Closed (part : Filled) (through_weak : Bool) (marks : List ℕ) : Type 0 where
  pub at_slot : (s : ℕ) → IsClosedAtSlot part through_weak marks s

-- the object of a reference, if it counts
abbrev pub counted_of : Bool → Option Reference → Option ℕ
counted_of through_weak (Some r) = if through_weak || not r.weak then Some r.object else None
counted_of through_weak None = None

-- an object that was not marked is marked; or there was none
abbrev pub Meets : List ℕ → Option ℕ → Option ℕ → List ℕ → Type 0
Meets marks object (Some q) after =
    (object ≡ Some q) × (slice_index marks q ≢ 1) × (after ≡ slice_set marks q 1)
Meets marks object None after =
    ((q : ℕ) → object ≡ Some q → slice_index marks q ≡ 1) × (after ≡ marks)
