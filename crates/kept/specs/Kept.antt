-- What the first object of a part keeps. Assumes nothing: these are definitions.
use Rattle.std.specs.Prelude.{◌≡◌, ◌≢◌, ◌↔◌, Bool, true, false, List, ℕ, ◌<◌, slice_index}
use Rattle.filled.specs.declared.filled.Filled.{Filled}
use Rattle.references.specs.References.{SlotRefers}
use Rattle.references.specs.SlotsOf.{owner_of}
use Rattle.kept.specs.declared.keep.Kept.{Kept}
use Rattle.kept.specs.Bytes.{marked_bytes}

-- slot s refers to object q, and that counts: a weak reference does so only where the way may go
-- through weak values
pub record Leads (part : Filled) (through_weak : Bool) (s q : ℕ) : Type 0 where
  pub weak : Bool
  pub refers : SlotRefers part s weak q
  pub counts : weak ≡ true → through_weak ≡ true

-- The objects that the part's first object reaches: itself, and each object that a slot of one of
-- them leads to.
pub data Reached (part : Filled) (through_weak : Bool) : ℕ → Type 0 where
  first : part.starts.objects < part.counts.objects
      → Reached part through_weak part.starts.objects
  next : (s q : ℕ)
      → Reached part through_weak (owner_of part s)
      → Leads part through_weak s q
      → Reached part through_weak q

-- a mark is 1 exactly where the fact holds, and else 0
pub record Marks (IsMarked : ℕ → Type 0) (marks : List ℕ) : Type 0 where
  pub one : (o : ℕ) → slice_index marks o ≡ 1 ↔ IsMarked o
  pub else_zero : (o : ℕ) → slice_index marks o ≢ 1 → slice_index marks o ≡ 0

-- the byte sizes of the objects for which the fact holds, added up: the sum over such marks
pub record IsSumOver (IsMarked : ℕ → Type 0) (part : Filled) (bytes : ℕ) : Type 0 where
  pub marks : List ℕ
  pub are : Marks IsMarked marks
  pub sum : bytes ≡ marked_bytes part marks

-- the marks, and both sums
pub record IsKept (part : Filled) (marks : List ℕ) (kept : Kept) : Type 0 where
  pub marked : Marks (Reached part true) marks
  pub bytes : IsSumOver (Reached part true) part kept.bytes
  pub strong_bytes : IsSumOver (Reached part false) part kept.strong_bytes
