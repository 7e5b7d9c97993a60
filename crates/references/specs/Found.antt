-- References of value records, as numbers in scratch. Assumes nothing: these are definitions.
use Rattle.std.specs.Prelude.{if◌then◌else◌, ◌==◌, List, ℕ, ◌-◌, ◌/◌, ◌%◌, ◌<◌, ◌≤◌, nat_lt, Option, Some, None, slice_index}
use Rattle.filled.specs.declared.filled.Filled.{Filled}
use Rattle.references.specs.declared.reference.Reference.{Reference}
use Rattle.references.specs.Held.{value_of}
use Rattle.references.specs.References.{reference_to, IsReference}

-- twice the object's number plus 2, and 1 more if the reference is weak; 0 for none
abbrev pub unpacked_of : ℕ → Option Reference
unpacked_of n = if nat_lt n 2 then None else Some (reference_to (n / 2 - 1) (n % 2 == 1))

-- the references of the value records of the part below n
pub record HasFound (part : Filled) (n : ℕ) (found : List ℕ) : Type 0 where
  pub of_value : (k : ℕ)
      → part.starts.values ≤ k
      → k < n
      → IsReference part k (value_of part.tables.values.now k)
      (unpacked_of (slice_index found (k - part.starts.values)))
