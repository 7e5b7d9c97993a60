-- What a value refers to. Assumes nothing: these are definitions.
use Rattle.std.specs.Prelude.{◌≡◌, Bool, false, ◌||◌, ℕ, ◌<◌, ◌≤◌, Option, Some}
use Rattle.tables.specs.declared.values.Fields.{Fields}
use Rattle.tables.specs.Records.{slot_of}
use Rattle.filled.specs.declared.filled.Filled.{Filled}
use Rattle.references.specs.declared.held.Held.TheVariants.{Object, Value}
use Rattle.references.specs.declared.reference.Reference.{Reference}
use Rattle.references.specs.Held.{value_of, held_of}

-- A value refers to the object that it holds, and to what the value record that it holds refers to:
-- weakly if that one is held weakly or refers weakly itself. `bound` is the number of the value
-- record that has the value, or for a slot the count of value records.
pub data Refers (part : Filled) : ℕ → Fields → Bool → ℕ → Type 0 where
  directly : (bound : ℕ) (v : Fields) (o : ℕ)
      → held_of part bound v ≡ Object o
      → Refers part bound v false o
  through : (bound : ℕ) (v : Fields) (k : ℕ) (held_weakly weak : Bool) (o : ℕ)
      → held_of part bound v ≡ Value k held_weakly
      → Refers part k (value_of part.tables.values.now k) weak o
      → Refers part bound v (weak || held_weakly) o

abbrev pub reference_to : ℕ → Bool → Reference
reference_to o weak = record { object = o; weak = weak }

-- the same reference, of a value that holds the one that has it, weakly or not
abbrev pub under : Bool → Reference → Reference
under weak r = reference_to r.object (r.weak || weak)

-- this is the value's reference, or the value has none
pub record IsReference (part : Filled) (bound : ℕ) (v : Fields) (r : Option Reference) : Type 0
  where
    pub there : (o : ℕ) (weak : Bool)
        → r ≡ Some (reference_to o weak)
        → Refers part bound v weak o
    pub only : (o : ℕ) (weak : Bool)
        → Refers part bound v weak o
        → r ≡ Some (reference_to o weak)

-- slot s of the part refers to object o, weakly or strongly
pub record SlotRefers (part : Filled) (s : ℕ) (weak : Bool) (o : ℕ) : Type 0 where
  pub from_start : part.starts.slots ≤ s
  pub below_count : s < part.counts.slots
  pub refers : Refers part part.counts.values (slot_of part.tables.slots.now s).value weak o
