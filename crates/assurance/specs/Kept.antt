-- A record that keeps a value: which. Assumes nothing: these are definitions.
use Rattle.std.specs.Prelude.{◌⊎◌, List, ℕ}
use Rattle.tables.specs.declared.values.Fields.{Fields}
use Rattle.definition.specs.Memory.{in_map, in_slot, in_value, Event, value}
use Rattle.assurance.specs.Words.{Told}

abbrev pub KeptInSlot : List Event → ℕ → Type 0
KeptInSlot es k = (v : Fields) × ((Told es (value v (in_map k))) ⊎ (Told es (value v (in_slot k))))

abbrev pub KeptInValue : List Event → ℕ → Type 0
KeptInValue es k = (v : Fields) × (Told es (value v (in_value k)))
