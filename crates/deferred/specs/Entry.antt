-- The part of a deferred entry that is a function of its own in the code. Assumes nothing: these
-- are definitions.
use Rattle.std.specs.Prelude.{if◌then◌else◌, ◌≡◌, false, Option, Some, None, ℕ, eqb}
use Rattle.tables.specs.declared.values.Fields.{Fields}
use Rattle.tables.specs.declared.values.Ref.TheVariants.{Object}
use Rattle.tables.specs.declared.values.SlotValue.{SlotValue}
use Rattle.tables.specs.declared.values.SlotValue.TheVariants.{Ref as IsRef}
use Rattle.tables.specs.Values.{fields_of}
use Rattle.definition.specs.Memory.{Input, Reader, ◌>>=◌, ◌>>◌, give, refuse, byte}
use Rattle.definition.specs.Reference.{legacy_reference}

-- the object that a slot's value is; none where it is anything else
abbrev pub Named : SlotValue → Option ℕ → Type 0
Named v (Some o) = v ≡ IsRef (Object o)
Named v None = eqb (fields_of v).kind 1 ≡ false

-- the object that a deferred entry of a space names
abbrev pub named_by : Fields → Reader ℕ
named_by f = if eqb f.kind 1 then give f.a else refuse 0

abbrev pub entry_object : Input → ℕ → Reader ℕ
entry_object x space = byte x >> legacy_reference x space >>= (λ v. named_by (fields_of v))
