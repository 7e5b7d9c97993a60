-- What a value of a slot or a value record itself holds. Assumes nothing: these are definitions.
use Rattle.std.specs.Prelude.{Bool, true, false, ◌&&◌, if◌then◌else◌, ◌==◌, List, ℕ, nat_lt, nat_le}
use Rattle.tables.specs.declared.values.Fields.{Fields}
use Rattle.tables.specs.Records.{field}
use Rattle.tables.specs.Values.{triple}
use Rattle.filled.specs.declared.filled.Filled.{Filled}
use Rattle.references.specs.declared.held.Held.{Held}
use Rattle.references.specs.declared.held.Held.TheVariants.{Object, Value, Nothing}

-- value record k of a table: its kind, a and b
abbrev pub value_of : List ℕ → ℕ → Fields
value_of values k = triple (field 3 values k 0) (field 3 values k 1) (field 3 values k 2)

-- the part lists this object
abbrev pub lists_object : Filled → ℕ → Bool
lists_object part o = nat_le part.starts.objects o && nat_lt o part.counts.objects

-- the value record of this number, held weakly or not, if the part lists it and it is earlier than
-- `bound`
abbrev pub value_held : Filled → ℕ → ℕ → Bool → Held
value_held part bound k weak =
    if nat_le part.starts.values k && nat_lt k bound then Value k weak else Nothing

-- By kind 1 a value holds an object, by kind 7, a repeat whatever its count, a value record, and by
-- kind 12 a value record weakly. What the part does not list, and a value record that is not
-- earlier than `bound`, is passed over.
abbrev pub held_of : Filled → ℕ → Fields → Held
held_of part bound v =
    if v.kind == 1 && lists_object part v.a then Object v.a
    else (if v.kind == 7 then value_held part bound v.b false
    else (if v.kind == 12 then value_held part bound v.a true else Nothing))
