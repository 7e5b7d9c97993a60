-- The four tables, as flat lists of numbers (docs/FORMAT.md, "The tables"). Assumes nothing: these
-- are definitions.
use Rattle.std.specs.Prelude.{if◌then◌else◌, ◌≡◌, Bool, List, [], ◌∷◌, ℕ, ◌+◌, ◌*◌, ◌/◌, ◌^◌, ◌<◌, length, get_or, set, ltb}
use Rattle.std.proofs.lemmas.List.Edits.{sets}
use Rattle.tables.specs.declared.values.Fields.{Fields}
use Rattle.tables.specs.declared.records.Slot.{Slot}
use Rattle.tables.specs.declared.records.Address.{Address}
use Rattle.tables.specs.Values.{triple}

-- the room of a table whose records have so many fields: its length divided by them
abbrev pub room : ℕ → List ℕ → ℕ
room fields t = length t / fields

-- field k of record n, of records with so many fields
abbrev pub field : ℕ → List ℕ → ℕ → ℕ → ℕ
field fields t n k = get_or t (n * fields + k) 0

-- an object's record when it opens: byte size, tag offset, `raw_len`, slot count
abbrev pub object_row : ℕ → ℕ → List ℕ
object_row bytes tag = bytes ∷ tag ∷ 0 ∷ 0 ∷ []

-- a slot's record: object, index, kind, a, b, waits
abbrev pub slot_row : ℕ → ℕ → Fields → ℕ → List ℕ
slot_row object index v waits = object ∷ index ∷ v.kind ∷ v.a ∷ v.b ∷ waits ∷ []

-- a value's record: kind, a, b
abbrev pub value_row : Fields → List ℕ
value_row v = v.kind ∷ v.a ∷ v.b ∷ []

-- an address's record (legacy): space, chunk, offset, object, placed
abbrev pub address_row : ℕ → ℕ → ℕ → ℕ → ℕ → List ℕ
address_row space chunk offset object placed = space ∷ chunk ∷ offset ∷ object ∷ placed ∷ []

-- slot record k of a table
abbrev pub slot_of : List ℕ → ℕ → Slot
slot_of t k =
    record { object = field 6 t k 0; index = field 6 t k 1; value = triple (field 6 t k 2) (field 6 t k 3) (field 6 t k 4); waits = field 6 t k 5 }

-- address record i of a table
abbrev pub address_of : List ℕ → ℕ → Address
address_of t i =
    record { space = field 5 t i 0; chunk = field 5 t i 1; offset = field 5 t i 2; object = field 5 t i 3; placed = field 5 t i 4 }

-- the table with this as its record n; every other number stays
unfoldable pub written : List ℕ → ℕ → List ℕ → List ℕ
written t n row = sets t (n * length row) row

-- there is room for record n
abbrev pub has_room : List ℕ → ℕ → List ℕ → Bool
has_room t n row = ltb n (room (length row) t)

-- a record is put into a table where there is room for it; else the table stays (refusal 3)
pub record Put (t : List ℕ) (n : ℕ) (row : List ℕ) (r : Bool) (after : List ℕ) : Type 0 where
  pub roomy : r ≡ has_room t n row
  pub table : after ≡ (if has_room t n row then written t n row else t)

-- the slot count of object o can take one more
abbrev pub Countable : List ℕ → ℕ → Type 0
Countable t o = field 4 t o 3 < 2 ^ 63

-- object o has one slot more
abbrev pub counted : List ℕ → ℕ → List ℕ
counted t o = set t (o * 4 + 3) (field 4 t o 3 + 1)

-- slot k becomes object o, and waits no more
unfoldable pub filled : List ℕ → ℕ → ℕ → List ℕ
filled t k o = sets t (k * 6 + 2) (1 ∷ o ∷ 0 ∷ 0 ∷ [])
