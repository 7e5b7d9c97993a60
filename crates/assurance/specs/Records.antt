-- What a record of a table holds, in the words of the guarantee. Assumes nothing: these are
-- definitions.
use Rattle.std.specs.Prelude.{if◌then◌else◌, ◌≡◌, ℕ, zero, suc, ◌+◌, ◌*◌, ◌<◌, ◌≤◌, List, eqb, get_or}
use Rattle.tables.specs.declared.values.Fields.{Fields}
use Rattle.tables.specs.Records.{field}
use Rattle.definition.specs.Memory.{Table}

-- slot record k is listed, has this value, and waits or not (1 or 0)
pub record SlotHas (t : Table) (k : ℕ) (v : Fields) (waits : ℕ) : Type 0 where
  pub listed : k < t.count
  pub kind : field 6 t.rows k 2 ≡ v.kind
  pub a : field 6 t.rows k 3 ≡ v.a
  pub b : field 6 t.rows k 4 ≡ v.b
  pub waits_is : field 6 t.rows k 5 ≡ waits

-- value record k is listed and has this value
pub record ValueHas (t : Table) (k : ℕ) (v : Fields) : Type 0 where
  pub listed : k < t.count
  pub kind : field 3 t.rows k 0 ≡ v.kind
  pub a : field 3 t.rows k 1 ≡ v.a
  pub b : field 3 t.rows k 2 ≡ v.b

-- how many of the first n slot records are object o's
unfoldable pub slots_of : List ℕ → ℕ → ℕ → ℕ
slots_of rows o zero = 0
slots_of rows o (suc n) = if eqb o (field 6 rows n 0) then slots_of rows o n + 1 else slots_of rows o n

-- slot record k has this object and index
pub record SlotAt (t : Table) (k o index : ℕ) : Type 0 where
  pub listed : k < t.count
  pub object : field 6 t.rows k 0 ≡ o
  pub place : field 6 t.rows k 1 ≡ index

-- from the last record on a table holds zeros
abbrev pub ZeroRest : ℕ → Table → Type 0
ZeroRest w t = (i : ℕ) → t.count * w ≤ i → get_or t.rows i 0 ≡ 0
