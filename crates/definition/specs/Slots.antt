-- Slots, values and pending forward references. Assumes nothing: these are definitions.
use Rattle.std.specs.Prelude.{if◌then◌else◌, Bool, ◌&&◌, List, ℕ, zero, suc, ◌+◌, ◌-◌, ◌*◌, ◌/◌, eqb, set}
use Rattle.tables.specs.declared.values.SlotValue.{SlotValue}
use Rattle.tables.specs.declared.values.SlotValue.TheVariants.{Repeat, RepeatPrev, Skip, StreamBytes, PendingRef}
use Rattle.tables.specs.declared.values.Fields.{Fields}
use Rattle.tables.specs.Values.{triple, fields_of, width_of}
use Rattle.tables.specs.Records.{field, slot_row, value_row, filled}
use Rattle.definition.specs.Memory.{Input, word, Kept, in_slot, in_value, item, value, resolve, Table, table, Mem, Reader, ◌>>=◌, ◌>>◌, give, change, with_objects, with_slots, with_values, with_pending, with_skip, noted, tell, added, append}

-- ---- records

-- a value record: its number
unfoldable pub add_value : Fields → Reader ℕ
add_value v =
    append 3 (λ m. m.values)
    (λ m. noted (value v (in_value m.values.count)) (with_values (added m.values (value_row v)) m))

-- one slot more in an object's slot count
abbrev pub counted : ℕ → Table → Table
counted o t = table (set t.rows (o * 4 + 3) (field 4 t.rows o 3 + 1)) t.count

-- a slot record of an object: its number. `waits` is 1 for one that waits, else 0; `k` says where
-- the value is then kept
unfoldable pub add_slot : ℕ → ℕ → Fields → ℕ → (ℕ → Kept) → Reader ℕ
add_slot o index v waits k =
    append 6 (λ m. m.slots)
    (λ m. noted (value v (k m.slots.count))
    (with_pending m.pending (m.waiting + waits)
    (with_slots (added m.slots (slot_row o index v waits)) (with_objects (counted o m.objects) m))))

-- ---- pending forward references

-- slot record k waits under a number
abbrev pub waits_for : List ℕ → ℕ → ℕ → Bool
waits_for st number k = eqb (field 6 st k 5) 1 && eqb (field 6 st k 3) number

-- of the first n slots the newest that waits under a number, counted from 1; 0: none does. (In one
-- walk at most one does.)
unfoldable pub waiter : List ℕ → ℕ → ℕ → ℕ
waiter st number zero = 0
waiter st number (suc n) = if waits_for st number n then suc n else waiter st number n

-- when none waits, numbering returns to 0 (difference D9)
abbrev pub renumbered : ℕ → ℕ → ℕ
renumbered pending waiting = if eqb waiting 0 then 0 else pending

-- the slot that waits, counted from 1, becomes this object; 0, an unknown number, changes no slot
-- (differences D8 and D10)
abbrev pub fill_waiter : ℕ → ℕ → Mem → Mem
fill_waiter zero o m = with_pending (renumbered m.pending m.waiting) m.waiting m
fill_waiter (suc k) o m =
    with_pending (renumbered m.pending (m.waiting - 1)) (m.waiting - 1)
    (with_slots (table (filled m.slots.rows k o) m.slots.count) m)

-- a resolve of a number, after the map of object o
unfoldable pub resolved : ℕ → ℕ → Mem → Mem
resolved number o m = noted (resolve number o) (fill_waiter (waiter m.slots.rows number m.slots.count) o m)

-- ---- items of an object, `done` bytes of which have been read

-- only a pending value that is itself the slot waits (difference D11)
abbrev pub waits_of : SlotValue → ℕ
waits_of (PendingRef n) = 1
waits_of v = 0

-- an item that becomes a slot, after the with-skip amount that stands; its index is its first byte
-- divided by the word, rounded down
unfoldable pub keep_item : Input → ℕ → ℕ → SlotValue → Reader ℕ
keep_item x o done v m =
    let start : ℕ = done + m.skip in
    let end : ℕ = start + width_of (word x) v in
    (add_slot o (start / word x) (fields_of v) (waits_of v) in_slot
    >>= (λ k. tell (item o start (width_of (word x) v) k))
    >> change (with_skip 0)
    >> give end) m

-- the value of the previous slot, the newest slot record
abbrev pub previous : Table → Fields
previous t = triple (field 6 t.rows (t.count - 1) 2) (field 6 t.rows (t.count - 1) 3) (field 6 t.rows (t.count - 1) 4)

-- 6.x: a repeat of the previous slot's value, at that moment
abbrev pub repeat_previous : Reader ℕ
repeat_previous m = add_value (previous m.slots) m

-- an item with this value: the bytes read then. A skip makes no slot, and stream bytes neither; a
-- with-skip amount is lost with them
unfoldable pub place_item : Input → ℕ → ℕ → SlotValue → Reader ℕ
place_item x o done (Skip n) = change (with_skip 0) >> give (done + n)
place_item x o done (StreamBytes n) = change (with_skip 0) >> give done
place_item x o done (RepeatPrev n) = repeat_previous >>= (λ k. keep_item x o done (Repeat n k))
place_item x o done v = keep_item x o done v
