-- The closing section, with legacy deferred entries, and the padding after it. Assumes nothing:
-- these are definitions.
use Rattle.std.specs.Prelude.{if◌then◌else◌, Bool, true, false, not, ◌&&◌, ◌||◌, ℕ, zero, suc, ◌+◌, ◌-◌, ◌/◌, max, leb, eqb, length}
use Rattle.sheet.specs.Sheet.{is_legacy}
use Rattle.sheet.specs.declared.tests.Closing.{Closing}
use Rattle.sheet.specs.declared.tests.Closing.TheVariants.{Synchronize, Alignment, Deferred, Reference}
use Rattle.sheet.specs.Tests.{closing_of, is_nop}
use Rattle.tables.specs.declared.values.SlotValue.{SlotValue}
use Rattle.tables.specs.declared.values.SlotValue.TheVariants.{Repeat, Skip}
use Rattle.tables.specs.declared.values.Fields.{Fields}
use Rattle.tables.specs.Values.{triple, fields_of, width_of}
use Rattle.tables.specs.Records.{field}
use Rattle.definition.specs.Memory.{Input, word, in_slot, dropped, value, begins, synchronize, Table, Out, got, no, Reader, ◌>>=◌, ◌>>◌, give, change, refuse, refuse_at, aligned, tell, byte, int}
use Rattle.definition.specs.Slots.{add_slot}
use Rattle.definition.specs.Object.{peek}
use Rattle.definition.specs.Reference.{legacy_reference, ref_at}

-- ---- legacy deferred entries (differences D23, D24, D25, D26): a new-object byte, a back-reference of that space, a size, and slots

-- a slot of an entry: what a repeat holds, else the value itself
abbrev pub entry_fields : Table → SlotValue → Fields
entry_fields values (Repeat n k) = triple (field 3 values.rows k 0) (field 3 values.rows k 1) (field 3 values.rows k 2)
entry_fields values v = fields_of v

abbrev pub is_skip : SlotValue → Bool
is_skip (Skip n) = true
is_skip v = false

-- n slots with the same value, from an index on; none waits
unfoldable pub add_slots : ℕ → Fields → ℕ → ℕ → Reader (Unit {0})
add_slots o v index zero = give tt
add_slots o v index (suc n) = add_slot o index v 0 in_slot >> add_slots o v (index + 1) n

-- how many slots an item makes: its words, one at least; a skip none
abbrev pub entry_slots : Input → SlotValue → ℕ
entry_slots x v = if is_skip v then 0 else max (width_of (word x) v / word x) 1

-- what it adds to the count: its bytes, one word at least; a skip its bytes. The count is then
-- compared with words
abbrev pub entry_count : Input → SlotValue → ℕ
entry_count x v = if is_skip v then width_of (word x) v else max (width_of (word x) v) (word x)

-- the slots of an item
abbrev pub entry_item : Input → ℕ → ℕ → SlotValue → Reader (Unit {0})
entry_item x o index v m = add_slots o (entry_fields m.values v) index (entry_slots x v) m

-- items while the count is below the size; each reads a byte at least. A with-skip amount stays for
-- the next object's slot
unfoldable pub entry_items : Input → ℕ → ℕ → ℕ → ℕ → ℕ → Reader (Unit {0})
entry_items x o size zero index done = give tt
entry_items x o size (suc n) index done =
    if leb size done then give tt
    else (ref_at x 64
    >>= (λ v. entry_item x o index v >> entry_items x o size n (index + entry_slots x v) (done + entry_count x v)))

-- the object's slots go on from its slot count; the count starts at 1
abbrev pub entry_body : Input → ℕ → ℕ → Reader (Unit {0})
entry_body x o size m =
    entry_items x o size (length x.payload - m.at + 1) (max (field 4 m.objects.rows o 3) 1) 1 m

-- a back-reference that finds no object ends the section without a number
abbrev pub entry_of : Input → Fields → Reader (Unit {0})
entry_of x f = if eqb f.kind 1 then int x >>= entry_body x f.a else refuse 0

unfoldable pub entry : Input → ℕ → Reader (Unit {0})
entry x space = byte x >> legacy_reference x space >>= (λ v. entry_of x (fields_of v))

-- ---- the section

-- a reference at depth 0; its value is dropped
abbrev pub drop_reference : Input → Reader (Unit {0})
drop_reference x = ref_at x 65 >>= (λ v. tell (value (fields_of v) dropped))

-- in a legacy closing section any fault but 3 and 16 only ends it
abbrev pub ends_legacy : Input → ℕ → Bool
ends_legacy x n = is_legacy x.sheet && not (eqb n 3 || eqb n 16)

-- after an entry: k reads on; a fault ends a legacy section where it left the cursor, and refuses
-- otherwise
abbrev pub after_entry : Input → Reader (Unit {0}) → Out (Unit {0}) → Out (Unit {0})
after_entry x k (got v m) = k m
after_entry x k (no n q m) = (if ends_legacy x n then give tt else refuse_at n q) m

-- one entry, by the byte at the cursor; k reads what follows
abbrev pub by_entry : Input → Reader (Unit {0}) → Closing → Reader (Unit {0})
by_entry x k Synchronize m = (tell (synchronize m.at) >> byte x >> give tt) m
by_entry x k (Alignment a) m = (byte x >> change (aligned a) >> k) m
by_entry x k (Deferred space) m = after_entry x k (entry x space m)
by_entry x k Reference m = after_entry x k (drop_reference x m)

-- entries until kSynchronize; where each begins is told, and each reads a byte at least. The
-- payload's end: refusal 13, in legacy the section ends
unfoldable pub entries : Input → ℕ → Reader (Unit {0})
entries x zero m = give tt m
entries x (suc n) m =
    (if leb (length x.payload) m.at then (if is_legacy x.sheet then give tt else refuse_at 13 (length x.payload))
    else (tell (begins m.at) >> by_entry x (entries x n) (closing_of x.sheet (peek x m))))
    m

-- only kNop after it (else refusal 14 at that byte, in legacy the reading ends; difference D21)
unfoldable pub padding : Input → ℕ → Reader (Unit {0})
padding x zero m = give tt m
padding x (suc n) m =
    (if leb (length x.payload) m.at then give tt
    else if is_nop x.sheet (peek x m) then byte x >> padding x n
    else if is_legacy x.sheet then give tt else refuse 14)
    m

-- the closing section and what follows it (differences D17, D22)
unfoldable pub closing : Input → Reader (Unit {0})
closing x =
    (λ m. entries x (length x.payload - m.at + 1) m) >> (λ m. padding x (length x.payload - m.at) m)
