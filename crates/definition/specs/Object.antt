-- An object: its head, map, resolves and items. Assumes nothing: these are definitions. Where the
-- Rust leaves V8 here: an object is numbered before its map is read (D1, D2, D3), its map is any
-- value and one word (D4), resolves stand directly after the map (D5, D7), kNop is no item (D6),
-- kDeferred may stand before any item (D34); docs/DIFFERENCES.md.
use Rattle.std.specs.Prelude.{if◌then◌else◌, Bool, false, not, ◌&&◌, ℕ, zero, suc, ◌+◌, ◌-◌, ◌*◌, leb, eqb, length, get_or, set}
use Rattle.stream.specs.Bytes.{peek_at}
use Rattle.sheet.specs.Sheet.{is_legacy, is_six_x, is_map_first, lo_space}
use Rattle.sheet.specs.Tests.{is_resolve, is_deferred, is_next_chunk, alignment_of}
use Rattle.tables.specs.declared.values.Ref.{Ref}
use Rattle.tables.specs.declared.values.Ref.TheVariants.{Object, Root}
use Rattle.tables.specs.declared.values.SlotValue.{SlotValue}
use Rattle.tables.specs.declared.values.SlotValue.TheVariants.{Ref as IsRef}
use Rattle.tables.specs.Values.{fields_of}
use Rattle.tables.specs.Records.{object_row}
use Rattle.alloc.specs.Allocation.{Outcome, allocate_of, next_chunk}
use Rattle.definition.specs.Memory.{Input, word, in_map, opened, item, Table, table, Mem, Reader, ◌>>=◌, ◌>>◌, give, change, refuse, refuse_at, moved, with_objects, with_alloc, aligned, noted, tell, byte, int, added, append}
use Rattle.definition.specs.Slots.{add_slot, resolved, place_item}

-- the byte at the cursor; 256 where none is left
abbrev pub peek : Input → Mem → ℕ
peek x m = peek_at x.payload m.at

-- ---- the head

-- an object record: its number
unfoldable pub add_object : Input → ℕ → ℕ → Reader ℕ
add_object x tag words =
    append 4 (λ m. m.objects)
    (λ m. noted (opened tag words) (with_objects (added m.objects (object_row (words * word x) tag)) m))

-- a 6.x large-object header has one more byte
abbrev pub large_byte : Input → ℕ → Reader (Unit {0})
large_byte x space = if is_six_x x.sheet && eqb space (lo_space x.sheet) then byte x >> give tt else give tt

-- ---- legacy allocation

-- a space goes on in its next chunk, at offset 0
abbrev pub change_chunk : Input → ℕ → Mem → Mem
change_chunk x space m = with_alloc m.addresses m.alignment (next_chunk m.alloc x.spaces space) m

abbrev pub after_allocation : Outcome → Reader (Unit {0})
after_allocation r m =
    (if eqb r.number 0 then change (with_alloc (table r.table (m.addresses.count + 1)) r.alignment r.alloc)
    else refuse r.number)
    m

-- an address record: refusals 3 and 16
unfoldable pub allocate : Input → ℕ → ℕ → ℕ → Reader (Unit {0})
allocate x space bytes o m =
    after_allocation
    (allocate_of m.addresses.rows m.addresses.count x.spaces
    (record { space = space; size = bytes; object = o; alignment = m.alignment; word = word x })
    m.alloc)
    m

-- after a map that comes first, at most one alignment prefix
abbrev pub alignment_byte : Input → Reader (Unit {0})
alignment_byte x m =
    (if eqb (alignment_of x.sheet (peek x m)) 0 then give tt
    else (change (λ m. aligned (alignment_of x.sheet (peek x m)) (moved (m.at + 1) m))))
    m

-- then chunk changes, as long as they name the object's own space (difference D33), n at most
unfoldable pub chunk_changes : Input → ℕ → ℕ → Reader (Unit {0})
chunk_changes x space zero m = give tt m
chunk_changes x space (suc n) m =
    (if is_next_chunk x.sheet (peek x m) && eqb (peek_at x.payload (m.at + 1)) space then change (λ m. change_chunk x space (moved (m.at + 2) m)) >> chunk_changes x space n
    else give tt)
    m

-- ---- the map

-- a map that comes first (V8 8.7): map, alignment, chunk changes, then allocation. The alignment
-- that stood before it is not the map's
unfoldable pub map_first : Input → Reader SlotValue → ℕ → ℕ → ℕ → Reader SlotValue
map_first x r space bytes o m =
    (r >>= (λ v.
    change (aligned m.alignment)
    >> alignment_byte x
    >> (λ m. chunk_changes x space (length x.payload - m.at) m)
    >> allocate x space bytes o
    >> give v)) m

-- other legacy sheets allocate after the map
abbrev pub map_then_allocate : Input → Reader SlotValue → ℕ → ℕ → ℕ → Reader SlotValue
map_then_allocate x r space bytes o = r >>= (λ v. allocate x space bytes o >> give v)

abbrev pub read_map : Input → Reader SlotValue → ℕ → ℕ → ℕ → Reader SlotValue
read_map x r space bytes o =
    if is_map_first x.sheet then map_first x r space bytes o
    else if is_legacy x.sheet then map_then_allocate x r space bytes o else r

-- a root that the trusted list flags
abbrev pub is_trusted : Input → Ref → Bool
is_trusted x (Root i) = not (eqb (get_or x.trusted i 0) 0)
is_trusted x r = false

-- a map that is such a root
abbrev pub flags : Input → SlotValue → Bool
flags x (IsRef r) = is_trusted x r
flags x v = false

-- `raw_len` of an object with such a map is 1 (difference D44)
abbrev pub flagged : ℕ → Table → Table
flagged o t = table (set t.rows (o * 4 + 2) 1) t.count

unfoldable pub flag_object : Input → ℕ → SlotValue → Reader (Unit {0})
flag_object x o v = if flags x v then change (λ m. with_objects (flagged o m.objects) m) else give tt

-- slot 0 is the map, whatever its value: one word
unfoldable pub keep_map : Input → ℕ → SlotValue → Reader (Unit {0})
keep_map x o v = flag_object x o v >> add_slot o 0 (fields_of v) 0 in_map >>= (λ k. tell (item o 0 (word x) k))

-- ---- resolves and items

-- resolves directly after the map, n at most
unfoldable pub resolves : Input → ℕ → ℕ → Reader (Unit {0})
resolves x o zero m = give tt m
resolves x o (suc n) m =
    (if is_resolve x.sheet (peek x m) then byte x >> int x >>= (λ number. change (resolved number o)) >> resolves x o n
    else give tt)
    m

-- items until `done` bytes have filled `size`: the bytes read then. Each reads a byte at least, so
-- the bytes left bound their number. kDeferred ends the object early: what is missing counts as
-- read
unfoldable pub items : Input → Reader SlotValue → ℕ → ℕ → ℕ → ℕ → Reader ℕ
items x r o size zero done m = give done m
items x r o size (suc n) done m =
    (if leb size done then give done
    else if is_deferred x.sheet (peek x m) then byte x >> give size
    else (r >>= place_item x o done >>= items x r o size n))
    m

-- the bytes read are the declared ones; else refusal 12 at the object's tag
abbrev pub closed : ℕ → ℕ → ℕ → ℕ → Reader SlotValue
closed o tag size done = if eqb done size then give (IsRef (Object o)) else refuse_at 12 tag

-- what comes after an object's head: map, resolves, items. r reads references, one level deeper
unfoldable pub body : Input → Reader SlotValue → ℕ → ℕ → ℕ → ℕ → Reader SlotValue
body x r space tag words o =
    read_map x r space (words * word x) o
    >>= keep_map x o
    >> (λ m. resolves x o (length x.payload - m.at) m)
    >> (λ m. items x r o (words * word x) (length x.payload - m.at + 1) (word x) m)
    >>= closed o tag (words * word x)

-- an object whose head byte stands at `tag`, with the cursor after that byte
unfoldable pub object : Input → Reader SlotValue → ℕ → ℕ → Reader SlotValue
object x r space tag =
    int x >>= (λ words. large_byte x space >> add_object x tag words >>= body x r space tag words)
