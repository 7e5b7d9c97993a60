-- What a reader has and gives, and the steps that readers are made of. Assumes nothing: these are
-- definitions.
--
-- How to read these files. A reader takes what it has (`Mem`) and gives a value, or a refusal
-- (`Out`). `r >>= f` is r and then f on the value that r gave; `r >> s` is r and then s; `λ m. ..`
-- is a function of m. `ltb`, `leb` and `eqb` test <, ≤ and =; `a - b` is 0 where b is greater;
-- `get_or l i d` is number i of the list l, or d past its end; `set l i n` is l with n as number i;
-- `Unit` stands for no value. Where a reader repeats a step, a number that falls bounds the
-- repetitions; it is chosen so large that it is never used up. `abbrev` and `unfoldable` both
-- define; they differ in when a proof computes with the definition. Order: Memory, Slots, Object,
-- Reference, Closing, Call, and Cases with the examples.
use Rattle.std.specs.Prelude.{if◌then◌else◌, Bool, List, ◌∷◌, ℕ, ◌+◌, ltb, length, get_or, Option, Some, None}
use Rattle.stream.specs.declared.putint.Int.{Int}
use Rattle.std.specs.Int.{from_bool}
use Rattle.stream.specs.PutInt.{int_at, is_long}
use Rattle.sheet.specs.Sheet.{word_bytes}
use Rattle.tables.specs.declared.values.Fields.{Fields}
use Rattle.tables.specs.Records.{room, written}
use Rattle.alloc.specs.declared.legacy_alloc.LegacyAlloc.{LegacyAlloc}
use Rattle.backref.specs.declared.hot_ring.HotRing.{HotRing}

-- what a call is given and does not change: the version sheet, the payload, how many spaces have
-- counters, and the trusted list
pub record Input : Type 0 where
  pub sheet : List ℕ
  pub payload : List ℕ
  pub spaces : ℕ
  pub trusted : List ℕ

-- bytes of a tagged word
abbrev pub word : Input → ℕ
word x = word_bytes x.sheet

-- where a value that was read is kept: as an object's map or as another slot, in that slot record;
-- in that value record; or nowhere
pub data Kept : Type 0 where
  in_map : ℕ → Kept
  in_slot : ℕ → Kept
  in_value : ℕ → Kept
  dropped : Kept

-- what happens in a reading, in the words of the guarantees (docs/FORMAT.md, "The words of the
-- guarantees"): an object is opened (the place of its head, its declared words); raw data is passed
-- (offset, length); an item of an object is read (the object, its first byte there, its width, its
-- slot record); a value was read (kind, a, b) and is kept; a resolve of a number stands after an
-- object's map; an entry of the closing section begins (its place); kSynchronize ends that section
-- (its place)
pub data Event : Type 0 where
  opened : ℕ → ℕ → Event
  passed : ℕ → ℕ → Event
  item : ℕ → ℕ → ℕ → ℕ → Event
  value : Fields → Kept → Event
  resolve : ℕ → ℕ → Event
  begins : ℕ → Event
  synchronize : ℕ → Event

-- events are not recorded, or they are: these so far, the latest first
pub data Log : Type 0 where
  off : Log
  told : List Event → Log

abbrev pub note : Event → Log → Log
note e off = off
note e (told es) = told (e ∷ es)

-- a table and how many records it has
pub record Table : Type 0 where
  pub rows : List ℕ
  pub count : ℕ

abbrev pub table : List ℕ → ℕ → Table
table rows count = record { rows = rows; count = count }

-- what a reader has: the cursor, the four tables, the hot ring, the next pending number and how
-- many slots wait, the with-skip amount that stands, the pending alignment, the chunk counters, how
-- many integers were longer than their values need, and the events recorded
pub record Mem : Type 0 where
  pub at : ℕ
  pub objects : Table
  pub slots : Table
  pub values : Table
  pub addresses : Table
  pub hot : HotRing
  pub pending : ℕ
  pub waiting : ℕ
  pub skip : ℕ
  pub alignment : ℕ
  pub alloc : LegacyAlloc
  pub long_integers : ℕ
  pub log : Log

-- what a reader gives: a value with what it has then; or a refusal's number and place with what it
-- had (a legacy closing section goes on from there)
pub data Out (A : Type 0) : Type 0 where
  got : A → Mem → Out A
  no : ℕ → ℕ → Mem → Out A

abbrev pub Reader : Type 0 → Type 0
Reader A = Mem → Out A

-- a reader, and then another on what it gives
abbrev pub and_then : {A B : Type 0} → Out A → (A → Reader B) → Out B
and_then (got a m) f = f a m
and_then (no n q m) f = no n q m

infixl 1 ◌>>=◌
abbrev pub ◌>>=◌ : {A B : Type 0} → Reader A → (A → Reader B) → Reader B
◌>>=◌ r f m = and_then (r m) f

infixl 1 ◌>>◌
abbrev pub ◌>>◌ : {A B : Type 0} → Reader A → Reader B → Reader B
◌>>◌ r s m = and_then (r m) (λ _. s)

abbrev pub give : {A : Type 0} → A → Reader A
give a m = got a m

abbrev pub change : (Mem → Mem) → Reader (Unit {0})
change f m = got tt (f m)

-- a refusal at a place, and one at the cursor
abbrev pub refuse_at : {A : Type 0} → ℕ → ℕ → Reader A
refuse_at n q m = no n q m

abbrev pub refuse : {A : Type 0} → ℕ → Reader A
refuse n m = no n m.at m

-- ---- changes of what a reader has

-- the cursor
abbrev pub moved : ℕ → Mem → Mem
moved at m = record m { at = at }

abbrev pub with_objects : Table → Mem → Mem
with_objects t m = record m { objects = t }

abbrev pub with_slots : Table → Mem → Mem
with_slots t m = record m { slots = t }

abbrev pub with_values : Table → Mem → Mem
with_values t m = record m { values = t }

abbrev pub with_hot : HotRing → Mem → Mem
with_hot h m = record m { hot = h }

-- the next pending number, and how many slots wait
abbrev pub with_pending : ℕ → ℕ → Mem → Mem
with_pending n w m = record m { pending = n; waiting = w }

abbrev pub with_skip : ℕ → Mem → Mem
with_skip n m = record m { skip = n }

-- addresses, pending alignment and chunk counters
abbrev pub with_alloc : Table → ℕ → LegacyAlloc → Mem → Mem
with_alloc t a c m = record m { addresses = t; alignment = a; alloc = c }

abbrev pub aligned : ℕ → Mem → Mem
aligned a m = with_alloc m.addresses a m.alloc m

-- so many integers were longer than their values need
abbrev pub with_long : ℕ → Mem → Mem
with_long n m = record m { long_integers = n }

-- an event is recorded, where events are
abbrev pub noted : Event → Mem → Mem
noted e m = record m { log = note e m.log }

-- ---- steps

abbrev pub tell : Event → Reader (Unit {0})
tell e = change (noted e)

-- the cursor
abbrev pub here : Reader ℕ
here m = got m.at m

-- a byte is needed and none is left: refusal 4, the cursor at the payload's end
abbrev pub cut : {A : Type 0} → Input → Reader A
cut x m = no 4 (length x.payload) (moved (length x.payload) m)

-- a byte
abbrev pub next_byte : Input → Reader ℕ
next_byte x m = got (get_or x.payload m.at 0) (moved (m.at + 1) m)

unfoldable pub byte : Input → Reader ℕ
byte x m =
    (if ltb m.at (length x.payload) then next_byte x else cut x) m

-- an integer was read whole, and is counted if it is longer than its value needs. Nothing else
-- counts integers; plain bytes are none
abbrev pub past_int : Int → Mem → Mem
past_int i m = with_long (m.long_integers + from_bool (is_long i)) (moved (m.at + i.count) m)

-- an integer
abbrev pub after_int : Input → Option Int → Reader ℕ
after_int x (Some i) m = got i.value (past_int i m)
after_int x None m = cut x m

unfoldable pub int : Input → Reader ℕ
int x m = after_int x (int_at x.payload m.at) m

-- there is room for one more record of so many fields
abbrev pub has_room : ℕ → Table → Bool
has_room fields t = ltb t.count (room fields t.rows)

-- the table with one more record
abbrev pub added : Table → List ℕ → Table
added t row = table (written t.rows t.count row) (t.count + 1)

-- the change f, by which table t has a record more: that record's number
abbrev pub appended : (Mem → Table) → (Mem → Mem) → Reader ℕ
appended t f m = got (t m).count (f m)

-- a record of so many fields is appended to table t by the change f, if there is room for it, and
-- its number is given; else refusal 3
abbrev pub append : ℕ → (Mem → Table) → (Mem → Mem) → Reader ℕ
append fields t f m = (if has_room fields (t m) then appended t f else refuse 3) m
