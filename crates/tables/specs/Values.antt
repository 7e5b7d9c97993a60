-- The values of slots: their kinds and two numbers, and how wide an item with such a value is
-- (docs/FORMAT.md, "The tables"). Assumes nothing: these are definitions.
use Rattle.std.specs.Prelude.{if◌then◌else◌, Bool, true, false, ℕ, ◌*◌}
use Rattle.tables.specs.declared.values.Ref.{Ref}
use Rattle.tables.specs.declared.values.Ref.TheVariants.{Object, Root, RoRef, Attached}
use Rattle.tables.specs.declared.values.SlotValue.{SlotValue}
use Rattle.tables.specs.declared.values.SlotValue.TheVariants.{Ref as IsRef, Repeat, RepeatPrev, Skip, StreamBytes, Raw as IsRaw, ClearedWeak, WeakRef, PendingRef}
use Rattle.tables.specs.declared.values.ValueKind.{ValueKind}
use Rattle.tables.specs.declared.values.ValueKind.TheVariants.{Object as KObject, Root as KRoot, ReadOnly as KReadOnly, Attached as KAttached, Raw as KRaw, RawInPlace as KRawInPlace, Repeat as KRepeat, RepeatPrevious as KRepeatPrevious, Skip as KSkip, StreamBytes as KStreamBytes, ClearedWeak as KClearedWeak, Weak as KWeak, Pending as KPending}
use Rattle.tables.specs.declared.values.Fields.{Fields}

-- the numbers of the kinds
abbrev pub kind_number : ValueKind → ℕ
kind_number KObject = 1
kind_number KRoot = 2
kind_number KReadOnly = 3
kind_number KAttached = 4
kind_number KRaw = 5
kind_number KRawInPlace = 6
kind_number KRepeat = 7
kind_number KRepeatPrevious = 8
kind_number KSkip = 9
kind_number KStreamBytes = 10
kind_number KClearedWeak = 11
kind_number KWeak = 12
kind_number KPending = 13

abbrev pub triple : ℕ → ℕ → ℕ → Fields
triple k a b = record { kind = k; a = a; b = b }

abbrev pub ref_fields : Ref → Fields
ref_fields (Object id) = triple 1 id 0
ref_fields (Root i) = triple 2 i 0
ref_fields (RoRef c o) = triple 3 c o
ref_fields (Attached i) = triple 4 i 0

abbrev pub raw_kind : Bool → ℕ
raw_kind true = 5
raw_kind false = 6

-- kind, a and b: 1 object, 2 root, 3 read-only, 4 attached, 5 raw that advances, 6 raw that does
-- not, 7 repeat (count, value number), 8 repeat-previous, 9 skip, 10 stream bytes, 11 cleared weak,
-- 12 weak (value number), 13 pending (its number)
abbrev pub fields_of : SlotValue → Fields
fields_of (IsRef r) = ref_fields r
fields_of (IsRaw r) = triple (raw_kind r.advances) r.off r.len
fields_of (Repeat n k) = triple 7 n k
fields_of (RepeatPrev n) = triple 8 n 0
fields_of (Skip n) = triple 9 n 0
fields_of (StreamBytes n) = triple 10 n 0
fields_of ClearedWeak = triple 11 0 0
fields_of (WeakRef k) = triple 12 k 0
fields_of (PendingRef n) = triple 13 n 0

-- width of an item, with words of ts bytes: raw its length, or 0 if it does not advance; repeats
-- count times a word; skip its bytes; stream bytes 0; all else one word
abbrev pub width_of : ℕ → SlotValue → ℕ
width_of ts (IsRef r) = ts
width_of ts (IsRaw r) = if r.advances then r.len else 0
width_of ts (Repeat n k) = n * ts
width_of ts (RepeatPrev n) = n * ts
width_of ts (Skip n) = n
width_of ts (StreamBytes n) = 0
width_of ts ClearedWeak = ts
width_of ts (WeakRef k) = ts
width_of ts (PendingRef n) = ts
