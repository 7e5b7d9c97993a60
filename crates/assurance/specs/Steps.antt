-- The steps that a walk under a plain sheet is made of, what holds before each, and the rules by
-- which a property is kept at each. Assumes nothing.
use Rattle.std.specs.Prelude.{◌≡◌, ◌≢◌, Bool, true, List, [], ◌∷◌, length, get_or, Some}
use Rattle.std.proofs.Math.Path.{refl}
use Rattle.std.proofs.Common.{◌∙◌, arith, length-set}
use Prim.Native.Nat.{ℕ, zero, suc, ◌+◌, ◌*◌, ◌/◌, ◌<◌, ◌≤◌}
use Rattle.sheet.specs.Names.{k_synchronize}
use Rattle.sheet.specs.Sheet.{number}
use Rattle.sheet.specs.Tests.{opens}
use Rattle.tables.specs.declared.values.Ref.{Ref}
use Rattle.tables.specs.declared.values.Ref.TheVariants.{Object, Root, RoRef, Attached}
use Rattle.tables.specs.declared.values.SlotValue.{SlotValue}
use Rattle.tables.specs.declared.values.SlotValue.TheVariants.{Ref as IsRef, Repeat, Raw as IsRaw, ClearedWeak, WeakRef, PendingRef}
use Rattle.tables.specs.declared.values.Fields.{Fields}
use Rattle.tables.specs.Values.{fields_of, width_of}
use Rattle.tables.specs.Records.{room, object_row, slot_row, value_row}
use Rattle.tables.proofs.RecordLaws.{written_length, filled_length}
use Rattle.backref.specs.HotRing.{entered, hot_at}
use Rattle.definition.specs.Memory.{Input, word, Kept, in_map, in_slot, in_value, dropped, opened, passed, item, value, resolve, begins, synchronize, Mem, moved, with_objects, with_slots, with_values, with_hot, with_pending, aligned, noted, added, with_long}
use Rattle.definition.specs.Slots.{counted, waiter, fill_waiter, resolved, waits_of}
use Rattle.definition.specs.Object.{flagged}
use Rattle.assurance.specs.Words.{IntegerAt}

-- an object that is being read: its number, its declared bytes, and how many bytes of it were read
pub data Frame : Type 0 where
  frame : ℕ → ℕ → ℕ → Frame

-- the objects that are being read, the innermost first, are below a bound
abbrev pub Open : List Frame → ℕ → Type 0
Open [] bound = Unit {0}
Open (frame o size done ∷ S) bound = (o < bound) × (Open S bound)

-- a byte of the payload that is a new-object head of a plain sheet: from kNewObject up to below
-- kBackref
abbrev pub OpensAt : Input → ℕ → Type 0
OpensAt x q = (q < length x.payload) × (opens x.sheet (get_or x.payload q 0) ≡ true)

-- what holds of what a reader has, whatever the property
pub record Base (x : Input) (S : List Frame) (m : Mem) : Type 0 where
  pub within : m.at ≤ length x.payload
  pub objects_fit : m.objects.count ≤ room 4 m.objects.rows
  pub slots_fit : m.slots.count ≤ room 6 m.slots.rows
  pub open_below : Open S m.objects.count
  pub no_skip : m.skip ≡ 0

-- ---- the steps

abbrev pub opening : Input → ℕ → ℕ → Mem → Mem
opening x tag words m = noted (opened tag words) (with_objects (added m.objects (object_row (words * word x) tag)) m)

abbrev pub flagging : ℕ → Mem → Mem
flagging o m = with_objects (flagged o m.objects) m

abbrev pub passing : ℕ → Mem → Mem
passing n m = noted (passed m.at n) (moved (m.at + n) m)

abbrev pub entering : Ref → Mem → Mem
entering r m = with_hot (entered m.hot r) m

abbrev pub numbering : Mem → Mem
numbering m = with_pending (m.pending + 1) m.waiting m

abbrev pub valuing : Fields → Mem → Mem
valuing v m = noted (value v (in_value m.values.count)) (with_values (added m.values (value_row v)) m)

-- a value is kept in a slot record, which is then recorded as an item
abbrev pub keeping : (ℕ → Kept) → ℕ → ℕ → ℕ → ℕ → Fields → ℕ → Mem → Mem
keeping k o index start width v waits m =
    noted (item o start width m.slots.count)
    (noted (value v (k m.slots.count))
    (with_pending m.pending (m.waiting + waits)
    (with_slots (added m.slots (slot_row o index v waits)) (with_objects (counted o m.objects) m))))

abbrev pub keeping_map : Input → ℕ → SlotValue → Mem → Mem
keeping_map x o v = keeping in_map o 0 0 (word x) (fields_of v) 0

abbrev pub keeping_item : Input → ℕ → ℕ → SlotValue → Mem → Mem
keeping_item x o start v = keeping in_slot o (start / word x) start (width_of (word x) v) (fields_of v) (waits_of v)

-- ---- the rules

-- a reference that may enter the hot ring
abbrev pub Hot : Ref → Type 0
Hot (Object o) = Unit {0}
Hot (Root i) = Unit {0}
Hot (RoRef c o) = Unit {0}
Hot (Attached i) = ⊥

-- I holds of the objects that are being read and of what a reader has, W of the value that it gives
pub record Rules (x : Input) (I : List Frame → Mem → Type 0) (W : Mem → SlotValue → Type 0) : Type 0 where
  pub on_move : (S : List Frame) (m : Mem) (at : ℕ) → I S m → m.at < at → at ≤ length x.payload → I S (moved at m)
  -- integers that are longer than their values need are counted
  pub on_long : (S : List Frame) (m : Mem) (n : ℕ) → I S m → I S (with_long n m)
  pub on_object : (S : List Frame) (m : Mem) (i : ℕ) → I S m → i < m.objects.count → W m (IsRef (Object i))
  pub on_root : (S : List Frame) (m : Mem) (i : ℕ) → I S m → W m (IsRef (Root i))
  pub on_read_only : (S : List Frame) (m : Mem) (c o : ℕ) → I S m → W m (IsRef (RoRef c o))
  pub on_attached : (S : List Frame) (m : Mem) (i : ℕ) → I S m → W m (IsRef (Attached i))
  pub on_cleared : (S : List Frame) (m : Mem) → I S m → W m ClearedWeak
  pub on_hot : (S : List Frame) (m : Mem) (i : ℕ) (r : Ref) → I S m → i < 8 → hot_at m.hot i ≡ Some r → W m (IsRef r)
  pub on_enter : (S : List Frame) (m : Mem) (r : Ref) → Hot r → I S m → W m (IsRef r) → (I S (entering r m)) × (W (entering r m) (IsRef r))
  pub on_pending : (S : List Frame) (m : Mem) → I S m → (I S (numbering m)) × (W (numbering m) (PendingRef m.pending))
  pub on_raw : (S : List Frame) (m : Mem) (n : ℕ) (advances : Bool) → I S m → 1 ≤ n → m.at + n ≤ length x.payload → (I S (passing n m)) × (W (passing n m) (IsRaw (record { off = m.at; len = n; advances = advances })))
  pub on_value : (S : List Frame) (m : Mem) (v : SlotValue) → I S m → W m v → m.values.count < room 3 m.values.rows → (I S (valuing (fields_of v) m)) × (W (valuing (fields_of v) m) (WeakRef m.values.count)) × ((n : ℕ) → W (valuing (fields_of v) m) (Repeat n m.values.count))
  pub on_open : (S : List Frame) (m : Mem) (tag words : ℕ) → OpensAt x tag → IntegerAt x.payload (tag + 1) words → I S m → m.objects.count < room 4 m.objects.rows → I (frame m.objects.count (words * word x) 0 ∷ S) (opening x tag words m)
  pub on_flag : (S : List Frame) (m : Mem) (o : ℕ) (v : SlotValue) → o < m.objects.count → I S m → W m v → (I S (flagging o m)) × (W (flagging o m) v)
  pub on_map : (S : List Frame) (m : Mem) (o size : ℕ) (v : SlotValue) → Base x (frame o size 0 ∷ S) m → I (frame o size 0 ∷ S) m → W m v → m.slots.count < room 6 m.slots.rows → I (frame o size (word x) ∷ S) (keeping_map x o v m)
  pub on_item : (S : List Frame) (m : Mem) (o size done : ℕ) (v : SlotValue) → Base x (frame o size done ∷ S) m → I (frame o size done ∷ S) m → W m v → 1 ≤ done → done < size → m.slots.count < room 6 m.slots.rows → I (frame o size (done + width_of (word x) v) ∷ S) (keeping_item x o done v m)
  pub on_resolve : (S : List Frame) (m : Mem) (o size done number : ℕ) → Base x (frame o size done ∷ S) m → I (frame o size done ∷ S) m → I (frame o size done ∷ S) (resolved number o m)
  pub on_close : (S : List Frame) (m : Mem) (o size : ℕ) → o < m.objects.count → 1 ≤ size → I (frame o size size ∷ S) m → I S m
  pub on_drop : (S : List Frame) (m : Mem) (v : SlotValue) → I S m → W m v → I S (noted (value (fields_of v) dropped) m)
  pub on_align : (S : List Frame) (m : Mem) (a : ℕ) → I S m → I S (aligned a m)
  -- an entry of the closing section begins that is not its kSynchronize
  pub on_begins : (m : Mem) → get_or x.payload m.at 0 ≢ number x.sheet k_synchronize → I [] m → I [] (noted (begins m.at) m)

-- and at the kSynchronize, where the last entry begins
abbrev pub AtEnd : (List Frame → Mem → Type 0) → Type 0
AtEnd I = (m : Mem) → I [] m → I [] (noted (synchronize m.at) (noted (begins m.at) m))

-- ---- what a resolve leaves: a case for each way

module _ (m : Mem) (number o : ℕ) (P : Mem → Type 0) where
  pub resolve_case : (waiter m.slots.rows number m.slots.count ≡ 0 → P (noted (resolve number o) (fill_waiter 0 o m))) → ((k : ℕ) → waiter m.slots.rows number m.slots.count ≡ suc k → P (noted (resolve number o) (fill_waiter (suc k) o m))) → P (resolved number o m)
  unfolding resolved
  resolve_case z s = at (waiter m.slots.rows number m.slots.count) refl
    where
      at : (w : ℕ) → waiter m.slots.rows number m.slots.count ≡ w → P (noted (resolve number o) (fill_waiter w o m))
      at zero e = z e
      at (suc k) e = s k e

-- ---- the steps keep what holds whatever the property

open_up : (S : List Frame) (n k : ℕ) → n ≤ k → Open S n → Open S k
open_up [] n k l h = tt
open_up (frame o size done ∷ S) n k l h = (omega (arith, h.0), open_up S n k l h.1)

module _ (x : Input) (S : List Frame) (m : Mem) (b : Base x S m) where
  pub base_same : (m' : Mem) → m'.at ≤ length x.payload → m'.objects ≡ m.objects → m'.slots ≡ m.slots → m'.skip ≡ m.skip → Base x S m'
  base_same m' l eo es ek = record { within = l; objects_fit = rw eo b.objects_fit; slots_fit = rw es b.slots_fit; open_below = rw eo b.open_below; no_skip = ek ∙ b.no_skip }

  pub base_open : (tag words : ℕ) → m.objects.count < room 4 m.objects.rows → Base x (frame m.objects.count (words * word x) 0 ∷ S) (opening x tag words m)
  base_open tag words l =
      record {
        within = b.within;
        objects_fit = rw (written_length m.objects.rows (object_row (words * word x) tag) m.objects.count) (omega arith);
        slots_fit = b.slots_fit;
        open_below = (omega arith, open_up S m.objects.count (m.objects.count + 1) (omega arith) b.open_below);
        no_skip = b.no_skip;
      }

  pub base_flag : (o : ℕ) → Base x S (flagging o m)
  base_flag o = record { within = b.within; objects_fit = rw length-set b.objects_fit; slots_fit = b.slots_fit; open_below = b.open_below; no_skip = b.no_skip }

  -- the frames stay or the innermost has read more
  pub base_keep : (T : List Frame) → Open T m.objects.count → (k : ℕ → Kept) (o index start width : ℕ) (v : Fields) (waits : ℕ) → m.slots.count < room 6 m.slots.rows → Base x T (keeping k o index start width v waits m)
  base_keep T below k o index start width v waits l =
      record {
        within = b.within;
        objects_fit = rw length-set b.objects_fit;
        slots_fit = rw (written_length m.slots.rows (slot_row o index v waits) m.slots.count) (omega arith);
        open_below = below;
        no_skip = b.no_skip;
      }

  pub base_resolve : (number o : ℕ) → Base x S (resolved number o m)
  base_resolve number o =
      resolve_case m number o (Base x S)
      (λ e. record { within = b.within; objects_fit = b.objects_fit; slots_fit = b.slots_fit; open_below = b.open_below; no_skip = b.no_skip })
      (λ k e. record { within = b.within; objects_fit = b.objects_fit; slots_fit = rw filled_length b.slots_fit; open_below = b.open_below; no_skip = b.no_skip })

pub base_close : (x : Input) (S : List Frame) (o size done : ℕ) (m : Mem) → Base x (frame o size done ∷ S) m → Base x S m
base_close x S o size done m b = record { within = b.within; objects_fit = b.objects_fit; slots_fit = b.slots_fit; open_below = b.open_below.1; no_skip = b.no_skip }
