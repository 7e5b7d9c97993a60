-- An object whose map is a leaf: its head, its map, its address and its slot 0. Assumes nothing.
use Rattle.std.specs.Prelude.{if◌then◌else◌, ◌≡◌, refl, Bool, true, false, List, ℕ, ◌+◌, ◌*◌, ◌^◌, ◌<◌, ◌≤◌, ltb, eqb}
use Rattle.std.proofs.Common.{arith, ap, subst, ◌∙◌, lt-ltb}
use Rattle.std.specs.Int.{from_bool}
use Rattle.stream.specs.declared.putint.Int.{Int}
use Rattle.stream.specs.PutInt.{is_long}
use Rattle.sheet.specs.Sheet.{is_legacy, word_bytes}
use Rattle.heads.specs.Heads.{Heads}
use Rattle.tables.specs.declared.values.Fields.{Fields}
use Rattle.tables.specs.declared.values.SlotValue.{SlotValue}
use Rattle.tables.specs.Values.{fields_of}
use Rattle.tables.specs.Records.{room, field, object_row, slot_row, written, counted, Put}
use Rattle.tables.proofs.RecordLaws.{written_same}
use Rattle.alloc.specs.declared.legacy_alloc.LegacyAlloc.{LegacyAlloc}
use Rattle.alloc.specs.Allocation.{Outcome, allocate_of}
use Rattle.backref.specs.declared.hot_ring.HotRing.{HotRing}
use Rattle.definition.specs.Memory.{Input, word, Table, table, Mem, Out, got, and_then, int, Reader, refuse, change, with_alloc, ◌>>=◌, ◌>>◌, give}
use Rattle.definition.specs.Slots.{add_slot}
use Rattle.definition.specs.Object.{add_object, allocate, flags, flag_object, map_then_allocate, read_map, keep_map}
use Rattle.definition.specs.Reference.{reference}
use Rattle.readers.specs.declared.state.State.{State}
use Rattle.readers.specs.declared.walker.Walker.{Walker}
use Rattle.readers.specs.Views.{Lent, mem, objects_is, slots_is, addresses_is, hot_is, alloc_is}
use Rattle.readers.specs.Lent.{input_of, lent_of}
use Rattle.readers.proofs.ViewLaws.{then_got, put_done, put_below}
use Rattle.objects.specs.Head.{opening}
use Rattle.objects.specs.Map.{AddressAlone}
use Rattle.objects.specs.Index.{Indexed}
use Rattle.objects.proofs.WaiterLaws.{indexed_plain}
use Rattle.leaves.specs.declared.leaf.Leaf.{Leaf}
use Rattle.leaves.specs.Leaf.{ring, after, lent_reference, Refused, NoLeafAt}
use Rattle.leaves.proofs.LeafLaws.{leaf_lent, lent_is, leaf_refused, refused_then}
use Rattle.opened_leaves.specs.Opening.{opened, MapAt, MapByte, Given}

-- ---- the address

-- the addresses, the alignment and the counters of one, and all else of another
abbrev allocated : Mem → Mem → Mem
allocated m n = with_alloc m.addresses m.alignment m.alloc n

by_outcome : (b : Bool) (t : Table) (a : ℕ) (c : LegacyAlloc) (k : ℕ) (m : Mem) {m' : Mem} → got tt m' ≡ (if b then change (with_alloc t a c) else refuse k) m → (b ≡ true) × (m' ≡ with_alloc t a c m)
by_outcome true t a c k m e = (refl, (cc))
by_outcome false t a c k m e = absurd (let z : ◌≡◌ {A = ℕ} 0 1 = cc in omega arith)

-- where an address was given, it is also given in every other memory with these addresses, this
-- alignment and these counters
module _ (x : Input) (space bytes o : ℕ) (m : Mem) {m' : Mem} where
  carried : (b : Bool) → got tt m' ≡ (if b then allocate x space bytes o else give tt) m
      → (m' ≡ allocated m' m) × ((n : Mem) → n.addresses ≡ m.addresses → n.alignment ≡ m.alignment → n.alloc ≡ m.alloc → got tt (allocated m' n) ≡ (if b then allocate x space bytes o else give tt) n)
  unfolding allocate
  carried true e =
      let r : Outcome = allocate_of m.addresses.rows m.addresses.count x.spaces (record { space = space; size = bytes; object = o; alignment = m.alignment; word = word x }) m.alloc in
      let d = by_outcome (eqb r.number 0) (table r.table (m.addresses.count + 1)) r.alignment r.alloc r.number m e in
      (rw d.1 refl, λ n ea eg ec. rw (d.1, ea, eg, ec, d.0) refl)
  carried false e = let d : m' ≡ m = cc in (rw d refl, λ n ea eg ec. rw (d, ← ea, ← eg, ← ec) refl)

-- the map and the address after it, where the map does not come first
map_read : (b : Bool) (x : Input) (r : Reader SlotValue) (space bytes o : ℕ) (v : SlotValue) (m₁ m₂ m₃ : Mem) → got v m₂ ≡ r m₁ → got tt m₃ ≡ (if b then allocate x space bytes o else give tt) m₂ → got v m₃ ≡ (if b then map_then_allocate x r space bytes o else r) m₁
map_read true x r space bytes o v m₁ m₂ m₃ h k =
    then_got (λ v. allocate x space bytes o >> give v) h (then_got (λ (u : Unit {0}). give v) k refl)
map_read false x r space bytes o v m₁ m₂ m₃ h k = let d : m₃ ≡ m₂ = cc in rw d h

-- ---- the records

-- a new object has no slot yet, also after an address
pub new_count : {w w' : Walker} → AddressAlone w w' → (o bytes tag : ℕ) {t : List ℕ} → Put w'.objects.now o (object_row bytes tag) true t → field 4 t o 3 < 2 ^ 63
new_count {w} {w'} a o bytes tag {t} p =
    let z = written_same w'.objects.now (object_row bytes tag) o 3 (omega arith) (put_below p refl) in
    let q : field 4 t o 3 ≡ 0 = rw ((put_done p refl).1, z) refl in
    omega (arith, q)

-- the map's slot does not wait
pub new_indexed : {w w' : Walker} → AddressAlone w w' → (n o index : ℕ) (f : Fields) {t : List ℕ} → Put w'.slots.now n (slot_row o index f 0) true t → Indexed w.slots.now n w.pending.now → Indexed t (n + 1) w'.pending.now
new_indexed {w} {w'} a n o index f {t} p x =
    let e : w'.slots.now ≡ w.slots.now = ap (λ (l : Lent). l.slots) a.lent in
    let b : n < room 6 w.slots.now = rw e at (put_below p refl) in
    rw ((put_done p refl).1, e, a.pending) (indexed_plain w.slots.now n o index f 0 b refl w.pending.now x)

-- the map's slot
slot_kept : (x : Input) (o : ℕ) (v : SlotValue) (s : State) (l : Lent) {ot st : List ℕ} → flags x v ≡ false → ltb s.slots (room 6 l.slots) ≡ true → ot ≡ counted l.objects o → st ≡ written l.slots s.slots (slot_row o 0 (fields_of v) 0)
    → got tt (mem (record s { slots = s.slots + 1 }) (objects_is ot (slots_is st l))) ≡ keep_map x o v (mem s l)
unfolding keep_map flag_object add_slot
slot_kept x o v s l f b eo es =
    let z : s.waiting + 0 ≡ s.waiting = omega arith in
    rw (f, b, eo, es, z)

-- ---- where no leaf is the map

pub bit_low : (b : Bool) → from_bool b ≤ 1
bit_low true = omega arith
bit_low false = omega arith

-- the state after the object's record, where this integer stands before the map
abbrev recorded : Int → State → State
recorded i s =
    record s { at = s.at + i.count; objects = s.objects + 1; long_integers = s.long_integers + from_bool (is_long i) }

pub map_refused : (w : Walker) (s : State) (count : ℕ) (space tag : ℕ) → Heads w.sheet.now w.heads.now → MapByte w s count → NoLeafAt w (s.at + count) (s.objects + 1) → s.objects < room 4 w.objects.now → (inner : Reader SlotValue)
    → Refused (opened (input_of w) (reference (input_of w) inner) space tag s.objects (mem s (lent_of w)))
unfolding int add_object
map_refused w s count space tag decoded b missing roomy inner =
    let x : Input = input_of w in
    let bytes : ℕ = b.words * word x in
    let l : Lent = objects_is (written w.objects.now s.objects (object_row bytes tag)) (lent_of w) in
    let i : Int = record { value = b.words; count = count } in
    let m₁ : Mem = mem (recorded i s) l in
    let head : got b.words m₁ ≡ opening x space tag (mem s (lent_of w)) = rw (← b.sized, b.no_large_byte, lt-ltb s.objects (room 4 w.objects.now) roomy) refl in
    let r : Refused (reference x inner m₁) = leaf_refused w (recorded i s) l refl decoded b.leaf.0 missing inner in
    let map : Refused (read_map x (reference x inner) space bytes s.objects m₁) = rw (b.not_first, b.no_address) r in
    let rest : ℕ → Reader ℕ = λ words. read_map x (reference x inner) space (words * word x) s.objects >>= keep_map x s.objects >> give (words * word x) in
    subst (λ (o : Out ℕ). Refused (and_then o rest)) head (refused_then _ (λ (u : Unit {0}). give bytes) (refused_then _ (keep_map x s.objects) map))

-- ---- the whole

-- the state after the map's slot, from the one before all and the one after the address
abbrev opened_state : Int → Leaf → State → State → State
opened_state i r s t =
    record t { at = r.next; objects = s.objects + 1; slots = s.slots + 1; long_integers = s.long_integers + from_bool (is_long i) + r.long_integers }

module _ (w w₁ : Walker) (s t : State) (ts : ℕ) (size : Int) (map : Leaf) (space tag : ℕ) (ew : ts ≡ word_bytes w.sheet.now) (a : MapAt w s size map) (g : Given w s space (size.value * ts) s.objects t w₁) {f : Fields} {ot ot' st : List ℕ} {hot : HotRing} (po : Put w₁.objects.now s.objects (object_row (size.value * ts) tag) true ot) (eo : ot' ≡ counted ot s.objects)
    (ef : f ≡ fields_of map.value) (ps : Put w₁.slots.now s.slots (slot_row s.objects 0 f 0) true st) (eh : hot ≡ ring map w₁.hot) where
  abbrev x : Input
  x = input_of w

  abbrev bytes : ℕ
  bytes = size.value * ts

  abbrev m : Mem
  m = mem s (lent_of w)

  abbrev l₁ : Lent
  l₁ = objects_is (written w.objects.now s.objects (object_row bytes tag)) (lent_of w)

  abbrev m₁ : Mem
  m₁ = mem (recorded size s) l₁

  abbrev m₂ : Mem
  m₂ = mem (after map (recorded size s)) (hot_is (ring map w.hot) l₁)

  abbrev s₃ : State
  s₃ =
      record s { at = map.next; objects = s.objects + 1; addresses = t.addresses; alignment = t.alignment; long_integers = s.long_integers + from_bool (is_long size) + map.long_integers }

  abbrev l₃ : Lent
  l₃ = addresses_is w₁.addresses.now (alloc_is w₁.alloc (hot_is (ring map w.hot) l₁))

  same_objects : w₁.objects.now ≡ w.objects.now
  same_objects = ap (λ (l : Lent). l.objects) g.alone.lent

  same_slots : w₁.slots.now ≡ w.slots.now
  same_slots = ap (λ (l : Lent). l.slots) g.alone.lent

  same_values : w₁.values.now ≡ w.values.now
  same_values = ap (λ (l : Lent). l.values) g.alone.lent

  same_hot : w₁.hot ≡ w.hot
  same_hot = ap (λ (l : Lent). l.hot) g.alone.lent

  is_object : ot ≡ written w.objects.now s.objects (object_row bytes tag)
  is_object = rw same_objects at (put_done po refl).1

  is_hot : hot ≡ ring map w.hot
  is_hot = rw same_hot at eh

  given : (mem t (lent_of w₁) ≡ allocated (mem t (lent_of w₁)) m) × ((n : Mem) → n.addresses ≡ m.addresses → n.alignment ≡ m.alignment → n.alloc ≡ m.alloc → got tt (allocated (mem t (lent_of w₁)) n) ≡ (if is_legacy w.sheet.now then allocate x space bytes s.objects else give tt) n)
  given = carried x space bytes s.objects m (is_legacy w.sheet.now) g.given

  -- the head
  is_opened : got size.value m₁ ≡ opening x space tag m
  unfolding int add_object
  is_opened =
      let b : ltb s.objects (room 4 w.objects.now) ≡ true = rw same_objects at (put_done po refl).0 in
      rw (← a.sized, a.no_large_byte, b, ← ew) refl

  -- what a reader of the map has read
  module _ (r : Reader SlotValue) (read : got map.value m₂ ≡ r m₁) where
    -- the map
    is_read : got map.value (mem s₃ l₃) ≡ read_map x r space bytes s.objects m₁
    is_read =
        rw a.not_first (map_read (is_legacy w.sheet.now) x r space bytes s.objects map.value m₁ m₂ (mem s₃ l₃) read (given.1 m₂ refl refl refl))

    -- its slot
    is_kept : got tt (mem (record s₃ { slots = s.slots + 1 }) (objects_is ot' (slots_is st l₃))) ≡ keep_map x s.objects map.value (mem s₃ l₃)
    is_kept =
        slot_kept x s.objects map.value s₃ l₃ (a.unflagged w.sheet.now w.payload.now w.spaces) (rw same_slots at (put_done ps refl).0) (rw is_object at eo) (rw (same_slots, ef) at (put_done ps refl).1)

    is_whole : got bytes (mem (opened_state size map s t) (objects_is ot' (slots_is st (hot_is hot (lent_of w₁))))) ≡ opened x r space tag s.objects m
    is_whole =
        let e = given.0 in
        let ev : t.values ≡ s.values = ap (λ (m : Mem). m.values.count) e in
        let ep : t.pending ≡ s.pending = ap (λ (m : Mem). m.pending) e in
        let et : t.waiting ≡ s.waiting = ap (λ (m : Mem). m.waiting) e in
        let es : t.skip ≡ s.skip = ap (λ (m : Mem). m.skip) e in
        rw (ev, ep, et, es, same_values, is_hot)
        (then_got (λ n. read_map x r space (n * word x) s.objects >>= keep_map x s.objects >> give (n * word x))
        is_opened
        (rw (← ew) (then_got (λ (u : Unit {0}). give bytes) (then_got (keep_map x s.objects) is_read is_kept) refl)))

  module _ (inner : Reader SlotValue) where
    lent : got map.value m₂ ≡ lent_reference w inner m₁
    lent = leaf_lent w (s.at + size.count) (s.objects + 1) map a.leaf inner (recorded size s) l₁ refl refl refl

    -- by the heads that are lent, and where these are the sheet's
    pub opened_lent : got bytes (mem (opened_state size map s t) (objects_is ot' (slots_is st (hot_is hot (lent_of w₁))))) ≡ opened x (lent_reference w inner) space tag s.objects m
    opened_lent = is_whole (lent_reference w inner) lent

    pub opened_read : Heads w.sheet.now w.heads.now → got bytes (mem (opened_state size map s t) (objects_is ot' (slots_is st (hot_is hot (lent_of w₁))))) ≡ opened x (reference x inner) space tag s.objects m
    opened_read h = is_whole (reference x inner) (lent ∙ lent_is w (recorded size s) l₁ inner h a.leaf.0)
