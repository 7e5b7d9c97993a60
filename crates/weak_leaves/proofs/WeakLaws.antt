-- A weak reference to a leaf, as a reference within one, and its slot. Assumes nothing.
use Rattle.std.specs.Prelude.{◌≡◌, refl, true, false, List, ℕ, ◌+◌, ◌/◌, ◌<◌, length, get_or}
use Rattle.std.proofs.Common.{arith, ap, sym, subst, ◌∙◌, lt-ltb}
use Rattle.sheet.specs.Sheet.{word_bytes}
use Rattle.heads.specs.Heads.{head_at, head_of, Heads}
use Rattle.heads.specs.declared.kinds.Kind.TheVariants.{WeakPrefix}
use Rattle.tables.specs.declared.values.Fields.{Fields}
use Rattle.tables.specs.declared.values.SlotValue.{SlotValue}
use Rattle.tables.specs.declared.values.SlotValue.TheVariants.{WeakRef}
use Rattle.tables.specs.Values.{fields_of}
use Rattle.tables.specs.Records.{room, slot_row, value_row, written, counted, Put}
use Rattle.backref.specs.declared.hot_ring.HotRing.{HotRing}
use Rattle.definition.specs.Memory.{Input, Out, got, no, byte, Reader, and_then}
use Rattle.definition.specs.Slots.{add_value, add_slot, keep_item, place_item}
use Rattle.definition.specs.Reference.{weak_of, by_head, reference}
use Rattle.readers.specs.declared.state.State.{State}
use Rattle.readers.specs.declared.walker.Walker.{Walker}
use Rattle.readers.specs.Views.{Lent, mem, moved_to, objects_is, slots_is, values_is, hot_is}
use Rattle.readers.specs.Lent.{input_of, lent_of}
use Rattle.readers.proofs.ViewLaws.{then_got, then_no, put_done, put_full, put_below}
use Rattle.leaves.specs.declared.leaf.Leaf.{Leaf}
use Rattle.leaves.specs.Leaf.{ring, after, slot_in, lent_reference, Refused, NoLeafAt}
use Rattle.leaves.proofs.LeafLaws.{leaf_lent, lent_is, leaf_refused, refused, refused_then}
use Rattle.weak_leaves.specs.Weak.{WeakAt, WeakByte}

-- a weak prefix at the cursor, read as a reference
weak_on : (w : Walker) (s : State) (l : Lent) (inner : Reader SlotValue) → Heads w.sheet.now w.heads.now → s.at < length w.payload.now → get_or w.payload.now s.at 0 < 256 → (head_at w.heads.now (get_or w.payload.now s.at 0)).kind ≡ WeakPrefix
    → and_then (inner (mem (moved_to (s.at + 1) s) l)) weak_of ≡ reference (input_of w) inner (mem s l)
unfolding reference byte by_head
weak_on w s l inner h b c k =
    let e : (head_of w.sheet.now (get_or w.payload.now s.at 0)).kind ≡ WeakPrefix = rw (h.each (get_or w.payload.now s.at 0) c) at k in
    rw (lt-ltb s.at (length w.payload.now) b, e)

-- the same by the heads that are lent
weak_lent : (w : Walker) (s : State) (l : Lent) (inner : Reader SlotValue) → s.at < length w.payload.now → (head_at w.heads.now (get_or w.payload.now s.at 0)).kind ≡ WeakPrefix
    → and_then (inner (mem (moved_to (s.at + 1) s) l)) weak_of ≡ lent_reference w inner (mem s l)
unfolding lent_reference byte by_head
weak_lent w s l inner b k = rw (lt-ltb s.at (length w.payload.now) b, k)

-- where these are the sheet's, that is the reference within one
pub weak_is : (w : Walker) (s : State) (d : ℕ) (r : Leaf) (o done : ℕ) → (inner : Reader SlotValue) → Heads w.sheet.now w.heads.now → WeakAt w s d r
    → slot_in (input_of w) (lent_reference w (lent_reference w inner)) o done (mem s (lent_of w)) ≡ slot_in (input_of w) (reference (input_of w) (reference (input_of w) inner)) o done (mem s (lent_of w))
weak_is w s d r o done inner h found =
    let l : Lent = lent_of w in
    let held = lent_is w (moved_to (s.at + 1) s) l inner h found.leaf.0 in
    let weak = sym (weak_lent w s l (lent_reference w inner) found.there.0 found.weak) ∙ (ap (λ (out : Out SlotValue). and_then out weak_of) held ∙ weak_on w s l (reference (input_of w) inner) h found.there.0 found.there.1 found.weak) in
    ap (λ (out : Out SlotValue). and_then out (place_item (input_of w) o done)) weak

-- where what it holds is refused, so is the item
pub weak_refused : (w : Walker) (s : State) (o done : ℕ) → Heads w.sheet.now w.heads.now → WeakByte w s.at → NoLeafAt w (s.at + 1) s.objects → (inner : Reader SlotValue)
    → Refused (slot_in (input_of w) (reference (input_of w) (reference (input_of w) inner)) o done (mem s (lent_of w)))
weak_refused w s o done decoded b missing inner =
    let r = leaf_refused w (moved_to (s.at + 1) s) (lent_of w) refl decoded b.leaf.0 missing inner in
    refused_then _ (place_item (input_of w) o done) (subst (λ (o : Out SlotValue). Refused o) (weak_on w s (lent_of w) (reference (input_of w) inner) decoded (omega (arith, b.leaf.0.0)) b.low b.weak) (refused_then _ weak_of r))

-- the state with one value record more
abbrev valued : State → State
valued s =
    record s { values = s.values + 1 }

-- that record
held : (v : SlotValue) (s : State) (l : Lent) {t : List ℕ} → Put l.values s.values (value_row (fields_of v)) true t → got (WeakRef s.values) (mem (valued s) (values_is t l)) ≡ weak_of v (mem s l)
unfolding add_value
held v s l p = let q = put_done p refl in rw (q.0, q.1)

-- no room for it
unheld : (v : SlotValue) (s : State) (l : Lent) {t : List ℕ} → Put l.values s.values (value_row (fields_of v)) false t → no 3 s.at (mem s l) ≡ weak_of v (mem s l)
unfolding add_value
unheld v s l p = let q = put_full p refl in rw q.0

pub unheld_refused : (w : Walker) (s : State) (d : ℕ) (r : Leaf) (o done : ℕ) → Heads w.sheet.now w.heads.now → WeakAt w s d r → {vt : List ℕ} → Put w.values.now s.values (value_row (fields_of r.value)) false vt → (inner : Reader SlotValue)
    → Refused (slot_in (input_of w) (reference (input_of w) (reference (input_of w) inner)) o done (mem s (lent_of w)))
unheld_refused w s d r o done decoded found p inner =
    let l : Lent = hot_is (ring r w.hot) (lent_of w) in
    let e = then_got weak_of (leaf_lent w (s.at + 1) s.objects r found.leaf inner (moved_to (s.at + 1) s) (lent_of w) refl refl refl) (unheld r.value (after r s) l p)
    ∙ weak_lent w s (lent_of w) (lent_reference w inner) found.there.0 found.weak in
    refused (then_no (place_item (input_of w) o done) e ∙ weak_is w s d r o done inner decoded found)

-- the state after the slot
abbrev weak_state : Leaf → State → State
weak_state r s =
    record s { at = r.next; slots = s.slots + 1; values = s.values + 1; skip = 0; long_integers = s.long_integers + r.long_integers }

-- that slot
kept : (x : Input) (o done : ℕ) (k : ℕ) (s : State) (l : Lent) {ot st : List ℕ} → s.slots < room 6 l.slots → st ≡ written l.slots s.slots (slot_row o ((done + s.skip) / word_bytes x.sheet) (fields_of (WeakRef k)) 0) → ot ≡ counted l.objects o
    → got (done + s.skip + word_bytes x.sheet) (mem (record s { slots = s.slots + 1; skip = 0 }) (objects_is ot (slots_is st l))) ≡ place_item x o done (WeakRef k) (mem s l)
unfolding place_item keep_item add_slot
kept x o done k s l b es eo =
    let z : s.waiting + 0 ≡ s.waiting = omega arith in
    rw (lt-ltb s.slots (room 6 l.slots) b, es, eo, z)

module _ (w : Walker) (s : State) (d : ℕ) (r : Leaf) (found : WeakAt w s d r) (o done : ℕ) {index : ℕ} {f : Fields} {vt st ot : List ℕ} {hot : HotRing}
    (pv : Put w.values.now s.values (value_row (fields_of r.value)) true vt) (ps : Put w.slots.now s.slots (slot_row o index f 0) true st) (ei : index ≡ (done + s.skip) / word_bytes w.sheet.now) (ef : f ≡ fields_of (WeakRef s.values)) (eo : ot ≡ counted w.objects.now o) (eh : hot ≡ ring r w.hot) where
  abbrev l₁ : Lent
  l₁ = hot_is (ring r w.hot) (lent_of w)

  weak_read : (inner : Reader SlotValue) → got (WeakRef s.values) (mem (valued (after r s)) (values_is vt l₁)) ≡ lent_reference w (lent_reference w inner) (mem s (lent_of w))
  weak_read inner =
      then_got weak_of (leaf_lent w (s.at + 1) s.objects r found.leaf inner (moved_to (s.at + 1) s) (lent_of w) refl refl refl) (held r.value (after r s) l₁ pv)
      ∙ weak_lent w s (lent_of w) (lent_reference w inner) found.there.0 found.weak

  pub weak_placed : (inner : Reader SlotValue) → got (done + s.skip + word_bytes w.sheet.now) (mem (weak_state r s) (objects_is ot (slots_is st (values_is vt (hot_is hot (lent_of w)))))) ≡ slot_in (input_of w) (lent_reference w (lent_reference w inner)) o done (mem s (lent_of w))
  weak_placed inner =
      let es : st ≡ written w.slots.now s.slots (slot_row o ((done + s.skip) / word_bytes w.sheet.now) (fields_of (WeakRef s.values)) 0) = rw (ei, ef) at (put_done ps refl).1 in
      rw eh (then_got (place_item (input_of w) o done) (weak_read inner) (kept (input_of w) o done s.values (valued (after r s)) (values_is vt l₁) (put_below ps refl) es eo))
