-- Leaves at each way out of the code. Assumes nothing.
use mathlib.Core.Path.{◌≡◌, refl, sym, ap, subst, ◌∙◌}
use mathlib.Core.Bool.{Bool, true, false}
use mathlib.Core.List.{List}
use Prim.Native.Nat.{ℕ, ◌+◌, ◌*◌, ◌/◌, ◌^◌, ◌<◌, ◌≤◌}
use native.Mathlib.Nat.{mul-le-mul, le_of_lt}
use native.Mathlib.Omega.{arith}
use borrow.Author.Tests.{lt-ltb}
use lib.ListN.{length, get_or}
use Rattle.std.specs.Prelude.{Option, Some, None}
use Rattle.std.specs.Int.{from_bool}
use Rattle.stream.specs.Bytes.{raw_at}
use Rattle.stream.specs.declared.putint.Int.{Int}
use Rattle.stream.specs.PutInt.{int_at, is_long}
use Rattle.sheet.specs.Sheet.{word_bytes}
use Rattle.heads.specs.Heads.{head_at, Heads}
use Rattle.heads.specs.declared.kinds.Kind.{Kind}
use Rattle.heads.specs.declared.kinds.Kind.TheVariants.{Backref as BackrefKind, LegacyBackref, Hot, RootArray, RootConstant, ReadOnly, FixedRaw}
use Rattle.std.proofs.Common.{rules}
use Rattle.tables.specs.declared.values.Ref.{Ref}
use Rattle.tables.specs.declared.values.Ref.TheVariants.{Object, Root, RoRef}
use Rattle.tables.specs.declared.values.SlotValue.{SlotValue}
use Rattle.tables.specs.declared.values.SlotValue.TheVariants.{Ref as IsRef, Raw as IsRaw}
use Rattle.tables.specs.Values.{fields_of, width_of}
use Rattle.tables.specs.Records.{room, slot_row, written, counted}
use Rattle.backref.specs.declared.hot_ring.HotRing.{HotRing}
use Rattle.backref.specs.HotRing.{hot_at}
use Rattle.backref.specs.Legacy.{is_single, placed, single}
use Rattle.definition.specs.Memory.{Input, word, Mem, Out, got, no, and_then, has_room, table, moved, past_int, int, byte, Reader}
use Rattle.definition.specs.Slots.{add_slot, waits_of, keep_item, place_item}
use Rattle.definition.specs.Reference.{backref_to, refers, raw_data, refers_hot, by_head, reference}
use Rattle.readers.specs.declared.state.State.{State}
use Rattle.readers.specs.declared.walker.Walker.{Walker}
use Rattle.readers.specs.Views.{Lent, input, mem, hot_is, slots_is, objects_is, moved_to}
use Rattle.readers.specs.Lent.{input_of, lent_of}
use Rattle.readers.proofs.ViewLaws.{then_got, then_no}
use Rattle.readers.proofs.SimpleLaws.{backref_in, backref_past, hot_is_lem, first_no, single_no, single_to, second_no, place_to, raw_to}
use Rattle.leaves.specs.declared.leaf.Leaf.{Leaf}
use Rattle.leaves.specs.Leaf.{ring_with, ring, after, Stands, Found, Missing, Refused, LeafAt, NoLeafAt, MissingIn, begins_leaf, begins_item, kind_at, argument_at, FoundIn, slot_in, lent_reference}

-- a reference that is one word wide
abbrev one_word : Ref → ℕ → ℕ → Bool → ℕ → Leaf
one_word r next ts enters long =
    record { value = IsRef r; width = ts; next = next; enters = enters; long_integers = long }

-- how many long integers one is, and two are
abbrev pub long_one : Int → ℕ
long_one i = from_bool (is_long i)

abbrev pub long_two : Int → Int → ℕ
long_two i j = long_one i + long_one j

one_few : (b : Bool) → from_bool b ≤ 1
one_few true = omega arith
one_few false = omega arith

few_one : (i : Int) → long_one i ≤ 2
few_one i = omega (arith, one_few (is_long i))

few_two : (i j : Int) → long_two i j ≤ 2
few_two i j = omega (arith, one_few (is_long i), one_few (is_long j))

-- what is right in every sheet is right in one
pub found_in : (w : Walker) (s : State) (at : ℕ) (kind : Kind) (a : ℕ) (r : Option Leaf) → Found w.payload.now w.hot s.objects (word_bytes w.sheet.now) at kind a r → FoundIn w s at kind a r
found_in w s at kind a (Some r) f = λ tag. f w.sheet.now w.trusted.now w.spaces tag (moved_to at s) (lent_of w) refl refl refl
found_in w s at kind a None f = tt

-- what holds at a kind holds of what is that kind
pub found_kind : (p : List ℕ) (hot : HotRing) (objects ts at a : ℕ) (r : Option Leaf) {kind key : Kind} → kind ≡ key → Found p hot objects ts at key a r → Found p hot objects ts at kind a r
found_kind p hot objects ts at a r e f = subst (λ (k : Kind). Found p hot objects ts at k a r) (sym e) f

-- a reference is a slot of one word
module _ (x : Input) (r : Ref) where
  ref_kept : (o done : ℕ) (m : Mem) → keep_item x o done (IsRef r) m ≡ place_item x o done (IsRef r) m
  unfolding place_item
  ref_kept o done m = refl

-- an integer at the cursor
int_got : (x : Input) (m : Mem) {i : Int} → int_at x.payload m.at ≡ Some i → got i.value (past_int i m) ≡ int x m
unfolding int
int_got x m e = rw e

-- an integer that is cut off
int_no : (x : Input) (m : Mem) → int_at x.payload m.at ≡ None → no 4 (length x.payload) (moved (length x.payload) m) ≡ int x m
unfolding int
int_no x m e = rw e

-- what the definition refuses
pub refused : {A : Type 0} {n q : ℕ} {m : Mem} {o : Out A} → no n q m ≡ o → Refused o
refused e = rw (← e) tt

-- a reference that was read so, as a leaf
ref_stands : (x : Input) (tag : ℕ) (kind : Kind) (a : ℕ) (s : State) (l : Lent) (r : Ref) (next ts : ℕ) (enters : Bool) (long : ℕ) → long ≤ 2 → word x ≡ ts
    → ((inner : Reader SlotValue) → got (IsRef r) (mem (after (one_word r next ts enters long) s) (hot_is (ring_with enters (IsRef r) l.hot) l)) ≡ by_head x inner tag kind a (mem s l))
    → Stands x tag kind a s l (one_word r next ts enters long)
ref_stands x tag kind a s l r next ts enters long few ew read =
    record { is = read; width = sym ew; narrow = λ few. omega (arith, few, ew); few = few; kept = ref_kept x r; waits = refl }

-- no integer, none that is long
none_long : (s : State) → s.long_integers + 0 ≡ s.long_integers
none_long s = omega arith

narrow_words : {n w : ℕ} → n < 65536 → w ≤ 8 → n * w < 2 ^ 20
narrow_words h l = let z = mul-le-mul (le_of_lt h) l in omega (arith, z)

module _ (p : List ℕ) (hots : HotRing) (objects ts at : ℕ) where
  pub root_found : (i : ℕ) → Found p hots objects ts at RootConstant i (Some (one_word (Root i) at ts false 0))
  unfolding by_head
  root_found i v tr sp tag s l ew ea eo =
      ref_stands (input v p sp tr) tag RootConstant i s (hot_is hots l) (Root i) at ts false 0 (omega arith) ew (λ inner. rw (none_long s, ← ea))

  pub hot_found : (place : ℕ) {h : Option Ref} → h ≡ hot_at hots place → (r : Ref) → h ≡ Some r → Found p hots objects ts at Hot place (Some (one_word r at ts false 0))
  unfolding by_head
  hot_found place e r k v tr sp tag s l ew ea eo =
      ref_stands (input v p sp tr) tag Hot place s (hot_is hots l) r at ts false 0 (omega arith) ew (λ inner. rw (none_long s, ← ea) (hot_is_lem (mem s (hot_is hots l)) place e k))

  pub back_found : (i : Int) (a : ℕ) → int_at p at ≡ Some i → i.value < objects → Found p hots objects ts at BackrefKind a (Some (one_word (Object i.value) (at + i.count) ts true (long_one i)))
  unfolding by_head
  back_found i a e b v tr sp tag s l ew ea eo =
      let x = input v p sp tr in
      let m : Mem = mem s (hot_is hots l) in
      let g : got i.value (past_int i m) ≡ int x m = int_got x m (ap (int_at p) ea ∙ e) in
      ref_stands x tag BackrefKind a s (hot_is hots l) (Object i.value) (at + i.count) ts true (long_one i) (few_one i) ew
      (λ inner. rw (← ea) (then_got backref_to g (backref_in (past_int i m) i.value (rw eo b))))

  pub root_array_found : (i : Int) (a : ℕ) → int_at p at ≡ Some i → Found p hots objects ts at RootArray a (Some (one_word (Root i.value) (at + i.count) ts true (long_one i)))
  unfolding by_head
  root_array_found i a e v tr sp tag s l ew ea eo =
      let x = input v p sp tr in
      let m : Mem = mem s (hot_is hots l) in
      let g : got i.value (past_int i m) ≡ int x m = int_got x m (ap (int_at p) ea ∙ e) in
      ref_stands x tag RootArray a s (hot_is hots l) (Root i.value) (at + i.count) ts true (long_one i) (few_one i) ew (λ inner. rw (← ea) (then_got (λ i. refers_hot (Root i)) g refl))

  pub read_only_found : (c o : Int) (a : ℕ) → int_at p at ≡ Some c → int_at p (at + c.count) ≡ Some o → Found p hots objects ts at ReadOnly a (Some (one_word (RoRef c.value o.value) (at + c.count + o.count) ts false (long_two c o)))
  unfolding by_head
  read_only_found c o a e g v tr sp tag s l ew ea eo =
      let x = input v p sp tr in
      let m : Mem = mem s (hot_is hots l) in
      let m₁ : Mem = past_int c m in
      let q : got c.value m₁ ≡ int x m = int_got x m (ap (int_at p) ea ∙ e) in
      let both : s.long_integers + long_two c o ≡ s.long_integers + long_one c + long_one o = omega arith in
      let q₁ : got o.value (past_int o m₁) ≡ int x m₁ = int_got x m₁ (ap (λ (at : ℕ). int_at p (at + c.count)) ea ∙ g) in
      ref_stands x tag ReadOnly a s (hot_is hots l) (RoRef c.value o.value) (at + c.count + o.count) ts false (long_two c o) (few_two c o) ew
      (λ inner. rw (both, ← ea) (then_got (λ c. λ m. _) q (then_got (λ o. refers (RoRef c.value o)) q₁ refl)))

  pub raw_found : (n end : ℕ) → n < 65536 → raw_at p at (n * ts) ≡ Some end → Found p hots objects ts at FixedRaw n (Some (record { value = IsRaw (record { off = at; len = n * ts; advances = true }); width = n * ts; next = end; enters = false; long_integers = 0 }))
  unfolding by_head place_item
  raw_found n end low e v tr sp tag s l ew ea eo =
      let x = input v p sp tr in
      let m : Mem = mem s (hot_is hots l) in
      record { is = λ inner. rw (none_long s, ← ea, ← ew) (raw_to x (n * word_bytes v) true m refl (rw (ea, ew) e)); width = refl; narrow = λ few. narrow_words low (rw ew at few); few = omega arith; kept = λ o done m. refl; waits = refl }

-- ---- where none is found

missing_kind : (p : List ℕ) (hot : HotRing) (objects ts at a : ℕ) {kind key : Kind} → kind ≡ key → Missing p hot objects ts at key a → Missing p hot objects ts at kind a
missing_kind p hot objects ts at a e f = subst (λ (k : Kind). Missing p hot objects ts at k a) (sym e) f

module _ (p : List ℕ) (hots : HotRing) (objects ts at : ℕ) where
  pub hot_missing : (place : ℕ) → hot_at hots place ≡ None → Missing p hots objects ts at Hot place
  unfolding by_head
  hot_missing place e v tr sp tag s l inner ew ea eo = rw e tt

  pub back_cut : (a : ℕ) → int_at p at ≡ None → Missing p hots objects ts at BackrefKind a
  unfolding by_head
  back_cut a e v tr sp tag s l inner ew ea eo =
      refused (then_no backref_to (int_no (input v p sp tr) (mem s (hot_is hots l)) (ap (int_at p) ea ∙ e)))

  pub back_past : (i : Int) (a : ℕ) → int_at p at ≡ Some i → objects ≤ i.value → Missing p hots objects ts at BackrefKind a
  unfolding by_head
  back_past i a e b v tr sp tag s l inner ew ea eo =
      let x = input v p sp tr in
      let m : Mem = mem s (hot_is hots l) in
      let g : got i.value (past_int i m) ≡ int x m = int_got x m (ap (int_at p) ea ∙ e) in
      refused (then_got backref_to g (backref_past (past_int i m) i.value (rw eo b)))

  pub root_array_cut : (a : ℕ) → int_at p at ≡ None → Missing p hots objects ts at RootArray a
  unfolding by_head
  root_array_cut a e v tr sp tag s l inner ew ea eo =
      refused (then_no (λ i. refers_hot (Root i)) (int_no (input v p sp tr) (mem s (hot_is hots l)) (ap (int_at p) ea ∙ e)))

  pub chunk_cut : (a : ℕ) → int_at p at ≡ None → Missing p hots objects ts at ReadOnly a
  unfolding by_head
  chunk_cut a e v tr sp tag s l inner ew ea eo =
      refused (then_no (λ c. λ m. _) (int_no (input v p sp tr) (mem s (hot_is hots l)) (ap (int_at p) ea ∙ e)))

  pub offset_cut : (c : Int) (a : ℕ) → int_at p at ≡ Some c → int_at p (at + c.count) ≡ None → Missing p hots objects ts at ReadOnly a
  unfolding by_head
  offset_cut c a e g v tr sp tag s l inner ew ea eo =
      let x = input v p sp tr in
      let m : Mem = mem s (hot_is hots l) in
      let m₁ : Mem = past_int c m in
      let q : got c.value m₁ ≡ int x m = int_got x m (ap (int_at p) ea ∙ e) in
      refused (then_got (λ c. λ m. _) q (then_no (λ o. refers (RoRef c.value o)) (int_no x m₁ (ap (λ (at : ℕ). int_at p (at + c.count)) ea ∙ g))))

  pub raw_missing : (n : ℕ) → raw_at p at (n * ts) ≡ None → Missing p hots objects ts at FixedRaw n
  unfolding by_head raw_data
  raw_missing n e v tr sp tag s l inner ew ea eo = let z : raw_at p s.at (n * word_bytes v) ≡ None = rw (ea, ew) e in rw z tt

-- what is missing in every sheet is missing in one
pub missing_in : (w : Walker) (s : State) (at : ℕ) (kind : Kind) (a : ℕ) → Missing w.payload.now w.hot s.objects (word_bytes w.sheet.now) at kind a → MissingIn w s at kind a
missing_in w s at kind a f tag inner = f w.sheet.now w.trusted.now w.spaces tag (moved_to at s) (lent_of w) inner refl refl refl

-- what begins an item and is no legacy back-reference begins a leaf
pub item_leaf : (k : Kind) → (k ≡ LegacyBackref → ⊥) → begins_item k ≡ true → begins_leaf k ≡ true
item_leaf k e b = search rules

-- a legacy back-reference
module _ (w : Walker) (s : State) (at space : ℕ) where
  abbrev x : Input
  x = input_of w

  abbrev m : Mem
  m = mem (moved_to at s) (lent_of w)

  pub first_cut : int_at w.payload.now at ≡ None → MissingIn w s at LegacyBackref space
  unfolding by_head
  first_cut e tag inner = refused (first_no x space m (int_no x m e))

  module _ {i : Int} (e : int_at w.payload.now at ≡ Some i) where
    module _ (t : is_single w.sheet.now space ≡ true) {o : Option Ref} (so : o ≡ single w.sheet.now w.addresses.now s.addresses s.alignment space i.value) where
      pub single_missing : o ≡ None → MissingIn w s at LegacyBackref space
      unfolding by_head
      single_missing k tag inner = refused (single_no x space m (int_got x m e) t so k)

      pub single_found : (ts : ℕ) → ts ≡ word_bytes w.sheet.now → {r : Ref} → o ≡ Some r → FoundIn w s at LegacyBackref space (Some (one_word r (at + i.count) ts true (long_one i)))
      unfolding by_head
      single_found ts ew {r} k tag =
          ref_stands x tag LegacyBackref space (moved_to at s) (lent_of w) r (at + i.count) ts true (long_one i) (few_one i) (sym ew)
          (λ inner. single_to x space m (int_got x m e) t so k)

    module _ (t : is_single w.sheet.now space ≡ false) where
      pub second_cut : int_at w.payload.now (at + i.count) ≡ None → MissingIn w s at LegacyBackref space
      unfolding by_head
      second_cut f tag inner = refused (second_no x space m (int_got x m e) t (int_no x (past_int i m) f))

      pub place_found : (ts : ℕ) → ts ≡ word_bytes w.sheet.now → {j : Int} → int_at w.payload.now (at + i.count) ≡ Some j → {r : Ref}
          → r ≡ placed w.sheet.now w.addresses.now s.addresses s.alignment space (record { chunk = i.value; offset = j.value })
          → FoundIn w s at LegacyBackref space (Some (one_word r (at + i.count + j.count) ts true (long_two i j)))
      unfolding by_head
      place_found ts ew {j} f {r} p tag =
          let both : s.long_integers + long_two i j ≡ s.long_integers + long_one i + long_one j = omega arith in
          ref_stands x tag LegacyBackref space (moved_to at s) (lent_of w) r (at + i.count + j.count) ts true (long_two i j) (few_two i j) (sym ew)
          (λ inner. rw both (place_to x space m (int_got x m e) t (int_got x (past_int i m) f) p))

-- ---- a leaf as a reference

-- a head at the cursor, read as a reference
head_read : (w : Walker) (s : State) (l : Lent) (inner : Reader SlotValue) → Heads w.sheet.now w.heads.now → s.at < length w.payload.now → get_or w.payload.now s.at 0 < 256
    → by_head (input_of w) inner s.at (head_at w.heads.now (get_or w.payload.now s.at 0)).kind (head_at w.heads.now (get_or w.payload.now s.at 0)).argument (mem (moved_to (s.at + 1) s) l) ≡ reference (input_of w) inner (mem s l)
unfolding reference byte
head_read w s l inner h b c = rw (lt-ltb s.at (length w.payload.now) b, h.each (get_or w.payload.now s.at 0) c)

-- the same by the heads that are lent
pub head_lent : (w : Walker) (s : State) (l : Lent) (inner : Reader SlotValue) → s.at < length w.payload.now
    → by_head (input_of w) inner s.at (kind_at w s.at) (argument_at w s.at) (mem (moved_to (s.at + 1) s) l) ≡ lent_reference w inner (mem s l)
unfolding lent_reference byte
head_lent w s l inner b = rw (lt-ltb s.at (length w.payload.now) b)

-- where these are the sheet's, that is the reference
pub lent_is : (w : Walker) (s : State) (l : Lent) (inner : Reader SlotValue) → Heads w.sheet.now w.heads.now → (s.at < length w.payload.now) × (get_or w.payload.now s.at 0 < 256)
    → lent_reference w inner (mem s l) ≡ reference (input_of w) inner (mem s l)
lent_is w s l inner h b = sym (head_lent w s l inner b.0) ∙ head_read w s l inner h b.0 b.1

module _ (w : Walker) (at objects : ℕ) (r : Leaf) (found : LeafAt w at objects (Some r)) where
  pub leaf_lent : (inner : Reader SlotValue) (s : State) (l : Lent) → s.at ≡ at → s.objects ≡ objects → l.hot ≡ w.hot → got r.value (mem (after r s) (hot_is (ring r l.hot) l)) ≡ lent_reference w inner (mem s l)
  leaf_lent inner s l ea eo eh =
      let stands = rw (← eh) at (found.1 w.sheet.now w.trusted.now w.spaces s.at (moved_to (s.at + 1) s) l refl (ap (λ (i : ℕ). i + 1) ea) eo) in
      stands.is inner ∙ rw (← ea) (head_lent w s l inner (rw ea found.0.0))

-- a leaf has two integers at most
pub leaf_few : (w : Walker) (at objects : ℕ) (r : Leaf) → LeafAt w at objects (Some r) → (s : State) → r.long_integers ≤ 2
leaf_few w at objects r f s =
    (f.1 w.sheet.now w.trusted.now w.spaces at (record s { at = at + 1; objects = objects }) (lent_of w) refl refl refl).few

-- where none stands, the definition refuses the reference
pub leaf_refused : (w : Walker) (s : State) (l : Lent) → l.hot ≡ w.hot → Heads w.sheet.now w.heads.now → (s.at < length w.payload.now) × (get_or w.payload.now s.at 0 < 256) → NoLeafAt w s.at s.objects → (inner : Reader SlotValue)
    → Refused (reference (input_of w) inner (mem s l))
leaf_refused w s l eh decoded b f inner =
    let r = rw (← eh) at (f w.sheet.now w.trusted.now w.spaces s.at (moved_to (s.at + 1) s) l inner refl refl refl) in
    subst (λ (o : Out SlotValue). Refused o) (head_read w s l inner decoded b.0 b.1) r

-- a reader after one that was refused
pub refused_then : {A B : Type 0} (o : Out A) (f : A → Reader B) → Refused o → Refused (and_then o f)
refused_then (no n q m) f e = tt
refused_then (got a m) f e = absurd e

pub item_refused : (w : Walker) (s : State) (o done : ℕ) → Heads w.sheet.now w.heads.now → (s.at < length w.payload.now) × (get_or w.payload.now s.at 0 < 256) → MissingIn w s (s.at + 1) (kind_at w s.at) (argument_at w s.at) → (inner : Reader SlotValue) → Refused (slot_in (input_of w) (reference (input_of w) inner) o done (mem s (lent_of w)))
item_refused w s o done decoded b f inner =
    refused_then _ (place_item (input_of w) o done) (subst (λ (o : Out SlotValue). Refused o) (head_read w s (lent_of w) inner decoded b.0 b.1) (f s.at inner))

-- ---- its slot

-- the state after a leaf's slot
abbrev pub stepped : Leaf → State → State
stepped r s =
    record s { at = r.next; slots = s.slots + 1; skip = 0; long_integers = s.long_integers + r.long_integers }

-- a leaf's slot is that of an item with its value
slot_kept : (x : Input) (o done : ℕ) (s : State) (l : Lent) (r : Leaf) {w : ℕ} → word x ≡ w → r.width ≡ width_of w r.value → 0 ≡ waits_of r.value → s.slots < room 6 l.slots → {ot st : List ℕ} → st ≡ written l.slots s.slots (slot_row o ((done + s.skip) / w) (fields_of r.value) 0) → ot ≡ counted l.objects o
    → got (done + s.skip + r.width) (mem (stepped r s) (objects_is ot (slots_is st l))) ≡ keep_item x o done r.value (mem (after r s) l)
unfolding keep_item add_slot
slot_kept x o done s l r ew eb ez b es eo =
    let z : s.waiting + 0 ≡ s.waiting = omega arith in
    rw (ew, ← ez, lt-ltb s.slots (room 6 l.slots) b, es, eo, z, eb)

slot_full : (x : Input) (o done : ℕ) (v : SlotValue) (m : Mem) → has_room 6 m.slots ≡ false → no 3 m.at m ≡ keep_item x o done v m
unfolding keep_item add_slot
slot_full x o done v m b = rw b

-- where the heads that are lent are the sheet's, an item by them is that of the reference
pub item_is : (w : Walker) (s : State) (o done : ℕ) → (inner : Reader SlotValue) → Heads w.sheet.now w.heads.now → (s.at < length w.payload.now) × (get_or w.payload.now s.at 0 < 256)
    → slot_in (input_of w) (lent_reference w inner) o done (mem s (lent_of w)) ≡ slot_in (input_of w) (reference (input_of w) inner) o done (mem s (lent_of w))
item_is w s o done inner h b = ap (λ (out : Out SlotValue). and_then out (place_item (input_of w) o done)) (lent_is w s (lent_of w) inner h b)

-- a leaf at the cursor as an item of object o
module _ (w : Walker) (s : State) (r : Leaf) (in_payload : s.at < length w.payload.now)
    (found : FoundIn w s (s.at + 1) (head_at w.heads.now (get_or w.payload.now s.at 0)).kind (head_at w.heads.now (get_or w.payload.now s.at 0)).argument (Some r)) where
  abbrev is : Stands (input_of w) s.at (head_at w.heads.now (get_or w.payload.now s.at 0)).kind (head_at w.heads.now (get_or w.payload.now s.at 0)).argument (moved_to (s.at + 1) s) (lent_of w) r
  is = found s.at

  is_lent : (inner : Reader SlotValue) → got r.value (mem (after r s) (hot_is (ring r w.hot) (lent_of w))) ≡ lent_reference w inner (mem s (lent_of w))
  is_lent inner = is.is inner ∙ head_lent w s (lent_of w) inner in_payload

  pub item_lent : (o done : ℕ) (ot st : List ℕ) (hot : HotRing) → s.slots < room 6 w.slots.now → st ≡ written w.slots.now s.slots (slot_row o ((done + s.skip) / word_bytes w.sheet.now) (fields_of r.value) 0) → ot ≡ counted w.objects.now o → hot ≡ ring r w.hot → (inner : Reader SlotValue)
      → got (done + s.skip + r.width) (mem (stepped r s) (objects_is ot (slots_is st (hot_is hot (lent_of w))))) ≡ slot_in (input_of w) (lent_reference w inner) o done (mem s (lent_of w))
  item_lent o done ot st hot b es eo eh inner =
      let m : Mem = mem (after r s) (hot_is (ring r w.hot) (lent_of w)) in
      let k : got (done + s.skip + r.width) (mem (stepped r s) (objects_is ot (slots_is st (hot_is (ring r w.hot) (lent_of w))))) ≡ keep_item (input_of w) o done r.value m =
      slot_kept (input_of w) o done s (hot_is (ring r w.hot) (lent_of w)) r refl is.width is.waits b es eo in
      rw eh (then_got (place_item (input_of w) o done) (is_lent inner) (k ∙ is.kept o done m))

  -- where its slot has no room, the item is refused
  pub item_full : (o done : ℕ) → has_room 6 (table w.slots.now s.slots) ≡ false → (inner : Reader SlotValue) → Heads w.sheet.now w.heads.now → get_or w.payload.now s.at 0 < 256 → Refused (slot_in (input_of w) (reference (input_of w) inner) o done (mem s (lent_of w)))
  item_full o done b inner h small =
      let m : Mem = mem (after r s) (hot_is (ring r w.hot) (lent_of w)) in
      let k : no 3 m.at m ≡ place_item (input_of w) o done r.value m = slot_full (input_of w) o done r.value m b ∙ is.kept o done m in
      refused (then_got (place_item (input_of w) o done) (is_lent inner) k ∙ item_is w s o done inner h (in_payload, small))
