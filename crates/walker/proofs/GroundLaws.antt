-- Slots leave the address records and the chunk counters as they are. Assumes nothing.
use mathlib.Core.Path.{◌≡◌, refl, sym, subst}
use mathlib.Core.List.{List}
use Prim.Native.Nat.{ℕ, zero, suc}
use lib.Dec.{ltb}
use lib.ListN.{length}
use Rattle.std.specs.Prelude.{Option, Some, None, Ok, Err}
use Rattle.stream.specs.declared.putint.Int.{Int}
use Rattle.stream.specs.PutInt.{int_at}
use Rattle.sheet.specs.Tests.{is_resolve}
use Rattle.tables.specs.declared.values.SlotValue.{SlotValue}
use Rattle.tables.specs.declared.values.SlotValue.TheVariants.{Ref, Repeat, RepeatPrev, Skip, StreamBytes, Raw, ClearedWeak, WeakRef, PendingRef}
use Rattle.tables.specs.declared.values.Fields.{Fields}
use Rattle.tables.specs.Values.{fields_of}
use Rattle.alloc.specs.declared.legacy_alloc.LegacyAlloc.{LegacyAlloc}
use Rattle.definition.specs.Memory.{Input, Kept, in_slot, Table, Mem, Out, got, no, ◌>>=◌, ◌>>◌, change, with_skip, after_int, byte, int, has_room}
use Rattle.definition.specs.Slots.{add_value, add_slot, waiter, fill_waiter, resolved, waits_of, keep_item, repeat_previous, place_item}
use Rattle.definition.specs.Object.{peek, flags, flag_object, keep_map, resolves}
use Rattle.laws.specs.Addresses.{Ascending, StaysAscending}
use Rattle.address_index.specs.Links.{Linked}
use Rattle.readers.specs.Views.{Lent, Answer, mem, seen}
use Rattle.objects.specs.Index.{Indexed, IndexedAfter}
use Rattle.walker.proofs.ScratchLaws.{Scratch, OutIndex}
use Rattle.walker.proofs.SameLaws.{Same, Leaves, same_choose, then_leaves, next_leaves}

pub record Ground : Type 0 where
  pub addresses : Table
  pub alloc : LegacyAlloc

abbrev pub ground_of : Mem → Ground
ground_of m = record { addresses = m.addresses; alloc = m.alloc }

-- so that addresses ascend after them where they did before
pub ground_ascends : {A : Type 0} (x : Input) (m : Mem) → Ascending x m.addresses m.alloc → (o : Out A) → Same ground_of m o → StaysAscending x o
ground_ascends x m a (got v m') e = subst (λ (g : Ground). Ascending x g.addresses g.alloc) (sym e) a
ground_ascends x m a (no n q m') e = subst (λ (g : Ground). Ascending x g.addresses g.alloc) (sym e) a

module _ (x : Input) where
  byte_ground : Leaves ground_of (byte x)
  unfolding byte
  byte_ground m = same_choose ground_of (ltb m.at (length x.payload)) _ _ m (λ _. refl) refl

  int_of : (i : Option Int) → Leaves ground_of (after_int x i)
  int_of (Some i) m = refl
  int_of None m = refl

  int_ground : Leaves ground_of (int x)
  unfolding int
  int_ground m = int_of (int_at x.payload m.at) m

  pub slot_ground : (o index : ℕ) (f : Fields) (waits : ℕ) (k : ℕ → Kept) → Leaves ground_of (add_slot o index f waits k)
  unfolding add_slot
  slot_ground o index f waits k m = same_choose ground_of (has_room 6 m.slots) _ _ m (λ _. refl) refl

  value_ground : (f : Fields) → Leaves ground_of (add_value f)
  unfolding add_value
  value_ground f m = same_choose ground_of (has_room 3 m.values) _ _ m (λ _. refl) refl

  -- ---- the map's slot

  flag_ground : (o : ℕ) (v : SlotValue) → Leaves ground_of (flag_object x o v)
  unfolding flag_object
  flag_ground o v m = same_choose ground_of (flags x v) _ _ m (λ _. refl) refl

  pub keep_map_ground : (o : ℕ) (v : SlotValue) → Leaves ground_of (keep_map x o v)
  unfolding keep_map
  keep_map_ground o v = then_leaves ground_of (flag_object x o v >> add_slot o 0 (fields_of v) 0 _) _ (next_leaves ground_of (flag_object x o v) _ (flag_ground o v) (slot_ground o 0 (fields_of v) 0 _)) (λ k m. refl)

  -- ---- resolves

  fill_ground : (k o : ℕ) (m : Mem) → ground_of (fill_waiter k o m) ≡ ground_of m
  fill_ground zero o m = refl
  fill_ground (suc k) o m = refl

  resolved_ground : (number o : ℕ) (m : Mem) → ground_of (resolved number o m) ≡ ground_of m
  unfolding resolved
  resolved_ground number o m = fill_ground (waiter m.slots.rows number m.slots.count) o m

  pub resolves_ground : (o n : ℕ) → Leaves ground_of (resolves x o n)
  unfolding resolves
  resolves_ground o zero m = refl
  resolves_ground o (suc n) m =
      same_choose ground_of (is_resolve x.sheet (peek x m)) _ _ m
      (λ _. next_leaves ground_of (byte x >> int x >>= (λ number. change (resolved number o))) (resolves x o n)
      (then_leaves ground_of (byte x >> int x) _ (next_leaves ground_of (byte x) (int x) byte_ground int_ground) (λ number m. resolved_ground number o m))
      (resolves_ground o n) m) refl

  -- ---- an item

  keep_ground : (o done : ℕ) (v : SlotValue) → Leaves ground_of (keep_item x o done v)
  unfolding keep_item
  keep_ground o done v m =
      next_leaves ground_of (add_slot o _ (fields_of v) (waits_of v) in_slot >>= _ >> change (with_skip 0)) _
      (next_leaves ground_of (add_slot o _ (fields_of v) (waits_of v) in_slot >>= _) (change (with_skip 0))
      (then_leaves ground_of (add_slot o _ (fields_of v) (waits_of v) in_slot) _ (slot_ground o _ (fields_of v) (waits_of v) in_slot) (λ k m. refl)) (λ m. refl)) (λ m. refl) m

  pub place_item_ground : (o done : ℕ) (v : SlotValue) → Leaves ground_of (place_item x o done v)
  unfolding place_item
  place_item_ground o done (Skip n) m = refl
  place_item_ground o done (StreamBytes n) m = refl
  place_item_ground o done (RepeatPrev n) m = then_leaves ground_of repeat_previous _ (λ m. value_ground _ m) (λ k. keep_ground o done (Repeat n k)) m
  place_item_ground o done (Ref r) m = keep_ground o done (Ref r) m
  place_item_ground o done (Repeat n k) m = keep_ground o done (Repeat n k) m
  place_item_ground o done (Raw r) m = keep_ground o done (Raw r) m
  place_item_ground o done ClearedWeak m = keep_ground o done ClearedWeak m
  place_item_ground o done (WeakRef k) m = keep_ground o done (WeakRef k) m
  place_item_ground o done (PendingRef n) m = keep_ground o done (PendingRef n) m

-- ---- scratch after a reader of slots: the places of pending numbers are promised, the rest stays

abbrev PendingOut : {A : Type 0} → Out A → List ℕ → Type 0
PendingOut (got v m) part = Indexed m.slots.rows m.slots.count part
PendingOut (no n q m) part = Unit {0}

module _ (m : Mem) (sc sc' : Scratch) (d : sc'.index ≡ sc.index) (k : Linked m.addresses.rows m.addresses.count sc.index) where
  slots_index : {A : Type 0} (o : Out A) → Same ground_of m o → PendingOut o sc'.pending → OutIndex o sc'
  slots_index (got v m') e i = record { pending = i; linked = rw d (subst (λ (g : Ground). Linked g.addresses.rows g.addresses.count sc.index) (sym e) k) }
  slots_index (no n q m') e i = tt

  pub answer_index : {A : Type 0} (r : Answer A) (l : Lent) {o : Out A} → seen r l ≡ o → Same ground_of m o → IndexedAfter r l.slots sc'.pending → OutIndex (seen r l) sc'
  answer_index (Ok v) l e u i = slots_index (got v.0 (mem v.1 l)) (subst (Same ground_of m) (sym e) u) i
  answer_index (Err q) l e u i = tt
