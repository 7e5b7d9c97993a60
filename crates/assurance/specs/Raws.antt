-- Each raw value that was read stands for a raw range. Assumes nothing.
use Rattle.std.specs.Prelude.{◌≡◌, refl, ◌⊎◌, ◌≢◌, List, ◌∷◌}
use Rattle.std.proofs.Common.{⊎_elim, arith}
use mathlib.Core.List.Memᴰ
use Rattle.tables.specs.declared.values.Ref.TheVariants.{Object, Root, RoRef, Attached}
use Rattle.tables.specs.declared.values.SlotValue.{SlotValue}
use Rattle.tables.specs.declared.values.SlotValue.TheVariants.{Ref as IsRef, Repeat, RepeatPrev, Skip, StreamBytes, Raw as IsRaw, ClearedWeak, WeakRef, PendingRef}
use Rattle.tables.specs.declared.values.Fields.{Fields}
use Rattle.tables.specs.Values.{fields_of, width_of}
use Rattle.definition.specs.Memory.{Input, word, Kept, in_map, in_slot, in_value, dropped, Event, opened, passed, item, value, resolve, begins, synchronize, Mem}
use Rattle.definition.specs.Call.{Rooms, Call, input_of, told_of}
use Rattle.assurance.specs.Words.{Accepted, Told}
use Rattle.assurance.specs.Steps.{Frame, frame, Rules, AtEnd, resolve_case}
use Rattle.assurance.specs.Induct.{graph_has}
use Rattle.assurance.specs.On.{On, on_note, on_note_two, on_map, on_both, on_told, All, all_map, all_told}

-- a value of kind 5 or 6
abbrev pub IsRange : Fields → Type 0
IsRange v = (v.kind ≡ 5) ⊎ (v.kind ≡ 6)

abbrev Ranged : List Event → Event → Type 0
Ranged es (value v t) = IsRange v → Told es (passed v.a v.b)
Ranged es (opened q w) = Unit {0}
Ranged es (passed a n) = Unit {0}
Ranged es (item o s w k) = Unit {0}
Ranged es (resolve n o) = Unit {0}
Ranged es (begins q) = Unit {0}
Ranged es (synchronize q) = Unit {0}

-- of a value that was given
abbrev Val : SlotValue → List Event → Type 0
Val (IsRaw r) es = Told es (passed r.off r.len)
Val (IsRef r) es = Unit {0}
Val (Repeat n k) es = Unit {0}
Val (RepeatPrev n) es = Unit {0}
Val (Skip n) es = Unit {0}
Val (StreamBytes n) es = Unit {0}
Val ClearedWeak es = Unit {0}
Val (WeakRef k) es = Unit {0}
Val (PendingRef n) es = Unit {0}

neither : (C : Type 0) (v : Fields) → v.kind ≢ 5 → v.kind ≢ 6 → IsRange v → C
neither C v f g h = ⊎_elim (λ e. absurd (f e)) (λ e. absurd (g e)) h

val_ranged : (v : SlotValue) (es : List Event) → Val v es → IsRange (fields_of v) → Told es (passed (fields_of v).a (fields_of v).b)
val_ranged (IsRaw r) es h i = h
val_ranged (IsRef (Object o)) es h i = neither _ (fields_of (IsRef (Object o))) (λ e. omega arith) (λ e. omega arith) i
val_ranged (IsRef (Root o)) es h i = neither _ (fields_of (IsRef (Root o))) (λ e. omega arith) (λ e. omega arith) i
val_ranged (IsRef (RoRef c o)) es h i = neither _ (fields_of (IsRef (RoRef c o))) (λ e. omega arith) (λ e. omega arith) i
val_ranged (IsRef (Attached o)) es h i = neither _ (fields_of (IsRef (Attached o))) (λ e. omega arith) (λ e. omega arith) i
val_ranged (Repeat n k) es h i = neither _ (fields_of (Repeat n k)) (λ e. omega arith) (λ e. omega arith) i
val_ranged (RepeatPrev n) es h i = neither _ (fields_of (RepeatPrev n)) (λ e. omega arith) (λ e. omega arith) i
val_ranged (Skip n) es h i = neither _ (fields_of (Skip n)) (λ e. omega arith) (λ e. omega arith) i
val_ranged (StreamBytes n) es h i = neither _ (fields_of (StreamBytes n)) (λ e. omega arith) (λ e. omega arith) i
val_ranged ClearedWeak es h i = neither _ (fields_of ClearedWeak) (λ e. omega arith) (λ e. omega arith) i
val_ranged (WeakRef k) es h i = neither _ (fields_of (WeakRef k)) (λ e. omega arith) (λ e. omega arith) i
val_ranged (PendingRef n) es h i = neither _ (fields_of (PendingRef n)) (λ e. omega arith) (λ e. omega arith) i

later : (es : List Event) (f e : Event) → Ranged es e → Ranged (f ∷ es) e
later es f (value v t) h = λ i. Memᴰ.tail (h i)
later es f (opened q w) h = tt
later es f (passed a n) h = tt
later es f (item o s w k) h = tt
later es f (resolve n o) h = tt
later es f (begins q) h = tt
later es f (synchronize q) h = tt

abbrev P : List Event → Type 0
P es = All (Ranged es) es

more : (e : Event) (es : List Event) → Ranged (e ∷ es) e → P es → P (e ∷ es)
unfolding All
more e es r h = (r, all_map (Ranged es) (Ranged (e ∷ es)) (later es e) es h)

valued : (v : SlotValue) (t : Kept) (es : List Event) → (P es) × (Val v es) → P (value (fields_of v) t ∷ es)
valued v t es h = more (value (fields_of v) t) es (λ i. Memᴰ.tail (val_ranged v es h.1 i)) h.0

abbrev Inv : List Frame → Mem → Type 0
Inv S m = On P m.log

abbrev W : Mem → SlotValue → Type 0
W m v = On (Val v) m.log

rules : (x : Input) → Rules x Inv W
rules x =
    record {
      on_move = (λ S m at h l g. h);
      on_long = (λ S m n h. h);
      on_object = (λ S m i h l. on_map _ _ m.log (λ es g. tt) h);
      on_root = (λ S m i h. on_map _ _ m.log (λ es g. tt) h);
      on_read_only = (λ S m c o h. on_map _ _ m.log (λ es g. tt) h);
      on_attached = (λ S m i h. on_map _ _ m.log (λ es g. tt) h);
      on_cleared = (λ S m h. on_map _ _ m.log (λ es g. tt) h);
      on_hot = (λ S m i r h l e. on_map _ _ m.log (λ es g. tt) h);
      on_enter = (λ S m r t h w. (h, w));
      on_pending = (λ S m h. (h, on_map _ _ m.log (λ es g. tt) h));
      on_raw = (λ S m n a h l g. (on_note _ _ (passed m.at n) m.log (λ es. more (passed m.at n) es tt) h, on_note _ _ (passed m.at n) m.log (λ es i. Memᴰ.head refl) h));
      on_value = (λ S m v h w l. let e : Event = value (fields_of v) (in_value m.values.count) in (on_note _ _ e m.log (valued v (in_value m.values.count)) (on_both P (Val v) m.log h w), on_note _ _ e m.log (λ es i. tt) h, λ n. on_note _ _ e m.log (λ es i. tt) h));
      on_open = (λ S m tag words q i h l. on_note _ _ (opened tag words) m.log (λ es. more (opened tag words) es tt) h);
      on_flag = (λ S m o v l h w. (h, w));
      on_map = (λ S m o size v b h w l. on_note_two _ _ (value (fields_of v) (in_map m.slots.count)) (item o 0 (word x) m.slots.count) m.log (λ es i. more (item o 0 (word x) m.slots.count) _ tt (valued v (in_map m.slots.count) es i)) (on_both P (Val v) m.log h w));
      on_item = (λ S m o size done v b h w p d l. on_note_two _ _ (value (fields_of v) (in_slot m.slots.count)) (item o done (width_of (word x) v) m.slots.count) m.log (λ es i. more (item o done (width_of (word x) v) m.slots.count) _ tt (valued v (in_slot m.slots.count) es i)) (on_both P (Val v) m.log h w));
      on_resolve = (λ S m o size done n b h. resolve_case m n o (Inv (frame o size done ∷ S)) (λ e. on_note _ _ (resolve n o) m.log (λ es. more (resolve n o) es tt) h) (λ k e. on_note _ _ (resolve n o) m.log (λ es. more (resolve n o) es tt) h));
      on_close = (λ S m o size l p h. h);
      on_drop = (λ S m v h w. on_note _ _ (value (fields_of v) dropped) m.log (valued v dropped) (on_both P (Val v) m.log h w));
      on_align = (λ S m a h. h);
      on_begins = (λ m n h. on_note _ _ (begins m.at) m.log (λ es. more (begins m.at) es tt) h);
    }

at_end : AtEnd Inv
at_end m h = on_note_two _ _ (begins m.at) (synchronize m.at) m.log (λ es i. more (synchronize m.at) _ tt (more (begins m.at) es tt i)) h

-- THE THEOREM
pub raw_ranged : (c : Call) (rooms : Rooms) (m : Mem) → Accepted c rooms m → (v : Fields) (t : Kept) → Told (told_of m.log) (value v t) → IsRange v → Told (told_of m.log) (passed v.a v.b)
unfolding All
raw_ranged c rooms m a v t i = all_told (Ranged (told_of m.log)) (told_of m.log) (value v t) (on_told P m.log (graph_has c rooms m a Inv W (rules (input_of c)) tt at_end)) i
