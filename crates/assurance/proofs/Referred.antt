-- Every object that the payload refers to is listed, and each value stands where it is kept.
-- Assumes nothing.
use Rattle.std.specs.Prelude.{◌≡◌, refl, ◌≢◌, Bool, true, false, List, ◌∷◌, ℕ, ◌+◌, ◌-◌, ◌/◌, ◌<◌, ◌≤◌}
use Rattle.std.proofs.Common.{arith}
use Rattle.tables.specs.declared.values.Ref.{Ref}
use Rattle.tables.specs.declared.values.Ref.TheVariants.{Object, Root, RoRef, Attached}
use Rattle.tables.specs.declared.values.SlotValue.{SlotValue}
use Rattle.tables.specs.declared.values.SlotValue.TheVariants.{Ref as IsRef, Repeat, RepeatPrev, Skip, StreamBytes, Raw as IsRaw, ClearedWeak, WeakRef, PendingRef}
use Rattle.tables.specs.declared.values.Fields.{Fields}
use Rattle.tables.specs.Values.{raw_kind, fields_of, width_of}
use Rattle.tables.specs.Records.{room}
use Rattle.definition.specs.Memory.{Input, word, in_map, in_slot, in_value, dropped, Event, opened, passed, item, value, resolve, begins, synchronize, Table, Mem}
use Rattle.definition.specs.Slots.{resolved, waits_of}
use Rattle.definition.specs.Call.{Rooms, Call, input_of, told_of}
use Rattle.assurance.specs.Steps.{Frame, frame, Base, Hot, Rules, AtEnd, keeping_map, keeping_item, resolve_case}
use Rattle.assurance.specs.Induct.{graph_has}
use Rattle.assurance.specs.On.{On, on_note, on_note_two, on_told, All}
use Rattle.assurance.proofs.EventRules.{waiter_is}
use Rattle.assurance.proofs.Waiting.{Waits, Fresh, waits_in, renumber, slot_waits, fill_waits, found}
use Rattle.assurance.specs.Ring.{Below, Ring, ring_enter, ring_up, ring-start, hot_case}
use Rattle.assurance.proofs.Standing.{Refers, Standing, told_standing, open_standing, value_standing, map_standing, item_standing, unknown_standing, fill_standing}
use Rattle.assurance.specs.Words.{Accepted, LeftPending, FilledBy}

-- what is known of a value that was given
abbrev Val : ℕ → ℕ → Table → ℕ → SlotValue → Type 0
Val objects values st pending (IsRef (Object o)) = o < objects
Val objects values st pending (IsRef (Root i)) = Unit {0}
Val objects values st pending (IsRef (RoRef c o)) = Unit {0}
Val objects values st pending (IsRef (Attached i)) = Unit {0}
Val objects values st pending (Repeat n k) = k < values
Val objects values st pending (RepeatPrev n) = Unit {0}
Val objects values st pending (Skip n) = Unit {0}
Val objects values st pending (StreamBytes n) = Unit {0}
Val objects values st pending (IsRaw r) = Unit {0}
Val objects values st pending ClearedWeak = Unit {0}
Val objects values st pending (WeakRef k) = k < values
Val objects values st pending (PendingRef n) = Fresh st pending n

-- it may enter the ring
enters : (objects values : ℕ) (st : Table) (pending : ℕ) (r : Ref) → Hot r → Val objects values st pending (IsRef r) → Below objects r
enters o n st p (Object i) t h = h
enters o n st p (Root i) t h = tt
enters o n st p (RoRef c i) t h = tt
enters o n st p (Attached i) t h = absurd t

raw_not : (b : Bool) → (raw_kind b ≢ 1) × (raw_kind b ≢ 7) × (raw_kind b ≢ 12) × (raw_kind b ≢ 13)
raw_not true = ((λ e. omega arith), (λ e. omega arith), (λ e. omega arith), (λ e. omega arith))
raw_not false = ((λ e. omega arith), (λ e. omega arith), (λ e. omega arith), (λ e. omega arith))

none : {objects values : ℕ} {v : Fields} → v.kind ≢ 1 → v.kind ≢ 7 → v.kind ≢ 12 → (v.kind ≡ 13 → v.b ≡ 0) → Refers objects values v
none f g h p = record { object = (λ e. absurd (f e)); repeat = (λ e. absurd (g e)); weak = (λ e. absurd (h e)); pending = p }

val_refers : (objects values : ℕ) (st : Table) (pending : ℕ) (v : SlotValue) → Val objects values st pending v → Refers objects values (fields_of v)
val_refers o n st p (IsRef (Object i)) h = record { object = (λ e. h); repeat = (λ e. omega arith); weak = (λ e. omega arith); pending = (λ e. absurd (omega arith)) }
val_refers o n st p (IsRef (Root i)) h = none (λ e. omega arith) (λ e. omega arith) (λ e. omega arith) (λ e. refl)
val_refers o n st p (IsRef (RoRef c i)) h = none (λ e. omega arith) (λ e. omega arith) (λ e. omega arith) (λ e. absurd (omega arith))
val_refers o n st p (IsRef (Attached i)) h = none (λ e. omega arith) (λ e. omega arith) (λ e. omega arith) (λ e. refl)
val_refers o n st p (Repeat i k) h = record { object = (λ e. omega arith); repeat = (λ e. h); weak = (λ e. omega arith); pending = (λ e. absurd (omega arith)) }
val_refers o n st p (RepeatPrev i) h = none (λ e. omega arith) (λ e. omega arith) (λ e. omega arith) (λ e. refl)
val_refers o n st p (Skip i) h = none (λ e. omega arith) (λ e. omega arith) (λ e. omega arith) (λ e. refl)
val_refers o n st p (StreamBytes i) h = none (λ e. omega arith) (λ e. omega arith) (λ e. omega arith) (λ e. refl)
val_refers o n st p (IsRaw r) h = none (raw_not r.advances).0 (raw_not r.advances).1 (raw_not r.advances).2 (λ e. absurd ((raw_not r.advances).3 e))
val_refers o n st p ClearedWeak h = none (λ e. omega arith) (λ e. omega arith) (λ e. omega arith) (λ e. refl)
val_refers o n st p (WeakRef k) h = record { object = (λ e. omega arith); repeat = (λ e. omega arith); weak = (λ e. h); pending = (λ e. refl) }
val_refers o n st p (PendingRef k) h = none (λ e. omega arith) (λ e. omega arith) (λ e. omega arith) (λ e. refl)

-- only a pending value waits, under its number
pub record Pends (st : Table) (pending : ℕ) (v : Fields) (waits : ℕ) : Type 0 where
  pub low : waits ≤ 1
  pub off : v.kind ≢ 13 → waits ≡ 0
  pub on : v.kind ≡ 13 → waits ≡ 1
  pub fresh : waits ≡ 1 → Fresh st pending v.a

idle : {st : Table} {pending : ℕ} {v : Fields} → v.kind ≢ 13 → Pends st pending v 0
idle n = record { low = omega arith; off = (λ e. refl); on = (λ e. absurd (n e)); fresh = (λ e. absurd (omega arith)) }

val_pends : (objects values : ℕ) (st : Table) (pending : ℕ) (v : SlotValue) → Val objects values st pending v → Pends st pending (fields_of v) (waits_of v)
val_pends o n st p (IsRef (Object i)) h = idle (λ e. omega arith)
val_pends o n st p (IsRef (Root i)) h = idle (λ e. omega arith)
val_pends o n st p (IsRef (RoRef c i)) h = idle (λ e. omega arith)
val_pends o n st p (IsRef (Attached i)) h = idle (λ e. omega arith)
val_pends o n st p (Repeat i k) h = idle (λ e. omega arith)
val_pends o n st p (RepeatPrev i) h = idle (λ e. omega arith)
val_pends o n st p (Skip i) h = idle (λ e. omega arith)
val_pends o n st p (StreamBytes i) h = idle (λ e. omega arith)
val_pends o n st p (IsRaw r) h = idle (raw_not r.advances).3
val_pends o n st p ClearedWeak h = idle (λ e. omega arith)
val_pends o n st p (WeakRef k) h = idle (λ e. omega arith)
val_pends o n st p (PendingRef k) h = record { low = omega arith; off = (λ n. absurd (n refl)); on = (λ e. refl); fresh = (λ e. h) }

-- ---- the property, and what keeps it

abbrev Inv : List Frame → Mem → Type 0
Inv S m = (On (Standing m.objects.count m.slots m.values) m.log) × (Ring m.hot m.objects.count) × (Waits m.slots m.pending m.waiting)

abbrev W : Mem → SlotValue → Type 0
W m v = Val m.objects.count m.values.count m.slots m.pending v

number_waits : (t : Table) (pending waiting : ℕ) → Waits t pending waiting → (Waits t (pending + 1) waiting) × (Fresh t (pending + 1) pending)
number_waits t pending waiting h = (
  record { numbered = (λ k l w. let z = h.numbered k l w in omega arith); distinct = h.distinct; counted = h.counted },
  record { given = omega arith; unused = (λ k l w e. let z = h.numbered k l w in omega arith) },
)

map_keeps : (x : Input) (S : List Frame) (m : Mem) (o : ℕ) (v : SlotValue) → Inv S m → W m v → m.slots.count < room 6 m.slots.rows → Inv S (keeping_map x o v m)
map_keeps x S m o v h w l = (
  on_note_two _ _ (value (fields_of v) (in_map m.slots.count)) (item o 0 (word x) m.slots.count) m.log (λ es i. map_standing m.objects.count m.slots m.values es o 0 0 (word x) (fields_of v) 0 l i refl (val_refers _ _ m.slots m.pending v w)) h.0,
  h.1,
  slot_waits m.slots m.pending m.waiting o 0 (fields_of v) 0 l (omega arith) (λ e. absurd (omega arith)) h.2,
)

item_keeps : (x : Input) (S : List Frame) (m : Mem) (o done : ℕ) (v : SlotValue) → Inv S m → W m v → m.slots.count < room 6 m.slots.rows → Inv S (keeping_item x o done v m)
item_keeps x S m o done v h w l =
    let p = val_pends m.objects.count m.values.count m.slots m.pending v w in (
      on_note_two _ _ (value (fields_of v) (in_slot m.slots.count)) (item o done (width_of (word x) v) m.slots.count) m.log (λ es i. item_standing m.objects.count m.slots m.values es o (done / word x) done (width_of (word x) v) (fields_of v) (waits_of v) l i p.off p.on (val_refers _ _ m.slots m.pending v w)) h.0,
      h.1,
      slot_waits m.slots m.pending m.waiting o (done / word x) (fields_of v) (waits_of v) l p.low p.fresh h.2,
    )

resolve_keeps : (x : Input) (S : List Frame) (m : Mem) (o size done n : ℕ) → Base x (frame o size done ∷ S) m → Inv (frame o size done ∷ S) m → Inv (frame o size done ∷ S) (resolved n o m)
resolve_keeps x S m o size done n b h =
    resolve_case m n o (Inv (frame o size done ∷ S))
    (λ e. (
      on_note _ _ (resolve n o) m.log (λ es i. unknown_standing m.objects.count m.slots m.values es n o e i) h.0,
      h.1,
      renumber m.slots m.pending m.waiting h.2,
    ))
    (λ k e. let w = waiter_is m.slots.rows n m.slots.count k e in
    let f = found m.slots.rows n k w.1 in (
      on_note _ _ (resolve n o) m.log (λ es i. fill_standing m.objects.count m.pending m.waiting m.slots m.values es n o k b.open_below.0 w.0 b.slots_fit f.0 f.1 h.2 i) h.0,
      h.1,
      renumber _ m.pending (m.waiting - 1) (fill_waits m.slots m.pending m.waiting k o w.0 b.slots_fit f.0 h.2),
    ))

rules : (x : Input) → Rules x Inv W
unfolding LeftPending FilledBy
rules x =
    record {
      on_move = (λ S m at h l g. h);
      on_long = (λ S m n h. h);
      on_object = (λ S m i h l. l);
      on_root = (λ S m i h. tt);
      on_read_only = (λ S m c o h. tt);
      on_attached = (λ S m i h. tt);
      on_cleared = (λ S m h. tt);
      on_hot = (λ S m i r h l e. hot_case (λ r. W m (IsRef r)) m.hot m.objects.count i r h.1 l e (λ o g. g) (λ j. tt) (λ c o. tt));
      on_enter = (λ S m r t h w. ((h.0, ring_enter m.hot m.objects.count r (enters m.objects.count m.values.count m.slots m.pending r t w) h.1, h.2), w));
      on_pending = (λ S m h. let z = number_waits m.slots m.pending m.waiting h.2 in ((h.0, h.1, z.0), z.1));
      on_raw = (λ S m n a h l g. ((on_note _ _ (passed m.at n) m.log (λ es. told_standing m.objects.count m.slots m.values es (passed m.at n) tt refl refl) h.0, h.1, h.2), tt));
      on_value = (λ S m v h w l. ((on_note _ _ (value (fields_of v) (in_value m.values.count)) m.log (λ es. value_standing m.objects.count m.slots m.values es (fields_of v) l (val_refers _ _ m.slots m.pending v w)) h.0, h.1, h.2), omega arith, λ n. omega arith));
      on_open = (λ S m tag words q i h l. (on_note _ _ (opened tag words) m.log (λ es. open_standing m.objects.count m.slots m.values es tag words) h.0, ring_up m.hot m.objects.count (m.objects.count + 1) (omega arith) h.1, h.2));
      on_flag = (λ S m o v l h w. (h, w));
      on_map = (λ S m o size v b h w l. map_keeps x S m o v h w l);
      on_item = (λ S m o size done v b h w p d l. item_keeps x S m o done v h w l);
      on_resolve = (λ S m o size done n b h. resolve_keeps x S m o size done n b h);
      on_close = (λ S m o size l p h. h);
      on_drop = (λ S m v h w. (on_note _ _ (value (fields_of v) dropped) m.log (λ es. told_standing m.objects.count m.slots m.values es (value (fields_of v) dropped) (val_refers _ _ m.slots m.pending v w, tt) refl refl) h.0, h.1, h.2));
      on_align = (λ S m a h. h);
      on_begins = (λ m n h. (on_note _ _ (begins m.at) m.log (λ es. told_standing m.objects.count m.slots m.values es (begins m.at) tt refl refl) h.0, h.1, h.2));
    }

at_end : AtEnd Inv
unfolding LeftPending FilledBy
at_end m h =
    let o : ℕ = m.objects.count in
    let more : (es : List Event) → Standing o m.slots m.values es → Standing o m.slots m.values (synchronize m.at ∷ begins m.at ∷ es) =
    λ es i. told_standing o m.slots m.values _ (synchronize m.at) tt refl refl (told_standing o m.slots m.values es (begins m.at) tt refl refl i) in
    (on_note_two _ _ (begins m.at) (synchronize m.at) m.log more h.0, h.1, h.2)

-- THE THEOREM
pub referred : (c : Call) (rooms : Rooms) (m : Mem) → Accepted c rooms m → Standing m.objects.count m.slots m.values (told_of m.log)
unfolding All LeftPending FilledBy waits_in
referred c rooms m a =
    on_told (Standing m.objects.count m.slots m.values) m.log
    (graph_has c rooms m a Inv W (rules (input_of c))
    (record { right = tt; left = (λ k n i. absurd i); resolved = (λ k n o i. absurd i) }, ring-start, record { numbered = (λ k l w. absurd (omega arith)); distinct = (λ j k l g w v e. absurd (omega arith)); counted = refl }) at_end).0
