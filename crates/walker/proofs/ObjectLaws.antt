-- An object's head and its map with what follows it, at each way out of the code, and what holds
-- there. Assumes nothing.
use Rattle.std.specs.Prelude.{if◌then◌else◌}
use mathlib.Core.Path.{◌≡◌, refl, sym, ap, subst, ◌∙◌}
use mathlib.Core.Bool.{Bool, true, false, ◌&&◌}
use mathlib.Core.List.{List}
use Prim.Native.Nat.{ℕ, zero, suc, ◌+◌, ◌-◌, ◌*◌, ◌%◌, ◌^◌, ◌<◌}
use native.Mathlib.Nat.{mul-mod_left}
use native.Mathlib.Omega.{arith}
use lib.Dec.{eqb}
use lib.ListN.{length}
use Rattle.stream.specs.Bytes.{peek_at}
use Rattle.sheet.specs.Sheet.{is_legacy, is_six_x, is_map_first, lo_space}
use Rattle.sheet.specs.Tests.{is_next_chunk, alignment_of}
use Rattle.alloc.specs.declared.legacy_alloc.LegacyAlloc.{LegacyAlloc}
use Rattle.alloc.specs.Allocation.{Outcome, allocate_of}
use Rattle.tables.specs.declared.values.SlotValue.{SlotValue}
use Rattle.tables.specs.declared.values.Fields.{Fields}
use Rattle.tables.specs.Values.{fields_of}
use Rattle.definition.specs.Memory.{Input, word, Kept as Where, in_map, item, Table, table, with_alloc, with_objects, refuse, tell, has_room, Mem, Out, got, no, Reader, and_then, ◌>>=◌, ◌>>◌, give, change, moved, aligned, byte, int}
use Rattle.definition.specs.Slots.{add_slot}
use Rattle.definition.specs.Object.{peek, large_byte, add_object, change_chunk, flagged, allocate, alignment_byte, chunk_changes, read_map, flags, flag_object, keep_map, resolves, body, object}
use Rattle.definition.specs.Reference.{ref_at}
use Rattle.laws.specs.Sound.{Proper, Sound, Counted, Onward, Kept, Holds}
use Rattle.laws.specs.Steps.{kept_trans}
use Rattle.laws.specs.Waiting.{Waits}
use Rattle.laws.proofs.Theorems.{byte_keeps, int_keeps, add_object_keeps, resolves_keep}
use Rattle.laws.specs.Addresses.{Ascending}
use Rattle.laws.specs.Numbered.{resolves-numbered}
use Rattle.objects.specs.Head.{recording, opening}
use Rattle.objects.specs.Index.{Indexed}
use Rattle.objects.specs.Map.{after_map}
use Rattle.objects.proofs.ItemLaws.{slot_added}
use Rattle.objects.proofs.MapSteps.{object_no, object_got}
use Rattle.objects.proofs.WaiterLaws.{indexed_plain}
use Rattle.heads.specs.declared.heads.Head.{Head}
use Rattle.opened_leaves.specs.Opening.{opened}
use Rattle.objects.specs.declared.item.Level.{Level}
use Rattle.walker.specs.Ready.{mapped, headed}
use Rattle.walker.proofs.ScratchLaws.{Scratch, Index, InOrder}
use Rattle.walker.proofs.SameLaws.{Same, Leaves, same_choose, next_leaves, same_got}
use Rattle.walker.proofs.GroundLaws.{ground_ascends, resolves_ground}
use Rattle.walker.proofs.ReadyLaws.{Went, went, None, order_after, map_went, keep_map_went}
use Rattle.walker.proofs.ItemsLaws.{through, filled}

-- ---- what follows a map leaves the slots

abbrev table_of : Mem → Table
table_of m = m.slots

module _ (x : Input) where
  allocated : (r : Outcome) (m : Mem) (t : Bool) → Same table_of m ((if t then change (with_alloc (table r.table (m.addresses.count + 1)) r.alignment r.alloc) else refuse r.number) m)
  allocated r m true = refl
  allocated r m false = refl

  allocate_leaves : (space bytes o : ℕ) → Leaves table_of (allocate x space bytes o)
  unfolding allocate
  allocate_leaves space bytes o m =
      let r : Outcome = allocate_of m.addresses.rows m.addresses.count x.spaces (record { space = space; size = bytes; object = o; alignment = m.alignment; word = word x }) m.alloc in
      allocated r m (eqb r.number 0)

  chunks_leave : (space n : ℕ) → Leaves table_of (chunk_changes x space n)
  unfolding chunk_changes
  chunks_leave space zero m = refl
  chunks_leave space (suc n) m =
      same_choose table_of (is_next_chunk x.sheet (peek x m) && eqb (peek_at x.payload (m.at + 1)) space) _ _ m (λ _. next_leaves table_of (change (λ m. change_chunk x space (moved (m.at + 2) m))) (chunk_changes x space n) (λ m. refl) (chunks_leave space n) m) refl

  module _ (before space bytes o : ℕ) where
    abbrev aligns : Reader (Unit {0})
    aligns = change (aligned before) >> alignment_byte x

    abbrev chunks : Reader (Unit {0})
    chunks m = chunk_changes x space (length x.payload - m.at) m

    aligns_leave : Leaves table_of aligns
    aligns_leave = next_leaves table_of (change (aligned before)) (alignment_byte x) (λ m. refl) (λ m. same_choose table_of (eqb (alignment_of x.sheet (peek x m)) 0) _ _ m (λ _. refl) refl)

    followed_leaves : (m : Mem) (first legacy : Bool) → Same table_of m ((if first then aligns >> chunks >> allocate x space bytes o else if legacy then allocate x space bytes o else give tt) m)
    followed_leaves m true legacy =
        next_leaves table_of (aligns >> chunks) (allocate x space bytes o) (next_leaves table_of aligns chunks aligns_leave (λ m. chunks_leave space (length x.payload - m.at) m)) (allocate_leaves space bytes o) m
    followed_leaves m false true = allocate_leaves space bytes o m
    followed_leaves m false false = refl

    pub after_still : (m : Mem) {m' : Mem} → got tt m' ≡ after_map x before space bytes o m → m'.slots ≡ m.slots
    after_still m e = same_got table_of {m = m} e (followed_leaves m (is_map_first x.sheet) (is_legacy x.sheet))

-- ---- the map

abbrev mem_of : {A : Type 0} → Out A → Mem
mem_of (got v m) = m
mem_of (no n q m) = m

abbrev pub slots_of : {A : Type 0} → Out A → Table
slots_of u = (mem_of u).slots

-- a slot that does not wait
pub plain_slot : (o index : ℕ) (f : Fields) (k : ℕ → Where) (m : Mem) {n : ℕ} {m' : Mem} → got n m' ≡ add_slot o index f 0 k m → (sc : List ℕ) → Indexed m.slots.rows m.slots.count sc → Indexed m'.slots.rows m'.slots.count sc
plain_slot o index f k m e sc i =
    let d = slot_added o index f 0 k m e in
    rw (d.rows_are, d.count_is) (indexed_plain m.slots.rows m.slots.count o index f 0 d.roomy refl sc i)

-- so does slot 0 never
module _ (x : Input) (o : ℕ) (v : SlotValue) (m : Mem) {m' : Mem} (sc : List ℕ) (i : Indexed m.slots.rows m.slots.count sc) where
  slot_indexed : (m₁ : Mem) → m₁.slots ≡ m.slots → got tt m' ≡ and_then (add_slot o 0 (fields_of v) 0 in_map m₁) (λ k. tell (item o 0 (word x) k)) → Indexed m'.slots.rows m'.slots.count sc
  slot_indexed m₁ s e =
      let t = through (add_slot o 0 (fields_of v) 0 in_map m₁) (λ k. tell (item o 0 (word x) k)) e in
      rw (ap slots_of t.second) (plain_slot o 0 (fields_of v) in_map m₁ t.first sc (rw s i))

  flag_indexed : (t : Bool) → got tt m' ≡ ((if t then change (λ m. with_objects (flagged o m.objects) m) else give tt) >> add_slot o 0 (fields_of v) 0 in_map >>= (λ k. tell (item o 0 (word x) k))) m → Indexed m'.slots.rows m'.slots.count sc
  flag_indexed true e = slot_indexed (with_objects (flagged o m.objects) m) refl e
  flag_indexed false e = slot_indexed m refl e

  pub map_indexed : got tt m' ≡ keep_map x o v m → Indexed m'.slots.rows m'.slots.count sc
  unfolding keep_map flag_object
  map_indexed e = flag_indexed (flags x v) e

-- ---- the head

-- all that an object's head leaves
record Rest : Type 0 where
  slots : Table
  pending : ℕ
  waiting : ℕ
  addresses : Table
  alloc : LegacyAlloc

abbrev rest_of : Mem → Rest
rest_of m = record { slots = m.slots; pending = m.pending; waiting = m.waiting; addresses = m.addresses; alloc = m.alloc }

-- what a reader that gave a value keeps
held : {A : Type 0} {x : Input} {m : Mem} (P : A → Mem → Type 0) {o : Out A} → Holds x m P o → {v : A} {m' : Mem} → got v m' ≡ o → Kept x m m' × P v m'
held {x = x} {m} P h e = subst (Holds x m P) (sym e) h

-- the byte of a large object
large_kept : {x : Input} {m : Mem} → Proper x → Sound x m → Counted m → (large : Bool) {u : Unit {0}} {m' : Mem} → got u m' ≡ (if large then byte x >> give (tt {0}) else give (tt {0})) m → Kept x m m' × (rest_of m' ≡ rest_of m)
large_kept {x} {m} p s c true e =
    let t = through (byte x m) (λ _. give (tt {0})) e in
    let k = held _ (byte_keeps p m s c) t.first in
    rw (ap mem_of t.second) (k.0, ap rest_of k.1.only)
large_kept p s c false e = rw (ap mem_of e) (record { sound = s; counted = c; onward = omega arith }, refl)

object_leaves : (x : Input) (tag words : ℕ) → Leaves rest_of (add_object x tag words)
unfolding add_object
object_leaves x tag words m = same_choose rest_of (has_room 4 m.objects) _ _ m (λ _. refl) refl

-- the object that is read after its map, of so many words
abbrev opened_as : Input → ℕ → Mem → ℕ → Level
opened_as x tag m words = record { object = m.objects.count; size = words * word x; done = word x; tag = tag }

module _ {x : Input} {h : List Head} {sc : Scratch} {m : Mem} (g : InOrder x h m sc) where
  -- what holds after an object's head
  pub opened_ready : (space tag : ℕ) {words : ℕ} {m₁ : Mem} → got words m₁ ≡ opening x space tag m → (InOrder x h m₁ sc) × (m.objects.count < m₁.objects.count) × (Onward m m₁)
  opened_ready space tag {words} {m₁} e =
      let t = through (int x m) (λ words. large_byte x space >> recording x tag words) e in
      let i = held _ (int_keeps g.proper m g.sound g.counted) t.first in
      let l = through (large_byte x space t.between) (λ _. recording x tag t.value) t.second in
      let k = large_kept g.proper i.0.sound i.0.counted (is_six_x x.sheet && eqb space (lo_space x.sheet)) l.first in
      let r = through (add_object x tag t.value l.between) (λ _. give t.value) l.second in
      let o = held _ (add_object_keeps g.proper tag t.value l.between k.0.sound k.0.counted) r.first in
      let z : m₁ ≡ r.between = ap mem_of r.second in
      let s : rest_of m ≡ rest_of m₁ = sym (ap rest_of z ∙ same_got rest_of {m = l.between} r.first (object_leaves x tag t.value l.between) ∙ k.1 ∙ ap rest_of i.1.only) in
      let p : Kept x m m₁ = rw z (kept_trans i.0 (kept_trans k.0 o.0)) in
      (order_after g p (subst (λ (r : Rest). Waits r.slots.rows r.slots.count r.pending r.waiting) s g.numbered) (subst (λ (r : Rest). Ascending x r.addresses r.alloc) s g.ascending) (subst (λ (r : Rest). Index r.slots r.addresses sc) s g.index), rw z (omega (arith, o.1.one.more, i.0.onward, k.0.onward)), p.onward)

  -- and after its map
  module _ (k space bytes o : ℕ) (b : o < m.objects.count) (l : space < 256) (u : bytes % word x ≡ 0) where
    abbrev map : Out (Unit {0})
    map = (read_map x (ref_at x k) space bytes o >>= keep_map x o) m

    map_kept : {v : Unit {0}} {m₁ : Mem} → got v m₁ ≡ map → Went x m (λ _ m'. 0 < m'.slots.count) None v m₁
    map_kept e =
        let r = through (read_map x (ref_at x k) space bytes o m) (keep_map x o) e in
        let w = map_went g o b k space bytes l u r.first in
        let q = keep_map_went g.proper w o (omega (arith, b, w.kept.onward.objects_up)) r.second in
        record { kept = kept_trans w.kept q.kept; more = omega (arith, q.more.more); numbered = q.numbered; ascending = q.ascending; fresh = tt }

    -- and its resolves
    mapped_ready : {m₁ : Mem} → got tt m₁ ≡ mapped x (ref_at x k) space bytes o m → {sc₁ : Scratch} → Index m₁.slots m₁.addresses sc₁ → (InOrder x h m₁ sc₁) × (o < m₁.objects.count) × (0 < m₁.slots.count) × (Onward m m₁)
    mapped_ready e i =
        let t = through map (λ _ m. resolves x o (length x.payload - m.at) m) e in
        let w = map_kept t.first in
        let n : ℕ = length x.payload - t.between.at in
        let b₁ : o < t.between.objects.count = omega (arith, b, w.kept.onward.objects_up) in
        let q = went (resolves_keep g.proper t.between w.kept.sound w.kept.counted o b₁ n) (resolves-numbered g.proper t.between w.kept.sound w.kept.counted w.numbered o 0 0 b₁ n) (ground_ascends x t.between w.ascending (resolves x o n t.between) (resolves_ground x o n t.between)) t.second in
        (order_after g (kept_trans w.kept q.kept) q.numbered q.ascending i, omega (arith, b₁, q.kept.onward.objects_up), omega (arith, w.more, q.kept.onward.slots_up), omega (arith, w.kept.onward, q.kept.onward))

-- after its head and its map, before the resolves
pub map_ready : {x : Input} {h : List Head} {sc : Scratch} {m : Mem} → InOrder x h m sc → (k space tag : ℕ) → space < 256 → {n : ℕ} {m₁ : Mem} → got n m₁ ≡ opened x (ref_at x k) space tag m.objects.count m → {sc₁ : Scratch} → Index m₁.slots m₁.addresses sc₁ → InOrder x h m₁ sc₁
map_ready {x} {m = m} g k space tag l {m₁ = m₁} e i =
    let o : ℕ = m.objects.count in
    let t = through (opening x space tag m) (λ words. read_map x (ref_at x k) space (words * word x) o >>= keep_map x o >> give (words * word x)) e in
    let bytes : ℕ = t.value * word x in
    let u = through ((read_map x (ref_at x k) space bytes o >>= keep_map x o) t.between) (λ _. give bytes) t.second in
    let q = opened_ready g space tag t.first in
    let w = map_kept q.0 k space bytes o q.1 l (mul-mod_left t.value (word x)) u.first in
    let z : m₁ ≡ u.between = ap mem_of u.second in
    rw (sym z) at (order_after q.0 w.kept w.numbered w.ascending (rw z at i))

-- what holds after it, of the object that is read then
pub record Held (m : Mem) (o size : ℕ) : Type 0 where
  pub below : o < m.objects.count
  pub some : 0 < m.slots.count
  pub small : size < 2 ^ 33

pub headed_ready : {x : Input} {h : List Head} {sc : Scratch} {m : Mem} → InOrder x h m sc → (k space tag : ℕ) → space < 256 → {l : Level} {m₂ : Mem} → got l m₂ ≡ headed x (ref_at x k) space tag m → l.size < 2 ^ 33 → {sc₂ : Scratch} → Index m₂.slots m₂.addresses sc₂ → (InOrder x h m₂ sc₂) × (Held m₂ l.object l.size) × (l.done ≡ word x) × (Onward m m₂)
headed_ready {x} {m = m} g k space tag low {l} {m₂} e small i =
    let t = through (opening x space tag m) (λ words. mapped x (ref_at x k) space (words * word x) m.objects.count >> give (opened_as x tag m words)) e in
    let bytes : ℕ = t.value * word x in
    let u = through (mapped x (ref_at x k) space bytes m.objects.count t.between) (λ _. give (opened_as x tag m t.value)) t.second in
    let z : got l m₂ ≡ got (opened_as x tag m t.value) u.between = u.second in
    let f : got tt m₂ ≡ mapped x (ref_at x k) space bytes m.objects.count t.between = subst (λ (m₃ : Mem). got tt m₃ ≡ mapped x (ref_at x k) space bytes m.objects.count t.between) (sym (ap mem_of z)) u.first in
    let y : l ≡ opened_as x tag m t.value = cc in
    let r = opened_ready g space tag t.first in
    let q = mapped_ready r.0 k space bytes m.objects.count r.1 low (mul-mod_left t.value (word x)) f i in
    (q.0, record { below = omega (arith, q.1, ap (λ (l : Level). l.object) y); some = q.2; small = small }, ap (λ (l : Level). l.done) y, omega (arith, r.2, q.3))

-- ---- the object, from its head and its map

module _ (x : Input) (r : Reader SlotValue) (space tag : ℕ) (m : Mem) where
  by_map : {words : ℕ} {m₁ : Mem} → got words m₁ ≡ opening x space tag m → (out : Out (Unit {0})) → out ≡ mapped x r space (words * word x) m.objects.count m₁ → and_then (and_then out (λ _. give (opened_as x tag m words))) (λ l m. filled x r l (got l.done m)) ≡ object x r space tag m
  unfolding body
  by_map {words} {m₁} e (got tt m₂) f =
      let z : filled x r (opened_as x tag m words) (got (word x) m₂) ≡ body x r space tag words m.objects.count m₁ = rw (← f) in
      z ∙ sym (object_got x r space tag m (sym e))
  by_map {words} {m₁} e (no n q m₂) f =
      let z : no n q m₂ ≡ body x r space tag words m.objects.count m₁ = rw (← f) in
      z ∙ sym (object_got x r space tag m (sym e))

  by_head : (out : Out ℕ) → out ≡ opening x space tag m → and_then (and_then out (λ words. mapped x r space (words * word x) m.objects.count >> give (opened_as x tag m words))) (λ l m. filled x r l (got l.done m)) ≡ object x r space tag m
  by_head (got words m₁) e = by_map e (mapped x r space (words * word x) m.objects.count m₁) refl
  by_head (no n q m₁) e = sym (object_no x r space tag m (sym e))

  pub headed_object : and_then (headed x r space tag m) (λ l m. filled x r l (got l.done m)) ≡ object x r space tag m
  headed_object = by_head (opening x space tag m) refl
