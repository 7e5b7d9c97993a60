-- What the rules keep is kept by every reader, under a plain sheet: objects. Assumes nothing.
use Rattle.std.specs.Prelude.{◌≡◌, refl, ◌&&◌, leb, eqb, length}
use Rattle.std.proofs.Common.{subst, arith}
use mathlib.Core.List.{List, ◌∷◌}
use Prim.Native.Nat.{ℕ, zero, suc, ◌+◌, ◌-◌, ◌*◌, ◌/◌, ◌<◌, ◌≤◌}
use borrow.Author.Tests.{ltb-true, leb-false, eqb-true}
use Rattle.stream.proofs.ByteLaws.{Bytes}
use Rattle.sheet.specs.Sheet.{is_legacy, is_six_x, is_map_first, lo_space}
use Rattle.sheet.specs.Tests.{is_resolve, is_deferred}
use Rattle.std.proofs.lemmas.Bool.{and_parts}
use Rattle.tables.specs.declared.values.SlotValue.{SlotValue}
use Rattle.tables.specs.declared.values.SlotValue.TheVariants.{Ref as IsRef, Repeat, RepeatPrev, Skip, StreamBytes, Raw as IsRaw, ClearedWeak, WeakRef, PendingRef}
use Rattle.tables.specs.declared.values.Fields.{Fields}
use Rattle.tables.specs.Values.{fields_of, width_of}
use Rattle.tables.specs.Records.{room}
use Rattle.definition.specs.Memory.{Input, word, Kept, in_map, in_slot, Mem, Reader, ◌>>=◌, ◌>>◌, change, tell, moved, with_skip, noted, item, byte, int, has_room, with_long}
use Rattle.definition.specs.Slots.{add_slot, resolved, keep_item, place_item, waits_of}
use Rattle.definition.specs.Object.{peek, add_object, large_byte, read_map, flags, flag_object, keep_map, resolves, items, closed, body, object}
use Rattle.assurance.specs.PlainSheet.{PlainSheet, word_pos, not_legacy, not_six_x_lem, not_map_first, not_deferred}
use Rattle.assurance.specs.Gives.{Gives, gives, refused, gives_then, gives-choose, byte_gives, int_reads, int_gives}
use Rattle.assurance.specs.Words.{IntegerAt}
use Rattle.assurance.specs.Steps.{Frame, frame, OpensAt, Base, Rules, keeping, base_same, base_open, base_flag, base_keep, base_resolve, base_close}

-- a value that becomes a slot: under a plain sheet all are
abbrev pub MakesSlot : SlotValue → Type 0
MakesSlot (Skip n) = ⊥
MakesSlot (StreamBytes n) = ⊥
MakesSlot (RepeatPrev n) = ⊥
MakesSlot (IsRef r) = Unit {0}
MakesSlot (Repeat n k) = Unit {0}
MakesSlot (IsRaw r) = Unit {0}
MakesSlot ClearedWeak = Unit {0}
MakesSlot (WeakRef k) = Unit {0}
MakesSlot (PendingRef n) = Unit {0}

module _ (x : Input) (bytes : Bytes x.payload) (plainly : PlainSheet x.sheet) where
  module _ (I : List Frame → Mem → Type 0) (W : Mem → SlotValue → Type 0) (rules : Rules x I W) where
    abbrev pub Good : List Frame → Mem → Type 0
    Good S m = (Base x S m) × (I S m)

    -- of a reference
    abbrev pub Has : List Frame → SlotValue → Mem → Type 0
    Has S v m = (Good S m) × (W m v) × (MakesSlot v)

    -- of an item: more than nothing of the object has been read
    abbrev Read : List Frame → ℕ → ℕ → ℕ → Mem → Type 0
    Read S o size d m = (Good (frame o size d ∷ S) m) × (1 ≤ d)

    -- of a step that gives nothing
    abbrev pub Had : List Frame → Unit {0} → Mem → Type 0
    Had S u m = Good S m

    pub good_move : (S : List Frame) (m : Mem) (at : ℕ) → Good S m → m.at < at → at ≤ length x.payload → Good S (moved at m)
    good_move S m at g l h = (base_same x S m g.0 (moved at m) h refl refl refl, rules.on_move S m at g.1 l h)

    good_read : (S : List Frame) (m : Mem) (at n : ℕ) → Good S m → m.at < at → at ≤ length x.payload → Good S (with_long n (moved at m))
    good_read S m at n g l h = (base_same x S m g.0 (with_long n (moved at m)) h refl refl refl, rules.on_long S (moved at m) n (rules.on_move S m at g.1 l h))

    pub byte_has : (S : List Frame) (m : Mem) → Good S m → Gives (λ b. Good S) (byte x m)
    byte_has S m g = byte_gives x (λ b. Good S) m (λ l. good_move S m (m.at + 1) g (omega arith) (omega arith))

    pub int_has : (S : List Frame) (m : Mem) → Good S m → Gives (λ n. Good S) (int x m)
    int_has S m g = int_gives x bytes (λ n. Good S) m (λ v at n l h. good_read S m at n g l h)

    -- ---- an object's head, and its map

    large_has : (S : List Frame) (space : ℕ) (m : Mem) → Good S m → Gives (Had S) (large_byte x space m)
    large_has S space m g =
        gives-choose (Had S) (is_six_x x.sheet && eqb space (lo_space x.sheet)) _ _ m
        (λ t. absurd (not_six_x_lem x.sheet plainly (and_parts _ _ t).0)) (λ t. gives (Had S) _ _ g)

    open_has : (S : List Frame) (tag words : ℕ) (m : Mem) → OpensAt x tag → IntegerAt x.payload (tag + 1) words → Good S m → Gives (λ o. Good (frame o (words * word x) 0 ∷ S)) (add_object x tag words m)
    unfolding add_object
    open_has S tag words m q i g =
        gives-choose (λ o. Good (frame o (words * word x) 0 ∷ S)) (has_room 4 m.objects) _ _ m
        (λ t. let l = ltb-true _ _ t in gives (λ o. Good (frame o (words * word x) 0 ∷ S)) _ _ (base_open x S m g.0 tag words l, rules.on_open S m tag words q i g.1 l)) (λ t. refused (λ o. Good (frame o (words * word x) 0 ∷ S)) _ _ _)

    flag_has : (S : List Frame) (o : ℕ) (v : SlotValue) (m : Mem) → o < m.objects.count → Good S m → W m v → Gives (λ u m. (Good S m) × (W m v)) (flag_object x o v m)
    unfolding flag_object
    flag_has S o v m l g w =
        gives-choose (λ u m. (Good S m) × (W m v)) (flags x v) _ _ m
        (λ t. let z = rules.on_flag S m o v l g.1 w in gives (λ u m. (Good S m) × (W m v)) _ _ ((base_flag x S m g.0 o, z.0), z.1)) (λ t. gives (λ u m. (Good S m) × (W m v)) _ _ (g, w))

    slot_has : (T : List Frame) (S : List Frame) (k : ℕ → Kept) (o index start width : ℕ) (v : Fields) (waits : ℕ) (m : Mem) → (m.slots.count < room 6 m.slots.rows → Good T (keeping k o index start width v waits m)) → Gives (λ n m. Good T (noted (item o start width n) m)) (add_slot o index v waits k m)
    unfolding add_slot
    slot_has T S k o index start width v waits m h =
        gives-choose (λ n m. Good T (noted (item o start width n) m)) (has_room 6 m.slots) _ _ m (λ t. gives (λ n m. Good T (noted (item o start width n) m)) _ _ (h (ltb-true _ _ t))) (λ t. refused (λ n m. Good T (noted (item o start width n) m)) _ _ _)

    map_has : (S : List Frame) (o size : ℕ) (v : SlotValue) (m : Mem) → Good (frame o size 0 ∷ S) m → W m v → Gives (Had (frame o size (word x) ∷ S)) (keep_map x o v m)
    unfolding keep_map
    map_has S o size v m g w =
        let F : List Frame = frame o size 0 ∷ S in
        let T : List Frame = frame o size (word x) ∷ S in
        gives_then (λ n m. Good T (noted (item o 0 (word x) n) m)) (Had T) ((flag_object x o v >> add_slot o 0 (fields_of v) 0 in_map) m) _
        (gives_then (λ u m. (Good F m) × (W m v)) (λ n m. Good T (noted (item o 0 (word x) n) m)) (flag_object x o v m) _ (flag_has F o v m g.0.open_below.0 g w)
        (λ u m h. slot_has T S in_map o 0 0 (word x) (fields_of v) 0 m
        (λ l. (base_keep x F m h.0.0 T h.0.0.open_below in_map o 0 0 (word x) (fields_of v) 0 l, rules.on_map S m o size v h.0.0 h.0.1 h.1 l))))
        (λ n m h. gives (Had T) _ _ h)

    -- ---- resolves

    resolves_have : (S : List Frame) (o size done n : ℕ) (m : Mem) → Good (frame o size done ∷ S) m → Gives (Had (frame o size done ∷ S)) (resolves x o n m)
    unfolding resolves
    resolves_have S o size done zero m g = gives (Had (frame o size done ∷ S)) _ _ g
    resolves_have S o size done (suc n) m g =
        let F : List Frame = frame o size done ∷ S in
        gives-choose (Had F) (is_resolve x.sheet (peek x m)) _ _ m
        (λ t. gives_then (Had F) (Had F) ((byte x >> int x >>= (λ number. change (resolved number o))) m) _
        (gives_then (λ n. Good F) (Had F) ((byte x >> int x) m) _
        (gives_then (λ n. Good F) (λ n. Good F) (byte x m) _ (byte_has F m g) (λ b m h. int_has F m h))
        (λ number m h. gives (Had F) _ _ (base_resolve x F m h.0 number o, rules.on_resolve S m o size done number h.0 h.1)))
        (λ u m h. resolves_have S o size done n m h))
        (λ t. gives (Had F) _ _ g)

    -- ---- items

    item_has : (S : List Frame) (o size done : ℕ) (v : SlotValue) (m : Mem) → 1 ≤ done → done < size → Good (frame o size done ∷ S) m → W m v → Gives (Read S o size) (keep_item x o done v m)
    unfolding keep_item
    item_has S o size done v m p l g w =
        let F : List Frame = frame o size done ∷ S in
        let T : List Frame = frame o size (done + width_of (word x) v) ∷ S in
        let e : done + m.skip ≡ done = omega (arith, g.0.no_skip) in
        let width : ℕ = width_of (word x) v in
        rw e
        (gives_then (Had T) (Read S o size) ((add_slot o (done / word x) (fields_of v) (waits_of v) in_slot >>= (λ k. tell (item o done width k)) >> change (with_skip 0)) m) _
        (gives_then (Had T) (Had T) ((add_slot o (done / word x) (fields_of v) (waits_of v) in_slot >>= (λ k. tell (item o done width k))) m) _
        (gives_then (λ n m. Good T (noted (item o done width n) m)) (Had T) (add_slot o (done / word x) (fields_of v) (waits_of v) in_slot m) _
        (slot_has T F in_slot o (done / word x) done width (fields_of v) (waits_of v) m
        (λ b. (base_keep x F m g.0 T g.0.open_below in_slot o (done / word x) done width (fields_of v) (waits_of v) b, rules.on_item S m o size done v g.0 g.1 w p l b)))
        (λ n m h. gives (Had T) _ _ h))
        (λ u m h. gives (Had T) _ _ (subst (λ (s : ℕ). Good T (with_skip s m)) h.0.no_skip h)))
        (λ u m h. gives (Read S o size) _ _ (h, omega arith)))

    place_has : (S : List Frame) (o size done : ℕ) (v : SlotValue) (m : Mem) → 1 ≤ done → done < size → Has (frame o size done ∷ S) v m → Gives (Read S o size) (place_item x o done v m)
    unfolding place_item
    place_has S o size done (Skip n) m p l h = absurd h.2
    place_has S o size done (StreamBytes n) m p l h = absurd h.2
    place_has S o size done (RepeatPrev n) m p l h = absurd h.2
    place_has S o size done (IsRef r) m p l h = item_has S o size done (IsRef r) m p l h.0 h.1
    place_has S o size done (Repeat n k) m p l h = item_has S o size done (Repeat n k) m p l h.0 h.1
    place_has S o size done (IsRaw r) m p l h = item_has S o size done (IsRaw r) m p l h.0 h.1
    place_has S o size done ClearedWeak m p l h = item_has S o size done ClearedWeak m p l h.0 h.1
    place_has S o size done (WeakRef k) m p l h = item_has S o size done (WeakRef k) m p l h.0 h.1
    place_has S o size done (PendingRef n) m p l h = item_has S o size done (PendingRef n) m p l h.0 h.1

    -- ---- an object, whose references r reads

    closed_has : (S : List Frame) (o tag size done : ℕ) (m : Mem) → Read S o size done m → Gives (Has S) (closed o tag size done m)
    closed_has S o tag size done m g =
        gives-choose (Has S) (eqb done size) _ _ m
        (λ t. let e : done ≡ size = eqb-true _ _ t in
        let l : o < m.objects.count = g.0.0.open_below.0 in
        let i : I S m = rules.on_close S m o size l (omega (arith, g.1)) (subst (λ (d : ℕ). I (frame o size d ∷ S) m) e g.0.1) in
        gives (Has S) _ _ ((base_close x S o size done m g.0.0, i), rules.on_object S m o i l, tt))
        (λ t. refused (Has S) _ _ _)

    module _ (r : Reader SlotValue) (has : (S : List Frame) (m : Mem) → Good S m → Gives (Has S) (r m)) where
      read_map_has : (S : List Frame) (space size o : ℕ) (m : Mem) → Good S m → Gives (Has S) (read_map x r space size o m)
      read_map_has S space size o m g =
          gives-choose (Has S) (is_map_first x.sheet) _ _ m (λ t. absurd (not_map_first x.sheet plainly t))
          (λ t. gives-choose (Has S) (is_legacy x.sheet) _ _ m (λ t. absurd (not_legacy x.sheet plainly t)) (λ t. has S m g))

      items_have : (S : List Frame) (o size n done : ℕ) (m : Mem) → Read S o size done m → Gives (Read S o size) (items x r o size n done m)
      unfolding items
      items_have S o size zero done m g = gives (Read S o size) _ _ g
      items_have S o size (suc n) done m g =
          let F : List Frame = frame o size done ∷ S in
          let Q : ℕ → Mem → Type 0 = Read S o size in
          gives-choose Q (leb size done) _ _ m (λ t. gives Q _ _ g)
          (λ t. gives-choose Q (is_deferred x.sheet (peek x m)) _ _ m (λ t. absurd (not_deferred x bytes plainly m t))
          (λ u. gives_then Q Q ((r >>= place_item x o done) m) _
          (gives_then (Has F) Q (r m) _ (has F m g.0) (λ v m h. place_has S o size done v m g.1 (leb-false _ _ t) h))
          (λ d m h. items_have S o size n d m h)))

      body_has : (S : List Frame) (space tag words o : ℕ) (m : Mem) → Good (frame o (words * word x) 0 ∷ S) m → Gives (Has S) (body x r space tag words o m)
      unfolding body
      body_has S space tag words o m g =
          let size : ℕ = words * word x in
          let F : List Frame = frame o size 0 ∷ S in
          let T : List Frame = frame o size (word x) ∷ S in
          let Q : ℕ → Mem → Type 0 = Read S o size in
          gives_then Q (Has S) ((read_map x r space size o >>= keep_map x o >> (λ m. resolves x o (length x.payload - m.at) m) >> (λ m. items x r o size (length x.payload - m.at + 1) (word x) m)) m) _
          (gives_then (Had T) Q ((read_map x r space size o >>= keep_map x o >> (λ m. resolves x o (length x.payload - m.at) m)) m) _
          (gives_then (Had T) (Had T) ((read_map x r space size o >>= keep_map x o) m) _
          (gives_then (Has F) (Had T) (read_map x r space size o m) _ (read_map_has F space size o m g) (λ v m h. map_has S o size v m h.0 h.1))
          (λ u m h. resolves_have S o size (word x) (length x.payload - m.at) m h))
          (λ u m h. items_have S o size (length x.payload - m.at + 1) (word x) m (h, word_pos x.sheet plainly)))
          (λ d m h. closed_has S o tag size d m h)

      pub object_has : (S : List Frame) (space tag : ℕ) (m : Mem) → m.at ≡ tag + 1 → OpensAt x tag → Good S m → Gives (Has S) (object x r space tag m)
      unfolding object
      object_has S space tag m e q g =
          let P : ℕ → Mem → Type 0 = λ words m. (Good S m) × (IntegerAt x.payload (tag + 1) words) in
          gives_then P (Has S) (int x m) _
          (int_reads x bytes P m (λ v at n i l h. (good_read S m at n g l h, subst (λ (a : ℕ). IntegerAt x.payload a v) e i)))
          (λ words m h. let Q : ℕ → Mem → Type 0 = λ o. Good (frame o (words * word x) 0 ∷ S) in
          gives_then Q (Has S) ((large_byte x space >> add_object x tag words) m) _
          (gives_then (Had S) Q (large_byte x space m) _ (large_has S space m h.0) (λ u m k. open_has S tag words m q h.1 k))
          (λ o m h. body_has S space tag words o m h))
