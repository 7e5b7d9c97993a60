-- Each object that was read has exactly one map item: it begins at byte 0, has one word, and is
-- kept in the slot record that keeps its map. So each has a byte at least. Assumes nothing.
use Rattle.std.specs.Prelude.{if◌then◌else◌, ◌≡◌, refl, ◌⊎◌, ◌≢◌, Bool, true, false, List, ◌∷◌, ℕ, ◌+◌, ◌<◌, ◌≤◌, eqb}
use Rattle.std.proofs.Common.{sym, ap, subst, ⊎_elim, inl, inr, arith, eqb-true}
use Rattle.std.proofs.lemmas.Bool.{eqb-false}
use mathlib.Core.List.Memᴰ
use Rattle.tables.specs.declared.values.Fields.{Fields}
use Rattle.definition.specs.Memory.{Input, word, Kept, in_map, in_slot, in_value, dropped, Event, opened, passed, item, value, resolve, begins, synchronize, Mem}
use Rattle.definition.specs.Call.{Rooms, Call, input_of, told_of}
use Rattle.assurance.specs.PlainSheet.{word_pos}
use Rattle.assurance.specs.Induct.{plainly}
use Rattle.assurance.specs.On.{All, all_told}
use Rattle.assurance.proofs.EventRules.{EventRules, tables_have}
use Rattle.assurance.proofs.Filled.{Stacked, Free, Fits, Filling, pick_up, rules as filling-rules}
use Rattle.assurance.specs.Words.{Accepted, Told, openings, filled_of, EndToEnd, MapItem}

-- while the payload is read: items and maps are kept in slot records that are listed, an item ends
-- above byte 0, and an object of which bytes were read has its map item
record Maps (ts slots : ℕ) (es : List Event) : Type 0 where
  items_low : (o s w k : ℕ) → Told es (item o s w k) → (k < slots) × (1 ≤ s + w)
  maps_low : (v : Fields) (k : ℕ) → Told es (value v (in_map k)) → k < slots
  begun : (o : ℕ) → 1 ≤ filled_of es o → MapItem ts es o

-- an event that is neither an item nor a map
record Other (e : Event) : Type 0 where
  no_item : (o s w k : ℕ) → item o s w k ≢ e
  no_map : (v : Fields) (k : ℕ) → value v (in_map k) ≢ e

before : (e f : Event) (es : List Event) → e ≢ f → Told (f ∷ es) e → Told es e
before e f es n t = ⊎_elim (λ z. absurd (n z)) (λ u. u) (Memᴰ.cases_cons t)

other : (ts slots : ℕ) (es : List Event) (e : Event) → Other e → ((o : ℕ) → filled_of (e ∷ es) o ≡ filled_of es o) → Maps ts slots es → Maps ts slots (e ∷ es)
other ts slots es e p f h =
    record {
      items_low = (λ o s w k t. h.items_low o s w k (before _ e es (p.no_item o s w k) t));
      maps_low = (λ v k t. h.maps_low v k (before _ e es (p.no_map v k) t));
      begun =
          (λ o l. let b : MapItem ts es o = h.begun o (omega (arith, f o)) in
          record { slot = b.slot; map = b.map; map_kept = Memᴰ.tail b.map_kept; read = Memᴰ.tail b.read; only = (λ s w k v t u. b.only s w k v (before _ e es (p.no_item o s w k) t) (before _ e es (p.no_map v k) u)) });
    }

-- a value is kept in the next slot record, and is the next item of object x
module _ (ts slots : ℕ) (es : List Event) (x s w : ℕ) (v : Fields) (t : Kept) (h : Maps ts slots es) (some : 1 ≤ s + w) (there : (k : ℕ) → in_map k ≡ t → k ≡ slots) where
  abbrev after : List Event
  after = item x s w slots ∷ value v t ∷ es

  item_told : (o a b k : ℕ) → Told after (item o a b k) → ((o ≡ x) × (a ≡ s) × (b ≡ w) × (k ≡ slots)) ⊎ (Told es (item o a b k))
  item_told o a b k i =
      ⊎_elim (λ e. inl (cc e, cc e, cc e, cc e))
      (λ j. inr (before _ (value v t) es (λ e. let z : ◌≡◌ {A = ℕ} 0 1 = cc in omega arith) j)) (Memᴰ.cases_cons i)

  map_told : (u : Fields) (k : ℕ) → Told after (value u (in_map k)) → (in_map k ≡ t) ⊎ (Told es (value u (in_map k)))
  map_told u k i =
      ⊎_elim (λ e. absurd (let z : ◌≡◌ {A = ℕ} 0 1 = cc in omega arith))
      (λ j. ⊎_elim (λ e. inl (cc e)) (λ l. inr l) (Memᴰ.cases_cons j)) (Memᴰ.cases_cons i)

  low_items : (o a b k : ℕ) → Told after (item o a b k) → (k < slots + 1) × (1 ≤ a + b)
  low_items o a b k i =
      ⊎_elim (λ e. (omega (arith, e.3), omega (arith, some, e.1, e.2)))
      (λ j. let z = h.items_low o a b k j in (omega (arith, z.0), z.1)) (item_told o a b k i)

  low_maps : (u : Fields) (k : ℕ) → Told after (value u (in_map k)) → k < slots + 1
  low_maps u k i = ⊎_elim (λ e. omega (arith, there k e)) (λ j. omega (arith, h.maps_low u k j)) (map_told u k i)

  -- the map item of an object, which the new item is not
  still : (o : ℕ) → (o ≡ x → (k : ℕ) → in_map k ≢ t) → MapItem ts es o → MapItem ts after o
  still o n b =
      record { slot = b.slot; map = b.map; map_kept = Memᴰ.tail (Memᴰ.tail b.map_kept); read = Memᴰ.tail (Memᴰ.tail b.read); only = only }
    where
      only : (a c k : ℕ) (u : Fields) → Told after (item o a c k) → Told after (value u (in_map k)) → (a ≡ 0) × (c ≡ ts) × (k ≡ b.slot)
      only a c k u i j =
          ⊎_elim
          (λ z. ⊎_elim (λ e. absurd (n z.0 k e)) (λ l. absurd (omega (arith, h.maps_low u k l, z.3))) (map_told u k j))
          (λ y. ⊎_elim (λ e. absurd (omega (arith, there k e, (h.items_low o a c k y).0))) (λ l. b.only a c k u y l) (map_told u k j))
          (item_told o a c k i)

-- an object's map
map_more : (ts slots : ℕ) (es : List Event) (x : ℕ) (v : Fields) → 1 ≤ ts → ((a b k : ℕ) → Told es (item x a b k) → ⊥) → Maps ts slots es → Maps ts (slots + 1) (item x 0 ts slots ∷ value v (in_map slots) ∷ es)
unfolding filled_of
map_more ts slots es x v pos none h =
    record { items_low = low_items ts slots es x 0 ts v (in_map slots) h some there; maps_low = low_maps ts slots es x 0 ts v (in_map slots) h some there; begun = (λ o. at o (eqb o x) refl) }
  where
    some : 1 ≤ 0 + ts
    some = omega arith

    there : (k : ℕ) → in_map k ≡ in_map slots → k ≡ slots
    there k e = cc e

    fs : List Event
    fs = item x 0 ts slots ∷ value v (in_map slots) ∷ es

    fresh : (o : ℕ) → o ≡ x → MapItem ts fs o
    fresh o e =
        record {
          slot = slots;
          map = v;
          map_kept = Memᴰ.tail (Memᴰ.head refl);
          read = Memᴰ.head (ap (λ (i : ℕ). item i 0 ts slots) e);
          only =
              (λ a b k u i j. ⊎_elim (λ z. (z.1, z.2, z.3))
              (λ y. absurd (none a b k (subst (λ (i : ℕ). Told es (item i a b k)) e y)))
              (item_told ts slots es x 0 ts v (in_map slots) h some there o a b k i));
        }

    at : (o : ℕ) (t : Bool) → eqb o x ≡ t → 1 ≤ (if t then filled_of es o + ts else filled_of es o) → MapItem ts fs o
    at o true e l = fresh o (eqb-true o x e)
    at o false e l = still ts slots es x 0 ts v (in_map slots) h some there o (λ q. absurd (eqb-false o x e q)) (h.begun o l)

-- another item of an object of which bytes were read
item_more : (ts slots : ℕ) (es : List Event) (x s w : ℕ) (v : Fields) → 1 ≤ s → 1 ≤ filled_of es x → Maps ts slots es → Maps ts (slots + 1) (item x s w slots ∷ value v (in_slot slots) ∷ es)
unfolding filled_of
item_more ts slots es x s w v pos has h =
    record { items_low = low_items ts slots es x s w v (in_slot slots) h some there; maps_low = low_maps ts slots es x s w v (in_slot slots) h some there; begun = (λ o. at o (eqb o x) refl) }
  where
    some : 1 ≤ s + w
    some = omega arith

    no_map : (k : ℕ) → in_map k ≢ in_slot slots
    no_map k e = let z : ◌≡◌ {A = ℕ} 0 1 = cc in omega arith

    there : (k : ℕ) → in_map k ≡ in_slot slots → k ≡ slots
    there k e = absurd (no_map k e)

    at : (o : ℕ) (t : Bool) → eqb o x ≡ t → 1 ≤ (if t then filled_of es o + w else filled_of es o) → MapItem ts (item x s w slots ∷ value v (in_slot slots) ∷ es) o
    at o true e l = still ts slots es x s w v (in_slot slots) h some there o (λ q. no_map) (h.begun o (subst (λ (i : ℕ). 1 ≤ filled_of es i) (sym (eqb-true o x e)) has))
    at o false e l = still ts slots es x s w v (in_slot slots) h some there o (λ q. no_map) (h.begun o l)

-- ---- the rules

is_passed : (a n : ℕ) → Other (passed a n)
is_passed a n = record { no_item = (λ o s w k e. let z : ◌≡◌ {A = ℕ} 0 1 = cc in omega arith); no_map = (λ v k e. let z : ◌≡◌ {A = ℕ} 0 1 = cc in omega arith) }

is_begins : (q : ℕ) → Other (begins q)
is_begins q = record { no_item = (λ o s w k e. let z : ◌≡◌ {A = ℕ} 0 1 = cc in omega arith); no_map = (λ v k e. let z : ◌≡◌ {A = ℕ} 0 1 = cc in omega arith) }

is_synchronize : (q : ℕ) → Other (synchronize q)
is_synchronize q = record { no_item = (λ o s w k e. let z : ◌≡◌ {A = ℕ} 0 1 = cc in omega arith); no_map = (λ v k e. let z : ◌≡◌ {A = ℕ} 0 1 = cc in omega arith) }

is_dropped : (u : Fields) → Other (value u dropped)
is_dropped u = record { no_item = (λ o s w k e. let z : ◌≡◌ {A = ℕ} 0 1 = cc in omega arith); no_map = (λ v k e. let z : ◌≡◌ {A = ℕ} 0 1 = cc in omega arith) }

is_value : (u : Fields) (j : ℕ) → Other (value u (in_value j))
is_value u j = record { no_item = (λ o s w k e. let z : ◌≡◌ {A = ℕ} 0 1 = cc in omega arith); no_map = (λ v k e. let z : ◌≡◌ {A = ℕ} 0 1 = cc in omega arith) }

is_opened : (q w : ℕ) → Other (opened q w)
is_opened q a = record { no_item = (λ o s w k e. let z : ◌≡◌ {A = ℕ} 0 1 = cc in omega arith); no_map = (λ v k e. let z : ◌≡◌ {A = ℕ} 0 1 = cc in omega arith) }

is_resolve : (n o : ℕ) → Other (resolve n o)
is_resolve n x = record { no_item = (λ o s w k e. let z : ◌≡◌ {A = ℕ} 0 1 = cc in omega arith); no_map = (λ v k e. let z : ◌≡◌ {A = ℕ} 0 1 = cc in omega arith) }

rules : (x : Input) → 1 ≤ word x → EventRules x (λ S ot st vt es. (Filling (word x) S ot.count es) × (Maps (word x) st.count es) × ((o : ℕ) → o < ot.count → Free S o → 1 ≤ filled_of es o))
unfolding filled_of Stacked Free
rules x pos =
    let f = filling-rules x pos in
    record {
      on_passed = (λ S ot st vt es a n h. (f.on_passed S ot st vt es a n h.0, other (word x) st.count es _ (is_passed a n) (λ o. refl) h.1, h.2));
      on_begins = (λ S ot st vt es q h. (f.on_begins S ot st vt es q h.0, other (word x) st.count es _ (is_begins q) (λ o. refl) h.1, h.2));
      on_synchronize = (λ S ot st vt es q h. (f.on_synchronize S ot st vt es q h.0, other (word x) st.count es _ (is_synchronize q) (λ o. refl) h.1, h.2));
      on_dropped = (λ S ot st vt es v h. (f.on_dropped S ot st vt es v h.0, other (word x) st.count es _ (is_dropped v) (λ o. refl) h.1, h.2));
      on_value = (λ S ot st vt es v l h. (f.on_value S ot st vt es v l h.0, other (word x) st.count es _ (is_value v vt.count) (λ o. refl) h.1, h.2));
      on_open = (λ S ot st vt es q w p i l h. (f.on_open S ot st vt es q w p i l h.0, other (word x) st.count es _ (is_opened q w) (λ o. refl) h.1, λ o b g. h.2 o (let n = g.0 in omega arith) g.1));
      on_flag = (λ S ot st vt es o l h. (f.on_flag S ot st vt es o l h.0, h.1, h.2));
      on_map = (λ S ot st vt es o size v p h. (f.on_map S ot st vt es o size v p h.0, map_more (word x) st.count es o v pos (λ a b k t. omega (arith, (h.1.items_low o a b k t).1, (all_told (Fits (word x) ot.count es) es (item o a b k) h.0.inside t).within, h.0.stacked.2)) h.1, λ y l g. omega (arith, h.2 y l g, pick_up (eqb y o) (word x) (filled_of es y))));
      on_item = (λ S ot st vt es o size done w v k p e q l h. (f.on_item S ot st vt es o size done w v k p e q l h.0, item_more (word x) st.count es o done w v q (omega (arith, q, h.0.stacked.2)) h.1, λ y b g. omega (arith, h.2 y b g, pick_up (eqb y o) w (filled_of es y))));
      on_unknown = (λ S ot st vt es n o h. (f.on_unknown S ot st vt es n o h.0, other (word x) st.count es _ (is_resolve n o) (λ i. refl) h.1, h.2));
      on_fill = (λ S ot st vt es n o k w h. (f.on_fill S ot st vt es n o k w h.0, other (word x) st.count es _ (is_resolve n o) (λ i. refl) h.1, h.2));
      on_close = (λ S ot st vt es o size l p h. (f.on_close S ot st vt es o size l p h.0, h.1, λ y b g. closes es y o size (eqb y o) refl p h.0.stacked.2 (λ n. h.2 y b (n, g))));
    }
  where
    closes : (es : List Event) (y o size : ℕ) (t : Bool) → eqb y o ≡ t → 1 ≤ size → filled_of es o ≡ size → (y ≢ o → 1 ≤ filled_of es y) → 1 ≤ filled_of es y
    closes es y o size true e p q k = let s : filled_of es y ≡ size = subst (λ (i : ℕ). filled_of es i ≡ size) (sym (eqb-true y o e)) q in omega arith
    closes es y o size false e p q k = k (eqb-false y o e)

-- THE THEOREM
pub map_items : (c : Call) (rooms : Rooms) (m : Mem) → Accepted c rooms m → (o : ℕ) → o < m.objects.count → MapItem (word (input_of c)) (told_of m.log) o
unfolding openings filled_of EndToEnd Stacked Free All
map_items c rooms m a o l =
    let pos : 1 ≤ word (input_of c) = word_pos c.sheet (plainly c rooms m a) in
    let h =
    tables_have c rooms m a _ (rules (input_of c) pos) (
      record { counted = refl; laid = tt; unopened = (λ o l. refl); stacked = tt; full = (λ o l f. absurd (omega arith)); inside = tt },
      record { items_low = (λ o s w k t. absurd (Memᴰ.not-nil t)); maps_low = (λ v k t. absurd (Memᴰ.not-nil t)); begun = (λ o l. absurd (omega arith)) },
      λ o l f. absurd (omega arith),
    ) in
    h.1.begun o (h.2 o l tt)
