-- Each item is an object's map, one word from byte 0, or has the width of its value. Assumes
-- nothing.
use Rattle.std.specs.Prelude.{refl, List, ◌∷◌, ℕ}
use Rattle.std.proofs.Common.{inl, inr, ⊎_elim}
use mathlib.Core.List.Memᴰ
use Rattle.definition.specs.Memory.{Input, word, in_map, in_slot, in_value, dropped, Event, opened, passed, item, value, resolve, begins, synchronize, Mem}
use Rattle.definition.specs.Call.{Rooms, Call, input_of, told_of}
use Rattle.assurance.specs.Words.{Accepted, Told, ItemOf}
use Rattle.assurance.specs.On.{All, all_map, all_told}
use Rattle.assurance.proofs.EventRules.{EventRules, tables_have}

abbrev Made : ℕ → List Event → Event → Type 0
Made ts es (item o s w k) = ItemOf ts es s w k
Made ts es (opened q w) = Unit {0}
Made ts es (passed a n) = Unit {0}
Made ts es (value v t) = Unit {0}
Made ts es (resolve n o) = Unit {0}
Made ts es (begins q) = Unit {0}
Made ts es (synchronize q) = Unit {0}

later : (ts : ℕ) (es : List Event) (f e : Event) → Made ts es e → Made ts (f ∷ es) e
later ts es f (item o s w k) h = ⊎_elim (λ i. inl (i.0, Memᴰ.tail i.1, i.2, i.3)) (λ i. inr (i.0, Memᴰ.tail i.1, i.2)) h
later ts es f (opened q w) h = tt
later ts es f (passed a n) h = tt
later ts es f (value v t) h = tt
later ts es f (resolve n o) h = tt
later ts es f (begins q) h = tt
later ts es f (synchronize q) h = tt

abbrev P : ℕ → List Event → Type 0
P ts es = All (Made ts es) es

more : (ts : ℕ) (es : List Event) (e : Event) → Made ts (e ∷ es) e → P ts es → P ts (e ∷ es)
unfolding All
more ts es e m h = (m, all_map (Made ts es) (Made ts (e ∷ es)) (later ts es e) es h)

rules : (x : Input) → EventRules x (λ S ot st vt. P (word x))
rules x =
    record {
      on_passed = (λ S ot st vt es a n. more (word x) es (passed a n) tt);
      on_begins = (λ S ot st vt es q. more (word x) es (begins q) tt);
      on_synchronize = (λ S ot st vt es q. more (word x) es (synchronize q) tt);
      on_dropped = (λ S ot st vt es v. more (word x) es (value v dropped) tt);
      on_value = (λ S ot st vt es v l. more (word x) es (value v (in_value vt.count)) tt);
      on_open = (λ S ot st vt es q w p i l. more (word x) es (opened q w) tt);
      on_flag = (λ S ot st vt es o l h. h);
      on_map = (λ S ot st vt es o size v p h. more (word x) (value v (in_map st.count) ∷ es) (item o 0 (word x) st.count) (inl (v, Memᴰ.tail (Memᴰ.head refl), refl, refl)) (more (word x) es (value v (in_map st.count)) tt h));
      on_item = (λ S ot st vt es o size done w v k p e q l h. more (word x) (value v (in_slot st.count) ∷ es) (item o done w st.count) (inr (v, Memᴰ.tail (Memᴰ.head refl), e)) (more (word x) es (value v (in_slot st.count)) tt h));
      on_unknown = (λ S ot st vt es n o. more (word x) es (resolve n o) tt);
      on_fill = (λ S ot st vt es n o k w. more (word x) es (resolve n o) tt);
      on_close = (λ S ot st vt es o size l p h. h);
    }

-- THE THEOREM
pub item_of : (c : Call) (rooms : Rooms) (m : Mem) → Accepted c rooms m → (o s w k : ℕ) → Told (told_of m.log) (item o s w k) → ItemOf (word (input_of c)) (told_of m.log) s w k
unfolding All
item_of c rooms m a o s w k t = all_told (Made (word (input_of c)) (told_of m.log)) (told_of m.log) (item o s w k) (tables_have c rooms m a (λ S ot st vt. P (word (input_of c))) (rules (input_of c)) tt) t
