-- The objects listed are exactly those that the payload opens, in order. Assumes nothing.
use Rattle.std.specs.Prelude.{◌≡◌, refl, List, ◌∷◌, ℕ, ◌+◌, ◌*◌, ◌<◌, ◌≤◌, set}
use Rattle.std.proofs.Common.{sym, subst, ◌∙◌, ap, ⊎_elim, eq-or-lt_of_le, arith, eq-eqb, ne_eqb}
use Rattle.tables.specs.Records.{room, field, object_row, written}
use Rattle.tables.proofs.RecordLaws.{written_same, written_else, set_else}
use Rattle.definition.specs.Memory.{Input, word, Event, opened, passed, item, value, resolve, begins, synchronize, Table, table, Mem, added}
use Rattle.definition.specs.Call.{Rooms, Call, input_of, told_of}
use Rattle.assurance.specs.Steps.{OpensAt}
use Rattle.assurance.specs.On.{All, all_told}
use Rattle.assurance.proofs.EventRules.{EventRules, tables_have}
use Rattle.assurance.specs.Words.{Accepted, Told, openings, place_of, words_of, IntegerAt}

-- an object is opened at a new-object head, after which its declared words stand
abbrev AtHead : Input → Event → Type 0
AtHead x (opened q w) = (OpensAt x q) × (IntegerAt x.payload (q + 1) w)
AtHead x (passed a n) = Unit {0}
AtHead x (item o s w k) = Unit {0}
AtHead x (value v t) = Unit {0}
AtHead x (resolve n o) = Unit {0}
AtHead x (begins q) = Unit {0}
AtHead x (synchronize q) = Unit {0}

record Opening (x : Input) (t : Table) (es : List Event) : Type 0 where
  heads : All (AtHead x) es
  counted : openings es ≡ t.count
  places : (o : ℕ) → o < t.count → field 4 t.rows o 1 ≡ place_of es o
  sizes : (o : ℕ) → o < t.count → field 4 t.rows o 0 ≡ words_of es o * word x
  declared : (o : ℕ) → o < t.count → IntegerAt x.payload (place_of es o + 1) (words_of es o)

-- what holds of each index below n, and of n, holds of each below n + 1
pub below : (P : ℕ → Type 0) (n : ℕ) → ((i : ℕ) → i < n → P i) → P n → (i : ℕ) → i < n + 1 → P i
below P n h p i l = ⊎_elim (λ e. subst P (sym e) p) (λ g. h i g) (eq-or-lt_of_le (let z : i ≤ n = omega arith in z))

open_listed : (x : Input) (t : Table) (q w : ℕ) (es : List Event) → OpensAt x q → IntegerAt x.payload (q + 1) w → t.count < room 4 t.rows → Opening x t es → Opening x (added t (object_row (w * word x) q)) (opened q w ∷ es)
unfolding openings place_of words_of All
open_listed x t q w es p i f h =
    let row : List ℕ = object_row (w * word x) q in
    record {
      heads = ((p, i), h.heads);
      counted = ap (λ (n : ℕ). n + 1) h.counted;
      places =
          below (λ o. field 4 (written t.rows t.count row) o 1 ≡ place_of (opened q w ∷ es) o) t.count
          (λ o l. rw (ne_eqb o (openings es) (λ e. omega (arith, h.counted))) (written_else t.rows row t.count o 1 (omega arith) (omega arith) ∙ h.places o l))
          (rw (eq-eqb t.count (openings es) (sym h.counted)) (written_same t.rows row t.count 1 (omega arith) f));
      sizes =
          below (λ o. field 4 (written t.rows t.count row) o 0 ≡ words_of (opened q w ∷ es) o * word x) t.count
          (λ o l. rw (ne_eqb o (openings es) (λ e. omega (arith, h.counted))) (written_else t.rows row t.count o 0 (omega arith) (omega arith) ∙ h.sizes o l))
          (rw (eq-eqb t.count (openings es) (sym h.counted)) (written_same t.rows row t.count 0 (omega arith) f));
      declared =
          below (λ o. IntegerAt x.payload (place_of (opened q w ∷ es) o + 1) (words_of (opened q w ∷ es) o)) t.count
          (λ o l. rw (ne_eqb o (openings es) (λ e. omega (arith, h.counted))) (h.declared o l))
          (rw (eq-eqb t.count (openings es) (sym h.counted)) i);
    }

-- raw_len and slot count change, fields 2 and 3
set-listed : (x : Input) (t : Table) (o j v : ℕ) (es : List Event) → 2 ≤ j → j < 4 → Opening x t es → Opening x (table (set t.rows (o * 4 + j) v) t.count) es
set-listed x t o j v es l b h =
    record {
      heads = h.heads;
      counted = h.counted;
      places = (λ i g. set_else 4 o j t.rows v b i 1 (omega arith) (λ e. omega arith) ∙ h.places i g);
      sizes = (λ i g. set_else 4 o j t.rows v b i 0 (omega arith) (λ e. omega arith) ∙ h.sizes i g);
      declared = h.declared;
    }

-- an event that opens nothing
other : (x : Input) (t : Table) (es : List Event) (e : Event) → AtHead x e → openings (e ∷ es) ≡ openings es → place_of (e ∷ es) ≡ place_of es → words_of (e ∷ es) ≡ words_of es → Opening x t es → Opening x t (e ∷ es)
unfolding All
other x t es e p c d f h = record { heads = (p, h.heads); counted = c ∙ h.counted; places = rw d h.places; sizes = rw f h.sizes; declared = rw (d, f) h.declared }

rules : (x : Input) → EventRules x (λ S ot st vt. Opening x ot)
unfolding openings place_of words_of
rules x =
    record {
      on_passed = (λ S ot st vt es a n. other x ot es _ tt refl refl refl);
      on_begins = (λ S ot st vt es q. other x ot es _ tt refl refl refl);
      on_synchronize = (λ S ot st vt es q. other x ot es _ tt refl refl refl);
      on_dropped = (λ S ot st vt es v. other x ot es _ tt refl refl refl);
      on_value = (λ S ot st vt es v l. other x ot es _ tt refl refl refl);
      on_open = (λ S ot st vt es q w p i l. open_listed x ot q w es p i l);
      on_flag = (λ S ot st vt es o l. set-listed x ot o 2 1 es (omega arith) (omega arith));
      on_map = (λ S ot st vt es o size v p h. set-listed x ot o 3 _ _ (omega arith) (omega arith) (other x ot _ _ tt refl refl refl (other x ot es _ tt refl refl refl h)));
      on_item = (λ S ot st vt es o size done w v k p e q l h. set-listed x ot o 3 _ _ (omega arith) (omega arith) (other x ot _ _ tt refl refl refl (other x ot es _ tt refl refl refl h)));
      on_unknown = (λ S ot st vt es n o. other x ot es _ tt refl refl refl);
      on_fill = (λ S ot st vt es n o k w. other x ot es _ tt refl refl refl);
      on_close = (λ S ot st vt es o size l p h. h);
    }

pub record Listed (c : Call) (t : Table) (es : List Event) : Type 0 where
  pub heads : (q w : ℕ) → Told es (opened q w) → OpensAt (input_of c) q
  pub counted : openings es ≡ t.count
  pub places : (o : ℕ) → o < t.count → field 4 t.rows o 1 ≡ place_of es o
  pub sizes : (o : ℕ) → o < t.count → field 4 t.rows o 0 ≡ words_of es o * word (input_of c)
  pub opened_words : (q w : ℕ) → Told es (opened q w) → IntegerAt c.payload (q + 1) w
  pub declared : (o : ℕ) → o < t.count → IntegerAt c.payload (place_of es o + 1) (words_of es o)

-- THE THEOREM
pub listed : (c : Call) (rooms : Rooms) (m : Mem) → Accepted c rooms m → Listed c m.objects (told_of m.log)
unfolding openings All
listed c rooms m a =
    let h = tables_have c rooms m a (λ S ot st vt. Opening (input_of c) ot) (rules (input_of c)) (record { heads = tt; counted = refl; places = (λ o l. absurd (omega arith)); sizes = (λ o l. absurd (omega arith)); declared = (λ o l. absurd (omega arith)) }) in
    let head : (q w : ℕ) → Told (told_of m.log) (opened q w) → AtHead (input_of c) (opened q w) = λ q w. all_told (AtHead (input_of c)) (told_of m.log) (opened q w) h.heads in
    record { heads = (λ q w t. (head q w t).0); counted = h.counted; places = h.places; sizes = h.sizes; opened_words = (λ q w t. (head q w t).1); declared = h.declared }
