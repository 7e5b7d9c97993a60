-- Two readings compared: the steps that touch the tables, and the references without others in
-- them. Assumes nothing.
use Rattle.std.specs.Prelude.{if◌then◌else◌, ◌≡◌, refl, Bool, set, replicate, Option, Some, None}
use Rattle.std.proofs.Math.Path.{ap, ap₂}
use Rattle.std.proofs.Common.{◌∙◌, ltb-true, ltb-false, lt-ltb, le-ltb}
use Rattle.std.proofs.Math.Bool.{true, false}
use mathlib.Core.List.{List}
use Prim.Native.Nat.{ℕ, zero, suc, ◌+◌, ◌*◌, ◌<◌, ◌≤◌}
use native.Mathlib.Omega.{arith}
use Rattle.std.proofs.Math.Dec.{ltb}
use Rattle.std.proofs.Math.ListN.{length, length-set}
use Rattle.std.proofs.lemmas.List.{set-append_left}
use Rattle.stream.specs.Bytes.{raw_at}
use Rattle.tables.specs.declared.values.Ref.{Ref}
use Rattle.tables.specs.declared.values.Ref.TheVariants.{Object}
use Rattle.tables.specs.declared.values.Fields.{Fields}
use Rattle.tables.specs.Records.{room, field, object_row, slot_row, value_row}
use Rattle.tables.proofs.RecordLaws.{record_end, written_length, filled_length}
use Rattle.backref.specs.HotRing.{hot_at}
use Rattle.definition.specs.Memory.{word, Kept, in_value, opened, passed, value, resolve, Table, table, Mem, change, refuse, with_objects, with_slots, with_values, with_pending, noted, has_room, added, append, appended}
use Rattle.definition.specs.Slots.{add_value, counted, add_slot, waits_for, waiter, fill_waiter, resolved}
use Rattle.definition.specs.Object.{add_object, flagged}
use Rattle.definition.specs.Reference.{skip_amount, refers_hot, backref_to, of_hot, hot_place, pending_reference, after_raw, raw_data}
use Rattle.assurance.specs.Wider.{wide, wide_get, waiter_same}
use Rattle.assurance.specs.TableMap.{TableMap, mapped, SameLength, widened, map_room, map_written, map_filled}
use Rattle.assurance.specs.Simulate.{wider, Pair, x', φ, Recorded, Fits, fit_moved, fit_noted, Follows, Alike, Any, gives, stops, choose_at, then_law, change_law, noted_other, int_law}

waiter_low : (st : List ℕ) (number n : ℕ) → waiter st number n ≤ n
unfolding waiter
waiter_low st number zero = omega arith
waiter_low st number (suc n) = go (waits_for st number n) (waiter_low st number n)
  where
    go : (t : Bool) → waiter st number n ≤ n → (if t then suc n else waiter st number n) ≤ suc n
    go true h = omega arith
    go false h = omega arith

-- a field of an object's record
set-wide : (k : ℕ) (t : List ℕ) (o j v : ℕ) → j < 4 → o * 4 + 4 ≤ length t → set (wide k t) (o * 4 + j) v ≡ wide k (set t (o * 4 + j) v)
set-wide k t o j v b l = set-append_left t (replicate k 0) (o * 4 + j) v (omega arith)

counted-wide : (k o : ℕ) (t : Table) → o * 4 + 4 ≤ length t.rows → counted o (wider k t) ≡ wider k (counted o t)
counted-wide k o t l = rw (wide_get k t.rows (o * 4 + 3), set-wide k t.rows o 3 (field 4 t.rows o 3 + 1) (omega arith) l)

module _ (S : Pair) where
  -- ---- records

  append_law : (fields : ℕ) (b : TableMap fields) (t : Mem → Table) (f f' : Mem → Mem) (P : ℕ → Type 0) → 0 < fields → (S.Compared 3 → SameLength b) → ((m : Mem) → t (φ S m) ≡ mapped b (t m)) → ((m : Mem) → Fits S m → (t m).count < room fields (t m).rows → (Fits S (f m)) × (P (t m).count) × (m.at ≤ (f m).at) × (f' (φ S m) ≡ φ S (f m))) → Alike S 0 P (append fields t f) (append fields t f')
  append_law fields b t f f' P pos full e on = record { at_law = (λ m fit. go m fit (has_room fields (t m)) refl) }
    where
      go : (m : Mem) → Fits S m → (y : Bool) → has_room fields (t m) ≡ y → Follows S 0 P m ((if y then appended t f else refuse 3) m) (append fields t f' (φ S m))
      go m fit true r =
          let l : (t m).count < room fields (t m).rows = ltb-true _ _ r in
          let z = on m fit l in
          gives S z.0 z.1 (omega (arith, z.2))
          (λ v. rw (e m, lt-ltb (t m).count (room fields (b.rows (t m).count (t m).rows)) (map_room b (t m).count (t m).rows pos l), z.3, e m))
      go m fit false r = stops S fit (λ v. rw (e m, full v (t m).count (t m).rows, r))

  pub add_value_law : (v : Fields) → Alike S 0 Any (add_value v) (add_value v)
  unfolding add_value
  add_value_law v =
      append_law 3 (widened S.maps.values) (λ m. m.values) _ _ Any (omega arith) (λ w. (S.compared_full w).values) (λ m. refl)
      (λ m fit l. (
        fit_noted (value v (in_value m.values.count)) fit,
        tt,
        omega arith,
        ap (λ (l : List ℕ). noted (value v (in_value m.values.count)) (with_values (table l (m.values.count + 1)) (φ S m))) (map_written (value_row v) (widened S.maps.values) m.values.count m.values.rows (omega arith) l)
            ∙ noted_other S _ (with_values (added m.values (value_row v)) m),
      ))

  pub add_object_law : (tag words : ℕ) → Alike S 0 (Recorded S) (add_object S.x tag words) (add_object (x' S) tag words)
  unfolding add_object
  add_object_law tag words =
      append_law 4 (widened S.maps.objects) (λ m. m.objects) _ _ (Recorded S) (omega arith) (λ w. (S.compared_full w).objects) (λ m. refl)
      (λ m fit l.
      let row : List ℕ = object_row (words * word S.x) tag in (
        fit_noted (opened tag words) (record { inside = fit.inside; logged = fit.logged; filed = fit.filed; objects_length = written_length m.objects.rows row m.objects.count ∙ fit.objects_length; slots_within = fit.slots_within; recorded = fit.recorded }),
        omega (arith, fit.objects_length, record_end 4 m.objects.count m.objects.rows (omega arith) l),
        omega arith,
        ap (λ (l : List ℕ). noted (opened tag words) (with_objects (table l (m.objects.count + 1)) (φ S m))) (map_written row (widened S.maps.objects) m.objects.count m.objects.rows (omega arith) l)
            ∙ noted_other S _ (with_objects (added m.objects row) m),
      ))

  pub add_slot_law : (o index : ℕ) (v : Fields) (waits : ℕ) (k : ℕ → Kept) → Recorded S o → Alike S 0 Any (add_slot o index v waits k) (add_slot o index v waits k)
  unfolding add_slot
  add_slot_law o index v waits k recorded =
      append_law 6 S.maps.slots (λ m. m.slots) _ _ Any (omega arith) (λ w. (S.compared_full w).slots) (λ m. refl)
      (λ m fit l.
      let row : List ℕ = slot_row o index v waits in
      let end : m.slots.count * 6 + 6 ≤ length m.slots.rows = record_end 6 m.slots.count m.slots.rows (omega arith) l in (
        fit_noted (value v (k m.slots.count)) (record { inside = fit.inside; logged = fit.logged; filed = S.on_filed _ (omega arith); objects_length = length-set m.objects.rows (o * 4 + 3) _ ∙ fit.objects_length; slots_within = rw (written_length m.slots.rows row m.slots.count) (omega arith); recorded = fit.recorded }),
        tt,
        omega arith,
        ap₂ (λ (l : List ℕ) (t : Table). noted (value v (k m.slots.count)) (with_pending m.pending (m.waiting + waits) (with_slots (table l (m.slots.count + 1)) (with_objects t (φ S m)))))
            (map_written row S.maps.slots m.slots.count m.slots.rows (omega arith) l)
            (counted-wide S.maps.objects o m.objects (omega (arith, fit.objects_length)))
            ∙ noted_other S _ (with_pending m.pending (m.waiting + waits) (with_slots (added m.slots row) (with_objects (counted o m.objects) m))),
      ))

  -- ---- changes of records

  pub flagged_law : (o : ℕ) → Recorded S o → Alike S 0 Any (change (λ m. with_objects (flagged o m.objects) m)) (change (λ m. with_objects (flagged o m.objects) m))
  flagged_law o recorded =
      change_law S _ _
      (λ m fit. record { inside = fit.inside; logged = fit.logged; filed = fit.filed; objects_length = length-set m.objects.rows (o * 4 + 2) 1 ∙ fit.objects_length; slots_within = fit.slots_within; recorded = fit.recorded })
      (λ m. omega arith)
      (λ m fit. ap (λ (l : List ℕ). with_objects (table l m.objects.count) (φ S m)) (set-wide S.maps.objects m.objects.rows o 2 1 (omega arith) (omega (arith, fit.objects_length))))

  fill_other : (w o : ℕ) (m : Mem) → w ≤ m.slots.count → Fits S m → fill_waiter w o (φ S m) ≡ φ S (fill_waiter w o m)
  fill_other zero o m l fit = refl
  fill_other (suc k) o m l fit = rw (map_filled S.maps.slots m.slots.count m.slots.rows k o (omega arith) fit.slots_within)

  fill_fits : (w o : ℕ) (m : Mem) → w ≤ m.slots.count → Fits S m → Fits S (fill_waiter w o m)
  fill_fits zero o m l fit = fit
  fill_fits (suc k) o m l fit = record { inside = fit.inside; logged = fit.logged; filed = S.on_filed _ (omega arith); objects_length = fit.objects_length; slots_within = rw (filled_length m.slots.rows k o) fit.slots_within; recorded = fit.recorded }

  fill_at : (w o : ℕ) (m : Mem) → m.at ≤ (fill_waiter w o m).at
  fill_at zero o m = omega arith
  fill_at (suc k) o m = omega arith

  pub resolved_law : (number o : ℕ) → Alike S 0 Any (change (resolved number o)) (change (resolved number o))
  unfolding resolved
  resolved_law number o =
      change_law S _ _ (λ m fit. fit_noted (resolve number o) (fill_fits (waiter m.slots.rows number m.slots.count) o m (waiter_low m.slots.rows number m.slots.count) fit)) (λ m. fill_at (waiter m.slots.rows number m.slots.count) o m)
      (λ m fit. rw (waiter_same m.slots.rows (S.maps.slots.rows m.slots.count m.slots.rows) number m.slots.count (S.maps.slots.same m.slots.count m.slots.rows), fill_other (waiter m.slots.rows number m.slots.count) o m (waiter_low m.slots.rows number m.slots.count) fit)
      (noted_other S (resolve number o) (fill_waiter (waiter m.slots.rows number m.slots.count) o m)))

  -- ---- references without others in them

  pub hot_law : (i : ℕ) → Alike S 0 Any (hot_place i) (hot_place i)
  hot_law i = record { at_law = (λ m fit. go m fit (hot_at m.hot i)) }
    where
      go : (m : Mem) → Fits S m → (h : Option Ref) → Follows S 0 Any m (of_hot h m) (of_hot h (φ S m))
      go m fit (Some r) = gives S fit tt (omega arith) (λ v. refl)
      go m fit None = stops S fit (λ v. refl)

  pub refers_hot_law : (r : Ref) → Alike S 0 Any (refers_hot r) (refers_hot r)
  refers_hot_law r = record { at_law = (λ m fit. gives S fit tt (omega arith) (λ v. refl)) }

  pub backref_to_law : (i : ℕ) → Alike S 0 Any (backref_to i) (backref_to i)
  unfolding backref_to
  backref_to_law i =
      record { at_law = (λ m fit. choose_at S (ltb i m.objects.count) _ _ _ _ (λ _. (refers_hot_law (Object i)).at_law m fit) (λ _. stops S fit (λ v. refl))) }

  pub pending_law : Alike S 0 Any pending_reference pending_reference
  unfolding pending_reference
  pending_law = record { at_law = (λ m fit. gives S fit tt (omega arith) (λ v. refl)) }

  pub skip_amount_law : Alike S 0 Any (skip_amount S.x) (skip_amount (x' S))
  skip_amount_law = then_law S (int_law S) (λ n _. change_law S _ _ (λ m fit. fit) (λ m. omega arith) (λ m fit. refl))

  pub raw_data_law : (n : ℕ) (advances : Bool) → Alike S 0 Any (raw_data S.x n advances) (raw_data (x' S) n advances)
  unfolding raw_data raw_at
  raw_data_law n advances = record { at_law = (λ m fit. go m fit (ltb (length S.x.payload) (m.at + n)) refl) }
    where
      go : (m : Mem) → Fits S m → (b : Bool) → ltb (length S.x.payload) (m.at + n) ≡ b → Follows S 0 Any m (after_raw n advances (if b then None else Some (m.at + n)) m) (raw_data (x' S) n advances (φ S m))
      go m fit true e = stops S fit (λ v. rw (S.compared_same 7 v, e))
      go m fit false e =
          gives S (fit_noted (passed m.at n) (fit_moved (S.in_payload (m.at + n) (ltb-false _ _ e)) fit)) tt (omega arith) (λ v. rw (le-ltb (length S.p') (m.at + n) (S.on_raw (m.at + n) v (ltb-false _ _ e)), S.on_note (passed m.at n) m.log))
