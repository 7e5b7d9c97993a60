-- The lists of slots: one more slot enters, from the last one down. Assumes nothing.
use Rattle.std.specs.Prelude.{◌≡◌, ◌≢◌, refl, List, ℕ, ◌+◌, ◌-◌, ◌<◌, ◌≤◌, length, slice_index, slice_set}
use Rattle.std.proofs.Common.{arith, sym, subst, ⊎_elim, get_or-set_other, get_or-set_same}
use Rattle.std.proofs.lemmas.Bool.{cases_eq}
use Rattle.filled.specs.declared.filled.Filled.{Filled}
use Rattle.references.specs.SlotsOf.{owner_of, IsFirstFrom, HasLists}

-- the slot itself is its object's first
first_here : (part : Filled) (s : ℕ) → s < part.counts.slots → IsFirstFrom part s (owner_of part s) s
first_here part s low = record { from_on = omega arith; to_end = omega arith; none_before = λ k a b. absurd (omega arith); of_object = λ _. refl }

-- a slot of another object
first_below : (part : Filled) (s o v : ℕ) → owner_of part s ≢ o → IsFirstFrom part (s + 1) o v → IsFirstFrom part s o v
first_below part s o v other h =
    record {
      from_on = omega (arith, h.from_on);
      to_end = h.to_end;
      none_before = λ k a b. ⊎_elim (λ e. subst (λ (j : ℕ). owner_of part j ≢ o) e other) (λ e. h.none_before k (omega (arith, a, e)) b) (cases_eq s k);
      of_object = h.of_object;
    }

-- the slot enters the list of its object
module _ (part : Filled) (s : ℕ) (first next : List ℕ) where
  abbrev place : ℕ
  place = owner_of part s - part.starts.objects

  pub list_enters : part.starts.slots ≤ s → s < part.counts.slots → part.counts.objects - part.starts.objects ≤ length first → part.counts.slots - part.starts.slots ≤ length next → part.starts.objects ≤ owner_of part s → owner_of part s < part.counts.objects → HasLists part (s + 1) first next → HasLists part s (slice_set first place s) (slice_set next (s - part.starts.slots) (slice_index first place))
  list_enters from low first_room next_room os oc h =
      record { first_of = firsts; next_of = nexts }
    where
      owner_place : place < length first
      owner_place = omega arith

      slot_place : s - part.starts.slots < length next
      slot_place = omega arith

      firsts : (o : ℕ) → part.starts.objects ≤ o → o < part.counts.objects → IsFirstFrom part s o (slice_index (slice_set first place s) (o - part.starts.objects))
      firsts o a b =
          ⊎_elim
          (λ (e : owner_of part s ≡ o).
          subst (λ (q : ℕ). IsFirstFrom part s q (slice_index (slice_set first place s) (q - part.starts.objects))) e
          (subst (IsFirstFrom part s (owner_of part s)) (sym (get_or-set_same first place s 0 owner_place)) (first_here part s low)))
          (λ e.
          subst (IsFirstFrom part s o) (sym (get_or-set_other first place (o - part.starts.objects) s 0 (λ q. e (omega (arith, q, a, os)))))
          (first_below part s o _ e (h.first_of o a b)))
          (cases_eq (owner_of part s) o)

      nexts : (t : ℕ) → s ≤ t → t < part.counts.slots → part.starts.objects ≤ owner_of part t → owner_of part t < part.counts.objects → IsFirstFrom part (t + 1) (owner_of part t) (slice_index (slice_set next (s - part.starts.slots) (slice_index first place)) (t - part.starts.slots))
      nexts t a b c d =
          ⊎_elim
          (λ (e : s ≡ t).
          subst (λ (q : ℕ). IsFirstFrom part (q + 1) (owner_of part q) (slice_index (slice_set next (s - part.starts.slots) (slice_index first place)) (q - part.starts.slots))) e
          (subst (IsFirstFrom part (s + 1) (owner_of part s)) (sym (get_or-set_same next (s - part.starts.slots) (slice_index first place) 0 slot_place)) (h.first_of (owner_of part s) os oc)))
          (λ e.
          subst (IsFirstFrom part (t + 1) (owner_of part t)) (sym (get_or-set_other next (s - part.starts.slots) (t - part.starts.slots) (slice_index first place) 0 (λ q. e (omega (arith, q, a, from)))))
          (h.next_of t (omega (arith, a, e)) b c d))
          (cases_eq s t)

-- before any slot has entered
pub lists_begin : (part : Filled) (first next : List ℕ) → ((o : ℕ) → o < part.counts.objects - part.starts.objects → slice_index first o ≡ part.counts.slots) → HasLists part part.counts.slots first next
lists_begin part first next h =
    record {
      first_of = λ o a b. subst (IsFirstFrom part part.counts.slots o) (sym (h (o - part.starts.objects) (omega (arith, a, b)))) (none_left o);
      next_of = λ s a b c d. absurd (omega (arith, a, b));
    }
  where
    none_left : (o : ℕ) → IsFirstFrom part part.counts.slots o part.counts.slots
    none_left o = record { from_on = omega arith; to_end = omega arith; none_before = λ k a b. absurd (omega (arith, a, b)); of_object = λ a. absurd (omega (arith, a)) }
