-- The walk: one more object in the queue, one slot after the other of an object, and the end.
-- Assumes nothing.
use Rattle.std.specs.Prelude.{◌≡◌, ◌≢◌, refl, Bool, List, ℕ, ◌+◌, ◌-◌, ◌<◌, ◌≤◌, ◌⊎◌, length, slice_index, slice_set, Option, Some}
use Rattle.std.proofs.Common.{arith, sym, subst, ⊎_elim, inl, inr, ◌∙◌, get_or-set_other, get_or-set_same}
use Rattle.std.proofs.lemmas.Bool.{cases_eq, cases_order}
use Rattle.filled.specs.declared.filled.Filled.{Filled}
use Rattle.references.specs.SlotsOf.{owner_of, IsFirstFrom, HasLists}
use Rattle.references.proofs.ReferenceLaws.{IsListed}
use Rattle.kept.specs.Bytes.{object_count}
use Rattle.kept.specs.Kept.{Leads, Reached, Marks}
use Rattle.kept.specs.Marking.{Marking, OnlyFirst, IsTarget, IsClosedAtSlot}
use Rattle.kept.specs.Walk.{IsClosedAt, Waits, Walk}
use Rattle.kept.proofs.MarkLaws.{marking_next, marking_few, marking_room, one_more, marks_grow, marked_here, marks_done, reached_listed}

-- the part's first object alone
pub walk_begins : (part : Filled) (through_weak : Bool) (marks queue : List ℕ) (met : ℕ) → Marking part through_weak marks → OnlyFirst part marks met → (0 < met → slice_index queue 0 ≡ part.starts.objects) → Walk part through_weak marks queue 0 met
walk_begins part through_weak marks queue met m f at =
    record { marking = m; count = f.count; done_low = omega arith; marked = entries; closed_or_waits = λ o h. inr (waits o h) }
  where
    entries : (i : ℕ) → i < met → slice_index marks (slice_index queue i) ≡ 1
    entries i l =
        let most = f.at_most_one in
        let zero_index : i ≡ 0 = omega (arith, l, most) in
        rw (zero_index, at (omega (arith, l))) (m.first (f.there (omega (arith, l))))

    waits : (o : ℕ) → slice_index marks o ≡ 1 → Waits queue 0 met o
    waits o h =
        let one = f.one o h in
        record { place = 0; not_done = omega arith; is_met = omega (arith, one); is = at (omega (arith, one)) ∙ sym (f.only o h) }

-- what waits is listed
pub waiting_listed : (part : Filled) (through_weak : Bool) (marks queue : List ℕ) (done met : ℕ) → Walk part through_weak marks queue done met → done < met → IsListed part (slice_index queue done)
waiting_listed part through_weak marks queue done met w l =
    reached_listed part through_weak (slice_index queue done) (w.marking.reached (slice_index queue done) (w.marked done l))

pub met_few : (part : Filled) (through_weak : Bool) (marks queue : List ℕ) (done met : ℕ) → Walk part through_weak marks queue done met → met ≤ object_count part
met_few part through_weak marks queue done met w =
    let few = marking_few part through_weak marks w.marking in
    omega (arith, few, w.count)

-- at the end everything is closed
pub walk_ends : (part : Filled) (through_weak : Bool) (marks queue : List ℕ) (done met : ℕ) → Walk part through_weak marks queue done met → met ≤ done → Marks (Reached part through_weak) marks
walk_ends part through_weak marks queue done met w end =
    marks_done part through_weak marks w.marking (record { at_slot = closed })
  where
    closed : (s : ℕ) → IsClosedAtSlot part through_weak marks s
    closed s q l h =
        ⊎_elim (λ (c : IsClosedAt part through_weak marks (owner_of part s)). c s q refl l)
        (λ (x : Waits queue done met (owner_of part s)). absurd (omega (arith, x.not_done, x.is_met, end)))
        (w.closed_or_waits (owner_of part s) h)

-- the object that waits first is closed
pub walk_done : (part : Filled) (through_weak : Bool) (marks queue : List ℕ) (done met : ℕ) → Walk part through_weak marks queue done met → done < met → IsClosedAt part through_weak marks (slice_index queue done) → Walk part through_weak marks queue (done + 1) met
walk_done part through_weak marks queue done met w l c =
    record { marking = w.marking; count = w.count; done_low = omega (arith, l); marked = w.marked; closed_or_waits = still }
  where
    still : (o : ℕ) → slice_index marks o ≡ 1 → IsClosedAt part through_weak marks o ⊎ Waits queue (done + 1) met o
    still o h =
        ⊎_elim (λ (d : IsClosedAt part through_weak marks o). inl d)
        (λ (x : Waits queue done met o).
        ⊎_elim
        (λ (e : done ≡ x.place).
        inl (subst (IsClosedAt part through_weak marks) (subst (λ (i : ℕ). slice_index queue i ≡ o) (sym e) x.is) c))
        (λ e. inr (record { place = x.place; not_done = (let d = x.not_done in omega (arith, d, e)); is_met = x.is_met; is = x.is }))
        (cases_eq done x.place))
        (w.closed_or_waits o h)

-- one more object
module _ (part : Filled) (through_weak : Bool) (marks queue : List ℕ) (done met s q : ℕ) (w : Walk part through_weak marks queue done met) (room : object_count part ≤ length queue) (on : slice_index marks (owner_of part s) ≡ 1) (lead : Leads part through_weak s q) (new : slice_index marks q ≢ 1) where
  pub queue_room : met < length queue
  queue_room =
      let some = marking_room part through_weak marks s q w.marking on lead new in
      omega (arith, some, w.count, room)

  entry_stays : (i : ℕ) → i < met → slice_index (slice_set queue met q) i ≡ slice_index queue i
  entry_stays i l = get_or-set_other queue met i q 0 (λ e. omega (arith, e, l))

  entry_new : slice_index (slice_set queue met q) met ≡ q
  entry_new = get_or-set_same queue met q 0 queue_room

  grow : (k : ℕ) → slice_index marks k ≡ 1 → slice_index (slice_set marks q 1) k ≡ 1
  grow = marks_grow part through_weak marks s q w.marking on lead new

  entries : (i : ℕ) → i < met + 1 → slice_index (slice_set marks q 1) (slice_index (slice_set queue met q) i) ≡ 1
  entries i l =
      ⊎_elim
      (λ (e : met ≡ i).
      subst (λ (j : ℕ). slice_index (slice_set marks q 1) (slice_index (slice_set queue met q) j) ≡ 1) e
      (rw entry_new (marked_here part through_weak marks s q w.marking on lead new)))
      (λ e.
      let low : i < met = omega (arith, l, e) in
      rw (entry_stays i low) (grow (slice_index queue i) (w.marked i low)))
      (cases_eq met i)

  still : (o : ℕ) → slice_index (slice_set marks q 1) o ≡ 1 → IsClosedAt part through_weak (slice_set marks q 1) o ⊎ Waits (slice_set queue met q) done (met + 1) o
  still o h =
      ⊎_elim
      (λ (e : o ≡ q). inr (record { place = met; not_done = w.done_low; is_met = omega arith; is = entry_new ∙ sym e }))
      (λ e.
      ⊎_elim (λ (c : IsClosedAt part through_weak marks o). inl (λ t r u l. grow r (c t r u l)))
      (λ (x : Waits queue done met o).
      inr (record { place = x.place; not_done = x.not_done; is_met = (let z = x.is_met in omega (arith, z)); is = entry_stays x.place x.is_met ∙ x.is }))
      (w.closed_or_waits o (sym (get_or-set_other marks q o 1 0 e) ∙ h)))
      (cases_eq o q)

  pub walk_more : Walk part through_weak (slice_set marks q 1) (slice_set queue met q) done (met + 1)
  walk_more =
      record {
        marking = marking_next part through_weak marks s q w.marking on lead new;
        count = (let more = one_more part through_weak marks s q w.marking on lead new in omega (arith, more, w.count));
        done_low = omega (arith, w.done_low);
        marked = entries;
        closed_or_waits = still;
      }

-- the slots of the object that waits first, up to one of them, lead to what is marked
pub record Expands (part : Filled) (through_weak : Bool) (marks queue : List ℕ) (done met object slot : ℕ) : Type 0 where
  pub waiting : done < met
  pub is : slice_index queue done ≡ object
  pub from_start : part.starts.slots ≤ slot
  pub to_count : slot ≤ part.counts.slots
  pub at_slot : slot < part.counts.slots → owner_of part slot ≡ object
  pub looked : (s q : ℕ) → s < slot → owner_of part s ≡ object → Leads part through_weak s q → slice_index marks q ≡ 1

-- the slot that comes next in the object's list
pub next_first : (part : Filled) (through_weak : Bool) (marks queue first next : List ℕ) (done met object slot : ℕ) → HasLists part part.starts.slots first next → Walk part through_weak marks queue done met → Expands part through_weak marks queue done met object slot → slot < part.counts.slots → IsFirstFrom part (slot + 1) object (slice_index next (slot - part.starts.slots))
next_first part through_weak marks queue first next done met object slot lists w x low =
    let waiting = waiting_listed part through_weak marks queue done met w x.waiting in
    let listed : IsListed part (owner_of part slot) = rw (x.at_slot low, ← x.is) waiting in
    subst (λ (o : ℕ). IsFirstFrom part (slot + 1) o (slice_index next (slot - part.starts.slots))) (x.at_slot low)
    (lists.next_of slot x.from_start low listed.from_start listed.below_count)

-- before its first slot
pub expand_begins : (part : Filled) (through_weak : Bool) (marks queue : List ℕ) (done met object slot : ℕ) → done < met → slice_index queue done ≡ object → IsFirstFrom part part.starts.slots object slot → Expands part through_weak marks queue done met object slot
expand_begins part through_weak marks queue done met object slot waiting is f =
    record {
      waiting = waiting;
      is = is;
      from_start = f.from_on;
      to_count = f.to_end;
      at_slot = f.of_object;
      looked = λ s q l e lead. absurd (f.none_before s lead.refers.from_start l e);
    }

-- on to its next slot
expand_on : (part : Filled) (through_weak : Bool) (marks queue : List ℕ) (done met object slot on : ℕ) → Expands part through_weak marks queue done met object slot → ((q : ℕ) → Leads part through_weak slot q → slice_index marks q ≡ 1) → IsFirstFrom part (slot + 1) object on → Expands part through_weak marks queue done met object on
expand_on part through_weak marks queue done met object slot on x here f =
    record {
      waiting = x.waiting;
      is = x.is;
      from_start = omega (arith, x.from_start, f.from_on);
      to_count = f.to_end;
      at_slot = f.of_object;
      looked = looked;
    }
  where
    looked : (s q : ℕ) → s < on → owner_of part s ≡ object → Leads part through_weak s q → slice_index marks q ≡ 1
    looked s q l e lead =
        ⊎_elim (λ (same : s ≡ slot). here q (subst (λ (t : ℕ). Leads part through_weak t q) same lead))
        (λ apart.
        ⊎_elim (λ (before : s < slot). x.looked s q before e lead)
        (λ after. absurd (f.none_before s (omega (arith, after)) l e))
        apart)
        (cases_order s slot)

-- after its last slot
pub expand_ends : (part : Filled) (through_weak : Bool) (marks queue : List ℕ) (done met object slot : ℕ) → Walk part through_weak marks queue done met → Expands part through_weak marks queue done met object slot → part.counts.slots ≤ slot → Walk part through_weak marks queue (done + 1) met
expand_ends part through_weak marks queue done met object slot w x end =
    walk_done part through_weak marks queue done met w x.waiting (λ s q e lead. x.looked s q (let low = lead.refers.below_count in omega (arith, low, end)) (e ∙ x.is) lead)

-- a slot that leads to nothing new
pub expand_old : (part : Filled) (through_weak : Bool) (marks queue : List ℕ) (done met object slot on : ℕ) (target : Option ℕ) → Expands part through_weak marks queue done met object slot → IsTarget part through_weak slot target → ((q : ℕ) → target ≡ Some q → slice_index marks q ≡ 1) → IsFirstFrom part (slot + 1) object on → Expands part through_weak marks queue done met object on
expand_old part through_weak marks queue done met object slot on target x is old f =
    expand_on part through_weak marks queue done met object slot on x (λ q lead. old q (is.only q lead)) f

-- the slot's object is marked
pub owner_marked : (part : Filled) (through_weak : Bool) (marks queue : List ℕ) (done met object slot : ℕ) → Walk part through_weak marks queue done met → Expands part through_weak marks queue done met object slot → slot < part.counts.slots → slice_index marks (owner_of part slot) ≡ 1
owner_marked part through_weak marks queue done met object slot w x low =
    rw (x.at_slot low, ← x.is) (w.marked done x.waiting)

-- a slot that leads to a new object
pub expand_new : (part : Filled) (through_weak : Bool) (marks queue : List ℕ) (done met object slot on q : ℕ) (target : Option ℕ) → Walk part through_weak marks queue done met → object_count part ≤ length queue → Expands part through_weak marks queue done met object slot → slot < part.counts.slots → IsTarget part through_weak slot target → target ≡ Some q → slice_index marks q ≢ 1 → IsFirstFrom part (slot + 1) object on → Expands part through_weak (slice_set marks q 1) (slice_set queue met q) done (met + 1) object on
expand_new part through_weak marks queue done met object slot on q target w room x low is e new f =
    expand_on part through_weak (slice_set marks q 1) (slice_set queue met q) done (met + 1) object slot on grown here f
  where
    on_object : slice_index marks (owner_of part slot) ≡ 1
    on_object = owner_marked part through_weak marks queue done met object slot w x low

    lead : Leads part through_weak slot q
    lead = is.there q e

    here : (r : ℕ) → Leads part through_weak slot r → slice_index (slice_set marks q 1) r ≡ 1
    here r l =
        let same : r ≡ q = cc (sym (is.only r l) ∙ e) in
        rw same (marked_here part through_weak marks slot q w.marking on_object lead new)

    grown : Expands part through_weak (slice_set marks q 1) (slice_set queue met q) done (met + 1) object slot
    grown =
        record {
          waiting = omega (arith, x.waiting);
          is = get_or-set_other queue met done q 0 (λ u. omega (arith, u, x.waiting)) ∙ x.is;
          from_start = x.from_start;
          to_count = x.to_count;
          at_slot = x.at_slot;
          looked = λ s r l u lead_s. marks_grow part through_weak marks slot q w.marking on_object lead new r (x.looked s r l u lead_s);
        }
