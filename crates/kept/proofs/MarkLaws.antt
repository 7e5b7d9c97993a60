-- Marks: the first one, one more, and when all are there. Assumes nothing.
use Rattle.std.specs.Prelude.{◌≡◌, ◌≢◌, refl, Bool, true, false, not, ◌||◌, if◌then◌else◌, List, ℕ, ◌+◌, ◌<◌, ◌≤◌, length, replicate, slice_index, slice_set, Option, Some, None}
use Rattle.std.proofs.Common.{arith, sym, subst, ⊎_elim, ◌∙◌, get_or-set_other, get_or-set_same, length-set}
use Rattle.std.proofs.lemmas.Bool.{cases_eq, cases_lt}
use Rattle.std.proofs.lemmas.List.{get_or-replicate, get_or_past, length-replicate}
use Rattle.filled.specs.declared.filled.Filled.{Filled}
use Rattle.tables.specs.Records.{slot_of}
use Rattle.references.specs.declared.reference.Reference.{Reference}
use Rattle.references.specs.References.{IsReference}
use Rattle.references.specs.SlotsOf.{owner_of}
use Rattle.references.proofs.ReferenceLaws.{IsListed, refers_listed}
use Rattle.kept.specs.Bytes.{object_count}
use Rattle.kept.specs.Kept.{Leads, Reached, first, next, Marks}
use Rattle.kept.specs.Marking.{marked_count, Marking, OnlyFirst, IsTarget, Closed, counted_of}
use Rattle.kept.proofs.TotalLaws.{total_small, total_change, total_zero}

-- ---- what is listed

pub leads_listed : (part : Filled) (through_weak : Bool) (s q : ℕ) → Leads part through_weak s q → IsListed part q
leads_listed part through_weak s q l = refers_listed part _ _ l.weak q l.refers.refers

pub reached_listed : (part : Filled) (through_weak : Bool) (o : ℕ) → Reached part through_weak o → IsListed part o
reached_listed part through_weak _ (first h) = record { from_start = omega arith; below_count = h }
reached_listed part through_weak _ (next s q r l) = leads_listed part through_weak s q l

-- ---- where a slot leads

target_there : (part : Filled) (through_weak : Bool) (s : ℕ) (r : Option Reference) → part.starts.slots ≤ s → s < part.counts.slots → IsReference part part.counts.values (slot_of part.tables.slots.now s).value r → (q : ℕ) → counted_of through_weak r ≡ Some q → Leads part through_weak s q
target_there part through_weak s None a b h q e = absurd (cc)
target_there part through_weak s (Some r) a b h q e = go through_weak r.weak refl refl e
  where
    leads : (w : Bool) → r.weak ≡ w → (w ≡ true → through_weak ≡ true) → r.object ≡ q → Leads part through_weak s q
    leads w is counts same =
        record {
          weak = w;
          refers = record { from_start = a; below_count = b; refers = h.there q w (rw (← same, ← is) refl) };
          counts = counts;
        }

    go : (t w : Bool) → through_weak ≡ t → r.weak ≡ w → (if t || not w then Some r.object else None) ≡ Some q → Leads part through_weak s q
    go true w f is e = leads w is (λ _. f) (cc)
    go false true f is e = absurd (cc)
    go false false f is e = leads false is (λ z. absurd (cc)) (cc)

target_only : (part : Filled) (through_weak : Bool) (s : ℕ) (r : Option Reference) → IsReference part part.counts.values (slot_of part.tables.slots.now s).value r → (q : ℕ) → Leads part through_weak s q → counted_of through_weak r ≡ Some q
target_only part through_weak s r h q l = rw (h.only q l.weak l.refers.refers) (go through_weak l.weak l.counts)
  where
    go : (t w : Bool) → (w ≡ true → t ≡ true) → (if t || not w then Some q else None) ≡ Some q
    go true w c = refl
    go false true c = absurd (let clash : false ≡ true = c refl in cc)
    go false false c = refl

pub target_is : (part : Filled) (through_weak : Bool) (s : ℕ) (r : Option Reference) → part.starts.slots ≤ s → s < part.counts.slots → IsReference part part.counts.values (slot_of part.tables.slots.now s).value r → IsTarget part through_weak s (counted_of through_weak r)
target_is part through_weak s r a b h =
    record { there = target_there part through_weak s r a b h; only = target_only part through_weak s r h }

-- ---- how many marks there are

pub marking_few : (part : Filled) (through_weak : Bool) (marks : List ℕ) → Marking part through_weak marks → marked_count part marks ≤ object_count part
marking_few part through_weak marks m =
    total_small (slice_index marks) part.starts.objects (object_count part) small
  where
    small : (k : ℕ) → slice_index marks k ≤ 1
    small k = ⊎_elim (λ (e : slice_index marks k ≡ 1). omega (arith, e)) (λ e. let z = m.bit k e in omega (arith, z)) (cases_eq (slice_index marks k) 1)

-- ---- one more mark

module _ (part : Filled) (through_weak : Bool) (marks : List ℕ) (s q : ℕ) (m : Marking part through_weak marks) (of_marked : slice_index marks (owner_of part s) ≡ 1) (lead : Leads part through_weak s q) (new : slice_index marks q ≢ 1) where
  pub marked_here : slice_index (slice_set marks q 1) q ≡ 1
  marked_here =
      let listed = leads_listed part through_weak s q lead in
      get_or-set_same marks q 1 0 (omega (arith, listed.below_count, m.room))

  others_stay : (k : ℕ) → k ≢ q → slice_index (slice_set marks q 1) k ≡ slice_index marks k
  others_stay k apart = get_or-set_other marks q k 1 0 apart

  pub marks_grow : (k : ℕ) → slice_index marks k ≡ 1 → slice_index (slice_set marks q 1) k ≡ 1
  marks_grow k h =
      ⊎_elim
      (λ (e : k ≡ q). subst (λ (j : ℕ). slice_index (slice_set marks q 1) j ≡ 1) (sym e) marked_here)
      (λ e. others_stay k e ∙ h)
      (cases_eq k q)

  reached_more : (o : ℕ) → slice_index (slice_set marks q 1) o ≡ 1 → Reached part through_weak o
  reached_more o h =
      ⊎_elim
      (λ (e : o ≡ q). subst (Reached part through_weak) (sym e) (next s q (m.reached (owner_of part s) of_marked) lead))
      (λ e. m.reached o (sym (others_stay o e) ∙ h))
      (cases_eq o q)

  bits_more : (o : ℕ) → slice_index (slice_set marks q 1) o ≢ 1 → slice_index (slice_set marks q 1) o ≡ 0
  bits_more o h =
      ⊎_elim
      (λ (e : o ≡ q). absurd (h (subst (λ (j : ℕ). slice_index (slice_set marks q 1) j ≡ 1) (sym e) marked_here)))
      (λ e. others_stay o e ∙ m.bit o (λ u. h (others_stay o e ∙ u)))
      (cases_eq o q)

  pub one_more : marked_count part (slice_set marks q 1) ≡ marked_count part marks + 1
  one_more =
      let listed = leads_listed part through_weak s q lead in
      let was = m.bit q new in
      let here = marked_here in
      total_change (slice_index marks) (slice_index (slice_set marks q 1)) part.starts.objects (object_count part) q listed.from_start (omega (arith, listed.from_start, listed.below_count)) (omega (arith, was, here)) others_stay

  pub marking_next : Marking part through_weak (slice_set marks q 1)
  marking_next =
      record {
        room = rw length-set (m.room);
        reached = reached_more;
        bit = bits_more;
        first = λ h. marks_grow part.starts.objects (m.first h);
      }

  -- the queue has a place for it
  pub marking_room : marked_count part marks < object_count part
  marking_room =
      let few = marking_few part through_weak (slice_set marks q 1) marking_next in
      let more = one_more in
      omega (arith, few, more)

-- ---- the first mark

module _ (part : Filled) (zeros : List ℕ) (none : (k : ℕ) → slice_index zeros k ≡ 0) (room : part.counts.objects ≤ length zeros) (some : part.starts.objects < part.counts.objects) where
  first_here : slice_index (slice_set zeros part.starts.objects 1) part.starts.objects ≡ 1
  first_here = get_or-set_same zeros part.starts.objects 1 0 (omega arith)

  no_other : (k : ℕ) → k ≢ part.starts.objects → slice_index (slice_set zeros part.starts.objects 1) k ≡ 0
  no_other k e = get_or-set_other zeros part.starts.objects k 1 0 e ∙ none k

  pub only_first : (k : ℕ) → slice_index (slice_set zeros part.starts.objects 1) k ≡ 1 → k ≡ part.starts.objects
  only_first k h = ⊎_elim (λ (e : k ≡ part.starts.objects). e) (λ e. absurd (let z = no_other k e in omega (arith, z, h))) (cases_eq k part.starts.objects)

  pub marking_first : (through_weak : Bool) → Marking part through_weak (slice_set zeros part.starts.objects 1)
  marking_first through_weak =
      record {
        room = rw length-set room;
        reached = λ o h. subst (Reached part through_weak) (sym (only_first o h)) (first some);
        bit = λ o h. no_other o (λ e. h (subst (λ (j : ℕ). slice_index (slice_set zeros part.starts.objects 1) j ≡ 1) (sym e) first_here));
        first = λ h. first_here;
      }

  first_count : 1 ≡ marked_count part (slice_set zeros part.starts.objects 1)
  first_count =
      let was = none part.starts.objects in
      let here = first_here in
      let zero_before = total_zero (slice_index zeros) part.starts.objects (object_count part) none in
      let more = total_change (slice_index zeros) (slice_index (slice_set zeros part.starts.objects 1)) part.starts.objects (object_count part) part.starts.objects (omega arith) (omega arith) (omega (arith, was, here)) (λ k e. get_or-set_other zeros part.starts.objects k 1 0 e) in
      omega (arith, more, zero_before)

  pub first_only : OnlyFirst part (slice_set zeros part.starts.objects 1) 1
  first_only =
      record { only = only_first; one = λ o h. refl; at_most_one = omega arith; count = first_count; there = λ h. some }

-- ---- all marks

all_marked : (part : Filled) (through_weak : Bool) (marks : List ℕ) → Marking part through_weak marks → Closed part through_weak marks → (o : ℕ) → Reached part through_weak o → slice_index marks o ≡ 1
all_marked part through_weak marks m c _ (first h) = m.first h
all_marked part through_weak marks m c _ (next s q r l) =
    c.at_slot s q l (all_marked part through_weak marks m c (owner_of part s) r)

pub marks_done : (part : Filled) (through_weak : Bool) (marks : List ℕ) → Marking part through_weak marks → Closed part through_weak marks → Marks (Reached part through_weak) marks
marks_done part through_weak marks m c =
    record { one = λ o. (m.reached o, all_marked part through_weak marks m c o); else_zero = m.bit }

-- ---- no marks

pub zeros_at : (n k : ℕ) → slice_index (replicate n 0) k ≡ 0
zeros_at n k = ⊎_elim (λ (l : k < n). get_or-replicate n k 0 0 l) (λ l. get_or_past (replicate n 0) k 0 (rw length-replicate l)) (cases_lt k n)
