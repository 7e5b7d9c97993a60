-- A sweep over the slots, and one slot of it. Assumes nothing.
use Rattle.std.specs.Prelude.{◌≡◌, ◌≢◌, refl, Bool, true, false, List, ℕ, ◌+◌, ◌<◌, ◌≤◌, slice_index, Option, Some, None, is_some}
use Rattle.std.specs.Bool.{OnTrue, OnFalse}
use Rattle.std.proofs.Common.{arith, sym, subst, ⊎_elim, ◌∙◌}
use Rattle.std.proofs.lemmas.Bool.{cases_eq}
use Rattle.filled.specs.declared.filled.Filled.{Filled}
use Rattle.references.specs.SlotsOf.{owner_of}
use Rattle.kept.specs.Marking.{Marking, IsTarget, Meets, IsClosedAtSlot, Closed, HasMore}
use Rattle.kept.proofs.MarkLaws.{marking_next, one_more, marked_here}

-- what one slot leaves: marks that are right, closed at the slot, and more than before if one is new
pub record Looked (part : Filled) (through_weak : Bool) (marks : List ℕ) (s : ℕ) (new : Bool) (after : List ℕ) : Type 0 where
  pub marking : Marking part through_weak after
  pub closed : IsClosedAtSlot part through_weak after s
  pub changed : OnTrue new (HasMore part marks after)
  pub same : OnFalse new (after ≡ marks)

-- the slot's object is not marked
pub look_off : (part : Filled) (through_weak : Bool) (marks : List ℕ) (s : ℕ) → Marking part through_weak marks → slice_index marks (owner_of part s) ≢ 1 → Looked part through_weak marks s false marks
look_off part through_weak marks s m off =
    record { marking = m; closed = λ q l h. absurd (off h); changed = tt; same = refl }

-- it is marked
pub look_on : (part : Filled) (through_weak : Bool) (marks : List ℕ) (s : ℕ) (target new : Option ℕ) (after : List ℕ) → Marking part through_weak marks → slice_index marks (owner_of part s) ≡ 1 → IsTarget part through_weak s target → Meets marks target new after → Looked part through_weak marks s (is_some new) after
look_on part through_weak marks s target (Some q) after m on is e =
    let lead = is.there q e.0 in
    let next = marking_next part through_weak marks s q m on lead e.1 in
    let more = one_more part through_weak marks s q m on lead e.1 in
    rw e.2
    (record {
      marking = next;
      closed = λ r l h. let same : r ≡ q = cc (sym (is.only r l) ∙ e.0) in rw same (marked_here part through_weak marks s q m on lead e.1);
      changed = record { more = omega (arith, more) };
      same = tt;
    })
look_on part through_weak marks s target None after m on is e =
    rw e.1
    (record { marking = m; closed = λ r l h. e.0 r (is.only r l); changed = tt; same = refl })

-- the slots below n are closed, and the marks are as they were
pub record ClosedBelow (part : Filled) (through_weak : Bool) (before marks : List ℕ) (n : ℕ) : Type 0 where
  pub same : marks ≡ before
  pub at_slot : (s : ℕ) → s < n → IsClosedAtSlot part through_weak marks s

-- after a slot that brought a new mark
pub swept_new : (part : Filled) (through_weak : Bool) (before marks after : List ℕ) (n : ℕ) (changed : Bool) → OnTrue changed (HasMore part before marks) → OnFalse changed (ClosedBelow part through_weak before marks n) → HasMore part marks after → HasMore part before after
swept_new part through_weak before marks after n true more closed new = record { more = omega (arith, more.more, new.more) }
swept_new part through_weak before marks after n false more closed new =
    subst (λ (m : List ℕ). HasMore part m after) closed.same new

-- after a slot that brought none
pub record SweptOn (part : Filled) (through_weak : Bool) (before after : List ℕ) (n : ℕ) (changed : Bool) : Type 0 where
  pub changed_on : OnTrue changed (HasMore part before after)
  pub closed_on : OnFalse changed (ClosedBelow part through_weak before after n)

pub swept_same : (part : Filled) (through_weak : Bool) (before marks after : List ℕ) (n : ℕ) (changed : Bool) → after ≡ marks → OnTrue changed (HasMore part before marks) → OnFalse changed (ClosedBelow part through_weak before marks n) → IsClosedAtSlot part through_weak after n → SweptOn part through_weak before after (n + 1) changed
swept_same part through_weak before marks after n true e more closed at =
    record { changed_on = subst (HasMore part before) (sym e) more; closed_on = tt }
swept_same part through_weak before marks after n false e more closed at =
    record { changed_on = tt; closed_on = record { same = e ∙ closed.same; at_slot = below } }
  where
    below : (s : ℕ) → s < n + 1 → IsClosedAtSlot part through_weak after s
    below s l =
        ⊎_elim
        (λ (q : n ≡ s). subst (IsClosedAtSlot part through_weak after) q at)
        (λ q. subst (λ (m : List ℕ). IsClosedAtSlot part through_weak m s) (sym e) (closed.at_slot s (omega (arith, l, q))))
        (cases_eq n s)

-- after the last slot
pub swept_closed : (part : Filled) (through_weak : Bool) (before marks : List ℕ) (n : ℕ) (changed : Bool) → OnFalse changed (ClosedBelow part through_weak before marks n) → part.counts.slots ≤ n → OnFalse changed (Closed part through_weak marks)
swept_closed part through_weak before marks n true closed end = tt
swept_closed part through_weak before marks n false closed end =
    record { at_slot = λ s q l h. closed.at_slot s (let low = l.refers.below_count in omega (arith, low, end)) q l h }
