-- The closing section at each way out of the code. Assumes nothing.
use mathlib.Core.Path.{◌≡◌, refl, sym, subst, ◌∙◌}
use mathlib.Core.Bool.{true, false}
use Prim.Native.Nat.{ℕ, suc, ◌+◌, ◌-◌, ◌<◌, ◌≤◌}
use native.Mathlib.Omega.{arith}
use borrow.Author.Tests.{le-leb, lt-leb, lt-ltb}
use lib.ListN.{length}
use Rattle.std.specs.Prelude.{if◌then◌else◌, Ok, Err}
use Rattle.stream.specs.Bytes.{peek_at}
use Rattle.refusals.specs.Numbers.{number_of}
use Rattle.sheet.specs.Sheet.{is_legacy}
use Rattle.sheet.specs.declared.tests.Closing.{Closing}
use Rattle.sheet.specs.declared.tests.Closing.TheVariants.{Synchronize, Alignment, Deferred, Reference}
use Rattle.sheet.specs.Tests.{closing_of}
use Rattle.tables.specs.declared.values.SlotValue.{SlotValue}
use Rattle.tables.specs.Values.{fields_of}
use Rattle.definition.specs.Memory.{Input, dropped, value, begins, Mem, Out, got, no, Reader, give, refuse_at, noted, tell, byte}
use Rattle.definition.specs.Object.{peek}
use Rattle.definition.specs.Reference.{ref_at}
use Rattle.definition.specs.Closing.{entry, drop_reference, ends_legacy, after_entry, by_entry, entries, closing}
use Rattle.laws.specs.Keeps.{Reads}
use Rattle.laws.specs.Leaves.{deferred_legacy}
use Rattle.laws.specs.ClosingKeeps.{entry-ends, drop_reference_ends}
use Rattle.laws.proofs.Fuel.{entries_fuel}
use Rattle.readers.specs.declared.state.State.{State}
use Rattle.readers.specs.declared.state.Refused.{Refused}
use Rattle.readers.specs.declared.walker.Walker.{Walker}
use Rattle.readers.specs.Views.{Lent, Answer, mem, seen, moved_to}
use Rattle.readers.specs.Lent.{input_of, lent_of, Fixed}
use Rattle.readers.proofs.ViewLaws.{then_got, then_no}
use Rattle.walker.specs.Ready.{Ready, After}
use Rattle.walker.proofs.ReadyLaws.{Went, None, moved_ready}
use Rattle.objects.proofs.AnswerLaws.{fixed_on, same_input}
use Rattle.deferred.proofs.ReadyLaws.{Law, law_went, went_ready}
use Rattle.graph.proofs.PaddingLaws.{padding_from}

-- ---- a reference that is dropped

module _ (x : Input) (m : Mem) where
  pub drop_no : {n q : ℕ} {m1 : Mem} → no n q m1 ≡ ref_at x 65 m → no n q m1 ≡ drop_reference x m
  drop_no g = then_no (λ v. tell (value (fields_of v) dropped)) g

  pub drop_got : {v : SlotValue} (s : State) (l : Lent) → got v (mem s l) ≡ ref_at x 65 m → got tt (mem s l) ≡ drop_reference x m
  drop_got s l g = then_got (λ v. tell (value (fields_of v) dropped)) g refl

-- ---- the entries

abbrev entries_left : Input → Reader (Unit {0})
entries_left x m = entries x (length x.payload - m.at + 1) m

module _ (x : Input) (m : Mem) where
  one_more : length x.payload - m.at + 1 ≡ suc (length x.payload - m.at)
  one_more = omega arith

  module _ (h : length x.payload ≤ m.at) where
    left_end : is_legacy x.sheet ≡ true → got tt m ≡ entries_left x m
    unfolding entries
    left_end y = rw (one_more, le-leb (length x.payload) m.at h, y)

    left_cut : is_legacy x.sheet ≡ false → no 13 (length x.payload) m ≡ entries_left x m
    unfolding entries
    left_cut y = rw (one_more, le-leb (length x.payload) m.at h, y)

  module _ (h : m.at < length x.payload) (e : Closing) (c : closing_of x.sheet (peek x m) ≡ e) where
    left_by : by_entry x (entries x (length x.payload - m.at)) e (noted (begins m.at) m) ≡ entries_left x m
    unfolding entries
    left_by = rw (one_more, lt-leb (length x.payload) m.at h, c)

-- the state with an alignment that stands, after a byte
abbrev aligned_to : ℕ → State → State
aligned_to a s =
    record s { at = s.at + 1; alignment = a }

-- what holds at the head of the loop over the entries
pub record Loop (w₀ : Walker) (s₀ : State) (w : Walker) (s : State) : Type 0 where
  pub ready : Ready w s
  pub same : entries_left (input_of w) (mem s (lent_of w)) ≡ entries_left (input_of w₀) (mem s₀ (lent_of w₀))
  pub fixed : Fixed w₀ w

-- what is known of the answer to an entry that holds references: how the section goes on, and what
-- stays in order
pub record Answered (w₀ : Walker) (s₀ : State) (w : Walker) (s : State) (r : Answer (Unit {0})) (w₁ : Walker) : Type 1 where
  pub same : after_entry (input_of w) (entries (input_of w) (length w.payload.now - s.at)) (seen r (lent_of w₁)) ≡ entries_left (input_of w₀) (mem s₀ (lent_of w₀))
  pub law : Law (input_of w) Reads (mem s (lent_of w)) (seen r (lent_of w₁))
  pub after : After w r w₁

module _ {w₀ : Walker} {s₀ : State} {w : Walker} {s : State} (a : Loop w₀ s₀ w s) where
  abbrev x : Input
  x = input_of w

  abbrev m : Mem
  m = mem s (lent_of w)

  abbrev whole : Out (Unit {0})
  whole = entries_left (input_of w₀) (mem s₀ (lent_of w₀))

  same_payload : length w.payload.now ≡ length w₀.payload.now
  same_payload = rw a.fixed.payload

  module _ (l : length w₀.payload.now ≤ s.at) where
    pub loop_end : is_legacy w.sheet.now ≡ true → got tt m ≡ whole
    loop_end y = left_end x m (omega (arith, l, same_payload)) y ∙ a.same

    pub loop_cut : is_legacy w.sheet.now ≡ false → no 13 (length w₀.payload.now) m ≡ whole
    loop_cut y =
        subst (λ n. no 13 n m ≡ whole) same_payload (left_cut x m (omega (arith, l, same_payload)) y ∙ a.same)

  -- what the code takes the byte at the cursor for
  module _ (l : s.at < length w₀.payload.now) {v : ℕ} {e : Closing} (ev : v ≡ peek_at w₀.payload.now s.at) (ee : e ≡ closing_of w.sheet.now v) where
    b : s.at < length w.payload.now
    b = omega (arith, l, same_payload)

    c : closing_of w.sheet.now (peek_at w.payload.now s.at) ≡ e
    c = rw (a.fixed.payload, ← ev) (sym ee)

    pub loop_synchronize : e ≡ Synchronize → got tt (mem (moved_to (s.at + 1) s) (lent_of w)) ≡ whole
    unfolding byte
    loop_synchronize q =
        let z = left_by x m b Synchronize (c ∙ q) in
        rw (lt-ltb s.at (length w.payload.now) b) at z ∙ a.same

    -- an alignment
    module _ {n : ℕ} (q : e ≡ Alignment n) where
      left_aligned : entries x (length w.payload.now - s.at) (mem (aligned_to n s) (lent_of w)) ≡ entries_left x m
      unfolding byte
      left_aligned = let z = left_by x m b (Alignment n) (c ∙ q) in rw (lt-ltb s.at (length w.payload.now) b) at z

      aligned_ready : Ready w (aligned_to n s)
      aligned_ready =
          let g = moved_ready a.ready b in
          record { proper = g.proper; decoded = g.decoded; sound = omega (arith, g.sound); counted = record { chunk_low = g.counted.chunk_low; count_low = g.counted.count_low }; numbered = g.numbered; ascending = g.ascending; indexed = g.indexed; linked = g.linked }

      pub loop_aligned : Loop w₀ s₀ w (aligned_to n s)
      loop_aligned =
          let g = aligned_ready in
          let fuel : entries_left x (mem (aligned_to n s) (lent_of w)) ≡ entries x (length w.payload.now - s.at) (mem (aligned_to n s) (lent_of w)) = entries_fuel g.proper _ _ (mem (aligned_to n s) (lent_of w)) g.sound g.counted (omega arith) (omega arith) in
          record { ready = g; same = fuel ∙ left_aligned ∙ a.same; fixed = a.fixed }

    -- an entry that holds references
    module _ {r : Answer (Unit {0})} {w₁ : Walker} (i : After w r w₁) where
      pub deferred_answer : {space : ℕ} → e ≡ Deferred space → seen r (lent_of w₁) ≡ entry x space m → Answered w₀ s₀ w s r w₁
      deferred_answer {space} q f =
          record {
            same = rw f (left_by x m b (Deferred space) (c ∙ q) ∙ a.same);
            law = rw f (λ I W R g. entry-ends a.ready.proper R (deferred_legacy w.sheet.now (peek x m) space (c ∙ q)) space g);
            after = i;
          }

      pub reference_answer : e ≡ Reference → seen r (lent_of w₁) ≡ drop_reference x m → Answered w₀ s₀ w s r w₁
      reference_answer q f =
          record { same = rw f (left_by x m b Reference (c ∙ q) ∙ a.same); law = rw f (λ I W R g. drop_reference_ends a.ready.proper R g); after = i }

  -- after it, by its answer
  module _ {r : Answer (Unit {0})} {w₁ : Walker} (z : Answered w₀ s₀ w s r w₁) where
    pub loop_fault : {f : Refused} → r ≡ Err f → (if ends_legacy (input_of w₁) (number_of f.refusal) then give tt else refuse_at (number_of f.refusal) f.place) (mem f.state (lent_of w₁)) ≡ whole
    loop_fault q = rw z.after.fixed.sheet (rw q at z.same)

    module _ {s₁ : State} (q : r ≡ Ok (tt {0}, s₁)) where
      answer_went : Went x m (Reads m) None (tt {0}) (mem s₁ (lent_of w₁))
      answer_went = law_went a.ready.proper a.ready.sound a.ready.counted a.ready.numbered a.ready.ascending Reads z.law (rw q)

      pub loop_smaller : length w₀.payload.now - s₁.at < length w₀.payload.now - s.at
      loop_smaller = let k = answer_went in omega (arith, same_payload, k.more, k.kept.sound.within)

      pub loop_turn : Loop w₀ s₀ w₁ s₁
      loop_turn =
          let k = answer_went in
          let i = rw q at z.after in
          let h = rw q at z.same in
          let fuel : entries_left x (mem s₁ (lent_of w₁)) ≡ entries x (length w.payload.now - s.at) (mem s₁ (lent_of w₁)) = entries_fuel a.ready.proper _ _ (mem s₁ (lent_of w₁)) k.kept.sound k.kept.counted (omega arith) (omega (arith, k.more, k.kept.sound.within)) in
          record { ready = went_ready a.ready i k; same = subst (λ x. entries_left x (mem s₁ (lent_of w₁)) ≡ whole) (sym (same_input i.fixed)) (fuel ∙ h); fixed = fixed_on a.fixed i.fixed }

-- ---- the section

module _ (x : Input) (m : Mem) where
  pub closing_no : {n q : ℕ} {m1 : Mem} → no n q m1 ≡ entries_left x m → no n q m1 ≡ closing x m
  unfolding closing
  closing_no e = then_no (λ _ m. padding_from x m) e

  pub closing_on : {u : Unit {0}} {m1 : Mem} {out : Out (Unit {0})} → got u m1 ≡ entries_left x m → out ≡ padding_from x m1 → out ≡ closing x m
  unfolding closing
  closing_on e h = then_got (λ _ m. padding_from x m) e h
