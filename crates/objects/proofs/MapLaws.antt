-- What follows an object's map, at each way out of the code. Assumes nothing.
use mathlib.Core.Path.{◌≡◌, refl, sym, ap, subst, ◌∙◌}
use mathlib.Core.Bool.{Bool, true, false, ◌&&◌}
use mathlib.Core.List.{List}
use mathlib.Core.Logic.{⊎_elim}
use Prim.Native.Nat.{ℕ, zero, suc, ◌+◌, ◌-◌, ◌<◌, ◌≤◌}
use native.Mathlib.Omega.{arith}
use borrow.Author.Tests.{ltb-true, ltb-false, eq-eqb, ne_eqb}
use lib.Dec.{eqb, ltb}
use lib.ListN.{length, get_or}
use Rattle.std.specs.Prelude.{Some}
use Rattle.std.proofs.lemmas.Option.{none-some}
use Rattle.stream.specs.Bytes.{peek_at}
use Rattle.stream.proofs.ByteLaws.{peek_end}
use Rattle.sheet.specs.Names.{k_next_chunk, k_alignment_prefix}
use Rattle.sheet.specs.Sheet.{number, is_map_first, usable}
use Rattle.sheet.specs.Tests.{in_span, is_next_chunk, alignment_of, unless_zero}
use Rattle.sheet.proofs.UsableSheet.{usable_gives}
use Rattle.sheet.proofs.TestsLaws.{span_from, span_below, alignment_out}
use Rattle.tables.specs.Records.{room, address_row, written}
use Rattle.tables.proofs.RecordLaws.{written_length}
use Rattle.refusals.specs.declared.refusal.Refusal.{Refusal}
use Rattle.refusals.specs.Numbers.{number_of}
use Rattle.alloc.specs.declared.legacy_alloc.LegacyAlloc.{LegacyAlloc}
use Rattle.alloc.specs.declared.legacy_alloc.Request.{Request}
use Rattle.alloc.specs.Fill.{fill_to_align}
use Rattle.alloc.specs.Allocation.{next_chunk, Outcome, outcome, allocate_of}
use Rattle.alloc.proofs.AllocationLaws.{next_chunk_cur, allocate_room}
use Rattle.address_index.specs.Links.{Linked}
use Rattle.address_index.proofs.LinkLaws.{linked_same}
use Rattle.definition.specs.Memory.{Input, word, Mem, Out, got, no, moved, aligned}
use Rattle.definition.specs.Object.{peek, change_chunk, allocate, alignment_byte, chunk_changes}
use Rattle.laws.specs.Addresses.{Shape, bare, seated, allocate_shape, old_field}
use Rattle.readers.specs.declared.state.State.{State}
use Rattle.readers.specs.declared.walker.Walker.{Walker}
use Rattle.readers.specs.Lent.{input_of, lent_of, Kept}
use Rattle.readers.specs.Views.{Lent, mem, addresses_is, alloc_is}
use Rattle.objects.specs.Map.{after_map}
use Rattle.objects.proofs.AnswerLaws.{kept_still}

-- ---- a byte that is an alignment prefix is there

by_test : (p : List ℕ) (at : ℕ) (t : Bool) → ltb at (length p) ≡ t → (peek_at p at ≡ 256 → ⊥) → at < length p
by_test p at true e h = ltb-true at (length p) e
by_test p at false e h = absurd (h (sym (peek_end p at (ltb-false at (length p) e))))

peek-within : (p : List ℕ) (at : ℕ) {b : ℕ} → b ≡ peek_at p at → (b ≡ 256 → ⊥) → at < length p
peek-within p at e h = by_test p at (ltb at (length p)) refl (λ q. h (e ∙ q))

module _ (v : List ℕ) (u : usable v ≡ true) (b : ℕ) where
  span_there : in_span v k_alignment_prefix 3 b ≡ true → b ≡ 256 → ⊥
  span_there e q =
      let from : number v k_alignment_prefix ≤ b = span_from v k_alignment_prefix 3 b e in
      let below : b < number v k_alignment_prefix + 3 = span_below v k_alignment_prefix 3 b e in
      ⊎_elim
      (λ l. let fits : number v k_alignment_prefix + 3 ≤ 255 = (usable_gives v u).alignment_prefix (rw (ne_eqb (number v k_alignment_prefix) 65535 (λ z. omega arith))) in omega arith)
      (λ l. omega arith)
      ((usable_gives v u).numbers k_alignment_prefix (omega arith))

  in_span_lem : (t : Bool) → in_span v k_alignment_prefix 3 b ≡ t → (alignment_of v b ≡ 0 → ⊥) → b ≡ 256 → ⊥
  in_span_lem true e h q = span_there e q
  in_span_lem false e h q = h (sym (alignment_out v b e))

  alignment_there : (alignment_of v b ≡ 0 → ⊥) → b ≡ 256 → ⊥
  alignment_there = in_span_lem (in_span v k_alignment_prefix 3 b) refl

-- ---- allocation

-- allocated, the record is added
module _ (addresses : List ℕ) (n spaces : ℕ) (want : Request) (c : LegacyAlloc) {alignment : ℕ} {c' : LegacyAlloc} {after : List ℕ} (e : outcome 0 alignment c' after ≡ allocate_of addresses n spaces want c) where
  pub allocated_room : n < room 5 addresses
  allocated_room = allocate_room addresses n spaces want c (sym (ap (λ a. a.number) e))

  -- the record that was added
  record Row : Type 0 where
    row : List ℕ
    five : length row ≡ 5
    is : after ≡ written addresses n row

  added_row : Row
  added_row = of (subst (λ (a : Outcome). a.number ≡ 0 → (n < room 5 addresses) × (Shape addresses n spaces want c a)) (sym e) (allocate_shape addresses n spaces want c) refl).1
    where
      of : Shape addresses n spaces want c (outcome 0 alignment c' after) → Row
      of (bare a q b) = record { row = address_row want.space 0 0 want.object 0; five = refl; is = q }
      of (seated a q b d) = record { row = address_row want.space (get_or c.cur want.space 0) (get_or c.used want.space 0 + fill_to_align (get_or c.used want.space 0) want.alignment want.word) want.object 1; five = refl; is = q }

  -- what its entering the index asks
  pub enter_asks : (ix : List ℕ) → Linked addresses n ix → (n < room 5 after) × Linked after n ix
  enter_asks ix i =
      let d = added_row in
      let roomy = allocated_room in
      let same : length (written addresses n d.row) ≡ length addresses = written_length addresses d.row n in
      rw d.is
      (omega (arith, same, roomy), linked_same addresses _ n (old_field addresses d.row n d.five roomy) ix i)

module _ (x : Input) (s : State) (space bytes o : ℕ) (w : ℕ) (l : Lent) (ew : w ≡ word x) where
  abbrev allocates : Outcome
  allocates = allocate_of l.addresses s.addresses x.spaces (record { space = space; size = bytes; object = o; alignment = s.alignment; word = w }) l.alloc

  pub allocated_no : (r : Refusal) → 0 < number_of r → {c' : LegacyAlloc} {after : List ℕ} → outcome (number_of r) s.alignment c' after ≡ allocates → {l' : Lent} → l' ≡ l → no (number_of r) s.at (mem s l') ≡ allocate x space bytes o (mem s l)
  unfolding allocate
  allocated_no r some e {l'} h = ap (λ (l : Lent). no (number_of r) s.at (mem s l)) h ∙ rw (← ew, ← e, ne_eqb (number_of r) 0 (λ z. omega arith))

  -- the state with one address record more
  abbrev located : ℕ → State
  located alignment =
      record s { addresses = s.addresses + 1; alignment = alignment }

  pub allocated : {alignment : ℕ} {c' : LegacyAlloc} {after : List ℕ} → outcome 0 alignment c' after ≡ allocates → {l' : Lent} → l' ≡ addresses_is after (alloc_is c' l) → got tt (mem (located alignment) l') ≡ allocate x space bytes o (mem s l)
  unfolding allocate
  allocated {alignment} e {l'} h = ap (λ (l : Lent). got tt (mem (located alignment) l)) h ∙ rw (← ew, ← e)

-- ---- chunk changes

module _ (x : Input) (space : ℕ) (m : Mem) where
  changes_other : (n : ℕ) → (is_next_chunk x.sheet (peek x m) && eqb (peek_at x.payload (m.at + 1)) space) ≡ false → got tt m ≡ chunk_changes x space n m
  unfolding chunk_changes
  changes_other zero e = refl
  changes_other (suc n) e = rw e

  changes_turn : (n : ℕ) → (is_next_chunk x.sheet (peek x m) && eqb (peek_at x.payload (m.at + 1)) space) ≡ true → chunk_changes x space n (change_chunk x space (moved (m.at + 2) m)) ≡ chunk_changes x space (suc n) m
  unfolding chunk_changes
  changes_turn n e = rw e

-- the cursor after a chunk change
abbrev stepped : State → State
stepped t =
    record t { at = t.at + 2 }

-- what holds at the head of the loop: the fuel left is enough, and what is left gives what the
-- whole gives
pub record Changes (w₀ : Walker) (space : ℕ) (s : State) (w : Walker) (t : State) : Type 0 where
  pub fuel : ℕ
  pub enough : length w₀.payload.now ≤ t.at + fuel
  pub within : t.at ≤ length w₀.payload.now
  pub below : get_or w.alloc.cur space 0 ≤ t.at
  pub records : t.addresses ≡ s.addresses
  pub same : chunk_changes (input_of w₀) space fuel (mem t (lent_of w)) ≡ chunk_changes (input_of w₀) space (length w₀.payload.now - s.at) (mem s (lent_of w₀))
  pub kept : Kept w₀ w
  pub addresses : w.addresses.now ≡ w₀.addresses.now

module _ (w₀ : Walker) (space : ℕ) (s : State) where
  pub changes_start : s.at ≤ length w₀.payload.now → get_or w₀.alloc.cur space 0 ≤ s.at → Changes w₀ space s w₀ s
  changes_start h b = record { fuel = length w₀.payload.now - s.at; enough = omega arith; within = h; below = b; records = refl; same = refl; kept = kept_still w₀; addresses = refl }

  module _ {w : Walker} {t : State} (i : Changes w₀ space s w t) where
    stopped : (is_next_chunk w₀.sheet.now (peek_at w₀.payload.now t.at) && eqb (peek_at w₀.payload.now (t.at + 1)) space) ≡ false → got tt (mem t (lent_of w)) ≡ chunk_changes (input_of w₀) space (length w₀.payload.now - s.at) (mem s (lent_of w₀))
    stopped e = changes_other (input_of w₀) space (mem t (lent_of w)) i.fuel e ∙ i.same

    module _ {b : ℕ} (eb : b ≡ peek_at w₀.payload.now t.at) {tag : Bool} (et : tag ≡ eqb (number w.sheet.now k_next_chunk) b) where
      first : {value : Bool} → tag ≡ value → is_next_chunk w₀.sheet.now (peek_at w₀.payload.now t.at) ≡ value
      first e = rw (← i.kept.0.sheet) (ap (λ n. eqb (number w.sheet.now k_next_chunk) n) (sym eb) ∙ sym et ∙ e)

      pub changes_none : tag ≡ false → got tt (mem t (lent_of w)) ≡ chunk_changes (input_of w₀) space (length w₀.payload.now - s.at) (mem s (lent_of w₀))
      changes_none e = stopped (rw (first e))

      module _ (on : tag ≡ true) {b' : ℕ} (eb' : b' ≡ peek_at w₀.payload.now (t.at + 1)) where
        pub changes_else : (b' ≡ space → ⊥) → got tt (mem t (lent_of w)) ≡ chunk_changes (input_of w₀) space (length w₀.payload.now - s.at) (mem s (lent_of w₀))
        changes_else h = stopped (rw (first on, ← eb', ne_eqb b' space h))

        pub changes_within : space < 256 → b' ≡ space → t.at + 2 ≤ length w₀.payload.now
        changes_within h e = omega (arith, peek-within w₀.payload.now (t.at + 1) eb' (λ q. omega arith))

        pub changes_again : space < 256 → b' ≡ space → {w' : Walker} → w'.alloc ≡ next_chunk w.alloc w₀.spaces space → lent_of w' ≡ alloc_is w'.alloc (lent_of w) → Kept w₀ w' → Changes w₀ space s w' (stepped t)
        changes_again h e {w'} ec el k =
            let ends : t.at + 2 ≤ length w₀.payload.now = changes_within h e in
            let grown : get_or w'.alloc.cur space 0 ≤ get_or w.alloc.cur space 0 + 1 = rw ec (next_chunk_cur w.alloc w₀.spaces space space) in
            let left : i.fuel ≡ suc (i.fuel - 1) = omega (arith, i.enough) in
            let m = mem t (lent_of w) in
            record {
              fuel = i.fuel - 1;
              enough = omega (arith, i.enough);
              within = ends;
              below = omega (arith, i.below);
              records = i.records;
              same =
                  ap (λ (l : Lent). chunk_changes (input_of w₀) space (i.fuel - 1) (mem (stepped t) l)) el
                  ∙ ap (λ (c : LegacyAlloc). chunk_changes (input_of w₀) space (i.fuel - 1) (mem (stepped t) (alloc_is c (lent_of w)))) ec
                  ∙ changes_turn (input_of w₀) space m (i.fuel - 1) (rw (first on, ← eb', eq-eqb b' space e))
                  ∙ ap (λ n. chunk_changes (input_of w₀) space n m) (sym left)
                  ∙ i.same;
              kept = k;
              addresses = ap (λ (l : Lent). l.addresses) el ∙ i.addresses;
            }

-- ---- after the map

not_zero : {a : ℕ} (n : ℕ) → Some a ≡ unless_zero n → n ≡ 0 → ⊥
not_zero {a} zero e q = none-some a (sym e)
not_zero {a} (suc m) e q = omega arith

-- an alignment prefix is a byte of the payload
module _ (w : Walker) (s : State) {b : ℕ} (eb : b ≡ peek_at w.payload.now s.at) {a : ℕ} (ea : Some a ≡ unless_zero (alignment_of w.sheet.now b)) where
  pub prefix_there : usable w.sheet.now ≡ true → s.at < length w.payload.now
  prefix_there u = peek-within w.payload.now s.at eb (alignment_there w.sheet.now u b (not_zero (alignment_of w.sheet.now b) ea))

pub after_first : (x : Input) (before space bytes o : ℕ) (m : Mem) {first : Bool} → first ≡ is_map_first x.sheet → {out : Out (Unit {0})} → first ≡ true → {m₁ m₂ : Mem} → got tt m₁ ≡ alignment_byte x (aligned before m) → got tt m₂ ≡ chunk_changes x space (length x.payload - m₁.at) m₁ → out ≡ allocate x space bytes o m₂ → out ≡ after_map x before space bytes o m
after_first x before space bytes o m g t e f h = rw (sym g ∙ t, ← e, ← f) h
