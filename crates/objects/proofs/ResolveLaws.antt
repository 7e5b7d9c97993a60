-- A resolve, and the resolves after an object's map, at each way out of the code. Assumes nothing.
use mathlib.Core.Path.{◌≡◌, refl, sym, ap, subst, ◌∙◌}
use mathlib.Core.Bool.{Bool, true, false}
use mathlib.Core.List.{List}
use mathlib.Core.Logic.{⊎_elim}
use Prim.Native.Nat.{ℕ, zero, suc, ◌+◌, ◌-◌, ◌<◌, ◌≤◌}
use native.Mathlib.Omega.{arith}
use borrow.Author.Tests.{eqb-true, lt-ltb, ltb-true, ltb-false}
use lib.Dec.{eqb, ltb}
use lib.ListN.{length}
use Rattle.std.specs.Prelude.{Option, Some, None}
use Rattle.stream.specs.declared.putint.Int.{Int}
use Rattle.stream.specs.Bytes.{peek_at}
use Rattle.stream.specs.PutInt.{int_at}
use Rattle.stream.proofs.ByteLaws.{peek_end}
use Rattle.stream.proofs.IntegerLaws.{int_within}
use Rattle.sheet.specs.Names.{k_resolve_pending_forward_ref}
use Rattle.sheet.specs.Sheet.{number, usable}
use Rattle.sheet.specs.Tests.{is_resolve}
use Rattle.sheet.proofs.UsableSheet.{usable_gives}
use Rattle.tables.specs.Records.{room, filled}
use Rattle.tables.proofs.RecordLaws.{filled_length}
use Rattle.definition.specs.Memory.{Input, Mem, got, no, moved, past_int, with_pending, byte, int, after_int}
use Rattle.definition.specs.Slots.{waiter, renumbered, fill_waiter, resolved}
use Rattle.definition.specs.Object.{peek, resolves}
use Rattle.laws.specs.Waiting.{Waits, some_wait, waiter_found as waits-found}
use Rattle.laws.specs.Numbered.{Numbered as Waiting, resolved-numbered}
use Rattle.readers.specs.declared.state.State.{State}
use Rattle.readers.specs.declared.walker.Walker.{Walker}
use Rattle.readers.specs.Lent.{input_of, lent_of, Kept}
use Rattle.readers.specs.Views.{Lent, mem, slots_is, Counts}
use Rattle.objects.specs.Index.{Indexed}
use Rattle.objects.proofs.AnswerLaws.{kept_still, kept_then}
use Rattle.objects.proofs.WaiterLaws.{by_case, waiter_found, indexed_filled}

-- ---- a resolve

module _ (n o : ℕ) (s t : State) (l : Lent) where
  pub resolve_none : 0 ≡ waiter l.slots n s.slots → mem t l ≡ with_pending (renumbered s.pending s.waiting) s.waiting (mem s l) → mem t l ≡ resolved n o (mem s l)
  unfolding resolved
  resolve_none e h = rw (← e) h

  module _ {k : ℕ} (e : suc k ≡ waiter l.slots n s.slots) where
    pub resolve_below : s.slots ≤ room 6 l.slots → k < room 6 l.slots
    resolve_below h = omega (arith, (waiter_found l.slots n s.slots k (sym e)).0)

    pub resolve_waits : Waits l.slots s.slots s.pending s.waiting → 1 ≤ s.waiting
    resolve_waits w = let f = waits-found l.slots n s.slots k (sym e) in some_wait w k f.0 f.1

    module _ {st' : List ℕ} (f : st' ≡ filled l.slots k o) where
      pub resolve_fill : mem t (slots_is st' l) ≡ with_pending (renumbered s.pending (s.waiting - 1)) (s.waiting - 1) (mem s (slots_is st' l)) → mem t (slots_is st' l) ≡ resolved n o (mem s l)
      unfolding resolved
      resolve_fill h = rw (← e, ← f) h

      pub resolve_index : (sc : List ℕ) → t.slots ≡ s.slots → s.slots ≤ room 6 l.slots → Indexed l.slots s.slots sc → Waits l.slots s.slots s.pending s.waiting → Indexed st' t.slots sc
      resolve_index sc g h x w = rw (f, g) (indexed_filled l.slots s.slots h n k o (sym e) w sc x)

fill_at : (k o : ℕ) (m : Mem) → (fill_waiter k o m).at ≡ m.at
fill_at zero o m = refl
fill_at (suc k) o m = refl

fill_long : (k o : ℕ) (m : Mem) → (fill_waiter k o m).long_integers ≡ m.long_integers
fill_long zero o m = refl
fill_long (suc k) o m = refl

fill_count : (k o : ℕ) (m : Mem) → (fill_waiter k o m).slots.count ≡ m.slots.count
fill_count zero o m = refl
fill_count (suc k) o m = refl

fill_length : (k o : ℕ) (m : Mem) → length (fill_waiter k o m).slots.rows ≡ length m.slots.rows
fill_length zero o m = refl
fill_length (suc k) o m = filled_length m.slots.rows k o

module _ (n o : ℕ) (m : Mem) where
  resolved_length : length (resolved n o m).slots.rows ≡ length m.slots.rows
  unfolding resolved
  resolved_length = fill_length (waiter m.slots.rows n m.slots.count) o m

  resolved_at : (resolved n o m).at ≡ m.at
  unfolding resolved
  resolved_at = fill_at (waiter m.slots.rows n m.slots.count) o m

  resolved_long : (resolved n o m).long_integers ≡ m.long_integers
  unfolding resolved
  resolved_long = fill_long (waiter m.slots.rows n m.slots.count) o m

  resolved_count : (resolved n o m).slots.count ≡ m.slots.count
  unfolding resolved
  resolved_count = fill_count (waiter m.slots.rows n m.slots.count) o m

-- ---- an integer that was read

record IntRead (p : List ℕ) (m m' : Mem) : Type 0 where
  found_int : Int
  is : int_at p m.at ≡ Some found_int
  moves : m' ≡ past_int found_int m

module _ (x : Input) (v : ℕ) (m m' : Mem) where
  int_cases : (i : Option Int) → int_at x.payload m.at ≡ i → got v m' ≡ after_int x i m → IntRead x.payload m m'
  int_cases (Some i) q e = record { found_int = i; is = q; moves = cc }
  int_cases None q e = absurd (let z : ◌≡◌ {A = ℕ} 0 1 = cc in omega arith)

  int_read : got v m' ≡ int x m → IntRead x.payload m m'
  unfolding int
  int_read e = int_cases (int_at x.payload m.at) refl e

-- ---- the resolves after a map

module _ (x : Input) (o : ℕ) (m : Mem) where
  pub resolves_stop : (n : ℕ) → is_resolve x.sheet (peek x m) ≡ false → got tt m ≡ resolves x o n m
  unfolding resolves
  resolves_stop zero e = refl
  resolves_stop (suc n) e = rw e

  module _ (n : ℕ) (h : m.at < length x.payload) (e : is_resolve x.sheet (peek x m) ≡ true) (m' : Mem) where
    resolves-cut : {k q : ℕ} → no k q m' ≡ int x (moved (m.at + 1) m) → no k q m' ≡ resolves x o (suc n) m
    unfolding resolves byte
    resolves-cut i = rw (e, lt-ltb m.at (length x.payload) h, ← i)

    resolves_turn : {number : ℕ} → got number m' ≡ int x (moved (m.at + 1) m) → resolves x o n (resolved number o m') ≡ resolves x o (suc n) m
    unfolding resolves byte
    resolves_turn i = rw (e, lt-ltb m.at (length x.payload) h, ← i)

-- the code's test of the byte at the cursor
tag_test : (v p : List ℕ) (at : ℕ) {b : ℕ} {t u : Bool} → t ≡ eqb (number v k_resolve_pending_forward_ref) b → b ≡ peek_at p at → t ≡ u → is_resolve v (peek_at p at) ≡ u
tag_test v p at q e r = ap (eqb (number v k_resolve_pending_forward_ref)) (sym e) ∙ sym q ∙ r

-- a byte that is the tag of a usable sheet is one of the payload: no tag is 256
tag_within : (v p : List ℕ) (at : ℕ) → usable v ≡ true → is_resolve v (peek_at p at) ≡ true → at < length p
tag_within v p at u e =
    let q : number v k_resolve_pending_forward_ref ≡ peek_at p at = eqb-true (number v k_resolve_pending_forward_ref) (peek_at p at) e in
    by_case _ (ltb at (length p)) (ltb-true at (length p))
    (λ f. let z : 256 ≡ number v k_resolve_pending_forward_ref = peek_end p at (ltb-false at (length p) f) ∙ sym q in
    absurd (⊎_elim (λ b. omega arith) (λ b. omega arith) ((usable_gives v u).numbers k_resolve_pending_forward_ref (omega arith))))

-- the state when the tag has been read
abbrev pub passed : State → State
passed s =
    record s { at = s.at + 1 }

-- the state when the number has been read
record Numbered (p : List ℕ) (s t : State) : Type 0 where
  slots_same : t.slots ≡ s.slots
  pending_same : t.pending ≡ s.pending
  waiting_same : t.waiting ≡ s.waiting
  more : s.at + 2 ≤ t.at
  within : t.at ≤ length p

module _ (x : Input) (s t : State) (l : Lent) {n : ℕ} (i : got n (mem t l) ≡ int x (mem (passed s) l)) where
  numbered : Numbered x.payload s t
  numbered =
      let d = int_read x n (mem (passed s) l) (mem t l) i in
      let w = int_within x.payload (s.at + 1) d.is in
      let a : t.at ≡ s.at + 1 + d.found_int.count = ap (λ (m : Mem). m.at) d.moves in
      record {
        slots_same = ap (λ (m : Mem). m.slots.count) d.moves;
        pending_same = ap (λ (m : Mem). m.pending) d.moves;
        waiting_same = ap (λ (m : Mem). m.waiting) d.moves;
        more = omega (arith, w.least);
        within = omega (arith, w.ends);
      }

-- what is left of the resolves, with the turns left, gives what all of them give
pub record Resolving (w₀ : Walker) (o : ℕ) (s₀ : State) (w : Walker) (s : State) : Type 0 where
  pub left : ℕ
  pub enough : length w₀.payload.now ≤ s.at + left
  pub within : s.at ≤ length w₀.payload.now
  pub counts : Counts s
  pub fits : s.slots ≤ room 6 w.slots.now
  pub same : resolves (input_of w₀) o left (mem s (lent_of w)) ≡ resolves (input_of w₀) o (length w₀.payload.now - s₀.at) (mem s₀ (lent_of w₀))
  pub indexed : Indexed w.slots.now s.slots w.pending.now
  pub waits : Waits w.slots.now s.slots s.pending s.waiting
  pub kept : Kept w₀ w

module _ (w₀ : Walker) (o : ℕ) (s₀ : State) where
  pub resolving_start : s₀.at ≤ length w₀.payload.now → Counts s₀ → s₀.slots ≤ room 6 w₀.slots.now → Indexed w₀.slots.now s₀.slots w₀.pending.now → Waits w₀.slots.now s₀.slots s₀.pending s₀.waiting → Resolving w₀ o s₀ w₀ s₀
  resolving_start h e g x w =
      record { left = length w₀.payload.now - s₀.at; enough = omega arith; within = h; counts = e; fits = g; same = refl; indexed = x; waits = w; kept = kept_still w₀ }

  module _ (w : Walker) (s : State) (k : Resolving w₀ o s₀ w s) where
    abbrev x : Input
    x = input_of w₀

    -- the code's test of the byte at the cursor
    pub resolving_test : {b : ℕ} {t u : Bool} → t ≡ eqb (number w.sheet.now k_resolve_pending_forward_ref) b → b ≡ peek_at w₀.payload.now s.at → t ≡ u → is_resolve w₀.sheet.now (peek_at w₀.payload.now s.at) ≡ u
    resolving_test q e r = rw (← k.kept.0.sheet) (tag_test w.sheet.now w₀.payload.now s.at q e r)

    pub resolving_stop : is_resolve w₀.sheet.now (peek_at w₀.payload.now s.at) ≡ false → got tt (mem s (lent_of w)) ≡ resolves x o (length w₀.payload.now - s₀.at) (mem s₀ (lent_of w₀))
    resolving_stop e = resolves_stop x o (mem s (lent_of w)) k.left e ∙ k.same

    -- a turn is left where a byte is left
    one_more : s.at < length w₀.payload.now → k.left ≡ suc (k.left - 1)
    one_more h = omega (arith, k.enough)

    module _ (u : usable w₀.sheet.now ≡ true) (e : is_resolve w₀.sheet.now (peek_at w₀.payload.now s.at) ≡ true) where
      resolving_within : s.at < length w₀.payload.now
      resolving_within = tag_within w₀.sheet.now w₀.payload.now s.at u e

      pub resolving_cut : {n q : ℕ} {t : State} → no n q (mem t (lent_of w)) ≡ int x (mem (passed s) (lent_of w)) → no n q (mem t (lent_of w)) ≡ resolves x o (length w₀.payload.now - s₀.at) (mem s₀ (lent_of w₀))
      resolving_cut {n} {q} {t} i =
          resolves-cut x o (mem s (lent_of w)) (k.left - 1) resolving_within e (mem t (lent_of w)) i
          ∙ ap (λ (n : ℕ). resolves x o n (mem s (lent_of w))) (sym (one_more resolving_within))
          ∙ k.same

      module _ {n : ℕ} {t : State} (i : got n (mem t (lent_of w)) ≡ int x (mem (passed s) (lent_of w))) where
        abbrev read : Numbered w₀.payload.now s t
        read = numbered x s t (lent_of w) i

        -- what a resolve of the number asks
        pub resolving_asks : (t.slots ≤ room 6 w.slots.now) × Indexed w.slots.now t.slots w.pending.now × Waits w.slots.now t.slots t.pending t.waiting
        resolving_asks = rw (read.slots_same, read.pending_same, read.waiting_same) (k.fits, k.indexed, k.waits)

        module _ (w' : Walker) (s' : State) (a : mem s' (lent_of w') ≡ resolved n o (mem t (lent_of w))) where
          turn_at : s'.at ≡ t.at
          turn_at = ap (λ (m : Mem). m.at) a ∙ resolved_at n o (mem t (lent_of w))

          pub resolving_less : length w₀.payload.now - s'.at < length w₀.payload.now - s.at
          resolving_less = omega (arith, read.more, read.within, turn_at)

          pub resolving_turn : Counts t → Indexed w'.slots.now s'.slots w'.pending.now → Kept w w' → Resolving w₀ o s₀ w' s'
          resolving_turn f g h =
              record {
                left = k.left - 1;
                enough = omega (arith, read.more, turn_at, k.enough);
                within = omega (arith, read.within, turn_at);
                counts = (let b = ap (λ (m : Mem). m.long_integers) a ∙ resolved_long n o (mem t (lent_of w)) in omega (arith, f, b, turn_at));
                fits =
                    let b = ap (λ (m : Mem). m.slots.count) a ∙ resolved_count n o (mem t (lent_of w)) in
                    let c = ap (λ (m : Mem). length m.slots.rows) a ∙ resolved_length n o (mem t (lent_of w)) in
                    rw (b, c) resolving_asks.0;
                same =
                    ap (resolves x o (k.left - 1)) a
                    ∙ resolves_turn x o (mem s (lent_of w)) (k.left - 1) resolving_within e (mem t (lent_of w)) i
                    ∙ ap (λ (n : ℕ). resolves x o n (mem s (lent_of w))) (sym (one_more resolving_within))
                    ∙ k.same;
                indexed = g;
                waits = subst Waiting (sym a) (resolved-numbered (mem t (lent_of w)) o n (omega (arith, resolving_asks.0)) resolving_asks.2);
                kept = kept_then k.kept h;
              }
