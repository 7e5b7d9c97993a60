-- An answer as an `Out`, once its variant is known, what a reader that goes on from it gives, and
-- records put into tables. Assumes nothing.
use Rattle.std.specs.Prelude.{if◌then◌else◌}
use mathlib.Core.Path.{◌≡◌, sym, ap, ◌∙◌}
use mathlib.Core.Bool.{Bool, true, false}
use mathlib.Core.List.{List, []}
use Prim.Native.Nat.{ℕ, ◌<◌}
use borrow.Author.Tests.{ltb-true}
use lib.ListN.{length}
use Rattle.alloc.specs.Allocation.{zero_counters}
use Rattle.backref.specs.HotRing.{empty_ring}
use Rattle.tables.specs.Records.{room, has_room, written, Put}
use Rattle.definition.specs.Memory.{Mem, Out, got, no, Reader, and_then}
use Rattle.readers.specs.Views.{Lent}

-- a reader that goes on from what another gave
module _ {A B : Type 0} (f : A → Reader B) {o : Out A} {m : Mem} where
  pub then_got : {a : A} {out : Out B} → got a m ≡ o → out ≡ f a m → out ≡ and_then o f
  then_got e h = rw (← e) h

  pub then_no : {n q : ℕ} → no n q m ≡ o → no n q m ≡ and_then o f
  then_no e = rw (← e)

-- readers are grouped from the left or from the right
pub regrouped : {A B C : Type 0} (o : Out A) (f : A → Reader B) (g : B → Reader C) {out : Out C} → out ≡ and_then o (λ a m. and_then (f a m) g) → out ≡ and_then (and_then o f) g
regrouped (got a m) f g h = h
regrouped (no n q m) f g h = h

-- something lent, for what does not depend on it
pub nothing : Lent
nothing = record { objects = []; slots = []; values = []; addresses = []; hot = empty_ring; alloc = zero_counters }

-- ---- a record that was put into a table, or not

module _ {t : List ℕ} {n : ℕ} {row : List ℕ} {r : Bool} {after : List ℕ} (p : Put t n row r after) where
  pub put_full : r ≡ false → (has_room t n row ≡ false) × (after ≡ t)
  put_full e = let f : has_room t n row ≡ false = sym p.roomy ∙ e in (f, p.table ∙ ap (λ b. if b then written t n row else t) f)

  pub put_done : r ≡ true → (has_room t n row ≡ true) × (after ≡ written t n row)
  put_done e = let f : has_room t n row ≡ true = sym p.roomy ∙ e in (f, p.table ∙ ap (λ b. if b then written t n row else t) f)

  pub put_below : r ≡ true → n < room (length row) t
  put_below e = ltb-true n (room (length row) t) (put_done e).0
