-- What a chunk change and an allocation keep: laws of the definitions alone, for the crates above.
-- Assumes nothing.
use Rattle.std.specs.Prelude.{if◌then◌else◌}
use mathlib.Core.Path.{◌≡◌, refl}
use mathlib.Core.Bool.{Bool, true, false, ◌||◌}
use mathlib.Core.List.{List, [], ◌∷◌}
use Prim.Native.Nat.{ℕ, zero, suc, ◌+◌, ◌<◌, ◌≤◌}
use native.Mathlib.Omega.{arith}
use borrow.Author.Tests.{leb-false}
use lib.Dec.{leb, ltb}
use lib.ListN.{get_or, set}
use Rattle.tables.specs.Records.{room}
use Rattle.alloc.specs.declared.legacy_alloc.LegacyAlloc.{LegacyAlloc}
use Rattle.alloc.specs.declared.legacy_alloc.Request.{Request}
use Rattle.alloc.specs.Fill.{fill_to_align}
use Rattle.alloc.specs.Allocation.{next_chunk, Outcome, outcome, advance_of, allocate_of}

-- ---- chunk changes

counted : (l : List ℕ) (i j : ℕ) → get_or (set l i (get_or l i 0 + 1)) j 0 ≤ get_or l j 0 + 1
counted [] i j = omega arith
counted (x ∷ l) zero zero = omega arith
counted (x ∷ l) zero (suc j) = omega arith
counted (x ∷ l) (suc i) zero = omega arith
counted (x ∷ l) (suc i) (suc j) = counted l i j

module _ (c : LegacyAlloc) (spaces space : ℕ) where
  changed : (P : LegacyAlloc → Type 0) (b : Bool) {x : LegacyAlloc} → P c → P x → P (if b then c else x)
  changed P true p q = p
  changed P false p q = q

  -- a chunk counter grows by 1 at most
  pub next_chunk_cur : (j : ℕ) → get_or (next_chunk c spaces space).cur j 0 ≤ get_or c.cur j 0 + 1
  unfolding next_chunk
  next_chunk_cur j =
      changed (λ x. get_or x.cur j 0 ≤ get_or c.cur j 0 + 1) (leb spaces space) (omega arith) (counted c.cur space j)

-- ---- allocation

picked : (P : Outcome → Type 0) (b : Bool) {x y : Outcome} → (b ≡ true → P x) → (b ≡ false → P y) → P (if b then x else y)
picked P true f g = f refl
picked P false f g = g refl

module _ (t : List ℕ) (n spaces : ℕ) (want : Request) (c : LegacyAlloc) where
  -- what holds of each way out holds of the allocation
  allocate_cases : (P : Outcome → Type 0)
      → P (outcome 3 want.alignment c t)
      → P (outcome 16 want.alignment c t)
      → (n < room 5 t → (alignment : ℕ) (c' : LegacyAlloc) (t' : List ℕ) → P (outcome 0 alignment c' t'))
      → P (allocate_of t n spaces want c)
  unfolding allocate_of
  allocate_cases P full over given =
      let used = get_or c.used want.space 0 in
      let address = ltb 4294967295 (used + fill_to_align used want.alignment want.word) in
      let free = used + advance_of want.size want.alignment want.word in
      picked P (leb (room 5 t) n) (λ _. full) (λ h.
      let given : (alignment : ℕ) (c' : LegacyAlloc) (t' : List ℕ) → P (outcome 0 alignment c' t') = given (leb-false _ _ h) in
      picked P (ltb 4294967295 want.size) (λ _. over) (λ _.
      picked P (leb spaces want.space) (λ _. given _ _ _) (λ _.
      picked P (address || ltb 4294967295 free) (λ _. over) (λ _. given _ _ _))))

  pub allocate_room : (allocate_of t n spaces want c).number ≡ 0 → n < room 5 t
  allocate_room = allocate_cases (λ o. o.number ≡ 0 → n < room 5 t) (λ e. omega arith) (λ e. omega arith) (λ h _ _ _ _. h)
