-- Laws of the definitions that the proofs of the code, here and in `address_index`, are given.
-- Assumes nothing.
use mathlib.Core.Path.{◌≡◌, refl}
use mathlib.Core.List.{List, [], ◌∷◌}
use Prim.Native.Nat.{ℕ, ◌+◌, ◌≤◌}
use native.Mathlib.Omega.{arith}
use lib.Dec.{leb}
use Rattle.std.specs.Prelude.{cond}
use Rattle.std.specs.List.{count_by}
use Rattle.std.proofs.lemmas.List.Sums.{sum_by-cons}
use Rattle.alloc.specs.Fill.{max_fill_to_align, fill_to_align}
use Rattle.alloc.specs.Allocation.{spaces_of, advance_of}

-- ---- fillers

pub fill_bound : (address alignment word : ℕ) → word ≤ 8 → fill_to_align address alignment word ≤ 8
unfolding fill_to_align max_fill_to_align
fill_bound address alignment word h = grind arith

-- ---- counters

pub advance_bound : (size alignment word : ℕ) → advance_of size alignment word ≤ size + 8
unfolding advance_of max_fill_to_align
advance_bound size alignment word = grind arith

-- each entry whose top bit is set counts 1
pub spaces_counted : (l : List ℕ) → count_by (λ r. leb 2147483648 r) l + 1 ≡ spaces_of l
unfolding spaces_of
spaces_counted [] = refl
spaces_counted (r ∷ rs) =
    omega (arith, sum_by-cons (λ x. cond (leb 2147483648 x) 1 0) r rs, spaces_counted rs)
