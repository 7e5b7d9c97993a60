-- The integer at each way out. Assumes nothing.
use mathlib.Core.Path.{◌≡◌, refl}
use mathlib.Core.Bool.{Bool, true, false}
use mathlib.Core.List.{List}
use Prim.Native.Nat.{ℕ, ◌+◌, ◌-◌, ◌/◌, ◌^◌, ◌<◌, ◌≤◌}
use native.Mathlib.Omega.{arith}
use borrow.Author.Tests.{lt-ltb, le-ltb, le-leb, lt-leb, ltb-false, leb-false}
use lib.Bits.{bit_and, and_mask}
use lib.Dec.{leb, ltb}
use lib.ListN.{length, get_or}
use lib.Pow.{pow_mono}
use native.Mathlib.Nat.{lt_of_lt_of_le}
use Rattle.stream.specs.declared.putint.Int.{Int}
use Rattle.std.specs.Prelude.{if◌then◌else◌, Option, Some, None}
use Rattle.stream.specs.Bytes.{little_endian}
use Rattle.stream.specs.PutInt.{int_length, int_at, shortest, is_long}
use Rattle.stream.proofs.ByteLaws.{Bytes, le_below}

module _ (p : List ℕ) (at : ℕ) where
  -- the byte count, by the mask
  pub count_is : {b0 : ℕ} → b0 ≡ get_or p at 0 → bit_and b0 3 + 1 ≡ int_length p at
  unfolding int_length
  count_is {b0} e = rw (e, and_mask (get_or p at 0) 2)

  pub count_small : int_length p at ≤ 4
  unfolding int_length
  count_small = omega arith

  pub int_none : length p ≤ at → None ≡ int_at p at
  unfolding int_at
  int_none h = rw (le-leb (length p) at h)

  module _ (h : at < length p) {n : ℕ} (e : n ≡ int_length p at) where
    pub int_cut : length p - at < n → None ≡ int_at p at
    unfolding int_at
    int_cut l = rw (← e, lt-leb (length p) at h, lt-ltb (length p - at) n l)

    pub int_is : {raw : ℕ} → n ≤ length p - at → raw ≡ little_endian p at n → Some (record { value = raw / 4; count = n }) ≡ int_at p at
    unfolding int_at
    int_is {raw} l r = rw (← e, lt-leb (length p) at h, le-ltb (length p - at) n l, r)

  -- four bytes at most are below 2 ^ 32
  pub int_below : {raw n : ℕ} → Bytes p → n ≡ int_length p at → raw ≡ little_endian p at n → raw < 2 ^ 32
  int_below {raw} {n} bs e r =
      rw r (lt_of_lt_of_le (le_below p at n bs) (pow_mono {j = 32} (omega (arith, count_small))))

-- one byte is the fewest
pub one_is_short : (i : Int) → i.count ≤ 1 → false ≡ is_long i
unfolding is_long shortest
one_is_short i h =
    let low : 1 ≤ shortest i.value = least (ltb i.value (2 ^ 6)) (ltb i.value (2 ^ 14)) (ltb i.value (2 ^ 22)) in
    rw (le-ltb (shortest i.value) i.count (omega (arith, h, low)))
  where
    least : (a b c : Bool) → 1 ≤ (if a then 1 else if b then 2 else if c then 3 else 4)
    least true b c = omega arith
    least false true c = omega arith
    least false false true = omega arith
    least false false false = omega arith

-- an integer that is not cut has one to four bytes, all in the payload
pub record IntWithin (p : List ℕ) (at n : ℕ) : Type 0 where
  pub ends : at + n ≤ length p
  pub least : 1 ≤ n
  pub most : n ≤ 4

module _ {i : Int} where
  whole : (cut : Bool) {o : Option Int} → (if cut then None else o) ≡ Some i → (cut ≡ false) × (o ≡ Some i)
  whole true e = absurd (let z : ◌≡◌ {A = ℕ} 0 1 = cc in omega arith)
  whole false e = (refl, e)

  pub int_within : (p : List ℕ) (at : ℕ) → int_at p at ≡ Some i → IntWithin p at i.count
  unfolding int_length int_at
  int_within p at e =
      let begun = whole (leb (length p) at) e in
      let ended = whole (ltb (length p - at) (int_length p at)) begun.1 in
      let count : int_length p at ≡ i.count = cc ended.1 in
      record {
        ends = omega (arith, leb-false (length p) at begun.0, ltb-false (length p - at) (int_length p at) ended.0);
        least = omega arith;
        most = omega arith;
      }
