-- Address records in the order of their addresses. Assumes nothing: these are definitions.
use Rattle.std.specs.Prelude.{◌≡◌, ◌⊎◌, Bool, ◌&&◌, ◌||◌, List, ℕ, ◌<◌, ◌≤◌, ltb, eqb}
use Rattle.std.specs.Coded.{×_prop, le_prop}
use Rattle.std.proofs.Math.Nat.{ℕ_set}
use Rattle.std.proofs.Common.{inl, inr, ap, arith}
use Rattle.tables.specs.Records.{field}
use Rattle.address_index.specs.Links.{space_of}

-- chunk and offset of one address are at most those of another
abbrev pub AtMost : ℕ → ℕ → ℕ → ℕ → Type 0
AtMost chunk offset chunk' offset' = (chunk < chunk') ⊎ ((chunk ≡ chunk') × (offset ≤ offset'))

-- it is a proposition
pub AtMost-prop : (chunk offset chunk' offset' : ℕ) → IsProp (AtMost chunk offset chunk' offset')
AtMost-prop chunk offset chunk' offset' (inl a) (inl b) = ap inl (le_prop a b)
AtMost-prop chunk offset chunk' offset' (inl a) (inr b) = absurd (omega (arith, a, b.0))
AtMost-prop chunk offset chunk' offset' (inr a) (inl b) = absurd (omega (arith, a.0, b))
AtMost-prop chunk offset chunk' offset' (inr a) (inr b) = ap inr (×_prop (ℕ_set chunk chunk') le_prop a b)

-- the addresses of the first n records do not fall within a space, and a space has counters for all
-- of them or for none
pub record Sorted (t : List ℕ) (n : ℕ) : Type 0 where
  pub rising : (i j : ℕ) → i < j → j < n → space_of t i ≡ space_of t j → AtMost (field 5 t i 1) (field 5 t i 2) (field 5 t j 1) (field 5 t j 2)
  pub alike : (i j : ℕ) → i < j → j < n → space_of t i ≡ space_of t j → field 5 t i 4 ≡ field 5 t j 4

pub Sorted-prop : (t : List ℕ) (n : ℕ) → IsProp (Sorted t n)
Sorted-prop t n = Prim.hlevel (AtMost-prop, ℕ_set)

-- the address of record i is higher than this one
abbrev pub is_after : List ℕ → ℕ → ℕ → ℕ → Bool
is_after t i chunk offset = ltb chunk (field 5 t i 1) || (eqb chunk (field 5 t i 1) && ltb offset (field 5 t i 2))
