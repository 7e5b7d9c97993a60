-- What every head's argument has, by its rule, and by one computed test over the rows of the order.
-- Assumes nothing.
use mathlib.Core.Path.{◌≡◌, refl}
use mathlib.Core.Bool.{Bool, true, false}
use mathlib.Core.List.{List, [], ◌∷◌}
use Prim.Native.Nat.{ℕ, ◌<◌, ◌≤◌}
use native.Mathlib.Omega.{arith}
use lib.Bits.{and_le_l, and_le_r}
use Rattle.std.specs.List.{list_all}
use Rattle.std.specs.Bool.{if◌then◌else◌}
use Rattle.std.proofs.lemmas.Bool.{and_parts}
use Rattle.sheet.specs.Sheet.{number, root_mask}
use Rattle.heads.specs.Heads.{argument_of, order, head_by, claims, first_of, head_of, no_head}
use Rattle.heads.specs.declared.heads.Head.{Head}
use Rattle.heads.specs.declared.kinds.Kind.{Kind}
use Rattle.heads.specs.declared.kinds.Kind.TheVariants.{NewObject, Hot, HotWithSkip, FixedRaw}
use Rattle.heads.specs.declared.order.Claim.{Claim}
use Rattle.heads.specs.declared.order.Argument.{Argument}
use Rattle.heads.specs.declared.order.Argument.TheVariants.{Nothing, Offset, FromOne, FromTwo, AndSeven, AndMask}

-- ---- one induction over the rows

-- what holds of a byte without meaning, and of each byte that a row which passes a test lays hold of,
-- holds of every head, if each row of the order passes the test
module _ (v : List ℕ) (b : ℕ) (P : Head → Type 0) (test : Claim → Bool) (none : P no_head) (given : (r : Claim) → test r ≡ true → claims v r b ≡ true → P (head_by v r b)) where
  picked : (r : Claim) (t : Bool) (h : Head) → test r ≡ true → claims v r b ≡ t → P h → P (if t then head_by v r b else h)
  picked r true h s e k = given r s e
  picked r false h s e k = k

  first_has : (rs : List Claim) → list_all test rs ≡ true → P (first_of v rs b)
  unfolding first_of
  first_has [] t = none
  first_has (r ∷ rs) t =
      let p = and_parts (test r) (list_all test rs) t in
      picked r (claims v r b) (first_of v rs b) p.0 refl (first_has rs p.1)

  pub each_head : list_all test order ≡ true → P (head_of v b)
  unfolding head_of
  each_head t = first_has order t

-- ---- arguments

module _ (mask first b : ℕ) (l : b < 256) where
  argument_low : (rule : Argument) → argument_of mask rule first b ≤ 257
  argument_low Nothing = omega arith
  argument_low Offset = omega arith
  argument_low FromOne = omega arith
  argument_low FromTwo = omega arith
  argument_low AndSeven = omega (arith, and_le_l b 7)
  argument_low AndMask = omega (arith, and_le_l b mask)

-- an argument of a byte has at most 16 bits
pub argument_small : (mask : ℕ) (rule : Argument) (first b : ℕ) → b < 256 → argument_of mask rule first b < 65536
argument_small mask rule first b l = omega (arith, argument_low mask first b l rule)

-- a head's argument; of a new object it is a space, of a hot byte one of eight places, and fixed raw
-- data has a word at least
pub record Argued (h : Head) : Type 0 where
  pub bound : h.argument ≤ 257
  pub space : h.kind ≡ NewObject → h.argument < 256
  pub place : h.kind ≡ Hot → h.argument < 8
  pub skip_place : h.kind ≡ HotWithSkip → h.argument < 8
  pub raw : h.kind ≡ FixedRaw → 1 ≤ h.argument

-- the rules that rows of these kinds have
abbrev pub is_ruled : Kind → Argument → Bool
is_ruled NewObject Nothing = true
is_ruled NewObject Offset = true
is_ruled NewObject rule = false
is_ruled Hot AndSeven = true
is_ruled Hot rule = false
is_ruled HotWithSkip AndSeven = true
is_ruled HotWithSkip rule = false
is_ruled FixedRaw FromOne = true
is_ruled FixedRaw rule = false
is_ruled kind rule = true

module _ (mask first b : ℕ) (l : b < 256) where
  space_low : (rule : Argument) → is_ruled NewObject rule ≡ true → argument_of mask rule first b < 256
  space_low Nothing e = omega arith
  space_low Offset e = omega arith
  space_low rule e = absurd cc

module _ (mask first b : ℕ) where
  pub place_low : (rule : Argument) → is_ruled Hot rule ≡ true → argument_of mask rule first b < 8
  place_low AndSeven e = omega (arith, and_le_r b 7)
  place_low rule e = absurd cc

  skip_place_low : (rule : Argument) → is_ruled HotWithSkip rule ≡ true → argument_of mask rule first b < 8
  skip_place_low AndSeven e = omega (arith, and_le_r b 7)
  skip_place_low rule e = absurd cc

  pub raw_low : (rule : Argument) → is_ruled FixedRaw rule ≡ true → 1 ≤ argument_of mask rule first b
  raw_low FromOne e = omega arith
  raw_low rule e = absurd cc

pub head_argued : (v : List ℕ) (b : ℕ) → b < 256 → Argued (head_of v b)
unfolding order
head_argued v b l =
    each_head v b Argued (λ r. is_ruled r.kind r.argument) (record { bound = omega arith; space = λ e. omega arith; place = λ e. omega arith; skip_place = λ e. omega arith; raw = λ e. absurd cc })
    (λ r t c.
    let first : ℕ = number v r.name in
    let mask : ℕ = root_mask v in
    record {
      bound = argument_low mask first b l r.argument;
      space = λ e. space_low mask first b l r.argument (rw e at t);
      place = λ e. place_low mask first b r.argument (rw e at t);
      skip_place = λ e. skip_place_low mask first b r.argument (rw e at t);
      raw = λ e. raw_low mask first b r.argument (rw e at t);
    })
    refl
