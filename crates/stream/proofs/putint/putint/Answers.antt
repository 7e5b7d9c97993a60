use native.Mathlib.Omega.{arith}
use Prim.Native.Nat.{◌^◌, ◌<◌}
use Rattle.stream.proofs.IntegerLaws.{count_is, count_small, int_none, int_cut, int_is, int_below}
use Rattle.stream.proofs.putint.putint.Goals as goal
use Rattle.stream.proofs.putint.putint.Goals.{After-little_endian}

pub returns-then-p-at : goal.returns-then-p-at
returns-then-p-at c = record { value = int_none _ _ c.if-p-at.true; small = tt }

pub overflow_add-count : goal.overflow_add-count
overflow_add-count c = let a = c.args in omega (arith, count_is a.p.now a.at c.byte.ensures.0, count_small a.p.now a.at)

pub returns-then-p-at-2 : goal.returns-then-p-at-2
returns-then-p-at-2 c = record { value = int_cut _ _ c.if-p-at.false (count_is _ _ c.byte.ensures.0) c.if-p-at-2.true; small = tt }

pub little_endian-requires : goal.little_endian-requires
little_endian-requires c =
    let a = c.args in
    omega (arith, count_is a.p.now a.at c.byte.ensures.0, count_small a.p.now a.at)

-- the number that the bytes make is below 2 ^ 32
raw_below : (c : After-little_endian) → c.little_endian.result < 2 ^ 32
raw_below c =
    int_below _ _ (λ i. omega (arith, c.type_inv.p i)) (count_is _ _ c.byte.ensures.0) c.little_endian.ensures

pub overflow_cast-value : goal.overflow_cast-value
overflow_cast-value c = let h = raw_below (goal.at.overflow_cast-value c).After-little_endian in omega arith

pub returns : goal.returns
returns c =
    let h = raw_below (goal.at.returns c).After-little_endian in
    record { value = int_is _ _ c.if-p-at.false (count_is _ _ c.byte.ensures.0) c.if-p-at-2.false c.little_endian.ensures; small = omega arith }
