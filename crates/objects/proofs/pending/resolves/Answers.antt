use mathlib.Core.Path.{◌≡◌, ◌∙◌}
use mathlib.Core.Bool.{true}
use native.Mathlib.Omega.{arith}
use Rattle.stream.specs.Bytes.{peek_at}
use Rattle.sheet.specs.Tests.{is_resolve}
use Rattle.definition.specs.Memory.{got, int}
use Rattle.readers.specs.Lent.{input_of, lent_of}
use Rattle.readers.specs.Views.{mem}
use Rattle.objects.proofs.AnswerLaws.{passed_on}
use Rattle.objects.proofs.ResolveLaws.{passed, resolving_start, resolving_test, resolving_stop, resolving_cut, resolving_asks, resolving_less, resolving_turn}
use Rattle.objects.proofs.pending.resolves.Goals as goal
use Rattle.objects.proofs.pending.resolves.Goals.{In_ok-number}

pub loop-p-init : goal.loop-p-init
loop-p-init c = let q = c.requires in resolving_start c.args.w.now c.args.o c.args.s q.usable.1 q.usable.2 q.waits.0 q.waits.1 q.waits.2

pub returns-clause-is : goal.returns-clause-is
returns-clause-is c = let i = c.loop-p.invariant in resolving_stop _ _ _ _ _ i (resolving_test _ _ _ _ _ i c.is_tag.ensures c.peek.ensures c.loop-p-test.false)

pub returns-in_err-number-clause-is : goal.returns-in_err-number-clause-is
returns-in_err-number-clause-is c =
    let i = c.loop-p.invariant in
    passed_on _ _ _ c.from_residual.ensures.1
    ∙ resolving_cut _ _ _ _ _ i c.requires.usable.0 (resolving_test _ _ _ _ _ i c.is_tag.ensures c.peek.ensures c.loop-p-test.true) (c.in_err-number.ensures.by_index _ _ _ _)

pub read_int-requires : goal.read_int-requires
read_int-requires c = omega (arith, c.loop-p.invariant.counts)

-- the byte at the cursor is the tag, and the number after it was read
tagged : (c : In_ok-number) → is_resolve c.args.w.now.sheet.now (peek_at c.args.w.now.payload.now c.loop-p.t.at) ≡ true
tagged c = resolving_test _ _ _ _ _ c.loop-p.invariant c.is_tag.ensures c.peek.ensures c.loop-p-test.true

counted : (c : In_ok-number) → let l = lent_of c.loop-p.w in got c.in_ok-number.number (mem c.in_ok-number.u l) ≡ int (input_of c.args.w.now) (mem (passed c.loop-p.t) l)
counted c = c.in_ok-number.ensures.by_index _ _ _ _

pub resolve-t-requires : goal.resolve-t-requires
resolve-t-requires c = let b = (goal.at.resolve-t-requires c).In_ok-number in resolving_asks _ _ _ _ _ c.loop-p.invariant c.requires.usable.0 (tagged b) (counted b)

pub loop-p-smaller : goal.loop-p-smaller
loop-p-smaller c =
    let b = (goal.at.loop-p-smaller c).In_ok-number in
    resolving_less _ _ _ _ _ c.loop-p.invariant c.requires.usable.0 (tagged b) (counted b) c.resolve-t.new.w c.resolve-t.result c.resolve-t.ensures.is

pub loop-p-preserved : goal.loop-p-preserved
loop-p-preserved c =
    let b = (goal.at.loop-p-preserved c).In_ok-number in
    let r = c.resolve-t.ensures in
    resolving_turn _ _ _ _ _ c.loop-p.invariant c.requires.usable.0 (tagged b) (counted b) c.resolve-t.new.w c.resolve-t.result r.is c.in_ok-number.ensures.counts r.index r.kept
