use native.Mathlib.Omega.{arith}
use mathlib.Core.Path.{sym, ◌∙◌}
use Rattle.readers.proofs.IntLaws.{int_ends}
use Rattle.leaves.proofs.LeafLaws.{first_cut, single_missing, single_found, second_cut, place_found}
use Rattle.leaves.proofs.leaf.legacy_leaf.Goals as goal

pub overflow_add-next : goal.overflow_add-next
overflow_add-next c = omega (arith, int_ends c.in_ok-first.was _ _ c.putint.ensures.value)

pub overflow_add-next-2 : goal.overflow_add-next-2
overflow_add-next-2 c = omega (arith, int_ends c.in_ok-second.was _ _ c.putint-2.ensures.value)

pub returns-in_err-first-clause-none : goal.returns-in_err-first-clause-none
returns-in_err-first-clause-none c = let a = c.args in λ none. first_cut a.w.now a.s a.at a.space (sym c.putint.ensures.value ∙ c.in_err-first.was)

pub returns-in_err-r-clause-none : goal.returns-in_err-r-clause-none
returns-in_err-r-clause-none c =
    let a = c.args in
    λ none. single_missing a.w.now a.s a.at a.space (sym c.putint.ensures.value ∙ c.in_ok-first.was) (sym c.if-is_single.ensures) c.find_single.ensures c.in_err-r.was

pub returns-then-is_single-clause-some : goal.returns-then-is_single-clause-some
returns-then-is_single-clause-some c =
    let a = c.args in
    rw (c.reference.ensures, c.from-long.ensures, c.is_long.ensures)
    (single_found a.w.now a.s a.at a.space (sym c.putint.ensures.value ∙ c.in_ok-first.was) (sym c.if-is_single.ensures) c.find_single.ensures c.word_bytes-word.result c.word_bytes-word.ensures.0 c.in_ok-r.was)

pub returns-in_err-second-clause-none : goal.returns-in_err-second-clause-none
returns-in_err-second-clause-none c =
    let a = c.args in
    λ none. second_cut a.w.now a.s a.at a.space (sym c.putint.ensures.value ∙ c.in_ok-first.was) (sym c.if-is_single.ensures) (sym c.putint-2.ensures.value ∙ c.in_err-second.was)

pub returns-clause-some : goal.returns-clause-some
returns-clause-some c =
    let a = c.args in
    rw (c.reference-2.ensures, c.from-long.ensures, c.from.ensures, c.is_long.ensures, c.is_long-2.ensures)
    (place_found a.w.now a.s a.at a.space (sym c.putint.ensures.value ∙ c.in_ok-first.was) (sym c.if-is_single.ensures) c.word_bytes-word.result c.word_bytes-word.ensures.0 (sym c.putint-2.ensures.value ∙ c.in_ok-second.was) c.find_place-r.ensures)
