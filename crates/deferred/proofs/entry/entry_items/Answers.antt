use native.Mathlib.Omega.{arith}
use mathlib.Core.Path.{sym}
use Rattle.std.proofs.lemmas.Result.{err_from_is_err_and}
use Rattle.readers.specs.Lent.{input_of}
use Rattle.objects.proofs.AnswerLaws.{fixed_on}
use Rattle.deferred.proofs.EntryLaws.{word_fits, loop_end, loop_word, loop_no, slots_ask, count_low, loop_full, loop_smaller, index_fits, loop_turn}
use Rattle.deferred.proofs.entry.entry_items.Goals as goal

pub returns-in_err-value : goal.returns-in_err-value
returns-in_err-value c =
    let p = err_from_is_err_and c.from_residual.result c.from_residual.ensures.1 in
    let w = c.loop-done.invariant in
    rw (p.1, p.2) (record { is = loop_no w c.loop-done-test.true c.in_err-value.ensures.is; after = record { fixed = fixed_on w.fixed c.in_err-value.ensures.after.fixed; indexed = tt; linked = tt } })

pub entry_slots-n-requires : goal.entry_slots-n-requires
entry_slots-n-requires c = word_fits c.loop-done.invariant.ready _ (sym (loop_word c.loop-done.invariant c.word_bytes-word.ensures.0))

pub add_slots-requires : goal.add_slots-requires
add_slots-requires c = slots_ask c.loop-done.invariant c.loop-done-test.true c.parse_ref.new.w c.in_ok-value.ensures.is (omega (arith, c.well_formed, c.loop-done.invariant.onward.slots_size))

pub returns-in_err-y : goal.returns-in_err-y
returns-in_err-y c =
    let p = err_from_is_err_and c.from_residual-in_err-y.result c.from_residual-in_err-y.ensures.1 in
    let w = c.loop-done.invariant in
    let word = loop_word w c.word_bytes-word.ensures.0 in
    rw (p.1, p.2) (record { is = loop_full w c.loop-done-test.true c.parse_ref.new.w c.in_ok-value.ensures.is (c.entry_fields-f.ensures c.in_ok-value.u.values) (c.entry_slots-n.ensures (input_of c.loop-done.w) word) c.in_err-y.ensures.is; after = record { fixed = fixed_on w.fixed (fixed_on c.in_ok-value.ensures.after.fixed c.add_slots.ensures.kept.0); indexed = tt; linked = tt } })

pub overflow_add-index : goal.overflow_add-index
overflow_add-index c =
    let w = c.loop-done.invariant in
    let word = loop_word w c.word_bytes-word.ensures.0 in
    omega (arith, index_fits w c.loop-done-test.true c.parse_ref.new.w c.in_ok-value.ensures.is (c.entry_fields-f.ensures c.in_ok-value.u.values) (c.entry_slots-n.ensures (input_of c.loop-done.w) word) c.add_slots.new.w c.in_ok-y.ensures.is (omega (arith, c.well_formed)))

pub entry_count-done-requires : goal.entry_count-done-requires
entry_count-done-requires c = word_fits c.loop-done.invariant.ready _ (sym (loop_word c.loop-done.invariant c.word_bytes-word.ensures.0))

pub overflow_add-done : goal.overflow_add-done
overflow_add-done c =
    let w = c.loop-done.invariant in
    let word = loop_word w c.word_bytes-word.ensures.0 in
    omega (arith, c.entry_count-done.ensures (input_of c.loop-done.w) word, count_low w c.loop-done-test.true c.parse_ref.new.w c.in_ok-value.ensures.is, c.loop-done-test.true, c.requires.legacy.1)

pub loop-done-smaller : goal.loop-done-smaller
loop-done-smaller c =
    let w = c.loop-done.invariant in
    let word = loop_word w c.word_bytes-word.ensures.0 in
    loop_smaller w c.loop-done-test.true c.parse_ref.new.w c.in_ok-value.ensures.is (c.entry_fields-f.ensures c.in_ok-value.u.values) (c.entry_slots-n.ensures (input_of c.loop-done.w) word) c.add_slots.new.w c.in_ok-y.ensures.is

pub loop-done-preserved : goal.loop-done-preserved
loop-done-preserved c =
    let w = c.loop-done.invariant in
    let word = loop_word w c.word_bytes-word.ensures.0 in
    loop_turn w c.loop-done-test.true c.parse_ref.new.w c.in_ok-value.ensures.is (c.entry_fields-f.ensures c.in_ok-value.u.values) (c.entry_slots-n.ensures (input_of c.loop-done.w) word) c.add_slots.new.w c.in_ok-y.ensures.is c.in_ok-value.ensures.after c.add_slots.ensures.kept (c.in_ok-y.ensures.index c.in_ok-value.ensures.after.indexed) (c.entry_count-done.ensures (input_of c.loop-done.w) word)

pub returns-clause-is : goal.returns-clause-is
returns-clause-is c = loop_end c.loop-done.invariant c.loop-done-test.false
