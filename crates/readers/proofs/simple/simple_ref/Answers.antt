use Rattle.std.proofs.Common.{refl, ap, rules}
use Rattle.definition.specs.Reference.{by_head}
use Prim.Native.Nat.{◌*◌}
use Rattle.readers.specs.Views.{mem}
use Rattle.readers.specs.Lent.{input_of, lent_of}
use Rattle.readers.proofs.SimpleLaws.{internal_grouped, embedder_grouped, raw_same}
use Rattle.readers.proofs.simple.simple_ref.Goals as goal

pub returns-in-FixedRaw-clause-is : goal.returns-in-FixedRaw-clause-is
unfolding by_head
returns-in-FixedRaw-clause-is c = λ inner. rw c.in-FixedRaw.is (raw_same (input_of c.args.w.now) (mem c.args.s (lent_of c.args.w.now)) (ap (λ n. c.args.head.argument * n) c.word_bytes.ensures.0) refl (c.raw_data.ensures _ _ _ _))

pub returns-in-VariableRaw-clause-is : goal.returns-in-VariableRaw-clause-is
unfolding by_head
returns-in-VariableRaw-clause-is c = λ inner. rw c.in-VariableRaw.is (c.variable_raw.ensures _ _ _)

pub returns-in-ReadOnly-clause-is : goal.returns-in-ReadOnly-clause-is
unfolding by_head
returns-in-ReadOnly-clause-is c = λ inner. rw c.in-ReadOnly.is (c.two_ints.ensures _ (search rules) _ _ _ _)

pub returns-in-Internal-clause-is : goal.returns-in-Internal-clause-is
unfolding by_head
returns-in-Internal-clause-is c = λ inner. rw c.in-Internal.is (internal_grouped _ _ (c.two_ints-in-Internal.ensures _ (search rules) _ _ _ _))

pub returns-in-EmbedderFields-clause-is : goal.returns-in-EmbedderFields-clause-is
unfolding by_head
returns-in-EmbedderFields-clause-is c = λ inner. rw c.in-EmbedderFields.is (embedder_grouped _ _ (c.two_ints-in-EmbedderFields.ensures _ (search rules) _ _ _ _))

pub returns-in-Attached-clause-is : goal.returns-in-Attached-clause-is
unfolding by_head
returns-in-Attached-clause-is c = λ inner. rw c.in-Attached.is (c.one_int.ensures _ (search rules) _ _ _ _)

pub returns-in-Builtin-clause-is : goal.returns-in-Builtin-clause-is
unfolding by_head
returns-in-Builtin-clause-is c = λ inner. rw c.in-Builtin.is (c.one_int-in-Builtin.ensures _ (search rules) _ _ _ _)

pub returns-in-External-clause-is : goal.returns-in-External-clause-is
unfolding by_head
returns-in-External-clause-is c = λ inner. rw c.in-External.is (c.one_int-in-External.ensures _ (search rules) _ _ _ _)

pub returns-in-Deoptimizer-clause-is : goal.returns-in-Deoptimizer-clause-is
unfolding by_head
returns-in-Deoptimizer-clause-is c = λ inner. rw c.in-Deoptimizer.is (c.one_int-in-Deoptimizer.ensures _ (search rules) _ _ _ _)

pub returns-in-StreamBytes-clause-is : goal.returns-in-StreamBytes-clause-is
unfolding by_head
returns-in-StreamBytes-clause-is c = λ inner. rw c.in-StreamBytes.is (c.one_int-in-StreamBytes.ensures _ (search rules) _ _ _ _)

pub returns-in-Cache-clause-is : goal.returns-in-Cache-clause-is
unfolding by_head
returns-in-Cache-clause-is c = λ inner. rw c.in-Cache.is (c.one_int-in-Cache.ensures _ (search rules) _ _ _ _)

pub returns-in-DispatchEntry-clause-is : goal.returns-in-DispatchEntry-clause-is
unfolding by_head
returns-in-DispatchEntry-clause-is c = λ inner. rw c.in-DispatchEntry.is (c.one_int-in-DispatchEntry.ensures _ (search rules) _ _ _ _)

pub returns-in-Skip-clause-is : goal.returns-in-Skip-clause-is
unfolding by_head
returns-in-Skip-clause-is c = λ inner. rw c.in-Skip.is (c.one_int-in-Skip.ensures _ (search rules) _ _ _ _)

pub returns-in-VariableRepeatPrevious-clause-is : goal.returns-in-VariableRepeatPrevious-clause-is
unfolding by_head
returns-in-VariableRepeatPrevious-clause-is c = λ inner. rw c.in-VariableRepeatPrevious.is (c.one_int-in-VariableRepeatPrevious.ensures _ (search rules) _ _ _ _)
