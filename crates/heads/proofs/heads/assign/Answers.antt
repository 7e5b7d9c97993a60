use Rattle.std.proofs.Common.{refl, arith, rules}
use Rattle.heads.proofs.Assigning.{assigned_none, assigned_more, assigned_as}
use Rattle.heads.proofs.Rules.{argument_small}
use Rattle.heads.proofs.heads.assign.Goals as goal

pub loop-b-init : goal.loop-b-init
loop-b-init c = assigned_none _ _ _ _ _ _ (omega arith)

pub overflow_cast-heads : goal.overflow_cast-heads
overflow_cast-heads c = omega (arith, c.argument_of.ensures, argument_small c.args.mask c.args.argument c.args.first c.loop-b.b (omega arith))

pub loop-b-preserved : goal.loop-b-preserved
loop-b-preserved c = assigned_more _ _ _ _ _ _ _ _ (search rules) (omega arith) (omega arith) c.argument_of.ensures c.loop-b.invariant

pub returns : goal.returns
returns c = assigned_as refl (omega arith) refl c.loop-b.invariant
