use mathlib.Core.Path.{sym}
use Rattle.laws.specs.Waiting.{waiter_high, waiter_none}
use Rattle.objects.proofs.pending.lookup.Goals as goal

pub returns-then-s-number : goal.returns-then-s-number
returns-then-s-number c = sym (waiter_high c.requires.2 _ c.if-s-number.true)

pub returns-then-s-eq0 : goal.returns-then-s-eq0
returns-then-s-eq0 c = sym (waiter_none c.requires.2 c.if-s-eq0.true _)
