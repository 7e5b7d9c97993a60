use Rattle.std.proofs.Common.{rules}
use Rattle.objects.proofs.SearchLaws.{searched}
use Rattle.objects.proofs.pending.find_waiter.Goals as goal

pub returns : goal.returns
returns c = searched c.args.slots.now c.args.number _ _ _ _ _ c.rev.ensures.source c.find.ensures.ran (λ x b q k. search rules)
