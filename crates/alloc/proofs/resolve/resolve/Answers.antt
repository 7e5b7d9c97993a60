use Rattle.std.proofs.Common.{rules}
use Rattle.alloc.specs.Resolve.{addressed, resolve_of}
use Rattle.alloc.proofs.resolve.resolve.Goals as goal

pub returns : goal.returns
unfolding resolve_of
returns c = let a = c.args in c.resolve_by.ensures (λ chunk offset. addressed a.table.now a.space chunk offset a.n) (λ p r k l q. search rules)
