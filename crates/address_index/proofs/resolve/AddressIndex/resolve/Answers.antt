use Rattle.std.proofs.Common.{rules}
use Rattle.alloc.specs.Resolve.{addressed, resolve_of}
use Rattle.address_index.proofs.resolve.AddressIndex.resolve.Goals as goal

pub returns-in-Some : goal.returns-in-Some
unfolding resolve_of
returns-in-Some c =
    let a = c.args in
    c.resolve_by.ensures (λ chunk offset. addressed a.self.table.now a.space chunk offset a.self.count) (λ p r k l q. search rules)
