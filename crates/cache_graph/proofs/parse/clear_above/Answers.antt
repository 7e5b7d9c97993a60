use Rattle.std.proofs.Common.{◌*◌, rules}
use Rattle.std.proofs.lemmas.Slice.{overwrites}
use Rattle.assurance.specs.Unused.{zeros_from-is}
use Rattle.cache_graph.proofs.parse.clear_above.Goals as goal

pub returns : goal.returns
returns c = rw (c.clear.ensures, ← zeros_from-is (c.args.count * c.args.fields) c.args.t.now) (search (rules, overwrites))
