use Rattle.cache_graph.proofs.SecondLaws.{refused_number}
use Rattle.dawichko.proofs.dawichko_graph.Goals as goal

-- of an accepted payload the definition refuses nothing
pub returns-in-Ok-clause-refused : goal.returns-in-Ok-clause-refused
returns-in-Ok-clause-refused c = refused_number c.in-Ok.ensures.reads
