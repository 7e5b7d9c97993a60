use Rattle.references.specs.Found.{HasFound}
use Rattle.references.proofs.found.find_references.Given as goal

abbrev pub invariant-loop-number : goal.invariant-loop-number
invariant-loop-number l = HasFound l.filled l.number l.found
