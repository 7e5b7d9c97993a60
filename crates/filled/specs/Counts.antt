-- Record counts of the four tables, one at most another. Assumes nothing: these are definitions.
use Rattle.std.specs.Prelude.{◌≤◌}
use Rattle.filled.specs.declared.filled.Counts.{Counts}

-- for each table, the first count is at most the second
pub record Within (low high : Counts) : Type 0 where
  pub objects : low.objects ≤ high.objects
  pub slots : low.slots ≤ high.slots
  pub values : low.values ≤ high.values
  pub addresses : low.addresses ≤ high.addresses
