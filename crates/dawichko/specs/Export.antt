-- The outcome as the exported function gives it. Assumes nothing: these are definitions.
use Rattle.std.specs.Prelude.{List, ℕ, get_or}
use Rattle.cache_graph.specs.Promise.{Answer}

-- the returned number, and the seven numbers of the array: the four record counts, `end`, the place
-- and the number of long integers
abbrev pub outcome_of : ℕ → List ℕ → Answer
outcome_of number l =
    record
    { number = number; objects = get_or l 0 0; slots = get_or l 1 0; values = get_or l 2 0; addresses = get_or l 3 0; end = get_or l 4 0; place = get_or l 5 0; long_integers = get_or l 6 0 }
