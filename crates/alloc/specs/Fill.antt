-- Fillers of V8's `Heap::GetMaximumFillToAlign` and `Heap::GetFillToAlign`. Assumes nothing: these
-- are definitions.
use Rattle.std.specs.Prelude.{if◌then◌else◌, not, ◌&&◌, ℕ, ◌-◌, ◌%◌, eqb}

-- the most that a filler can take: a double less a word
unfoldable pub max_fill_to_align : ℕ → ℕ
max_fill_to_align word = 8 - word

-- the filler before an object: double-aligned (1) fills one word where the address is not a
-- multiple of 8, double-unaligned (2) fills a double less a word where it is
unfoldable pub fill_to_align : ℕ → ℕ → ℕ → ℕ
fill_to_align address alignment word =
    if eqb alignment 1 && not (eqb (address % 8) 0) then word
    else if eqb alignment 2 && eqb (address % 8) 0 then max_fill_to_align word else 0
