-- The numbers of the file of cases.
use Rattle.std.specs.Prelude.{◌≡◌, ℕ, zero, suc, ◌-◌, ◌*◌, ◌^◌, ◌≤◌, min, nat_lt, All, if◌then◌else◌, List, [], ◌∷◌, Option, Some, None, length, take, drop}
use Rattle.std.specs.Int.{from_le_bytes}
use Rattle.std.specs.Option.{unwrap_or}
use mir.Syntax.{w64}

-- the first number, where all its bytes are there: one below 248; else 247 and the count of bytes,
-- which follow, the lowest first
abbrev pub first_number : List ℕ → Option ℕ
first_number [] = None
first_number (b ∷ bs) =
    if nat_lt b 248 then Some b
    else (if nat_lt (length bs) (b - 247) then None else Some (from_le_bytes w64 (take (b - 247) bs)))

-- the bytes after it
abbrev pub after_number : List ℕ → List ℕ
after_number [] = []
after_number (b ∷ bs) = drop (b - 247) bs

-- the next k numbers, each 0 where none is left
abbrev pub numbers : ℕ → List ℕ → List ℕ
numbers zero bs = []
numbers (suc k) bs = unwrap_or (first_number bs) 0 ∷ numbers k (after_number bs)

-- the bytes after them
abbrev pub after_numbers : ℕ → List ℕ → List ℕ
after_numbers zero bs = bs
after_numbers (suc k) bs = after_numbers k (after_number bs)

-- how many numbers so many records of some fields are: none from 100,000 records on
abbrev pub places : ℕ → ℕ → ℕ
places count fields = min ((if nat_lt count 100000 then count else 0) * fields) (2 ^ 64 - 1)

-- a table has the first n numbers, and zeros after them
abbrev pub IsFrozen : List ℕ → ℕ → List ℕ → Type 0
IsFrozen bs n table =
    (n ≤ length table) × (take n table ≡ numbers n bs) × All (λ x. x ≡ 0) (drop n table)

-- the bytes after the frozen records of a table
abbrev pub after_table : List ℕ → ℕ → List ℕ → List ℕ
after_table bs n table = after_numbers (min n (length table)) bs
