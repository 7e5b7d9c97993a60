-- Where the index of legacy addresses keeps what. Assumes nothing: these are definitions.
use Rattle.std.specs.Prelude.{if◌then◌else◌, List, ℕ, ◌+◌, ◌-◌, ◌*◌, ◌/◌, ◌%◌, ◌^◌, ◌<◌, eqb, length}

-- for how many records an index of this length has room: nine numbers are kept for all, and eight
-- for each record
abbrev pub capacity : ℕ → ℕ
capacity length = (length - 9) / 8

-- the index has room for record i
abbrev pub Roomy : ℕ → List ℕ → Type 0
Roomy i index = i < capacity (length index)

-- the place of record k in the list of one of the spaces 0 to 7: two spaces share r places, one
-- takes them from the first on and the other from the last
abbrev pub list_cell : ℕ → ℕ → ℕ → ℕ
list_cell r space k = 9 + space / 2 * r + (if eqb (space % 2) 0 then k else r - 1 - k)

-- the place of a bucket, of which there are three for each record
abbrev pub bucket_cell : ℕ → ℕ → ℕ
bucket_cell r b = 9 + r * 4 + b

-- the place of the link of record i
abbrev pub link_cell : ℕ → ℕ → ℕ
link_cell r i = 9 + r * 7 + i

-- a block, 32,768 bytes of a chunk, as one number: the space in the upper 8 bits, then the chunk,
-- and 17 bits for the block in it
abbrev pub block : ℕ → ℕ → ℕ → ℕ
block space chunk offset = (space * 2 ^ 56 + chunk * 2 ^ 17 + offset / 2 ^ 15) % 2 ^ 64

-- where the buckets of a block begin: a product with an odd number, which follows from the seed
abbrev pub block_start : ℕ → ℕ → ℕ → ℕ
block_start r seed block = block * ((seed * 2 % 2 ^ 64 + 11400714819323198485) % 2 ^ 64) % 2 ^ 64 / 2 ^ 32 * (r * 3) % 2 ^ 64 / 2 ^ 32

-- which of a block's buckets is that of an offset: those of even words lie before those of odd
-- ones, where words have 4 bytes
abbrev pub in_block : ℕ → ℕ
in_block offset = offset / 8 % 4096 + offset / 4 % 2 * 4096

-- the bucket of an address
unfoldable pub bucket : ℕ → ℕ → ℕ → ℕ → ℕ → ℕ
bucket r seed space chunk offset = (block_start r seed (block space chunk offset) + in_block offset) % (r * 3)
