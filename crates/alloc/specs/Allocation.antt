-- Allocation in legacy spaces (`LegacyAlloc`; V8's `DeserializerAllocator` up to 8.7). Assumes
-- nothing: these are definitions. Here the Rust leaves V8: map and large-object spaces run through
-- the counters too (D28), a space without counters leaves the alignment pending (D30), and chunk
-- ends are not checked (D32); docs/DIFFERENCES.md.
use Rattle.std.specs.Prelude.{if◌then◌else◌, ◌≡◌, ◌||◌, List, [], ◌∷◌, ℕ, ◌+◌, ◌^◌, ltb, leb, eqb, get_or, set, replicate, Result, Ok, Err}
use Rattle.refusals.specs.declared.refusal.Refusal.{Refusal}
use Rattle.refusals.specs.Numbers.{number_of}
use Rattle.tables.specs.Records.{room, written, address_row}
use Rattle.alloc.specs.Fill.{max_fill_to_align, fill_to_align}
use Rattle.alloc.specs.declared.legacy_alloc.LegacyAlloc.{LegacyAlloc}
use Rattle.alloc.specs.declared.legacy_alloc.Request.{Request}
use Rattle.alloc.specs.declared.legacy_alloc.Placed.{Placed}

-- an entry of the reservation list ends its space by its top bit
abbrev pub ends : ℕ → ℕ
ends r = if leb (2 ^ 31) r then 1 else 0

-- spaces with counters: top bits plus 1
unfoldable pub spaces_of : List ℕ → ℕ
spaces_of [] = 1
spaces_of (r ∷ rs) = spaces_of rs + ends r

-- every space at offset 0 of chunk 0
abbrev pub zero_counters : LegacyAlloc
zero_counters = record { cur = replicate 256 0; used = replicate 256 0 }

-- a chunk change of a space with counters
unfoldable pub next_chunk : LegacyAlloc → ℕ → ℕ → LegacyAlloc
next_chunk c spaces space =
    if leb spaces space then c
    else record { cur = set c.cur space (get_or c.cur space 0 + 1); used = set c.used space 0 }

-- what an allocation gives: a refusal's number or 0, the pending alignment, the counters and the
-- address table
pub record Outcome : Type 0 where
  pub number : ℕ
  pub alignment : ℕ
  pub alloc : LegacyAlloc
  pub table : List ℕ

abbrev pub outcome : ℕ → ℕ → LegacyAlloc → List ℕ → Outcome
outcome n a c t = record { number = n; alignment = a; alloc = c; table = t }

-- how far the next free offset moves
unfoldable pub advance_of : ℕ → ℕ → ℕ → ℕ
advance_of size alignment word = if eqb alignment 0 then size else size + max_fill_to_align word

-- an object in a space with counters: its address is the next free offset after the filler; the
-- alignment is used up
abbrev pub placed : List ℕ → ℕ → Request → LegacyAlloc → ℕ → Outcome
placed t n want c used =
    if ltb 4294967295 (used + fill_to_align used want.alignment want.word) || ltb 4294967295 (used + advance_of want.size want.alignment want.word) then outcome 16 want.alignment c t
    else outcome 0 0
    (record { cur = c.cur; used = set c.used want.space (used + advance_of want.size want.alignment want.word) })
    (written t n
    (address_row want.space (get_or c.cur want.space 0) (used + fill_to_align used want.alignment want.word) want.object 1))

-- an allocation: room for the record (3), the size (16), a space without counters, else placed
unfoldable pub allocate_of : List ℕ → ℕ → ℕ → Request → LegacyAlloc → Outcome
allocate_of t n spaces want c =
    if leb (room 5 t) n then outcome 3 want.alignment c t
    else if ltb 4294967295 want.size then outcome 16 want.alignment c t
    else if leb spaces want.space then outcome 0 want.alignment c (written t n (address_row want.space 0 0 want.object 0))
    else placed t n want c (get_or c.used want.space 0)

-- what the code returns, with the counters and the table that it leaves; refused, the alignment `a`
-- that was pending stays so
abbrev pub seen : ℕ → Result ℕ Refusal → LegacyAlloc → List ℕ → Outcome
seen a (Ok b) c t = outcome 0 b c t
seen a (Err r) c t = outcome (number_of r) a c t

-- what storing the offset that `place` answers gives
abbrev pub stored : Request → Result Placed Refusal → LegacyAlloc → List ℕ → Outcome
stored want (Ok p) c t = outcome 0 p.alignment (record { cur = c.cur; used = set c.used want.space p.free }) t
stored want (Err r) c t = outcome (number_of r) want.alignment c t

-- `place` sees of the counters only the space's chunk and its next free offset: in all counters
-- that have these, storing the offset that it answers is the allocation
abbrev pub Places : List ℕ → ℕ → ℕ → Request → ℕ → ℕ → Result Placed Refusal → List ℕ → Type 0
Places t n spaces want used chunk r after =
    (c : LegacyAlloc) → get_or c.used want.space 0 ≡ used → get_or c.cur want.space 0 ≡ chunk
    → stored want r c after ≡ allocate_of t n spaces want c
