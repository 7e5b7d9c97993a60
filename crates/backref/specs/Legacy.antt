-- Legacy back-references (the Rust's `legacy_backref`): what the integers of one stand for. Assumes
-- nothing: these are definitions.
use Rattle.std.specs.Prelude.{if◌then◌else◌, Bool, not, ◌||◌, List, ℕ, ◌-◌, ◌*◌, ◌/◌, ◌%◌, ◌^◌, eqb, Option, Some, None}
use Rattle.sheet.specs.Sheet.{is_six_x, map_space, lo_space, space_tag_size, page_size_bits, word_bytes}
use Rattle.tables.specs.declared.values.Ref.{Ref}
use Rattle.tables.specs.declared.values.Ref.TheVariants.{Object, RoRef}
use Rattle.alloc.specs.declared.resolve.Place.{Place}
use Rattle.alloc.specs.Resolve.{resolve_of, ordinal_from}

-- map and large objects are referred to by number. Spaces kMapSpace and kLoSpace refer, but spaces
-- 4 and 5 are numbered (difference D27); 0 for a space that is not numbered
abbrev pub numbered_as : List ℕ → ℕ → ℕ
numbered_as v space = if eqb space (map_space v) then 4 else if eqb space (lo_space v) then 5 else 0

-- a back-reference to a space has one integer: in 6.x, and where the space is numbered. Else it has
-- two, a chunk and an offset
abbrev pub is_single : List ℕ → ℕ → Bool
is_single v space = is_six_x v || not (eqb (numbered_as v space) 0)

-- the object with a number, if there is one
abbrev pub by_number : Option ℕ → Option Ref
by_number (Some o) = Some (Object o)
by_number None = None

-- the object at a place; none: the place is one of the read-only heap (difference D31: whatever the
-- space)
abbrev pub by_place : Option ℕ → Place → Ref
by_place (Some o) place = Object o
by_place None place = RoRef place.chunk place.offset

-- the object with a number among those of a space, and what is at a place: the first n address
-- records and the pending alignment are given
abbrev pub numbered : List ℕ → List ℕ → ℕ → ℕ → ℕ → Option Ref
numbered v t n space number = by_number (ordinal_from t (numbered_as v space) number 0 n)

unfoldable pub placed : List ℕ → List ℕ → ℕ → ℕ → ℕ → Place → Ref
placed v t n alignment space place =
    by_place (resolve_of t n space place.chunk place.offset alignment (word_bytes v)) place

-- 6.x: of the one integer the low bits are an index: a number, or a chunk above an offset in words
abbrev pub word_bits : List ℕ → ℕ
word_bits v = if eqb (word_bytes v) 4 then 2 else 3

abbrev pub offset_bits : List ℕ → ℕ
offset_bits v = page_size_bits v - word_bits v

abbrev pub index_of : List ℕ → ℕ → ℕ
index_of v value = value % 2 ^ (32 - space_tag_size v)

abbrev pub unpacked : List ℕ → ℕ → Place
unpacked v index = record { chunk = index / 2 ^ offset_bits v; offset = index % 2 ^ offset_bits v * word_bytes v }

-- the number that an integer gives
abbrev pub number_in : List ℕ → ℕ → ℕ
number_in v value = if is_six_x v then index_of v value else value

-- what the integer of a back-reference that has one stands for; none: no object has the number
unfoldable pub single : List ℕ → List ℕ → ℕ → ℕ → ℕ → ℕ → Option Ref
single v t n alignment space value =
    if eqb (numbered_as v space) 0 then Some (placed v t n alignment space (unpacked v (index_of v value)))
    else numbered v t n space (number_in v value)
