-- What a legacy back-reference stands for (`LegacyAlloc::resolve` and `resolve_ordinal`). Assumes
-- nothing: these are definitions.
use Rattle.std.specs.Prelude.{if◌then◌else◌, ◌≡◌, Bool, ◌&&◌, List, ℕ, zero, suc, ◌+◌, ◌-◌, ◌^◌, ◌<◌, eqb, Option, Some, None}
use Rattle.tables.specs.Records.{field}
use Rattle.alloc.specs.Fill.{fill_to_align}
use Rattle.alloc.specs.declared.resolve.Place.{Place}

abbrev pub or_else : Option ℕ → Option ℕ → Option ℕ
or_else (Some o) other = Some o
or_else None other = other

-- address record k is placed at this address
abbrev pub is_address : List ℕ → ℕ → ℕ → ℕ → ℕ → Bool
is_address t space chunk offset k =
    eqb (field 5 t k 0) space && eqb (field 5 t k 1) chunk && eqb (field 5 t k 2) offset && eqb (field 5 t k 4) 1

-- the object at an address: of the first n records the newest that is placed there
unfoldable pub addressed : List ℕ → ℕ → ℕ → ℕ → ℕ → Option ℕ
addressed t space chunk offset zero = None
addressed t space chunk offset (suc n) =
    if is_address t space chunk offset n then Some (field 5 t n 3) else addressed t space chunk offset n

-- what is at a chunk and an offset is given: the exact address is tried first, then the one after
-- the filler of the pending alignment (difference D29: V8 takes the latter alone)
abbrev pub resolve_by : (ℕ → ℕ → Option ℕ) → ℕ → ℕ → ℕ → ℕ → Option ℕ
resolve_by at chunk offset alignment word =
    or_else (at chunk offset)
    (if eqb (fill_to_align offset alignment word) 0 then None else at chunk (offset + fill_to_align offset alignment word))

-- by the plain search
unfoldable pub resolve_of : List ℕ → ℕ → ℕ → ℕ → ℕ → ℕ → ℕ → Option ℕ
resolve_of t n space chunk offset alignment word = resolve_by (λ c o. addressed t space c o n) chunk offset alignment word

-- a call may give what is at the place that it is called with, and no other
abbrev pub Finds : (ℕ → ℕ → Option ℕ) → (Place → Option ℕ → Type 0) → Type 0
Finds at R = (p : Place) (r : Option ℕ) → p.chunk < 2 ^ 64 → p.offset < 2 ^ 64 → R p r → r ≡ at p.chunk p.offset

-- of the n records from record k on, the object of the one that is number `index` among those of a
-- space
unfoldable pub ordinal_from : List ℕ → ℕ → ℕ → ℕ → ℕ → Option ℕ
ordinal_from t space index k zero = None
ordinal_from t space index k (suc n) =
    if eqb (field 5 t k 0) space then (if eqb index 0 then Some (field 5 t k 3) else ordinal_from t space (index - 1) (k + 1) n)
    else ordinal_from t space index (k + 1) n
