-- Sums of byte sizes over a part. Assumes nothing: these are definitions.
use Rattle.std.specs.Prelude.{zero, suc, if◌then◌else◌, ◌==◌, List, ℕ, ◌+◌, ◌-◌, slice_index}
use Rattle.tables.specs.Records.{field}
use Rattle.filled.specs.declared.filled.Filled.{Filled}

-- the values of f at the n numbers from `start` on, added up
abbrev pub total_from : (ℕ → ℕ) → ℕ → ℕ → ℕ
total_from f start zero = 0
total_from f start (suc n) = total_from f start n + f (start + n)

-- how many objects the part has
abbrev pub object_count : Filled → ℕ
object_count part = part.counts.objects - part.starts.objects

-- the byte size of object o
abbrev pub size_of : Filled → ℕ → ℕ
size_of part o = field 4 part.tables.objects.now o 0

-- all byte sizes of the part
abbrev pub all_bytes : Filled → ℕ
all_bytes part = total_from (size_of part) part.starts.objects (object_count part)

-- the byte size of object o if it is marked
abbrev pub marked_size : Filled → List ℕ → ℕ → ℕ
marked_size part marks o = if slice_index marks o == 1 then size_of part o else 0

-- the byte sizes of the marked objects of the part
abbrev pub marked_bytes : Filled → List ℕ → ℕ
marked_bytes part marks =
    total_from (marked_size part marks) part.starts.objects (object_count part)
