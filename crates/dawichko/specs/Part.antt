-- Filled tables as the exported functions take them. Assumes nothing: these are definitions.
use Rattle.std.specs.Prelude.{◌≡◌, List, ℕ, get_or, replicate}
use Rattle.tables.specs.Records.{room}
use Rattle.filled.specs.Counts.{Within}
use Rattle.filled.specs.declared.filled.Counts.{Counts}
use Rattle.filled.specs.declared.filled.Filled.{Filled}

-- the four tables, and four numbers each for the part's start and the record counts
pub record Asked : Type 0 where
  pub objects : List ℕ
  pub slots : List ℕ
  pub values : List ℕ
  pub addresses : List ℕ
  pub starts : List ℕ
  pub counts : List ℕ

abbrev pub asked_of : List ℕ → List ℕ → List ℕ → List ℕ → List ℕ → List ℕ → Asked
asked_of objects slots values addresses starts counts =
    record {
      objects = objects;
      slots = slots;
      values = values;
      addresses = addresses;
      starts = starts;
      counts = counts;
    }

-- the same of whole tables: the part starts at 0
abbrev pub whole_of : List ℕ → List ℕ → List ℕ → List ℕ → List ℕ → Asked
whole_of objects slots values addresses counts =
    asked_of objects slots values addresses (replicate 4 0) counts

-- four numbers as counts: of objects, slots, values and addresses
abbrev pub counts_of : List ℕ → Counts
counts_of l =
    record {
      objects = get_or l 0 0;
      slots = get_or l 1 0;
      values = get_or l 2 0;
      addresses = get_or l 3 0;
    }

-- how many records each table has room for
abbrev pub rooms_of : Asked → Counts
rooms_of asked =
    record {
      objects = room 4 asked.objects;
      slots = room 6 asked.slots;
      values = room 3 asked.values;
      addresses = room 5 asked.addresses;
    }

-- the counts are within the rooms, and the starts within the counts: else 17
pub record Listed (asked : Asked) : Type 0 where
  pub starts : Within (counts_of asked.starts) (counts_of asked.counts)
  pub counts : Within (counts_of asked.counts) (rooms_of asked)

-- the part that is asked of
pub record IsPart (asked : Asked) (part : Filled) : Type 0 where
  pub objects : part.tables.objects.now ≡ asked.objects
  pub slots : part.tables.slots.now ≡ asked.slots
  pub values : part.tables.values.now ≡ asked.values
  pub addresses : part.tables.addresses.now ≡ asked.addresses
  pub starts : part.starts ≡ counts_of asked.starts
  pub counts : part.counts ≡ counts_of asked.counts
