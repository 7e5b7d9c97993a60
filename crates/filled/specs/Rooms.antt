-- The rooms of four tables. Assumes nothing: these are definitions.
use Rattle.tables.specs.Records.{room}
use Rattle.filled.specs.declared.filled.Counts.{Counts}
use Rattle.filled.specs.declared.filled.Tables.{Tables}

-- how many records each table has room for
abbrev pub rooms_of : Tables → Counts
rooms_of t =
    record {
      objects = room 4 t.objects.now;
      slots = room 6 t.slots.now;
      values = room 3 t.values.now;
      addresses = room 5 t.addresses.now;
    }
