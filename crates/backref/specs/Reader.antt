-- What a reader finds: the definitions of Legacy at what it holds. Assumes nothing: these are
-- definitions.
use Rattle.std.specs.Prelude.{ℕ, Option}
use Rattle.tables.specs.declared.values.Ref.{Ref}
use Rattle.alloc.specs.declared.resolve.Place.{Place}
use Rattle.backref.specs.declared.legacy.LegacyReader.{LegacyReader}
use Rattle.backref.specs.Legacy.{by_number, placed, single}
use Rattle.alloc.specs.Resolve.{ordinal_from}

-- the object with a number among those of a space
abbrev pub numbered_by : LegacyReader → ℕ → ℕ → Option Ref
numbered_by r space number = by_number (ordinal_from r.addresses.table.now space number 0 r.addresses.count)

-- the object at a place, or the place
abbrev pub placed_by : LegacyReader → Place → Ref
placed_by r place = placed r.sheet.now r.addresses.table.now r.addresses.count r.alignment r.space place

-- what one integer stands for
abbrev pub single_by : LegacyReader → ℕ → Option Ref
single_by r value = single r.sheet.now r.addresses.table.now r.addresses.count r.alignment r.space value
