-- The numbers of the refusals (docs/FORMAT.md, "Refusals"). Assumes nothing: these are
-- definitions.
use Rattle.std.specs.Prelude.{ℕ}
use Rattle.refusals.specs.declared.refusal.Refusal.{Refusal}
use Rattle.refusals.specs.declared.refusal.Refusal.TheVariants.{NoEntry, UnusableSheet, TooLong, NoRoom, PayloadEnds, NoObjectFirst, TooDeep, RawPastEnd, NoSuchObject, EmptyHotPlace, NoMeaning, MetaMap, SizeDiffers, NoSynchronize, NoPadding, NoSuchNumber, AddressTooLarge, NoView, OffsetPastEnd, NoMarks}

abbrev pub number_of : Refusal → ℕ
number_of NoEntry = 0
number_of UnusableSheet = 1
number_of TooLong = 2
number_of NoRoom = 3
number_of PayloadEnds = 4
number_of NoObjectFirst = 5
number_of TooDeep = 6
number_of RawPastEnd = 7
number_of NoSuchObject = 8
number_of EmptyHotPlace = 9
number_of NoMeaning = 10
number_of MetaMap = 11
number_of SizeDiffers = 12
number_of NoSynchronize = 13
number_of NoPadding = 14
number_of NoSuchNumber = 15
number_of AddressTooLarge = 16
number_of NoView = 17
number_of OffsetPastEnd = 18
number_of NoMarks = 19
