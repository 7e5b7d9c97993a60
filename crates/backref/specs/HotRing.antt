-- The ring of hot objects (V8's `HotObjectsList`): eight places; back-references and kRootArray
-- enter it, new objects don't. Assumes nothing: these are definitions.
use Rattle.std.specs.Prelude.{ℕ, ◌+◌, ◌%◌, get_or, set, replicate, Option, Some, None}
use Rattle.tables.specs.declared.values.Ref.{Ref}
use Rattle.backref.specs.declared.hot_ring.HotRing.{HotRing}

-- the empty ring
abbrev pub empty_ring : HotRing
empty_ring = record { places = replicate 8 None; next = 0 }

-- a reference enters the ring at the place to fill next
unfoldable pub entered : HotRing → Ref → HotRing
entered hot r = record { places = set hot.places (hot.next % 8) (Some r); next = (hot.next % 8 + 1) % 8 }

-- what stands at a place of the ring
unfoldable pub hot_at : HotRing → ℕ → Option Ref
hot_at hot place = get_or hot.places place None
