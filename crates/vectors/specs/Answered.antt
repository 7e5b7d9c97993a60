-- What a case's call gives, as the entry point promises it.
use Rattle.cache_graph.specs.Promise.{Answer, call_of, rooms_of, Reads}
use Rattle.vectors.specs.declared.case.Case.{Case}
use Rattle.vectors.specs.declared.case.Outcome.{Outcome}

abbrev pub numbers_of : Outcome → Answer
numbers_of o =
    record
    { number = o.number; objects = o.objects; slots = o.slots; values = o.values; addresses = o.addresses; end = o.end; place = o.place; long_integers = o.long_integers }

-- the outcome, and what the call leaves in the tables
abbrev pub Called : Case → Outcome → Case → Type 0
Called c o c' =
    Reads (call_of c.sheet.items c.payload.items c.reservations.items c.trusted.items)
    (rooms_of c.objects.items c.slots.items c.values.items c.addresses.items) (numbers_of o)
    c'.objects.items c'.slots.items c'.values.items c'.addresses.items
