-- The index from pending numbers to waiting slots, and that of legacy addresses, where a reader
-- went on. Assumes nothing: these are definitions.
use Rattle.std.specs.Prelude.{◌≡◌, List, ℕ, suc, ◌<◌, ◌≤◌, length, get_or, Option, Some, None, Ok, Err}
use Rattle.tables.specs.Records.{room}
use Rattle.address_index.specs.Links.{Linked}
use Rattle.laws.specs.Waiting.{Waits}
use Rattle.readers.specs.declared.state.State.{State}
use Rattle.readers.specs.declared.walker.Walker.{Walker}
use Rattle.readers.specs.Views.{Answer}
use Rattle.definition.specs.Slots.{waiter}

-- a slot, counted from 1; 0: none
abbrev pub counted : Option ℕ → ℕ
counted (Some i) = suc i
counted None = 0

-- k is right for a number: where one of the first `count` slots waits under it, k is that slot,
-- counted from 1; else k may be anything
abbrev pub Entry : List ℕ → ℕ → ℕ → ℕ → Type 0
Entry slots count n k = 0 < waiter slots n count → k ≡ waiter slots n count

-- so for each number that there is room for; with no slots this holds of any contents
abbrev pub Indexed : List ℕ → ℕ → List ℕ → Type 0
Indexed slots count scratch = (n : ℕ) → n < length scratch → Entry slots count n (get_or scratch n 0)

-- what is known of the slots that wait: they are there, and so are their places
abbrev pub Waiting : Walker → State → Type 0
Waiting w s = (s.slots ≤ room 6 w.slots.now) × Indexed w.slots.now s.slots w.pending.now × Waits w.slots.now s.slots s.pending s.waiting

-- where the reader went on, the places of pending numbers are right
abbrev pub IndexedAfter : {A : Type 0} → Answer A → List ℕ → List ℕ → Type 0
IndexedAfter (Ok r) slots pending = Indexed slots r.1.slots pending
IndexedAfter (Err e) slots pending = Unit {0}

-- so is the index of the address records
abbrev pub LinkedAfter : {A : Type 0} → Answer A → List ℕ → List ℕ → Type 0
LinkedAfter (Ok r) addresses index = Linked addresses r.1.addresses index
LinkedAfter (Err e) addresses index = Unit {0}
