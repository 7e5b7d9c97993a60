-- A second payload that begins as an accepted one does, through the kSynchronize that ends its
-- closing section, is accepted exactly when only kNop follows, and then has the same graph and the
-- same events. For every plain sheet. Assumes nothing.
use Rattle.std.specs.Prelude.{◌≡◌, false, List, ℕ, ◌+◌, ◌≤◌, length, take}
use Rattle.sheet.specs.Sheet.{is_legacy}
use Rattle.definition.specs.Memory.{Mem}
use Rattle.definition.specs.Call.{Rooms, Call}
use Rattle.assurance.specs.Words.{Accepted, events, EndsAt}
use Rattle.assurance.specs.PlainSheet.{plain-gives}
use Rattle.assurance.specs.Prefix.{Second}
use Rattle.assurance.proofs.PrefixCalls.{only_padding, same_graph}

pub second_payload : (c : Call) (rooms : Rooms) (m : Mem) → Accepted c rooms m → (q : ℕ) → EndsAt q (events c rooms) → (p' : List ℕ) → length p' ≤ 16777216 → take (q + 1) p' ≡ take (q + 1) c.payload → Second c rooms m q p'
second_payload c rooms m a q at p' short same =
    let modern : is_legacy c.sheet ≡ false = (plain-gives c.sheet a.plain_sheet).no_legacy in
    record { only_if = only_padding c rooms modern m a.accepted q at p' short same; if_so = same_graph c rooms modern m a.accepted q at p' short same }
