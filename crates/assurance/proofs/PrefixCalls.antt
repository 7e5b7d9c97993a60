-- A second payload that begins as an accepted one does, through the kSynchronize that ends its
-- closing section, is accepted exactly when only kNop follows, and then has the same graph and the
-- same events. For every sheet that is not legacy. Assumes nothing.
use Rattle.std.specs.Prelude.{◌≡◌, false, List, ℕ, ◌+◌, ◌≤◌, length, take}
use Rattle.std.proofs.Common.{sym, ◌∙◌}
use Rattle.sheet.specs.Sheet.{is_legacy}
use Rattle.definition.specs.Memory.{Mem, got, moved}
use Rattle.definition.specs.Call.{Rooms, Call, input_of, graph}
use Rattle.assurance.specs.Words.{events, EndsAt}
use Rattle.assurance.specs.Padding.{Padded, padding_all, padding_only}
use Rattle.assurance.specs.Prefix.{with_payload}
use Rattle.assurance.proofs.PrefixReads.{end, end_is, second_graph, rest, end_moved}

module _ (c : Call) (rooms : Rooms) (modern : is_legacy c.sheet ≡ false) (m : Mem) (e : graph c rooms ≡ got tt m) where
  -- THE THEOREM, both ways: q is the place of the kSynchronize that ends the closing section, p'
  -- begins with the payload through it
  module _ (q : ℕ) (at : EndsAt q (events c rooms)) (p' : List ℕ) (short : length p' ≤ 16777216) (same : take (q + 1) p' ≡ take (q + 1) c.payload) where
    -- only kNop follows, if it is accepted
    pub only_padding : (m' : Mem) → graph (with_payload p' c) rooms ≡ got tt m' → Padded c.sheet p' (q + 1)
    only_padding m' f =
        rw (end_is c rooms modern m e q at p' short same) at (padding_only (input_of (with_payload p' c)) modern _ (end c rooms modern m e q at p' short same) m' (rest c rooms modern m e q at p' short same) (sym (second_graph c rooms modern m e q at p' short same) ∙ f))

    -- and if only kNop follows, it is accepted, with all the same but the cursor at the finish:
    -- counts, tables, events
    pub same_graph : Padded c.sheet p' (q + 1) → graph (with_payload p' c) rooms ≡ got tt (moved (length p') m)
    same_graph pad =
        second_graph c rooms modern m e q at p' short same
        ∙ padding_all (input_of (with_payload p' c)) _ (end c rooms modern m e q at p' short same) (rest c rooms modern m e q at p' short same) (rw (end_is c rooms modern m e q at p' short same) pad)
        ∙ end_moved c rooms modern m e q at p' short same
