-- A second call, from what the entry point promises of both. Assumes nothing.
use Rattle.std.specs.Prelude.{◌≡◌, refl, List, [], ℕ, ◌+◌, ◌≤◌, length, take}
use Rattle.std.proofs.Common.{ap, subst, ◌∙◌, arith}
use Rattle.definition.specs.Memory.{told, Table, Mem, Out, got, no, moved}
use Rattle.definition.specs.Call.{Rooms, Call, start, graph, table_of, Answer, answer_of}
use Rattle.assurance.specs.Padding.{Padded}
use Rattle.assurance.specs.Prefix.{with_payload, Second}
use Rattle.assurance.specs.Refusals.{Known, refusal_known}
use Rattle.cache_graph.specs.Promise.{RefusalNumber, IsRefused, Reads, Assures}
use Rattle.cache_graph.specs.SecondCall.{SameGraph, SecondCalls}

-- a refusal has a number, so a call without one is accepted
pub graph_known : (c : Call) (rooms : Rooms) → Known (graph c rooms)
unfolding graph
graph_known c rooms = refusal_known c (start rooms (told []))

pub accepted_graph : (c : Call) (rooms : Rooms) (r : Answer) → r ≡ answer_of (graph c rooms) → r.number ≡ 0 → (m : Mem) × (graph c rooms ≡ got tt m)
accepted_graph c rooms r a z = go (graph c rooms) refl (graph_known c rooms) a
  where
    go : (o : Out (Unit {0})) → graph c rooms ≡ o → Known o → r ≡ answer_of o → (m : Mem) × (graph c rooms ≡ got tt m)
    go (got v m) e k a = (m, e)
    go (no n q m) e k a = absurd (let y : r.number ≡ n = ap (λ (a : Answer). a.number) a in omega (arith, k.0))

-- a refused call's answer has a refusal's number
pub refused_number : {c : Call} {rooms : Rooms} {r : Answer} {ot st vt dt : List ℕ} → Reads c rooms r ot st vt dt → IsRefused c rooms → RefusalNumber r.number
refused_number {c} {rooms} {r} w f =
    let e : graph c rooms ≡ no f.0 f.1 f.2 = f.3 in
    let n : r.number ≡ f.0 = ap (λ (a : Answer). a.number) (w.outcome ∙ ap answer_of e) in
    rw n (subst Known e (graph_known c rooms))

module _ (c : Call) (rooms : Rooms) (r : Answer) (ot st vt dt : List ℕ) (a : Assures c rooms r ot st vt dt) where
  -- where the closing section of the first payload ends
  abbrev pub final : ℕ
  final = a.guaranteed.graph_assured.final

  module _ (p' : List ℕ) (short : length p' ≤ 16777216) (same : take (final + 1) p' ≡ take (final + 1) c.payload) (r' : Answer) (ot' st' vt' dt' : List ℕ) (w : Reads (with_payload p' c) rooms r' ot' st' vt' dt') where
    second : Second c rooms a.held final p'
    second = a.guaranteed.second p' short same

    pub accepted_only_if : r'.number ≡ 0 → Padded c.sheet p' (final + 1)
    accepted_only_if z = let g = accepted_graph (with_payload p' c) rooms r' w.outcome z in second.only_if g.0 g.1

    pub same_graph : Padded c.sheet p' (final + 1) → SameGraph r r' ot st vt dt ot' st' vt' dt'
    same_graph n =
        let g : graph (with_payload p' c) rooms ≡ got tt (moved (length p') a.held) = second.if_so n in
        let o : r' ≡ answer_of (got tt (moved (length p') a.held)) = w.outcome ∙ ap answer_of g in
        record {
          accepted = ap (λ (a : Answer). a.number) o;
          objects = ap (λ (a : Answer). a.objects) o ∙ ap (λ (t : Table). t.count) a.objects_held;
          slots = ap (λ (a : Answer). a.slots) o ∙ ap (λ (t : Table). t.count) a.slots_held;
          values = ap (λ (a : Answer). a.values) o ∙ ap (λ (t : Table). t.count) a.values_held;
          addresses = ap (λ (a : Answer). a.addresses) o ∙ ap (λ (t : Table). t.count) a.addresses_held;
          long_integers = ap (λ (a : Answer). a.long_integers) o ∙ a.long_held;
          same_objects = w.objects_are ∙ ap (table_of (λ m. m.objects) rooms.objects) g ∙ ap (λ (t : Table). t.rows) a.objects_held;
          same_slots = w.slots_are ∙ ap (table_of (λ m. m.slots) rooms.slots) g ∙ ap (λ (t : Table). t.rows) a.slots_held;
          same_values = w.values_are ∙ ap (table_of (λ m. m.values) rooms.values) g ∙ ap (λ (t : Table). t.rows) a.values_held;
          same_addresses = w.addresses_are ∙ ap (table_of (λ m. m.addresses) rooms.addresses) g ∙ ap (λ (t : Table). t.rows) a.addresses_held;
        }

-- THE THEOREM
pub second_calls : (c : Call) (rooms : Rooms) (r : Answer) (ot st vt dt : List ℕ) → Assures c rooms r ot st vt dt → SecondCalls c rooms r ot st vt dt
second_calls c rooms r ot st vt dt a =
    record {
      final = a.guaranteed.graph_assured.final;
      ends_closing = a.guaranteed.graph_assured.final_ends_closing;
      accepted_only_if = (λ p' b r' ot' st' vt' dt' w. accepted_only_if c rooms r ot st vt dt a p' b.within_limit b.same_start r' ot' st' vt' dt' w);
      same_graph = (λ p' b r' ot' st' vt' dt' w. same_graph c rooms r ot st vt dt a p' b.within_limit b.same_start r' ot' st' vt' dt' w);
    }
