-- What is not used of a table is zero. Assumes nothing.
use Rattle.std.specs.Prelude.{◌≡◌, refl, List, ℕ, ◌+◌, ◌*◌, ◌/◌, ◌%◌, ◌<◌, ◌≤◌, length, set}
use Rattle.std.proofs.Common.{◌∙◌, le-div_iff_mul-le, div-add-mod', mod-lt, arith}
use Rattle.tables.specs.Records.{field, object_row, slot_row, value_row, filled}
use Rattle.tables.proofs.RecordLaws.{written_else, filled_else, set_else}
use Rattle.definition.specs.Memory.{Input, word, Table, table, Mem, added}
use Rattle.definition.specs.Call.{Rooms, Call, input_of, empty}
use Rattle.assurance.specs.Words.{Accepted}
use Rattle.assurance.specs.Records.{ZeroRest}
use Rattle.assurance.specs.Induct.{graph_has}
use Rattle.assurance.proofs.EventRules.{EventRules, tables_have}
use Rattle.assurance.specs.Whole.{Any, steady}
use Rattle.assurance.specs.Wider.{zeros_get}

-- by records, of w fields each
record Rest (w : ℕ) (t : Table) : Type 0 where
  rest : (n k : ℕ) → t.count ≤ n → k < w → field w t.rows n k ≡ 0

more : (t : Table) (row : List ℕ) → Rest (length row) t → Rest (length row) (added t row)
more t row h = record { rest = (λ n k l b. written_else t.rows row t.count n k b (omega arith) ∙ h.rest n k (omega arith) b) }

-- a field of a record in use changes
set_rest : (t : Table) (o j v : ℕ) → j < 4 → o < t.count → Rest 4 t → Rest 4 (table (set t.rows (o * 4 + j) v) t.count)
set_rest t o j v b l h = record { rest = (λ n k g c. set_else 4 o j t.rows v b n k c (λ e. absurd (omega arith)) ∙ h.rest n k g c) }

fill_rest : (t : Table) (i o : ℕ) → i < t.count → Rest 6 t → Rest 6 (table (filled t.rows i o) t.count)
fill_rest t i o l h = record { rest = (λ n k g c. filled_else t.rows i o n k c (λ e. absurd (omega arith)) ∙ h.rest n k g c) }

rules : (x : Input) → EventRules x (λ S ot st vt es. (Rest 4 ot) × (Rest 6 st) × (Rest 3 vt))
rules x =
    record {
      on_passed = (λ S ot st vt es a n h. h);
      on_begins = (λ S ot st vt es q h. h);
      on_synchronize = (λ S ot st vt es q h. h);
      on_dropped = (λ S ot st vt es v h. h);
      on_value = (λ S ot st vt es v l h. (h.0, h.1, more vt (value_row v) h.2));
      on_open = (λ S ot st vt es q w p i l h. (more ot (object_row (w * word x) q) h.0, h.1, h.2));
      on_flag = (λ S ot st vt es o l h. (set_rest ot o 2 1 (omega arith) l h.0, h.1, h.2));
      on_map = (λ S ot st vt es o size v p h. (set_rest ot o 3 _ (omega arith) p.listed h.0, more st (slot_row o 0 v 0) h.1, h.2));
      on_item = (λ S ot st vt es o size done w v k p e q l h. (set_rest ot o 3 _ (omega arith) p.listed h.0, more st (slot_row o (done / word x) v k) h.1, h.2));
      on_unknown = (λ S ot st vt es n o h. h);
      on_fill = (λ S ot st vt es n o k w h. (h.0, fill_rest st k o w.0 h.1, h.2));
      on_close = (λ S ot st vt es o size l p h. h);
    }

at_start : (w n : ℕ) → Rest w (empty n)
at_start w n = record { rest = (λ i k l b. zeros_get n (i * w + k)) }

by_index : (w : ℕ) (t : Table) → 0 < w → Rest w t → ZeroRest w t
by_index w t pos h i l =
    let e : i / w * w + i % w ≡ i = div-add-mod' i w in
    rw e at (h.rest (i / w) (i % w) ((le-div_iff_mul-le pos).1 l) (mod-lt i pos))

pub record Clean (rooms : Rooms) (m : Mem) : Type 0 where
  pub objects_rest : ZeroRest 4 m.objects
  pub slots_rest : ZeroRest 6 m.slots
  pub values_rest : ZeroRest 3 m.values
  -- a plain sheet has no addresses
  pub no_addresses : m.addresses ≡ empty rooms.addresses

-- THE THEOREM
pub clean : (c : Call) (rooms : Rooms) (m : Mem) → Accepted c rooms m → Clean rooms m
clean c rooms m a =
    let h = tables_have c rooms m a (λ S ot st vt es. (Rest 4 ot) × (Rest 6 st) × (Rest 3 vt)) (rules (input_of c)) (at_start 4 rooms.objects, at_start 6 rooms.slots, at_start 3 rooms.values) in
    record {
      objects_rest = by_index 4 m.objects (omega arith) h.0;
      slots_rest = by_index 6 m.slots (omega arith) h.1;
      values_rest = by_index 3 m.values (omega arith) h.2;
      no_addresses = (graph_has c rooms m a _ Any (steady (input_of c) 0 (empty rooms.addresses)) (omega arith, refl) (λ m h. h)).1;
    }
