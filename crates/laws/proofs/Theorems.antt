-- THE THEOREMS: every reader keeps what it has in order (Sound.antt). They are the laws of an
-- invariant that says nothing. Assumes nothing.
use Rattle.std.specs.Prelude.{◌≡◌, Bool, true, ℕ, ◌+◌, ◌-◌, ◌*◌, ◌<◌, ◌≤◌, ◌^◌, length}
use mathlib.Core.List.{List, [], ◌∷◌}
use Rattle.std.proofs.Common.{arith}
use Rattle.sheet.specs.Sheet.{is_legacy}
use Rattle.tables.specs.declared.values.SlotValue.{SlotValue}
use Rattle.tables.specs.declared.values.Fields.{Fields}
use Rattle.tables.specs.Values.{width_of}
use Rattle.definition.specs.Memory.{Input, word, Kept as Where, Mem, Out, got, no, Reader, byte, int}
use Rattle.definition.specs.Slots.{add_value, add_slot, place_item}
use Rattle.definition.specs.Object.{add_object, allocate, chunk_changes, read_map, keep_map, resolves, items, body, object}
use Rattle.definition.specs.Reference.{legacy_reference, raw_data, reference, ref_at}
use Rattle.definition.specs.Closing.{entry, drop_reference, entries, padding, closing}
use Rattle.definition.specs.Call.{walk}
use Rattle.laws.specs.Sound.{Proper, Sound, Counted, Holds, Keeps, Referred}
use Rattle.laws.specs.Rules.{Frame, frame, Listed, Aside, Rules, Nothing, NoValue}
use Rattle.laws.specs.Steps.{listed_up, Good, Result, Ends, Keeping, law, append-ends, kept_noted, kept_value, kept_slot}
use Rattle.laws.specs.Keeps.{Any, Reads, Passed, More, Appended, Placed, Filled, Refers, byte_keeps as byte_law, int_keeps as int_law, add_object_ends, chunks_keep as chunks_law, allocate-ends, map_ends, keep_map_ends, resolves_end, place_item-ends, items_end, body-ends, object-keeping}
use Rattle.laws.specs.References.{legacy_reference_keeps as legacy-law, raw_data_keeps as raw-law, reference-keeping, ref_keeping}
use Rattle.laws.specs.ClosingKeeps.{entry-ends, drop_reference_ends, entries_end, padding_keeps as padding-law, closing_ends, walk_ends}

module _ (x : Input) where
  pub rules : Rules x Nothing NoValue
  rules =
      record {
        on_move = λ S m at s i h l. tt;
        on_long = λ S m n i. tt;
        on_amount = λ S m n s i d h. tt;
        on_enter = λ S m r s i v. tt;
        aside = λ m m' v a h. tt;
        on_given = λ S m v i d. tt;
        on_backref = λ S m o i h. tt;
        on_hot = λ S m i r s h e. tt;
        on_single = λ S m space value r s i e. tt;
        on_place = λ S m space place s i. tt;
        on_raw = λ S m n advances s i h. (tt, tt);
        on_pending = λ S m s i h. (tt, tt);
        on_value = λ S m v s i h l. (tt, tt, λ n. tt);
        on_previous = λ S m n s i h l. (tt, tt);
        on_object = λ S m tag words s i l. tt;
        on_flag = λ S m o size done v s i h e. tt;
        on_map = λ S m o size v s i h b l. tt;
        on_resolve = λ S m o size done number s i b. tt;
        on_item = λ S m o size done v s i h d b l r. tt;
        on_skip = λ S m o size done n i h. tt;
        on_bytes = λ S m o size done n i h. tt;
        on_deferred = λ S m o size done b i e h l. tt;
        on_close = λ S m o size i b. (tt, tt);
        on_aligned = λ S m a i. tt;
        on_chunk = λ S m space i. tt;
        on_allocate = λ S m o size done space s i b h r e z. tt;
        on_drop = λ m v i h. tt;
        on_begins = λ m i. tt;
        on_synchronize = λ m i h e. tt;
        on_entry = λ m o index f s e i l. tt;
        on_fault = λ S m e i. tt;
      }

  held : {A : Type 0} (m : Mem) (T : A → List Frame) {P Q : A → Mem → Type 0} → ((a : A) (m' : Mem) → P a m' → Q a m') → (o : Out A) → Result x Nothing m T P o → Holds x m Q o
  held m T f (got a m') h = (h.0.kept, f a m' h.1)
  held m T f (no n q m') h = h.1.kept

  -- of what a law says, what needs no invariant
  holds_as : {A : Type 0} {m : Mem} {T : A → List Frame} {P Q : A → Mem → Type 0} {o : Out A} → Ends x Nothing m T P o → ((a : A) (m' : Mem) → P a m' → Q a m') → Holds x m Q o
  holds_as {m = m} {T} {o = o} e f = held m T f o e.result

  pub holds : {A : Type 0} {m : Mem} {T : A → List Frame} {P : A → Mem → Type 0} {o : Out A} → Ends x Nothing m T P o → Holds x m P o
  holds e = holds_as e (λ a m' p. p)

  referred : {m : Mem} {T : SlotValue → List Frame} {o : Out SlotValue} → Ends x Nothing m T (Refers x NoValue m) o → Holds x m (Referred x m) o
  referred e = holds_as e (λ v m' p. record { reads = p.reads; narrow = p.narrow })

  pub begin : {S : List Frame} {m : Mem} → Sound x m → Counted m → Listed S m.objects.count → Good x Nothing S m m
  begin s c l = record { kept = record { sound = s; counted = c; onward = omega arith }; has = tt; listed = l }

  keeping_by : (S : List Frame) (m : Mem) → Listed S m.objects.count → (o : Out SlotValue) → Holds x m (Referred x m) o → Result x Nothing m (λ _. S) (Refers x NoValue m) o
  keeping_by S m l (got v m') h = (record { kept = h.0; has = tt; listed = listed_up S h.0.onward.objects_up l }, record { reads = h.1.reads; narrow = h.1.narrow; has = tt })
  keeping_by S m l (no n q m') h = (S, record { kept = h; has = tt; listed = listed_up S h.onward.objects_up l })

  pub keeping : (r : Reader SlotValue) → Keeps x (Referred x) r → Keeping x Nothing (Refers x NoValue) r
  keeping r k = law (λ S m w. record { result = keeping_by S m w.listed (r m) (k m w.kept.sound w.kept.counted) })

module _ {x : Input} (g : Proper x) where
  -- ---- readers that keep what they have in order from any start

  pub byte_keeps : Keeps x (Passed 256) (byte x)
  byte_keeps m s c = holds x ((byte_law g (rules x)).ends [] m (begin x s c tt))

  pub int_keeps : Keeps x (Passed (2 ^ 30)) (int x)
  int_keeps m s c = holds x ((int_law g (rules x)).ends [] m (begin x s c tt))

  pub value_keeps : (f : Fields) → Keeps x (Appended (λ m. m.values)) (add_value f)
  unfolding add_value
  value_keeps f m s c =
      let w : Good x Nothing [] m m = begin x s c tt in
      holds x (append-ends {T = λ _. []} w 3 (λ m. m.values) _ (λ l. (record { kept = kept_noted (kept_value w.kept f l) _; has = tt; listed = tt }, omega arith)))

  pub slot_keeps : (o index : ℕ) (f : Fields) (waits : ℕ) (k : ℕ → Where) → waits ≤ 1 → Keeps x (Appended (λ m. m.slots)) (add_slot o index f waits k)
  unfolding add_slot
  slot_keeps o index f waits k b m s c =
      let w : Good x Nothing [] m m = begin x s c tt in
      holds x (append-ends {T = λ _. []} w 6 (λ m. m.slots) _ (λ l. (record { kept = kept_noted (kept_slot w.kept o index f waits b l) _; has = tt; listed = tt }, omega arith)))

  pub add_object_keeps : (tag words : ℕ) → Keeps x (Appended (λ m. m.objects)) (add_object x tag words)
  add_object_keeps tag words m s c = holds x (add_object_ends g (rules x) (begin x {S = []} s c tt) tag words)

  pub chunks_keep : (space : ℕ) → space < 256 → Keeps x (λ m _ m'. Aside m m') (λ m. chunk_changes x space (length x.payload - m.at) m)
  chunks_keep space h m s c = holds x ((chunks_law g (rules x) space h).ends [] m (begin x s c tt))

  pub legacy_reference_keeps : (space : ℕ) → Keeps x (Referred x) (legacy_reference x space)
  legacy_reference_keeps space m s c = referred x ((legacy-law g (rules x) space).ends [] m (begin x s c tt))

  pub raw_data_keeps : (n : ℕ) (advances : Bool) → Keeps x (λ m v m'. width_of (word x) v ≤ 2 ^ 34) (raw_data x n advances)
  raw_data_keeps n advances m s c = holds_as x ((raw-law g (rules x) n advances).ends [] m (begin x s c tt)) (λ v m' p. p.0)

  pub ref_keeps : (k : ℕ) → Keeps x (Referred x) (ref_at x k)
  ref_keeps k m s c = referred x ((ref_keeping g (rules x) k).ends [] m (begin x s c tt))

  module _ (r : Reader SlotValue) (k : Keeps x (Referred x) r) where
    pub reference_keeps : Keeps x (Referred x) (reference x r)
    reference_keeps m s c = referred x ((reference-keeping g (rules x) (keeping x r k)).ends [] m (begin x s c tt))

    pub object_keeps : (space tag : ℕ) → space < 256 → Keeps x (Referred x) (object x r space tag)
    object_keeps space tag h m s c = referred x ((object-keeping g (rules x) (keeping x r k) space tag h).ends [] m (begin x s c tt))

  pub drop_reference_keeps : Keeps x Reads (drop_reference x)
  drop_reference_keeps m s c = holds x (drop_reference_ends g (rules x) (begin x s c tt))

  pub entry_keeps : is_legacy x.sheet ≡ true → (space : ℕ) → Keeps x Reads (entry x space)
  entry_keeps e space m s c = holds x (entry-ends g (rules x) e space (begin x s c tt))

  pub entries_keep : (n : ℕ) → Keeps x Any (entries x n)
  entries_keep n m s c = holds x (entries_end g (rules x) n (begin x s c tt))

  pub padding_keeps : (n : ℕ) → Keeps x Any (padding x n)
  padding_keeps n m s c = holds x ((padding-law g (rules x) n).ends [] m (begin x s c tt))

  pub closing_keeps : Keeps x Any (closing x)
  closing_keeps m s c = holds x (closing_ends g (rules x) (begin x s c tt))

  pub walk_keeps : Keeps x Reads (walk x)
  walk_keeps m s c = holds x (walk_ends g (rules x) (begin x s c tt))

  -- ---- readers of an object o that has a record

  module _ (m : Mem) (s : Sound x m) (c : Counted m) (o : ℕ) (l : o < m.objects.count) where
    at : (size done : ℕ) → Good x Nothing (frame o size done ∷ []) m m
    at size done = begin x s c (l, tt)

    pub allocate_keeps : (space bytes : ℕ) → space < 256 → Holds x m (λ _ m'. Aside m m') (allocate x space bytes o m)
    allocate_keeps space bytes h = holds x (allocate-ends g (rules x) (at bytes 0) space h)

    pub keep_map_keeps : (v : SlotValue) → Holds x m (λ _ m'. More (λ m. m.slots) m m') (keep_map x o v m)
    keep_map_keeps v = holds x (keep_map_ends g (rules x) (at 0 0) v tt)

    pub resolves_keep : (n : ℕ) → Holds x m (Any m) (resolves x o n m)
    resolves_keep n = holds x (resolves_end g (rules x) n (at 0 0))

    pub place_item_keeps : (done : ℕ) (v : SlotValue) → width_of (word x) v ≤ 2 ^ 34 → Holds x m (Placed done m) (place_item x o done v m)
    place_item_keeps done v n = holds x (place_item-ends g (rules x) (at (done + 1) done) v tt n (omega arith))

    module _ (r : Reader SlotValue) (k : Keeps x (Referred x) r) where
      pub map_keeps : (space bytes : ℕ) → space < 256 → Holds x m (Referred x m) (read_map x r space bytes o m)
      map_keeps space bytes h = referred x (map_ends g (rules x) (keeping x r k) (at bytes 0) space h)

      pub items_keep : (size n done : ℕ) → Holds x m (Filled size done m) (items x r o size n done m)
      items_keep size n done = holds x (items_end g (rules x) (keeping x r k) n done (at size done))

      pub body_keeps : (space tag words : ℕ) → space < 256 → Holds x m (Referred x m) (body x r space tag words o m)
      body_keeps space tag words h = referred x (body-ends g (rules x) (keeping x r k) words (at (words * word x) 0) space tag h)
