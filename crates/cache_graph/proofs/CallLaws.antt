-- A call at each way out of the code. Assumes nothing.
use Rattle.std.specs.Prelude.{◌≡◌, refl, Bool, true, false, ◌||◌, List, ℕ, ◌*◌, ◌<◌, ◌≤◌, ltb, length, get_or, Option, Some, None, is_some, Result, Ok, Err}
use Rattle.std.proofs.Common.{arith, sym, ap, subst, ◌∙◌, ltb-false}
use Rattle.std.proofs.lemmas.List.{length-replicate}
use Rattle.std.specs.Option.{ok_or}
use Rattle.stream.proofs.ByteLaws.{Bytes}
use Rattle.refusals.specs.Numbers.{number_of}
use Rattle.sheet.specs.Sheet.{usable, plain}
use Rattle.heads.specs.declared.heads.Head.{Head}
use Rattle.heads.specs.Heads.{Heads, Decoded}
use Rattle.alloc.specs.declared.legacy_alloc.LegacyAlloc.{LegacyAlloc}
use Rattle.alloc.specs.Allocation.{spaces_of, zero_counters}
use Rattle.address_index.proofs.LinkLaws.{linked_start}
use Rattle.backref.specs.declared.hot_ring.HotRing.{HotRing}
use Rattle.backref.specs.HotRing.{empty_ring}
use Rattle.definition.specs.Memory.{Input, off, Table, table, Mem, Out, got, no}
use Rattle.definition.specs.Call.{Rooms, Call, input_of, start, walk, too_long, called, graph, table_of, Answer, answer_of}
use Rattle.laws.specs.Sound.{Proper, Sound, Counted}
use Rattle.laws.specs.Numbered.{Numbered}
use Rattle.laws.specs.ClosingKeeps.{begun, start_sound, start-counted}
use Rattle.laws.proofs.Theorems.{walk_keeps}
use Rattle.laws.specs.Waiting.{waits_start}
use Rattle.laws.specs.Addresses.{Ascending, start_ascending}
use Rattle.assurance.specs.Quiet.{answer_quiet, table_quiet}
use Rattle.assurance.specs.Refusals.{Known, refusal_known}
use Rattle.assurance.specs.Unused.{zeros_from, cleaned, clean, called_begun}
use Rattle.assurance.proofs.Guarantee.{guaranteed}
use Rattle.readers.specs.declared.state.State.{State}
use Rattle.readers.specs.declared.state.Refused.{Refused as WalkRefused}
use Rattle.readers.specs.declared.walker.Walker.{Walker}
use Rattle.readers.specs.Views.{Lent, input, mem}
use Rattle.readers.specs.Lent.{input_of as input_in, lent_of}
use Rattle.objects.proofs.WaiterLaws.{indexed_start}
use Rattle.walker.specs.Ready.{Ready}
use Rattle.cache_graph.specs.declared.parse.Tables.{Tables}
use Rattle.cache_graph.specs.declared.parse.Graph.{Graph}
use Rattle.cache_graph.specs.declared.parse.Refused.{Refused}
use Rattle.cache_graph.specs.Promise.{rooms_in, answer, graph_of, RefusalNumber, Reads, Assures, Cleared, Prepared, Started, begun_in, Ended}
use Rattle.cache_graph.specs.SecondCall.{SecondCalls}
use Rattle.cache_graph.proofs.SecondLaws.{accepted_graph, second_calls}

-- ---- the start

abbrev pub first : State
first = record { at = 0; objects = 0; slots = 0; values = 0; addresses = 0; pending = 0; waiting = 0; skip = 0; alignment = 0; long_integers = 0 }

pub same_input : (c : Call) {k : ℕ} → k ≡ spaces_of c.reservations → input c.sheet c.payload k c.trusted ≡ input_of c
same_input c e = rw e

module _ {c : Call} {h : List Head} {t : Tables} (s : Started c h t) where
  abbrev lent : HotRing → LegacyAlloc → Lent
  lent hot a =
      record { objects = t.objects.now; slots = t.slots.now; values = t.values.now; addresses = t.addresses.now; hot = hot; alloc = a }

  pub started : {hot : HotRing} {a : LegacyAlloc} → hot ≡ empty_ring → a ≡ zero_counters → mem first (lent hot a) ≡ begun_in t
  started eh e = let z = s.prepared in rw (eh, e, ← z.objects_zero, ← z.values_zero)

  -- whatever scratch holds, it indexes no slot, and where its counts are zero no address record
  pub started_ready : {w : Walker} → input_in w ≡ input_of c → w.heads.now ≡ h → mem first (lent_of w) ≡ begun_in t → ((k : ℕ) → k < 8 → get_or w.index.now k 0 ≡ 0) → Ready w first
  started_ready {w} e d m z =
      let proper : Proper (input_in w) = subst Proper (sym e) s.proper in
      record {
        proper = proper;
        decoded = rw (ap (λ (x : Input). x.sheet) e, d) s.decoded;
        sound = subst (Sound (input_in w)) (sym m) (start_sound (input_in w) (rooms_in t) t.slots.now t.addresses.now off);
        counted = subst Counted (sym m) (start-counted (rooms_in t) t.slots.now t.addresses.now off);
        numbered = subst Numbered (sym m) (waits_start _);
        ascending = subst (λ (m : Mem). Ascending (input_in w) m.addresses m.alloc) (sym m) (start_ascending proper t.addresses.now);
        indexed = indexed_start _ _;
        linked = linked_start _ _ z;
      }

  -- ---- what the walk leaves: its input and its start are the call's

  module _ {x : Input} {m : Mem} (ex : x ≡ input_of c) (em : m ≡ begun_in t) where
    same_walk : {o : Out (Unit {0})} → o ≡ walk x m → walk (input_of c) (begun_in t) ≡ o
    same_walk e = sym (e ∙ ap (λ (x : Input). walk x m) ex ∙ ap (walk (input_of c)) em)

    pub walk_refused : (r : WalkRefused) (l : Lent) → no (number_of r.refusal) r.place (mem r.state l) ≡ walk x m → (m : Mem) × (walk (input_of c) (begun_in t) ≡ no (number_of r.refusal) r.place m)
    walk_refused r l e = (mem r.state l, same_walk e)

    walk_sound : {m' : Mem} → walk (input_of c) (begun_in t) ≡ got tt m' → Sound (input_of c) m'
    walk_sound e =
        let k = walk_keeps s.proper (begun_in t) (start_sound (input_of c) (rooms_in t) t.slots.now t.addresses.now off) (start-counted (rooms_in t) t.slots.now t.addresses.now off) in
        (rw e at k).0.sound

    pub walk_ended : (s : State) (l : Lent) → got tt (mem s l) ≡ walk x m → {ot st vt dt : List ℕ} → ot ≡ l.objects → st ≡ l.slots → vt ≡ l.values → dt ≡ l.addresses → Ended (walk (input_of c) (begun_in t)) (graph_of s) ot st vt dt
    walk_ended s l e h i j k =
        let o = walk_sound (same_walk e) in
        record { held = mem s l; ended = same_walk e; graph_is = refl; fitting = record { slots_fit = rw i o.slots_fit; addresses_fit = rw k o.addresses_fit }; objects_are = h; slots_are = i; values_are = j; addresses_are = k }

-- ---- tables that are prepared

-- they are as long as before
prepared_rooms : {rooms : Rooms} {t : Tables} → Prepared rooms t → rooms_in t ≡ rooms
prepared_rooms {rooms} z =
    rw (z.objects_zero, z.slots_length, z.values_zero, z.addresses_length, length-replicate {A = ℕ} rooms.objects 0, length-replicate {A = ℕ} rooms.values 0)

-- ---- the call

module _ (c : Call) where
  pub called_unusable : (m : Mem) → usable c.sheet ≡ false → called c m ≡ no 1 0 m
  unfolding called
  called_unusable m e = rw e

  pub called_long : (m : Mem) → usable c.sheet ≡ true → too_long c ≡ true → called c m ≡ no 2 0 m
  unfolding called
  called_long m e f = rw (e, f)

  pub called_walks : (m : Mem) → usable c.sheet ≡ true → too_long c ≡ false → called c m ≡ walk (input_of c) m
  unfolding called
  called_walks m e f = rw (e, f)

module _ (c : Call) (rooms : Rooms) where
  -- what the definition gives, without its events, is promised
  module _ (o : Out (Unit {0})) (e : called c (start rooms off) ≡ o) {r : Answer} {ot st vt dt : List ℕ} where
    reads : r ≡ answer_of o → ot ≡ table_of (λ m. m.objects) rooms.objects o → st ≡ table_of (λ m. m.slots) rooms.slots o → vt ≡ table_of (λ m. m.values) rooms.values o → dt ≡ table_of (λ m. m.addresses) rooms.addresses o → Reads c rooms r ot st vt dt
    reads a h i j k =
        let b = sym e in
        record {
          outcome = a ∙ ap answer_of b ∙ answer_quiet c rooms;
          objects_are = h ∙ ap (table_of (λ m. m.objects) rooms.objects) b ∙ table_quiet c rooms (λ m. m.objects) rooms.objects (λ m. refl);
          slots_are = i ∙ ap (table_of (λ m. m.slots) rooms.slots) b ∙ table_quiet c rooms (λ m. m.slots) rooms.slots (λ m. refl);
          values_are = j ∙ ap (table_of (λ m. m.values) rooms.values) b ∙ table_quiet c rooms (λ m. m.values) rooms.values (λ m. refl);
          addresses_are = k ∙ ap (table_of (λ m. m.addresses) rooms.addresses) b ∙ table_quiet c rooms (λ m. m.addresses) rooms.addresses (λ m. refl);
        }

  -- from prepared tables it gives the same, but for what is above the counts
  module _ {t : Tables} (p : Prepared rooms t) where
    from_zeros : called c (start rooms off) ≡ clean (called c (begun_in t))
    from_zeros =
        called_begun c rooms t.slots.now t.addresses.now off p.slots_length p.addresses_length p.first_slot
        ∙ ap (λ (r : Rooms). clean (called c (begun r t.slots.now t.addresses.now off))) (sym (prepared_rooms p))

    -- accepted, with the rest cleared
    pub reads_accepted : {g : Graph} {ot st vt dt : List ℕ} → Ended (called c (begun_in t)) g ot st vt dt → {ot' st' vt' dt' : List ℕ} → ot' ≡ ot → st' ≡ zeros_from (g.slots * 6) st → vt' ≡ vt → dt' ≡ zeros_from (g.addresses * 5) dt → Reads c rooms (answer (Ok g)) ot' st' vt' dt'
    reads_accepted {g} w h i j k =
        let slots : g.slots ≡ w.held.slots.count = ap (λ (a : Answer). a.slots) w.graph_is in
        let addresses : g.addresses ≡ w.held.addresses.count = ap (λ (a : Answer). a.addresses) w.graph_is in
        reads (got tt (cleaned w.held)) (from_zeros ∙ ap clean w.ended) w.graph_is
        (h ∙ w.objects_are)
        (i ∙ rw (slots, w.slots_are))
        (j ∙ w.values_are)
        (k ∙ rw (addresses, w.addresses_are))

    -- refused, with all cleared
    pub reads_refused : (f : Refused) → (m : Mem) × (called c (begun_in t) ≡ no (number_of f.refusal) f.place m) → {after : Rooms} → after ≡ rooms_in t → {ot st vt dt : List ℕ} → Cleared after ot st vt dt → Reads c rooms (answer (Err f)) ot st vt dt
    reads_refused f w s {ot} {st} {vt} {dt} y =
        let z : Cleared rooms ot st vt dt = subst (λ (r : Rooms). Cleared r ot st vt dt) (s ∙ prepared_rooms p) y in
        reads (no (number_of f.refusal) f.place (cleaned w.0)) (from_zeros ∙ ap clean w.1) refl z.objects_zero z.slots_zero z.values_zero z.addresses_zero

    -- a refusal has a number
    pub numbered : (f : Refused) → (m : Mem) × (called c (begun_in t) ≡ no (number_of f.refusal) f.place m) → RefusalNumber (number_of f.refusal)
    numbered f w = subst Known (from_zeros ∙ ap clean w.1) (refusal_known c (start rooms off))

    -- and leaves every number zero
    pub cleared : {after : Rooms} → after ≡ rooms_in t → {ot st vt dt : List ℕ} → Cleared after ot st vt dt → Cleared rooms ot st vt dt
    cleared s {ot} {st} {vt} {dt} y = subst (λ (r : Rooms). Cleared r ot st vt dt) (s ∙ prepared_rooms p) y

  -- what is guaranteed, of it and of a second call
  pub assures : {r : Answer} {ot st vt dt : List ℕ} → Reads c rooms r ot st vt dt → Bytes c.payload → plain c.sheet ≡ true → r.number ≡ 0 → Assures c rooms r ot st vt dt
  assures {r} w b p z =
      let g = accepted_graph c rooms r w.outcome z in
      let e : graph c rooms ≡ got tt g.0 = g.1 in
      let a : r ≡ answer_of (got tt g.0) = w.outcome ∙ ap answer_of e in
      record {
        held = g.0;
        accepted = e;
        guaranteed = guaranteed c rooms g.0 (record { plain_sheet = p; bytes = b; accepted = e });
        objects_held = table_is (w.objects_are ∙ ap (table_of (λ m. m.objects) rooms.objects) e) (ap (λ (a : Answer). a.objects) a);
        slots_held = table_is (w.slots_are ∙ ap (table_of (λ m. m.slots) rooms.slots) e) (ap (λ (a : Answer). a.slots) a);
        values_held = table_is (w.values_are ∙ ap (table_of (λ m. m.values) rooms.values) e) (ap (λ (a : Answer). a.values) a);
        addresses_held = table_is (w.addresses_are ∙ ap (table_of (λ m. m.addresses) rooms.addresses) e) (ap (λ (a : Answer). a.addresses) a);
        end_held = sym (ap (λ (a : Answer). a.end) a);
        long_held = sym (ap (λ (a : Answer). a.long_integers) a);
      }
    where
      table_is : {t : Table} {rows : List ℕ} {count : ℕ} → rows ≡ t.rows → count ≡ t.count → t ≡ table rows count
      table_is h e = λ i. table (sym h i) (sym e i)

  pub seconds : {r : Answer} {ot st vt dt : List ℕ} → Reads c rooms r ot st vt dt → Bytes c.payload → plain c.sheet ≡ true → r.number ≡ 0 → SecondCalls c rooms r ot st vt dt
  seconds {r} {ot} {st} {vt} {dt} w b p z = second_calls c rooms r ot st vt dt (assures w b p z)

-- ---- what the code's steps give

module _ {v : List ℕ} {r : Option (List Head)} (d : Decoded v r) where
  pub decoded_none : r ≡ None → usable v ≡ false
  decoded_none e = sym d.usable ∙ ap is_some e

  module _ {h : List Head} (e : r ≡ Some h) where
    pub decoded_usable : usable v ≡ true
    decoded_usable = sym d.usable ∙ ap is_some e

    pub decoded_heads : Heads v h
    decoded_heads = rw e at d.heads

-- the refusal of a sheet that is not usable
pub not_some : {r : Option (List Head)} {e u : Refused} → Err e ≡ ok_or r u → r ≡ None → e ≡ u
not_some {r} {e} {u} h n = ap (λ (r : Result (List Head) Refused). of r) (h ∙ ap (λ (r : Option (List Head)). ok_or r u) n)
  where
    of : Result (List Head) Refused → Refused
    of (Ok h) = u
    of (Err e) = e

pub not_long : (c : Call) → too_long c ≡ false → length c.payload ≤ 16777216
not_long c e = go (ltb 16777216 (length c.payload)) refl e
  where
    go : (t : Bool) → ltb 16777216 (length c.payload) ≡ t → t || ltb 65536 (length c.reservations) ≡ false → length c.payload ≤ 16777216
    go true p e = absurd (let z : ◌≡◌ {A = ℕ} 0 1 = cc in omega arith)
    go false p e = ltb-false 16777216 (length c.payload) p
