-- Two readings compared: the second has another payload, longer tables or another log, or other
-- numbers in its slots and addresses above their counts. The rules (`Pair`) say how far the
-- payloads are the same, what the second reading's tables are, which refusals are compared, and how
-- the bounds of the loops go together; from them every reader gives the same in both, reader by
-- reader (SimulateSteps, SimulateLegacy, SimulateReaders, SimulateClosing). Quiet, Rooms, Prefix
-- and Unused are four cases of it. Assumes nothing.
use Rattle.std.specs.Prelude.{if◌then◌else◌, ◌≡◌, refl, Bool, List, ℕ, suc, ◌+◌, ◌-◌, ◌*◌, ◌<◌, ◌≤◌, get_or, Option, Some, None}
use Rattle.std.proofs.Common.{ap, ◌∙◌, arith}
use Rattle.std.proofs.Math.Bool.{true, false}
use borrow.Author.Tests.{ltb-true, lt-ltb}
use Rattle.std.proofs.Math.Dec.{ltb}
use Rattle.std.proofs.Math.ListN.{length}
use Rattle.stream.specs.declared.putint.Int.{Int}
use Rattle.stream.specs.PutInt.{int_at}
use Rattle.stream.specs.Bytes.{peek_at}
use Rattle.sheet.specs.Sheet.{is_legacy}
use Rattle.tables.specs.Records.{field}
use Rattle.definition.specs.Memory.{Input, Event, synchronize, Log, note, Table, table, Mem, Out, got, no, Reader, and_then, ◌>>=◌, ◌>>◌, give, change, refuse, refuse_at, moved, noted, tell, cut, byte, after_int, int, next_byte}
use Rattle.definition.specs.Slots.{previous}
use Rattle.definition.specs.Object.{peek}
use Rattle.definition.specs.Closing.{ends_legacy}
use Rattle.definition.specs.Call.{Rooms}
use Rattle.assurance.specs.Wider.{wide, wide_get}
use Rattle.assurance.specs.TableMap.{TableMap, mapped, SameLength, widened, widened_none}

-- the second reading's input
abbrev pub over : Input → List ℕ → Input
over x p' = record { sheet = x.sheet; payload = p'; spaces = x.spaces; trusted = x.trusted }

abbrev pub wider : ℕ → Table → Table
wider k t = table (wide k t.rows) t.count

-- what the second reading's tables are: so many zeros after the objects and the values, which are
-- read and written whatever their counts are
pub record TableMaps : Type 0 where
  pub objects : ℕ
  pub slots : TableMap 6
  pub values : ℕ
  pub addresses : TableMap 5

-- they are no longer than the first one's
pub record SameLengths (maps : TableMaps) : Type 0 where
  pub objects : SameLength (widened {fields = 4} maps.objects)
  pub slots : SameLength maps.slots
  pub values : SameLength (widened {fields = 3} maps.values)
  pub addresses : SameLength maps.addresses

-- so many zeros after each
abbrev pub longer : Rooms → TableMaps
longer extra =
    record { objects = extra.objects; slots = widened extra.slots; values = extra.values; addresses = widened extra.addresses }

-- what the second reading has where the first has m
abbrev pub other : TableMaps → (Log → Log) → Mem → Mem
other maps h m =
    record
    { at = m.at; objects = wider maps.objects m.objects; slots = mapped maps.slots m.slots; values = wider maps.values m.values; addresses = mapped maps.addresses m.addresses; hot = m.hot; pending = m.pending; waiting = m.waiting; skip = m.skip; alignment = m.alignment; alloc = m.alloc; long_integers = m.long_integers; log = h m.log }

abbrev pub same_rooms : Rooms
same_rooms = record { objects = 0; slots = 0; values = 0; addresses = 0 }

pub same_lengths : SameLengths (longer same_rooms)
same_lengths = record { objects = widened_none; slots = widened_none; values = widened_none; addresses = widened_none }

pub previous_wide : (k : ℕ) (t : Table) → previous (wider k t) ≡ previous t
previous_wide k t = rw (wide_get k t.rows ((t.count - 1) * 6 + 2), wide_get k t.rows ((t.count - 1) * 6 + 3), wide_get k t.rows ((t.count - 1) * 6 + 4))

-- two readings. x and lo: the first one's input and the length of its object table. p', maps and h:
-- the second one's payload, and its tables and log where the first has some. Shared: the cursors up
-- to which both payloads are the same. Compared: the refusals that both readings give. Fuel s a n
-- n': at cursor a, with n turns of a loop left in the first reading and n' in the second, and s to
-- spare, the loop is not cut short in either. In, Logged and Filed: what holds of the first
-- reading's cursor, log and slots throughout. Stop: what holds of it behind the kSynchronize that
-- ends the closing section
pub record Pair : Type 1 where
  pub x : Input
  pub lo : ℕ
  pub p' : List ℕ
  pub maps : TableMaps
  pub h : Log → Log
  pub Shared : ℕ → Type 0
  pub Compared : ℕ → Type 0
  pub Fuel : ℕ → ℕ → ℕ → ℕ → Type 0
  pub In : ℕ → Type 0
  pub Logged : Log → Type 0
  pub Filed : Table → Type 0
  pub Stop : Mem → Type 0
  pub on_note : (e : Event) (l : Log) → note e (h l) ≡ h (note e l)
  pub shared_down : (a b : ℕ) → a ≤ b → Shared b → Shared a
  pub compared_shared : (n : ℕ) → Compared n → (a : ℕ) → Shared a
  pub compared_same : (n : ℕ) → Compared n → p' ≡ x.payload
  pub compared_full : Compared 3 → SameLengths maps
  pub legacy_compared : (n : ℕ) → ends_legacy x n ≡ true → Compared n
  pub on_byte : (a : ℕ) → Shared a → a < length x.payload → (a < length p') × (get_or p' a 0 ≡ get_or x.payload a 0)
  pub on_peek : (a : ℕ) → Shared a → peek_at p' a ≡ peek_at x.payload a
  pub on_int : (a : ℕ) (i : Int) → Shared (a + i.count) → int_at x.payload a ≡ Some i → int_at p' a ≡ Some i
  pub on_raw : (a : ℕ) → Shared a → a ≤ length x.payload → a ≤ length p'
  pub fuel_start : (a : ℕ) → Fuel 0 a (length x.payload - a) (length p' - a)
  pub fuel_spare : (a : ℕ) → Fuel 1 a (length x.payload - a + 1) (length p' - a + 1)
  pub fuel_step : (s a b n n' : ℕ) → a < b → Fuel s a (suc n) n' → Fuel s b n (n' - 1)
  pub fuel_more : (s a n n' : ℕ) → Shared a → Fuel s a (suc n) n' → n' ≡ suc (n' - 1)
  pub fuel_zero : (s a n' : ℕ) → Shared (a - s) → Fuel s a 0 n' → (n' ≡ 0) × (Shared a)
  pub in_payload : (a : ℕ) → a ≤ length x.payload → In a
  pub in_int : (a : ℕ) (i : Int) → int_at x.payload a ≡ Some i → In (a + i.count)
  pub in_legacy : is_legacy x.sheet ≡ true → (a : ℕ) → In a
  pub on_logged : (e : Event) (l : Log) → Logged l → Logged (note e l)
  pub on_filed : (t : Table) → 0 < t.count → Filed t
  pub previous_same : (t : Table) → Filed t → previous (mapped maps.slots t) ≡ previous t
  pub stop_here : (m : Mem) → Logged m.log → m.at < length x.payload → Stop (moved (m.at + 1) (noted (synchronize m.at) m))
  pub stop_legacy : is_legacy x.sheet ≡ true → (m : Mem) → Stop m
  pub stop_fuel : (m : Mem) (n' : ℕ) → In m.at → Fuel 1 m.at 0 n' → Stop m

abbrev pub x' : Pair → Input
x' S = over S.x S.p'

abbrev pub φ : Pair → Mem → Mem
φ S = other S.maps S.h

-- an object number whose record is within the first reading's table
abbrev pub Recorded : Pair → ℕ → Type 0
Recorded S o = o * 4 + 4 ≤ S.lo

-- what the first reading has is in order, and every address is one of such an object
pub record Fit (S : Pair) (at : ℕ) (objects slots addresses : Table) (log : Log) : Type 0 where
  pub inside : S.In at
  pub logged : S.Logged log
  pub filed : S.Filed slots
  pub objects_length : length objects.rows ≡ S.lo
  pub slots_within : slots.count * 6 ≤ length slots.rows
  pub recorded : (k : ℕ) → k < addresses.count → Recorded S (field 5 addresses.rows k 3)

abbrev pub Fits : Pair → Mem → Type 0
Fits S m = Fit S m.at m.objects m.slots m.addresses m.log

module _ {S : Pair} {a : ℕ} {objects slots addresses : Table} {log : Log} where
  -- the cursor may move within its bounds, and an event may be noted
  pub fit_moved : {b : ℕ} → S.In b → Fit S a objects slots addresses log → Fit S b objects slots addresses log
  fit_moved i f = record { inside = i; logged = f.logged; filed = f.filed; objects_length = f.objects_length; slots_within = f.slots_within; recorded = f.recorded }

  pub fit_noted : (e : Event) → Fit S a objects slots addresses log → Fit S a objects slots addresses (note e log)
  fit_noted e f = record { inside = f.inside; logged = S.on_logged e log f.logged; filed = f.filed; objects_length = f.objects_length; slots_within = f.slots_within; recorded = f.recorded }

-- the first reading went from m to m₂ and gave a, of which P holds, and moved d bytes at least; the
-- second gives the same, if the cursor is then shared
pub record Went (S : Pair) {A : Type 0} (d : ℕ) (P : A → Type 0) (m : Mem) (a : A) (m₂ : Mem) (o : Out A) : Type 0 where
  pub fit : Fits S m₂
  pub value : P a
  pub up : d + m.at ≤ m₂.at
  pub same : S.Shared m₂.at → o ≡ got a (φ S m₂)

abbrev pub Seen : (S : Pair) {A : Type 0} → ℕ → (A → Type 0) → Mem → Out A → Out A → Type 0
Seen S d P m (got a m₂) o = Went S d P m a m₂ o
Seen S d P m (no n q m₂) o = (Fits S m₂) × (S.Compared n → o ≡ no n q (φ S m₂))

-- the first reading's outcome from m and the second's
pub record Follows (S : Pair) {A : Type 0} (d : ℕ) (P : A → Type 0) (m : Mem) (o o' : Out A) : Type 0 where
  pub seen : Seen S d P m o o'

pub record Alike (S : Pair) {A : Type 0} (d : ℕ) (P : A → Type 0) (r r' : Reader A) : Type 0 where
  pub at_law : (m : Mem) → Fits S m → Follows S d P m (r m) (r' (φ S m))

abbrev pub Any : {A : Type 0} → A → Type 0
Any a = Unit {0}

module _ (S : Pair) where
  module _ {A : Type 0} {d : ℕ} {P : A → Type 0} {m : Mem} where
    pub gives : {a : A} {m₂ : Mem} {o : Out A} → Fits S m₂ → P a → d + m.at ≤ m₂.at → (S.Shared m₂.at → o ≡ got a (φ S m₂)) → Follows S d P m (got a m₂) o
    gives f p u e = record { seen = record { fit = f; value = p; up = u; same = e } }

    pub stops : {n q : ℕ} {m₂ : Mem} {o : Out A} → Fits S m₂ → (S.Compared n → o ≡ no n q (φ S m₂)) → Follows S d P m (no n q m₂) o
    stops f e = record { seen = (f, e) }

    -- the second reading's outcome may be replaced by an equal one, from a shared cursor on
    pub join : {m₁ : Mem} (o : Out A) {o₁ : Out A} (o₂ : Out A) → d + m.at ≤ m₁.at → (S.Shared m₁.at → o₂ ≡ o₁) → Follows S 0 P m₁ o o₁ → Follows S d P m o o₂
    join {m₁} (got b m₂) o₂ l e w =
        let u : 0 + m₁.at ≤ m₂.at = w.seen.up in
        gives w.seen.fit w.seen.value (omega arith) (λ v. e (S.shared_down _ _ (omega arith) v) ∙ w.seen.same v)
    join {m₁} (no n q m₂) o₂ l e w = stops w.seen.0 (λ v. e (S.compared_shared n v m₁.at) ∙ w.seen.1 v)

    pub via : {o o₁ o₂ : Out A} → (S.Shared m.at → o₂ ≡ o₁) → Follows S d P m o o₁ → Follows S d P m o o₂
    via {o} {o₁} {o₂} e w = go o w
      where
        go : (o : Out A) → Follows S d P m o o₁ → Follows S d P m o o₂
        go (got b m₂) w =
            let u : d + m.at ≤ m₂.at = w.seen.up in
            gives w.seen.fit w.seen.value u (λ v. e (S.shared_down _ _ (omega arith) v) ∙ w.seen.same v)
        go (no n q m₂) w = stops w.seen.0 (λ v. e (S.compared_shared n v m.at) ∙ w.seen.1 v)

    -- less may be said
    pub lower_at : {o o' : Out A} → Follows S d P m o o' → Follows S 0 Any m o o'
    lower_at {o} {o'} w = go o w
      where
        go : (o : Out A) → Follows S d P m o o' → Follows S 0 Any m o o'
        go (got a m₂) w =
            let u : d + m.at ≤ m₂.at = w.seen.up in
            record { seen = record { fit = w.seen.fit; value = tt; up = omega arith; same = w.seen.same } }
        go (no n q m₂) w = record { seen = w.seen }

    pub choose_at : (t : Bool) (f g f' g' : Reader A) → (t ≡ true → Follows S d P m (f m) (f' (φ S m))) → (t ≡ false → Follows S d P m (g m) (g' (φ S m))) → Follows S d P m ((if t then f else g) m) ((if t then f' else g') (φ S m))
    choose_at true f g f' g' y n = y refl
    choose_at false f g f' g' y n = n refl

  pub then_at : {A B : Type 0} {d : ℕ} {P : A → Type 0} {Q : B → Type 0} {m : Mem} {o o' : Out A} (f f' : A → Reader B) → Follows S d P m o o' → ((a : A) (m₁ : Mem) → Fits S m₁ → P a → d + m.at ≤ m₁.at → Follows S 0 Q m₁ (f a m₁) (f' a (φ S m₁))) → Follows S d Q m (and_then o f) (and_then o' f')
  then_at {A = A} {d = d} {P} {Q} {m} {o} {o'} f f' w g = go o w
    where
      go : (o : Out A) → Follows S d P m o o' → Follows S d Q m (and_then o f) (and_then o' f')
      go (got a m₁) w =
          join (f a m₁) (and_then o' f') w.seen.up (λ v. ap (λ o. and_then o f') (w.seen.same v)) (g a m₁ w.seen.fit w.seen.value w.seen.up)
      go (no n q m₁) w = stops w.seen.0 (λ v. ap (λ o. and_then o f') (w.seen.1 v))

  pub then_law : {A B : Type 0} {d : ℕ} {P : A → Type 0} {Q : B → Type 0} {r r' : Reader A} {f f' : A → Reader B} → Alike S d P r r' → ((a : A) → P a → Alike S 0 Q (f a) (f' a)) → Alike S d Q (r >>= f) (r' >>= f')
  then_law {f = f} {f'} w g = record { at_law = (λ m fit. then_at f f' (w.at_law m fit) (λ a m₁ fit₁ p l. (g a p).at_law m₁ fit₁)) }

  pub lower : {A : Type 0} {d : ℕ} {P : A → Type 0} {r r' : Reader A} → Alike S d P r r' → Alike S 0 Any r r'
  lower w = record { at_law = (λ m fit. lower_at (w.at_law m fit)) }

  pub seq_law : {A B : Type 0} {d : ℕ} {P : A → Type 0} {Q : B → Type 0} {r r' : Reader A} {s s' : Reader B} → Alike S d P r r' → Alike S 0 Q s s' → Alike S d Q (r >> s) (r' >> s')
  seq_law w g = then_law w (λ a p. g)

  pub choose_law : {A : Type 0} {d : ℕ} {P : A → Type 0} (t : Bool) {f g f' g' : Reader A} → Alike S d P f f' → Alike S d P g g' → Alike S d P (if t then f else g) (if t then f' else g')
  choose_law true y n = y
  choose_law false y n = n

  pub give_law : {A : Type 0} {P : A → Type 0} (a : A) → P a → Alike S 0 P (give a) (give a)
  give_law a p = record { at_law = (λ m fit. gives fit p (omega arith) (λ v. refl)) }

  pub refuse_law : {A : Type 0} {d : ℕ} {P : A → Type 0} (n : ℕ) → Alike S d P (refuse n) (refuse n)
  refuse_law n = record { at_law = (λ m fit. stops fit (λ v. refl)) }

  pub refuse_at_law : {A : Type 0} {d : ℕ} {P : A → Type 0} (n q : ℕ) → Alike S d P (refuse_at n q) (refuse_at n q)
  refuse_at_law n q = record { at_law = (λ m fit. stops fit (λ v. refl)) }

  pub change_law : (f f' : Mem → Mem) → ((m : Mem) → Fits S m → Fits S (f m)) → ((m : Mem) → m.at ≤ (f m).at) → ((m : Mem) → Fits S m → f' (φ S m) ≡ φ S (f m)) → Alike S 0 Any (change f) (change f')
  change_law f f' k u e =
      record { at_law = (λ m fit. gives (k m fit) tt (omega (arith, u m)) (λ v. ap (got tt) (e m fit))) }

  pub noted_other : (e : Event) (m : Mem) → noted e (φ S m) ≡ φ S (noted e m)
  noted_other e m = rw (S.on_note e m.log)

  pub tell_law : (e : Event) → Alike S 0 Any (tell e) (tell e)
  tell_law e = change_law (noted e) (noted e) (λ m fit. fit_noted e fit) (λ m. omega arith) (λ m fit. noted_other e m)

  -- ---- the payload

  pub byte_law : Alike S 1 Any (byte S.x) (byte (x' S))
  unfolding byte
  byte_law = record { at_law = (λ m fit. go m fit (ltb m.at (length S.x.payload)) refl) }
    where
      go : (m : Mem) → Fits S m → (t : Bool) → ltb m.at (length S.x.payload) ≡ t → Follows S 1 Any m ((if t then next_byte S.x else cut S.x) m) (byte (x' S) (φ S m))
      go m fit true e =
          let l : m.at < length S.x.payload = ltb-true _ _ e in
          gives (fit_moved (S.in_payload (m.at + 1) (omega arith)) fit) tt (omega arith)
          (λ v. let z = S.on_byte m.at (S.shared_down _ _ (omega arith) v) l in rw (lt-ltb m.at (length S.p') z.0, z.1))
      go m fit false e = stops (fit_moved (S.in_payload _ (omega arith)) fit) (λ v. rw (S.compared_same 4 v, e))

  pub int_law : Alike S 0 Any (int S.x) (int (x' S))
  unfolding int
  int_law = record { at_law = (λ m fit. go m fit (int_at S.x.payload m.at) refl) }
    where
      go : (m : Mem) → Fits S m → (i : Option Int) → int_at S.x.payload m.at ≡ i → Follows S 0 Any m (after_int S.x i m) (int (x' S) (φ S m))
      go m fit (Some i) e = gives (fit_moved (S.in_int m.at i e) fit) tt (omega arith) (λ v. rw (S.on_int m.at i v e))
      go m fit None e = stops (fit_moved (S.in_payload _ (omega arith)) fit) (λ v. rw (S.compared_same 4 v, e))

  pub peek_same : (m : Mem) → S.Shared m.at → peek (x' S) (φ S m) ≡ peek S.x m
  peek_same m v = S.on_peek m.at v
