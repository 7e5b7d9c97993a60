-- Two readings compared: whole calls with the same payload. Assumes nothing.
use Rattle.std.specs.Prelude.{if◌then◌else◌, ◌≡◌, Bool, ℕ, ◌+◌, ◌<◌}
use Rattle.std.proofs.Math.Path.{refl}
use Rattle.std.proofs.Common.{sym, ◌∙◌, arith}
use Rattle.std.proofs.Math.Bool.{true, false}
use Rattle.std.proofs.lemmas.List.{length-replicate, replicate-append-replicate}
use Rattle.sheet.specs.Sheet.{usable}
use Rattle.definition.specs.Memory.{Input, Event, Log, note, Table, Mem, refuse_at}
use Rattle.definition.specs.Slots.{previous}
use Rattle.definition.specs.Closing.{ends_legacy}
use Rattle.definition.specs.Call.{Rooms, Call, input_of, empty, start, walk, too_long, called}
use Rattle.assurance.specs.TableMap.{mapped}
use Rattle.assurance.specs.Simulate.{TableMaps, SameLengths, longer, other, Pair, φ, Fits}
use Rattle.assurance.specs.SimulateClosing.{Same, walk-law}

-- what differs where the payloads are the same: the second reading's tables, its log, and which
-- refusals are compared; and what holds of the first one's slots
pub record Variant (x : Input) : Type 1 where
  pub maps : TableMaps
  pub h : Log → Log
  pub Compared : ℕ → Type 0
  pub Filed : Table → Type 0
  pub on_note : (e : Event) (l : Log) → note e (h l) ≡ h (note e l)
  pub on_filed : (t : Table) → 0 < t.count → Filed t
  pub previous_same : (t : Table) → Filed t → previous (mapped maps.slots t) ≡ previous t
  pub compared_full : Compared 3 → SameLengths maps
  pub legacy_compared : (n : ℕ) → ends_legacy x n ≡ true → Compared n

abbrev pub same_payload : (x : Input) → ℕ → Variant x → Pair
same_payload x lo W =
    record {
      x = x;
      lo = lo;
      p' = x.payload;
      maps = W.maps;
      h = W.h;
      Shared = (λ _. Unit {0});
      Compared = W.Compared;
      Fuel = (λ s a n n'. n ≡ n');
      In = (λ _. Unit {0});
      Logged = (λ _. Unit {0});
      Filed = W.Filed;
      Stop = (λ _. Unit {0});
      on_note = W.on_note;
      shared_down = (λ a b l v. tt);
      compared_shared = (λ n v a. tt);
      compared_same = (λ n v. refl);
      compared_full = W.compared_full;
      legacy_compared = W.legacy_compared;
      on_byte = (λ a v l. (l, refl));
      on_peek = (λ a v. refl);
      on_int = (λ a i l e. e);
      on_raw = (λ a v l. l);
      fuel_start = (λ a. refl);
      fuel_spare = (λ a. refl);
      fuel_step = (λ s a b n n' l e. omega arith);
      fuel_more = (λ s a n n' v e. omega arith);
      fuel_zero = (λ s a n' v e. (sym e, tt));
      in_payload = (λ a l. tt);
      in_int = (λ a i e. tt);
      in_legacy = (λ e a. tt);
      on_logged = (λ e l t. tt);
      on_filed = W.on_filed;
      previous_same = W.previous_same;
      stop_here = (λ m t l. tt);
      stop_legacy = (λ e m. tt);
      stop_fuel = (λ m n' i f. tt);
    }

-- empty tables of so much more room
abbrev pub more : Rooms → Rooms → Rooms
more a b =
    record { objects = a.objects + b.objects; slots = a.slots + b.slots; values = a.values + b.values; addresses = a.addresses + b.addresses }

pub start-other : (rooms extra : Rooms) (h : Log → Log) (l : Log) → other (longer extra) h (start rooms l) ≡ start (more rooms extra) (h l)
start-other rooms extra h l =
    simp (replicate-append-replicate)

pub start_fits : (S : Pair) (rooms : Rooms) (l : Log) → S.Logged l → S.Filed (empty rooms.slots) → S.lo ≡ rooms.objects → Fits S (start rooms l)
start_fits S rooms l t f e =
    record { inside = S.in_payload 0 (omega arith); logged = t; filed = f; objects_length = length-replicate rooms.objects 0 ∙ sym e; slots_within = omega arith; recorded = (λ k b. absurd (omega arith)) }

-- two calls with the same payload
module _ (c : Call) (rooms : Rooms) (W : Variant (input_of c)) where
  abbrev pub calls : Pair
  calls = same_payload (input_of c) rooms.objects W

  pub called_law : (m : Mem) → Fits calls m → Same calls (called c m) (called c (φ calls m))
  unfolding called
  called_law m fit = go (usable c.sheet) (too_long c)
    where
      go : (t u : Bool) → Same calls ((if t then (if u then refuse_at 2 0 else walk (input_of c)) else refuse_at 1 0) m) ((if t then (if u then refuse_at 2 0 else walk (input_of c)) else refuse_at 1 0) (φ calls m))
      go true true = λ v. refl
      go true false = walk-law calls (λ a. tt) refl m fit
      go false u = λ v. refl

  -- from empty tables
  pub called_start : W.Filed (empty rooms.slots) → (l : Log) → Same calls (called c (start rooms l)) (called c (φ calls (start rooms l)))
  called_start f l = called_law (start rooms l) (start_fits calls rooms l tt f refl)
