-- Two payloads that agree below a place, and the two readings of them up to it: a walk that is
-- accepted came to the kSynchronize that ends its closing section, and so does the other, if that
-- stands below the place. For every sheet that is not legacy. Assumes nothing.
use Rattle.std.specs.Prelude.{if◌then◌else◌, ◌≡◌, refl, Bool, true, false, List, [], ◌∷◌, ℕ, zero, suc, ◌+◌, ◌-◌, ◌/◌, ◌%◌, ◌<◌, ◌≤◌, ltb, leb, get_or, Option, Some, None}
use Rattle.std.proofs.Math.Path.{sym, ap}
use Rattle.std.proofs.Common.{◌∙◌, append-nil}
use native.Mathlib.Omega.{arith}
use borrow.Author.Tests.{ltb-false, leb-false}
use Rattle.std.proofs.Math.ListN.{length}
use Rattle.stream.specs.declared.putint.Int.{Int}
use Rattle.stream.specs.Bytes.{peek_at, little_endian}
use Rattle.stream.specs.PutInt.{int_length, int_at}
use Rattle.stream.proofs.ByteLaws.{peek-byte}
use Rattle.stream.proofs.IntegerLaws.{int_is}
use Rattle.sheet.specs.Sheet.{is_legacy}
use Rattle.definition.specs.Memory.{Input, Event, synchronize, told, note, Mem, Out, got, no, and_then}
use Rattle.definition.specs.Closing.{ends_legacy, padding}
use Rattle.definition.specs.Call.{Rooms, start, walk}
use Rattle.assurance.specs.Simulate.{over, longer, same_rooms, previous_wide, Pair, φ}
use Rattle.assurance.specs.SimulateClosing.{Ends, ended, walk-ended, ended_law}
use Rattle.assurance.specs.SimulateCall.{start_fits}

-- ---- bytes and integers

module _ (p : List ℕ) (a : ℕ) (i : Int) where
  picked : (b : Bool) (o : Option Int) → (if b then None else o) ≡ Some i → (b ≡ false) × (o ≡ Some i)
  picked true o e = absurd (let z : ◌≡◌ {A = ℕ} 0 1 = cc in omega arith)
  picked false o e = (refl, e)

  int_known : int_at p a ≡ Some i → (a < length p) × (i.count ≤ length p - a) × (int_length p a ≡ i.count) × (little_endian p a i.count / 4 ≡ i.value)
  unfolding int_at
  int_known e =
      let s = picked (leb (length p) a) _ e in
      let t = picked (ltb (length p - a) (int_length p a)) _ s.1 in
      let c : int_length p a ≡ i.count = cc t.1 in
      let w : little_endian p a (int_length p a) / 4 ≡ i.value = cc t.1 in
      let l : int_length p a ≤ length p - a = ltb-false _ _ t.0 in
      (leb-false _ _ s.0, omega arith, c, rw c at w)

le_same : (p p' : List ℕ) (a n : ℕ) → ((i : ℕ) → i < a + n → get_or p' i 0 ≡ get_or p i 0) → little_endian p' a n ≡ little_endian p a n
unfolding little_endian
le_same p p' a zero e = refl
le_same p p' a (suc n) e = rw (e (a + n) (omega arith), le_same p p' a n (λ i l. e i (omega arith)))

-- p' is at least L long and begins as p does below L
pub record BeginsAs (p p' : List ℕ) (L : ℕ) : Type 0 where
  pub long : L ≤ length p
  pub long' : L ≤ length p'
  pub same : (i : ℕ) → i < L → get_or p' i 0 ≡ get_or p i 0

module _ {p p' : List ℕ} {L : ℕ} (ag : BeginsAs p p' L) where
  peek_agree : (a : ℕ) → a < L → peek_at p' a ≡ peek_at p a
  peek_agree a l = sym (peek-byte p' a (omega (arith, ag.long')) (sym (ag.same a l))) ∙ peek-byte p a (omega (arith, ag.long)) refl

  int_agree : (a : ℕ) (i : Int) → a + i.count < L → int_at p a ≡ Some i → int_at p' a ≡ Some i
  unfolding int_length
  int_agree a i l e =
      let k = int_known p a i e in
      let c : int_length p' a ≡ i.count = ap (λ (b : ℕ). b % 4 + 1) (ag.same a (omega arith)) ∙ k.2 in
      sym (int_is p' a (omega (arith, ag.long')) (sym c) (omega (arith, ag.long')) refl)
      ∙ ap (λ (w : ℕ). Some (record i { value = w / 4 })) (le_same p p' a i.count (λ j b. ag.same j (omega arith)))
      ∙ ap (λ (w : ℕ). Some (record i { value = w })) k.3

-- ---- the two readings

-- behind the kSynchronize that ends the closing section: it was told last, and stands right before
-- the cursor
pub record Ended (x : Input) (m : Mem) : Type 0 where
  pub before : List Event
  pub told_last : m.log ≡ told (synchronize (m.at - 1) ∷ before)
  pub behind : 0 < m.at
  pub within : m.at ≤ length x.payload

-- an accepted walk came to the end of its closing section; the second comes there too, if that is
-- below L
pub record Reaches (x : Input) (p' : List ℕ) (L : ℕ) (m₀ m : Mem) : Type 0 where
  pub end : Mem
  pub ended_there : Ended x end
  pub then_padding : padding x (length x.payload - end.at) end ≡ got tt m
  pub second : end.at - 1 < L → ended (over x p') m₀ ≡ got tt end

module _ (x : Input) (modern : is_legacy x.sheet ≡ false) where
  not_legacy : is_legacy x.sheet ≡ true → ⊥
  not_legacy e = let z : false ≡ true = sym modern ∙ e in let w : ◌≡◌ {A = ℕ} 0 1 = cc in omega arith

  never_ends : (n : ℕ) → ends_legacy x n ≡ true → ⊥
  never_ends n e = let z : false ≡ true = rw modern at e in let w : ◌≡◌ {A = ℕ} 0 1 = cc in omega arith

  module _ (p' : List ℕ) (L lo : ℕ) (ag : BeginsAs x.payload p' L) where
    -- the payloads are compared below L; refusals are not compared
    abbrev prefixes : Pair
    prefixes =
        record {
          x = x;
          lo = lo;
          p' = p';
          maps = longer same_rooms;
          h = (λ l. l);
          Shared = (λ a. a < L);
          Compared = (λ _. ⊥);
          Fuel = (λ s a n n'. (length x.payload + s ≤ a + n) × (length p' + s ≤ a + n'));
          In = (λ a. a ≤ length x.payload);
          Logged = (λ l. (es : List Event) × (l ≡ told es));
          Filed = (λ _. Unit {0});
          Stop = (λ m. Ended x m);
          on_note = (λ e l. refl);
          shared_down = (λ a b l v. omega arith);
          compared_shared = (λ n v a. absurd v);
          compared_same = (λ n v. absurd v);
          compared_full = (λ v. absurd v);
          legacy_compared = never_ends;
          on_byte = (λ a v l. (omega (arith, ag.long'), ag.same a v));
          on_peek = peek_agree ag;
          on_int = int_agree ag;
          on_raw = (λ a v l. omega (arith, ag.long'));
          fuel_start = (λ a. omega arith);
          fuel_spare = (λ a. omega arith);
          fuel_step = (λ s a b n n' l f. omega arith);
          fuel_more = (λ s a n n' v f. omega (arith, ag.long'));
          fuel_zero = (λ s a n' v f. absurd (omega (arith, ag.long)));
          in_payload = (λ a l. l);
          in_int = (λ a i e. let k = int_known x.payload a i e in omega (arith, k.0, k.1));
          in_legacy = (λ e a. absurd (not_legacy e));
          on_logged = (λ e l t. (e ∷ t.0, ap (note e) t.1));
          on_filed = (λ t l. tt);
          previous_same = (λ t f. previous_wide 0 t);
          stop_here = (λ m t l. record { before = t.0; told_last = ap (note (synchronize m.at)) t.1 ∙ ap (λ (q : ℕ). told (synchronize q ∷ t.0)) (omega arith); behind = omega arith; within = omega arith });
          stop_legacy = (λ e m. absurd (not_legacy e));
          stop_fuel = (λ m n' i f. absurd (omega arith));
        }

    other_same : (m : Mem) → φ prefixes m ≡ m
    other_same m = simp append-nil

    pub reaches : (rooms : Rooms) (m : Mem) → lo ≡ rooms.objects → walk x (start rooms (told [])) ≡ got tt m → Reaches x p' L (start rooms (told [])) m
    reaches rooms m s e =
        go (ended x m₀) (rw (other_same m₀) at (ended_law prefixes m₀ (start_fits prefixes rooms (told []) ([], refl) tt s))) (sym (walk-ended x m₀) ∙ e)
      where
        m₀ : Mem
        m₀ = start rooms (told [])

        go : (o : Out (Unit {0})) → Ends prefixes m₀ o (ended (over x p') m₀) → and_then o (λ _ m. padding x (length x.payload - m.at) m) ≡ got tt m → Reaches x p' L m₀ m
        go (got a m₁) w e = record { end = m₁; ended_there = w.seen.2; then_padding = e; second = (λ v. (w.seen.1 v).1 ∙ ap (got tt) (other_same m₁)) }
        go (no n q m₁) w e = absurd (let z : ◌≡◌ {A = ℕ} 0 1 = cc in omega arith)
