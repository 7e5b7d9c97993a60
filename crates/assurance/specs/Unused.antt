-- What stands in the slots and addresses tables above their counts is not read: a call that starts
-- with anything there, but for zeros in the first slot record, gives what it gives from zeros, and
-- its tables are the same up to the counts. For every call and every sheet. Assumes nothing.
use Rattle.std.specs.Prelude.{◌≡◌, refl, List, [], ◌∷◌, ℕ, zero, suc, ◌+◌, ◌-◌, ◌*◌, ◌<◌, ◌≤◌, length, get_or, set, replicate, take, drop, ◌++◌}
use Rattle.std.proofs.Common.{arith, ap, ◌∙◌, append-nil, suc-mul}
use Rattle.std.proofs.lemmas.List.{length-replicate}
use Rattle.std.proofs.lemmas.List.Edits.{sets}
use Rattle.definition.specs.Memory.{Input, Log, Table, table, Mem, Out, got, no}
use Rattle.definition.specs.Slots.{previous}
use Rattle.definition.specs.Call.{Rooms, Call, input_of, start, called}
use Rattle.laws.specs.ClosingKeeps.{begun}
use Rattle.assurance.specs.Wider.{zeros_get}
use Rattle.assurance.specs.TableMap.{TableMap, widened_none}
use Rattle.assurance.specs.Simulate.{TableMaps, SameLengths, other, Fits}
use Rattle.assurance.specs.SimulateClosing.{Same}
use Rattle.assurance.specs.SimulateCall.{Variant, calls, called_law}

-- the first n numbers of a list, and zeros in place of the others
unfoldable pub zeros_from : ℕ → List ℕ → List ℕ
zeros_from zero t = replicate (length t) 0
zeros_from (suc n) [] = []
zeros_from (suc n) (x ∷ t) = x ∷ zeros_from n t

pub zeros_none : (t : List ℕ) → zeros_from 0 t ≡ replicate (length t) 0
unfolding zeros_from
zeros_none t = refl

pub zeros_length : (n : ℕ) (t : List ℕ) → length (zeros_from n t) ≡ length t
unfolding zeros_from
zeros_length zero t = length-replicate (length t) 0
zeros_length (suc n) [] = refl
zeros_length (suc n) (x ∷ t) = ap suc (zeros_length n t)

-- the same in two parts
pub zeros_from-is : (n : ℕ) (t : List ℕ) → take n t ++ replicate (length (drop n t)) 0 ≡ zeros_from n t
unfolding zeros_from
zeros_from-is zero t = refl
zeros_from-is (suc n) [] = refl
zeros_from-is (suc n) (x ∷ t) = ap (λ (l : List ℕ). x ∷ l) (zeros_from-is n t)

zeros_below : (n : ℕ) (t : List ℕ) (i : ℕ) → i < n → get_or (zeros_from n t) i 0 ≡ get_or t i 0
unfolding zeros_from
zeros_below zero t i l = absurd (omega arith)
zeros_below (suc n) [] i l = refl
zeros_below (suc n) (x ∷ t) zero l = refl
zeros_below (suc n) (x ∷ t) (suc i) l = zeros_below n t i (omega arith)

-- one of the first n changes, and the next one is kept too
set_below : (n : ℕ) (t : List ℕ) (i v : ℕ) → i < n → set (zeros_from n t) i v ≡ zeros_from n (set t i v)
unfolding zeros_from
set_below zero t i v l = absurd (omega arith)
set_below (suc n) [] i v l = refl
set_below (suc n) (x ∷ t) zero v l = refl
set_below (suc n) (x ∷ t) (suc i) v l = ap (λ (l : List ℕ). x ∷ l) (set_below n t i v (omega arith))

set_next : (n : ℕ) (t : List ℕ) (v : ℕ) → set (zeros_from n t) n v ≡ zeros_from (suc n) (set t n v)
unfolding zeros_from
set_next zero [] v = refl
set_next zero (x ∷ t) v = refl
set_next (suc n) [] v = refl
set_next (suc n) (x ∷ t) v = ap (λ (l : List ℕ). x ∷ l) (set_next n t v)

sets_below : (n : ℕ) (vs t : List ℕ) (i : ℕ) → i + length vs ≤ n → sets (zeros_from n t) i vs ≡ zeros_from n (sets t i vs)
sets_below n [] t i l = refl
sets_below n (v ∷ vs) t i l =
    ap (λ (l : List ℕ). sets l (suc i) vs) (set_below n t i v (omega arith)) ∙ sets_below n vs (set t i v) (suc i) (omega arith)

sets_next : (vs t : List ℕ) (n : ℕ) → sets (zeros_from n t) n vs ≡ zeros_from (n + length vs) (sets t n vs)
sets_next [] t n = ap (λ (k : ℕ). zeros_from k t) (omega arith)
sets_next (v ∷ vs) t n =
    ap (λ (l : List ℕ). sets l (suc n) vs) (set_next n t v)
    ∙ sets_next vs (set t n v) (suc n)
    ∙ ap (λ (k : ℕ). zeros_from k (sets (set t n v) (suc n) vs)) (omega arith)

-- the records, and zeros above them
abbrev trimmed : {fields : ℕ} → TableMap fields
trimmed {fields} =
    record {
      rows = (λ n t. zeros_from (n * fields) t);
      as_long = (λ n t. omega (arith, zeros_length (n * fields) t));
      same = (λ n t i l. zeros_below (n * fields) t i l);
      changed = (λ n t i vs l h. sets_below (n * fields) vs t i l);
      extended = (λ n t row e h. sets_next row t (n * fields) ∙ ap (λ (k : ℕ). zeros_from k (sets t (n * fields) row)) (rw e (omega (arith, suc-mul n fields))));
    }

-- a table with zeros above its count
abbrev pub zeros_above : ℕ → Table → Table
zeros_above fields t = table (zeros_from (t.count * fields) t.rows) t.count

-- the first slot record is zero while no slot has been written
abbrev FirstZero : Table → Type 0
FirstZero t = t.count ≡ 0 → (i : ℕ) → i < 6 → get_or t.rows i 0 ≡ 0

previous_trimmed : (n : ℕ) (t : List ℕ) → FirstZero (table t n) → previous (zeros_above 6 (table t n)) ≡ previous (table t n)
previous_trimmed zero t z =
    rw (zeros_none t, zeros_get (length t) 2, zeros_get (length t) 3, zeros_get (length t) 4, z refl 2 (omega arith), z refl 3 (omega arith), z refl 4 (omega arith)) refl
previous_trimmed (suc n) t z =
    let same : (j : ℕ) → j < 6 → get_or (zeros_from (suc n * 6) t) ((suc n - 1) * 6 + j) 0 ≡ get_or t ((suc n - 1) * 6 + j) 0 = (λ j l. zeros_below (suc n * 6) t _ (omega arith)) in
    rw (same 2 (omega arith), same 3 (omega arith), same 4 (omega arith)) refl

abbrev trims : TableMaps
trims = record { objects = 0; slots = trimmed; values = 0; addresses = trimmed }

trims_same : SameLengths trims
trims_same =
    record { objects = widened_none; slots = (λ n t. zeros_length (n * 6) t); values = widened_none; addresses = (λ n t. zeros_length (n * 5) t) }

-- so that of slots and addresses the records are left
abbrev pub cleaned : Mem → Mem
cleaned m =
    record
    { at = m.at; objects = m.objects; slots = zeros_above 6 m.slots; values = m.values; addresses = zeros_above 5 m.addresses; hot = m.hot; pending = m.pending; waiting = m.waiting; skip = m.skip; alignment = m.alignment; alloc = m.alloc; long_integers = m.long_integers; log = m.log }

abbrev pub clean : {A : Type 0} → Out A → Out A
clean (got a m) = got a (cleaned m)
clean (no n q m) = no n q (cleaned m)

other-cleaned : (m : Mem) → other trims (λ l. l) m ≡ cleaned m
other-cleaned m = simp append-nil

unread : (x : Input) → Variant x
unread x =
    record { maps = trims; h = (λ l. l); Compared = (λ _. Unit {0}); Filed = FirstZero; on_note = (λ e l. refl); on_filed = (λ t l z. absurd (omega arith)); previous_same = (λ t z. previous_trimmed t.count t.rows z); compared_full = (λ v. trims_same); legacy_compared = (λ n e. tt) }

module _ (c : Call) (rooms : Rooms) (st dt : List ℕ) (l : Log) (long : length st ≡ rooms.slots) (long' : length dt ≡ rooms.addresses) (first : (i : ℕ) → i < 6 → get_or st i 0 ≡ 0) where
  begun_cleaned : cleaned (begun rooms st dt l) ≡ start rooms l
  begun_cleaned = rw (zeros_none st, zeros_none dt, long, long')

  begun_fits : Fits (calls c rooms (unread (input_of c))) (begun rooms st dt l)
  unfolding unread
  begun_fits =
      record { inside = tt; logged = tt; filed = (λ z. first); objects_length = length-replicate rooms.objects 0; slots_within = omega arith; recorded = (λ k b. absurd (omega arith)) }

  -- THE THEOREM: from zeros a call gives what it gives from these, with zeros above the counts
  pub called_begun : called c (start rooms l) ≡ clean (called c (begun rooms st dt l))
  unfolding unread
  called_begun =
      rw (← begun_cleaned, ← other-cleaned (begun rooms st dt l)) (go (called c (begun rooms st dt l)) (called_law c rooms (unread (input_of c)) (begun rooms st dt l) begun_fits))
    where
      go : (o : Out (Unit {0})) {o' : Out (Unit {0})} → Same (calls c rooms (unread (input_of c))) o o' → o' ≡ clean o
      go (got a m) e = e ∙ ap (got a) (other-cleaned m)
      go (no n q m) e = e tt ∙ ap (no n q) (other-cleaned m)
