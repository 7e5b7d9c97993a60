-- A pass over the slots of a part: what is known of those below slot k. Assumes nothing.
use Rattle.std.specs.Prelude.{◌≡◌, false, List, ℕ, ◌+◌, ◌<◌, ◌≤◌, Option, Some, None}
use Rattle.std.specs.Option.{option_map}
use Rattle.std.proofs.Common.{arith}
use Rattle.filled.specs.RawSlots.{range_of, raw_slot}
use Rattle.filled.specs.declared.filled.Filled.{Filled}
use Rattle.filled.specs.declared.nearest.Near.{Near}
use Rattle.filled.specs.Nearest.{Nearest, Tracks}
use Rattle.filled.specs.Ranges.{contains, NoneContains, IsGap, distance_before, distance_after}

-- none of the slots below k contains the byte, and these are the nearest of them
pub record Seen (slots : List ℕ) (start offset k : ℕ) (low high : Option Near) : Type 0 where
  pub from_start : start ≤ k
  pub none_contains : NoneContains slots start k offset
  pub before : Tracks (distance_before slots offset) start k low
  pub after : Tracks (distance_after slots offset) start k high

-- a slot without distance leaves the nearest ones as they are
pub tracks_pass : (d : ℕ → Option ℕ) (start k : ℕ) (best : Option Near) → start ≤ k → d k ≡ None → Tracks d start k best → Tracks d start (k + 1) best
tracks_pass d start k (Some near) s e t = grind arith
tracks_pass d start k None s e t = grind arith

-- a slot that does not contain the byte
pub seen_next : (slots : List ℕ) (start offset k : ℕ) (low high low' high' : Option Near) → Seen slots start offset k low high → contains slots offset k ≡ false → Tracks (distance_before slots offset) start (k + 1) low' → Tracks (distance_after slots offset) start (k + 1) high' → Seen slots start offset (k + 1) low' high'
seen_next slots start offset k low high low' high' s e before after =
    record
    { from_start = omega (arith, s.from_start); none_contains = grind arith; before = before; after = after }

-- a slot that is not raw
pub seen_not_raw : (slots : List ℕ) (start offset k : ℕ) (low high : Option Near) → Seen slots start offset k low high → range_of slots k ≡ None → Seen slots start offset (k + 1) low high
seen_not_raw slots start offset k low high s e =
    seen_next slots start offset k low high low high s (rw e)
    (tracks_pass (distance_before slots offset) start k low s.from_start (rw e) s.before)
    (tracks_pass (distance_after slots offset) start k high s.from_start (rw e) s.after)

-- the nearest, without its distance
pub tracks_nearest : (d : ℕ → Option ℕ) (start k : ℕ) (best : Option Near) → Tracks d start k best → Nearest d start k (option_map (λ near. near.slot) best)
tracks_nearest d start k (Some near) t = (near.distance, t)
tracks_nearest d start k None t = t

-- at the part's end
pub seen_gap : (slots : List ℕ) (start offset k : ℕ) (low high : Option Near) → Seen slots start offset k low high → IsGap slots start k offset (option_map (λ near. near.slot) low) (option_map (λ near. near.slot) high)
seen_gap slots start offset k low high s =
    record
    { none_contains = s.none_contains; before = tracks_nearest _ start k low s.before; after = tracks_nearest _ start k high s.after }

-- a slot of the part is listed
pub raw_slot_listed : (filled : Filled) (k : ℕ) → k < filled.counts.slots → range_of filled.tables.slots.now k ≡ raw_slot filled k
raw_slot_listed filled k listed = grind arith
