-- Each object that a place of the hot ring stands for is below the object count; no place stands
-- for an attached one. Assumes nothing.
use Rattle.std.specs.Prelude.{◌≡◌, List, [], ◌∷◌, ℕ, zero, suc, ◌<◌, ◌≤◌, ◌%◌, get_or, set, replicate, Option, Some, None}
use Rattle.std.proofs.Math.Path.{refl}
use Rattle.std.proofs.Common.{arith, sym, ◌∙◌}
use Rattle.tables.specs.declared.values.Ref.{Ref}
use Rattle.tables.specs.declared.values.Ref.TheVariants.{Object, Root, RoRef, Attached}
use Rattle.backref.specs.declared.hot_ring.HotRing.{HotRing}
use Rattle.backref.specs.HotRing.{empty_ring, entered, hot_at}

-- an object that a reference stands for is below a count; it is no attached reference
abbrev pub Below : ℕ → Ref → Type 0
Below objects (Object o) = o < objects
Below objects (Root i) = Unit {0}
Below objects (RoRef c o) = Unit {0}
Below objects (Attached i) = ⊥

below_up : {n k : ℕ} → n ≤ k → (r : Ref) → Below n r → Below k r
below_up l (Object o) h = omega (arith, h, l)
below_up l (Root i) h = h
below_up l (RoRef c o) h = h
below_up l (Attached i) h = h

abbrev pub Ring : HotRing → ℕ → Type 0
Ring hot objects = (i : ℕ) (r : Ref) → hot_at hot i ≡ Some r → Below objects r

-- a place has what entered it last, or what it had
set_case : (P : Option Ref → Type 0) (l : List (Option Ref)) (i j : ℕ) (a : Option Ref) → P a → P (get_or l j None) → P (get_or (set l i a) j None)
set_case P [] i j a h g = g
set_case P (y ∷ l) zero zero a h g = h
set_case P (y ∷ l) zero (suc j) a h g = g
set_case P (y ∷ l) (suc i) zero a h g = g
set_case P (y ∷ l) (suc i) (suc j) a h g = set_case P l i j a h g

pub ring_enter : (hot : HotRing) (objects : ℕ) (r : Ref) → Below objects r → Ring hot objects → Ring (entered hot r) objects
unfolding entered hot_at
ring_enter hot objects r h g i =
    set_case (λ o. (r : Ref) → o ≡ Some r → Below objects r) hot.places (hot.next % 8) i (Some r) (λ q e. let z : r ≡ q = cc in rw (← z) h) (g i)

pub ring_up : (hot : HotRing) (n k : ℕ) → n ≤ k → Ring hot n → Ring hot k
ring_up hot n k l h i r e = below_up l r (h i r e)

-- an empty ring stands for nothing
empty : (n i : ℕ) → get_or (replicate {A = Option Ref} n None) i None ≡ None
empty zero i = refl
empty (suc n) zero = refl
empty (suc n) (suc i) = empty n i

pub ring-start : Ring empty_ring 0
unfolding hot_at
ring-start i r e = let z : None ≡ Some r = sym (empty 8 i) ∙ e in cc

-- what a place stands for, by its kind
pub hot_case : (P : Ref → Type 0) (hot : HotRing) (objects i : ℕ) (r : Ref) → Ring hot objects → i < 8 → hot_at hot i ≡ Some r → ((o : ℕ) → o < objects → P (Object o)) → ((j : ℕ) → P (Root j)) → ((c o : ℕ) → P (RoRef c o)) → P r
hot_case P hot objects i (Object o) h l e fo fr fc = fo o (h i (Object o) e)
hot_case P hot objects i (Root j) h l e fo fr fc = fr j
hot_case P hot objects i (RoRef c o) h l e fo fr fc = fc c o
hot_case P hot objects i (Attached j) h l e fo fr fc = absurd (h i (Attached j) e)
