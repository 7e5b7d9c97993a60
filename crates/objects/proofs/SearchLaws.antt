-- The search for a slot that waits, from the newest on. Assumes nothing.
use mathlib.Core.Path.{◌≡◌, refl, sym, ap, ◌∙◌}
use mathlib.Core.Bool.{Bool, true, false}
use mathlib.Core.List.{List, [], ◌∷◌}
use Prim.Native.Nat.{ℕ, zero, suc, ◌+◌, ◌-◌}
use native.Mathlib.Omega.{arith}
use lib.ListN.{length}
use denote.Ref.{Bor}
use denote.Param.Members.{Mut}
use Rattle.std.specs.Prelude.{if◌then◌else◌, Option, Some, None, cond}
use Rattle.std.specs.Fn.{CalledAt}
use Rattle.std.specs.List.{find}
use Rattle.std.specs.Option.{option_map}
use Rattle.std.specs.Range.{range_steps_back}
use Rattle.std.specs.Iterator.{FindsItem}
use Rattle.std.specs.Iterator.Adapters.{rev_steps}
use Rattle.std.specs.declared.ops.Range.{Range}
use Rattle.std.specs.declared.iter.Rev.{Rev}
use Rattle.std.proofs.lemmas.Iterator.{YieldsList}
use Rattle.std.proofs.lemmas.Iterator.Consumers.{YieldsList-from_shown}
use Rattle.std.proofs.lemmas.Iterator.Search.{find_from_yields_List}
use Rattle.definition.specs.Slots.{waits_for, waiter}
use Rattle.objects.specs.Index.{counted}

-- n numbers from a on, the greatest first
abbrev down : ℕ → ℕ → List ℕ
down a zero = []
down a (suc n) = (a + n) ∷ down a n

one_more : (a b x n m : ℕ) → n ≡ suc m → x ≡ a + m → b ≡ a → down a n ≡ x ∷ down b m
one_more a b x n m e f g = rw (e, f, g) refl

abbrev DownSteps : Rev (Range ℕ) → Option ℕ → Rev (Range ℕ) → Type 0
DownSteps = rev_steps (range_steps_back (λ a b. b - a) (λ a b. b ≡ a + 1))

goes_down : (s : Rev (Range ℕ)) → YieldsList DownSteps (λ x. x) s (down s.iter.start (s.iter.end - s.iter.start))
goes_down =
    YieldsList-from_shown DownSteps (λ x. x) (λ s. down s.iter.start (s.iter.end - s.iter.start))
    (λ s t h. ap (λ n. length (down s.iter.start n)) h.1.0)
    (λ s x t h. one_more s.iter.start t.iter.start x (s.iter.end - s.iter.start) (t.iter.end - t.iter.start) (omega (arith, h.0, h.1.0, h.1.2)) (omega (arith, h.0, h.1.0, h.1.1, h.1.2)) h.0)

first_or : (b : Bool) (c w : ℕ) (r : Option ℕ) → counted r ≡ w → counted (cond b (Some c) r) ≡ (if b then suc c else w)
first_or true c w r h = refl
first_or false c w r h = h

module _ (st : List ℕ) (number : ℕ) where
  found_down : (n : ℕ) → counted (find (waits_for st number) (down 0 n)) ≡ waiter st number n
  unfolding waiter
  found_down zero = refl
  found_down (suc n) = let z : 0 + n ≡ n = omega arith in rw z (first_or (waits_for st number n) n _ _ (found_down n))

  same : (r : Option ℕ) → option_map (λ x. x) r ≡ r
  same None = refl
  same (Some x) = refl

  -- what the search answers, by what each test answers
  pub searched : {F : Type 0} {g : Mut F (Bor ℕ × Unit {0}) Bool} (s u : Rev (Range ℕ)) (f : F) (r : Option ℕ) (n : ℕ) → s.iter ≡ record { start = 0; end = n } → FindsItem DownSteps g s f r u → ((x : ℕ) (b : Bool) (q : F) → CalledAt g f x b q → (q ≡ f) × (b ≡ waits_for st number x)) → counted r ≡ waiter st number n
  searched s u f r n e d k =
      let z : n - 0 ≡ n = omega arith in
      ap counted (sym (same r))
      ∙ ap counted (find_from_yields_List (waits_for st number) u f r d (goes_down s) k)
      ∙ ap (λ (i : Range ℕ). counted (find (waits_for st number) (down i.start (i.end - i.start)))) e
      ∙ rw z (found_down n)
