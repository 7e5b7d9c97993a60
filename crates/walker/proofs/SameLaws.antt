-- Readers that leave a part of what they have as it was, with a value or a refusal: a view of it is
-- the same before and after. Assumes nothing.
use Rattle.std.specs.Prelude.{if◌then◌else◌}
use mathlib.Core.Path.{◌≡◌, refl, sym, subst, ◌∙◌}
use mathlib.Core.Bool.{Bool, true, false}
use Prim.Native.Nat.{ℕ}
use Rattle.definition.specs.Memory.{Mem, Out, got, no, Reader, and_then, ◌>>=◌, ◌>>◌}

module _ {B : Type 0} (view : Mem → B) where
  abbrev pub Same : {A : Type 0} → Mem → Out A → Type 0
  Same m (got v m') = view m' ≡ view m
  Same m (no n q m') = view m' ≡ view m

  abbrev pub Leaves : {A : Type 0} → Reader A → Type 0
  Leaves r = (m : Mem) → Same m (r m)

  same_from : {A : Type 0} (m m' : Mem) → view m' ≡ view m → (o : Out A) → Same m' o → Same m o
  same_from m m' u (got v w) h = h ∙ u
  same_from m m' u (no n q w) h = h ∙ u

  same_then : {A B : Type 0} (m : Mem) (f : A → Reader B) (o : Out A) → Same m o → ((a : A) → Leaves (f a)) → Same m (and_then o f)
  same_then m f (got a m') u h = same_from m m' u (f a m') (h a m')
  same_then m f (no n q m') u h = u

  pub same_choose : {A : Type 0} (t : Bool) (f g : Reader A) (m : Mem) → (t ≡ true → Same m (f m)) → Same m (g m) → Same m ((if t then f else g) m)
  same_choose true f g m h k = h refl
  same_choose false f g m h k = k

  module _ {A C : Type 0} where
    pub then_leaves : (r : Reader A) (f : A → Reader C) → Leaves r → ((a : A) → Leaves (f a)) → Leaves (r >>= f)
    then_leaves r f h k m = same_then m f (r m) (h m) k

    pub next_leaves : (r : Reader A) (s : Reader C) → Leaves r → Leaves s → Leaves (r >> s)
    next_leaves r s h k m = same_then m (λ _. s) (r m) (h m) (λ _. k)

  -- of what was given or refused
  pub same_got : {A : Type 0} {m m' : Mem} {v : A} {o : Out A} → got v m' ≡ o → Same m o → view m' ≡ view m
  same_got {m = m} e h = subst (Same m) (sym e) h

  pub same_no : {A : Type 0} {m m' : Mem} {n q : ℕ} {o : Out A} → no n q m' ≡ o → Same m o → view m' ≡ view m
  same_no {m = m} e h = subst (Same m) (sym e) h
