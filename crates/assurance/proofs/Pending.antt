-- Every pending value that a slot keeps is left pending, or a resolve fills it. Assumes nothing.
use Rattle.std.specs.Prelude.{◌≡◌, refl, ◌⊎◌, Bool, true, false, List, [], ◌∷◌, ℕ, eqb}
use Rattle.std.proofs.Common.{inl, inr, ⊎_elim, arith, eqb-true}
use mathlib.Core.List.Memᴰ
use Rattle.std.proofs.lemmas.Bool.{eqb-false}
use Rattle.tables.specs.declared.values.Fields.{Fields}
use Rattle.tables.specs.Values.{triple}
use Rattle.definition.specs.Memory.{in_map, in_slot, in_value, dropped, Event, opened, passed, item, value, resolve, begins, synchronize}
use Rattle.assurance.specs.Words.{Told, LeftPending, FilledBy}

abbrev Either : List Event → ℕ → ℕ → Type 0
Either es k n = (LeftPending es k n) ⊎ ((o : ℕ) × (FilledBy es k n o))

-- the event in question
abbrev pending : ℕ → ℕ → Event
pending k n = value (triple 13 n 0) (in_slot k)

-- another event before it
skip : (es : List Event) (e : Event) (k n : ℕ) (C : Type 0) → (pending k n ≡ e → ⊥) → (Told es (pending k n) → C) → Told (e ∷ es) (pending k n) → C
skip es e k n C d f t = ⊎_elim (λ q. absurd (d q)) f (Memᴰ.cases_cons t)

-- a resolve after it
resolve_either : (es : List Event) (j x k n : ℕ) → Either es k n → Either (resolve j x ∷ es) k n
unfolding LeftPending FilledBy
resolve_either es j x k n (inl l) = at (eqb j n) refl
  where
    at : (t : Bool) → eqb j n ≡ t → Either (resolve j x ∷ es) k n
    at true e = inr (x, inl (eqb-true j n e, refl, l))
    at false e = inl (eqb-false j n e, l)
resolve_either es j x k n (inr f) = inr (f.0, inr f.1)

slot_either : (es : List Event) (v : Fields) (j k n : ℕ) → Either es k n → Either (value v (in_slot j) ∷ es) k n
unfolding LeftPending FilledBy
slot_either es v j k n (inl l) = inl (inr l)
slot_either es v j k n (inr f) = inr f

-- THE THEOREM
pub either : (es : List Event) (k n : ℕ) → Told es (pending k n) → Either es k n
unfolding LeftPending FilledBy
either [] k n t = absurd (Memᴰ.not-nil t)
either (opened q w ∷ es) k n t = skip es _ k n (Either es k n) (λ e. let z : ◌≡◌ {A = ℕ} 0 1 = cc in omega arith) (either es k n) t
either (passed a b ∷ es) k n t = skip es _ k n (Either es k n) (λ e. let z : ◌≡◌ {A = ℕ} 0 1 = cc in omega arith) (either es k n) t
either (item o s w j ∷ es) k n t = skip es _ k n (Either es k n) (λ e. let z : ◌≡◌ {A = ℕ} 0 1 = cc in omega arith) (either es k n) t
either (value v (in_map j) ∷ es) k n t = skip es _ k n (Either es k n) (λ e. let z : ◌≡◌ {A = ℕ} 0 1 = cc in omega arith) (either es k n) t
either (value v (in_slot j) ∷ es) k n t = ⊎_elim (λ (e : pending k n ≡ value v (in_slot j)). let a : v ≡ triple 13 n 0 = cc in let b : j ≡ k = cc in inl (inl (a, b))) (λ u. slot_either es v j k n (either es k n u)) (Memᴰ.cases_cons t)
either (value v (in_value j) ∷ es) k n t = skip es _ k n (Either es k n) (λ e. let z : ◌≡◌ {A = ℕ} 0 1 = cc in omega arith) (either es k n) t
either (value v dropped ∷ es) k n t = skip es _ k n (Either es k n) (λ e. let z : ◌≡◌ {A = ℕ} 0 1 = cc in omega arith) (either es k n) t
either (resolve j x ∷ es) k n t = skip es _ k n (Either (resolve j x ∷ es) k n) (λ e. let z : ◌≡◌ {A = ℕ} 0 1 = cc in omega arith) (λ u. resolve_either es j x k n (either es k n u)) t
either (begins q ∷ es) k n t = skip es _ k n (Either es k n) (λ e. let z : ◌≡◌ {A = ℕ} 0 1 = cc in omega arith) (either es k n) t
either (synchronize q ∷ es) k n t = skip es _ k n (Either es k n) (λ e. let z : ◌≡◌ {A = ℕ} 0 1 = cc in omega arith) (either es k n) t
