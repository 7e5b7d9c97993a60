-- In a usable sheet a row that applies lays hold of bytes below 256 only. Assumes nothing.
use mathlib.Core.Path.{◌≡◌, refl}
use mathlib.Core.Bool.{Bool, true, false, ◌&&◌}
use mathlib.Core.List.{List, [], ◌∷◌, ◌++◌}
use mathlib.Core.Logic.{⊎_elim}
use Prim.Native.Nat.{ℕ, ◌+◌, ◌≤◌}
use native.Mathlib.Omega.{arith}
use lib.Dec.{ltb, eqb}
use borrow.Author.Tests.{ltb-true, eqb-true, eqb-false, not-true}
use Rattle.sheet.specs.Sheet.{number, present}
use Rattle.sheet.specs.Usable.{Usable}
use Rattle.sheet.proofs.TestsLaws.{span_at_most}
use Rattle.heads.specs.Heads.{order, span_of, tests}
use Rattle.heads.specs.declared.order.Claim.{Claim}
use Rattle.heads.specs.declared.order.Span.{Span}
use Rattle.heads.specs.declared.order.Span.TheVariants.{Bytes, Spaces, NewObjects, RootConstants, UpToBackref}
use Rattle.std.proofs.lemmas.Bool.{and_parts}

abbrev pub Fits : List ℕ → Claim → Type 0
Fits v r = present v r.name ≡ true → tests v r.family ≡ true → number v r.name + span_of v r.span ≤ 256

-- a row of one byte: its name's number is at most 255
abbrev is_byte : Span → Bool
is_byte (Bytes n) = eqb n 1
is_byte Spaces = false
is_byte NewObjects = false
is_byte RootConstants = false
is_byte UpToBackref = false

abbrev is_narrow : Claim → Bool
is_narrow r = is_byte r.span && ltb r.name 56

one_byte : (v : List ℕ) (s : Span) → is_byte s ≡ true → span_of v s ≡ 1
one_byte v (Bytes n) e = eqb-true n 1 e
one_byte v Spaces e = cc
one_byte v NewObjects e = cc
one_byte v RootConstants e = cc
one_byte v UpToBackref e = cc

narrow : (v : List ℕ) → Usable v → (r : Claim) → is_narrow r ≡ true → Fits v r
narrow v u r e p t =
    let p₁ = and_parts (is_byte r.span) (ltb r.name 56) e in
    rw (one_byte v r.span p₁.0)
    (⊎_elim (λ h. omega arith)
    (λ h. absurd (eqb-false (number v r.name) 65535 (not-true (eqb (number v r.name) 65535) p) h))
    (u.numbers r.name (ltb-true r.name 56 p₁.1)))

abbrev pick_type : Bool → Type 0 → Type 0 → Type 0
pick_type true A B = A
pick_type false A B = B

-- what is to be shown of a list of rows: that each row of more bytes fits
abbrev Wide : List ℕ → List Claim → Type 0
Wide v [] = Unit
Wide v (r ∷ rs) = pick_type (is_narrow r) (Wide v rs) (Fits v r × Wide v rs)

module _ (v : List ℕ) (u : Usable v) where
  parted : (r : Claim) (rs : List Claim) (t : Bool) → is_narrow r ≡ t → pick_type t (Wide v rs) (Fits v r × Wide v rs) → Fits v r × Wide v rs
  parted r rs true e w = (narrow v u r e, w)
  parted r rs false e w = w

  fits_after : (rs ss : List Claim) (r : Claim) → Wide v (rs ++ r ∷ ss) → Fits v r
  fits_after [] ss r w = (parted r ss (is_narrow r) refl w).0
  fits_after (q ∷ rs) ss r w = fits_after rs ss r (parted q (rs ++ r ∷ ss) (is_narrow q) refl w).1

  up : {n : ℕ} → n ≤ 255 → n ≤ 256
  up h = omega arith

  wide : Wide v order
  unfolding order
  wide = (
    λ p t. omega (arith, span_at_most v, u.new_object_lem t p),
    (
      λ p t. up (u.backref_with_skip (u.six_x_legacy t) p),
      (
        λ p t. up (u.backref t p),
        (
          λ p t. up (u.alignment_prefix p),
          (
            λ p t. omega (arith, u.required 0 (omega arith), u.required 1 (omega arith)),
            (
              λ p t. up (u.hot_object p),
              (
                λ p t. up (u.hot_object_with_skip p),
                (
                  λ p t. up (u.root_constants p),
                  (
                    λ p t. up (u.root_constants_with_skip p),
                    (
                      λ p t. up (u.fixed_raw_data p),
                      (
                        λ p t. up (u.fixed_repeat_lem p),
                        (
                          λ p t. up (u.fixed_repeat_lem p),
                          (
                            λ p t. up (u.fixed_repeat_root_lem p),
                            (
                              λ p t. up (u.fixed_repeat_root_lem p),
                              tt,
                            ),
                          ),
                        ),
                      ),
                    ),
                  ),
                ),
              ),
            ),
          ),
        ),
      ),
    ),
  )

  -- of a row of the order, wherever it stands
  pub fits : (rs ss : List Claim) (r : Claim) → rs ++ r ∷ ss ≡ order → Fits v r
  fits rs ss r e = fits_after rs ss r (rw e wide)
