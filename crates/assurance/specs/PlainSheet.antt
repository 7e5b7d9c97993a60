-- What a plain sheet lacks, and what that rules out. Assumes nothing.
use Rattle.std.specs.Prelude.{if◌then◌else◌, ◌≡◌, refl, Bool, true, false, not, List, [], ◌∷◌, ℕ, ◌+◌, ◌-◌, ◌*◌, ◌<◌, ◌≤◌, eqb, length}
use Rattle.std.proofs.Common.{⊎_elim, arith, eqb-true}
use Rattle.std.proofs.lemmas.Bool.{not-true, not-false, and_parts}
use Rattle.stream.proofs.ByteLaws.{Bytes, peek-byte}
use Rattle.sheet.specs.Names.{k_new_object, k_synchronize, k_alignment_prefix, k_hot_object_with_skip, k_root_array_constants_with_skip, k_skip, k_deferred}
use Rattle.sheet.specs.Sheet.{number, present, word_bytes, is_legacy, is_six_x, is_map_first, usable, plain}
use Rattle.sheet.specs.Tests.{in_span, is_deferred, is_entry, closing_of}
use Rattle.sheet.specs.declared.tests.Closing.{Closing}
use Rattle.sheet.specs.declared.tests.Closing.TheVariants.{Synchronize, Alignment, Deferred, Reference}
use Rattle.sheet.proofs.UsableSheet.{parts, usable_gives}
use Rattle.definition.specs.Memory.{Input, Mem}
use Rattle.definition.specs.Object.{peek}
use Rattle.laws.specs.Leaves.{peek-inside}

-- a Boolean that is both
pub clash : (t : Bool) → t ≡ true → t ≡ false → ⊥
clash true e f = let z : ◌≡◌ {A = ℕ} 0 1 = cc in omega arith
clash false e f = let z : ◌≡◌ {A = ℕ} 0 1 = cc in omega arith

-- what a plain sheet lacks
pub record PlainSheet (v : List ℕ) : Type 0 where
  pub usable_sheet : usable v ≡ true
  pub no_legacy : is_legacy v ≡ false
  pub no_six_x : is_six_x v ≡ false
  pub no_hot_skip : present v k_hot_object_with_skip ≡ false
  pub no_root_skip : present v k_root_array_constants_with_skip ≡ false
  pub no_skip : present v k_skip ≡ false
  pub no_deferred : present v k_deferred ≡ false

pub plain-gives : (v : List ℕ) → plain v ≡ true → PlainSheet v
unfolding plain
plain-gives v e =
    let p = parts (usable v ∷ not (is_legacy v) ∷ not (is_six_x v) ∷ not (present v k_hot_object_with_skip) ∷ not (present v k_root_array_constants_with_skip) ∷ not (present v k_skip) ∷ not (present v k_deferred) ∷ []) e in
    record {
      usable_sheet = p 0;
      no_legacy = not-true _ (p 1);
      no_six_x = not-true _ (p 2);
      no_hot_skip = not-true _ (p 3);
      no_root_skip = not-true _ (p 4);
      no_skip = not-true _ (p 5);
      no_deferred = not-true _ (p 6);
    }

module _ (v : List ℕ) (plainly : PlainSheet v) where
  -- n words have a byte at least
  pub words_pos : (n : ℕ) → 1 ≤ n → 1 ≤ n * word_bytes v
  words_pos n l = ⊎_elim (λ e. rw e (omega arith)) (λ e. rw e (omega arith)) (usable_gives v plainly.usable_sheet).word

  pub word_pos : 1 ≤ word_bytes v
  word_pos = omega (arith, words_pos 1 (omega arith))

  pub not_legacy : is_legacy v ≡ true → ⊥
  not_legacy e = clash (is_legacy v) e plainly.no_legacy

  pub not_six_x_lem : is_six_x v ≡ true → ⊥
  not_six_x_lem e = clash (is_six_x v) e plainly.no_six_x

  pub not_map_first : is_map_first v ≡ true → ⊥
  not_map_first e = not_legacy (and_parts _ _ e).0

  -- the tests of the closing section
  module _ (P : Closing → Type 0) where
    pick_case : (t : Bool) (a b : Closing) → (t ≡ true → P a) → P b → P (if t then a else b)
    pick_case true a b y n = y refl
    pick_case false a b y n = n

    abbrev is_last : ℕ → Bool
    is_last b = eqb (number v k_synchronize) b

    pub closing_case : (b : ℕ) → (is_last b ≡ true → P Synchronize) → (is_last b ≡ false → (a : ℕ) → P (Alignment a)) → (is_last b ≡ false → P Reference) → P (closing_of v b)
    unfolding closing_of
    closing_case b s a r = at (is_last b) refl
      where
        other : is_last b ≡ false → P (if in_span v k_alignment_prefix 3 b then Alignment (b - number v k_alignment_prefix + 1) else if is_entry v b then Deferred (b - number v k_new_object) else Reference)
        other e =
            pick_case (in_span v k_alignment_prefix 3 b) (Alignment (b - number v k_alignment_prefix + 1)) _ (λ t. a e (b - number v k_alignment_prefix + 1))
            (pick_case (is_entry v b) (Deferred (b - number v k_new_object)) _ (λ t. absurd (not_legacy (and_parts _ _ (and_parts _ _ t).0).0)) (r e))

        at : (t : Bool) → is_last b ≡ t → P (if t then Synchronize else if in_span v k_alignment_prefix 3 b then Alignment (b - number v k_alignment_prefix + 1) else if is_entry v b then Deferred (b - number v k_new_object) else Reference)
        at true e = s e
        at false e = other e

-- kDeferred is absent, so no byte is it
pub not_deferred : (x : Input) → Bytes x.payload → PlainSheet x.sheet → (m : Mem) → is_deferred x.sheet (peek x m) ≡ true → ⊥
not_deferred x bytes plainly m e =
    let a : number x.sheet k_deferred ≡ 65535 = eqb-true (number x.sheet k_deferred) 65535 (not-false _ plainly.no_deferred) in
    let q : number x.sheet k_deferred ≡ peek x m = eqb-true (number x.sheet k_deferred) (peek x m) e in
    let l : m.at < length x.payload = peek-inside x.payload m.at (λ z. omega arith) in
    omega (arith, bytes m.at, peek-byte x.payload m.at l refl)
