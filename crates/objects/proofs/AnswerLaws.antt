-- A refusal that `?` passes on, and what is only read. Assumes nothing.
use mathlib.Core.Path.{refl, sym, ap, subst, ◌∙◌}
use Rattle.std.specs.Prelude.{◌≡◌, Result, Ok, Err}
use Rattle.std.specs.Result.{IsErrAnd, MatchResult}
use Rattle.refusals.specs.Numbers.{number_of}
use Rattle.definition.specs.Memory.{no}
use Rattle.readers.specs.declared.state.Refused.{Refused}
use Rattle.readers.specs.declared.walker.Walker.{Walker}
use Rattle.readers.specs.Lent.{input_of, Fixed, Kept}
use Rattle.readers.specs.Views.{Lent, Answer, mem, seen}

pub passed_on : {A : Type 0} (r : Answer A) (e : Refused) (l : Lent) → IsErrAnd r (λ y. y ≡ e) → seen r l ≡ no (number_of e.refusal) e.place (mem e.state l)
passed_on (Ok a) e l h = absurd h
passed_on (Err y) e l h = rw h

-- from what `map_err` answered to the call before it
module _ {A E : Type 0} (P : E → Refused → Type 0) {m : Result A Refused} where
  pub mapped_ok : (r : Result A E) → MatchResult r (λ a. m ≡ Ok a) (λ e. IsErrAnd m (P e)) → {a : A} → m ≡ Ok a → r ≡ Ok a
  mapped_ok (Ok b) h {a} q = let z : ◌≡◌ {A = Result A Refused} (Ok b) (Ok a) = sym h ∙ q in ap Ok (cc)
  mapped_ok (Err b) h q = absurd (rw q at h)

  pub mapped_err : {R : E → Refused} → ((e : E) (y : Refused) → P e y → y ≡ R e) → (r : Result A E) → MatchResult r (λ a. m ≡ Ok a) (λ e. IsErrAnd m (P e)) → {y : Refused} → m ≡ Err y → (e : E) × (r ≡ Err e) × (y ≡ R e)
  mapped_err f (Ok b) h q = absurd (subst (λ r. IsErrAnd r (λ _. Unit {0})) (sym q ∙ h) tt)
  mapped_err f (Err b) h q = (b, refl, f b _ (rw q at h))

-- what is only read is the same input
pub same_input : {w w' : Walker} → Fixed w w' → input_of w' ≡ input_of w
same_input f = rw (f.sheet, f.payload, f.spaces, f.trusted)

-- nothing is changed, and nothing by two steps
pub fixed_refl : (w : Walker) → Fixed w w
fixed_refl w =
    record { sheet = refl; heads = refl; trusted = refl; payload = refl; spaces = refl; objects = refl; slots = refl; values = refl; addresses = refl; pending = refl; index = refl }

pub fixed_on : {w w₁ w₂ : Walker} → Fixed w w₁ → Fixed w₁ w₂ → Fixed w w₂
fixed_on f g =
    record { sheet = g.sheet ∙ f.sheet; heads = g.heads ∙ f.heads; trusted = g.trusted ∙ f.trusted; payload = g.payload ∙ f.payload; spaces = g.spaces ∙ f.spaces; objects = g.objects ∙ f.objects; slots = g.slots ∙ f.slots; values = g.values ∙ f.values; addresses = g.addresses ∙ f.addresses; pending = g.pending ∙ f.pending; index = g.index ∙ f.index }

pub kept_still : (w : Walker) → Kept w w
kept_still w = (fixed_refl w, (refl, refl))

pub kept_then : {w w' w'' : Walker} → Kept w w' → Kept w' w'' → Kept w w''
kept_then (f, (p, i)) (g, (q, j)) = (fixed_on f g, (q ∙ p, j ∙ i))
