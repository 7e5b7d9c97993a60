-- An object's head, as the code reads it: the size in words is given back, and the object's number
-- is the object count before. Assumes nothing: these are definitions.
use Rattle.std.specs.Prelude.{◌≡◌, ℕ, ◌<◌, length, get_or}
use Rattle.heads.specs.Heads.{head_at}
use Rattle.heads.specs.declared.kinds.Kind.TheVariants.{NewObject as NewObjectKind}
use Rattle.definition.specs.Memory.{Input, Reader, ◌>>=◌, ◌>>◌, give, int}
use Rattle.definition.specs.Object.{large_byte, add_object}
use Rattle.readers.specs.declared.walker.Walker.{Walker}
use Rattle.objects.specs.declared.head.NewObject.{NewObject}

abbrev pub recording : Input → ℕ → ℕ → Reader ℕ
recording x tag words = add_object x tag words >> give words

abbrev pub opening : Input → ℕ → ℕ → Reader ℕ
opening x space tag = int x >>= (λ words. large_byte x space >> recording x tag words)

-- a new object stands at a place
abbrev pub OpensAt : Walker → ℕ → Type 0
OpensAt w at =
    (at < length w.payload.now) × ((head_at w.heads.now (get_or w.payload.now at 0)).kind ≡ NewObjectKind)

-- it is this one
pub record NewAt (w : Walker) (at : ℕ) (new : NewObject) : Type 0 where
  pub inside : at < length w.payload.now
  pub low : get_or w.payload.now at 0 < 256
  pub kind : (head_at w.heads.now (get_or w.payload.now at 0)).kind ≡ NewObjectKind
  pub is : new ≡ record { tag = at; space = (head_at w.heads.now (get_or w.payload.now at 0)).argument }
