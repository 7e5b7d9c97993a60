-- The places of the word past the bytes are 0, as each place past a list's end reads.
use Rattle.std.proofs.Common.{◌≡◌, ℕ, ◌+◌, suc, zero, List, [], ◌∷◌, ◌++◌, length, drop, get_or, refl, ◌∙◌}
use Rattle.std.proofs.lemmas.List.{get_or-drop}
use Rattle.std.specs.Int.{from_le_bytes}
use mir.Syntax.{w64}
use Rattle.vectors.proofs.numbers.little_endian.Goals as goal

abbrev zeros : ℕ → List ℕ
zeros zero = []
zeros (suc n) = 0 ∷ zeros n

zeros_at : (n i : ℕ) → get_or (zeros n) i 0 ≡ 0
zeros_at zero i = refl
zeros_at (suc n) zero = refl
zeros_at (suc n) (suc i) = zeros_at n i

padded_at : (bs : List ℕ) (n i : ℕ) → get_or (bs ++ drop n (zeros 8)) i 0 ≡ get_or bs i 0
padded_at [] n i = get_or-drop n (zeros 8) i 0 ∙ zeros_at 8 (n + i)
padded_at (b ∷ bs) n zero = refl
padded_at (b ∷ bs) n (suc i) = padded_at bs n i

padded : (bs : List ℕ) (n : ℕ) → from_le_bytes w64 (bs ++ drop n (zeros 8)) ≡ from_le_bytes w64 bs
padded bs n = simp (padded_at bs n)

pub returns : goal.returns
returns c =
    c.from_le_bytes.ensures ∙ rw c.copy_from_slice.ensures.after (padded c.args.bytes.now (length c.args.bytes.now))
