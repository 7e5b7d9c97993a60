-- The references of value records, one after the other. Assumes nothing.
use Rattle.std.specs.Prelude.{◌≡◌, List, ℕ, ◌+◌, ◌-◌, ◌<◌, ◌≤◌, length, slice_index, slice_set, Option}
use Rattle.std.proofs.Common.{arith, sym, subst, ⊎_elim, get_or-set_other, get_or-set_same}
use Rattle.std.proofs.lemmas.Bool.{cases_eq}
use Rattle.filled.specs.declared.filled.Filled.{Filled}
use Rattle.references.specs.declared.reference.Reference.{Reference}
use Rattle.references.specs.Held.{value_of}
use Rattle.references.specs.References.{IsReference}
use Rattle.references.specs.Found.{unpacked_of, HasFound}

-- this number has the reference of value record k
abbrev IsOf : Filled → ℕ → ℕ → Type 0
IsOf part k y = IsReference part k (value_of part.tables.values.now k) (unpacked_of y)

pub found_none : (part : Filled) (found : List ℕ) → HasFound part part.starts.values found
found_none part found = record { of_value = λ k a b. absurd (omega (arith, a, b)) }

pub found_next : (part : Filled) (n : ℕ) (found : List ℕ) (x : ℕ) (r : Option Reference) → part.starts.values ≤ n → n < part.counts.values → part.counts.values - part.starts.values ≤ length found → IsReference part n (value_of part.tables.values.now n) r → unpacked_of x ≡ r → HasFound part n found → HasFound part (n + 1) (slice_set found (n - part.starts.values) x)
found_next part n found x r from low room is e h = record { of_value = each }
  where
    here : IsOf part n x
    here = subst (IsReference part n (value_of part.tables.values.now n)) (sym e) is

    each : (k : ℕ) → part.starts.values ≤ k → k < n + 1 → IsOf part k (slice_index (slice_set found (n - part.starts.values) x) (k - part.starts.values))
    each k a b =
        ⊎_elim
        (λ (q : n ≡ k).
        subst (λ (j : ℕ). IsOf part j (slice_index (slice_set found (n - part.starts.values) x) (j - part.starts.values))) q
        (subst (IsOf part n) (sym (get_or-set_same found (n - part.starts.values) x 0 (omega (arith, from, low, room)))) here))
        (λ q.
        subst (IsOf part k) (sym (get_or-set_other found (n - part.starts.values) (k - part.starts.values) x 0 (λ u. q (omega (arith, u, a, from)))))
        (h.of_value k a (omega (arith, b, q))))
        (cases_eq n k)
