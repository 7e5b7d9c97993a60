-- An object whose map is a leaf, as its head, its map and its resolves. Assumes nothing.
use mathlib.Core.Path.{◌≡◌, refl, sym, ap, ◌∙◌}
use Prim.Native.Nat.{ℕ, ◌-◌, ◌*◌}
use lib.ListN.{length}
use Rattle.tables.specs.declared.values.SlotValue.{SlotValue}
use Rattle.definition.specs.Memory.{Input, word, Mem, Out, got, no, Reader, and_then, ◌>>=◌, ◌>>◌, give}
use Rattle.definition.specs.Object.{read_map, keep_map, resolves}
use Rattle.objects.specs.Head.{opening}
use Rattle.opened_leaves.specs.Opening.{opened}
use Rattle.objects.specs.declared.item.Level.{Level}
use Rattle.walker.specs.Ready.{mapped, headed}

-- readers are grouped from the left or from the right
module _ (x : Input) (r : Reader SlotValue) (space tag o : ℕ) where
  abbrev maps : ℕ → Reader (Unit {0})
  maps words = read_map x r space (words * word x) o >>= keep_map x o

  abbrev ends : ℕ → Reader Level
  ends bytes m =
      and_then (resolves x o (length x.payload - m.at) m) (λ _. give (record { object = o; size = bytes; done = word x; tag = tag }))

  map_split : (words : ℕ) (u : Out (Unit {0})) → and_then (and_then u (λ _ m. resolves x o (length x.payload - m.at) m)) (λ _. give (record { object = o; size = words * word x; done = word x; tag = tag })) ≡ and_then (and_then u (λ _. give (words * word x))) ends
  map_split words (got t m) = refl
  map_split words (no n q m) = refl

  head_split : (u : Out ℕ) → and_then u (λ words. mapped x r space (words * word x) o >> give (record { object = o; size = words * word x; done = word x; tag = tag })) ≡ and_then (and_then u (λ words. maps words >> give (words * word x))) ends
  head_split (got words m) = map_split words (maps words m)
  head_split (no n q m) = refl

-- the object opened, and then its resolves
module _ (x : Input) (r : Reader SlotValue) (space tag : ℕ) (m : Mem) {n : ℕ} {m₁ : Mem} (e : got n m₁ ≡ opened x r space tag m.objects.count m) where
  pub opened_by : {out : Out Level} → out ≡ and_then (resolves x m.objects.count (length x.payload - m₁.at) m₁) (λ _. give (record { object = m.objects.count; size = n; done = word x; tag = tag })) → out ≡ headed x r space tag m
  opened_by {out} f =
      f ∙ ap (λ (u : Out ℕ). and_then u (ends x r space tag m.objects.count)) e ∙ sym (head_split x r space tag m.objects.count (opening x space tag m))
