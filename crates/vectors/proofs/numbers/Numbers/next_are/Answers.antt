-- One more number of both is read.
use Rattle.std.proofs.Common.{◌≡◌, ◌↔◌, ℕ, suc, ◌+◌, ◌-◌, ◌<◌, Bool, ◌&&◌, nat_eq, IsTrue, List, ◌∷◌, length, drop, get_or, arith, add-one, drop-cons}
use Rattle.std.proofs.lemmas.Grind.{common_steps}
use Rattle.std.specs.Option.{unwrap_or}
use Rattle.vectors.specs.Numbers.{first_number, after_number, numbers}
use Rattle.vectors.proofs.numbers.Numbers.next_are.Goals as goal

both : (s : Bool) (x n : ℕ) (ys zs : List ℕ)
    → (IsTrue (s && nat_eq x n) × (ys ≡ zs)) ↔ (IsTrue s × (x ∷ ys ≡ n ∷ zs))
both s x n ys zs = grind (arith, common_steps)

left : (n i : ℕ) → i < n → n - i ≡ suc (n - (i + 1))
left n i h = omega arith

step : (xs bs cs : List ℕ) (i n : ℕ) (s : Bool)
    → n ≡ unwrap_or (first_number bs) 0 → cs ≡ after_number bs → i < length xs
    → (IsTrue (s && nat_eq (get_or xs i 0) n) × (drop (i + 1) xs ≡ numbers (length xs - (i + 1)) cs))
    ↔ (IsTrue s × (drop i xs ≡ numbers (length xs - i) bs))
step xs bs cs i n s e f h = rw (e, f, left (length xs) i h, add-one, drop-cons xs i 0) (both s _ _ _ _)

pub loop-n-preserved : goal.loop-n-preserved
loop-n-preserved c =
    let r = c.number.ensures in
    let h = c.loop-n-test.true in
    let e = left (length c.args.those.now) c.loop-n.n-index h in
    let s = step c.args.those.now c.loop-n.self.0.now c.number.new.self.0.now c.loop-n.n-index c.number.result c.loop-n.same r.value r.rest h in
    record {
      same = ((λ p. c.loop-n.invariant.same.0 (s.0 p)), (λ q. s.1 (c.loop-n.invariant.same.1 q)));
      rest = rw r.rest (rw e at c.loop-n.invariant.rest);
    }
