-- What is left of both is equal exactly where the whole is, unless a difference was found.
use Rattle.std.proofs.Common.{◌≡◌, ◌-◌, ◌↔◌, IsTrue, length, drop}
use Rattle.vectors.specs.Numbers.{numbers, after_numbers}
use Rattle.vectors.proofs.numbers.Numbers.next_are.Given as goal

abbrev pub invariant-loop-n : goal.invariant-loop-n
invariant-loop-n l = record {
  same : (IsTrue l.same × (drop l.n-index l.those ≡ numbers (length l.those - l.n-index) l.self.0.now))
      ↔ (l.those ≡ numbers (length l.those) l.initial.self.0.now);
  rest : after_numbers (length l.those - l.n-index) l.self.0.now ≡ after_numbers (length l.those) l.initial.self.0.now;
}
