use Rattle.std.proofs.Common.{◌≡◌, ℕ, Bool, ◌+◌, drop}
use Rattle.words.specs.Text.{before}
use Rattle.words.proofs.find.Given as goal

abbrev pub invariant-loop-k : goal.invariant-loop-k
invariant-loop-k g l =
    (passes : ℕ → Bool) → ((b : ℕ) (r : Bool) → goal.F-post g l.test b r → r ≡ passes b) →
    l.at + before passes (drop l.at l.s) ≡ l.k + before passes (drop l.k l.s)
