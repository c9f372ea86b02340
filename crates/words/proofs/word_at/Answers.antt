-- `words::word_at` meets its contract.
use Rattle.std.proofs.Common.{ℕ, not, rules}
use Rattle.words.specs.Text.{blank}
use Rattle.words.proofs.Turns.{word_told}
use Rattle.words.proofs.word_at.Goals as goal

pub returns : goal.returns
returns c = word_told _ _ (c.find-begin.ensures (λ (b : ℕ). not (blank b)) (λ b r p. search rules)) (c.find-end.ensures blank (λ b r p. search rules))
