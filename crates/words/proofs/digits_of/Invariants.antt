use Rattle.std.proofs.Common.{◌≡◌, ◌<◌, ◌^◌, drop}
use Rattle.words.specs.Text.Parts.{digits_of, digits_after}
use Rattle.words.proofs.digits_of.Given as goal

abbrev pub invariant-loop-b : goal.invariant-loop-b
invariant-loop-b l = (l.value < 10 ^ l.b-index) × (digits_of l.word ≡ digits_after l.value (drop l.b-index l.word))
