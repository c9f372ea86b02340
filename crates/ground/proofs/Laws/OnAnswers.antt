-- What a promise leaves open. A public promise is an equation, `answer ≡ meaning of the inputs`, or a record of which
-- that is a part: it allows one answer.
-- Assumes nothing.
use Rattle.std.specs.Prelude.{◌≡◌}
use Rattle.std.proofs.Common.{sym, ◌∙◌}

-- two answers that an equation allows are equal
pub one_answer : {A : Type 0} {meaning answer other : A} → answer ≡ meaning → other ≡ meaning → answer ≡ other
one_answer p q = p ∙ sym q
