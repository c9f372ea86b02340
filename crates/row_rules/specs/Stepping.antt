-- What a step answers: the next state and the row's answer, or a refusal.
-- Definitions, to be believed.
use Rattle.std.specs.Prelude.{Result}
use Rattle.ground.specs.declared.Refusal.{Refusal}
use Rattle.row_state.specs.declared.State.{State}
use Rattle.row_values.specs.declared.Answer.{Answer}

abbrev pub Stepped : Type 0
Stepped = Result (State × Answer) Refusal
