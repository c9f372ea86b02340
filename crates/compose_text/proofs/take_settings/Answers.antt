-- `compose_text::take_settings` meets its contract.
use Rattle.std.proofs.Common.{arith}
use Rattle.compose_text.proofs.Taking.{settings_taken, settings_again}
use Rattle.compose_text.proofs.take_settings.Goals as goal

pub returns-in-Nothing : goal.returns-in-Nothing
returns-in-Nothing c = λ bodies. record { stands = λ p s. settings_taken p s _ c.in-Nothing.is; grows = omega arith }

pub returns-in_default : goal.returns-in_default
returns-in_default c = λ bodies. record { stands = λ p s. settings_again p s _ c.in_default.not-Nothing; grows = tt }
