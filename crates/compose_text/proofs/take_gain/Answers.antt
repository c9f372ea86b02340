-- `compose_text::take_gain` meets its contract.
use Rattle.std.proofs.Common.{arith}
use Rattle.compose_text.proofs.Taking.{gain_taken, gain_elsewhere}
use Rattle.compose_text.proofs.take_gain.Goals as goal

pub returns-in-Settings : goal.returns-in-Settings
returns-in-Settings c = λ bodies. record { stands = λ p s. gain_taken p s _ c.in-Settings.is; grows = omega arith }

pub returns-in_default : goal.returns-in_default
returns-in_default c = λ bodies. record { stands = λ p s. gain_elsewhere p s _ c.in_default.not-Settings; grows = tt }
