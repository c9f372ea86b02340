-- `compose_text::take_item` meets its contract.
use Rattle.std.proofs.Common.{arith}
use Rattle.compose_text.proofs.Taking.{blank_taken, nothing_taken}
use Rattle.compose_text.proofs.take_item.Goals as goal

pub returns-in-Blank : goal.returns-in-Blank
returns-in-Blank c = rw c.in-Blank.is (record { stands = λ p s. blank_taken p s; grows = omega arith })

pub returns-in-Settings : goal.returns-in-Settings
returns-in-Settings c = rw c.in-Settings.is (c.take_settings.ensures _)

pub returns-in-Gain : goal.returns-in-Gain
returns-in-Gain c = rw c.in-Gain.is (c.take_gain.ensures _)

pub returns-in-Unreadable : goal.returns-in-Unreadable
returns-in-Unreadable c = rw c.in-Unreadable.is (record { stands = λ p s. nothing_taken p s; grows = tt })
