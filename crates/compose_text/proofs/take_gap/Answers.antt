-- `compose_text::take_gap` meets its contract.
use Rattle.compose_text.proofs.Taking.{gap_taken, gap_grows, gap_late}
use Rattle.compose_text.proofs.take_gap.Goals as goal

pub returns-in-Gain : goal.returns-in-Gain
returns-in-Gain c =
    let a = rw c.record_bytes-record.ensures at c.append-used.ensures in
    record { stands = λ p s. gap_taken p s _ c.in-Gain.is a; grows = gap_grows _ a }

pub returns-in_default : goal.returns-in_default
returns-in_default c = record { stands = λ p s. gap_late p s _ c.in_default.not-Gain; grows = tt }
