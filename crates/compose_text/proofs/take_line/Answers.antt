-- `compose_text::take_line` meets its contract.
use Rattle.compose_text.proofs.Along.{line_unclear}
use Rattle.compose_text.proofs.take_line.Goals as goal

pub returns-else-clear : goal.returns-else-clear
returns-else-clear c = line_unclear _ c.if-clear.false
