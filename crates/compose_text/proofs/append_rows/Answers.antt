-- `compose_text::append_rows` meets its contract.
use Rattle.std.proofs.Common.{arith}
use Rattle.compose_text.proofs.Appends.{rows_passed, none_yet, one_more, all_stored}
use Rattle.compose_text.proofs.append_rows.Goals as goal

pub returns-then-bodies-next : goal.returns-then-bodies-next
returns-then-bodies-next c = rows_passed _ _ _ _ _ (omega arith) (omega arith)

pub loop-k-init : goal.loop-k-init
loop-k-init c = none_yet _ _ _ _

pub loop-k-preserved : goal.loop-k-preserved
loop-k-preserved c = one_more (omega arith) c.loop-k.invariant

pub returns : goal.returns
returns c = all_stored (omega arith) c.loop-k.invariant
