-- `exports::uplink_rows` meets its contract: by what the load says.
use Rattle.std.proofs.Common.{refl}
use Rattle.ground.specs.declared.Refusal.{Refusal}
use Rattle.row_rules.specs.Runs.{refusal_by}
use Rattle.job.specs.Load.{Loaded}
use Rattle.exports.specs.Calls.{told_by, callers_rows_by, callers_rows}
use Rattle.exports.proofs.Tells.{lies, refused, taken, ran_told}
use Rattle.exports.proofs.uplink_rows.Goals as goal

pub returns-in_default : goal.returns-in_default
unfolding callers_rows refusal_by
returns-in_default c =
    let a = c.args in
    refused c.load-loaded.ensures (λ (x : Loaded). told_by (callers_rows_by x a.job.now a.rows.now a.answers.now))
    (λ (r : Refusal). record { refusal = r; out = a.answers.now }) c.in_default.is refl c.leave.ensures c.err.ensures.value

pub run_after-ran-requires : goal.run_after-ran-requires
run_after-ran-requires c = lies c.load-loaded.ensures c.in-Ok.is

pub returns : goal.returns
unfolding callers_rows
returns c =
    let a = c.args in
    let same = rw c.start.ensures at c.run_after-ran.ensures in
    taken c.load-loaded.ensures (λ (x : Loaded). told_by (callers_rows_by x a.job.now a.rows.now a.answers.now)) c.in-Ok.is
    (ran_told _ c.leave-2.ensures c.refusal_of.ensures same)
