-- `exports_state::opening_in` meets its contract: number after number.
use Rattle.exports_state.specs.Packed.{fits_range, flag, small, fitting}
use Rattle.exports_state.proofs.Reading.{off, on, flag_read, small_read, small_fits}
use Rattle.exports_state.proofs.opening_in.Goals as goal

pub returns-in_err-seen : goal.returns-in_err-seen
unfolding fitting
returns-in_err-seen c =
    let e = off (fits_range flag c.args.seen) _ (flag_read c.args.seen c.ranges.seen c.flag_in.ensures) c.in_err-seen.was in
    simp e c.from_residual.ensures

pub returns-in_err-command : goal.returns-in_err-command
unfolding fitting
returns-in_err-command c =
    let z = c.args.command in
    let d = on (fits_range flag c.args.seen) _ (flag_read c.args.seen c.ranges.seen c.flag_in.ensures) c.in_ok-seen.was in
    let e = off (fits_range small z) _ (small_read z c.ranges.command _ c.try_from.ensures c.ok.ensures.value) c.in_err-command.was in
    simp (d.0, e) c.from_residual-in_err-command.ensures

pub returns : goal.returns
unfolding fitting
returns c =
    let z = c.args.command in
    let d = on (fits_range flag c.args.seen) _ (flag_read c.args.seen c.ranges.seen c.flag_in.ensures) c.in_ok-seen.was in
    let e = on (fits_range small z) _ (small_read z c.ranges.command _ c.try_from.ensures c.ok.ensures.value) c.in_ok-command.was in
    simp (d.0, e.0, d.1, e.1, small_fits z e.0)
