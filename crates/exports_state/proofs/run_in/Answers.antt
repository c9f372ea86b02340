-- `exports_state::run_in` meets its contract: number after number.
use Rattle.exports_state.specs.Packed.{fits_range, byte, fitting}
use Rattle.exports_state.proofs.Reading.{off, on, byte_read}
use Rattle.exports_state.proofs.run_in.Goals as goal

pub returns-in_err-length : goal.returns-in_err-length
unfolding fitting
returns-in_err-length c =
    let z = c.args.length in
    let e = off (fits_range byte z) _ (byte_read z c.ranges.length _ c.try_from.ensures c.ok.ensures.value) c.in_err-length.was in
    simp e c.from_residual.ensures

pub returns-in_err-left : goal.returns-in_err-left
unfolding fitting
returns-in_err-left c =
    let y = c.args.length in
    let z = c.args.left in
    let d = on (fits_range byte y) _ (byte_read y c.ranges.length _ c.try_from.ensures c.ok.ensures.value) c.in_ok-length.was in
    let e = off (fits_range byte z) _ (byte_read z c.ranges.left _ c.try_from-2.ensures c.ok-2.ensures.value) c.in_err-left.was in
    simp (d.0, e) c.from_residual-in_err-left.ensures

pub returns : goal.returns
unfolding fitting
returns c =
    let y = c.args.length in
    let z = c.args.left in
    let d = on (fits_range byte y) _ (byte_read y c.ranges.length _ c.try_from.ensures c.ok.ensures.value) c.in_ok-length.was in
    let e = on (fits_range byte z) _ (byte_read z c.ranges.left _ c.try_from-2.ensures c.ok-2.ensures.value) c.in_ok-left.was in
    simp (d.0, e.0, d.1, e.1)
