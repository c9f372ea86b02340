-- `row_change::by_resume` meets its contract: a resume change of any state and a pilot change of any pilots are together far from the ends of an i32.
use Rattle.std.proofs.Common.{◌≡◌, le_trans, lit≤, ◌+ℤ◌, rules, arith}
use Rattle.std.specs.Int.{w32, w8}
use Rattle.std.specs.Int.Signed.{nat_abs-le}
use Rattle.std.proofs.lemmas.Int.{to_z-of_z}
use mir.Val.{SFits}
use Rattle.ground.proofs.Laws.Integers.Fits.{same}
use Rattle.ground.proofs.Laws.Integers.Parts.{sum}
use Rattle.ground.proofs.Laws.Integers.Signs.{signs}
use Rattle.ground.proofs.Laws.Integers.Products.{abs_in}
use Rattle.power.specs.Steps.{step_units}
use Rattle.power.proofs.Laws.Steps.{step_most, pilots_any}
use Rattle.resume_filter.proofs.Laws.Resuming.{resume_any}
use Rattle.resume_filter.specs.Resuming.{resume_of, whole_units_of}
use Rattle.row_change.specs.Change.{by_resume}
use Rattle.row_change.proofs.by_resume.Goals as goal

-- the resume change, as the rule has it, and that the sum fits
module _ (c : goal.After-pilot_change-pilot) where
  whole : c.whole_units-whole.result
      ≡ whole_units_of (resume_of c.args.s.itp (step_units c.args.s.step) c.args.st.opening.command c.args.st.filter)
  whole =
      let e = simp (same w8 c.args.st.opening.command (omega arith), c.step_units-step.ensures) at c.resume_change-resume.ensures.is in
      rw e at c.whole_units-whole.ensures

  sum_fits : SFits w32 (c.whole_units-whole.result +ℤ c.pilot_change-pilot.result)
  sum_fits =
      let st = c.args.st in
      let w = resume_any c.args.s.itp (step_units c.args.s.step) st.opening.command st.filter (nat_abs-le st.opening.command (omega arith))
      (le_trans (step_most c.args.s.step) (lit≤ tt)) (search rules) in
      let i = abs_in c.whole_units-whole.result {e = 32640} (rw whole w) in
      let j = abs_in c.pilot_change-pilot.result {e = 2046} (rw c.pilot_change-pilot.ensures (pilots_any st.pilots c.args.pilots)) in
      omega (signs, sum c.whole_units-whole.result c.pilot_change-pilot.result)

pub overflow_add-result : goal.overflow_add-result
overflow_add-result c =
    let p = c.pilot_change-pilot in
    let w = c.whole_units-whole in
    simp (same w32 p.result p.type_inv, same w32 w.result w.type_inv) (sum_fits c)

pub returns : goal.returns
unfolding by_resume
returns c =
    let p = c.pilot_change-pilot in
    let w = c.whole_units-whole in
    simp (same w32 p.result p.type_inv, same w32 w.result w.type_inv, to_z-of_z w32 _ (sum_fits c)) (simp (whole c, p.ensures))
