-- `row::sent_answer` meets its contract: its numbers are read as they are, and total power fits.
use Rattle.std.proofs.Common.{arith, ℤ, ◌+ℤ◌}
use Rattle.std.specs.Int.{w8, w32}
use Rattle.std.proofs.lemmas.Int.{to_z-of_z}
use mir.Val.{SFits}
use Rattle.ground.proofs.Laws.Integers.Fits.{same}
use Rattle.ground.proofs.Laws.Integers.Parts.{sum}
use Rattle.ground.proofs.Laws.Integers.Signs.{signs}
use Rattle.power.specs.declared.Gain.{Gain}
use Rattle.row.specs.Asks.{Answering}
use Rattle.row_rules.specs.Rules.{sent_answer}
use Rattle.row.proofs.sent_answer.Goals as goal

module _ {g : Gain} {power : ℤ} (h : Answering g power) where
  power_fits : SFits w32 power
  power_fits = let p = h.power_in in omega signs

  bracket_fits : SFits w32 g.bracket
  bracket_fits = let b = h.gain.bracket_in in omega signs

  sum_fits : SFits w32 (power +ℤ g.bracket)
  sum_fits = let p = h.power_in in let b = h.gain.bracket_in in omega (signs, sum power g.bracket)

pub returns : goal.returns
unfolding sent_answer
returns c =
    let d = c.data_power in
    let t = c.sent_state in
    let p = to_z-of_z w32 _ (power_fits c.requires) in
    let command = simp (to_z-of_z w8 _ c.ranges.command) at c.from.ensures in
    simp (
      p,
      to_z-of_z w32 _ (bracket_fits c.requires),
      to_z-of_z w32 _ (sum_fits c.requires),
      same w32 c.args.b.held (omega arith),
      same w32 t.result t.type_inv,
      same w32 d.result d.type_inv,
      same w32 c.from.result c.from.type_inv,
      same w32 c.from-2.result c.from-2.type_inv,
      same w32 c.from-3.result c.from-3.type_inv,
    )
    (simp (t.ensures, simp p at d.ensures, command, c.from-2.ensures, c.from-3.ensures))
