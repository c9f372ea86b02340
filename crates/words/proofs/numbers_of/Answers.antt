-- `words::numbers_of` meets its contract: nine words in turn, and whether a tenth is there.
use Rattle.std.proofs.Common.{Option, ℤ, pos, ap, ◌≡◌, ◌∙◌, arith}
use Rattle.std.specs.Option.{unwrap_or}
use Rattle.std.proofs.lemmas.Int.{ints}
use mir.Val.{bool_byte, to_z, of_z}
use mir.Syntax.{w32}
use Rattle.words.proofs.Series.{going_start, going_on, gone}
use Rattle.words.proofs.numbers_of.Goals as goal

pub loop-value-init : goal.loop-value-init
loop-value-init c = going_start _

pub loop-value-preserved : goal.loop-value-preserved
loop-value-preserved c =
    let kept : to_z w32 (of_z w32 c.unwrap_or.result) ≡ c.unwrap_or.result = omega (arith, ints) in
    going_on c.loop-value.invariant c.turn_at-turn.ensures (omega arith)
    (kept ∙ c.unwrap_or.ensures ∙ ap (λ (x : Option ℤ). unwrap_or x (pos 0)) c.flatten.ensures) (c.from-count.ensures ∙ ap bool_byte c.is_some.ensures) c.ne-all.ensures

pub returns : goal.returns
returns c = gone c.loop-value.invariant c.turn_at-tenth.ensures (omega arith) (c.from.ensures ∙ ap bool_byte c.is_some-2.ensures)
