-- `resume_filter::in_range` meets its contract: the test is the rule's, and owning an `f64` tells that the format has it.
use Rattle.std.proofs.Common.{◌≡◌, refl, ◌∙◌, Bool, true, false, ◌||◌, Some, None, Less, Equal, Greater, cond, rules}
use Rattle.std.specs.Prelude.{Float}
use Rattle.std.specs.Float.Ieee.{lt, eq, le, neg, of_bits, of_int}
use Rattle.std.specs.Ordering.{is_some_and, is_le, partial_le, float_partial_cmp}
use Rattle.resume_filter.specs.Scaled.{in_range}
use Rattle.resume_filter.proofs.in_range.Goals as goal

-- `<=` of two numbers by their order
compared : (x y : Float) → partial_le float_partial_cmp x y ≡ le x y
unfolding le
compared x y = by (lt x y) (eq x y) (lt y x)
  where
    by : (l e g : Bool) → is_some_and is_le (cond l (Some Less) (cond e (Some Equal) (cond g (Some Greater) None))) ≡ (l || e)
    by true e g = refl
    by false true g = refl
    by false false true = refl
    by false false false = refl

pub returns : goal.returns
unfolding of_bits of_int in_range neg
returns c =
    let g = c.new.ensures in
    record { is = (rw (g.start, g.end, g.exhausted) at c.contains.ensures.value) ∙ simp compared; fits = search rules }
