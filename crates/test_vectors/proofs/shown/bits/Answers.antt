-- `shown::bits` is safe: what is in the range is no NaN.
use Rattle.std.proofs.Common.{T, not, sym, ◌∙◌}
use lib.Ieee.{Float, nan, inf, fin, is_nan}
use lib.Ieee.Scale.{finite}
use Rattle.resume_filter.proofs.Laws.Scaled.{range_in}
use Rattle.test_vectors.proofs.shown.bits.Goals as goal

no_nan : (x : Float) → T (finite x) → T (not (is_nan x))
unfolding is_nan
no_nan nan h = absurd h
no_nan (inf s) h = absurd h
no_nan (fin s m e) h = tt

pub float_to_bits-result : goal.float_to_bits-result
float_to_bits-result c =
    let t = c.in_range.ensures in
    no_nan c.args.level (range_in c.args.level t.fits (sym t.is ∙ c.if-in_range.true)).finite
