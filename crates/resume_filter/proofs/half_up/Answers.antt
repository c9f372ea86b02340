-- `resume_filter::half_up` meets its contract: x is compared with the middle of its whole part and the next number.
use Rattle.std.proofs.Common.{ℕ, ◌+◌, ◌≤◌, T, pos, ◌∙◌, arith, le→leb, w32}
use Rattle.std.proofs.Math.Facts.{to_z_pos}
use Rattle.std.specs.Float.{binary64}
use Rattle.std.specs.Float.Ieee.{of_bits, in_float}
use Rattle.resume_filter.specs.Scaled.{largest}
use Rattle.resume_filter.proofs.Middle.{above_minus_one, below_top, part_most, goes_down, goes_up}
use Rattle.resume_filter.proofs.half_up.Goals as goal

in_float_lem : (n : ℕ) → n ≤ largest → T (in_float binary64 (pos n))
unfolding in_float
in_float_lem n h = le→leb n 9007199254740992 (omega arith)

pub truncating_f64_to_u64-n-requires-clause-lower_bound : goal.truncating_f64_to_u64-n-requires-clause-lower_bound
truncating_f64_to_u64-n-requires-clause-lower_bound c = above_minus_one c.args.x c.requires.1 c.requires.0

pub truncating_f64_to_u64-n-requires-clause-upper_bound : goal.truncating_f64_to_u64-n-requires-clause-upper_bound
truncating_f64_to_u64-n-requires-clause-upper_bound c = below_top c.args.x c.requires.1 c.requires.0

pub int_to_float-middle : goal.int_to_float-middle
int_to_float-middle c =
    let t = c.truncating_f64_to_u64-n in in_float_lem t.result (part_most c.args.x c.requires.1 c.requires.0 t.result t.ensures)

pub overflow_cast-result : goal.overflow_cast-result
overflow_cast-result c =
    let t = c.truncating_f64_to_u64-n in
    let h : t.result ≤ largest = part_most c.args.x c.requires.1 c.requires.0 t.result t.ensures in
    record { sfits = omega arith }

pub overflow_add-result : goal.overflow_add-result
overflow_add-result c =
    let t = c.truncating_f64_to_u64-n in
    let h : t.result ≤ largest = part_most c.args.x c.requires.1 c.requires.0 t.result t.ensures in
    record { fits = omega arith }

pub overflow_cast-result-else-x-middle : goal.overflow_cast-result-else-x-middle
overflow_cast-result-else-x-middle c =
    let t = c.truncating_f64_to_u64-n in
    let h : t.result ≤ largest = part_most c.args.x c.requires.1 c.requires.0 t.result t.ensures in
    record { sfits = omega arith }

pub returns-then-x-middle : goal.returns-then-x-middle
unfolding of_bits
returns-then-x-middle c =
    let t = c.truncating_f64_to_u64-n in
    let h : t.result ≤ largest = part_most c.args.x c.requires.1 c.requires.0 t.result t.ensures in
    to_z_pos w32 {n = t.result} (omega arith) ∙ goes_down c.args.x c.requires.1 c.requires.0 t.result t.ensures c.if-x-middle.true

pub returns-else-x-middle : goal.returns-else-x-middle
unfolding of_bits
returns-else-x-middle c =
    let t = c.truncating_f64_to_u64-n in
    let h : t.result ≤ largest = part_most c.args.x c.requires.1 c.requires.0 t.result t.ensures in
    to_z_pos w32 {n = t.result + 1} (omega arith) ∙ goes_up c.args.x c.requires.1 c.requires.0 t.result t.ensures c.if-x-middle.false
