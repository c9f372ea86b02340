-- `compose_text::compose` meets its contract.
use Rattle.std.proofs.Common.{◌≡◌, ◌≤◌, length, arith, rules}
use Rattle.constants.specs.Sizes.{text_most}
use Rattle.std.proofs.lemmas.Result.{err_from_is_err_and}
use Rattle.compose_text.specs.declared.ComposeError.{ComposeError}
use Rattle.compose_text.proofs.Ending.{same_ok, same_err, gave, too_long, line_unreadable, all_read}
use Rattle.compose_text.proofs.compose.Goals as goal

pub returns-then-text-gt-TEXT_MOST : goal.returns-then-text-gt-TEXT_MOST
returns-then-text-gt-TEXT_MOST c = too_long _ _ (omega arith)

pub returns-in_err-st : goal.returns-in_err-st
returns-in_err-st c =
    let few : length c.args.text.now ≤ text_most = omega arith in
    let p = err_from_is_err_and c.from_residual.result c.from_residual.ensures.1 in
    rw (p.1, p.2) (same_err c.read_lines.result c.map_err.result _ c.map_err.ensures.cases c.in_err-st.was
    (λ n e h. let d : c.in_err-st.field-0.0 ≡ ComposeError.Unreadable n = search rules in
    rw d (line_unreadable c.args.text.now few c.args.out.now c.read_lines.new.bodies e c.read_lines.ensures)))

pub finish-requires : goal.finish-requires
finish-requires c =
    let s = (gave _ (same_ok _ _ _ c.map_err.ensures.cases c.in_ok-st.was) c.read_lines.ensures).stands in
    record { room = search rules; within = omega (arith, s.records_is, s.used_is) }

pub returns : goal.returns
returns c =
    let g = gave _ (same_ok _ _ _ c.map_err.ensures.cases c.in_ok-st.was) c.read_lines.ensures in
    all_read _ (omega arith) _ g (c.finish.ensures g.gave g.stands)
