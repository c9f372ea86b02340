-- `exports_state::set_in` meets its contract: number after number.
use Rattle.exports_state.specs.Packed.{fits_range, flag, word, fitting}
use Rattle.exports_state.proofs.Reading.{off, on, flag_read, word_read}
use Rattle.exports_state.proofs.set_in.Goals as goal

pub returns-in_err-a : goal.returns-in_err-a
unfolding fitting
returns-in_err-a c =
    let a = off (fits_range word c.args.a) _ (word_read c.args.a c.ranges.a _ c.try_from.ensures c.ok.ensures.value) c.in_err-a.was in
    simp (a) c.from_residual.ensures

pub returns-in_err-b : goal.returns-in_err-b
unfolding fitting
returns-in_err-b c =
    let a = on (fits_range word c.args.a) _ (word_read c.args.a c.ranges.a _ c.try_from.ensures c.ok.ensures.value) c.in_ok-a.was in
    let b = off (fits_range word c.args.b) _ (word_read c.args.b c.ranges.b _ c.try_from-2.ensures c.ok-2.ensures.value) c.in_err-b.was in
    simp (a.0, b) c.from_residual-in_err-b.ensures

pub returns-in_err-c : goal.returns-in_err-c
unfolding fitting
returns-in_err-c c =
    let a = on (fits_range word c.args.a) _ (word_read c.args.a c.ranges.a _ c.try_from.ensures c.ok.ensures.value) c.in_ok-a.was in
    let b = on (fits_range word c.args.b) _ (word_read c.args.b c.ranges.b _ c.try_from-2.ensures c.ok-2.ensures.value) c.in_ok-b.was in
    let c' = off (fits_range word c.args.c) _ (word_read c.args.c c.ranges.c _ c.try_from-3.ensures c.ok-3.ensures.value) c.in_err-c.was in
    simp (a.0, b.0, c') c.from_residual-in_err-c.ensures

pub returns-in_err-d : goal.returns-in_err-d
unfolding fitting
returns-in_err-d c =
    let a = on (fits_range word c.args.a) _ (word_read c.args.a c.ranges.a _ c.try_from.ensures c.ok.ensures.value) c.in_ok-a.was in
    let b = on (fits_range word c.args.b) _ (word_read c.args.b c.ranges.b _ c.try_from-2.ensures c.ok-2.ensures.value) c.in_ok-b.was in
    let c' = on (fits_range word c.args.c) _ (word_read c.args.c c.ranges.c _ c.try_from-3.ensures c.ok-3.ensures.value) c.in_ok-c.was in
    let d = off (fits_range word c.args.d) _ (word_read c.args.d c.ranges.d _ c.try_from-4.ensures c.ok-4.ensures.value) c.in_err-d.was in
    simp (a.0, b.0, c'.0, d) c.from_residual-in_err-d.ensures

pub returns-in_err-spoilt : goal.returns-in_err-spoilt
unfolding fitting
returns-in_err-spoilt c =
    let a = on (fits_range word c.args.a) _ (word_read c.args.a c.ranges.a _ c.try_from.ensures c.ok.ensures.value) c.in_ok-a.was in
    let b = on (fits_range word c.args.b) _ (word_read c.args.b c.ranges.b _ c.try_from-2.ensures c.ok-2.ensures.value) c.in_ok-b.was in
    let c' = on (fits_range word c.args.c) _ (word_read c.args.c c.ranges.c _ c.try_from-3.ensures c.ok-3.ensures.value) c.in_ok-c.was in
    let d = on (fits_range word c.args.d) _ (word_read c.args.d c.ranges.d _ c.try_from-4.ensures c.ok-4.ensures.value) c.in_ok-d.was in
    let e = off (fits_range flag c.args.spoilt) _ (flag_read c.args.spoilt c.ranges.spoilt c.flag_in.ensures) c.in_err-spoilt.was in
    simp (a.0, b.0, c'.0, d.0, e) c.from_residual-in_err-spoilt.ensures

pub returns : goal.returns
unfolding fitting
returns c =
    let a = on (fits_range word c.args.a) _ (word_read c.args.a c.ranges.a _ c.try_from.ensures c.ok.ensures.value) c.in_ok-a.was in
    let b = on (fits_range word c.args.b) _ (word_read c.args.b c.ranges.b _ c.try_from-2.ensures c.ok-2.ensures.value) c.in_ok-b.was in
    let c' = on (fits_range word c.args.c) _ (word_read c.args.c c.ranges.c _ c.try_from-3.ensures c.ok-3.ensures.value) c.in_ok-c.was in
    let d = on (fits_range word c.args.d) _ (word_read c.args.d c.ranges.d _ c.try_from-4.ensures c.ok-4.ensures.value) c.in_ok-d.was in
    let e = on (fits_range flag c.args.spoilt) _ (flag_read c.args.spoilt c.ranges.spoilt c.flag_in.ensures) c.in_ok-spoilt.was in
    simp (a.0, b.0, c'.0, d.0, e.0, a.1, b.1, c'.1, d.1, e.1)
