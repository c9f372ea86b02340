-- `exports_state::unpack` meets its contract: number after number, and part after part.
use Rattle.std.specs.Prelude.{ℤ, [], ◌∷◌, FitsSigned, Some}
use Rattle.std.proofs.Common.{sym, ap, ◌∙◌, rules, lit<, w32, w64}
use mir.Val.{to_z, of_z}
use Rattle.std.proofs.lemmas.Int.{to_z-of_z}
use Rattle.exports_state.specs.Packed.{fits_range, fitting, flag, signed, byte, word, nth, run_ranges, opening_ranges, set_ranges}
use Rattle.exports_state.proofs.Laws.Packed.{unpack_told, other_count, other_version}
use Rattle.exports_state.proofs.Reading.{off, on, flag_read, word_read, byte_read, signed_read, signed_fits, number_of}
use Rattle.exports_state.proofs.Unpacking.{number_off, run_off, opening_off, set_off, all_read}
use Rattle.exports_state.proofs.unpack.Goals as goal

pub returns-then-numbers-ne-STATE_NUMBERS : goal.returns-then-numbers-ne-STATE_NUMBERS
returns-then-numbers-ne-STATE_NUMBERS c = unpack_told _ _ (sym (other_count c.args.numbers.now c.args.level c.if-numbers-ne-STATE_NUMBERS.true))

pub returns-then-numbers-ne-STATE_VERSION : goal.returns-then-numbers-ne-STATE_VERSION
returns-then-numbers-ne-STATE_VERSION c =
    unpack_told _ _ (sym (other_version c.args.numbers.now c.args.level (λ e. c.if-numbers-ne-STATE_VERSION.true (ap (of_z w64) e))))

pub returns-in_err-row : goal.returns-in_err-row
returns-in_err-row c =
    let ns = c.args.numbers.now in
    let fit : FitsSigned w64 (nth ns 1) = search rules in
    unpack_told _ _ (c.from_residual.ensures ∙ sym (number_off ns c.args.level 1 (lit< tt) (off (fits_range word (nth ns 1)) _ (word_read _ fit _ c.try_from.ensures c.ok.ensures.value) c.in_err-row.was)))

pub returns-in_err-sent : goal.returns-in_err-sent
returns-in_err-sent c =
    let ns = c.args.numbers.now in
    let fit : FitsSigned w64 (nth ns 2) = search rules in
    unpack_told _ _ (c.from_residual-in_err-sent.ensures ∙ sym (number_off ns c.args.level 2 (lit< tt) (off (fits_range flag (nth ns 2)) _ (flag_read _ fit c.flag_in.ensures) c.in_err-sent.was)))

pub returns-in_err-power : goal.returns-in_err-power
returns-in_err-power c =
    let ns = c.args.numbers.now in
    let fit : FitsSigned w64 (nth ns 3) = search rules in
    unpack_told _ _ (c.from_residual-in_err-power.ensures ∙ sym (number_off ns c.args.level 3 (lit< tt) (off (fits_range signed (nth ns 3)) _ (signed_read _ fit _ c.try_from-2.ensures c.ok-2.ensures.value) c.in_err-power.was)))

pub returns-in_err-held : goal.returns-in_err-held
returns-in_err-held c =
    let ns = c.args.numbers.now in
    let fit : FitsSigned w64 (nth ns 4) = search rules in
    unpack_told _ _ (c.from_residual-in_err-held.ensures ∙ sym (number_off ns c.args.level 4 (lit< tt) (off (fits_range signed (nth ns 4)) _ (signed_read _ fit _ c.try_from-3.ensures c.ok-3.ensures.value) c.in_err-held.was)))

pub returns-in_err-pilots : goal.returns-in_err-pilots
returns-in_err-pilots c =
    let ns = c.args.numbers.now in
    let fit : FitsSigned w64 (nth ns 5) = search rules in
    unpack_told _ _ (c.from_residual-in_err-pilots.ensures ∙ sym (number_off ns c.args.level 5 (lit< tt) (off (fits_range byte (nth ns 5)) _ (byte_read _ fit _ c.try_from-4.ensures c.ok-4.ensures.value) c.in_err-pilots.was)))

pub returns-in_err-limited : goal.returns-in_err-limited
returns-in_err-limited c =
    let ns = c.args.numbers.now in
    let fit : FitsSigned w64 (nth ns 6) = search rules in
    unpack_told _ _ (c.from_residual-in_err-limited.ensures ∙ sym (number_off ns c.args.level 6 (lit< tt) (off (fits_range flag (nth ns 6)) _ (flag_read _ fit c.flag_in-2.ensures) c.in_err-limited.was)))

pub returns-in_err-run : goal.returns-in_err-run
returns-in_err-run c =
    let ns = c.args.numbers.now in
    let fit7 : FitsSigned w64 (nth ns 7) = search rules in
    let fit8 : FitsSigned w64 (nth ns 8) = search rules in
    unpack_told _ _ (c.from_residual-in_err-run.ensures ∙ sym (run_off ns c.args.level (off (fitting run_ranges (nth ns 7 ∷ nth ns 8 ∷ [])) _ (rw (to_z-of_z w64 _ fit7, to_z-of_z w64 _ fit8) at c.run_in.ensures) c.in_err-run.was)))

pub returns-in_err-opening : goal.returns-in_err-opening
returns-in_err-opening c =
    let ns = c.args.numbers.now in
    let fit9 : FitsSigned w64 (nth ns 9) = search rules in
    let fit10 : FitsSigned w64 (nth ns 10) = search rules in
    unpack_told _ _ (c.from_residual-in_err-opening.ensures ∙ sym (opening_off ns c.args.level (off (fitting opening_ranges (nth ns 9 ∷ nth ns 10 ∷ [])) _ (rw (to_z-of_z w64 _ fit9, to_z-of_z w64 _ fit10) at c.opening_in.ensures) c.in_err-opening.was)))

pub returns-in_err-set : goal.returns-in_err-set
returns-in_err-set c =
    let ns = c.args.numbers.now in
    let fit11 : FitsSigned w64 (nth ns 11) = search rules in
    let fit12 : FitsSigned w64 (nth ns 12) = search rules in
    let fit13 : FitsSigned w64 (nth ns 13) = search rules in
    let fit14 : FitsSigned w64 (nth ns 14) = search rules in
    let fit15 : FitsSigned w64 (nth ns 15) = search rules in
    unpack_told _ _ (c.from_residual-in_err-set.ensures ∙ sym (set_off ns c.args.level (off (fitting set_ranges (nth ns 11 ∷ nth ns 12 ∷ nth ns 13 ∷ nth ns 14 ∷ nth ns 15 ∷ [])) _ (rw (to_z-of_z w64 _ fit11, to_z-of_z w64 _ fit12, to_z-of_z w64 _ fit13, to_z-of_z w64 _ fit14, to_z-of_z w64 _ fit15) at c.set_in.ensures) c.in_err-set.was)))

pub returns-in_err-count : goal.returns-in_err-count
returns-in_err-count c =
    let ns = c.args.numbers.now in
    let fit : FitsSigned w64 (nth ns 16) = search rules in
    unpack_told _ _ (c.from_residual-in_err-count.ensures ∙ sym (number_off ns c.args.level 16 (lit< tt) (off (fits_range word (nth ns 16)) _ (word_read _ fit _ c.try_from-5.ensures c.ok-5.ensures.value) c.in_err-count.was)))

pub returns : goal.returns
returns c =
    let ns = c.args.numbers.now in
    let fit0 : FitsSigned w64 (nth ns 0) = search rules in
    let fit1 : FitsSigned w64 (nth ns 1) = search rules in
    let fit2 : FitsSigned w64 (nth ns 2) = search rules in
    let fit3 : FitsSigned w64 (nth ns 3) = search rules in
    let fit4 : FitsSigned w64 (nth ns 4) = search rules in
    let fit5 : FitsSigned w64 (nth ns 5) = search rules in
    let fit6 : FitsSigned w64 (nth ns 6) = search rules in
    let fit7 : FitsSigned w64 (nth ns 7) = search rules in
    let fit8 : FitsSigned w64 (nth ns 8) = search rules in
    let fit9 : FitsSigned w64 (nth ns 9) = search rules in
    let fit10 : FitsSigned w64 (nth ns 10) = search rules in
    let fit11 : FitsSigned w64 (nth ns 11) = search rules in
    let fit12 : FitsSigned w64 (nth ns 12) = search rules in
    let fit13 : FitsSigned w64 (nth ns 13) = search rules in
    let fit14 : FitsSigned w64 (nth ns 14) = search rules in
    let fit15 : FitsSigned w64 (nth ns 15) = search rules in
    let fit16 : FitsSigned w64 (nth ns 16) = search rules in
    let row = on (fits_range word (nth ns 1)) _ (word_read _ fit1 _ c.try_from.ensures c.ok.ensures.value) c.in_ok-row.was in
    let sent = on (fits_range flag (nth ns 2)) _ (flag_read _ fit2 c.flag_in.ensures) c.in_ok-sent.was in
    let power = on (fits_range signed (nth ns 3)) _ (signed_read _ fit3 _ c.try_from-2.ensures c.ok-2.ensures.value) c.in_ok-power.was in
    let held = on (fits_range signed (nth ns 4)) _ (signed_read _ fit4 _ c.try_from-3.ensures c.ok-3.ensures.value) c.in_ok-held.was in
    let pilots = on (fits_range byte (nth ns 5)) _ (byte_read _ fit5 _ c.try_from-4.ensures c.ok-4.ensures.value) c.in_ok-pilots.was in
    let limited = on (fits_range flag (nth ns 6)) _ (flag_read _ fit6 c.flag_in-2.ensures) c.in_ok-limited.was in
    let run = on (fitting run_ranges (nth ns 7 ∷ nth ns 8 ∷ [])) _ (rw (to_z-of_z w64 _ fit7, to_z-of_z w64 _ fit8) at c.run_in.ensures) c.in_ok-run.was in
    let opening = on (fitting opening_ranges (nth ns 9 ∷ nth ns 10 ∷ [])) _ (rw (to_z-of_z w64 _ fit9, to_z-of_z w64 _ fit10) at c.opening_in.ensures) c.in_ok-opening.was in
    let set = on (fitting set_ranges (nth ns 11 ∷ nth ns 12 ∷ nth ns 13 ∷ nth ns 14 ∷ nth ns 15 ∷ [])) _ (rw (to_z-of_z w64 _ fit11, to_z-of_z w64 _ fit12, to_z-of_z w64 _ fit13, to_z-of_z w64 _ fit14, to_z-of_z w64 _ fit15) at c.set_in.ensures) c.in_ok-set.was in
    let count = on (fits_range word (nth ns 16)) _ (word_read _ fit16 _ c.try_from-5.ensures c.ok-5.ensures.value) c.in_ok-count.was in
    let power_is = ap (λ (z : ℤ). to_z w32 (of_z w32 z)) power.1 ∙ signed_fits _ power.0 in
    let held_is = ap (λ (z : ℤ). to_z w32 (of_z w32 z)) held.1 ∙ signed_fits _ held.0 in
    unpack_told _ _
    ((λ i.
    Some (record {
      row = row.1 i;
      sent = sent.1 i;
      power = power_is i;
      held = held_is i;
      pilots = pilots.1 i;
      limited = limited.1 i;
      run = run.1 i;
      opening = opening.1 i;
      set = set.1 i;
      filter = record { level = c.args.level; count = count.1 i };
    }))
    ∙ all_read ns c.args.level c.if-numbers-ne-STATE_NUMBERS.false (number_of _ fit0 c.if-numbers-ne-STATE_VERSION.false) row.0 sent.0 power.0 held.0 pilots.0 limited.0 run.0 opening.0
    set.0 count.0)
