-- Numbers that are read one after the other: the state that they are where each fits, and none where one does not.
-- Assumes nothing.
use Rattle.std.specs.Prelude.{ℕ, zero, suc, ◌+◌, ◌≡◌, ◌<◌, true, false, List, [], ◌∷◌, ℤ, pos, Float, length, get_or, drop, Some, None}
use Rattle.std.proofs.Common.{sym, ap, ◌∙◌, arith, lit<, drop_of_length-le, drop-cons}
use Rattle.ground.proofs.Laws.Choice.{clash, if_true, if_false}
use Rattle.row_state.specs.declared.State.{State}
use Rattle.exports_state.specs.Packed.{Range, fits_range, fitting, flag, signed, byte, word, range, nth, size, truth, state_version, state_numbers, state_ranges}
use Rattle.exports_state.specs.Packed.{run_ranges, opening_ranges, set_ranges, run_from, opening_from, set_from, state_from, unpacked_of}
use Rattle.exports_state.specs.Packed.Parts.{Fits, none, one}
use Rattle.exports_state.proofs.Reading.{not_so}
use Rattle.exports_state.proofs.Laws.Packed.Parts.{fits_fitting, fitting_fits, joined}

-- ---- number by number

fits_at : {rs : List Range} {ns : List ℤ} (k : ℕ) (r : Range) → k < length rs → Fits rs ns → fits_range (get_or rs k r) (nth ns k) ≡ true
fits_at k r l none = let z : ⊥ = omega arith in absurd z
fits_at zero r l (one n e f) = e
fits_at (suc k) r l (one n e f) = fits_at k r (omega arith) f

-- n numbers from number k on
items : List ℤ → ℕ → ℕ → List ℤ
items ns k zero = []
items ns k (suc n) = nth ns k ∷ items ns (suc k) n

items_are : (ns : List ℤ) (k n : ℕ) → k + n ≡ length ns → drop k ns ≡ items ns k n
unfolding items
items_are ns k zero e = drop_of_length-le ns {i = k} (omega arith)
items_are ns k (suc n) e = drop-cons ns k (pos 0) (omega arith) ∙ ap (λ (l : List ℤ). nth ns k ∷ l) (items_are ns (suc k) n (omega arith))

module _ (ns : List ℤ) (level : Float) where
  -- ---- one that does not fit

  none_by : (fitting state_ranges ns ≡ true → ⊥) → unpacked_of ns level ≡ None
  unfolding unpacked_of
  none_by n = sym (if_false _ _ (not_so _ n))

  -- one test of the ranges that the numbers pass
  at : (k : ℕ) → k < state_numbers → fitting state_ranges ns ≡ true → fits_range (get_or state_ranges k flag) (nth ns k) ≡ true
  at k l e = fits_at k flag l (fitting_fits state_ranges ns e)

  pub number_off : (k : ℕ) → k < state_numbers → fits_range (get_or state_ranges k flag) (nth ns k) ≡ false → unpacked_of ns level ≡ None
  number_off k l e = none_by (λ f. clash (at k l f) e)

  pub run_off : fitting run_ranges (nth ns 7 ∷ nth ns 8 ∷ []) ≡ false → unpacked_of ns level ≡ None
  run_off e = none_by (λ f. clash (fits_fitting (one _ (at 7 (lit< tt) f) (one _ (at 8 (lit< tt) f) none))) e)

  pub opening_off : fitting opening_ranges (nth ns 9 ∷ nth ns 10 ∷ []) ≡ false → unpacked_of ns level ≡ None
  opening_off e = none_by (λ f. clash (fits_fitting (one _ (at 9 (lit< tt) f) (one _ (at 10 (lit< tt) f) none))) e)

  pub set_off : fitting set_ranges (nth ns 11 ∷ nth ns 12 ∷ nth ns 13 ∷ nth ns 14 ∷ nth ns 15 ∷ []) ≡ false → unpacked_of ns level ≡ None
  set_off e =
      none_by
      (λ f. clash
      (fits_fitting
      (one _ (at 11 (lit< tt) f)
      (one _ (at 12 (lit< tt) f) (one _ (at 13 (lit< tt) f) (one _ (at 14 (lit< tt) f) (one _ (at 15 (lit< tt) f) none))))))
      e)

  -- ---- all of them

  abbrev read_from : State
  read_from =
      record {
        row = size ns 1;
        sent = truth ns 2;
        power = nth ns 3;
        held = nth ns 4;
        pilots = size ns 5;
        limited = truth ns 6;
        run = run_from (nth ns 7 ∷ nth ns 8 ∷ []);
        opening = opening_from (nth ns 9 ∷ nth ns 10 ∷ []);
        set = set_from (nth ns 11 ∷ nth ns 12 ∷ nth ns 13 ∷ nth ns 14 ∷ nth ns 15 ∷ []);
        filter = record { level = level; count = size ns 16 };
      }

  pub all_read : length ns ≡ state_numbers → nth ns 0 ≡ pos state_version → fits_range word (nth ns 1) ≡ true → fits_range flag (nth ns 2) ≡ true →
      fits_range signed (nth ns 3) ≡ true → fits_range signed (nth ns 4) ≡ true → fits_range byte (nth ns 5) ≡ true →
      fits_range flag (nth ns 6) ≡ true → fitting run_ranges (nth ns 7 ∷ nth ns 8 ∷ []) ≡ true →
      fitting opening_ranges (nth ns 9 ∷ nth ns 10 ∷ []) ≡ true →
      fitting set_ranges (nth ns 11 ∷ nth ns 12 ∷ nth ns 13 ∷ nth ns 14 ∷ nth ns 15 ∷ []) ≡ true → fits_range word (nth ns 16) ≡ true →
      Some read_from ≡ unpacked_of ns level
  unfolding unpacked_of state_from items
  all_read long version row sent power held pilots limited run opening set count =
      let listed = items_are ns 0 17 (sym long) in
      let first : fits_range (range (pos state_version) (pos state_version)) (nth ns 0) ≡ true = rw version in
      let all : fitting state_ranges ns ≡ true =
      ap (fitting state_ranges) listed
      ∙ fits_fitting
      (one _ first
      (one _ row
      (one _ sent
      (one _ power
      (one _ held
      (one _ pilots
      (one _ limited
      (joined (fitting_fits run_ranges _ run)
      (joined (fitting_fits opening_ranges _ opening) (joined (fitting_fits set_ranges _ set) (one _ count none))))))))))) in
      sym (ap (λ (l : List ℤ). Some (state_from l level)) listed) ∙ if_true _ _ all
