-- A state that is packed and unpacked is the state, and numbers that are unpacked and packed are the numbers.
-- Assumes nothing.
pub mod Parts
use Rattle.std.specs.Prelude.{ℕ, zero, suc, ◌+◌, ◌-◌, ◌^◌, ◌≤◌, ◌<◌, ◌≡◌, ◌↔◌, Bool, true, false, Float, ℤ, negsuc, nat_abs, length, ◌≤ℤ◌, Some, None, Option}
use Rattle.std.proofs.Math.Path.{refl, sym, ap}
use Rattle.std.proofs.Common.{◌∙◌, subst, arith, lit<}
use mathlib.Core.List.{List, [], ◌∷◌, ◌++◌}
use Rattle.std.proofs.Math.Nat.{pow-le-pow_right}
use Rattle.std.proofs.Math.IntN.{pos}
use Rattle.std.specs.Int.Signed.{lt_z}
use Rattle.ground.proofs.Laws.OnAnswers.{one_answer}
use Rattle.ground.proofs.Laws.Choice.{if_true, if_false, either}
use Rattle.ground.specs.Integers.{Within, within}
use Rattle.ground.proofs.Laws.Integers.Products.{abs_in}
use Rattle.ground.proofs.Laws.Integers.Signs.{signs, within_yes, yes_within}
use Rattle.constants.specs.Sizes.{rows_most}
use Rattle.gap_runs.specs.declared.Run.{Run}
use Rattle.gap_runs.specs.Runs.{RunIn}
use Rattle.command_algorithms.specs.declared.Set.{Set}
use Rattle.command_algorithms.specs.Sets.{IsSet}
use Rattle.resume_filter.specs.declared.Filter.{Filter}
use Rattle.resume_filter.specs.Update.{IsFilter}
use Rattle.row_state.specs.declared.Opening.{Opening}
use Rattle.row_state.specs.declared.State.{State}
use Rattle.row_state.specs.States.{StateIn}
use Rattle.exports_state.specs.Packed.{byte_most, word_most, word, small, signed, fits_range, state_version, state_numbers, state_ranges}
use Rattle.exports_state.specs.Packed.{version_ranges, accounts_ranges, run_ranges, opening_ranges, set_ranges, filter_ranges}
use Rattle.exports_state.specs.Packed.{flagged, accounts_numbers, run_numbers, opening_numbers, set_numbers, filter_numbers, numbers_of}
use Rattle.exports_state.specs.Packed.{fitting, nth, size, truth, run_from, opening_from, set_from, filter_from, state_from, unpacked_of}
use Rattle.exports_state.specs.Packed.{UnpackSays, UnpackTold}
use Rattle.exports_state.specs.Packed.Parts.{Fits, none, one}
use Rattle.exports_state.proofs.Laws.Packed.Parts.{fits_fitting, fitting_fits, fits_long, unfit, joined, parts_fit, parts_joined}

-- ---- number by number

flag_in : (b : Bool) → within (pos 0) (pos 1) (flagged b) ≡ true
unfolding flagged
flag_in true = refl
flag_in false = refl

flag_back : (b : Bool) → lt_z (pos 0) (flagged b) ≡ b
unfolding flagged
flag_back true = refl
flag_back false = refl

from_0 : (most n : ℕ) → n ≤ most → within (pos 0) (pos most) (pos n) ≡ true
from_0 most n h = let w : Within (pos 0) (pos most) (pos n) = record { low = omega signs; high = omega signs } in yes_within w

-- a number from 0 on is its size
whole_back : (most : ℕ) (z : ℤ) → within (pos 0) (pos most) z ≡ true → pos (nat_abs z) ≡ z
whole_back most (pos n) e = refl
whole_back most (negsuc n) e = absurd (within_yes (pos 0) (pos most) (negsuc n) e).low.le

-- 0 and 1 are a bool
truth_back : (z : ℤ) → within (pos 0) (pos 1) z ≡ true → flagged (lt_z (pos 0) z) ≡ z
unfolding flagged
truth_back (pos zero) e = refl
truth_back (pos (suc zero)) e = refl
truth_back (pos (suc (suc n))) e = let h = within_yes (pos 0) (pos 1) (pos (suc (suc n))) e in let z : ⊥ = omega signs in absurd z
truth_back (negsuc n) e = absurd (within_yes (pos 0) (pos 1) (negsuc n) e).low.le

-- ---- the numbers of a state in the ranges of refusal 11 fit, part by part

run_fits : {run : Run} → RunIn run → Fits run_ranges (run_numbers run)
run_fits {run} h =
    one _ (from_0 byte_most run.length (omega (arith, h.length_most))) (one _ (from_0 byte_most run.left (omega (arith, h.left_most))) none)

opening_fits : (opening : Opening) → nat_abs opening.command ≤ 1 → Fits opening_ranges (opening_numbers opening)
opening_fits opening h =
    let k = abs_in opening.command h in
    let w : Within small.least small.most opening.command = record { low = omega signs; high = omega signs } in
    one _ (flag_in opening.seen) (one _ (yes_within w) none)

set_fits : {links : ℕ} {set : Set} → links ≤ 32 → IsSet links set → Fits set_ranges (set_numbers set)
set_fits {links} {set} few h =
    one _ (below h.first) (one _ (below h.second) (one _ (below h.third) (one _ (below h.fourth) (one _ (flag_in set.spoilt) none))))
  where
    below : {n : ℕ} → n < 2 ^ links → fits_range word (pos n) ≡ true
    below {n} k = let p : 2 ^ links ≤ 4294967296 = pow-le-pow_right {n = 2} (lit< tt) {j = 32} few in from_0 word_most n (omega arith)

filter_fits : {row : ℕ} {filter : Filter} → row ≤ rows_most → IsFilter row filter → Fits filter_ranges (filter_numbers filter)
filter_fits {filter} few h = one _ (from_0 word_most filter.count (omega (arith, h.count))) none

-- an i32
abbrev Signed : ℤ → Type 0
Signed z = Within signed.least signed.most z

module _ {links : ℕ} {ceiling : ℤ} (st : State) (low : ceiling ≤ℤ signed.most) (h : StateIn links ceiling st) where
  accounts_by : Signed st.power → Signed st.held → st.pilots ≤ byte_most → Fits accounts_ranges (accounts_numbers st)
  accounts_by p q r =
      one _ (from_0 word_most st.row (omega (arith, h.row_in)))
      (one _ (flag_in st.sent) (one _ (yes_within p) (one _ (yes_within q) (one _ (from_0 byte_most st.pilots r) (one _ (flag_in st.limited) none)))))

  accounts_fits : Fits accounts_ranges (accounts_numbers st)
  accounts_fits = by st.sent refl
    where
      by : (b : Bool) → st.sent ≡ b → Fits accounts_ranges (accounts_numbers st)
      by true e =
          let s = h.sent e in
          accounts_by (record { low = omega (signs, s.power_in); high = omega (signs, s.power_in) })
          (record { low = omega (signs, s.held_in); high = omega (signs, s.held_in, h.row_in) }) (omega (arith, s.pilots_in))
      by false e =
          let s = h.unsent e in
          accounts_by (record { low = omega (signs, s.power_in); high = omega (signs, s.power_in) })
          (record { low = omega (signs, s.held_is); high = omega (signs, s.held_is) }) (omega (arith, s.pilots_is))

  all_fit : links ≤ 32 → Fits state_ranges (numbers_of st)
  unfolding numbers_of
  all_fit few =
      one (pos state_version) refl
      (joined accounts_fits
      (joined (run_fits h.run_in)
      (joined (opening_fits st.opening h.opening_in) (joined (set_fits few h.set_in) (filter_fits h.row_in h.filter_in)))))

-- ---- what is packed is unpacked as it was

read_back : (st : State) → state_from (numbers_of st) st.filter.level ≡ st
unfolding numbers_of state_from
read_back st = simp flag_back

-- a state in the ranges of refusal 11 comes back, whatever the settings
pub in_packed_back : (st : State) {links : ℕ} {ceiling : ℤ} → links ≤ 32 → ceiling ≤ℤ signed.most → StateIn links ceiling st →
    unpacked_of (numbers_of st) st.filter.level ≡ Some st
unfolding unpacked_of
in_packed_back st few low h = sym (if_true _ _ (fits_fitting (all_fit st low h few))) ∙ ap Some (read_back st)

-- ---- and the other way: numbers that are a state are its numbers, part by part

run_back : (p : List ℤ) → Fits run_ranges p → run_numbers (run_from p) ≡ p
run_back _ (one a e (one b f none)) = λ i. whole_back byte_most a e i ∷ whole_back byte_most b f i ∷ []

opening_back : (p : List ℤ) → Fits opening_ranges p → opening_numbers (opening_from p) ≡ p
opening_back _ (one a e (one b f none)) = λ i. truth_back a e i ∷ b ∷ []

set_back : (p : List ℤ) → Fits set_ranges p → set_numbers (set_from p) ≡ p
set_back _ (one a e (one b f (one c g (one d h (one s k none))))) =
    λ i. whole_back word_most a e i ∷ whole_back word_most b f i ∷ whole_back word_most c g i ∷ whole_back word_most d h i ∷ truth_back s k i ∷ []

filter_back : (p : List ℤ) (level : Float) → Fits filter_ranges p → filter_numbers (filter_from p level) ≡ p
filter_back _ level (one a e none) = λ i. whole_back word_most a e i ∷ []

pub version_is : (z : ℤ) → within (pos state_version) (pos state_version) z ≡ true → pos state_version ≡ z
version_is (pos n) e = let h = within_yes (pos state_version) (pos state_version) (pos n) e in let k : state_version ≡ n = omega signs in ap pos k
version_is (negsuc n) e = absurd (within_yes (pos state_version) (pos state_version) (negsuc n) e).low.le

version_back : (p : List ℤ) → Fits version_ranges p → pos state_version ∷ [] ≡ p
version_back _ (one a e none) = λ i. version_is a e i ∷ []

accounts_back : (p : List ℤ) → Fits accounts_ranges p → pos (size p 0) ∷ flagged (truth p 1) ∷ nth p 2 ∷ nth p 3 ∷ pos (size p 4) ∷ flagged (truth p 5) ∷ [] ≡ p
accounts_back _ (one a e (one b f (one c _ (one d _ (one x g (one y h none)))))) =
    λ i. whole_back word_most a e i ∷ truth_back b f i ∷ c ∷ d ∷ whole_back byte_most x g i ∷ truth_back y h i ∷ []

module _ (ns : List ℤ) (level : Float) where
  -- numbers that fit are the numbers of the state that they are
  pub unpacked_back : fitting state_ranges ns ≡ true → numbers_of (state_from ns level) ≡ ns
  unfolding numbers_of state_from
  unpacked_back e =
      let f = parts_fit ns e in
      (λ i.
      version_back _ f.version i ++ (accounts_back _ f.accounts i
      ++ (run_back _ f.run i ++ (opening_back _ f.opening i ++ (set_back _ f.set i ++ filter_back _ level f.filter i)))))
      ∙ parts_joined ns f.long

  its_level : (state_from ns level).filter.level ≡ level
  unfolding state_from
  its_level = refl

  -- each case is given exactly where it says so of the numbers, and no other answer is promised
  unpack_says : UnpackSays ns level (unpacked_of ns level)
  unfolding unpacked_of
  unpack_says = either (UnpackSays ns level) (fitting state_ranges ns) (λ e. (e, unpacked_back e, its_level)) (λ e. e)

  unpack_said : (u : Option State) → UnpackSays ns level u → unpacked_of ns level ≡ u
  unfolding unpacked_of
  unpack_said (Some st) h =
      sym (if_true _ _ h.0) ∙ (λ i. Some (state_from (sym h.1 i) (sym h.2 i))) ∙ ap Some (read_back st)
  unpack_said None e = sym (if_false _ _ e)

  pub unpack_exactly : (u : Option State) → unpacked_of ns level ≡ u ↔ UnpackSays ns level u
  unpack_exactly u = (λ e. subst (UnpackSays ns level) e unpack_says, unpack_said u)

  pub unpack_told : {u : Option State} → u ≡ unpacked_of ns level → UnpackTold ns level u
  unpack_told {u} e = record { is = e; says = (unpack_exactly u).0 (sym e) }

  pub one_unpack : {u v : Option State} → UnpackTold ns level u → UnpackTold ns level v → u ≡ v
  one_unpack a b = one_answer a.is b.is

  -- what was unpacked is packed as it was, its level beside it; and there were as many numbers as a state has
  pub kept_back : {st : State} → unpacked_of ns level ≡ Some st → (numbers_of st ≡ ns) × (st.filter.level ≡ level)
  kept_back {st} e = let h = (unpack_exactly (Some st)).0 e in (h.1, h.2)

  pub kept_long : {st : State} → unpacked_of ns level ≡ Some st → length ns ≡ state_numbers
  kept_long {st} e = fits_long (fitting_fits state_ranges ns ((unpack_exactly (Some st)).0 e).0)

  -- ---- numbers of another form are no state

  -- another count
  pub other_count : (length ns ≡ state_numbers → ⊥) → unpacked_of ns level ≡ None
  unfolding unpacked_of
  other_count n = sym (if_false _ _ (unfit state_ranges ns n))

  -- another version
  pub other_version : (nth ns 0 ≡ pos state_version → ⊥) → unpacked_of ns level ≡ None
  unfolding unpacked_of
  other_version n = sym (if_false _ _ (by (fitting state_ranges ns) refl))
    where
      first : (ms : List ℤ) → Fits state_ranges ms → nth ms 0 ≡ pos state_version
      first _ (one a e _) = sym (version_is a e)

      by : (b : Bool) → fitting state_ranges ns ≡ b → fitting state_ranges ns ≡ false
      by true f = absurd (n (first ns (fitting_fits state_ranges ns f)))
      by false f = f
