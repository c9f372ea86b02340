-- Each answer of a row, a step and a run is given exactly when its case says so.
-- Assumes nothing.
use Rattle.std.specs.Prelude.{ℕ, ◌≤◌, ◌≡◌, ◌↔◌, ◌⊎◌, Bool, ℤ, Ok, Err}
use Rattle.std.proofs.Math.Path.{refl, ap}
use Rattle.std.proofs.Common.{sym, ◌∙◌, subst, arith}
use Rattle.std.proofs.Math.Logic.{inl, inr}
use Rattle.std.proofs.Math.Bool.{true, false}
use mathlib.Core.List.{List, [], ◌∷◌}
use Rattle.std.proofs.Math.Dec.{lit≤}
use Rattle.ground.proofs.Laws.OnAnswers.{one_answer}
use Rattle.ground.proofs.Laws.Choice.{clash}
use Rattle.ground.proofs.Laws.Integers.Signs.{signs}
use Rattle.constants.specs.Refusals.{wrong_row, power_too_low, short_answers}
use Rattle.gap_slots.specs.declared.Slot.{Slot}
use Rattle.gap_slots.specs.Slots.{slot_at}
use Rattle.power.specs.declared.Gain.{Gain}
use Rattle.job_settings.specs.declared.Settings.{Settings}
use Rattle.row_state.specs.declared.State.{State}
use Rattle.row_values.specs.declared.Row.{Row}
use Rattle.row_values.specs.declared.Answer.{Answer}
use Rattle.row_values.specs.Rows.{is_cut, rows_in}
use Rattle.row_rules.specs.Stepping.{Stepped}
use Rattle.row_rules.specs.declared.Ran.{Ran}
use Rattle.row_rules.specs.Rules.{refusal_of, row_of, gain_for, step_of}
use Rattle.row_rules.proofs.Laws.Rules.{row_cases}
use Rattle.row_rules.specs.Runs.{Rows, answered, followed, closing, go, go_over, refusal_by, End, ended, then_rest, run_of}
use Rattle.row_rules.proofs.Laws.Runs.{one_end, buffer}
use Rattle.row_rules.specs.Refusing.{IsF64, StateRanged}
use Rattle.row_rules.specs.Says.{RowSays, StepSays, StepNumber, StepTold, RowsSay, RunSays, RunNumber, RunTold}
use Rattle.row_rules.proofs.Laws.Theorems.Refusals.{keeps_right, right_keeps, row_says, admits_ranged, ranged_admits, step_cases, step_refused}
use Rattle.row_rules.proofs.Laws.Theorems.Runs.{run_cases, long, room, run_refused}

-- ---- a row

-- the page's numbers that a row may have: none, 8 or 9
abbrev RowNumber : ℕ → Type 0
RowNumber n = (n ≡ 0) ⊎ ((wrong_row ≤ n) × (n ≤ power_too_low))

of_step : {n : ℕ} → RowNumber n → StepNumber n
of_step (inl e) = inl e
of_step (inr h) = inr (inl (omega (arith, h.0), h.1))

of_run : {n : ℕ} → RowNumber n → RunNumber n
of_run (inl e) = inl e
of_run (inr h) = inr (omega (arith, h.0), omega (arith, h.1))

up_to_ten : {n : ℕ} → RowNumber n → n ≤ short_answers
up_to_ten (inl e) = omega arith
up_to_ten (inr h) = omega (arith, h.1)

module _ (s : Settings) (g : Gain) (slot : Slot) (st : State) (row : Row) where
  row_said_lem : {x : Stepped} → RowSays s g slot st row x → row_of s g slot st row ≡ x
  row_said_lem {x} (RowSays.eight n) =
      row_cases s g slot st row (λ y. y ≡ x) (λ w. refl) (λ w u. absurd (n (right_keeps s.links slot row w)))
      (λ w u l. absurd (n (right_keeps s.links slot row w))) (λ w u l. absurd (n (right_keeps s.links slot row w)))
  row_said_lem {x} (RowSays.nine k u l) =
      row_cases s g slot st row (λ y. y ≡ x) (λ w. absurd (clash w (keeps_right s.links slot row k))) (λ w v. absurd (clash v u))
      (λ w v m. refl) (λ w v m. absurd (let z : ⊥ = omega (signs, l, m) in z))
  row_said_lem {x} (RowSays.gap k u) =
      row_cases s g slot st row (λ y. y ≡ x) (λ w. absurd (clash w (keeps_right s.links slot row k))) (λ w v. refl)
      (λ w v m. absurd (clash u v)) (λ w v m. absurd (clash u v))
  row_said_lem {x} (RowSays.sent k u l) =
      row_cases s g slot st row (λ y. y ≡ x) (λ w. absurd (clash w (keeps_right s.links slot row k))) (λ w v. absurd (clash v u))
      (λ w v m. absurd (let z : ⊥ = omega (signs, l, m) in z)) (λ w v m. refl)

  pub row_exactly : (x : Stepped) → row_of s g slot st row ≡ x ↔ RowSays s g slot st row x
  row_exactly x = (λ e. subst (RowSays s g slot st row) e (row_says s g slot st row), row_said_lem)

  row_number_lem : {x : Stepped} → RowSays s g slot st row x → RowNumber (refusal_of x).number
  row_number_lem (RowSays.eight n) = inr (lit≤ tt, lit≤ tt)
  row_number_lem (RowSays.nine k u l) = inr (lit≤ tt, lit≤ tt)
  row_number_lem (RowSays.gap k u) = inl refl
  row_number_lem (RowSays.sent k u l) = inl refl

-- ---- a step

module _ (s : Settings) (gains records : List ℕ) (st : State) (row : Row) where
  step_says : IsF64 st → StepSays s gains records st row (step_of s gains records st row)
  step_says f =
      step_cases s gains records st row (StepSays s gains records st row) (λ l. StepSays.seven l)
      (λ l a. StepSays.by_row l (admits_ranged s gains st f a) (row_says s (gain_for s gains) (slot_at records st.row) st row))
      (λ l a. StepSays.eleven l (λ r. clash (ranged_admits s gains st r) a))

  step_said : IsF64 st → {x : Stepped} → StepSays s gains records st row x → step_of s gains records st row ≡ x
  step_said f (StepSays.seven h) = (step_refused s gains records st row f).seven.1 h
  step_said f (StepSays.eleven h n) = (step_refused s gains records st row f).eleven.1 (h, n)
  step_said f (StepSays.by_row h r w) =
      (step_refused s gains records st row f).by_row h r ∙ row_said_lem s (gain_for s gains) (slot_at records st.row) st row w

  pub step_exactly : IsF64 st → (x : Stepped) → step_of s gains records st row ≡ x ↔ StepSays s gains records st row x
  step_exactly f x = (λ e. subst (StepSays s gains records st row) e (step_says f), step_said f)

  pub step_number : {x : Stepped} → StepSays s gains records st row x → StepNumber (refusal_of x).number
  step_number (StepSays.seven h) = inr (inl (lit≤ tt, lit≤ tt))
  step_number (StepSays.eleven h n) = inr (inr refl)
  step_number (StepSays.by_row h r w) = of_step (row_number_lem s (gain_for s gains) (slot_at records st.row) st row w)

  -- so that the answer says what it promises, and no other answer is promised
  pub told_by_lem : {x : Stepped} → x ≡ step_of s gains records st row → StepSays s gains records st row x →
      StepTold s gains records st row x
  told_by_lem e w = record { is = e; says = w; number = step_number w }

  pub step_told : IsF64 st → {x : Stepped} → x ≡ step_of s gains records st row → StepTold s gains records st row x
  step_told f {x} e = told_by_lem e ((step_exactly f x).0 (sym e))

  pub one_step : {x y : Stepped} → StepTold s gains records st row x → StepTold s gains records st row y → x ≡ y
  one_step t u = one_answer t.is u.is

-- ---- rows

module _ (s : Settings) (g : Gain) (slots : ℕ → Slot) (cut : Bool) where
  abbrev ends : Ran → List Answer → Rows
  ends result answers = record { result = result; answers = answers }

  pub rows_say : (st : State) (rows : List Row) → RowsSay s g slots cut st rows (go s g slots st rows cut).result (go s g slots st rows cut).answers
  unfolding go closing
  rows_say st [] = by cut refl
    where
      by : (t : Bool) → cut ≡ t → RowsSay s g slots cut st [] (closing st t) []
      by true e = RowsSay.short e
      by false e = RowsSay.done e
  rows_say st (row ∷ rest) = by (row_of s g (slots st.row) st row) (row_says s g (slots st.row) st row) (λ next. rows_say next rest)
    where
      by : (x : Stepped) → RowSays s g (slots st.row) st row x →
          ((next : State) → RowsSay s g slots cut next rest (go s g slots next rest cut).result (go s g slots next rest cut).answers) →
          RowsSay s g slots cut st (row ∷ rest) (followed st x (λ next. go s g slots next rest cut)).result
          (followed st x (λ next. go s g slots next rest cut)).answers
      by (Ok (next, a)) w f = RowsSay.taken w (f next)
      by (Err r) w f = RowsSay.stopped w

  pub rows_said : {st : State} {rows : List Row} {result : Ran} {answers : List Answer} → RowsSay s g slots cut st rows result answers →
      go s g slots st rows cut ≡ ends result answers
  unfolding go closing
  rows_said (RowsSay.done e) = rw e
  rows_said (RowsSay.short e) = rw e
  rows_said (RowsSay.stopped {st} {row} {rest} w) =
      ap (λ (x : Stepped). followed st x (λ next. go s g slots next rest cut)) (row_said_lem s g (slots st.row) st row w)
  rows_said (RowsSay.taken {st} {next} {row} {rest} {a} w v) =
      ap (λ (x : Stepped). followed st x (λ next. go s g slots next rest cut)) (row_said_lem s g (slots st.row) st row w)
      ∙ ap (answered a) (rows_said v)

  rows_number : {st : State} {rows : List Row} {result : Ran} {answers : List Answer} → RowsSay s g slots cut st rows result answers →
      RowNumber (refusal_by result).number
  unfolding refusal_by
  rows_number (RowsSay.done e) = inl refl
  rows_number (RowsSay.short e) = inr (lit≤ tt, lit≤ tt)
  rows_number (RowsSay.stopped {st} {row} w) = row_number_lem s g (slots st.row) st row w
  rows_number (RowsSay.taken w v) = rows_number v

-- ---- a run

module _ (s : Settings) (gains records : List ℕ) (st : State) (rows : List ℕ) (out : List ℤ) where
  abbrev g : Gain
  g = gain_for s gains

  abbrev Says : End → Type 0
  Says e = RunSays s gains records st rows out e.result e.out

  run_says : IsF64 st → Says (run_of s gains records st rows out)
  run_says f =
      let rooms = room s gains records st rows out in
      let enough = long s gains records st rows out in
      run_cases s gains records st rows out Says (λ m. RunSays.seven m) (λ m l. RunSays.ten m l)
      (λ m l a.
      subst Says (sym (buffer out (go_over s g (slot_at records) st rows) (rooms l)))
      (RunSays.by_rows m (enough l) (admits_ranged s gains st f a) (rows_say s g (slot_at records) (is_cut rows) st (rows_in rows))))
      (λ m l a. RunSays.eleven m (enough l) (λ r. clash (ranged_admits s gains st r) a))

  run_said : IsF64 st → {result : Ran} {after : List ℤ} → RunSays s gains records st rows out result after →
      run_of s gains records st rows out ≡ ended result after
  run_said f (RunSays.seven m) = (run_refused s gains records st rows out f).seven.1 m
  run_said f (RunSays.ten m l) = (run_refused s gains records st rows out f).ten.1 (m, l)
  run_said f (RunSays.eleven m l n) = (run_refused s gains records st rows out f).eleven.1 (m, l, n)
  run_said f (RunSays.by_rows m l r w) =
      (run_refused s gains records st rows out f).rows_run m l r ∙ ap (then_rest out) (rows_said s g (slot_at records) (is_cut rows) w)

  pub run_exactly : IsF64 st → (result : Ran) (after : List ℤ) →
      run_of s gains records st rows out ≡ ended result after ↔ RunSays s gains records st rows out result after
  run_exactly f result after = (λ e. subst Says e (run_says f), run_said f)

  pub run_number : {result : Ran} {after : List ℤ} → RunSays s gains records st rows out result after → RunNumber (refusal_by result).number
  unfolding refusal_by
  run_number (RunSays.seven m) = inr (lit≤ tt, lit≤ tt)
  run_number (RunSays.ten m l) = inr (lit≤ tt, lit≤ tt)
  run_number (RunSays.eleven m l n) = inr (lit≤ tt, lit≤ tt)
  run_number (RunSays.by_rows m l r w) = of_run (rows_number s g (slot_at records) (is_cut rows) w)

  -- from a state in its ranges a run is never refused with 11
  pub ranged_number : StateRanged s gains st → {result : Ran} {after : List ℤ} → RunSays s gains records st rows out result after →
      (refusal_by result).number ≤ short_answers
  unfolding refusal_by
  ranged_number ranged (RunSays.seven m) = lit≤ tt
  ranged_number ranged (RunSays.ten m l) = lit≤ tt
  ranged_number ranged (RunSays.eleven m l n) = absurd (n ranged)
  ranged_number ranged (RunSays.by_rows m l r w) = up_to_ten (rows_number s g (slot_at records) (is_cut rows) w)

  -- so that a run says what it promises, and no other end is promised
  pub run_told : IsF64 st → {result : Ran} {after : List ℤ} → ended result after ≡ run_of s gains records st rows out →
      RunTold s gains records st rows out result after
  run_told f {result} {after} e = let w = (run_exactly f result after).0 (sym e) in record { is = e; says = w; number = run_number w }

  pub one_run : {r t : Ran} {o p : List ℤ} → RunTold s gains records st rows out r o → RunTold s gains records st rows out t p →
      (r ≡ t) × (o ≡ p)
  one_run a b = one_end a.is b.is
