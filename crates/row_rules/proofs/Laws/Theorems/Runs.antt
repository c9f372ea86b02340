-- Runs: refusals 7, 10 and 11 exactly when stated, what is handed out, and that a run from the start is its history.
-- Assumes nothing.
use Prim.Native.Nat.{ℕ, zero, suc, ◌+◌, ◌-◌, ◌*◌, ◌≤◌, ◌<◌}
use Rattle.std.specs.Prelude.{◌≡◌, Bool, ℤ, Ok, Err}
use Rattle.std.proofs.Math.Path.{refl, ap, subst}
use Rattle.std.proofs.Common.{sym, ap₂, ◌∙◌, add-zero, zero-add, le_refl, not-suc-le-zero}
use Rattle.std.proofs.Math.Bool.{true, false}
use mathlib.Core.List.{List, [], ◌∷◌, ◌++◌}
use native.Mathlib.Omega.{arith}
use borrow.Author.Tests.{ltb-true, ltb-false}
use Rattle.std.proofs.Math.Dec.{ltb}
use Rattle.std.proofs.Math.ListN.{length}
use Rattle.ground.proofs.Laws.Choice.{clash}
use Rattle.ground.proofs.Laws.Ranges.{last_or_before}
use Rattle.constants.specs.Sizes.{rows_most, answer_numbers}
use Rattle.constants.specs.Refusals.{refusal, too_many_rows, wrong_row, short_answers, wrong_state}
use Rattle.gap_slots.specs.Slots.{slot_at}
use Rattle.job_settings.specs.declared.Settings.{Settings}
use Rattle.row_state.specs.declared.State.{State}
use Rattle.power.proofs.Laws.Gain.{gain_in}
use Rattle.row_state.specs.States.{state_start, StateIn}
use Rattle.row_values.specs.declared.Row.{Row}
use Rattle.row_values.specs.declared.Answer.{Answer}
use Rattle.row_values.specs.Rows.{row_at, whole_rows, is_cut, rows_offered, rows_from, rows_in}
use Rattle.row_values.proofs.Laws.Rows.{rows_length, whole_append, rows_append, rows_after_lem, cut_append, offered_at, with_cut_lem}
use Rattle.row_rules.specs.Stepping.{Stepped}
use Rattle.row_rules.specs.declared.Ran.{Ran}
use Rattle.row_rules.specs.Rules.{row_of, gain_for, admits}
use Rattle.row_rules.specs.Runs.{Rows, go, closing, go_over, followed, refused_by, OnRun, and_then}
use Rattle.row_rules.specs.Runs.{End, ended, written, then_rest, unless_refused, run_of}
use Rattle.row_rules.proofs.Laws.Runs.{run_append, answers_few, rows_unrefused, rows_closed, buffer, refusal_cases}
use Rattle.row_rules.specs.History.{History, Accepted, accepted, state_after, answer_of, state_at, stepped_at}
use Rattle.row_rules.specs.Refusing.{IsF64, StateRanged, TooMany, RunRefused, Joins}
use Rattle.row_rules.specs.Theorems.{history_of, answers_of, Ends, done, stopped, short, IsHistory, GoesOn}
use Rattle.row_rules.proofs.Laws.Theorems.Refusals.{admits_ranged, ranged_admits}
use Rattle.row_rules.proofs.Laws.Theorems.Slots.{slots_said}

module _ (s : Settings) (gains records : List ℕ) (st : State) (rows : List ℕ) (out : List ℤ) where
  abbrev pub r : Rows
  r = go_over s (gain_for s gains) (slot_at records) st rows

  abbrev pub run : End
  run = run_of s gains records st rows out

  abbrev Many : Type 0
  Many = TooMany st rows

  abbrev Short : Type 0
  Short = length out < answer_numbers * rows_offered rows

  pub run_cases : (P : End → Type 0) → (Many → P (ended (Ran.Refused (refusal too_many_rows rows_most)) out)) →
      ((Many → ⊥) → Short → P (ended (Ran.Refused (refusal short_answers (answer_numbers * rows_offered rows))) out)) →
      ((Many → ⊥) → (Short → ⊥) → admits s gains st ≡ true → P (written out 0 r)) →
      ((Many → ⊥) → (Short → ⊥) → admits s gains st ≡ false → P (ended (Ran.Refused (refusal wrong_state 0)) out)) → P run
  unfolding run_of unless_refused
  run_cases P many few on off =
      refusal_cases st.row (rows_offered rows) (length out) (admits s gains st)
      (λ x. P (unless_refused x out (written out 0 r)))
      (λ l. many (omega arith, omega arith))
      (λ m l. few (no m) l)
      (λ m l a. on (no m) (λ k. omega (arith, l, k)) a)
      (λ m l a. off (no m) (λ k. omega (arith, l, k)) a)
    where
      no : rows_offered rows ≤ rows_most - st.row → Many → ⊥
      no m q = omega (arith, q.0, q.1)

  -- the number of a run's refusal tells them apart
  pub number : {e f : End} → e ≡ f → refused_by e.result ≡ refused_by f.result
  number e = ap (λ (x : End). refused_by x.result) e

  -- a run whose rows were run has none
  pub ran : (n : ℕ) → refused_by r.result ≡ n → 0 < n → ⊥
  ran n e l = let z : 0 ≡ n = sym (rows_unrefused s (gain_for s gains) (slot_at records) st (rows_in rows) (is_cut rows)) ∙ e in omega arith

  pub long : (Short → ⊥) → answer_numbers * rows_offered rows ≤ length out
  long n = by (ltb (length out) (answer_numbers * rows_offered rows)) refl
    where
      by : (t : Bool) → ltb (length out) (answer_numbers * rows_offered rows) ≡ t → answer_numbers * rows_offered rows ≤ length out
      by true e = absurd (n (ltb-true _ _ e))
      by false e = ltb-false _ _ e

  not_short : answer_numbers * rows_offered rows ≤ length out → Short → ⊥
  not_short a b = omega (arith, a, b)

  -- the answers of the rows have room
  pub room : (Short → ⊥) → answer_numbers * length r.answers ≤ length out
  room n =
      let w = answers_few s (gain_for s gains) (slot_at records) st (rows_in rows) (is_cut rows) in
      let l = rows_length rows (whole_rows rows) 0 in
      let o = offered_at rows (is_cut rows) refl in
      omega (arith, long n, with_cut_lem (whole_rows rows) (is_cut rows))

  pub run_refused : IsF64 st → RunRefused s gains records st rows out
  unfolding refused_by
  run_refused f =
      record {
        seven = (
          run_cases (λ x. x ≡ ended (Ran.Refused (refusal too_many_rows rows_most)) out → Many)
              (λ m e. m) (λ m l e. absurd (let z : short_answers ≡ too_many_rows = number e in omega arith))
              (λ m l a e. absurd (ran too_many_rows (number e) (omega arith)))
              (λ m l a e. absurd (let z : wrong_state ≡ too_many_rows = number e in omega arith)),
          λ t. run_cases (λ x. x ≡ ended (Ran.Refused (refusal too_many_rows rows_most)) out)
              (λ m. refl) (λ m. absurd (m t)) (λ m. absurd (m t)) (λ m. absurd (m t)),
        );
        ten = (
          run_cases (λ x. x ≡ ended (Ran.Refused (refusal short_answers (answer_numbers * rows_offered rows))) out → (Many → ⊥) × Short)
              (λ m e. absurd (let z : too_many_rows ≡ short_answers = number e in omega arith)) (λ m l e. (m, l))
              (λ m l a e. absurd (ran short_answers (number e) (omega arith)))
              (λ m l a e. absurd (let z : wrong_state ≡ short_answers = number e in omega arith)),
          λ t. run_cases (λ x. x ≡ ended (Ran.Refused (refusal short_answers (answer_numbers * rows_offered rows))) out)
              (λ m. absurd (t.0 m)) (λ m l. refl) (λ m l. absurd (l t.1)) (λ m l. absurd (l t.1)),
        );
        eleven = (
          run_cases (λ x. x ≡ ended (Ran.Refused (refusal wrong_state 0)) out →
              (Many → ⊥) × (answer_numbers * rows_offered rows ≤ length out) × (StateRanged s gains st → ⊥))
              (λ m e. absurd (let z : too_many_rows ≡ wrong_state = number e in omega arith))
              (λ m l e. absurd (let z : short_answers ≡ wrong_state = number e in omega arith))
              (λ m l a e. absurd (ran wrong_state (number e) (omega arith)))
              (λ m l a e. (m, long l, λ g. clash (ranged_admits s gains st g) a)),
          λ t. run_cases (λ x. x ≡ ended (Ran.Refused (refusal wrong_state 0)) out)
              (λ m. absurd (t.0 m)) (λ m l. absurd (not_short t.1 l))
              (λ m l a. absurd (t.2 (admits_ranged s gains st f a))) (λ m l a. refl),
        );
        rows_run = λ n l g. run_cases (λ x. x ≡ then_rest out r) (λ m. absurd (n m)) (λ m k. absurd (not_short l k))
            (λ m k a. buffer out r (room k)) (λ m k a. absurd (clash (ranged_admits s gains st g) a));
      }

  -- every state that a run hands out is in its ranges
  pub run_closed : IsF64 st → OnRun (StateRanged s gains) run.result
  unfolding OnRun
  run_closed f =
      run_cases (λ x. OnRun (StateRanged s gains) x.result) (λ m. tt) (λ m l. tt)
      (λ m l a. let g = admits_ranged s gains st f a in
      ranged r.result g
      (rows_closed s (gain_for s gains) (slot_at records) st (rows_in rows) (is_cut rows) g.settings (gain_in g.triple.ranged g.settings.maximum)
      g.state
      (fits m g.state.row_in)))
      (λ m l a. tt)
    where
      fits : (Many → ⊥) → st.row ≤ rows_most → st.row + length (rows_in rows) ≤ rows_most
      fits m l = by (ltb rows_most (st.row + whole_rows rows)) refl
        where
          by : (t : Bool) → ltb rows_most (st.row + whole_rows rows) ≡ t → st.row + length (rows_in rows) ≤ rows_most
          by true e =
              let z = ltb-true rows_most (st.row + whole_rows rows) e in
              let c = with_cut_lem (whole_rows rows) (is_cut rows) in
              let o = offered_at rows (is_cut rows) refl in
              absurd (m (omega arith, omega arith))
          by false e = omega (arith, ltb-false rows_most (st.row + whole_rows rows) e, rows_length rows (whole_rows rows) 0)

      ranged : (x : Ran) → StateRanged s gains st → OnRun (StateIn s.links (gain_for s gains).ceiling) x → OnRun (StateRanged s gains) x
      ranged (Ran.Done n) g h = record { settings = g.settings; triple = g.triple; state = h }
      ranged (Ran.Stopped n y) g h = record { settings = g.settings; triple = g.triple; state = h }
      ranged (Ran.Refused y) g h = tt

-- the run over more rows goes on from where the run over rows ended, and the answers of both stand one after the other
pub joined : (s : Settings) (gains records : List ℕ) (st : State) (rows more : List ℕ) (out : List ℤ) → IsF64 st → is_cut rows ≡ false →
    Joins s gains records st rows more out
joined s gains records st rows more out f e =
    record { rows_joined = both; run_joined = λ n l g. (run_refused s gains records st (rows ++ more) out f).rows_run n l g ∙ ap (then_rest out) both }
  where
    over : (next : State) (l : List Row) (cut : Bool) → Rows
    over next l cut = go s (gain_for s gains) (slot_at records) next l cut

    both : go_over s (gain_for s gains) (slot_at records) st (rows ++ more) ≡
        and_then (go_over s (gain_for s gains) (slot_at records) st rows) (λ next. go_over s (gain_for s gains) (slot_at records) next more)
    both =
        ap₂ (λ (l : List Row) (c : Bool). go s (gain_for s gains) (slot_at records) st l c) (rows_append rows more e) (cut_append rows more e)
        ∙ run_append s (gain_for s gains) (slot_at records) st (rows_in rows) (rows_in more) (is_cut more)
        ∙ ap (λ (c : Bool). and_then (go s (gain_for s gains) (slot_at records) st (rows_in rows) c)
        (λ next. go_over s (gain_for s gains) (slot_at records) next more)) (sym e)

-- ---- a run from the start is its history

module _ (s : Settings) (gains records rows : List ℕ) where
  abbrev h : History
  h = history_of s gains records rows

  abbrev cut : Bool
  cut = is_cut rows

  -- the `left` rows from row k on
  abbrev go_from : (left k : ℕ) → Rows
  go_from left k = go s (gain_for s gains) (slot_at records) (state_at h k) (rows_from rows left k) cut

  abbrev From : ℕ → Rows → Type 0
  From k x = GoesOn s gains records rows k x

  ended_at : (k : ℕ) {x : Rows} → Accepted h k → x.answers ≡ [] → Ends h rows k x.result → From k x
  unfolding answers_of
  ended_at k a e f = record { m = 0; all = rw (add-zero k) a; answers = e; ends = rw (add-zero k) f }

  -- no row left, or one that is cut short
  at_end : (k : ℕ) → whole_rows rows ≡ k → Accepted h k → (c : Bool) → cut ≡ c → Ends h rows k (closing (state_at h k) c)
  unfolding closing
  at_end k w a true e =
      subst (λ (i : ℕ). Ends h rows k (Ran.Stopped (state_at h k) (refusal wrong_row i))) (sym (slots_said h a k (le_refl k)).row) (short w e)
  at_end k w a false e = done w e

  -- one row, then the rest
  one_more : (left k : ℕ) → k < whole_rows rows → Accepted h k → (x : Stepped) → stepped_at h k ≡ x →
      (Accepted h (suc k) → From (suc k) (go_from left (suc k))) →
      From k (followed (state_at h k) x (λ next. go s (gain_for s gains) (slot_at records) next (rows_from rows left (suc k)) cut))
  unfolding accepted answer_of state_after state_at answers_of
  one_more left k l a (Err r) e f = ended_at k a refl (stopped l e)
  one_more left k l a (Ok (next, b)) e f =
      let w = f (λ i j. last_or_before (λ (i : ℕ). accepted (stepped_at h i) ≡ true) {i = i} {k = k} (omega arith) (ap accepted e) (λ m. a i m)) in
      let n : suc k + w.m ≡ k + suc w.m = omega arith in
      let x : go_from left (suc k) ≡ go s (gain_for s gains) (slot_at records) next (rows_from rows left (suc k)) cut =
      ap (λ (st : State). go s (gain_for s gains) (slot_at records) st (rows_from rows left (suc k)) cut) (ap (state_after (state_at h k)) e) in
      record {
        m = suc w.m;
        all = subst (Accepted h) n w.all;
        answers = ap (λ (y : Rows). b ∷ y.answers) (sym x) ∙ ap (λ (l : List Answer). b ∷ l) w.answers
            ∙ ap (λ (c : Stepped). answer_of c ∷ answers_of h (suc k) w.m) (sym e);
        ends = subst (λ (i : ℕ). Ends h rows i (go s (gain_for s gains) (slot_at records) next (rows_from rows left (suc k)) cut).result) n
            (subst (λ (y : Rows). Ends h rows (suc k + w.m) y.result) x w.ends);
      }

  pub from : (left k : ℕ) → k + left ≡ whole_rows rows → Accepted h k → From k (go_from left k)
  unfolding go rows_from
  from zero k e a = ended_at k a refl (at_end k (omega arith) a cut refl)
  from (suc left) k e a =
      let j : k + 1 ≡ suc k = omega arith in
      rw j (subst (λ (i : ℕ). From k (followed (state_at h k) (row_of s (gain_for s gains) (slot_at records i) (state_at h k) (row_at rows k))
      (λ next. go s (gain_for s gains) (slot_at records) next (rows_from rows left (suc k)) cut))) (sym (slots_said h a k (le_refl k)).row)
      (one_more left k (omega arith) a (stepped_at h k) refl (from left (suc k) (omega arith))))

  pub run_history : IsHistory s gains records rows (go_over s (gain_for s gains) (slot_at records) (state_start s) rows)
  unfolding state_at
  run_history =
      let w = from (whole_rows rows) 0 (omega arith) (λ k l. absurd (not-suc-le-zero l)) in
      record {
        n = w.m;
        all = subst (Accepted h) (zero-add w.m) w.all;
        answers = w.answers;
        ends = subst (λ (i : ℕ). Ends h rows i (go_over s (gain_for s gains) (slot_at records) (state_start s) rows).result) (zero-add w.m) w.ends;
      }

-- and so is one that goes on after accepted rows
pub run_after_lem : (s : Settings) (gains records before more : List ℕ) → is_cut before ≡ false →
    Accepted (history_of s gains records (before ++ more)) (whole_rows before) →
    GoesOn s gains records (before ++ more) (whole_rows before)
    (go_over s (gain_for s gains) (slot_at records) (state_at (history_of s gains records (before ++ more)) (whole_rows before)) more)
run_after_lem s gains records before more e a =
    let i = whole_rows before in
    let st = state_at (history_of s gains records (before ++ more)) i in
    subst (GoesOn s gains records (before ++ more) i)
    (ap₂ (λ (l : List Row) (c : Bool). go s (gain_for s gains) (slot_at records) st l c) (rows_after_lem before more e) (cut_append before more e))
    (from s gains records (before ++ more) (whole_rows more) i (sym (whole_append before more e)) a)
