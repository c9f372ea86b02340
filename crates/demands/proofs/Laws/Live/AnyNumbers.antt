-- A call with any numbers and level, proved: its refusal, and all that was lent, exactly.
-- Assumes nothing.
use Rattle.std.specs.Prelude.{ℕ, ◌-◌, ◌*◌, ◌≤◌, ◌<◌, ◌≡◌, ◌↔◌, Bool, true, false, List, T, ltb, Float, ℤ, length, Some, None, Option}
use Rattle.std.proofs.Math.Path.{refl, sym, ap, subst}
use Rattle.std.proofs.Common.{◌∙◌, arith, ltb-true, ltb-false, lt-ltb, le-ltb}
use Rattle.std.specs.Float.Ieee.{fits}
use Rattle.std.specs.Float.{binary64}
use Rattle.std.specs.Option.{unwrap_or}
use Rattle.ground.specs.declared.Refusal.{Refusal}
use Rattle.ground.proofs.Laws.Choice.{clash, if_true, if_false}
use Rattle.constants.specs.Sizes.{rows_most, answer_numbers}
use Rattle.constants.specs.Refusals.{refusal, no_refusal, too_many_rows, short_answers, wrong_state}
use Rattle.row_state.specs.declared.State.{State}
use Rattle.row_values.specs.Rows.{rows_offered}
use Rattle.row_rules.specs.declared.Ran.{Ran}
use Rattle.row_rules.specs.Runs.{refusal_by, End, ended, run_refusal, run_of}
use Rattle.row_rules.specs.Refusing.{IsF64, StateRanged, TooMany}
use Rattle.row_rules.specs.Says.{RunSays}
use Rattle.row_rules.proofs.Laws.Theorems.All.{theorems}
use Rattle.job.specs.Load.{records_body}
use Rattle.exports_state.specs.Packed.{numbers_of, unpacked_of, of_this_form, row_number, row_said}
use Rattle.exports_state.proofs.Laws.Packed.{kept_back}
use Rattle.exports.specs.Steps.{Lent, lent_of, lent_by, NextTold, untouched, lent_after, outside_of, after_lent, next_of}
use Rattle.exports.proofs.Laws.Steps.{ranged_back, stopped_lent, outside_refused}
use Rattle.demands.specs.Rows.{TakenJob, job_gains}
use Rattle.demands.specs.Live.{AfterLast, LentState, LentCallSays}

-- the numbers of a state say its row
says_row : (st : State) → row_said (numbers_of st) ≡ st.row
unfolding row_said of_this_form row_number numbers_of
says_row st = refl

kept_or : State → Option State → State
kept_or st (Some kept) = kept
kept_or st None = st

is_kept : Option State → Bool
is_kept (Some st) = true
is_kept None = false

module _ {job : List ℕ} (j : TakenJob job) (rows : List ℕ) (before : Lent) (out : List ℤ) (f : T (fits binary64 before.level)) where
  abbrev unpacked : Option State
  unpacked = unpacked_of before.numbers before.level

  abbrev Says : NextTold → Type 0
  Says = LentCallSays j rows before out

  -- a state in its ranges comes back from its numbers
  unpacks : {st : State} → LentState j rows before out st → unpacked ≡ Some st
  unfolding lent_of
  unpacks {st} w = subst (λ (b : Lent). unpacked_of b.numbers b.level ≡ Some st) (sym w.is) (ranged_back st w.ranged)

  -- ---- the numbers are a state: the run from it

  module _ {st : State} (e : unpacked ≡ Some st) where
    abbrev run : End
    run = run_of j.settings (job_gains j) (records_body job j.bodies) st rows out

    its_row : st.row ≡ row_said before.numbers
    its_row = sym (says_row st) ∙ ap row_said (kept_back before.numbers before.level e).0

    fine : IsF64 st
    fine = subst (λ (x : Float). T (fits binary64 x)) (sym (kept_back before.numbers before.level e).1) f

    by_run : next_of job rows before out ≡ lent_after before run
    unfolding next_of after_lent
    by_run = rw (j.is_taken, e)

    many : TooMany st rows → AfterLast j rows before out
    many t = (t.0, omega (arith, t.1, its_row))

    after_last : AfterLast j rows before out → TooMany st rows
    after_last t = (t.0, omega (arith, t.1, its_row))

    same_state : {other : State} → LentState j rows before out other → StateRanged j.settings (job_gains j) st
    unfolding kept_or
    same_state w = subst (StateRanged j.settings (job_gains j)) (ap (kept_or st) (sym (unpacks w) ∙ e)) w.ranged

    its_numbers : before ≡ lent_of st
    unfolding lent_by
    its_numbers = sym (stopped_lent before.numbers before.level st (refusal wrong_state 0) e)

    stated_run : {x : Ran} {after : List ℤ} → RunSays j.settings (job_gains j) (records_body job j.bodies) st rows out x after →
        Says (lent_after before (ended x after))
    unfolding refusal_by lent_by
    stated_run (RunSays.seven t) = LentCallSays.seven (many t)
    stated_run (RunSays.ten t l) = LentCallSays.ten (λ a. t (after_last a)) l
    stated_run (RunSays.eleven t l n) = LentCallSays.eleven (λ a. t (after_last a)) l (λ other w. n (same_state w))
    stated_run (RunSays.by_rows t l r w) = LentCallSays.by_rows (λ a. t (after_last a)) l (record { is = its_numbers; ranged = r }) w

    -- and the other way round
    run_gives : {x : Ran} {after : List ℤ} → RunSays j.settings (job_gains j) (records_body job j.bodies) st rows out x after → run ≡ ended x after
    run_gives {x} {after} w = (theorems.run_said j.settings (job_gains j) (records_body job j.bodies) st rows out fine x after).1 w

    says_kept : Says (next_of job rows before out)
    says_kept =
        subst Says (sym by_run) (stated_run ((theorems.run_said j.settings (job_gains j) (records_body job j.bodies) st rows out fine _ _).0 refl))

  -- ---- they are none

  module _ (e : unpacked ≡ None) where
    abbrev offered : ℕ
    offered = rows_offered rows

    abbrev row : ℕ
    row = row_said before.numbers

    -- the refusal of a call whose whole run is refused
    abbrev told : Option Refusal → Refusal
    told r = unwrap_or r no_refusal

    by_none : {r : Refusal} → outside_of before.numbers rows out ≡ r → next_of job rows before out ≡ untouched r before out
    by_none q = outside_refused job j.is_taken rows before.numbers before.level out e ∙ ap (λ (r : Refusal). untouched r before out) q

    none_seven : AfterLast j rows before out → outside_of before.numbers rows out ≡ refusal too_many_rows rows_most
    unfolding run_refusal
    none_seven a = ap told (sym (if_true (Some (refusal too_many_rows rows_most)) _ (lt-ltb (rows_most - row) offered (omega (arith, a.0, a.1)))))

    room : (AfterLast j rows before out → ⊥) → offered ≤ rows_most - row
    room n = by (ltb (rows_most - row) offered) refl
      where
        by : (t : Bool) → ltb (rows_most - row) offered ≡ t → offered ≤ rows_most - row
        by true q = let l = ltb-true (rows_most - row) offered q in absurd (n (omega arith, omega arith))
        by false q = ltb-false (rows_most - row) offered q

    none_ten : (AfterLast j rows before out → ⊥) → length out < answer_numbers * offered →
        outside_of before.numbers rows out ≡ refusal short_answers (answer_numbers * offered)
    unfolding run_refusal
    none_ten n l =
        ap told
        (sym (if_false (Some (refusal too_many_rows rows_most)) _ (le-ltb (rows_most - row) offered (room n)))
        ∙ sym (if_true (Some (refusal short_answers (answer_numbers * offered))) (Some (refusal wrong_state 0)) (lt-ltb (length out) (answer_numbers * offered) l)))

    none_eleven : (AfterLast j rows before out → ⊥) → answer_numbers * offered ≤ length out → outside_of before.numbers rows out ≡ refusal wrong_state 0
    unfolding run_refusal
    none_eleven n l =
        ap told
        (sym (if_false (Some (refusal too_many_rows rows_most)) _ (le-ltb (rows_most - row) offered (room n)))
        ∙ sym (if_false (Some (refusal short_answers (answer_numbers * offered))) (Some (refusal wrong_state 0)) (le-ltb (length out) (answer_numbers * offered) l)))

    no_state : (st : State) → LentState j rows before out st → ⊥
    unfolding is_kept
    no_state st w = clash refl (ap is_kept (sym (unpacks w) ∙ e))

    says_none : Says (next_of job rows before out)
    says_none = few (ltb (rows_most - row) offered) refl
      where
        long : (AfterLast j rows before out → ⊥) → (t : Bool) → ltb (length out) (answer_numbers * offered) ≡ t → Says (next_of job rows before out)
        long n true q =
            let l = ltb-true (length out) (answer_numbers * offered) q in
            subst Says (sym (by_none (none_ten n l))) (LentCallSays.ten n l)
        long n false q =
            let l = ltb-false (length out) (answer_numbers * offered) q in
            subst Says (sym (by_none (none_eleven n l))) (LentCallSays.eleven n l no_state)

        few : (t : Bool) → ltb (rows_most - row) offered ≡ t → Says (next_of job rows before out)
        few true q =
            let l = ltb-true (rows_most - row) offered q in
            let a : AfterLast j rows before out = (omega arith, omega arith) in
            subst Says (sym (by_none (none_seven a))) (LentCallSays.seven a)
        few false q =
            let l = ltb-false (rows_most - row) offered q in
            long (λ a. omega (arith, a.0, a.1)) (ltb (length out) (answer_numbers * offered)) refl

  -- ---- both

  said : Says (next_of job rows before out)
  said = by unpacked refl
    where
      by : (x : Option State) → unpacked ≡ x → Says (next_of job rows before out)
      by (Some st) e = says_kept e
      by None e = says_none e

  -- a refusal of the whole call
  refuses : (r : Refusal) →
      ((st : State) → unpacked ≡ Some st → RunSays j.settings (job_gains j) (records_body job j.bodies) st rows out (Ran.Refused r) out) →
      (unpacked ≡ None → outside_of before.numbers rows out ≡ r) → next_of job rows before out ≡ untouched r before out
  unfolding refusal_by lent_by
  refuses r kept none = by unpacked refl
    where
      by : (x : Option State) → unpacked ≡ x → next_of job rows before out ≡ untouched r before out
      by (Some st) e = by_run e ∙ ap (lent_after before) (run_gives e (kept st e))
      by None e = by_none e (none e)

  given : {told : NextTold} → Says told → next_of job rows before out ≡ told
  given (LentCallSays.seven a) = refuses _ (λ st e. RunSays.seven (after_last e a)) (λ e. none_seven e a)
  given (LentCallSays.ten n l) = refuses _ (λ st e. RunSays.ten (λ t. n (many e t)) l) (λ e. none_ten e n l)
  given (LentCallSays.eleven n l none) =
      refuses _ (λ st e. RunSays.eleven (λ t. n (many e t)) l (λ r. none _ (record { is = its_numbers e; ranged = r }))) (λ e. none_eleven e n l)
  given (LentCallSays.by_rows n l s w) =
      let e = unpacks s in
      by_run e ∙ ap (lent_after before) (run_gives e (RunSays.by_rows (λ t. n (many e t)) l s.ranged w))

  pub of_a_lent_call : (told : NextTold) → next_of job rows before out ≡ told ↔ LentCallSays j rows before out told
  of_a_lent_call told = (λ e. subst Says e said, given)
