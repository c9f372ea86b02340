-- A state that was handed out as numbers is the state that the next rows start from, so that a live test goes as a run does; and where no row is
-- taken, the numbers and the level are left as they were.
-- Assumes nothing.
use Rattle.std.specs.Prelude.{ℕ, ◌-◌, ◌*◌, ◌≡◌, refl, Bool, true, false, List, ltb, Float, ℤ, pos, length, Ok, Some, None, Option}
use Rattle.std.proofs.Common.{sym, ap, ◌∙◌, arith, eq-eqb, ne_eqb}
use Rattle.std.specs.Option.{unwrap_or}
use Rattle.ground.specs.declared.Refusal.{Refusal}
use Rattle.ground.specs.Choice.{when◌then◌else◌}
use Rattle.ground.proofs.Laws.Choice.{if_true, if_false}
use Rattle.ground.proofs.Laws.Integers.Signs.{signs}
use Rattle.constants.specs.Sizes.{rows_most, answer_numbers}
use Rattle.constants.specs.Refusals.{refusal, no_refusal, too_many_rows, short_answers, wrong_state}
use Rattle.power.proofs.Laws.Gain.{gain_in}
use Rattle.job_contents.specs.declared.Bodies.{Bodies}
use Rattle.job_settings.specs.declared.Settings.{Settings}
use Rattle.row_values.specs.Rows.{rows_offered}
use Rattle.row_state.specs.declared.State.{State}
use Rattle.row_state.specs.States.{state_start}
use Rattle.row_rules.specs.declared.Ran.{Ran}
use Rattle.row_rules.specs.Refusing.{StateRanged, HandedOut}
use Rattle.row_rules.specs.Rules.{admits}
use Rattle.row_rules.specs.Runs.{OnRun, ended, run_refusal, unless_refused, run_of}
use Rattle.row_rules.proofs.Laws.Theorems.All.{theorems}
use Rattle.job.specs.Load.{gains_body, records_body, rows_body, loaded_of}
use Rattle.job.specs.Jobs.{ran_of}
use Rattle.job.proofs.Laws.Theorems.Runs.{start_handed_lem, ran_job}
use Rattle.exports_state.specs.Packed.{state_version, state_numbers, nth, numbers_of, unpacked_of}
use Rattle.exports_state.proofs.Laws.Packed.{in_packed_back, kept_back, other_count, other_version}
use Rattle.exports.specs.Calls.{Told, told_by, run_after}
use Rattle.exports.specs.Steps.{Lent, lent, lent_of, lent_by, LentStart, handed, start_handed, started_lent}
use Rattle.exports.specs.Steps.{NextTold, untouched, lent_after, outside_of, after_lent, next_of}

-- the refusal and the answers of rows after a state, without the state
abbrev pub answered : NextTold → Told
answered n = record { refusal = n.refusal; out = n.out }

-- a state in its ranges comes back from its numbers
pub ranged_back : {s : Settings} {gains : List ℕ} (st : State) → StateRanged s gains st → unpacked_of (numbers_of st) st.filter.level ≡ Some st
ranged_back st h =
    let g = gain_in h.triple.ranged h.settings.maximum in
    in_packed_back st (omega (arith, h.settings.links)) (omega (signs, g.ceiling_in)) h.state

-- "A refused row changes no state": a run that stopped in the state that the lent numbers are leaves them, and their level, as they were
pub stopped_lent : (ns : List ℤ) (level : Float) (st : State) (r : Refusal) → unpacked_of ns level ≡ Some st →
    lent_by (Ran.Stopped st r) (lent ns level) ≡ lent ns level
unfolding lent_by lent_of
stopped_lent ns level st r e = let k = kept_back ns level e in λ i. lent (k.0 i) (k.1 i)

-- what refuses so many rows from no sound state, by whether there are too many rows and too little room
abbrev refused_by : (rows : ℕ) → Bool → Bool → Option Refusal
refused_by rows many short =
    when many then Some (refusal too_many_rows rows_most) else
    when short then Some (refusal short_answers (answer_numbers * rows)) else Some (refusal wrong_state 0)

-- what is no sound state refuses every run
always_refused : (row rows room : ℕ) → run_refusal row rows room false ≡ Some (unwrap_or (run_refusal row rows room false) no_refusal)
unfolding run_refusal
always_refused row rows room = by (ltb (rows_most - row) rows) (ltb room (answer_numbers * rows))
  where
    by : (a b : Bool) → refused_by rows a b ≡ Some (unwrap_or (refused_by rows a b) no_refusal)
    by true b = refl
    by false true = refl
    by false false = refl

-- numbers that are no state are refused as a state outside its ranges is that says the same row
pub outside_alike : (s : Settings) (gains records : List ℕ) (st : State) (rows : List ℕ) (out : List ℤ) → admits s gains st ≡ false →
    run_of s gains records st rows out ≡ ended (Ran.Refused (unwrap_or (run_refusal st.row (rows_offered rows) (length out) false) no_refusal)) out
unfolding run_of unless_refused
outside_alike s gains records st rows out e = rw (e, always_refused st.row (rows_offered rows) (length out))

-- ---- a job that is taken

module _ (job : List ℕ) {s : Settings} {b : Bodies} (e : loaded_of job ≡ Ok (s, b)) where
  -- rows after a state that was handed out are the run after it
  pub next_after : (rows : List ℕ) (st : State) (out : List ℤ) → StateRanged s (gains_body job b) st →
      next_of job rows (lent_of st) out ≡ lent_after (lent_of st) (run_after job s b st rows out)
  unfolding next_of after_lent lent_of
  next_after rows st out h = rw (e, ranged_back st h)

  -- and what they hand out is a state to go on from
  pub next_handed : (rows : List ℕ) (st : State) (out : List ℤ) → StateRanged s (gains_body job b) st →
      OnRun (HandedOut s (gains_body job b)) (run_after job s b st rows out).result
  next_handed rows st out h = theorems.run s (gains_body job b) (records_body job b) st rows out h.state.filter_in.level.fits

  -- the call after that starts from it, whether all rows were taken or one of them was refused
  abbrev Again : (more : List ℕ) (other : List ℤ) (before : Lent) → State → Type 0
  Again more other before next = next_of job more before other ≡ lent_after (lent_of next) (run_after job s b next more other)

  pub next_again : (rows more : List ℕ) (st : State) (out other : List ℤ) → StateRanged s (gains_body job b) st →
      OnRun (Again more other (next_of job rows (lent_of st) out).state) (run_after job s b st rows out).result
  unfolding OnRun lent_by
  next_again rows more st out other h = rw (next_after rows st out h) (by (run_after job s b st rows out).result (next_handed rows st out h))
    where
      by : (x : Ran) → OnRun (HandedOut s (gains_body job b)) x → OnRun (Again more other (lent_by x (lent_of st))) x
      by (Ran.Done next) k = next_after more next other k.ranged
      by (Ran.Stopped next r) k = next_after more next other k.ranged
      by (Ran.Refused r) k = tt

  -- lent numbers and their level are left as they were where the first row is refused, where all rows are, and where the numbers are no state
  module _ (rows : List ℕ) (ns : List ℤ) (level : Float) (out : List ℤ) where
    pub first_refused : {st : State} {r : Refusal} → unpacked_of ns level ≡ Some st → (run_after job s b st rows out).result ≡ Ran.Stopped st r →
        (next_of job rows (lent ns level) out).state ≡ lent ns level
    unfolding next_of after_lent
    first_refused {st} {r} k f = rw (e, k, f) (stopped_lent ns level st r k)

    pub all_refused : {st : State} {r : Refusal} → unpacked_of ns level ≡ Some st → (run_after job s b st rows out).result ≡ Ran.Refused r →
        (next_of job rows (lent ns level) out).state ≡ lent ns level
    unfolding next_of after_lent lent_by
    all_refused k f = rw (e, k, f)

    pub outside_refused : unpacked_of ns level ≡ None → next_of job rows (lent ns level) out ≡ untouched (outside_of ns rows out) (lent ns level) out
    unfolding next_of after_lent
    outside_refused k = rw (e, k)

    -- so it is with numbers of another count and with another version, which are no state
    pub count_refused : (length ns ≡ state_numbers → ⊥) → next_of job rows (lent ns level) out ≡ untouched (outside_of ns rows out) (lent ns level) out
    count_refused n = outside_refused (other_count ns level n)

    pub version_refused : (nth ns 0 ≡ pos state_version → ⊥) → next_of job rows (lent ns level) out ≡ untouched (outside_of ns rows out) (lent ns level) out
    version_refused n = outside_refused (other_version ns level n)

  -- a start leaves the state before row 0
  pub start_lent : (before : Lent) → length before.numbers ≡ state_numbers → (started_lent job before).state ≡ lent_of (state_start s)
  unfolding started_lent start_handed
  start_lent before all = rw e (ap (λ (x : LentStart). x.state) (sym (if_true _ _ (eq-eqb _ _ all))))

  -- and refuses numbers of another count
  pub start_refused : (before : Lent) → (length before.numbers ≡ state_numbers → ⊥) → started_lent job before ≡ handed (refusal wrong_state 0) before
  unfolding started_lent start_handed
  start_refused before n = rw e (sym (if_false _ _ (ne_eqb _ _ n)))

  -- the file's own rows after a start are the run of the job
  pub start_next_run : (before : Lent) (out : List ℤ) → length before.numbers ≡ state_numbers →
      answered (next_of job (rows_body job b) (started_lent job before).state out) ≡ told_by (ran_of job out)
  start_next_run before out all =
      ap (λ (l : Lent). answered (next_of job (rows_body job b) l out)) (start_lent before all)
      ∙ ap answered (next_after (rows_body job b) (state_start s) out (start_handed_lem job e).ranged)
      ∙ ap told_by (sym (ran_job job out e))
