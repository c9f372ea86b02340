-- `row::runs::run` meets its contract: what is asked of the whole run, and else its rows under the job's gain.
use Rattle.std.proofs.Common.{ℕ, Bool, List, ◌≡◌, sym, ◌∙◌, arith, Option}
use Rattle.ground.specs.declared.Refusal.{Refusal}
use Rattle.power.specs.declared.Gain.{Gain}
use Rattle.job_settings.specs.declared.Settings.{Settings}
use Rattle.row_state.specs.declared.State.{State}
use Rattle.row_values.specs.Rows.{rows_offered}
use Rattle.row_rules.specs.Rules.{admits, gain_for}
use Rattle.row_rules.specs.Runs.{run_refusal, unless_refused, run_of}
use Rattle.row_rules.proofs.Laws.Theorems.Said.{run_told}
use Rattle.row.specs.Asks.{Admitted}
use Rattle.row.proofs.Passed.{asked, passed, gain_ranged, clear}
use Rattle.row.proofs.runs.run.Goals as goal

-- the refusal is the rule's
meant : (rows : List ℕ) (room : ℕ) {s : Settings} {gains : List ℕ} {g : Gain} {st : State} {sound : Bool} {n : ℕ} {r : Option Refusal} →
    g ≡ gain_for s gains → Admitted s gains g.ceiling st sound → n ≡ rows_offered rows → r ≡ run_refusal st.row n room sound →
    r ≡ run_refusal st.row (rows_offered rows) room (admits s gains st)
meant rows room e h o f = rw (asked e h, o) at f

pub returns-in-Some : goal.returns-in-Some
unfolding run_of unless_refused
returns-in-Some c =
    let m = meant _ _ c.gain_for-g.ensures c.admitted-sound.ensures c.rows_offered-n.ensures c.in-Some.ensures in
    run_told _ _ _ _ _ _ c.admitted-sound.ensures.fits (rw (← m))

pub run_rows-requires : goal.run_rows-requires
run_rows-requires c =
    let m = meant _ _ c.gain_for-g.ensures c.admitted-sound.ensures c.rows_offered-n.ensures c.in-None.ensures in
    let t = clear _ _ _ _ (sym m) in
    let e = c.gain_for-g.ensures in
    let h = passed e c.admitted-sound.ensures (asked e c.admitted-sound.ensures ∙ t.is_sound) in
    rw e (record { settings = h.settings; gain = gain_ranged h; state = h.state; few = omega (arith, t.few, h.state.row_in); space = t.space })

pub returns-in-None : goal.returns-in-None
unfolding run_of unless_refused
returns-in-None c =
    let m = meant _ _ c.gain_for-g.ensures c.admitted-sound.ensures c.rows_offered-n.ensures c.in-None.ensures in
    run_told _ _ _ _ _ _ c.admitted-sound.ensures.fits ((rw c.gain_for-g.ensures at c.run_rows.ensures) ∙ rw (← m))
