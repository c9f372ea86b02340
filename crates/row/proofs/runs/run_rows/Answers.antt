-- `row::runs::run_rows` meets its contract: each turn takes the row that the rules take next, or stops where they stop.
use Rattle.std.proofs.Common.{ℕ, List, ◌≡◌, sym, ap, ◌∙◌, arith, rules}
use Rattle.gap_slots.specs.Slots.{slot_at}
use Rattle.gap_frames.specs.declared.Window.{Window}
use Rattle.gap_frames.specs.Windows.{taken_of}
use Rattle.gap_frames.specs.Kept.{Kept}
use Rattle.power.specs.declared.Gain.{Gain}
use Rattle.job_settings.specs.declared.Settings.{Settings}
use Rattle.row_state.specs.declared.State.{State}
use Rattle.gap_frames.specs.declared.Taken.{Taken}
use Rattle.gap_frames.proofs.Laws.Windows.{kept_none, taken_slot}
use Rattle.row_values.specs.declared.Row.{Row}
use Rattle.row_values.specs.Rows.{row_read}
use Rattle.row_rules.specs.Stepping.{Stepped}
use Rattle.row_rules.specs.Rules.{row_of}
use Rattle.row.proofs.Turns.{begun, fine, read_on, turned, stopped, cut_short, finished}
use Rattle.row.proofs.runs.run_rows.Goals as goal

pub loop-k-init : goal.loop-k-init
loop-k-init c = (begun c.requires, kept_none _ _ _ _)

pub row_by-requires : goal.row_by-requires
row_by-requires c = fine c.requires c.loop-k.invariant.0 c.loop-k-test.true

-- the slot that was read ahead is the row's, and so the row is the rules'
row_is : (s : Settings) (g : Gain) (st : State) (rows : List ℕ) (k : ℕ) {records : List ℕ} {w : Window} {t : Taken} {row : Row} {x : Stepped} →
    Kept records st.row w → t ≡ taken_of records w st.row → row ≡ row_read rows k → x ≡ row_of s g t.slot st row →
    row_of s g (slot_at records st.row) st (row_read rows k) ≡ x
row_is s g st rows k h e r b =
    let slot = ap (λ (a : Taken). a.slot) e ∙ taken_slot h in
    sym ((rw slot at b) ∙ ap (row_of s g (slot_at _ st.row) st) r)

pub returns-in-Err : goal.returns-in-Err
returns-in-Err c =
    let e = row_is _ _ _ _ _ c.loop-k.invariant.1 c.take-ahead.ensures c.row_at-row.ensures c.row_by.ensures in
    stopped c.requires c.loop-k.invariant.0 c.loop-k-test.true (e ∙ c.in-Err.is)

pub loop-k-preserved : goal.loop-k-preserved
loop-k-preserved c =
    let e = row_is _ _ _ _ _ c.loop-k.invariant.1 c.take-ahead.ensures c.row_at-row.ensures c.row_by.ensures in
    let turn = turned c.requires c.loop-k.invariant.0 c.loop-k-test.true (e ∙ c.in-Ok.is) (search rules) c.put.ensures in
    (turn, read_on c.loop-k.invariant.1 c.take-ahead.ensures (omega (arith, turn.row_is, c.loop-k.invariant.0.row_is)))

pub returns-then-rows-gt0 : goal.returns-then-rows-gt0
returns-then-rows-gt0 c = rw c.at_row.ensures (cut_short c.requires c.loop-k.invariant.0 c.loop-k-test.false c.if-rows-gt0.true)

pub returns : goal.returns
returns c = finished c.requires c.loop-k.invariant.0 c.loop-k-test.false c.if-rows-gt0.false
