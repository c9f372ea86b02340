-- "The books balance from history alone: control power = start + all changes named so far − withheld, where withheld
-- is the largest amount by which start plus changes stood above its own row's ceiling over the sent rows so far (0 if
-- never). A sent row is limited exactly when that amount is above zero and above every earlier sent row's. Total power
-- never passes the allowed maximum; data power stands by the same amount from control power in limited and unlimited
-- rows." Statements alone.
-- Definitions, to be believed.
use Rattle.std.specs.Prelude.{ℕ, suc, ◌≤◌, ◌<◌, ◌≡◌, ◌↔◌, false, List, ℤ, pos, ◌-ℤ◌, ◌*ℤ◌, ◌≤ℤ◌, Ok}
use Rattle.gap_slots.specs.Slots.{opens_uplink}
use Rattle.row_state.specs.declared.State.{State}
use Rattle.row_values.specs.declared.Row.{Row}
use Rattle.row_values.specs.declared.Answer.{Answer}
use Rattle.row_rules.specs.Stepping.{Stepped}
use Rattle.row_rules.specs.History.{History, state_at, answer_at, reached}
use Rattle.row_rules.specs.Refusing.{IsF64}
use Rattle.row_rules.specs.Theorems.{Largest, Limits}
use Rattle.exports.specs.Steps.{Lent}
use Rattle.demands.specs.Live.{LiveSaid, OnAnswersLeft}
use Rattle.demands.specs.Rows.{part_rows, row_triple, Test, history}
use Rattle.demands.specs.Demand2.{RowSaid, Reference, Works, answer_by, Meets, this_reference}

-- The changes are those that demand 2 names of each row: `named` says that each is the page's, and `one_change` that
-- the page allows no other.
module _ (h : History) where
  -- the books of a row: a sent one, and one in an uplink gap, which has no control power
  pub record Balanced (k : ℕ) (a : Answer) : Type 0 where
    -- "control power = start + all changes named so far − withheld"
    pub control : opens_uplink (h.slot k) ≡ false → a.dpcch ≡ reached h (suc k) -ℤ a.held
    -- "withheld is the largest amount by which start plus changes stood above its own row's ceiling over the sent rows
    -- so far (0 if never)"
    pub withheld : Largest h (suc k) a.held
    -- "A sent row is limited exactly when that amount is above zero and above every earlier sent row's."
    pub limited : opens_uplink (h.slot k) ≡ false → a.state ≡ pos 2 ↔ Limits h k
    -- "Total power never passes the allowed maximum"
    pub maximum : opens_uplink (h.slot k) ≡ false → a.total ≤ℤ (pos 64 *ℤ h.settings.maximum)

-- of a reference: so it is with what its run leaves at the place of each accepted row, and with a step's answer
pub record KeepsBooks (ref : Reference) : Type 0 where
  pub of_runs : (job rows : List ℕ) (out : List ℤ) (k : ℕ) (w : Works job rows out k) →
      Balanced (part_rows w.taken rows) k (answer_by ref job rows out k)
  pub of_steps : {job : List ℕ} (t : Test job) (k : ℕ) → k < t.n → {next : State} {a : Answer} →
      ref.step job (state_at (history t) k) (t.row k) ≡ Ok (next, a) → Balanced (history t) k a

pub record Demand3 : Type 0 where
  pub books : {job : List ℕ} (t : Test job) (k : ℕ) → k < t.n → Balanced (history t) k (answer_at (history t) k)
  -- a live test has books too: those of each answer that a call leaves are of its whole history
  pub live_books : {job rows : List ℕ} {st : Lent} (l : LiveSaid job rows st) (more : List ℕ) (out : List ℤ) →
      OnAnswersLeft l more out (λ h t. Balanced h)
  -- "data power stands by the same amount from control power in limited and unlimited rows"
  pub same_amount : {job : List ℕ} (t : Test job) (i k : ℕ) → i < t.n → k < t.n →
      opens_uplink ((history t).slot i) ≡ false → opens_uplink ((history t).slot k) ≡ false →
      1 ≤ (row_triple t.taken k).betad →
      (answer_at (history t) i).dpdch -ℤ (answer_at (history t) i).dpcch ≡
      (answer_at (history t) k).dpdch -ℤ (answer_at (history t) k).dpcch
  -- the same books in the state before each row, so that they stay as they are over a gap
  pub kept : {job : List ℕ} (t : Test job) (k : ℕ) → k ≤ t.n →
      (let st = state_at (history t) k in
      (st.power ≡ reached (history t) k -ℤ st.held) × Largest (history t) k st.held)
  -- It "shuts out an invented held figure": the rows' changes and ceilings allow one
  pub one_held : (h : History) (k : ℕ) {y z : ℤ} → Largest h k y → Largest h k z → y ≡ z
  -- with demand 2 it allows one answer to each row
  pub one_answer : {job : List ℕ} (t : Test job) (k : ℕ) → k < t.n → (a : Answer) →
      RowSaid (history t) (row_triple t.taken k) k a → Balanced (history t) k a → a ≡ answer_at (history t) k
  -- this reference keeps such books; and demands 2 and 3 leave no other: what a run tells, number, place and every
  -- number of the buffer, is one; so is what a row gives that is offered to any state (of an f64), and what is printed
  pub keeps : KeepsBooks this_reference
  pub one_run : (ref : Reference) → Meets ref → KeepsBooks ref → (job rows : List ℕ) (out : List ℤ) →
      ref.run job rows out ≡ this_reference.run job rows out
  pub one_step : (ref : Reference) → Meets ref → (job : List ℕ) (st : State) (row : Row) → IsF64 st →
      ref.step job st row ≡ this_reference.step job st row
  pub one_text : (ref : Reference) → Meets ref → (job : List ℕ) → ref.text job ≡ this_reference.text job
