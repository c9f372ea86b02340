-- What a listing is made of, and that the states handed out with its pieces are in their ranges.
-- Assumes nothing.
use Rattle.std.specs.Prelude.{ℕ, ◌+◌, ◌-◌, ◌≤◌, ◌≡◌, List, ltb, Ok, Err}
use Rattle.std.proofs.Math.Bool.{false}
use Rattle.std.proofs.Common.{arith}
use Rattle.ground.specs.declared.Refusal.{Refusal}
use Rattle.ground.proofs.Laws.Choice.{either}
use Rattle.constants.specs.Sizes.{rows_most}
use Rattle.constants.specs.Refusals.{too_many_rows}
use Rattle.gap_slots.specs.Slots.{slot_at}
use Rattle.power.proofs.Laws.Gain.{gain_in}
use Rattle.job_settings.specs.declared.Settings.{Settings}
use Rattle.row_state.specs.declared.State.{State}
use Rattle.row_state.specs.States.{StateIn}
use Rattle.row_values.specs.Rows.{rows_from}
use Rattle.row_values.proofs.Laws.Rows.{rows_length}
use Rattle.row_rules.specs.declared.Ran.{Ran}
use Rattle.row_rules.specs.Rules.{admits}
use Rattle.row_rules.specs.Runs.{Rows, go, OnRun}
use Rattle.row_rules.proofs.Laws.Runs.{rows_closed}
use Rattle.row_rules.specs.Refusing.{IsF64, StateRanged, HandedOut}
use Rattle.row_rules.proofs.Laws.Theorems.Refusals.{admits_ranged}
use Rattle.row_rules.proofs.Laws.Theorems.Ranges.{ranged_handed}
use Rattle.job_contents.specs.declared.Bodies.{Bodies}
use Rattle.listing_rules.specs.Text.{refusal_line}
use Rattle.job.specs.Load.{Loaded}
use Rattle.job.specs.Load.{gains_body, records_body, rows_body, row_count, loaded_of}
use Rattle.job.proofs.Laws.Theorems.Taking.{takes}
use Rattle.job.proofs.Laws.Theorems.Runs.{load_number, start_handed_lem}
use Rattle.listing.specs.declared.Stand.{Stand}
use Rattle.listing.specs.Listing.{job_gain, listing_of}
use Rattle.listing.specs.Pieces.{listed_rows, rows_at_once, rows_after, stands_at, rows_part, some_rows, part_of}
use Rattle.listing.proofs.Laws.Pieces.{no_more}
use Rattle.listing_theorems.specs.Theorems.{OnStand}

pub alone : (job : List ℕ) {r : Refusal} → loaded_of job ≡ Err r →
    (listing_of job ≡ refusal_line r) × ((1 ≤ r.number) × (r.number ≤ too_many_rows))
unfolding listing_of
alone job e = (rw e, load_number job e)

-- ---- the states

module _ (job : List ℕ) {s : Settings} {b : Bodies} (e : loaded_of job ≡ Ok (s, b)) where
  abbrev Handed : State → Type 0
  Handed = HandedOut s (gains_body job b)

  stands_so : (count : ℕ) (x : Ran) → OnRun Handed x → OnStand Handed (stands_at count x)
  unfolding OnRun OnStand stands_at
  stands_so count (Ran.Done st) h = either (OnStand Handed) (ltb count 1) (λ t. tt) (λ t. h)
  stands_so count (Ran.Stopped st r) h = tt
  stands_so count (Ran.Refused r) h = tt

  all_handed : (x : Ran) {st : State} → StateRanged s (gains_body job b) st → OnRun (StateIn s.links (job_gain job s b).ceiling) x → OnRun Handed x
  unfolding OnRun
  all_handed (Ran.Done after) g h = ranged_handed s (gains_body job b) after (record { settings = g.settings; triple = g.triple; state = h })
  all_handed (Ran.Stopped after r) g h = ranged_handed s (gains_body job b) after (record { settings = g.settings; triple = g.triple; state = h })
  all_handed (Ran.Refused r) g h = tt

  after_handed : (st : State) (row count : ℕ) → IsF64 st → (st.row ≤ rows_most → st.row + count ≤ rows_most) →
      OnRun Handed (rows_after s b job st row count).result
  unfolding rows_after OnRun
  after_handed st row count f fit =
      let g = job_gain job s b in
      let slots = slot_at (records_body job b) in
      let blk = rows_from (rows_body job b) count row in
      either (λ (r : Rows). OnRun Handed r.result) (admits s (gains_body job b) st)
      (λ a. let r = admits_ranged s (gains_body job b) st f a in
      all_handed (go s g slots st blk false).result r
      (rows_closed s g slots st blk false r.settings (gain_in r.triple.ranged r.settings.maximum) r.state
      (rw (rows_length (rows_body job b) count row) (fit r.state.row_in))))
      (λ a. tt)

  pub handed : (stand : Stand) (size : ℕ) → OnStand IsF64 stand → OnStand Handed (part_of job stand size).next
  unfolding OnStand part_of some_rows rows_part
  handed Stand.Before size f = rw e (start_handed_lem job e)
  handed (Stand.After st) size f =
      let rows = row_count job b in
      let done = listed_rows rows st.row in
      let count = rows_at_once (rows - done) size in
      rw e (stands_so count (rows_after s b job st done count).result
      (after_handed st done count f (λ h. omega (arith, (takes job e).rows_few, no_more (rows - done) size))))
  handed Stand.Over size f = tt
