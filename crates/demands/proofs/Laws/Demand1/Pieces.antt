-- The pieces of the listing, proved: the first, one that is asked for after any state, none, and a buffer that is too short.
-- Assumes nothing.
use Rattle.std.specs.Prelude.{ℕ, ◌<◌, ◌≡◌, ◌↔◌, Bool, List, [], length, Err}
use Rattle.std.proofs.Math.Path.{refl, ap, subst}
use Rattle.std.proofs.Common.{sym, ◌∙◌, lt-ltb}
use Rattle.std.proofs.Math.Bool.{true, false}
use Rattle.ground.proofs.Laws.Choice.{clash, if_true, if_false}
use Rattle.constants.specs.Sizes.{piece_least}
use Rattle.constants.specs.Refusals.{refusal, wrong_state}
use Rattle.power.specs.declared.Gain.{Gain}
use Rattle.row_state.specs.declared.State.{State}
use Rattle.row_values.specs.declared.Row.{Row}
use Rattle.row_values.specs.Rows.{rows_from}
use Rattle.row_rules.specs.declared.Ran.{Ran}
use Rattle.row_rules.specs.Rules.{admits}
use Rattle.row_rules.specs.Runs.{Rows, over, go}
use Rattle.row_rules.specs.History.{state_at}
use Rattle.row_rules.specs.Refusing.{IsF64, StateRanged}
use Rattle.row_rules.proofs.Laws.Theorems.Refusals.{admits_ranged, ranged_admits}
use Rattle.row_rules.proofs.Laws.Theorems.Said.{rows_say, rows_said}
use Rattle.listing_rules.specs.Text.{header, lines}
use Rattle.listing.specs.declared.Stand.{Stand}
use Rattle.listing.specs.Pieces.{Written}
use Rattle.listing.specs.Listing.{job_gain}
use Rattle.listing.specs.Pieces.{Part, part_with, rows_after, closes, stands_at, rows_part, some_rows, part_of, made, piece_of}
use Rattle.demands.specs.Rows.{TakenJob, job_gains, file_bytes, job_slot, file_rows}
use Rattle.demands.specs.Demand1.{listed_before, listed_now, PieceAfter}

module _ {job : List ℕ} (j : TakenJob job) (st : State) (size : ℕ) where
  abbrev gain : Gain
  gain = job_gain job j.settings j.bodies

  abbrev next : List Row
  next = rows_from (file_bytes j) (listed_now j st size) (listed_before j st size)

  abbrev these : Rows
  these = go j.settings gain (job_slot j) st next false

  -- a piece that is made of some rows
  abbrev made_of : Rows → Part
  made_of r = rows_part gain.carries_data st.row (listed_now j st size) r

  by_part : part_of job (Stand.After st) size ≡
      made_of (rows_after j.settings j.bodies job st (listed_before j st size) (listed_now j st size))
  unfolding part_of some_rows
  by_part = rw j.is_taken

  taken_part : admits j.settings (job_gains j) st ≡ true → part_of job (Stand.After st) size ≡ made_of these
  unfolding rows_after
  taken_part e = by_part ∙ ap made_of (sym (if_true _ _ e))

  refused_part : admits j.settings (job_gains j) st ≡ false → part_of job (Stand.After st) size ≡ made_of (over (Ran.Refused (refusal wrong_state 0)))
  unfolding rows_after
  refused_part e = by_part ∙ ap made_of (sym (if_false _ _ e))

  not_ranged : IsF64 st → (StateRanged j.settings (job_gains j) st → ⊥) → admits j.settings (job_gains j) st ≡ false
  not_ranged f n = by (admits j.settings (job_gains j) st) refl
    where
      by : (t : Bool) → admits j.settings (job_gains j) st ≡ t → admits j.settings (job_gains j) st ≡ false
      by true e = absurd (n (admits_ranged j.settings (job_gains j) st f e))
      by false e = e

  stated : IsF64 st → PieceAfter j st size (part_of job (Stand.After st) size)
  unfolding rows_part closes stands_at lines
  stated f = by (admits j.settings (job_gains j) st) refl
    where
      by : (t : Bool) → admits j.settings (job_gains j) st ≡ t → PieceAfter j st size (part_of job (Stand.After st) size)
      by true e =
          subst (PieceAfter j st size) (sym (taken_part e))
          (PieceAfter.by_rows (admits_ranged j.settings (job_gains j) st f e) (rows_say j.settings gain (job_slot j) false st next))
      by false e =
          subst (PieceAfter j st size) (sym (refused_part e))
          (PieceAfter.eleven (λ r. clash (ranged_admits j.settings (job_gains j) st r) e))

  given : IsF64 st → {p : Part} → PieceAfter j st size p → part_of job (Stand.After st) size ≡ p
  unfolding rows_part closes stands_at lines
  given f (PieceAfter.eleven n) = refused_part (not_ranged f n)
  given f (PieceAfter.by_rows r w) =
      taken_part (ranged_admits j.settings (job_gains j) st r) ∙ ap made_of (rows_said j.settings gain (job_slot j) false w)

  pub piece_after : IsF64 st → (p : Part) → part_of job (Stand.After st) size ≡ p ↔ PieceAfter j st size p
  piece_after f p = (λ e. subst (PieceAfter j st size) e (stated f), given f)

-- the first piece, and none once the listing is over
pub first_piece : {job : List ℕ} (j : TakenJob job) (size : ℕ) → part_of job Stand.Before size ≡ part_with header (Stand.After (state_at (file_rows j) 0))
unfolding part_of state_at
first_piece j size = rw j.is_taken

pub no_piece : (job : List ℕ) (size : ℕ) → part_of job Stand.Over size ≡ part_with [] Stand.Over
unfolding part_of
no_piece job size = refl

pub too_short : (job : List ℕ) (stand : Stand) (out : List ℕ) → length out < piece_least → piece_of job stand out ≡ made (Err piece_least) out
unfolding piece_of
too_short job stand out l = sym (if_true _ _ (lt-ltb (length out) piece_least l))
