-- `listing::rows_taken` meets its contract: a run that goes on from a row stands at that row or after it.
use Rattle.std.proofs.Common.{◌≡◌, ◌≤◌, ◌-◌, ◌⊎◌, ℕ, inl, inr, subst}
use Rattle.ground.specs.declared.Refusal.{Refusal}
use Rattle.row_state.specs.declared.State.{State}
use Rattle.row_rules.specs.declared.Ran.{Ran}
use Rattle.listing.specs.Asks.{Onward, taken_by}
use Rattle.listing.proofs.rows_taken.Goals as goal

-- a run that came to a state: all its rows were accepted, or those before one that was refused
abbrev Reached : Ran → State → Type 0
Reached ran st = (ran ≡ Ran.Done st) ⊎ ((r : Refusal) × (ran ≡ Ran.Stopped st r))

onward : (row : ℕ) {ran : Ran} {st : State} → Reached ran st → Onward row ran → row ≤ st.row
unfolding Onward
onward row (inl e) h = subst (Onward row) e h
onward row (inr (r, e)) h = subst (Onward row) e h

taken : (row : ℕ) {ran : Ran} {st : State} → Reached ran st → st.row - row ≡ taken_by row ran
unfolding taken_by
taken row (inl e) = rw e
taken row (inr (r, e)) = rw e

pub overflow_sub-result : goal.overflow_sub-result
overflow_sub-result c = onward c.args.row c.in-Done.is c.requires

pub returns-in-Done : goal.returns-in-Done
returns-in-Done c = taken c.args.row c.in-Done.is

pub returns-in-Refused : goal.returns-in-Refused
unfolding taken_by
returns-in-Refused c = rw c.in-Refused.is
