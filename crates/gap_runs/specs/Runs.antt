-- "Gaps and runs", second paragraph: what each slot is, said of any pattern of
-- gap slots, and the state by which the code goes from slot to slot.
-- RULES: gaps
-- Definitions, to be believed.
use Rattle.std.specs.Prelude.{ℕ, zero, suc, ◌+◌, ◌-◌, ◌*◌, ◌≤◌, ◌<◌, min, ◌≡◌, Bool, true, false, ◌&&◌, ltb, leb}
use Rattle.ground.specs.Choice.{when◌then◌else◌}
use Rattle.gap_slots.specs.declared.Slot.{Slot}
use Rattle.gap_slots.specs.Slots.{gap_slot}
use Rattle.gap_runs.specs.declared.Run.{Run}
use Rattle.gap_runs.specs.declared.Kind.{Kind}
use Rattle.gap_runs.specs.declared.Kind.TheVariants.{Gap, Resume, Recovery, Plain}
use Rattle.gap_runs.specs.declared.Walked.{Walked}

-- "gap slot in some direction", of each slot
-- DECISIONS: gaps-runs-merge
abbrev pub gaps_of : (ℕ → Slot) → ℕ → Bool
gaps_of slots k = gap_slot (slots k)

-- ---- what the page says, without a state: `gap` tells of each slot whether it is a gap slot

-- "a run is a longest stretch of neighbouring slots that are each a gap slot in some direction": the slots from
-- `first` to the one before `next`, one at least; neither the slot before nor the slot after is a gap slot
pub record IsRun (gap : ℕ → Bool) (first next : ℕ) : Type 0 where
  pub some : first < next
  pub each : (i : ℕ) → first ≤ i → i < next → gap i ≡ true
  pub before : (i : ℕ) → i + 1 ≡ first → gap i ≡ false
  pub after : gap next ≡ false

-- "The slot after a run is the resume slot."
pub record IsResume (gap : ℕ → Bool) (k : ℕ) : Type 0 where
  pub first : ℕ
  pub run : IsRun gap first k

-- "RPL = min(run length, 7)."
abbrev pub rpl : (first next : ℕ) → ℕ
rpl first next = min (next - first) 7

-- "Recovery slots are the RPL slots after the resume slot, ending early at the next run."
-- DECISIONS: gaps-recovery-any-rpp
pub record IsRecovery (gap : ℕ → Bool) (k : ℕ) : Type 0 where
  pub first : ℕ
  pub resume : ℕ
  pub run : IsRun gap first resume
  pub later : resume < k
  pub soon : k ≤ resume + rpl first resume
  pub clear : (i : ℕ) → resume ≤ i → i ≤ k → gap i ≡ false

-- what each kind says of its slot
abbrev pub Means : (ℕ → Bool) → ℕ → Kind → Type 0
Means gap k Gap = gap k ≡ true
Means gap k Resume = IsResume gap k
Means gap k Recovery = IsRecovery gap k
Means gap k Plain = (gap k ≡ false) × (IsResume gap k → ⊥) × (IsRecovery gap k → ⊥)

-- a recovery slot by its distance d from the resume slot: d gap
-- slots, then d + 1 slots that are none, the last of them k
pub record Recovers (gap : ℕ → Bool) (k : ℕ) : Type 0 where
  pub d : ℕ
  pub least : 1 ≤ d
  pub most : d ≤ 7
  pub room : 2 * d ≤ k
  pub gaps : (i : ℕ) → k - 2 * d ≤ i → i < k - d → gap i ≡ true
  pub clear : (i : ℕ) → k - d ≤ i → i ≤ k → gap i ≡ false

-- ---- one slot after the other

abbrev pub walked : ℕ → ℕ → Kind → Walked
walked length left kind = record { run = record { length = length; left = left }; kind = kind }

-- before slot 0 there is no run
unfoldable pub no_run : Run
no_run = record { length = 0; left = 0 }

-- a gap slot makes the run one longer, up to 7; the slot after it resumes,
-- with as many recovery slots to come; a gap slot ends them early
-- DECISIONS: gaps-length-seven
unfoldable pub stepped : Run → Bool → Walked
stepped run gap =
    when gap then
    (when ltb run.length 7 then walked (run.length + 1) 0 Kind.Gap else walked 7 0 Kind.Gap)
    else
    when ltb 0 run.length then walked 0 run.length Kind.Resume else
    when ltb 0 run.left then walked 0 (run.left - 1) Kind.Recovery else
    walked 0 0 Kind.Plain

-- by the slot's directions
unfoldable pub walked_of : Run → Slot → Walked
walked_of run slot = stepped run (gap_slot slot)

-- the run before slot k, and what slot k is, walked from slot 0 over any pattern of gap slots
unfoldable pub run_at : (ℕ → Bool) → ℕ → Run
run_at gap zero = no_run
run_at gap (suc k) = (stepped (run_at gap k) (gap k)).run

unfoldable pub kind_at : (ℕ → Bool) → ℕ → Kind
kind_at gap k = (stepped (run_at gap k) (gap k)).kind

-- what the run before slot k says of the slots so far: that there has been no gap slot; that a run goes on, and its
-- length, counted up to 7; or that the last run is over, and how many of its RPL recovery slots are still to come
pub data Stands (gap : ℕ → Bool) (k : ℕ) (r : Run) : Type 0 where
  never : ((i : ℕ) → 0 ≤ i → i < k → gap i ≡ false) → r.length ≡ 0 → r.left ≡ 0 → Stands gap k r
  inside : (first : ℕ) → first < k → ((i : ℕ) → first ≤ i → i < k → gap i ≡ true) →
      ((i : ℕ) → i + 1 ≡ first → gap i ≡ false) →
      r.length ≡ rpl first k → r.left ≡ 0 → Stands gap k r
  past : (first resume : ℕ) → IsRun gap first resume → resume < k → ((i : ℕ) → resume ≤ i → i < k → gap i ≡ false) →
      r.length ≡ 0 → r.left ≡ rpl first resume - (k - (resume + 1)) → Stands gap k r

-- what is promised of one slot more: its kind and the run after it, and what these say, of any slots so far for which
-- the run before it stands
pub record WalkTold (run : Run) (slot : Slot) (answer : Walked) : Type 0 where
  pub is : answer ≡ walked_of run slot
  pub says : (gap : ℕ → Bool) (k : ℕ) → Stands gap k run → gap k ≡ gap_slot slot → Means gap k answer.kind
  pub stands : (gap : ℕ → Bool) (k : ℕ) → Stands gap k run → gap k ≡ gap_slot slot → Stands gap (suc k) answer.run

-- what a run may be in a state, as far as RPL counts: as a fact, and as a test
-- DECISIONS: gaps-length-seven
pub record RunIn (r : Run) : Type 0 where
  pub length_most : r.length ≤ 7
  pub left_most : r.left ≤ 7

unfoldable pub run_sound : Run → Bool
run_sound r = leb r.length 7 && leb r.left 7
