-- What a window tells while a run goes from slot to slot.
-- Definitions beside the rules, which need not be believed.
use Rattle.std.specs.Prelude.{ℕ, ◌+◌, ◌*◌, ◌/◌, ◌≤◌, ◌≡◌, List}
use Rattle.ground.specs.Bits.{packed}
use Rattle.gap_frames.specs.declared.Window.{Window}
use Rattle.gap_frames.specs.Windows.{any_gap, lanes_of, uplink_sets, downlink_sets}

-- its lanes are those of a frame whose last slots are the ones left of it, from a slot on
pub record LanesKept (s : List ℕ) (slot : ℕ) (w : Window) : Type 0 where
  pub first : ℕ
  pub few : w.left ≤ 15
  pub stands : slot + w.left ≡ first + 15
  pub up : w.up ≡ lanes_of (uplink_sets s) first
  pub down : w.down ≡ lanes_of (downlink_sets s) first

-- it tells the slots from a slot on: as many as are left of it, and no more
pub record Kept (s : List ℕ) (slot : ℕ) (w : Window) : Type 0 where
  pub gaps : w.gaps ≡ packed (λ t. any_gap s (slot + t / 3)) (3 * w.left)
  pub ids : 1 ≤ w.left → LanesKept s slot w
