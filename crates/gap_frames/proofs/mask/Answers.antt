-- `mask` meets its contract: the bits of each id, computed.
use Rattle.std.proofs.Common.{ℕ, ◌≡◌, ◌+◌, ◌%◌, ◌<◌, arith, eqb, ne_eqb}
use Rattle.ground.specs.Bits.{packed}
use Rattle.ground.proofs.Laws.Bits.{packed_none}
use Rattle.gap_frames.specs.Asks.{mask_of}
use Rattle.gap_frames.proofs.mask.Goals as goal

-- a number that is none of three ids has no bit
none : (id below : ℕ) → ((i : ℕ) → i < 3 → id ≡ i + below → ⊥) → packed (λ t. eqb id (t % 3 + below)) 45 ≡ 0
none id below h = packed_none _ 45 (λ t _. ne_eqb id (t % 3 + below) (h (t % 3) (omega arith)))

pub returns-in-1 : goal.returns-in-1
unfolding mask_of packed
returns-in-1 c = rw c.in-1.is

pub returns-in-2 : goal.returns-in-2
unfolding mask_of packed
returns-in-2 c = rw c.in-2.is

pub returns-in-3 : goal.returns-in-3
unfolding mask_of packed
returns-in-3 c = rw c.in-3.is

pub returns-in-4 : goal.returns-in-4
unfolding mask_of packed
returns-in-4 c = rw c.in-4.is

pub returns-in-5 : goal.returns-in-5
unfolding mask_of packed
returns-in-5 c = rw c.in-5.is

pub returns-in-6 : goal.returns-in-6
unfolding mask_of packed
returns-in-6 c = rw c.in-6.is

pub returns-in_default : goal.returns-in_default
unfolding mask_of
returns-in_default c = rw (none c.args.id 1 (λ i h e. absurd (omega arith)), none c.args.id 4 (λ i h e. absurd (omega arith)))
