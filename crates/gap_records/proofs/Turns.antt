-- What a loop over the records meets at each turn: one record more of the list that its rule goes over.
-- Assumes nothing.
use Rattle.std.proofs.Common.{Err, Result, Option, Some, None}
use Prim.Native.Nat.{ℕ, ◌+◌, ◌-◌, ◌*◌, ◌≤◌, ◌<◌}
use mathlib.Core.Path.{◌≡◌}
use mathlib.Core.List.{List}
use mathlib.Core.Bool.{Bool, true, false}
use borrow.Author.Tests.{eq-eqb, ne_eqb}
use Rattle.ground.proofs.Laws.Lists.{left_suc, left_none}
use Rattle.constants.specs.Sizes.{record_bytes}
use Rattle.constants.specs.Refusals.{refusal, wrong_record, repeated_id}
use Rattle.gap_records.specs.declared.Sequence.{Sequence}
use Rattle.gap_records.specs.Records.{record_of, sequences_from, some, has_id, record_fault, checked_from}
use Rattle.ground.specs.declared.Refusal.{Refusal}

-- ---- ids looked for: it is there, not there, and none is left

module _ (s : List ℕ) (id n k : ℕ) (h : k < n) where
  pub id_there : (record_of s k).id ≡ id → has_id id (sequences_from s (n - k) k) ≡ true
  unfolding some sequences_from
  id_there e = rw (left_suc n k h, eq-eqb _ _ e)

  pub id_not_there : ((record_of s k).id ≡ id → ⊥) → has_id id (sequences_from s (n - k) k) ≡ has_id id (sequences_from s (n - (k + 1)) (k + 1))
  unfolding some sequences_from
  id_not_there f = rw (left_suc n k h, ne_eqb _ _ f)

pub no_id : (s : List ℕ) (id n k : ℕ) → n ≤ k → has_id id (sequences_from s (n - k) k) ≡ false
unfolding some sequences_from
no_id s id n k h = rw (left_none n k h)

-- ---- the check of each record: a fault, an id that is there already, neither; and none left

module _ (good : Result ℕ Refusal) (s : List ℕ) (n k : ℕ) {q : Sequence} {w : Option ℕ} (h : k < n) (e : q ≡ record_of s k) (f : w ≡ record_fault q) where
  pub faulty : {byte place : ℕ} → w ≡ Some byte → place ≡ record_bytes * k + byte → checked_from good s (n - k) k ≡ Err (refusal wrong_record place)
  unfolding checked_from
  faulty l p = rw (left_suc n k h, ← e, ← f, l, p)

  module _ (l : w ≡ None) {t : Bool} (g : t ≡ has_id q.id (sequences_from s k 0)) where
    pub again : t ≡ true → checked_from good s (n - k) k ≡ Err (refusal repeated_id k)
    unfolding checked_from
    again b = rw (left_suc n k h, ← e, ← f, l, ← g, b)

    pub sound : t ≡ false → checked_from good s (n - k) k ≡ checked_from good s (n - (k + 1)) (k + 1)
    unfolding checked_from
    sound b = rw (left_suc n k h, ← e, ← f, l, ← g, b)

pub all_sound : (good : Result ℕ Refusal) (s : List ℕ) (n k : ℕ) → n ≤ k → checked_from good s (n - k) k ≡ good
unfolding checked_from
all_sound good s n k h = rw (left_none n k h)
