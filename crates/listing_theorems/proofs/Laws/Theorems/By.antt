-- The column `by` of every accepted row: the ids of its slot, and of a job those of its records.
-- Assumes nothing.
use Rattle.std.specs.Prelude.{ℕ, suc, ◌≤◌, ◌<◌, ◌≡◌, ◌↔◌, ◌⊎◌, Bool, ◌||◌, length, get_or}
use Rattle.std.proofs.Math.Path.{ap}
use Rattle.std.proofs.Common.{◌∙◌, inl, inr, ⊎_elim, arith}
use mathlib.Core.List.{List, ◌∷◌, Memᴰ}
use Rattle.ground.specs.Sums.{is_in}
use Rattle.ground.proofs.Laws.Some.{one_of}
use Rattle.constants.specs.Sizes.{id_most}
use Rattle.gap_records.specs.declared.Sequence.{Sequence}
use Rattle.gap_slots.specs.declared.Slot.{Slot}
use Rattle.gap_slots.specs.Slots.{uplink, downlink, slot_at}
use Rattle.job_settings.specs.declared.Settings.{Settings}
use Rattle.row_rules.specs.History.{History, Accepted, answer_at}
use Rattle.row_rules.proofs.Laws.Theorems.Books.{ids_told}
use Rattle.job_contents.specs.declared.Bodies.{Bodies}
use Rattle.listing_rules.specs.Text.{in_either, ids_of, ids_text, by_field}
use Rattle.listing_rules.proofs.Laws.Text.Ids.{passing_exactly, passing_rising, by_back}
use Rattle.listing_rules.specs.Text.Reading.{ids_read}
use Rattle.job.specs.Load.{records_body}
use Rattle.job.specs.Theorems.{MakesInBy, Takes}
use Rattle.listing_theorems.specs.Theorems.{slot_ids}

module _ (h : History) {n : ℕ} (a : Accepted h n) where
  its_ids : (k : ℕ) → k < n → ids_of (answer_at h k) ≡ slot_ids (h.slot k)
  unfolding ids_of in_either
  its_ids k l = let t = ids_told h a k l in rw (t.uplink, t.downlink)

  pub by_ids : (k : ℕ) → k < n → by_field (answer_at h k) ≡ 32 ∷ ids_text (slot_ids (h.slot k))
  unfolding by_field
  by_ids k l = ap (λ (ids : List ℕ). 32 ∷ ids_text ids) (its_ids k l)

  pub read_back : (k : ℕ) → k < n → ids_read (by_field (answer_at h k)) ≡ slot_ids (h.slot k)
  read_back k l = by_back (answer_at h k) ∙ its_ids k l

pub by_rising : (slot : Slot) (j : ℕ) → suc j < length (slot_ids slot) → get_or (slot_ids slot) j 0 < get_or (slot_ids slot) (suc j) 0
by_rising slot = passing_rising _ id_most

module _ (job : List ℕ) {s : Settings} {b : Bodies} (t : Takes job s b) (slot id : ℕ) where
  abbrev Opens : (Sequence → Bool) → Type 0
  Opens direction = MakesInBy job b t.count direction slot id

  -- a record that is taken has an id from 1 to 6
  an_id : {direction : Sequence → Bool} → Opens direction → (1 ≤ id) × (id ≤ id_most)
  an_id m =
      let r = (t.all.fine.each m.which m.among).id in
      let e = ap (λ (q : Sequence). q.id) (t.all.each m.which m.among) ∙ m.named in
      (omega (arith, r.0, e), omega (arith, r.1, e))

  pub by_records : Memᴰ id (slot_ids (slot_at (records_body job b) slot)) ↔ (Opens uplink ⊎ Opens downlink)
  by_records =
      let here = slot_at (records_body job b) slot in
      let p = passing_exactly (λ k. is_in here.up k || is_in here.down k) id_most id in
      let q = one_of (is_in here.up id) (is_in here.down id) in
      let up = (t.all.up_ids slot).each id in
      let down = (t.all.down_ids slot).each id in (
        λ m. let g = p.0 m in ⊎_elim (λ e. inl ((up g.0 g.1).0 e)) (λ e. inr ((down g.0 g.1).0 e)) (q.0 g.2),
        ⊎_elim (λ (m : Opens uplink). let i = an_id m in p.1 (i.0, i.1, q.1 (inl ((up i.0 i.1).1 m))))
            (λ (m : Opens downlink). let i = an_id m in p.1 (i.0, i.1, q.1 (inr ((down i.0 i.1).1 m)))),
      )
