-- That the pieces joined are the listing, and what stands in its column `by`: statements alone, and at the end the list
-- of all theorems. Their proofs stand in Theorems/.
-- RULES: listing
-- Definitions, to be believed.
use Rattle.std.specs.Prelude.{ℕ, zero, suc, ◌≤◌, ◌<◌, ◌≡◌, ◌↔◌, ◌⊎◌, ◌||◌, length, get_or, drop, Ok, Err}
use mathlib.Core.List.{List, [], ◌∷◌, ◌++◌, Memᴰ}
use Rattle.ground.specs.declared.Refusal.{Refusal}
use Rattle.ground.specs.Sums.{is_in}
use Rattle.constants.specs.Sizes.{id_most, piece_least, pieces_most}
use Rattle.constants.specs.Refusals.{too_many_rows}
use Rattle.gap_slots.specs.declared.Slot.{Slot}
use Rattle.gap_slots.specs.Slots.{uplink, downlink, slot_at}
use Rattle.job_settings.specs.declared.Settings.{Settings}
use Rattle.row_state.specs.declared.State.{State}
use Rattle.row_rules.specs.Refusing.{IsF64, HandedOut}
use Rattle.row_rules.specs.History.{History, Accepted, answer_at}
use Rattle.job_contents.specs.declared.Bodies.{Bodies}
use Rattle.listing_rules.specs.Text.{passing, ids_text, by_field, refusal_line}
use Rattle.listing_rules.specs.Text.Reading.{ids_read}
use Rattle.job.specs.Load.{Loaded}
use Rattle.job.specs.Load.{gains_body, records_body, loaded_of}
use Rattle.job.specs.Theorems.{MakesInBy, Takes}
use Rattle.listing.specs.declared.Stand.{Stand}
use Rattle.listing.specs.Pieces.{Written}
use Rattle.listing.specs.Listing.{listing_of}
use Rattle.listing.specs.Pieces.{part_of, made, piece_of, PieceTold}

module _ (job : List ℕ) (sizes : ℕ → ℕ) where
  -- the texts of n pieces, one after the other, from a stand on. A buffer may have another size each time: `sizes`
  -- tells it by how many pieces come after
  unfoldable pub joined : (n : ℕ) → Stand → List ℕ
  joined zero stand = []
  joined (suc n) stand = (part_of job stand (sizes n)).text ++ joined n (part_of job stand (sizes n)).next

  -- where the listing stands after them
  unfoldable pub stand_after : (n : ℕ) → Stand → Stand
  stand_after zero stand = stand
  stand_after (suc n) stand = stand_after n (part_of job stand (sizes n)).next

  -- they are a text, and the listing is over
  pub record Finishes (n : ℕ) (stand : Stand) (text : List ℕ) : Type 0 where
    pub joins : joined n stand ≡ text
    pub ends : stand_after n stand ≡ Stand.Over

-- a claim on the state of a stand
unfoldable pub OnStand : (State → Type 0) → Stand → Type 0
OnStand P Stand.Before = Unit {0}
OnStand P (Stand.After st) = P st
OnStand P Stand.Over = Unit {0}

-- "the ids of either direction, each once, rising", of a slot: of 1 to 6 those in its uplink set or in its downlink set
abbrev pub slot_ids : Slot → List ℕ
slot_ids slot = passing (λ id. is_in slot.up id || is_in slot.down id) id_most

pub record Theorems : Type 0 where
  -- "alone if it is 1 to 7"
  pub alone : (job : List ℕ) {r : Refusal} → loaded_of job ≡ Err r →
      (listing_of job ≡ refusal_line r) × ((1 ≤ r.number) × (r.number ≤ too_many_rows))
  -- the pieces joined are the listing, whatever the buffers' sizes, as long as each has room for a line and a last line
  pub whole : (job : List ℕ) (sizes : ℕ → ℕ) → ((k : ℕ) → piece_least ≤ sizes k) → (n : ℕ) → pieces_most ≤ n →
      Finishes job sizes n Stand.Before (listing_of job)
  -- a piece, from any stand, has room in the buffer that it is made for
  pub fits : (job : List ℕ) (stand : Stand) (size : ℕ) → piece_least ≤ size → length (part_of job stand size).text ≤ size
  -- so that afterwards the buffer has its text, then what stood there
  pub stored : (job : List ℕ) (stand : Stand) (out : List ℕ) → piece_least ≤ length out →
      piece_of job stand out ≡
      (let p = part_of job stand (length out) in
      made (Ok ((length p.text), p.next)) (p.text ++ drop (length p.text) out))
  -- and the bytes that an answer names lie inside the buffer
  pub inside : (job : List ℕ) (stand : Stand) (out : List ℕ) {r : Written} {left : List ℕ} {n : ℕ} {next : Stand} →
      made r left ≡ piece_of job stand out → r ≡ Ok (n, next) → n ≤ length left
  -- a state that a piece hands out is in its ranges, and never answered with 11
  pub handed : (job : List ℕ) {s : Settings} {b : Bodies} (stand : Stand) (size : ℕ) → loaded_of job ≡ Ok (s, b) →
      OnStand IsF64 stand → OnStand (HandedOut s (gains_body job b)) (part_of job stand size).next
  -- one answer
  pub one_piece : {r t : Written} {o p : List ℕ} (job : List ℕ) (stand : Stand) (out : List ℕ) →
      PieceTold job stand out r o → PieceTold job stand out t p → (r ≡ t) × (o ≡ p)
  -- "a last column `by`": of an accepted row a space, then the ids of its slot, "joined by commas, or `-`"
  pub by : (h : History) {n : ℕ} → Accepted h n → (k : ℕ) → k < n →
      by_field (answer_at h k) ≡ 32 ∷ ids_text (slot_ids (h.slot k))
  -- and it reads back as these
  pub by_back : (h : History) {n : ℕ} → Accepted h n → (k : ℕ) → k < n →
      ids_read (by_field (answer_at h k)) ≡ slot_ids (h.slot k)
  -- "which ids … put it there": in a job that is taken, those of its records that make the slot a gap slot
  pub by_records : (job : List ℕ) {s : Settings} {b : Bodies} (t : Takes job s b) (slot id : ℕ) →
      Memᴰ id (slot_ids (slot_at (records_body job b) slot)) ↔
      (MakesInBy job b t.count uplink slot id ⊎ MakesInBy job b t.count downlink slot id)
  -- "each once, rising"
  pub by_rising : (slot : Slot) (j : ℕ) → suc j < length (slot_ids slot) →
      get_or (slot_ids slot) j 0 < get_or (slot_ids slot) (suc j) 0
