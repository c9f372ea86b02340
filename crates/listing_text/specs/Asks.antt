-- What the private functions ask and promise beside the rules: where a pen stands, and the column `by`, one id after the
-- other, each with the byte before it.
-- Definitions beside the rules, which need not be believed.
use Rattle.std.specs.Prelude.{ℕ, ◌+◌, ◌≤◌, ◌≡◌, Bool, false, List, [], ◌∷◌, ◌++◌, ℤ, length, Option, Some, None}
use Rattle.ground.specs.Choice.{when◌then◌else◌}
use Rattle.listing_rules.specs.Text.{Wrote, decimal, field, later_ids, placed}
use Rattle.listing_text.specs.declared.Pen.{Pen}

-- ---- a pen

-- there is room for so many bytes more
abbrev pub HasRoom : Pen → ℕ → Type 0
HasRoom p n = p.at + n ≤ length p.out.now

-- a text was stored where the pen stood, in the same buffer, and it stands after it
pub record Adds (before after : Pen) (text : List ℕ) : Type 0 where
  pub buffer : after.out.ghost_name ≡ before.out.ghost_name
  pub wrote : Wrote after.at after.out.now before.out.now before.at text

-- lines were stored if the buffer has room for them, and else nothing was
abbrev pub AddsLines : (before after : Pen) (lines : ℕ) → List ℕ → Type 0
AddsLines before after lines text = Adds before after (placed lines (length before.out.now) before.at text)

-- a number that may be absent, with the space before it
abbrev pub field_of : Option ℤ → List ℕ
field_of None = 32 ∷ 45 ∷ []
field_of (Some x) = field false x

-- ---- the column `by`

-- an id of one digit: after a comma if one stands before it in its line, else after a space
abbrev pub id_stored : (later : Bool) (id : ℕ) → List ℕ
id_stored later id = (when later then 44 else 32) ∷ (48 + id) ∷ []

-- the ids so far
unfoldable pub ids_stored : List ℕ → List ℕ
ids_stored [] = []
ids_stored (id ∷ rest) = 32 ∷ decimal id ++ later_ids rest
