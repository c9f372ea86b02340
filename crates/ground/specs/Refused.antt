-- What a refusal prints: "refused NUMBER at PLACE", both in decimal.
-- Definitions, to be believed.
use Rattle.std.specs.Prelude.{ℕ, List, ◌++◌, decimal}
use Rattle.ground.specs.Texts.{bytes}
use Rattle.ground.specs.declared.Refusal.{Refusal}

abbrev pub refusal_text : Refusal → List ℕ
refusal_text r = bytes "refused " ++ decimal r.number ++ bytes " at " ++ decimal r.place
