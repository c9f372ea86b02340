-- What a failed write leaves, and what the loop over the pieces keeps.
-- Definitions beside the rules, which need not be believed.
use Rattle.std.specs.Prelude.{ℕ, ◌≡◌, ◌<◌, List, ◌++◌, length, take, Option}
use Rattle.std.specs.Io.KnownBytes.{Appends}
use Rattle.listing.specs.declared.Stand.{Stand}
use Rattle.listing.specs.Listing.{listing_of}
use Rattle.listing_theorems.specs.Theorems.{joined, stand_after}

-- a writer that held `old` holds `new`: a beginning of a text was written, and some of it is left
abbrev pub Begun : (old new : Option (List ℕ)) → List ℕ → Type 0
Begun old new text = (n : ℕ) × (n < length text) × Appends old new (take n text)

-- a writer that held `old` holds `now`: what was written and the pieces that are left, so many at most, are the listing
pub record Printing (job : List ℕ) (size : ℕ) (old now : Option (List ℕ)) (left : ℕ) (stand : Stand) : Type 0 where
  pub text : List ℕ
  pub written : Appends old now text
  pub joins : text ++ joined job (λ k. size) left stand ≡ listing_of job
  pub ends : stand_after job (λ k. size) left stand ≡ Stand.Over
