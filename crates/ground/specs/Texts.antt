-- A text as the numbers of its characters in ASCII.
-- Definitions, to be believed.
use Rattle.std.specs.Prelude.{ℕ, List, [], ◌∷◌}
use Prim.Native.Char.{code}
use Prim.Native.String.{String, [] as ε, ◌∷◌ as ◌∷ˢ◌}

abbrev pub bytes : String → List ℕ
bytes ε = []
bytes (c ∷ˢ rest) = code c ∷ bytes rest
