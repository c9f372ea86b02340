-- Signed numbers at both ends of one byte and of two, and which byte is which setting.
-- Assumes nothing.
use Rattle.std.specs.Prelude.{◌≡◌, refl, pos, negsuc, List, [], ◌∷◌, ℕ}
use Rattle.power.specs.Gain.{triple}
use Rattle.job_settings.specs.Gains.{triple_at}
use Rattle.job_settings.specs.Body.{twos_complement, settings_in, triple_in}

record Signed : Type 0 where
  byte : (twos_complement 128 0 ≡ pos 0) × (twos_complement 128 127 ≡ pos 127) × (twos_complement 128 128 ≡ negsuc 127) × (twos_complement 128 255 ≡ negsuc 0)
  pair : (twos_complement 32768 0 ≡ pos 0) × (twos_complement 32768 32767 ≡ pos 32767) × (twos_complement 32768 32768 ≡ negsuc 32767)
      × (twos_complement 32768 65535 ≡ negsuc 0)

ends : Signed
unfolding twos_complement
ends = record { byte = (refl, refl, refl, refl); pair = (refl, refl, refl, refl) }

-- twelve bytes that are all different
abbrev twelve : List ℕ
twelve = 10 ∷ 11 ∷ 12 ∷ 13 ∷ 14 ∷ 15 ∷ 16 ∷ 17 ∷ 206 ∷ 9 ∷ 128 ∷ 218 ∷ []

each_its_own : settings_in twelve ≡ record { pca = 10; step = 11; itp = 12; rpp = 13; links = 14; maximum = negsuc 49; start = negsuc 9599 }
unfolding twos_complement settings_in
each_its_own = refl

and_the_triple : triple_in twelve ≡ triple 15 16 17
unfolding triple_at
and_the_triple = refl

-- a part of two triples has a triple 1, and no triple 2
two_triples : (triple_at (1 ∷ 2 ∷ 3 ∷ 4 ∷ 5 ∷ 6 ∷ []) 1 ≡ triple 4 5 6) × (triple_at (1 ∷ 2 ∷ 3 ∷ 4 ∷ 5 ∷ 6 ∷ []) 2 ≡ triple 0 0 0)
unfolding triple_at
two_triples = (refl, refl)
