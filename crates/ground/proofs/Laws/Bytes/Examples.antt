-- Two bytes of the page's own job.
-- Assumes nothing.
use Rattle.std.specs.Prelude.{◌≡◌, refl}
use Rattle.ground.specs.Bytes.{pair_of}

-- "0005" is a start power of 1,280 units
page : pair_of 0 5 ≡ 1280
page = refl
