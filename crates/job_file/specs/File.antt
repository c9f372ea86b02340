-- "The job file": the file that three parts make.
-- RULES: file, writing
-- Definitions, to be believed.
use Rattle.std.specs.Prelude.{ℕ, ◌+◌, ◌/◌, ◌%◌, ◌≤◌, ◌<◌, ◌≡◌, List, [], ◌∷◌, ◌++◌, length, get_or}
use Rattle.constants.specs.Sizes.{file_most, contents_bytes, settings_bytes, record_bytes, row_bytes}

-- "Numbers are little-endian": the bytes of a number, two or four
abbrev pub pair_bytes : ℕ → List ℕ
pair_bytes n = n % 256 ∷ n / 256 % 256 ∷ []

abbrev pub quad_bytes : ℕ → List ℕ
quad_bytes n = n % 256 ∷ n / 256 % 256 ∷ n / 65536 % 256 ∷ n / 16777216 % 256 ∷ []

-- "entries of 9 bytes: kind (1), offset (4), length (4)"
abbrev pub entry_bytes : (kind offset size : ℕ) → List ℕ
entry_bytes kind offset size = kind ∷ quad_bytes offset ++ quad_bytes size

-- "Byte 0 is 1, byte 1 is 3, then three entries". "Kinds are 1, 2, 3 in that order." "Body 1 starts at byte 29, each
-- later one where the one before ends": the contents of a file whose bodies have so many bytes. Byte 0 is handed in
-- DECISIONS: writing-kind
unfoldable pub contents_for : (kind settings records rows : ℕ) → List ℕ
contents_for kind settings records rows =
    kind ∷ 3 ∷ entry_bytes 1 contents_bytes settings ++
    entry_bytes 2 (contents_bytes + settings) records ++
    entry_bytes 3 (contents_bytes + settings + records) rows

-- "A table of contents first, then the bodies": the file that three parts make
-- DECISIONS: writing-any-parts
unfoldable pub file_of : (kind : ℕ) (settings records rows : List ℕ) → List ℕ
file_of kind settings records rows =
    contents_for kind (length settings) (length records) (length rows) ++ settings ++ records ++ rows

-- how many bytes it has
abbrev pub file_size : (settings records rows : List ℕ) → ℕ
file_size settings records rows = contents_bytes + length settings + length records + length rows

-- three parts and a kind of which the file is not too long and its table of contents is right: "file over 65,536
-- bytes", "byte 0 … wrong", "body 1 not 12 bytes, body 2 no multiple of 12, body 3 odd" are refused
pub record Shaped (kind : ℕ) (settings records rows : List ℕ) : Type 0 where
  pub few : file_size settings records rows ≤ file_most
  pub its_kind : kind ≡ 1
  pub twelve : length settings ≡ settings_bytes
  pub whole : length records % record_bytes ≡ 0
  pub even : length rows % row_bytes ≡ 0

-- each number of a list is a byte
abbrev pub AllBytes : List ℕ → Type 0
AllBytes l = (i : ℕ) → get_or l i 0 < 256
