-- The lines of a job's text: what each of them gives to the job.
-- RULES: text, compose
-- Definitions, to be believed.
use Rattle.std.specs.Prelude.{ℕ, ◌+◌, Bool, ◌&&◌, List, [], ◌∷◌, eqb, ℤ, pos, negsuc, get_or}
use Rattle.ground.specs.Choice.{when◌then◌else◌}
use Rattle.ground.specs.Integers.{within, pz}
use Rattle.ground.specs.Texts.{bytes}
use Rattle.power.specs.Gain.{triple}
use Rattle.words.specs.declared.Numbers.{Numbers}
use Rattle.words.specs.Text.{same, numbers_of}
use Rattle.compose_lines.specs.declared.Item.{Item}

-- ---- the numbers of a line

-- as many numbers as the line needs, and nothing else
abbrev pub has : (count : ℕ) → Numbers → Bool
has count n = eqb n.count count && n.all

abbrev pub at : Numbers → ℕ → ℤ
at n k = get_or n.values k (pos 0)

-- "What a number may be": what one byte or two bytes hold, each without a sign or with one
-- DECISIONS: compose-fits
abbrev pub is_byte : ℤ → Bool
is_byte z = within (pos 0) (pos 255) z

abbrev pub is_pair : ℤ → Bool
is_pair z = within (pos 0) (pos 65535) z

abbrev pub is_signed_byte : ℤ → Bool
is_signed_byte z = within (negsuc 127) (pos 127) z

abbrev pub is_signed_pair : ℤ → Bool
is_signed_pair z = within (negsuc 32767) (pos 32767) z

-- the count of `rows`, which no bytes hold
abbrev pub is_count : ℤ → Bool
is_count z = within (pos 0) (pos 999999999) z

-- the number k of a line that is not below zero
abbrev pub nat : Numbers → ℕ → ℕ
nat n k = pz (at n k)

-- three numbers that follow one another, each in its range
abbrev pub three : (ℤ → Bool) → Numbers → (from : ℕ) → Bool
three fits n k = fits (at n k) && fits (at n (k + 1)) && fits (at n (k + 2))

-- ---- the five lines: whether each has its numbers, and what it gives then

-- `settings PCA step ITP RPP N maximum start`
unfoldable pub settings_fit : Numbers → Bool
settings_fit n =
    has 7 n && three is_byte n 0 && is_byte (at n 3) && is_byte (at n 4) && is_signed_byte (at n 5) && is_signed_pair (at n 6)

unfoldable pub settings_item : Numbers → Item
settings_item n =
    when settings_fit n then Item.Settings (record {
      pca = nat n 0;
      step = nat n 1;
      itp = nat n 2;
      rpp = nat n 3;
      links = nat n 4;
      maximum = at n 5;
      start = at n 6;
    }) else Item.Unreadable

-- `gain βc βd n`
abbrev pub gain_fit : Numbers → Bool
gain_fit n = has 3 n && three is_byte n 0

unfoldable pub gain_item : Numbers → Item
gain_item n = when gain_fit n then Item.Gain (triple (nat n 0) (nat n 1) (nat n 2)) else Item.Unreadable

-- `gap id direction TGSN TGL1 TGL2 TGPL TGPRC TGD start-frame`
unfoldable pub gap_fit : Numbers → Bool
gap_fit n = has 9 n && three is_byte n 0 && three is_byte n 3 && three is_pair n 6

unfoldable pub gap_item : Numbers → Item
gap_item n =
    when gap_fit n then Item.Gap (record {
      id = nat n 0;
      direction = nat n 1;
      tgsn = nat n 2;
      tgl1 = nat n 3;
      tgl2 = nat n 4;
      tgpl = nat n 5;
      tgprc = nat n 6;
      tgd = nat n 7;
      start = nat n 8;
    }) else Item.Unreadable

-- `row commands pilots`: one such row
abbrev pub row_fit : Numbers → Bool
row_fit n = has 2 n && is_byte (at n 0) && is_byte (at n 1)

unfoldable pub row_item : Numbers → Item
row_item n = when row_fit n then Item.Rows 1 (nat n 0) (nat n 1) else Item.Unreadable

-- `rows count commands pilots`: so many such rows
abbrev pub rows_fit : Numbers → Bool
rows_fit n = has 3 n && is_count (at n 0) && is_byte (at n 1) && is_byte (at n 2)

unfoldable pub rows_item : Numbers → Item
rows_item n = when rows_fit n then Item.Rows (nat n 0) (nat n 1) (nat n 2) else Item.Unreadable

-- a line by its first word. "Anything else is unreadable: another word …"
unfoldable pub item_by : (keyword : List ℕ) → Numbers → Item
item_by keyword n =
    when same keyword (bytes "settings") then settings_item n else
    when same keyword (bytes "gain") then gain_item n else
    when same keyword (bytes "gap") then gap_item n else
    when same keyword (bytes "row") then row_item n else
    when same keyword (bytes "rows") then rows_item n else
    Item.Unreadable

-- a line by its words; one without a word gives nothing
unfoldable pub item_of : List (List ℕ) → Item
item_of [] = Item.Blank
item_of (keyword ∷ rest) = item_by keyword (numbers_of rest)
