-- A line of each kind, and numbers at the ends of their ranges and past them.
-- Assumes nothing.
use Rattle.std.specs.Prelude.{◌≡◌, refl, [], ◌∷◌, map, pos, negsuc}
use Prim.Native.String.{String}
use Rattle.ground.specs.Texts.{bytes}
use Rattle.power.specs.Gain.{triple}
use Rattle.words.specs.Text.{words_of, same, all_digits, value_after, number_of, values_of, numeric, numbers_of}
use Rattle.compose_lines.specs.declared.Item.{Item}
use Rattle.compose_lines.specs.declared.Item.TheVariants.{Blank, Settings, Gain, Gap, Rows, Unreadable}
use Rattle.compose_lines.specs.Lines.{settings_fit, settings_item, gain_item, gap_fit, gap_item, row_item, rows_item, item_by, item_of}

abbrev given : String → Item
given line = item_of (words_of (bytes line))

-- each number of a line is its own
settings : given "settings 1 2 3 4 5 -6 -7" ≡ Settings (record {
  pca = 1;
  step = 2;
  itp = 3;
  rpp = 4;
  links = 5;
  maximum = negsuc 5;
  start = negsuc 6;
})
unfolding item_of item_by settings_item settings_fit words_of same all_digits value_after number_of values_of numeric numbers_of
settings = refl

gap : given "gap 1 2 3 4 5 6 7 8 9" ≡ Gap (record {
  id = 1;
  direction = 2;
  tgsn = 3;
  tgl1 = 4;
  tgl2 = 5;
  tgpl = 6;
  tgprc = 7;
  tgd = 8;
  start = 9;
})
unfolding item_of item_by gap_item gap_fit words_of same all_digits value_after number_of values_of numeric numbers_of
gap = refl

others : map given ("gain 15 0 6" ∷ "row 2 8" ∷ "rows 100 1 6" ∷ " rows 0 255 0 " ∷ "rows 999999999 1 6" ∷ "" ∷ "  " ∷ []) ≡
    Gain (triple 15 0 6) ∷ Rows 1 2 8 ∷ Rows 100 1 6 ∷ Rows 0 255 0 ∷ Rows 999999999 1 6 ∷ Blank ∷ Blank ∷ []
unfolding item_of item_by gain_item row_item rows_item words_of same all_digits value_after number_of values_of numeric numbers_of
others = refl

-- a number that its bytes hold at both ends of their range
ends : (given "settings 255 0 0 0 0 -128 32767" ≡ Settings (record {
  pca = 255;
  step = 0;
  itp = 0;
  rpp = 0;
  links = 0;
  maximum = negsuc 127;
  start = pos 32767;
})) × (given "settings 0 0 0 0 255 127 -32768" ≡ Settings (record {
  pca = 0;
  step = 0;
  itp = 0;
  rpp = 0;
  links = 255;
  maximum = pos 127;
  start = negsuc 32767;
})) × (given "gap 255 0 0 0 0 255 65535 0 65535" ≡ Gap (record {
  id = 255;
  direction = 0;
  tgsn = 0;
  tgl1 = 0;
  tgl2 = 0;
  tgpl = 255;
  tgprc = 65535;
  tgd = 0;
  start = 65535;
}))
unfolding item_of item_by settings_item settings_fit gap_item gap_fit words_of same all_digits value_after number_of values_of numeric numbers_of
ends = (refl, refl, refl)

-- a number that its bytes cannot hold makes the line unreadable; so does a number too many or too few, a word that is none, and any other keyword
unreadable : map given (
    "settings 256 0 0 0 0 0 0"
    ∷ "settings 0 0 0 0 0 128 0"
    ∷ "settings 0 0 0 0 0 -129 0"
    ∷ "settings 0 0 0 0 0 0 32768"
    ∷ "settings 0 0 0 0 0 0 -32769"
    ∷ "gain 15 15 -1"
    ∷ "gap 1 3 7 3 0 256 0 0 0"
    ∷ "gap 1 3 7 3 0 4 65536 0 0"
    ∷ "row 256 6"
    ∷ "row 1"
    ∷ "row 1 6 7"
    ∷ "row 1 six"
    ∷ "rows -1 1 6"
    ∷ "rows 1000000000 1 6"
    ∷ "Row 1 6"
    ∷ "ro 1 6"
    ∷ []
    ) ≡
    Unreadable ∷ Unreadable ∷ Unreadable ∷ Unreadable ∷ Unreadable ∷ Unreadable ∷ Unreadable ∷ Unreadable ∷
    Unreadable ∷ Unreadable ∷ Unreadable ∷ Unreadable ∷ Unreadable ∷ Unreadable ∷ Unreadable ∷ Unreadable ∷ []
unfolding item_of item_by settings_item settings_fit gain_item gap_item gap_fit row_item rows_item words_of same all_digits value_after number_of values_of numeric numbers_of
unreadable = refl
