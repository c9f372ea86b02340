-- The page's words and lines, computed, and numbers at the ends of their ranges.
-- Assumes nothing.
use Rattle.std.specs.Prelude.{◌≡◌, refl, true, false, [], ◌∷◌, ◌++◌, ℤ, pos, negsuc}
use Rattle.ground.specs.Sums.{is_in}
use Rattle.constants.specs.Refusals.{refusal, wrong_contents}
use Rattle.row_values.specs.declared.Answer.{Answer}
use Rattle.listing_rules.specs.Text.{bytes, digits, decimal, signed_text, field, line_start, powers, line, lines}
use Rattle.listing_rules.specs.Text.{in_either, passing, ids_of, later_ids, ids_text, by_field, header, ending, refusal_line}

-- every number has its digits and no other, with its sign
numbers :
    (signed_text (pos 0) ++ 32 ∷ signed_text (pos 9) ++ 32 ∷ signed_text (pos 10) ++ 32 ∷ signed_text (negsuc 9599) ≡ bytes "0 9 10 -9600")
    × (signed_text (pos 2147483647) ++ 32 ∷ signed_text (negsuc 2147483647) ≡ bytes "2147483647 -2147483648")
    × (decimal 18446744073709551615 ≡ bytes "18446744073709551615")
unfolding decimal digits signed_text
numbers = (refl, refl, refl)

-- an answer by its numbers, with the ids of its uplink and its downlink gap, and one of a slot in no gap
abbrev gap : (state command dpcch dpdch total held uplink downlink : ℤ) → Answer
gap state command dpcch dpdch total held uplink downlink = record {
  state = state;
  command = command;
  dpcch = dpcch;
  dpdch = dpdch;
  total = total;
  held = held;
  uplink = uplink;
  downlink = downlink;
}

abbrev answer : (state command dpcch dpdch total held : ℤ) → Answer
answer state command dpcch dpdch total held = gap state command dpcch dpdch total held (pos 0) (pos 0)

-- the page's four rows
page : lines true 0 (
    answer (pos 1) (pos 1) (pos 1280) (pos 1280) (pos 1473) (pos 0)
    ∷ answer (pos 2) (pos 1) (pos 1343) (pos 1343) (pos 1536) (pos 1)
    ∷ answer (pos 2) (pos 1) (pos 1343) (pos 1343) (pos 1536) (pos 65)
    ∷ answer (pos 1) (negsuc 0) (pos 1279) (pos 1279) (pos 1472) (pos 65) ∷ [])
    ≡ bytes "0 1 1 1280 1280 1473 0 -\n1 2 1 1343 1343 1536 1 -\n2 2 1 1343 1343 1536 65 -\n3 1 -1 1279 1279 1472 65 -\n"
unfolding by_field decimal digits field ids_of ids_text in_either is_in later_ids line lines line_start passing powers signed_text
page = refl

-- powers are absent by the row's state and by βd, whatever their numbers are: 0 in a row that is sent is shown
absent :
    (line true 5 (answer (pos 1) (pos 0) (pos 0) (pos 0) (pos 193) (pos 0)) ≡ bytes "5 1 0 0 0 193 0 -\n")
    × (line true 7 (answer (pos 0) (pos 1) (pos 0) (pos 0) (pos 0) (pos 65)) ≡ bytes "7 0 1 - - - 65 -\n")
    × (line true 7 (answer (pos 0) (pos 1) (pos 8) (pos 8) (pos 9) (pos 65)) ≡ bytes "7 0 1 - - - 65 -\n")
    × (line false 0 (answer (pos 1) (negsuc 0) (negsuc 9599) (pos 0) (negsuc 9599) (pos 0)) ≡ bytes "0 1 -1 -9600 - -9600 0 -\n")
    × (line false 0 (answer (pos 2) (pos 0) (pos 0) (pos 0) (pos 0) (pos 1)) ≡ bytes "0 2 0 0 - 0 1 -\n")
unfolding by_field decimal digits field ids_of ids_text in_either is_in later_ids line line_start passing powers signed_text
absent = (refl, refl, refl, refl, refl)

-- the ids of a gap slot of the uplink, and of one of the downlink alone, where the row is sent
columns :
    (line true 12 (gap (pos 0) (pos 0) (pos 0) (pos 0) (pos 0) (pos 419) (pos 1) (pos 0)) ≡ bytes "12 0 0 - - - 419 1\n")
    × (line false 7 (gap (pos 1) (pos 0) (negsuc 63) (pos 0) (pos 500) (pos 0) (pos 0) (pos 18)) ≡ bytes "7 1 0 -64 - 500 0 2,5\n")
unfolding by_field decimal digits field ids_of ids_text in_either is_in later_ids line line_start passing powers signed_text
columns = (refl, refl)

-- the other lines
others :
    (header ≡ bytes "row state cmd dpcch dpdch total held by\n")
    × (ending 4 (pos 65) ≡ bytes "rows 4 held 65\n")
    × (ending 0 (pos 0) ≡ bytes "rows 0 held 0\n")
    × (refusal_line (refusal wrong_contents 0) ≡ bytes "refused 2 at 0\n")
unfolding decimal digits ending header refusal_line signed_text
others = (refl, refl, refl, refl)
