-- A state as whole numbers and the filter's level, in the order of the table of docs/STATE.md, and back. The numbers
-- are cut by the state's parts.
-- RULES: refusals
-- Definitions, to be believed.
pub mod Parts
use Rattle.std.specs.Prelude.{ℕ, ◌+◌, ◌-◌, ◌≡◌, Bool, true, false, ◌&&◌, List, [], ◌∷◌, ◌++◌, eqb, ℤ, pos, negsuc, nat_abs, Float, length, get_or, take, drop, Some, None, Option}
use Rattle.std.specs.Int.Signed.{lt_z}
use Rattle.ground.specs.Choice.{when◌then◌else◌}
use Rattle.ground.specs.Integers.{within, pz}
use Rattle.gap_runs.specs.declared.Run.{Run}
use Rattle.command_algorithms.specs.declared.Set.{Set}
use Rattle.resume_filter.specs.declared.Filter.{Filter}
use Rattle.row_state.specs.declared.Opening.{Opening}
use Rattle.row_state.specs.declared.State.{State}

-- ---- what a number may be: from the least to the most of its field's type

pub record Range : Type 0 where
  pub least : ℤ
  pub most : ℤ

abbrev pub range : (least most : ℤ) → Range
range least most = record { least = least; most = most }

abbrev pub fits_range : Range → ℤ → Bool
fits_range r n = within r.least r.most n

-- a bool, which is 0 or 1; pilot bits and slots of a run; rows, command bytes and counts
abbrev pub flag : Range
flag = range (pos 0) (pos 1)

abbrev pub byte_most : ℕ
byte_most = 255

abbrev pub byte : Range
byte = range (pos 0) (pos byte_most)

abbrev pub word_most : ℕ
word_most = 4294967295

abbrev pub word : Range
word = range (pos 0) (pos word_most)

-- commands; powers
abbrev pub small : Range
small = range (negsuc 127) (pos 127)

abbrev pub signed : Range
signed = range (negsuc 2147483647) (pos 2147483647)

-- ---- the parts: what their numbers may be, and where each starts, which is where the one before ends

-- the version of this form: a state of another version is none
abbrev pub state_version : ℕ
state_version = 1

-- number 0, the version
abbrev pub version_ranges : List Range
version_ranges = range (pos state_version) (pos state_version) ∷ []

-- row, sent, power, held, pilots, limited
abbrev pub accounts_place : ℕ
accounts_place = length version_ranges

abbrev pub accounts_ranges : List Range
accounts_ranges = word ∷ flag ∷ signed ∷ signed ∷ byte ∷ flag ∷ []

-- run.length, run.left
abbrev pub run_place : ℕ
run_place = accounts_place + length accounts_ranges

abbrev pub run_ranges : List Range
run_ranges = byte ∷ byte ∷ []

-- opening.seen, opening.command
abbrev pub opening_place : ℕ
opening_place = run_place + length run_ranges

abbrev pub opening_ranges : List Range
opening_ranges = flag ∷ small ∷ []

-- set.a to set.d, set.spoilt
abbrev pub set_place : ℕ
set_place = opening_place + length opening_ranges

abbrev pub set_ranges : List Range
set_ranges = word ∷ word ∷ word ∷ word ∷ flag ∷ []

-- filter.count
abbrev pub filter_place : ℕ
filter_place = set_place + length set_ranges

abbrev pub filter_ranges : List Range
filter_ranges = word ∷ []

-- how many numbers a state has, and what they may be
abbrev pub state_numbers : ℕ
state_numbers = filter_place + length filter_ranges

abbrev pub state_ranges : List Range
state_ranges = version_ranges ++ accounts_ranges ++ run_ranges ++ opening_ranges ++ set_ranges ++ filter_ranges

-- ---- a state as numbers, part by part

-- a bool: 1 and 0
unfoldable pub flagged : Bool → ℤ
flagged true = pos 1
flagged false = pos 0

abbrev pub accounts_numbers : State → List ℤ
accounts_numbers st =
    pos st.row ∷ flagged st.sent ∷ st.power ∷ st.held ∷ pos st.pilots ∷ flagged st.limited ∷ []

abbrev pub run_numbers : Run → List ℤ
run_numbers run = pos run.length ∷ pos run.left ∷ []

abbrev pub opening_numbers : Opening → List ℤ
opening_numbers opening = flagged opening.seen ∷ opening.command ∷ []

abbrev pub set_numbers : Set → List ℤ
set_numbers set = pos set.a ∷ pos set.b ∷ pos set.c ∷ pos set.d ∷ flagged set.spoilt ∷ []

-- the level is left out, which is no whole number
abbrev pub filter_numbers : Filter → List ℤ
filter_numbers filter = pos filter.count ∷ []

-- all of them
unfoldable pub numbers_of : State → List ℤ
numbers_of st =
    pos state_version ∷
    accounts_numbers st ++ run_numbers st.run ++ opening_numbers st.opening ++ set_numbers st.set ++
    filter_numbers st.filter

-- whether numbers were written, and what is lent afterwards
pub record Packed : Type 0 where
  pub written : Bool
  pub numbers : List ℤ

abbrev pub packed : Bool → List ℤ → Packed
packed written numbers = record { written = written; numbers = numbers }

-- a state takes the place of as many numbers as it has; where another count is lent, all is as it was
unfoldable pub packed_of : State → List ℤ → Packed
packed_of st before = when eqb (length before) state_numbers then packed true (numbers_of st) else packed false before

-- ---- which numbers are a state

-- as many numbers as ranges, and each in its own
unfoldable pub fitting : List Range → List ℤ → Bool
fitting [] [] = true
fitting (r ∷ rs) (n ∷ ns) = fits_range r n && fitting rs ns
fitting [] (n ∷ ns) = false
fitting (r ∷ rs) [] = false

-- ---- numbers as a state: an unsigned field by its size, a bool by whether it is above 0

-- number k
abbrev pub nth : List ℤ → ℕ → ℤ
nth numbers k = get_or numbers k (pos 0)

abbrev pub size : List ℤ → ℕ → ℕ
size numbers k = nat_abs (nth numbers k)

abbrev pub truth : List ℤ → ℕ → Bool
truth numbers k = lt_z (pos 0) (nth numbers k)

-- the fields that are no structs
pub record Accounts : Type 0 where
  pub row : ℕ
  pub sent : Bool
  pub power : ℤ
  pub held : ℤ
  pub pilots : ℕ
  pub limited : Bool

abbrev pub accounts_from : List ℤ → Accounts
accounts_from ns =
    record {
      row = size ns 0;
      sent = truth ns 1;
      power = nth ns 2;
      held = nth ns 3;
      pilots = size ns 4;
      limited = truth ns 5;
    }

abbrev pub run_from : List ℤ → Run
run_from ns = record { length = size ns 0; left = size ns 1 }

abbrev pub opening_from : List ℤ → Opening
opening_from ns = record { seen = truth ns 0; command = nth ns 1 }

abbrev pub set_from : List ℤ → Set
set_from ns = record { a = size ns 0; b = size ns 1; c = size ns 2; d = size ns 3; spoilt = truth ns 4 }

abbrev pub filter_from : List ℤ → Float → Filter
filter_from ns level = record { level = level; count = size ns 0 }

-- the numbers of a part
abbrev pub part : (from to : ℕ) → List ℤ → List ℤ
part from to ns = take (to - from) (drop from ns)

-- all parts
unfoldable pub state_from : List ℤ → Float → State
state_from ns level =
    let b = accounts_from (part accounts_place run_place ns) in
    record {
      row = b.row;
      sent = b.sent;
      power = b.power;
      held = b.held;
      pilots = b.pilots;
      limited = b.limited;
      run = run_from (part run_place opening_place ns);
      opening = opening_from (part opening_place set_place ns);
      set = set_from (part set_place filter_place ns);
      filter = filter_from (part filter_place state_numbers ns) level;
    }

-- a state; or nothing where there is another count of numbers, another version, or a number that does not fit its field
-- DECISIONS: refusals-lent-state
unfoldable pub unpacked_of : List ℤ → Float → Option State
unpacked_of ns level = when fitting state_ranges ns then Some (state_from ns level) else None

-- what each case says: each number fits its field, and the state's own numbers and level are these; or there is
-- another count or version, or a number that does not fit its field: the page's "11 … | 0", where 7 and 10 are not due
-- DECISIONS: refusals-lent-state
abbrev pub UnpackSays : (numbers : List ℤ) (level : Float) → Option State → Type 0
UnpackSays numbers level (Some st) =
    (fitting state_ranges numbers ≡ true) × (numbers_of st ≡ numbers) × (st.filter.level ≡ level)
UnpackSays numbers level None = fitting state_ranges numbers ≡ false

-- what is promised of numbers and a level: the answer, and what this says
pub record UnpackTold (numbers : List ℤ) (level : Float) (answer : Option State) : Type 0 where
  pub is : answer ≡ unpacked_of numbers level
  pub says : UnpackSays numbers level answer

-- ---- numbers that need be no state

-- numbers of this form: as many as a state has, and of its version
unfoldable pub of_this_form : List ℤ → Bool
of_this_form numbers =
    when eqb (length numbers) state_numbers then within (pos state_version) (pos state_version) (nth numbers 0) else false

-- the row that the first of the accounts is; 0 where that is below 0, which no row is
unfoldable pub row_number : List ℤ → ℕ
row_number numbers = pz (nth numbers accounts_place)

-- the row that lent numbers say, and 0 where they are of another form: nothing of them is read
-- DECISIONS: refusals-lent-state
unfoldable pub row_said : List ℤ → ℕ
row_said numbers = when of_this_form numbers then row_number numbers else 0
