-- A reading under way: what its loop meets at each line, and what all lines come to.
-- Assumes nothing.
use Rattle.std.proofs.Common.{Ok, Err, Some, None, Option}
use Prim.Native.Nat.{ℕ, ◌+◌, ◌-◌, ◌*◌, ◌≤◌, ◌<◌}
use Rattle.std.proofs.Math.Path.{◌≡◌, refl, sym, ap, subst, ◌∙◌}
use Rattle.std.proofs.Math.Bool.{Bool, true, false, not}
use mathlib.Core.List.{List}
use native.Mathlib.Omega.{arith}
use borrow.Author.Tests.{lt-ltb, le-ltb}
use Rattle.std.proofs.Math.ListN.{length, take, drop}
use Rattle.ground.specs.Choice.{when◌then◌else◌}
use Rattle.words.specs.declared.Line.{Line}
use Rattle.words.specs.Text.{lines_of, first_line, clear, line_at, LineTold}
use Rattle.words.proofs.Laws.Text.{lines_none, lines_next, line_bytes_lem}
use Rattle.compose_text.specs.declared.Standing.{Standing}
use Rattle.compose_text.specs.Composing.{Progress, begun, Advance, to, none, Read, unreadable, closed, gone, read_from, read_of}
use Rattle.compose_text.specs.Standing.{stage_number, Stands, Steps, Grows, line_adds, Takes, advanced_by, Comes}

-- ---- a line

pub line_unclear : {st : Standing} {entry : List ℕ} {clear : Bool} (line : List ℕ) → clear ≡ false →
    Takes st (advanced_by clear line) entry None entry
unfolding Steps
line_unclear line e = record { stands = λ p s. rw e tt; grows = tt }

-- ---- the loop

-- what the text gives is what the lines that are left give after those so far
pub record Along (text : List ℕ) (st : Standing) (bodies : List ℕ) (at n : ℕ) : Type 0 where
  pub here : at ≤ length text
  pub few : n ≤ at + 1
  pub small : st.used ≤ line_adds * at
  pub so_far : Progress
  pub stands : Stands st bodies so_far
  pub is : read_of text ≡ read_from so_far n (lines_of (drop at text))

pub at_first : (text : List ℕ) {st : Standing} {bodies : List ℕ} {n : ℕ} → n ≡ 1 → Stands st bodies begun → Along text st bodies 0 n
unfolding read_of
at_first text e s = record { here = omega arith; few = omega arith; small = omega (arith, s.used_is); so_far = begun; stands = s; is = rw e }

-- what a step that goes on, or one that does not, says of its advance
record Went (a : Advance) (st : Standing) (bodies : List ℕ) : Type 0 where
  there : Progress
  is : a ≡ to there
  stands : Stands st bodies there

went : {st : Standing} {bodies : List ℕ} (a : Advance) → Steps a (Some st) bodies → Went a st bodies
unfolding Steps
went (to p) s = record { there = p; is = refl; stands = s }
went (none) s = absurd s

halted : (a : Advance) (bodies : List ℕ) → Steps a None bodies → a ≡ none
unfolding Steps
halted (to p) bodies s = absurd s
halted (none) bodies s = refl

-- a line that is not clear is one that does not advance
as_one : (b : Bool) (a : Advance) (n : ℕ) (next : Progress → Read) → (when b then unreadable n else gone a n next) ≡ gone (when b then none else a) n next
as_one true a n next = refl
as_one false a n next = refl

module _ {text : List ℕ} {st : Standing} {bodies : List ℕ} {at n : ℕ} (r : Along text st bodies at n) where
  -- the rest of the lines after a line
  abbrev after : Line → Progress → Read
  after line p = read_from p (n + 1) (lines_of (drop line.next text))

  abbrev advance : Line → Advance
  advance line = advanced_by line.clear (take (line.end - at) (drop at text)) r.so_far

  module _ (l : at < length text) where
    at_line : read_of text ≡ gone (advance (line_at text at)) n (after (line_at text at))
    unfolding read_from line_at
    at_line = r.is ∙ rw (lines_next text at l, line_bytes_lem text at) (as_one (not (clear (first_line (drop at text)))) _ n _)

    by_line : {line : Line} → line ≡ line_at text at → read_of text ≡ gone (advance line) n (after line)
    by_line e = subst (λ (x : Line). read_of text ≡ gone (advance x) n (after x)) (sym e) at_line

    module _ {line : Line} (t : LineTold text at line) {answer : Option Standing} {exit : List ℕ}
        (k : Takes st (advanced_by line.clear (take (line.end - at) (drop at text))) bodies answer exit) where
      pub stopped : answer ≡ None → Comes (read_of text) (Err n) exit
      unfolding Comes
      stopped e =
          let none-there = halted (advance line) exit (subst (λ (x : Option Standing). Steps (advance line) x exit) e (k.stands r.so_far r.stands)) in
          let is : read_of text ≡ unreadable n = by_line t.is ∙ ap (λ (a : Advance). gone a n (after line)) none-there in
          subst (λ (x : Read). Comes x (Err n) exit) (sym is) refl

      pub turned : {next : Standing} → answer ≡ Some next → Along text next exit line.next (n + 1)
      turned {next} e =
          let w = went (advance line) (subst (λ (x : Option Standing). Steps (advance line) x exit) e (k.stands r.so_far r.stands)) in
          let g : next.used ≤ st.used + line_adds = subst (Grows st.used) e k.grows in
          record {
            here = t.inside r.here;
            few = omega (arith, r.few, t.goes_on l);
            small = omega (arith, r.small, t.goes_on l);
            so_far = w.there;
            stands = w.stands;
            is = by_line t.is ∙ ap (λ (a : Advance). gone a n (after line)) w.is;
          }

  -- after the last line
  module _ (l : length text ≤ at) where
    ends : read_of text ≡ closed r.so_far n
    unfolding read_from
    ends = r.is ∙ rw (lines_none text at l)

    pub missing : stage_number st.stage < 2 → Comes (read_of text) (Err n) bodies
    unfolding Comes closed
    missing h = rw (ends, le-ltb 1 r.so_far.stage (omega (arith, r.stands.stage_is))) refl

    pub whole : 2 ≤ stage_number st.stage → Comes (read_of text) (Ok st) bodies
    unfolding Comes closed
    whole h = rw (ends, lt-ltb 1 r.so_far.stage (omega (arith, r.stands.stage_is))) r.stands
