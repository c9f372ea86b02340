-- At each turn of `Pen::lines` the lines from there on are those that are left of all.
use Rattle.std.proofs.Common.{◌-◌, ◌+◌, ◌*◌, ◌≤◌, ◌≡◌, length}
use Rattle.constants.specs.Sizes.{line_room}
use Rattle.row_values.specs.Answers.{whole_answers, answers_from, answers_in}
use Rattle.listing_rules.specs.Text.{lines}
use Rattle.listing_text.specs.declared.Pen.{Pen}
use Rattle.listing_text.specs.Asks.{Adds}
use Rattle.listing_text.proofs.Pen.lines.Given as goal

abbrev pub invariant-loop-k : goal.invariant-loop-k
invariant-loop-k l = record {
  room : l.self.at ≤ l.initial.self.at + line_room * l.k;
  size : length l.self.out.now ≡ length l.initial.self.out.now;
  left : (q : Pen) →
      Adds l.self q (lines l.sends (l.row + l.k) (answers_from l.answers (whole_answers l.answers - l.k) l.k)) →
      Adds l.initial.self q (lines l.sends l.row (answers_in l.answers));
}
