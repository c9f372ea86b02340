-- `words::line_at` meets its contract: the line feed first, then what stands before it.
use Rattle.std.proofs.Common.{◌-◌, drop, length-drop, length-take, arith, rules}
use Rattle.words.specs.Text.Parts.{is}
use Rattle.words.proofs.Turns.{line_most, line_none, line_told}
use Rattle.words.proofs.line_at.Goals as goal

pub returns-then-text-at : goal.returns-then-text-at
returns-then-text-at c = line_none _ _ c.if-text-at.true

pub line_end-requires : goal.line_end-requires
line_end-requires c = c.find-feed.ensures (is 10) (λ b r p. search rules)

pub slice_bounds-bytes-end : goal.slice_bounds-bytes-end
slice_bounds-bytes-end c =
    let s = drop c.args.at c.args.text.now in
    omega (arith, line_most s, length-drop c.args.at c.args.text.now)

pub overflow_add-result : goal.overflow_add-result
overflow_add-result c =
    let f = c.find.ensures (is 35) (λ b r p. search rules) in
    omega (arith, f.inside (omega arith), length-take (c.line_end.result - c.args.at) (drop c.args.at c.args.text.now), length-drop c.args.at c.args.text.now)

pub overflow_add-feed : goal.overflow_add-feed
overflow_add-feed c =
    let f = c.find-feed.ensures (is 10) (λ b r p. search rules) in
    omega (arith, f.inside (omega arith))

pub returns : goal.returns
returns c =
    line_told _ _ c.if-text-at.false (c.find-feed.ensures (is 10) (λ b r p. search rules)) c.line_end.ensures
    (c.find.ensures (is 35) (λ b r p. search rules)) c.contains.ensures.value c.min.ensures
