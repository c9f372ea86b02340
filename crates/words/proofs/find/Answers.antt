-- `words::find` meets its contract: every byte from the place on is looked at, until one passes.
use Rattle.std.proofs.Common.{sym, ◌∙◌}
use Rattle.words.proofs.Laws.Text.Searching.{found_here, found_later, found_end}
use Rattle.words.proofs.find.Goals as goal

pub returns-then-test : goal.returns-then-test
returns-then-test g c =
    λ passes told. found_here _ _ _ _ (c.loop-k.invariant passes told) c.loop-k-test.true (sym (told _ _ c.test.ensures) ∙ c.if-test.true)

pub loop-k-preserved : goal.loop-k-preserved
loop-k-preserved g c =
    λ passes told. found_later _ _ _ _ (c.loop-k.invariant passes told) c.loop-k-test.true (sym (told _ _ c.test.ensures) ∙ c.if-test.false)

pub returns : goal.returns
returns g c =
    λ passes told. rw c.max.ensures (found_end _ _ _ _ (c.loop-k.invariant passes told) c.loop-k-test.false c.loop-k.auto.k-end)
