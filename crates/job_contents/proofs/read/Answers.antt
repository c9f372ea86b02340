-- `job_contents::read` meets its contract: the tests that were passed on the way pick the rule's line, and the answer says what it says.
-- Assumes nothing.
use Rattle.std.proofs.Common.{◌∙◌, le-ltb}
use Rattle.std.specs.Prelude.{ℕ, ◌≡◌, false, not, ◌||◌, eqb}
use Rattle.ground.proofs.Laws.Choice.{if_false}
use Rattle.job_contents.specs.Contents.{contents_of}
use Rattle.job_contents.proofs.Laws.Contents.{contents_told}
use Rattle.job_contents.proofs.read.Goals as goal

head_right : (a b : ℕ) → a ≡ 1 → b ≡ 3 → not (eqb a 1) || not (eqb b 3) ≡ false
head_right a b e f = rw (e, f)

pub returns : goal.returns
unfolding contents_of
returns c =
    contents_told _
    ((rw (c.entry_at-three.ensures, c.entry_at-two.ensures, c.entry_at-one.ensures) at c.entries.ensures)
    ∙ if_false _ _ (head_right _ _ c.if-job-ne1.false c.if-job-ne3.false)
    ∙ if_false _ _ (le-ltb _ _ c.if-job-lt-CONTENTS_BYTES.false)
    ∙ if_false _ _ (le-ltb _ _ c.if-job-gt-FILE_MOST.false))
