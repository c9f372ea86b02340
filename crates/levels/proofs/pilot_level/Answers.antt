-- `levels::pilot_level` meets its contract: each level written out passes the rule's test, and any other number is looked up.
-- Assumes nothing.
use Rattle.std.proofs.Common.{ℕ, ◌≡◌, true, refl, sym, ap, ◌∙◌}
use Rattle.levels.specs.Level.{ranged, is_level, level}
use Rattle.levels.proofs.Laws.Level.{level_at}
use Rattle.levels.proofs.pilot_level.Goals as goal

-- r is written out for the number k, which the pilots are: both tests are computed
written : {pilots k r : ℕ} → pilots ≡ k → ranged k ≡ true → is_level k r ≡ true → r ≡ level pilots
written {k} {r} e h t = sym (ap level e ∙ level_at k r h t)

pub returns-in-3 : goal.returns-in-3
unfolding ranged is_level
returns-in-3 c = written c.in-3.is refl refl

pub returns-in-4 : goal.returns-in-4
unfolding ranged is_level
returns-in-4 c = written c.in-4.is refl refl

pub returns-in-5 : goal.returns-in-5
unfolding ranged is_level
returns-in-5 c = written c.in-5.is refl refl

pub returns-in-6 : goal.returns-in-6
unfolding ranged is_level
returns-in-6 c = written c.in-6.is refl refl

pub returns-in-7 : goal.returns-in-7
unfolding ranged is_level
returns-in-7 c = written c.in-7.is refl refl

pub returns-in-8 : goal.returns-in-8
unfolding ranged is_level
returns-in-8 c = written c.in-8.is refl refl
