-- The page's five rules name one change: two changes that they allow are one.
-- Assumes nothing.
use Rattle.std.specs.Prelude.{ℕ, ◌<◌, ◌≡◌, refl, false, ℤ, pos, ◌+ℤ◌, ◌*ℤ◌}
use Rattle.std.proofs.Common.{sym, ap, ◌∙◌, arith}
use Rattle.ground.proofs.Laws.Choice.{clash}
use Rattle.ground.proofs.Laws.Ranges.{neither_before}
use Rattle.power.specs.Steps.{step_units, recovery_step_of}
use Rattle.resume_filter.proofs.Laws.Resuming.{nearest_unique}
use Rattle.row_rules.specs.History.{History, is_sent, command_on}
use Rattle.row_rules.specs.Theorems.{IsFirst, IsLast, ResumeChange, by_step_lem, by_none, by_level, pilots_from, Changed, rule1, rule2, rule3, rule4, rule5}

-- ITP is one number
one_itp : {itp : ℕ} → itp ≡ 0 → itp ≡ 1 → ⊥
one_itp e f = omega arith

-- command × recovery step, command × step
abbrev quick : History → ℕ → ℤ
quick h k = command_on h k *ℤ pos (recovery_step_of h.settings.pca (step_units h.settings.step))

abbrev plain : History → ℕ → ℤ
plain h k = command_on h k *ℤ pos (step_units h.settings.step)

module _ (h : History) {k : ℕ} where
  -- there is one last sent row, and one first uplink gap slot of a run
  one_last : {i j : ℕ} → IsLast h i k → IsLast h j k → i ≡ j
  one_last {i} {j} q r = neither_before i j (λ l. clash r.sent (q.none_since j l r.before)) (λ l. clash q.sent (r.none_since i l q.before))

  one_first : {i j : ℕ} → IsFirst h i k → IsFirst h j k → i ≡ j
  one_first {i} {j} q r = neither_before i j (λ l. clash q.uplink (r.none_before i l q.run)) (λ l. clash r.uplink (q.none_before j l r.run))

  one_resume : {y z : ℤ} → ResumeChange h k y → ResumeChange h k z → y ≡ z
  one_resume (by_step_lem e i f v) (by_step_lem d j g w) = v ∙ ap (λ (n : ℕ). command_on h n *ℤ pos (step_units h.settings.step)) (one_first f g) ∙ sym w
  one_resume (by_step_lem e i f v) (by_none d g w) = absurd (clash f.uplink (g i f.run))
  one_resume (by_step_lem e i f v) (by_level d n) = absurd (one_itp e d)
  one_resume (by_none e f v) (by_step_lem d i g w) = absurd (clash g.uplink (f i g.run))
  one_resume (by_none e f v) (by_none d g w) = v ∙ sym w
  one_resume (by_none e f v) (by_level d n) = absurd (one_itp e d)
  one_resume (by_level e m) (by_step_lem d i g w) = absurd (one_itp d e)
  one_resume (by_level e m) (by_none d g w) = absurd (one_itp d e)
  one_resume (by_level e m) (by_level d n) = nearest_unique m n

  -- the pilot change is added to the same number, after the same row
  same_sum : {i j : ℕ} {u v : ℤ} → u ≡ v → IsLast h i k → IsLast h j k → (u +ℤ pilots_from h i k) ≡ (v +ℤ pilots_from h j k)
  same_sum {i} {j} {u} {v} e q r = ap (λ (z : ℤ). z +ℤ pilots_from h i k) e ∙ ap (λ (n : ℕ). v +ℤ pilots_from h n k) (one_last q r)

  no_row : {i : ℕ} → ((j : ℕ) → j < k → is_sent h j ≡ false) → IsLast h i k → ⊥
  no_row {i} f q = clash q.sent (f i q.before)

  pub one_change : {y z : ℤ} → Changed h k y → Changed h k z → y ≡ z
  one_change (rule1 f e) (rule1 f' e') = e ∙ sym e'
  one_change (rule1 f e) (rule2 i' q' r' u' w' e') = absurd (no_row f q')
  one_change (rule1 f e) (rule3 i' q' n' d' e') = absurd (no_row f q')
  one_change (rule1 f e) (rule4 i' q' n' d' c' e') = absurd (no_row f q')
  one_change (rule1 f e) (rule5 i' q' n' d' c' e') = absurd (no_row f q')
  one_change (rule2 i q r u w e) (rule1 f' e') = absurd (no_row f' q)
  one_change (rule2 i q r u w e) (rule2 i' q' r' u' w' e') = e ∙ same_sum (one_resume w w') q q' ∙ sym e'
  one_change (rule2 i q r u w e) (rule3 i' q' n' d' e') = absurd (n' r)
  one_change (rule2 i q r u w e) (rule4 i' q' n' d' c' e') = absurd (n' r)
  one_change (rule2 i q r u w e) (rule5 i' q' n' d' c' e') = absurd (n' r)
  one_change (rule3 i q n d e) (rule1 f' e') = absurd (no_row f' q)
  one_change (rule3 i q n d e) (rule2 i' q' r' u' w' e') = absurd (n r')
  one_change (rule3 i q n d e) (rule3 i' q' n' d' e') = e ∙ sym e'
  one_change (rule3 i q n d e) (rule4 i' q' n' d' c' e') = absurd (clash d d')
  one_change (rule3 i q n d e) (rule5 i' q' n' d' c' e') = absurd (clash d d')
  one_change (rule4 i q n d c e) (rule1 f' e') = absurd (no_row f' q)
  one_change (rule4 i q n d c e) (rule2 i' q' r' u' w' e') = absurd (n r')
  one_change (rule4 i q n d c e) (rule3 i' q' n' d' e') = absurd (clash d' d)
  one_change (rule4 i q n d c e) (rule4 i' q' n' d' c' e') = e ∙ same_sum (refl {a = quick h k}) q q' ∙ sym e'
  one_change (rule4 i q n d c e) (rule5 i' q' n' d' c' e') = absurd (c' c)
  one_change (rule5 i q n d c e) (rule1 f' e') = absurd (no_row f' q)
  one_change (rule5 i q n d c e) (rule2 i' q' r' u' w' e') = absurd (n r')
  one_change (rule5 i q n d c e) (rule3 i' q' n' d' e') = absurd (clash d' d)
  one_change (rule5 i q n d c e) (rule4 i' q' n' d' c' e') = absurd (c c')
  one_change (rule5 i q n d c e) (rule5 i' q' n' d' c' e') = e ∙ same_sum (refl {a = plain h k}) q q' ∙ sym e'
