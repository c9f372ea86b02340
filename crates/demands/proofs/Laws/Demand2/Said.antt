-- What demand 2 says of rows, proved: command, change, powers and limiting, and the refusals of a row; and that two answers of which it is said are one.
-- Assumes nothing.
use Prim.Native.Nat.{ℕ, zero, suc, ◌≤◌, ◌<◌}
use Rattle.std.specs.Prelude.{◌≡◌, ◌↔◌, ◌⊎◌, Bool, List, ltb, ℤ, pos, ◌+ℤ◌, ◌≤ℤ◌, ◌<ℤ◌, Err}
use Rattle.std.proofs.Math.Path.{refl, sym}
use Rattle.std.proofs.Common.{ap, ap₂, subst, ◌∙◌, inl, inr, ⊎_elim, le_refl, arith, ltb-true, ltb-false}
use Rattle.std.proofs.Math.Bool.{true, false, not}
use Rattle.ground.specs.declared.Refusal.{Refusal}
use Rattle.ground.proofs.Laws.OnAnswers.{one_answer}
use Rattle.ground.specs.Choice.{when◌then◌else◌}
use Rattle.ground.proofs.Laws.Choice.{clash, if_true, if_false}
use Rattle.ground.proofs.Laws.Integers.Parts.{sum, dif}
use Rattle.ground.specs.Integers.{lesser}
use Rattle.ground.proofs.Laws.Integers.Signs.{signs}
use Rattle.constants.specs.Sizes.{rows_most, power_least}
use Rattle.constants.specs.Refusals.{refusal, wrong_row, power_too_low}
use Rattle.power.specs.declared.Triple.{Triple}
use Rattle.power.specs.Gain.{data_offset}
use Rattle.power.proofs.Laws.Gain.{gain_ceiling, gain_bracket_lem}
use Rattle.gap_slots.specs.Slots.{opens_uplink}
use Rattle.command.specs.Row.{said_command}
use Rattle.command.proofs.Laws.Row.{one_command}
use Rattle.row_state.proofs.Laws.States.{starts}
use Rattle.row_values.specs.declared.Answer.{Answer}
use Rattle.row_rules.specs.Stepping.{Stepped}
use Rattle.row_rules.specs.History.{History, accepted, Accepted, state_at, stepped_at, answer_at, is_sent, commands_on, command_on, change_on, downs, recoveries}
use Rattle.row_rules.specs.Refusing.{RowRefused}
use Rattle.row_rules.specs.Theorems.{Changed}
use Rattle.job.specs.Jobs.{stepped_of}
use Rattle.row_rules.proofs.Laws.Theorems.All.{theorems}
use Rattle.job.proofs.Laws.Theorems.Taking.{takes}
use Rattle.demands.specs.Rows.{row_triple, Test, history, old_power}
use Rattle.demands.proofs.Laws.Rows.{row_named, offered}
use Rattle.demands.specs.Refusals.{RowKeeps, RowRefuses, RowTaken, NextRowJudged}
use Rattle.demands.specs.Demand2.{CommandSaid, ceiling, RowNamed, SentSaid, GapSaid, RowSaid}

-- ---- "old power"

module _ (h : History) {n : ℕ} (a : Accepted h n) where
  old_power_lem : (k : ℕ) → k ≤ n → (state_at h k).power ≡ old_power h k
  unfolding state_at old_power
  old_power_lem zero l = (starts h.settings).power
  old_power_lem (suc k) l = by (opens_uplink (h.slot k)) refl (old_power_lem k (omega arith))
    where
      by : (t : Bool) → opens_uplink (h.slot k) ≡ t → (state_at h k).power ≡ old_power h k →
          (state_at h (suc k)).power ≡ (when is_sent h k then (answer_at h k).dpcch else old_power h k)
      by true u e = (theorems.gap h a k l u).same_power ∙ e ∙ if_false _ _ (ap not u)
      by false u e = (theorems.books h a (suc k) l).control ∙ sym (theorems.sent h a k l u).control ∙ if_true _ _ (ap not u)

-- ---- the rows of a test

module _ {job : List ℕ} (t : Test job) where
  abbrev h : History
  h = history t

  its_change : (k : ℕ) → k ≤ t.n → Changed h k (change_on h k)
  its_change k l = theorems.changes h t.accepted (takes job t.taken.is_taken).ranged.itp k l

  pub named : (k : ℕ) → k ≤ t.n → RowNamed h k
  named k l =
      let q = theorems.slots h t.accepted k l in
      record {
        command = q.commanded;
        recovery = q.recovery;
        change = λ u. its_change k l;
        filter = theorems.filter h t.accepted k l;
        row = q.row;
        old = old_power_lem h t.accepted k l;
      }

  -- an answer's command is the one that is named
  says : (k : ℕ) → k ≤ t.n → {z : ℤ} → z ≡ command_on h k → CommandSaid h k z
  says k l p = subst (CommandSaid h k) (sym p) (named k l).command

  sent_said : (k : ℕ) → k < t.n → opens_uplink (h.slot k) ≡ false → SentSaid h (row_triple t.taken k) k (change_on h k) (answer_at h k)
  sent_said k l u =
      let b = row_triple t.taken k in
      let m = h.settings.maximum in
      let r = theorems.sent h t.accepted k l u in
      let g = theorems.of_triple h t.accepted k l u b refl in
      let x = answer_at h k in
      let y = old_power h k +ℤ change_on h k in
      let old = old_power_lem h t.accepted k (omega arith) in
      let its-ceiling : (h.gain k).ceiling ≡ ceiling h b = gain_ceiling b m in
      record {
        command = says k (omega arith) r.command;
        control = r.lesser_power ∙ ap (λ (z : ℤ). lesser (z +ℤ change_on h k) (h.gain k).ceiling) old ∙ ap (lesser y) its-ceiling;
        total = r.bracket ∙ ap (λ (z : ℤ). x.dpcch +ℤ z) (gain_bracket_lem b m);
        data_power = λ d. omega (signs, g.data_power d, dif x.dpdch x.dpcch, sum x.dpcch (data_offset b));
        no_data = g.no_data;
        limited = subst (λ (c : ℤ). x.state ≡ pos 2 ↔ c <ℤ y) its-ceiling
            (subst (λ (z : ℤ). x.state ≡ pos 2 ↔ (h.gain k).ceiling <ℤ (z +ℤ change_on h k)) old r.over);
        state = r.state;
      }

  gap_said : (k : ℕ) → k < t.n → opens_uplink (h.slot k) ≡ true → GapSaid h k (answer_at h k)
  gap_said k l u =
      let r = theorems.gap h t.accepted k l u in
      record { command = says k (omega arith) r.command; state = r.state; control = r.no_control; data_power = r.no_data; total = r.no_total }

  pub row_said_lem : (k : ℕ) → k < t.n → RowSaid h (row_triple t.taken k) k (answer_at h k)
  row_said_lem k l =
      record {
        sent = λ u z c. subst (λ (y : ℤ). SentSaid h (row_triple t.taken k) k y (answer_at h k)) (theorems.one_change h (its_change k (omega arith)) c)
            (sent_said k l u);
        gap = gap_said k l;
        uplink = (theorems.ids h t.accepted k l).uplink;
        downlink = (theorems.ids h t.accepted k l).downlink;
      }

  -- the refusals of row n, by the power and the place that are named of it
  abbrev n : ℕ
  n = t.n

  refused_so : RowRefused h.settings (h.gain n) (h.slot n) (state_at h n) (h.row n)
  refused_so = theorems.row_refused h.settings (h.gain n) (h.slot n) (state_at h n) (h.row n)

  by_eight : stepped_at h n ≡ Err (refusal wrong_row n) ↔ (RowKeeps h n → ⊥)
  by_eight =
      subst (λ (i : ℕ). stepped_at h n ≡ Err (refusal wrong_row i) ↔ (RowKeeps h n → ⊥)) (named n (le_refl n)).row refused_so.eight

  abbrev formed : ℤ
  formed = old_power h n +ℤ change_on h n

  by_nine : stepped_at h n ≡ Err (refusal power_too_low n) ↔ (RowKeeps h n × (opens_uplink (h.slot n) ≡ false) × (formed <ℤ power_least))
  by_nine =
      let m = named n (le_refl n) in
      let low : ℤ → Type 0 = λ z. RowKeeps h n × (opens_uplink (h.slot n) ≡ false) × ((z +ℤ change_on h n) <ℤ power_least) in
      subst (λ (i : ℕ). stepped_at h n ≡ Err (refusal power_too_low i) ↔ low (old_power h n)) m.row
      (subst (λ (z : ℤ). stepped_at h n ≡ Err (refusal power_too_low (state_at h n).row) ↔ low z) m.old refused_so.nine)

  by_else : accepted (stepped_at h n) ≡ true ↔ (RowKeeps h n × ((opens_uplink (h.slot n) ≡ true) ⊎ (power_least ≤ℤ formed)))
  by_else =
      subst (λ (z : ℤ). accepted (stepped_at h n) ≡ true ↔ (RowKeeps h n × ((opens_uplink (h.slot n) ≡ true) ⊎ (power_least ≤ℤ (z +ℤ change_on h n)))))
      (named n (le_refl n)).old refused_so.else_taken

  -- the change that the rules name is the one that is formed with
  one_formed : {z : ℤ} → Changed h n z → old_power h n +ℤ z ≡ formed
  one_formed c = ap (λ (y : ℤ). old_power h n +ℤ y) (theorems.one_change h c (its_change n (le_refl n)))

  pub of_row : NextRowJudged h n (stepped_at h n)
  of_row = record { refused = λ r. (stated r, given); else_taken = (taken_so, takes_so) }
    where
      same : (r : Refusal) {number : ℕ} → r.number ≡ number → r.place ≡ n → r ≡ refusal number n
      same r e f = ap₂ refusal e f

      stated : (r : Refusal) → stepped_at h n ≡ Err r → RowRefuses h n r
      stated r e =
          let w = row_named h t.accepted e in
          ⊎_elim
          (λ (p : r.number ≡ wrong_row). let q = same r p w.1 in
          subst (RowRefuses h n) (sym q) (RowRefuses.eight (by_eight.0 (e ∙ ap Err q))))
          (λ (p : r.number ≡ power_too_low). let q = same r p w.1 in
          let d = by_nine.0 (e ∙ ap Err q) in
          subst (RowRefuses h n) (sym q) (RowRefuses.nine d.0 d.1 (change_on h n) (its_change n (le_refl n)) d.2)) w.0

      given : {r : Refusal} → RowRefuses h n r → stepped_at h n ≡ Err r
      given (RowRefuses.eight k) = by_eight.1 k
      given (RowRefuses.nine k u z c low) = by_nine.1 (k, u, subst (λ (y : ℤ). y <ℤ power_least) (one_formed c) low)

      taken_so : accepted (stepped_at h n) ≡ true → RowTaken h n
      taken_so e = by (opens_uplink (h.slot n)) refl (by_else.0 e)
        where
          by : (up : Bool) → opens_uplink (h.slot n) ≡ up → RowKeeps h n × ((opens_uplink (h.slot n) ≡ true) ⊎ (power_least ≤ℤ formed)) → RowTaken h n
          by true u d = RowTaken.gap d.0 u
          by false u d =
              ⊎_elim (λ (v : opens_uplink (h.slot n) ≡ true). absurd (clash v u))
              (λ (l : power_least ≤ℤ formed). RowTaken.sent d.0 u (change_on h n) (its_change n (le_refl n)) l) d.1

      takes_so : RowTaken h n → accepted (stepped_at h n) ≡ true
      takes_so (RowTaken.gap k u) = by_else.1 (k, inl u)
      takes_so (RowTaken.sent k u z c l) = by_else.1 (k, inr (subst (λ (y : ℤ). power_least ≤ℤ y) (one_formed c) l))

  pub of_a_row : n < rows_most → NextRowJudged h n (stepped_of job (state_at h n) (t.row n))
  of_a_row l = subst (NextRowJudged h n) (sym (offered t l)) of_row

-- ---- one command

only : (h : History) (k : ℕ) {z : ℤ} → CommandSaid h k z → said_command (commands_on h) (downs h) (recoveries h) h.settings.pca h.settings.links k ≡ z
only h k c = one_command (commands_on h) (downs h) (recoveries h) h.settings.pca h.settings.links k c

pub same_command : (h : History) (k : ℕ) {y z : ℤ} → CommandSaid h k y → CommandSaid h k z → y ≡ z
same_command h k e f = sym (only h k e) ∙ only h k f

-- ---- two sent rows of which the same is said

module _ {h : History} {t : Triple} {k : ℕ} {z : ℤ} {x y : Answer} (p : SentSaid h t k z x) (q : SentSaid h t k z y) where
  pub same_state : x.state ≡ y.state
  same_state =
      ⊎_elim
      (λ (e : x.state ≡ pos 1).
      ⊎_elim (λ (f : y.state ≡ pos 1). one_answer e f) (λ (f : y.state ≡ pos 2). absurd (apart e (p.limited.1 (q.limited.0 f)))) q.state)
      (λ (e : x.state ≡ pos 2). one_answer e (q.limited.1 (p.limited.0 e))) p.state
    where
      apart : {z : ℤ} → z ≡ pos 1 → z ≡ pos 2 → ⊥
      apart e f = let g : pos 1 ≡ pos 2 = sym e ∙ f in omega (signs, g)

  -- data power stands by one offset from control power, or is absent
  pub same_data : x.dpcch ≡ y.dpcch → x.dpdch ≡ y.dpdch
  same_data e = by (ltb 0 t.betad) refl
    where
      by : (sends : Bool) → ltb 0 t.betad ≡ sends → x.dpdch ≡ y.dpdch
      by true f =
          let l = ltb-true 0 t.betad f in
          p.data_power l ∙ ap (λ (v : ℤ). v +ℤ data_offset t) e ∙ sym (q.data_power l)
      by false f =
          let z : t.betad ≡ 0 = omega (arith, ltb-false 0 t.betad f) in
          one_answer (p.no_data z) (q.no_data z)
