-- The books balance from history alone: the proof, row after row. Ceilings may vary from row to row.
-- Assumes nothing.
use Prim.Native.Nat.{ℕ, zero, suc, ◌≤◌, ◌<◌}
use Rattle.std.specs.Prelude.{◌≡◌, ◌↔◌, ◌⊎◌, Bool, ℤ, ◌+ℤ◌, ◌-ℤ◌, ◌≤ℤ◌}
use Rattle.std.proofs.Math.Path.{refl, sym, ap, subst}
use Rattle.std.proofs.Common.{◌∙◌, inl, inr, ⊎_elim, le_refl, not-suc-le-zero, arith}
use Rattle.std.proofs.Math.Logic.Iff.{trans as iff_trans}
use Rattle.std.proofs.Math.Bool.{true, false, not}
use mathlib.Core.List.{List}
use Rattle.std.proofs.Math.IntN.{pos, +ℤ_assoc}
use Rattle.std.specs.Int.Signed.{lt_z}
use Rattle.ground.proofs.Laws.Choice.{clash, alike, if_true, if_false}
use Rattle.ground.specs.Integers.{lesser, greater}
use Rattle.ground.proofs.Laws.Integers.Parts.{sum, dif}
use Rattle.ground.proofs.Laws.Integers.Signs.{signs, lesser_of, greater_of, greater_either}
use Rattle.ground.specs.Lists.{total, greatest}
use Rattle.ground.proofs.Laws.Lists.{total_none, total_last, greatest_none, greatest_last}
use Rattle.ground.proofs.Laws.Ranges.{last_or_before}
use Rattle.gap_slots.specs.Slots.{opens_uplink}
use Rattle.row_state.specs.declared.State.{State}
use Rattle.row_state.proofs.Laws.States.{starts}
use Rattle.row_values.specs.declared.Answer.{Answer}
use Rattle.row_rules.specs.declared.Books.{Books}
use Rattle.row_rules.specs.Rules.{next_state, resting, settled_of, data_power, gap_answer, sent_answer, sent_state}
use Rattle.row_rules.specs.History.{History, Accepted, state_at, is_sent, change_on, changes, reached, above, amounts, withheld}
use Rattle.row_rules.specs.Theorems.{Largest, Balances, Limits, SentRow, GapRow, IdsTold}
use Rattle.row_rules.proofs.Laws.Theorems.Steps.{sent_on, books_on, next_is, gap_answer_lem, sent_answer_lem}

-- A power p that stands h below the sum s takes a change c under a ceiling t. Then it stands h' below the sum with that change, s', where h' is the
-- greater of h and what s' is above the ceiling: over any integers
module _ (p s h c t s' h' : ℤ) (e : p ≡ s -ℤ h) (f : s' ≡ s +ℤ c) where
  -- it passes its ceiling exactly where the sum without any cut stands higher above it than all that was cut off
  cut_limited : lt_z t (p +ℤ c) ≡ lt_z h (s' -ℤ t)
  cut_limited = alike _ _ (λ b. omega (signs, dif s h, sum p c, sum s c, dif s' t)) (λ b. omega (signs, dif s h, sum p c, sum s c, dif s' t))

  module _ (g : h' ≡ greater h (s' -ℤ t)) where
    cut_power : lesser (p +ℤ c) t ≡ s' -ℤ h'
    cut_power = omega (signs, dif s h, sum p c, lesser_of (p +ℤ c) t, sum s c, dif s' t, greater_of h (s' -ℤ t), dif s' h')

    cut_held : h +ℤ ((p +ℤ c) -ℤ lesser (p +ℤ c) t) ≡ h'
    cut_held =
        let y = p +ℤ c in
        omega (signs, dif s h, sum p c, lesser_of y t, dif y (lesser y t), sum h (y -ℤ lesser y t), sum s c, dif s' t, greater_of h (s' -ℤ t))

module _ (h : History) where
  -- ---- one row on

  reached_sent : (k : ℕ) → is_sent h k ≡ true → reached h (suc k) ≡ reached h k +ℤ change_on h k
  unfolding changes
  reached_sent k e =
      let s = h.settings.start in
      let l = changes h k in
      ap (λ (l : List ℤ). s +ℤ total l) (sym (if_true _ _ e)) ∙ ap (λ (z : ℤ). s +ℤ z) (total_last l (change_on h k)) ∙ sym (+ℤ_assoc s (total l) (change_on h k))

  reached_gap : (k : ℕ) → is_sent h k ≡ false → reached h (suc k) ≡ reached h k
  unfolding changes
  reached_gap k e = ap (λ (l : List ℤ). h.settings.start +ℤ total l) (sym (if_false _ _ e))

  withheld_sent : (k : ℕ) → is_sent h k ≡ true → withheld h (suc k) ≡ greater (withheld h k) (above h k)
  unfolding withheld amounts
  withheld_sent k e = ap (greatest (pos 0)) (sym (if_true _ _ e)) ∙ greatest_last (pos 0) (amounts h k) (above h k)

  withheld_gap : (k : ℕ) → is_sent h k ≡ false → withheld h (suc k) ≡ withheld h k
  unfolding withheld amounts
  withheld_gap k e = ap (greatest (pos 0)) (sym (if_false _ _ e))

  withheld_none : withheld h 0 ≡ pos 0
  unfolding withheld amounts
  withheld_none = greatest_none (pos 0)

  -- ---- "control power = start + all changes named so far − withheld"

  -- the books after row k, from those before it
  record Kept (k : ℕ) (b : Books) : Type 0 where
    power : b.power ≡ reached h k -ℤ withheld h k
    held : b.held ≡ withheld h k

  kept_sent : (k : ℕ) → opens_uplink (h.slot k) ≡ false → Balances h k → Kept (suc k) (sent_on h k)
  unfolding settled_of
  kept_sent k u b =
      let r = reached_sent k (ap not u) in
      let w = withheld_sent k (ap not u) in
      let p = (state_at h k).power in
      let y = p +ℤ change_on h k in
      let t = (h.gain k).ceiling in
      record {
        power = cut_power p (reached h k) (withheld h k) (change_on h k) t (reached h (suc k)) (withheld h (suc k)) b.control r w;
        held = ap (λ (z : ℤ). z +ℤ (y -ℤ lesser y t)) b.held
            ∙ cut_held p (reached h k) (withheld h k) (change_on h k) t (reached h (suc k)) (withheld h (suc k)) b.control r w;
      }

  kept_next : (k : ℕ) (up : Bool) → opens_uplink (h.slot k) ≡ up → Balances h k → Kept (suc k) (books_on h k)
  unfolding resting
  kept_next k true u b =
      let r = reached_gap k (ap not u) in
      let w = withheld_gap k (ap not u) in
      subst (Kept (suc k)) (if_true _ _ u) (record { power = b.control ∙ rw (r, w); held = b.held ∙ sym w })
  kept_next k false u b = subst (Kept (suc k)) (if_false _ _ u) (kept_sent k u b)

  pub balances : {n : ℕ} → Accepted h n → (k : ℕ) → k ≤ n → Balances h k
  unfolding state_at next_state changes
  balances a zero l =
      let s = h.settings.start in
      let b = starts h.settings in
      record {
        control = b.power ∙ rw (withheld_none, total_none) (omega (signs, sum s (pos 0), dif (s +ℤ pos 0) (pos 0)));
        held =
            b.held ∙ sym withheld_none;
      }
  balances a (suc k) l =
      let e = next_is h k (a k l) in
      let q = kept_next k (opens_uplink (h.slot k)) refl (balances a k (omega arith)) in
      record { control = ap (λ (st : State). st.power) e ∙ q.power; held = ap (λ (st : State). st.held) e ∙ q.held }

  -- ---- withheld is the largest amount

  pub largest : (k : ℕ) → Largest h k (withheld h k)
  largest zero = record { least = rw withheld_none (omega signs); each = λ i l. absurd (not-suc-le-zero l); reached_by = inl withheld_none }
  largest (suc k) = by (is_sent h k) refl (largest k)
    where
      Earlier : Type 0
      Earlier = (i : ℕ) × (i < k) × (is_sent h i ≡ true) × (withheld h k ≡ above h i)

      Reached : ℤ → Type 0
      Reached z = (z ≡ pos 0) ⊎ ((i : ℕ) × (i < suc k) × (is_sent h i ≡ true) × (z ≡ above h i))

      earlier : Earlier → (i : ℕ) × (i < suc k) × (is_sent h i ≡ true) × (withheld h k ≡ above h i)
      earlier q = (q.0, omega (arith, q.1), q.2, q.3)

      by : (t : Bool) → is_sent h k ≡ t → Largest h k (withheld h k) → Largest h (suc k) (withheld h (suc k))
      by true e g =
          let w = withheld_sent k e in
          let m = greater_of (withheld h k) (above h k) in
          record {
            least = rw w (omega (signs, g.least, m));
            each = λ i l. last_or_before (λ (i : ℕ). is_sent h i ≡ true → above h i ≤ℤ withheld h (suc k)) {i = i} {k = k} (omega arith)
                (λ _. rw w (omega (signs, m))) (λ j s. rw w (omega (signs, g.each i j s, m)));
            reached_by = rw w (greater_either Reached (withheld h k) (above h k) (⊎_elim inl (λ (q : Earlier). inr (earlier q)) g.reached_by)
                (inr (k, le_refl (suc k), e, refl)));
          }
      by false e g =
          let w = withheld_gap k e in
          record {
            least = rw w g.least;
            each = λ i l. last_or_before (λ (i : ℕ). is_sent h i ≡ true → above h i ≤ℤ withheld h (suc k)) {i = i} {k = k} (omega arith)
                (λ s. absurd (clash s e)) (λ j s. rw w (g.each i j s));
            reached_by = rw w (⊎_elim inl (λ (q : Earlier). inr (earlier q)) g.reached_by);
          }

  -- two that are largest are one: each is 0 or a row's amount, and no less than the other's
  no_more : (k : ℕ) {y z : ℤ} → Largest h k y → Largest h k z → y ≤ℤ z
  no_more k {y} {z} a b =
      ⊎_elim (λ (e : y ≡ pos 0). subst (λ (x : ℤ). x ≤ℤ z) (sym e) b.least)
      (λ (q : (i : ℕ) × (i < k) × (is_sent h i ≡ true) × (y ≡ above h i)). subst (λ (x : ℤ). x ≤ℤ z) (sym q.3) (b.each q.0 q.1 q.2)) a.reached_by

  pub one_largest : (k : ℕ) {y z : ℤ} → Largest h k y → Largest h k z → y ≡ z
  one_largest k a b = omega (signs, no_more k a b, no_more k b a)

  -- ---- "limited exactly when that amount is above zero and above every earlier sent row's"

  limits : (k : ℕ) → lt_z (withheld h k) (above h k) ≡ true ↔ Limits h k
  limits k = (there, back)
    where
      g : Largest h k (withheld h k)
      g = largest k

      there : lt_z (withheld h k) (above h k) ≡ true → Limits h k
      there e = record { some = omega (signs, g.least); new = λ i l s. omega (signs, g.each i l s) }

      back : Limits h k → lt_z (withheld h k) (above h k) ≡ true
      back m =
          ⊎_elim (λ (z : withheld h k ≡ pos 0). omega (signs, m.some))
          (λ (q : (i : ℕ) × (i < k) × (is_sent h i ≡ true) × (withheld h k ≡ above h i)). omega (signs, m.new q.0 q.1 q.2, q.3)) g.reached_by

  -- a limited row has state 2
  two : (t : Bool) → sent_state t ≡ pos 2 ↔ t ≡ true
  two true = (λ e. refl, λ e. refl)
  two false = (λ e. absurd (let z : ⊥ = omega (signs, e) in z), λ e. absurd (clash e refl))

  one_or_two : (t : Bool) → (sent_state t ≡ pos 1) ⊎ (sent_state t ≡ pos 2)
  one_or_two true = inr refl
  one_or_two false = inl refl

  -- ---- the answers

  pub sent_row_lem : {n : ℕ} → Accepted h n → (k : ℕ) → k < n → opens_uplink (h.slot k) ≡ false → SentRow h k
  unfolding sent_answer settled_of data_power
  sent_row_lem a k l u =
      let e = sent_answer_lem h k (a k l) u in
      let b = balances a k (omega arith) in
      let q = kept_sent k u b in
      let c = cut_limited (state_at h k).power (reached h k) (withheld h k) (change_on h k) (h.gain k).ceiling (reached h (suc k)) (withheld h (suc k))
      b.control (reached_sent k (ap not u)) in
      let z = (state_at h k).power +ℤ change_on h k in
      let m = lesser z (h.gain k).ceiling in
      record {
        command = ap (λ (x : Answer). x.command) e;
        control = ap (λ (x : Answer). x.dpcch) e ∙ q.power;
        held = ap (λ (x : Answer). x.held) e ∙ q.held;
        state = rw e (one_or_two (lt_z (h.gain k).ceiling z));
        limited = rw (e, c) (iff_trans (two (lt_z (withheld h k) (above h k))) (limits k));
        lesser_power = ap (λ (x : Answer). x.dpcch) e;
        over = rw e (iff_trans (two (lt_z (h.gain k).ceiling z)) (λ t. omega (signs, t), λ l. omega (signs, l)));
        total = rw e (omega (signs, lesser_of z (h.gain k).ceiling, sum m (h.gain k).bracket, sum (h.gain k).ceiling (h.gain k).bracket));
        bracket = rw e;
        data_power = λ s. rw e (sym (if_true _ _ s));
        no_data = λ s. rw e (sym (if_false _ _ s));
      }

  pub gap_row : {n : ℕ} → Accepted h n → (k : ℕ) → k < n → opens_uplink (h.slot k) ≡ true → GapRow h k
  unfolding next_state resting gap_answer
  gap_row a k l u =
      let b = balances a k (omega arith) in
      let e = gap_answer_lem h k (a k l) u in
      let w = withheld_gap k (ap not u) in
      record {
        state = ap (λ (x : Answer). x.state) e;
        command = ap (λ (x : Answer). x.command) e;
        no_control = ap (λ (x : Answer). x.dpcch) e;
        no_data = ap (λ (x : Answer). x.dpdch) e;
        no_total = ap (λ (x : Answer). x.total) e;
        held = ap (λ (x : Answer). x.held) e ∙ b.held ∙ sym w;
        same_power = ap (λ (st : State). st.power) (next_is h k (a k l)) ∙ sym (ap (λ (b : Books). b.power) (if_true _ _ u));
        same_held = w;
      }

  -- sent or not
  pub ids_told : {n : ℕ} → Accepted h n → (k : ℕ) → k < n → IdsTold h k
  unfolding gap_answer sent_answer
  ids_told a k l = by (opens_uplink (h.slot k)) refl
    where
      by : (t : Bool) → opens_uplink (h.slot k) ≡ t → IdsTold h k
      by true u = let e = gap_answer_lem h k (a k l) u in record { uplink = ap (λ (x : Answer). x.uplink) e; downlink = ap (λ (x : Answer). x.downlink) e }
      by false u = let e = sent_answer_lem h k (a k l) u in record { uplink = ap (λ (x : Answer). x.uplink) e; downlink = ap (λ (x : Answer). x.downlink) e }
