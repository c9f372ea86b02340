-- One row on in a history: the state and the answer that an accepted row hands out.
-- Assumes nothing.
use Rattle.std.specs.Prelude.{ℕ, suc, ◌≡◌, refl}
use Rattle.std.proofs.Math.Path.{ap}
use Rattle.std.proofs.Math.Bool.{true, false}
use Rattle.ground.specs.Choice.{when◌then◌else◌}
use Rattle.ground.proofs.Laws.Choice.{clash, if_true, if_false}
use Rattle.gap_slots.specs.Slots.{opens_uplink}
use Rattle.row_state.specs.declared.State.{State}
use Rattle.row_rules.specs.declared.Books.{Books}
use Rattle.row_rules.specs.Rules.{resting, gap_answer, sent_answer, sent_books, next_at}
use Rattle.row_rules.proofs.Laws.Rules.{row_cases}
use Rattle.row_rules.specs.History.{History, accepted, state_after, answer_of, state_at, stepped_at, answer_at, command_on}

module _ (h : History) (k : ℕ) where
  abbrev pub sent_on : Books
  sent_on = sent_books h.settings (h.gain k) (h.slot k) (state_at h k) (h.row k)

  -- its books: held over a gap, settled where it is sent
  abbrev pub books_on : Books
  books_on = when opens_uplink (h.slot k) then resting (state_at h k) else sent_on

  abbrev next_on : Books → State
  next_on b = next_at h.settings (h.slot k) (state_at h k) (h.row k) b

  pub next_is : accepted (stepped_at h k) ≡ true → state_at h (suc k) ≡ next_on books_on
  unfolding accepted state_after state_at
  next_is =
      row_cases h.settings (h.gain k) (h.slot k) (state_at h k) (h.row k) (λ x. accepted x ≡ true → state_after (state_at h k) x ≡ next_on books_on)
      (λ w a. absurd (clash a refl))
      (λ w u a. ap next_on (if_true _ _ u))
      (λ w u l a. absurd (clash a refl))
      (λ w u l a. ap next_on (if_false _ _ u))

  pub gap_answer_lem : accepted (stepped_at h k) ≡ true → opens_uplink (h.slot k) ≡ true → answer_at h k ≡ gap_answer (h.slot k) (command_on h k) (state_at h k).held
  unfolding accepted answer_of
  gap_answer_lem =
      row_cases h.settings (h.gain k) (h.slot k) (state_at h k) (h.row k)
      (λ x. accepted x ≡ true → opens_uplink (h.slot k) ≡ true → answer_of x ≡ gap_answer (h.slot k) (command_on h k) (state_at h k).held)
      (λ w a. absurd (clash a refl))
      (λ w u a v. refl)
      (λ w u l a. absurd (clash a refl))
      (λ w u l a v. absurd (clash v u))

  pub sent_answer_lem : accepted (stepped_at h k) ≡ true → opens_uplink (h.slot k) ≡ false → answer_at h k ≡ sent_answer (h.gain k) (h.slot k) (command_on h k) sent_on
  unfolding accepted answer_of
  sent_answer_lem =
      row_cases h.settings (h.gain k) (h.slot k) (state_at h k) (h.row k)
      (λ x. accepted x ≡ true → opens_uplink (h.slot k) ≡ false → answer_of x ≡ sent_answer (h.gain k) (h.slot k) (command_on h k) sent_on)
      (λ w a. absurd (clash a refl))
      (λ w u a v. absurd (clash u v))
      (λ w u l a. absurd (clash a refl))
      (λ w u l a v. refl)
