-- The state before a row says of the slots so far what the page says of them: the proof, row after row.
-- Assumes nothing.
use Prim.Native.Nat.{ℕ, zero, suc, ◌≤◌, ◌<◌}
use Rattle.std.specs.Prelude.{◌≡◌, Bool, ◌||◌, pos}
use Rattle.std.proofs.Math.Path.{refl, sym, ap, subst}
use Rattle.std.proofs.Common.{◌∙◌, not-suc-le-zero}
use Rattle.std.proofs.Math.Bool.{true, false, not}
use Rattle.std.proofs.Math.Nat.{le_refl}
use native.Mathlib.Omega.{arith}
use Rattle.std.specs.Int.Signed.{lt_z}
use Rattle.ground.proofs.Laws.Choice.{clash, if_true, if_false}
use Rattle.ground.proofs.Laws.Ranges.{last_or_before}
use Rattle.gap_slots.specs.Slots.{opens_uplink, opens_downlink, gap_slot}
use Rattle.gap_runs.specs.declared.Run.{Run}
use Rattle.gap_runs.specs.declared.Kind.TheVariants.{Recovery}
use Rattle.gap_runs.specs.Runs.{gaps_of, walked_of, run_at, kind_at, Stands}
use Rattle.gap_runs.proofs.Laws.Runs.{run_start, run_next, kind_now, run_stands, kind_is_meant}
use Rattle.command_algorithms.specs.Sets.{set_at}
use Rattle.command_algorithms.proofs.Laws.Sets.{set_start, set_next, set_said}
use Rattle.command.specs.Row.{recovery_of, said_command, Commanded}
use Rattle.command.proofs.Laws.Row.{recovery_exactly, command_said, commanded}
use Rattle.row_state.specs.declared.Opening.{Opening}
use Rattle.row_state.specs.declared.State.{State}
use Rattle.row_state.proofs.Laws.States.{starts}
use Rattle.row_change.specs.declared.Here.{Here}
use Rattle.row_change.specs.Change.{here_of}
use Rattle.row_change.proofs.Laws.Change.{here_up, here_down, here_recovery}
use Rattle.row_change.specs.After.{opening_after}
use Rattle.row_change.proofs.Laws.After.{opening_now, opening_seen, opening_down, opening_over}
use Rattle.row_values.specs.declared.Answer.{Answer}
use Rattle.row_rules.specs.declared.Books.{Books}
use Rattle.row_rules.specs.Rules.{next_state, resting, settled_of, gap_answer, sent_answer, sent_state}
use Rattle.row_rules.specs.History.{History, Accepted, accepted, state_at, stepped_at, commands_on, is_sent, here_on, command_on, downs, recoveries}
use Rattle.row_rules.specs.History.{is_limited, limited_before}
use Rattle.row_rules.specs.Theorems.{InRun, IsFirst, Opens, none, first, LastSent, never, last, SlotsSaid}
use Rattle.row_rules.proofs.Laws.Theorems.Steps.{books_on, next_is, gap_answer_lem, sent_answer_lem}

module _ (h : History) where
  -- ---- run, set and row

  record Walks (k : ℕ) : Type 0 where
    row : (state_at h k).row ≡ k
    run : (state_at h k).run ≡ run_at (gaps_of h.slot) k
    set : (state_at h k).set ≡ set_at (commands_on h) (downs h) (recoveries h) k

  -- row k's slot by the page's own kinds
  kind_is : {k : ℕ} → Walks k → (walked_of (state_at h k).run (h.slot k)).kind ≡ kind_at (gaps_of h.slot) k
  kind_is {k} w = ap (λ (r : Run). (walked_of r (h.slot k)).kind) w.run ∙ kind_now h.slot k

  down_is : (k : ℕ) → (here_on h k).down ≡ downs h k
  down_is k = here_down h.settings.rpp (h.slot k) _

  recovery_is : {k : ℕ} → Walks k → (here_on h k).recovery ≡ recoveries h k
  recovery_is {k} w = here_recovery h.settings.rpp (h.slot k) _ ∙ ap (recovery_of h.settings.rpp) (kind_is w)

  walks : {n : ℕ} → Accepted h n → (k : ℕ) → k ≤ n → Walks k
  unfolding state_at next_state
  walks a zero l =
      let b = starts h.settings in
      record { row = b.row; run = b.run ∙ sym (run_start (gaps_of h.slot)); set = b.set ∙ sym (set_start (commands_on h) (downs h) (recoveries h)) }
  walks a (suc k) l =
      let w = walks a k (omega arith) in
      let e = next_is h k (a k l) in
      let d = down_is k in
      let q = recovery_is w in
      record {
        row = ap (λ (st : State). st.row) e ∙ (let i = w.row in omega arith);
        run = ap (λ (st : State). st.run) e ∙ ap (λ (r : Run). (walked_of r (h.slot k)).run) w.run ∙ run_next h.slot k;
        set = ap (λ (st : State). st.set) e ∙ rw (w.set, w.row, d, q, set_next (commands_on h) (downs h) (recoveries h) k);
      }

  -- ---- the run's first uplink gap slot

  -- a slot of the run that ends with slot k − 1 is one of the run that ends with gap slot k
  longer : {i k : ℕ} → gap_slot (h.slot k) ≡ true → InRun h i k → InRun h i (suc k)
  longer {i} {k} g r = record {
    before = omega (arith, r.before);
    each =
        λ j a b. last_or_before (λ (j : ℕ). i ≤ j → gap_slot (h.slot j) ≡ true) {i = j} {k = k} (omega arith) (λ _. g) (λ l c. r.each j c l) a;
  }

  -- and the other way round, for all but the newest
  shorter : {i k : ℕ} → InRun h i (suc k) → i < k → InRun h i k
  shorter r l = record { before = l; each = λ j a b. r.each j a (omega arith) }

  -- where the newest is no uplink gap slot either
  none_yet : {k : ℕ} → opens_uplink (h.slot k) ≡ false → ((i : ℕ) → InRun h i k → opens_uplink (h.slot i) ≡ false) → (i : ℕ) → InRun h i (suc k) →
      opens_uplink (h.slot i) ≡ false
  none_yet {k} u f i r =
      last_or_before (λ (i : ℕ). InRun h i (suc k) → opens_uplink (h.slot i) ≡ false) {i = i} {k = k} (omega (arith, r.before)) (λ _. u)
      (λ l q. f i (shorter q l)) r

  -- what was first stays first
  still : {k : ℕ} {o : Opening} → gap_slot (h.slot k) ≡ true → (i : ℕ) → IsFirst h i k → o.seen ≡ true → o.command ≡ command_on h i → Opens h (suc k) o
  still g i f s c =
      let r = f.run in
      first i (record { run = longer g r; uplink = f.uplink; none_before = λ j l q. f.none_before j l (shorter q (omega (arith, r.before))) }) s c

  module _ (k : ℕ) (o : Opening) (here : Here) where
    opens_next : Opens h k o → (up down : Bool) → opens_uplink (h.slot k) ≡ up → opens_downlink (h.slot k) ≡ down → here.up ≡ up → here.down ≡ down →
        Opens h (suc k) (opening_after o here (command_on h k))
    opens_next (none f s c) true down u d hu hd =
        let g : gap_slot (h.slot k) ≡ true = ap (λ (b : Bool). b || opens_downlink (h.slot k)) u in
        let r : InRun h k (suc k) = record {
          before = le_refl (suc k);
          each =
              λ j a b. last_or_before (λ (j : ℕ). k ≤ j → gap_slot (h.slot j) ≡ true) {i = j} {k = k} (omega arith) (λ _. g)
              (λ l m. absurd (let z : ⊥ = omega arith in z)) a;
        } in
        subst (Opens h (suc k)) (sym (opening_now o here (command_on h k) hu s))
        (first k (record { run = r; uplink = u; none_before = λ j l q. f j (shorter q l) }) refl refl)
    opens_next (first i f s c) true down u d hu hd =
        subst (Opens h (suc k)) (sym (opening_seen o here (command_on h k) hu s)) (still (ap (λ (b : Bool). b || opens_downlink (h.slot k)) u) i f s c)
    opens_next (none f s c) false true u d hu hd = subst (Opens h (suc k)) (sym (opening_down o here (command_on h k) hu hd)) (none (none_yet u f) s c)
    opens_next (first i f s c) false true u d hu hd =
        subst (Opens h (suc k)) (sym (opening_down o here (command_on h k) hu hd)) (still (simp (u, d)) i f s c)
    opens_next p false false u d hu hd =
        let g : gap_slot (h.slot k) ≡ false = simp (u, d) in
        subst (Opens h (suc k)) (sym (opening_over o here (command_on h k) hu hd))
        (none (λ i q. absurd (clash (q.each k (omega (arith, q.before)) (le_refl (suc k))) g)) refl refl)

  opens : {n : ℕ} → Accepted h n → (k : ℕ) → k ≤ n → Opens h k (state_at h k).opening
  unfolding state_at next_state
  opens a zero l =
      let b = (starts h.settings).opening in
      none (λ i r. absurd (not-suc-le-zero r.before)) (ap (λ (o : Opening). o.seen) b) (ap (λ (o : Opening). o.command) b)
  opens a (suc k) l =
      subst (Opens h (suc k)) (sym (ap (λ (st : State). st.opening) (next_is h k (a k l))))
      (opens_next k (state_at h k).opening (here_on h k) (opens a k (omega arith)) (opens_uplink (h.slot k)) (opens_downlink (h.slot k)) refl refl
      (here_up h.settings.rpp (h.slot k) _) (down_is k))

  -- ---- the last sent row

  sent_next_lem : (k : ℕ) (up : Bool) → opens_uplink (h.slot k) ≡ up → LastSent h k (state_at h k).sent (state_at h k).pilots →
      LastSent h (suc k) (books_on h k).sent (books_on h k).pilots
  unfolding resting settled_of
  sent_next_lem k true u (never f s p) =
      subst (λ (b : Books). LastSent h (suc k) b.sent b.pilots) (if_true _ _ u)
      (never (λ i l. last_or_before (λ (i : ℕ). is_sent h i ≡ false) {i = i} {k = k} (omega arith) (ap not u) (λ m. f i m)) s p)
  sent_next_lem k true u (last i q s p) =
      subst (λ (b : Books). LastSent h (suc k) b.sent b.pilots) (if_true _ _ u)
      (last i (record {
        before = omega (arith, q.before);
        sent = q.sent;
        none_since =
            λ j a b. last_or_before (λ (j : ℕ). i < j → is_sent h j ≡ false) {i = j} {k = k} (omega arith) (λ _. ap not u) (λ m c. q.none_since j c m) a;
      }) s p)
  sent_next_lem k false u p =
      subst (λ (b : Books). LastSent h (suc k) b.sent b.pilots) (if_false _ _ u)
      (last k (record { before = le_refl (suc k); sent = ap not u; none_since = λ j a b. absurd (let z : ⊥ = omega arith in z) }) refl refl)

  sent_last : {n : ℕ} → Accepted h n → (k : ℕ) → k ≤ n → LastSent h k (state_at h k).sent (state_at h k).pilots
  unfolding state_at next_state
  sent_last a zero l = let b = starts h.settings in never (λ i m. absurd (not-suc-le-zero m)) b.sent b.pilots
  sent_last a (suc k) l =
      subst (λ (st : State). LastSent h (suc k) st.sent st.pilots) (sym (next_is h k (a k l)))
      (sent_next_lem k (opens_uplink (h.slot k)) refl (sent_last a k (omega arith)))

  -- ---- whether the row before was limited

  -- an answer's state tells
  told : (t : Bool) → t ≡ lt_z (pos 1) (sent_state t)
  told true = refl
  told false = refl

  pub limited_now : (k : ℕ) → accepted (stepped_at h k) ≡ true → (up : Bool) → opens_uplink (h.slot k) ≡ up → (books_on h k).limited ≡ is_limited h k
  unfolding resting gap_answer sent_answer
  limited_now k a true u =
      sym (ap (λ (b : Books). b.limited) (if_true _ _ u)) ∙ sym (ap (λ (x : Answer). lt_z (pos 1) x.state) (gap_answer_lem h k a u))
  limited_now k a false u =
      sym (ap (λ (b : Books). b.limited) (if_false _ _ u)) ∙ told _ ∙ sym (ap (λ (x : Answer). lt_z (pos 1) x.state) (sent_answer_lem h k a u))

  was_limited : {n : ℕ} → Accepted h n → (k : ℕ) → k ≤ n → (state_at h k).limited ≡ limited_before h k
  unfolding state_at next_state limited_before
  was_limited a zero l = (starts h.settings).limited
  was_limited a (suc k) l = ap (λ (st : State). st.limited) (next_is h k (a k l)) ∙ limited_now k (a k l) (opens_uplink (h.slot k)) refl

  pub slots_said : {n : ℕ} → Accepted h n → (k : ℕ) → k ≤ n → SlotsSaid h k
  slots_said a k l =
      let w = walks a k l in
      let gaps = gaps_of h.slot in
      let c : command_on h k ≡ said_command (commands_on h) (downs h) (recoveries h) h.settings.pca h.settings.links k =
      rw (down_is k, recovery_is w, w.row, w.set) (command_said (commands_on h) (downs h) (recoveries h) h.settings.pca h.settings.links k) in
      record {
        row = w.row;
        run = subst (Stands (gaps_of h.slot) k) (sym w.run) (run_stands (gaps_of h.slot) k);
        set = w.set ∙ set_said (commands_on h) (downs h) (recoveries h) k;
        opening = opens a k l;
        last_sent = sent_last a k l;
        limited = was_limited a k l;
        here = ap (here_of h.settings.rpp (h.slot k)) (kind_is w);
        recovery = (
          λ e. let q = (recovery_exactly h.settings.rpp (kind_at gaps k)).0 e in (q.0, (kind_is_meant gaps k Recovery).0 q.1),
          λ r. (recovery_exactly h.settings.rpp (kind_at gaps k)).1 (r.0, (kind_is_meant gaps k Recovery).1 r.1),
        );
        command = c;
        commanded = subst (Commanded (commands_on h) (downs h) (recoveries h) h.settings.pca h.settings.links k) (sym c)
            (commanded (commands_on h) (downs h) (recoveries h) h.settings.pca h.settings.links k);
      }
