-- The laws of the first body: it is refused exactly where a byte breaks its rule, at the first that does.
-- Assumes nothing.
mod Examples
mod Places
use Rattle.std.specs.Prelude.{ℕ, ◌+◌, ◌*◌, ◌≤◌, ◌<◌, ◌≡◌, refl, ◌↔◌, ◌⊎◌, List, Bool, true, false, ltb, pos, ◌-ℤ◌, length, get_or, Option, Some, None, Ok, Result}
use Rattle.std.specs.Option.{option_or}
use Rattle.std.proofs.Common.{sym, ◌∙◌, subst, inl, inr, arith, w8, w16}
use mir.Val.{to_z}
use Rattle.std.proofs.Math.Path.{ap}
use Rattle.std.proofs.Math.Nat.{le_antisymm}
use borrow.Author.Tests.{ltb-true, ltb-false, lt-ltb, le-ltb}
use Rattle.ground.proofs.Laws.OnAnswers.{one_answer}
use Rattle.ground.specs.Choice.{when◌then◌else◌}
use Rattle.ground.proofs.Laws.Integers.Parts.{sum, dif}
use Rattle.ground.proofs.Laws.Integers.Signs.{signs}
use Rattle.ground.proofs.Laws.Choice.{either, if_true, if_false}
use Rattle.ground.proofs.Laws.Choice.Faults.{FirstFault, UpTo, Named, none_met, first_fault}
use Rattle.constants.specs.Refusals.{wrong_settings}
use Rattle.constants.specs.Sizes.{settings_bytes, gains_place, powers_place}
use Rattle.power.specs.Triples.{triple_fault, TripleBreaks, TripleIn}
use Rattle.power.proofs.Laws.Triples.{triple_exactly, triple_first}
use Rattle.job_settings.specs.declared.Settings.{Settings}
use Rattle.job_settings.specs.Settings.{rule_fault, power_fault, SettingsIn, RuleBreaks, PowerBreaks}
use Rattle.job_settings.proofs.Laws.Settings.{fault_in}
use Rattle.job_settings.proofs.Laws.Settings.Faults.{rule_first, power_first}
use Rattle.job_settings.specs.Body.{twos_complement, IsSigned, settings_in, triple_in, from_place, settings_fault, body_fault}
use Rattle.job_settings.specs.Body.{OnGood, taken_by, settings_read, Broken, refusal_of, SettingsSay, SettingsTold}
use Rattle.ground.specs.declared.Refusal.{Refusal}

-- a signed number is in its range, and is the number of its bits or twice half less
pub signed_is : (half n : ℕ) → n < 2 * half → IsSigned half n (twos_complement half n)
unfolding twos_complement
signed_is half n l = by (ltb n half) refl
  where
    by : (t : Bool) → ltb n half ≡ t → IsSigned half n (when t then pos n else pos n -ℤ pos (2 * half))
    by true e =
        let k = ltb-true n half e in
        record { low = omega (signs, sum (pos n) (pos half)); high = omega signs; same = inl refl }
    by false e =
        let k = ltb-false n half e in
        let z = pos n -ℤ pos (2 * half) in
        let d = dif (pos n) (pos (2 * half)) in
        record { low = omega (signs, sum z (pos half), d); high = omega (signs, d); same = inr (omega (signs, sum z (pos (2 * half)), d)) }

-- a byte that breaks its rule is what is named
one_named : {Breaks : ℕ → Type 0} {k : ℕ} → Breaks k → Named Breaks (Some k)
one_named {Breaks} {k} b = record { broken = λ n p. let same : k ≡ n = cc in subst Breaks same b }

some_none : {n : ℕ} → Some n ≡ None → ⊥
some_none {n} e = cc

-- and std's reading of the bits of one byte and of two is the same number
pub signed_byte : (n : ℕ) → n < 256 → to_z w8 n ≡ twos_complement 128 n
unfolding twos_complement
signed_byte n l = by (ltb n 128) refl
  where
    by : (t : Bool) → ltb n 128 ≡ t → to_z w8 n ≡ (when ltb n 128 then pos n else pos n -ℤ pos 256)
    by true e = rw e
    by false e = let d = dif (pos n) (pos 256) in let k = ltb-false n 128 e in rw e (omega (signs, d))

pub signed_pair : (n : ℕ) → n < 65536 → to_z w16 n ≡ twos_complement 32768 n
unfolding twos_complement
signed_pair n l = by (ltb n 32768) refl
  where
    by : (t : Bool) → ltb n 32768 ≡ t → to_z w16 n ≡ (when ltb n 32768 then pos n else pos n -ℤ pos 65536)
    by true e = rw e
    by false e = let d = dif (pos n) (pos 65536) in let k = ltb-false n 32768 e in rw e (omega (signs, d))

-- of three parts of some bytes the first in which a byte breaks its rule names it: what holds by each part, the parts before
-- naming none, holds of what is named
by_parts : (Q : Option ℕ → Type 0) (one two three : Option ℕ) (k m : ℕ) → ((n : ℕ) → one ≡ Some n → Q (Some n)) →
    (one ≡ None → (n : ℕ) → two ≡ Some n → Q (Some (k + n))) →
    (one ≡ None → two ≡ None → (n : ℕ) → three ≡ Some n → Q (Some (m + n))) → (one ≡ None → two ≡ None → three ≡ None → Q None) →
    Q (option_or (option_or one (from_place k two)) (from_place m three))
by_parts Q (Some n) two three k m f g h i = f n refl
by_parts Q None (Some n) three k m f g h i = g refl n refl
by_parts Q None None (Some n) k m f g h i = h refl refl n refl
by_parts Q None None None k m f g h i = i refl refl refl

module _ (body : List ℕ) where
  abbrev s : Settings
  s = settings_in body

  -- the byte that is reported
  abbrev at : Option ℕ
  at = body_fault body

  -- of rules, triple and powers, each part with its own first byte
  abbrev rules : Option ℕ
  rules = rule_fault s

  abbrev of_triple : Option ℕ
  of_triple = triple_fault (triple_in body)

  abbrev powers : Option ℕ
  powers = power_fault s (get_or body 9 0)

  abbrev R : FirstFault (RuleBreaks s) 5 rules
  R = rule_first s

  abbrev T : FirstFault (TripleBreaks (triple_in body)) 3 of_triple
  T = triple_first (triple_in body)

  abbrev P : FirstFault (PowerBreaks s (get_or body 9 0)) 3 powers
  P = power_first s (get_or body 9 0)

  of_parts : (Q : Option ℕ → Type 0) → ((n : ℕ) → rules ≡ Some n → Q (Some n)) →
      (rules ≡ None → (n : ℕ) → of_triple ≡ Some n → Q (Some (gains_place + n))) →
      (rules ≡ None → of_triple ≡ None → (n : ℕ) → powers ≡ Some n → Q (Some (powers_place + n))) →
      (rules ≡ None → of_triple ≡ None → powers ≡ None → Q None) → Q at
  unfolding settings_fault
  of_parts Q f g h i = by_parts Q rules of_triple powers gains_place powers_place f g h i

  below : {n : ℕ} → Broken body n → n < settings_bytes
  below (Broken.rule b) = let h = R.below b in omega arith
  below (Broken.triple b) = let h = T.below b in omega arith
  below (Broken.power b) = let h = P.below b in omega arith

  -- none before it breaks its rule
  up_to : {n : ℕ} → Broken body n → UpTo n at
  up_to {n} (Broken.rule b) =
      of_parts (UpTo n) (λ k e. record { at = k; named = refl; up = R.least e b }) (λ e k _. absurd (R.none e b))
      (λ e _ k _. absurd (R.none e b)) (λ e _ _. absurd (R.none e b))
  up_to (Broken.triple {n} b) =
      of_parts (UpTo (gains_place + n))
      (λ k e. let h = R.below (R.broken e) in record { at = k; named = refl; up = omega arith })
      (λ _ k e. let h = T.least e b in record { at = gains_place + k; named = refl; up = omega arith })
      (λ _ e k _. absurd (T.none e b)) (λ _ e _. absurd (T.none e b))
  up_to (Broken.power {n} b) =
      of_parts (UpTo (powers_place + n))
      (λ k e. let h = R.below (R.broken e) in record { at = k; named = refl; up = omega arith })
      (λ _ k e. let h = T.below (T.broken e) in record { at = gains_place + k; named = refl; up = omega arith })
      (λ _ _ k e. let h = P.least e b in record { at = powers_place + k; named = refl; up = omega arith })
      (λ _ _ e. absurd (P.none e b))

  -- it does
  named : Named (Broken body) at
  named =
      of_parts (Named (Broken body)) (λ k e. one_named (Broken.rule (R.broken e))) (λ _ k e. one_named (Broken.triple (T.broken e)))
      (λ _ _ k e. one_named (Broken.power (P.broken e))) (λ _ _ _. none_met)

  pub first : FirstFault (Broken body) settings_bytes at
  first = first_fault (λ n b. below b) (λ n b. up_to b) named

  -- "start power at 10", never at its second byte
  begins : {n : ℕ} → Broken body n → n ≡ 11 → ⊥
  begins (Broken.rule b) e = let h = R.below b in omega arith
  begins (Broken.triple b) e = let h = T.below b in omega arith
  begins (Broken.power b) e = let h = P.below b in omega arith

  pub not_eleven : at ≡ Some 11 → ⊥
  not_eleven e = begins (first.broken e) refl

  -- where none does, every setting is in its range, and so is the triple
  none_in : at ≡ None → SettingsIn s × TripleIn (triple_in body)
  none_in =
      of_parts (λ o. o ≡ None → SettingsIn s × TripleIn (triple_in body))
      (λ k _ e. absurd (some_none e)) (λ _ k _ e. absurd (some_none e)) (λ _ _ k _ e. absurd (some_none e))
      (λ d e f _. (fault_in s (get_or body 9 0) d f, (triple_exactly (triple_in body)).0 e))

  -- ---- each answer is what it says

  taken_says : settings_bytes ≤ length body → (o : Option ℕ) → at ≡ o → SettingsSay body (taken_by o s)
  taken_says long (Some n) e = SettingsSay.broken long (first.broken e) (λ m b. first.least e b)
  taken_says long None e = SettingsSay.kept long (λ n b. first.none e b)

  pub says : SettingsSay body (settings_read body)
  unfolding settings_read
  says =
      either (SettingsSay body) (ltb (length body) settings_bytes) (λ e. SettingsSay.short (ltb-true (length body) settings_bytes e))
      (λ a. taken_says (ltb-false (length body) settings_bytes a) at refl)

  reported : {n : ℕ} → Broken body n → ((m : ℕ) → Broken body m → n ≤ m) → at ≡ Some n
  reported {n} b f =
      let u = up_to b in
      u.named ∙ ap (λ (m : ℕ). Some m) (le_antisymm u.up (f u.at (first.broken u.named)))

  unreported : ((n : ℕ) → Broken body n → ⊥) → at ≡ None
  unreported f = by at refl
    where
      by : (o : Option ℕ) → at ≡ o → at ≡ None
      by None e = e
      by (Some n) e = absurd (f n (first.broken e))

  answer : {r : Result Settings Refusal} → SettingsSay body r → r ≡ settings_read body
  unfolding settings_read
  answer (SettingsSay.short h) = if_true _ _ (lt-ltb (length body) settings_bytes h)
  answer (SettingsSay.broken h b f) =
      ap (λ (o : Option ℕ). taken_by o s) (sym (reported b f)) ∙ if_false _ _ (le-ltb (length body) settings_bytes h)
  answer (SettingsSay.kept h f) =
      ap (λ (o : Option ℕ). taken_by o s) (sym (unreported f)) ∙ if_false _ _ (le-ltb (length body) settings_bytes h)

  -- "3 … Given exactly when": each answer exactly where it says so of the body
  pub read_exactly : (r : Result Settings Refusal) → settings_read body ≡ r ↔ SettingsSay body r
  read_exactly r = (λ e. subst (SettingsSay body) e says, λ w. sym (answer w))

  -- so that the answer says what it promises, and no other answer is promised
  pub settings_number : {r : Result Settings Refusal} → SettingsSay body r → ((refusal_of r).number ≡ 0) ⊎ ((refusal_of r).number ≡ wrong_settings)
  settings_number (SettingsSay.short h) = inr refl
  settings_number (SettingsSay.broken h b f) = inr refl
  settings_number (SettingsSay.kept h f) = inl refl

  pub settings_told : {r : Result Settings Refusal} → r ≡ settings_read body → SettingsTold body r
  settings_told {r} e = let t = (read_exactly r).0 (sym e) in record { is = e; says = t; number = settings_number t }

  pub one_reading : {r t : Result Settings Refusal} → SettingsTold body r → SettingsTold body t → r ≡ t
  one_reading a b = one_answer a.is b.is

  pub one_said : {r t : Result Settings Refusal} → SettingsSay body r → SettingsSay body t → r ≡ t
  one_said {r} {t} a b = sym ((read_exactly r).1 a) ∙ (read_exactly t).1 b

  -- settings that are taken are the body's own, and in their ranges; and so is its triple
  pub record Taken (x : Settings) : Type 0 where
    pub own : x ≡ s
    pub settings : SettingsIn x
    pub triple : TripleIn (triple_in body)

  ranged : {r : Result Settings Refusal} → SettingsSay body r → OnGood Taken r
  ranged (SettingsSay.short h) = tt
  ranged (SettingsSay.broken h b f) = tt
  ranged (SettingsSay.kept h f) =
      let w = none_in (unreported f) in
      record { own = refl; settings = w.0; triple = w.1 }

  pub taken_in : {x : Settings} → settings_read body ≡ Ok x → Taken x
  taken_in e = subst (OnGood Taken) e (ranged says)
