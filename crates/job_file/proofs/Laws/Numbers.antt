-- The laws of the numbers of a file: what their bytes read as, and how the settings that they make are judged.
-- Assumes nothing.
use Prim.Native.Nat.{ℕ, suc, ◌+◌, ◌-◌, ◌*◌, ◌≤◌, ◌<◌}
use Rattle.std.specs.Prelude.{◌≡◌, Bool, true, false, not, List, ◌++◌, ℤ, pos, negsuc, neg_ℤ, ◌+ℤ◌, ◌-ℤ◌, length, get_or, ◌≤ℤ◌, ◌<ℤ◌, Option, Some, None, Ok}
use Rattle.std.specs.Option.{option_or}
use Rattle.std.proofs.Math.Path.{refl, ap, subst}
use Rattle.std.proofs.Common.{sym, ◌∙◌, zero-add, arith, lit≤, length-append, get_or-append-add}
use borrow.Author.Tests.{ltb-true, lt-ltb, le-ltb}
use Rattle.std.proofs.Math.Dec.{ltb}
use Rattle.std.proofs.Math.ListN.{get_or-append}
use Rattle.std.specs.Int.Signed.{le_z, lt_z}
use Rattle.ground.specs.Choice.{when◌then◌else◌}
use Rattle.ground.proofs.Laws.Choice.{alike, if_true, if_false, either}
use Rattle.ground.specs.Integers.{Within, within}
use Rattle.ground.proofs.Laws.Integers.Parts.{sum, dif, neg}
use Rattle.ground.proofs.Laws.Integers.Signs.{signs, within_yes, yes_within}
use Rattle.constants.specs.Sizes.{settings_bytes, gains_place, powers_place, record_bytes, power_least, start_most}
use Rattle.power.specs.declared.Triple.{Triple}
use Rattle.power.specs.Triples.{triple_fault}
use Rattle.gap_records.specs.declared.Sequence.{Sequence}
use Rattle.gap_records.specs.Records.{sequence_at, record_of}
use Rattle.gap_records.proofs.Laws.Records.{record_moved}
use Rattle.job_settings.specs.declared.Settings.{Settings}
use Rattle.job_settings.specs.Settings.{rule_fault, power_fault}
use Rattle.job_settings.specs.Gains.{triple_at}
use Rattle.job_settings.specs.Body.{twos_complement, settings_in, triple_in, from_place, settings_fault, body_fault, taken_by, settings_read}
use Rattle.job_settings.proofs.Laws.Body.{taken_in}
use Rattle.job_file.proofs.Laws.File.Little.{pair_back}
use Rattle.job_file.specs.Numbers.{signed_bits, settings_bytes_of, record_bytes_of, Held, SettingsHeld, RecordHeld}

-- ---- signed numbers

module _ (half : ℕ) (some : 1 ≤ half) where
  -- what the bits of a number read as
  abbrev back : ℤ → ℤ
  back z = twos_complement half (signed_bits half z)

  as_low : (n : ℕ) → n < half → pos n ≡ twos_complement half n
  unfolding twos_complement
  as_low n h = if_true _ _ (lt-ltb n half h)

  as_high : (n : ℕ) → half ≤ n → pos n -ℤ pos (2 * half) ≡ twos_complement half n
  unfolding twos_complement
  as_high n h = if_false _ _ (le-ltb n half h)

  -- those of a number by its sign and its size
  pub bits_plain : (n : ℕ) → n < half → n ≡ signed_bits half (pos n)
  unfolding signed_bits
  bits_plain n h = if_true _ _ (lt-ltb n half h)

  pub bits_over : (n : ℕ) → half ≤ n → half - 1 ≡ signed_bits half (pos n)
  unfolding signed_bits
  bits_over n h = if_false _ _ (le-ltb n half h)

  pub bits_turned : (n : ℕ) → n < half → 2 * half - suc n ≡ signed_bits half (negsuc n)
  unfolding signed_bits
  bits_turned n h = if_true _ _ (lt-ltb n half h)

  pub bits_under : (n : ℕ) → half ≤ n → half ≡ signed_bits half (negsuc n)
  unfolding signed_bits
  bits_under n h = if_false _ _ (le-ltb n half h)

  read_back : (z : ℤ) (n : ℕ) {y : ℤ} → n ≡ signed_bits half z → y ≡ twos_complement half n → back z ≡ y
  read_back z n e f = ap (λ (n : ℕ). twos_complement half n) (sym e) ∙ sym f

  -- one that can be held is read back as it is
  pub signed_back : (z : ℤ) → Held half z → back z ≡ z
  signed_back (pos n) h =
      let l : n < half = omega (signs, h.high) in
      read_back (pos n) n (bits_plain n l) (as_low n l)
  signed_back (negsuc n) h =
      let l : n < half = omega (signs, h.low, sum (negsuc n) (pos half)) in
      let m = 2 * half - suc n in
      let e : negsuc n ≡ pos m -ℤ pos (2 * half) = omega (signs, dif (pos m) (pos (2 * half))) in
      read_back (negsuc n) m (bits_turned n l) (e ∙ as_high m (omega arith))

  -- one above as the greatest that can, one below as the least
  pub signed_above : (z : ℤ) → pos half ≤ℤ z → back z ≡ pos (half - 1)
  signed_above (pos n) h = read_back (pos n) (half - 1) (bits_over n (omega (signs, h))) (as_low (half - 1) (omega arith))
  signed_above (negsuc n) h = let z : ⊥ = omega (signs, h) in absurd z

  pub signed_beneath : (z : ℤ) → (z +ℤ pos half) <ℤ pos 0 → back z ≡ neg_ℤ (pos half)
  signed_beneath (pos n) h = let z : ⊥ = omega (signs, h, sum (pos n) (pos half)) in absurd z
  signed_beneath (negsuc n) h =
      let e : neg_ℤ (pos half) ≡ pos half -ℤ pos (2 * half) = omega (signs, dif (pos half) (pos (2 * half)), neg (pos half)) in
      read_back (negsuc n) half (bits_under n (omega (signs, h, sum (negsuc n) (pos half)))) (e ∙ as_high half (omega arith))

  -- the bits are as many as two halves have
  pub signed_below : (z : ℤ) → signed_bits half z < 2 * half
  unfolding signed_bits
  signed_below (pos n) =
      either (λ (m : ℕ). m < 2 * half) (ltb n half) (λ e. let h = ltb-true n half e in omega arith) (λ e. omega arith)
  signed_below (negsuc n) = either (λ (m : ℕ). m < 2 * half) (ltb n half) (λ e. omega arith) (λ e. omega arith)

-- ---- a start power that two bytes do not hold

-- the range that is asked for is one that two bytes hold
in_two_bytes : (z : ℤ) → Within power_least start_most z → Held 32768 z
in_two_bytes z w = record { low = omega (signs, w.low, sum z (pos 32768)); high = omega (signs, w.high) }

-- so that one that they do not hold is outside of it, as the nearest that they do is
-- DECISIONS: writing-nearest
outside_two : (z : ℤ) → (Held 32768 z → ⊥) → within power_least start_most z ≡ false
outside_two z f = alike (within power_least start_most z) false (λ t. absurd (f (in_two_bytes z (within_yes power_least start_most z t)))) (λ _. refl)

range_same : (z : ℤ) → within power_least start_most (twos_complement 32768 (signed_bits 32768 z)) ≡ within power_least start_most z
range_same z = by (le_z (pos 32768) z) (lt_z (z +ℤ pos 32768) (pos 0)) refl refl
  where
    by : (a b : Bool) → le_z (pos 32768) z ≡ a → lt_z (z +ℤ pos 32768) (pos 0) ≡ b →
        within power_least start_most (twos_complement 32768 (signed_bits 32768 z)) ≡ within power_least start_most z
    by true b e f =
        ap (within power_least start_most) (signed_above 32768 (lit≤ tt) z (omega (signs, e)))
        ∙ sym (outside_two z (λ h. let y : ⊥ = omega (signs, e, h.high) in y))
    by false true e f =
        ap (within power_least start_most) (signed_beneath 32768 (lit≤ tt) z (omega (signs, f)))
        ∙ sym (outside_two z (λ h. let y : ⊥ = omega (signs, f, h.low) in y))
    by false false e f = ap (within power_least start_most) (signed_back 32768 (lit≤ tt) z (record { low = omega (signs, f); high = omega (signs, e) }))

-- ---- the settings

module _ (s : Settings) (t : Triple) where
  abbrev body : List ℕ
  body = settings_bytes_of s t

  pub settings_length : length body ≡ settings_bytes
  unfolding settings_bytes_of
  settings_length = refl

  -- the numbers that are read, whatever the powers are
  abbrev read : Settings
  read = record {
    pca = s.pca;
    step = s.step;
    itp = s.itp;
    rpp = s.rpp;
    links = s.links;
    maximum = twos_complement 128 (signed_bits 128 s.maximum);
    start = twos_complement 32768 (signed_bits 32768 s.start);
  }

  settings_read_lem : settings_in body ≡ read
  unfolding settings_bytes_of settings_in
  settings_read_lem =
      let e = pair_back (signed_bits 32768 s.start) (signed_below 32768 (lit≤ tt) s.start) in
      λ i. record {
        pca = s.pca;
        step = s.step;
        itp = s.itp;
        rpp = s.rpp;
        links = s.links;
        maximum = twos_complement 128 (signed_bits 128 s.maximum);
        start = twos_complement 32768 (e i);
      }

  pub settings_back : SettingsHeld s → settings_in body ≡ s
  settings_back h =
      let m = signed_back 128 (lit≤ tt) s.maximum h.maximum in
      let p = signed_back 32768 (lit≤ tt) s.start h.start in
      settings_read_lem
      ∙ (λ i. record { pca = s.pca; step = s.step; itp = s.itp; rpp = s.rpp; links = s.links; maximum = m i; start = p i })

  pub triple_back : triple_in body ≡ t
  unfolding settings_bytes_of triple_at
  triple_back = refl

  abbrev at : Option ℕ
  at = settings_fault s t 0

  -- the bytes break a rule where the numbers do
  rules_same : rule_fault read ≡ rule_fault s
  unfolding rule_fault
  rules_same = refl

  powers_same : Held 128 s.maximum → power_fault read 0 ≡ power_fault s 0
  unfolding power_fault
  powers_same h =
      let begun : Bool = within power_least start_most read.start in
      ap (λ (m : ℤ). when not (within (negsuc 49) (pos 33) m) then Some 0 else when ltb 0 0 then Some 1 else when not begun then Some 2 else None)
      (signed_back 128 (lit≤ tt) s.maximum h)
      ∙ ap (λ (b : Bool). when not (within (negsuc 49) (pos 33) s.maximum) then Some 0 else when ltb 0 0 then Some 1 else when not b then Some 2 else None)
      (range_same s.start)

  fault_same : Held 128 s.maximum → body_fault body ≡ at
  unfolding settings_bytes_of settings_fault
  fault_same h =
      (λ i. settings_fault (settings_read_lem i) (triple_back i) 0)
      ∙ ap (λ (o : Option ℕ). option_or (option_or o (from_place gains_place (triple_fault t))) (from_place powers_place (power_fault read 0)))
      rules_same
      ∙ ap (λ (o : Option ℕ). option_or (option_or (rule_fault s) (from_place gains_place (triple_fault t))) (from_place powers_place o))
      (powers_same h)

  -- and where they break none, the start power was held
  good_back : Held 128 s.maximum → body_fault body ≡ None → settings_in body ≡ s
  unfolding settings_bytes_of settings_read
  good_back h e =
      let taken = (taken_in body (ap (λ (o : Option ℕ). taken_by o (settings_in body)) e)).settings.start in
      let ranged : Within power_least start_most (twos_complement 32768 (signed_bits 32768 s.start)) =
      subst (Within power_least start_most) (ap (λ (x : Settings). x.start) settings_read_lem) taken in
      let w = within_yes power_least start_most s.start (sym (range_same s.start) ∙ yes_within ranged) in
      settings_back (record { maximum = h; start = in_two_bytes s.start w })

  taken_same : Held 128 s.maximum → (o : Option ℕ) → body_fault body ≡ o → taken_by o (settings_in body) ≡ taken_by o s
  taken_same h (Some n) e = refl
  taken_same h None e = ap Ok (good_back h e)

  pub settings_judged : Held 128 s.maximum → settings_read body ≡ taken_by at s
  unfolding settings_bytes_of settings_read
  settings_judged h = taken_same h (body_fault body) refl ∙ ap (λ (o : Option ℕ). taken_by o s) (fault_same h)

-- ---- a gap record

module _ (q : Sequence) where
  pub record_length : length (record_bytes_of q) ≡ record_bytes
  unfolding record_bytes_of
  record_length = refl

  pub record_back : RecordHeld q → sequence_at (record_bytes_of q) 0 ≡ q
  unfolding record_bytes_of sequence_at
  record_back h =
      let a = pair_back q.tgprc h.tgprc in
      let b = pair_back q.tgd h.tgd in
      let c = pair_back q.start h.start in
      λ i. record {
        id = q.id;
        direction = q.direction;
        tgsn = q.tgsn;
        tgl1 = q.tgl1;
        tgl2 = q.tgl2;
        tgpl = q.tgpl;
        tgprc = a i;
        tgd = b i;
        start = c i;
      }

  -- also where it stands among others
  pub record_among : (before after : List ℕ) (k : ℕ) → length before ≡ record_bytes * k → RecordHeld q →
      record_of (before ++ record_bytes_of q ++ after) k ≡ q
  record_among before after k e h =
      record_moved (before ++ record_bytes_of q ++ after) (record_bytes_of q) (record_bytes * k) 0
      (λ j l.
      ap (λ (m : ℕ). get_or (before ++ record_bytes_of q ++ after) (m + j) 0) (sym e)
      ∙ get_or-append (before ++ record_bytes_of q) after 0 (length before + j) (omega (arith, length-append before (record_bytes_of q), record_length))
      ∙ get_or-append-add before (record_bytes_of q) j 0
      ∙ ap (λ (m : ℕ). get_or (record_bytes_of q) m 0) (sym (zero-add j)))
      ∙ record_back h
