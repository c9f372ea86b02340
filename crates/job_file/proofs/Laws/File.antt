-- The laws of the file that parts make: what its contents say, where its parts lie, and that every file whose contents are right is such a file.
-- Assumes nothing.
pub mod Little
use Prim.Native.Nat.{ℕ, zero, suc, ◌+◌, ◌%◌, ◌≤◌, ◌<◌}
use Rattle.std.specs.Prelude.{◌≡◌, get_or, Ok, Err, Result}
use Rattle.std.proofs.Math.Path.{refl, sym, ap}
use Rattle.std.proofs.Common.{◌∙◌, add-zero, arith, drop-cons, drop-drop}
use mathlib.Core.List.{List, [], ◌∷◌, ◌++◌, append_assoc}
use Rattle.std.proofs.Math.ListN.{length, take, drop, length-append, length-drop, take-append-drop}
use Rattle.std.proofs.Math.Seq.{length-take-le, take_at, drop_at}
use Rattle.constants.specs.Refusals.{refusal, file_too_long, wrong_contents}
use Rattle.constants.specs.Sizes.{file_most, contents_bytes, settings_bytes, record_bytes, row_bytes}
use Rattle.job_contents.specs.declared.Entry.{Entry}
use Rattle.job_contents.specs.Contents.{entry_at, first, second, third, contents_of, bodies_at, Headed, FirstRight, SecondRight, ThirdRight, Whole, ContentsSay}
use Rattle.job_contents.proofs.Laws.Contents.{contents_exactly}
use Rattle.job_file.specs.File.{entry_bytes, contents_for, file_of, file_size, Shaped, AllBytes}
use Rattle.job_file.proofs.Laws.File.Little.{quad_back, entry_own}
use Rattle.ground.specs.declared.Refusal.{Refusal}
use Rattle.job_contents.specs.declared.Bodies.{Bodies}

module _ (kind : ℕ) (settings records rows : List ℕ) where
  abbrev file : List ℕ
  file = file_of kind settings records rows

  abbrev contents : List ℕ
  contents = contents_for kind (length settings) (length records) (length rows)

  pub file_length : length file ≡ file_size settings records rows
  unfolding file_of contents_for
  file_length =
      omega (arith, length-append (contents ++ settings ++ records) rows, length-append (contents ++ settings) records, length-append contents settings)

  -- ---- what its contents say, for any parts

  -- each entry has its kind, where its body begins and how long it is
  record Says (e : Entry) (its_kind begin size : ℕ) : Type 0 where
    kinds : e.kind ≡ its_kind
    offsets : e.offset ≡ begin
    lengths : e.length ≡ size

  abbrev Few : Type 0
  Few = file_size settings records rows ≤ file_most

  one : Few → Says (first file) 1 contents_bytes (length settings)
  unfolding file_of contents_for entry_at
  one few = record { kinds = refl; offsets = refl; lengths = quad_back (length settings) (omega arith) }

  two : Few → Says (second file) 2 (contents_bytes + length settings) (length records)
  unfolding file_of contents_for entry_at
  two few = record {
    kinds = refl;
    offsets = quad_back (contents_bytes + length settings) (omega arith);
    lengths = quad_back (length records) (omega arith);
  }

  three : Few → Says (third file) 3 (contents_bytes + length settings + length records) (length rows)
  unfolding file_of contents_for entry_at
  three few = record {
    kinds = refl;
    offsets = quad_back (contents_bytes + length settings + length records) (omega arith);
    lengths = quad_back (length rows) (omega arith);
  }

  byte_0_is : get_or file 0 0 ≡ kind
  unfolding file_of contents_for
  byte_0_is = refl

  byte_1_is : get_or file 1 0 ≡ 3
  unfolding file_of contents_for
  byte_1_is = refl

  few_bytes : Few → length file ≤ file_most
  few_bytes few = omega (arith, file_length)

  head_right : kind ≡ 1 → Headed file
  head_right k = record { long = omega (arith, file_length); byte_0 = byte_0_is ∙ k; byte_1 = byte_1_is }

  first_right : Few → length settings ≡ settings_bytes → FirstRight file
  first_right few s =
      let e = one few in
      record {
        entry = record { its_kind = e.kinds; its_offset = e.offsets; inside = omega (arith, file_length, e.offsets, e.lengths) };
        twelve = e.lengths ∙ s;
      }

  second_right : Few → length records % record_bytes ≡ 0 → SecondRight file
  second_right few r =
      let d = one few in
      let e = two few in
      record {
        entry = record {
          its_kind = e.kinds;
          its_offset = omega (arith, d.offsets, d.lengths, e.offsets);
          inside = omega (arith, file_length, e.offsets, e.lengths);
        };
        whole = ap (λ (n : ℕ). n % record_bytes) e.lengths ∙ r;
      }

  third_right : Few → length rows % row_bytes ≡ 0 → ThirdRight file
  third_right few r =
      let d = two few in
      let e = three few in
      record {
        entry = record {
          its_kind = e.kinds;
          its_offset = omega (arith, d.offsets, d.lengths, e.offsets);
          inside = omega (arith, file_length, e.offsets, e.lengths);
        };
        even = ap (λ (n : ℕ). n % row_bytes) e.lengths ∙ r;
        last = omega (arith, file_length, e.offsets, e.lengths);
      }

  answers : {c : Result Bodies Refusal} → ContentsSay file c → contents_of file ≡ c
  answers {c} s = (contents_exactly file c).1 s

  pub file_over : file_most < file_size settings records rows → contents_of file ≡ Err (refusal file_too_long 0)
  file_over h = answers (ContentsSay.over (omega (arith, file_length)))

  pub file_kind : file_size settings records rows ≤ file_most → (kind ≡ 1 → ⊥) → contents_of file ≡ Err (refusal wrong_contents 0)
  file_kind few f = answers (ContentsSay.unheaded (few_bytes few) (λ h. f (sym byte_0_is ∙ h.byte_0)))

  pub file_settings : file_size settings records rows ≤ file_most → kind ≡ 1 → (length settings ≡ settings_bytes → ⊥) →
      contents_of file ≡ Err (refusal wrong_contents 1)
  file_settings few k f = answers (ContentsSay.first_wrong (few_bytes few) (head_right k) (λ h. f (sym (one few).lengths ∙ h.twelve)))

  pub file_records : file_size settings records rows ≤ file_most → kind ≡ 1 → length settings ≡ settings_bytes → (length records % record_bytes ≡ 0 → ⊥) →
      contents_of file ≡ Err (refusal wrong_contents 2)
  file_records few k s f =
      answers (ContentsSay.second_wrong (few_bytes few) (head_right k) (first_right few s)
      (λ h. f (ap (λ (n : ℕ). n % record_bytes) (sym (two few).lengths) ∙ h.whole)))

  pub file_rows_lem : file_size settings records rows ≤ file_most → kind ≡ 1 → length settings ≡ settings_bytes → length records % record_bytes ≡ 0 →
      (length rows % row_bytes ≡ 0 → ⊥) → contents_of file ≡ Err (refusal wrong_contents 3)
  file_rows_lem few k s r f =
      answers (ContentsSay.third_wrong (few_bytes few) (head_right k) (first_right few s) (second_right few r)
      (λ h. f (ap (λ (n : ℕ). n % row_bytes) (sym (three few).lengths) ∙ h.even)))

  pub file_found : Shaped kind settings records rows →
      contents_of file ≡ Ok (bodies_at (contents_bytes + length settings) (contents_bytes + length settings + length records))
  file_found h =
      let few = h.few in
      let d = one few in
      let e = two few in
      answers (ContentsSay.right (record {
        few = few_bytes few;
        headed = head_right h.its_kind;
        first_right = first_right few h.twelve;
        second_right = second_right few h.whole;
        third_right = third_right few h.even;
      }))
      ∙ (λ i. Ok (bodies_at (d.offsets i + d.lengths i) (e.offsets i + e.lengths i)))

  -- ---- where its parts lie

  before_rows : length (contents ++ settings ++ records) ≡ contents_bytes + length settings + length records
  unfolding contents_for
  before_rows = omega (arith, length-append (contents ++ settings) records, length-append contents settings)

  before_records : length (contents ++ settings) ≡ contents_bytes + length settings
  unfolding contents_for
  before_records = length-append contents settings

  pub settings_part : take (length settings) (drop contents_bytes file) ≡ settings
  unfolding file_of contents_for
  settings_part =
      ap (λ (l : List ℕ). take (length settings) l) (append_assoc settings records rows)
      ∙ take_at settings (records ++ rows) (length settings) refl

  pub records_part : take (length records) (drop (contents_bytes + length settings) file) ≡ records
  unfolding file_of
  records_part =
      ap (λ (l : List ℕ). take (length records) l)
      (ap (λ (l : List ℕ). drop (contents_bytes + length settings) l) (append_assoc (contents ++ settings) records rows)
      ∙ drop_at (contents ++ settings) (records ++ rows) (contents_bytes + length settings) before_records)
      ∙ take_at records rows (length records) refl

  pub rows_part_lem : drop (contents_bytes + length settings + length records) file ≡ rows
  unfolding file_of
  rows_part_lem = drop_at (contents ++ settings ++ records) rows (contents_bytes + length settings + length records) before_rows

-- ---- every file whose contents are right is the file of its own parts

-- so many bytes from a place on, written out
abbrev written : List ℕ → (n at : ℕ) → List ℕ
written l zero at = []
written l (suc n) at = get_or l at 0 ∷ written l n (suc at)

written_out : (l : List ℕ) (n at : ℕ) → at + n ≤ length l → written l n at ++ drop (at + n) l ≡ drop at l
written_out l zero at h = ap (λ (k : ℕ). drop k l) (add-zero at)
written_out l (suc n) at h =
    let e : at + suc n ≡ suc at + n = omega arith in
    ap (λ (k : ℕ). get_or l at 0 ∷ written l n (suc at) ++ drop k l) e
    ∙ ap (λ (r : List ℕ). get_or l at 0 ∷ r) (written_out l n (suc at) (omega arith))
    ∙ sym (drop-cons l at 0 (omega arith))

module _ (job : List ℕ) (bytes : AllBytes job) (w : Whole job) where
  abbrev nine : ℕ → List ℕ
  nine at =
      get_or job at 0 ∷ get_or job (at + 1) 0 ∷ get_or job (at + 1 + 1) 0 ∷ get_or job (at + 1 + 2) 0 ∷ get_or job (at + 1 + 3) 0 ∷ get_or job (at + 5) 0 ∷
      get_or job (at + 5 + 1) 0 ∷ get_or job (at + 5 + 2) 0 ∷ get_or job (at + 5 + 3) 0 ∷ []

  -- an entry is its nine bytes
  its_bytes : (at : ℕ) {its_kind begin size : ℕ} → (entry_at job at).kind ≡ its_kind → (entry_at job at).offset ≡ begin → (entry_at job at).length ≡ size →
      entry_bytes its_kind begin size ≡ nine at
  unfolding entry_at
  its_bytes at e f g =
      sym (λ i. entry_bytes (e i) (f i) (g i))
      ∙ entry_own (get_or job at 0) _ _ _ _ _ _ _ _ (bytes (at + 1)) (bytes (at + 1 + 1)) (bytes (at + 1 + 2)) (bytes (at + 1 + 3))
      (bytes (at + 5)) (bytes (at + 5 + 1)) (bytes (at + 5 + 2)) (bytes (at + 5 + 3))

  abbrev of_records : ℕ
  of_records = (second job).length

  abbrev of_rows : ℕ
  of_rows = (third job).length

  -- where the bodies begin, and that the last ends the file
  records_begin : (second job).offset ≡ contents_bytes + settings_bytes
  records_begin = omega (arith, w.first_right.entry.its_offset, w.first_right.twelve, w.second_right.entry.its_offset)

  rows_begin : (third job).offset ≡ contents_bytes + settings_bytes + of_records
  rows_begin = omega (arith, records_begin, w.third_right.entry.its_offset)

  ends : contents_bytes + settings_bytes + of_records + of_rows ≡ length job
  ends = omega (arith, rows_begin, w.third_right.last)

  head_is : contents_for 1 settings_bytes of_records of_rows ≡ written job contents_bytes 0
  unfolding contents_for
  head_is =
      let one = its_bytes 2 w.first_right.entry.its_kind w.first_right.entry.its_offset w.first_right.twelve in
      let two = its_bytes 11 w.second_right.entry.its_kind records_begin refl in
      let three = its_bytes 20 w.third_right.entry.its_kind rows_begin refl in
      λ i. sym w.headed.byte_0 i ∷ sym w.headed.byte_1 i ∷ one i ++ two i ++ three i

  abbrev its_settings : List ℕ
  its_settings = take settings_bytes (drop contents_bytes job)

  abbrev its_records : List ℕ
  its_records = take of_records (drop (contents_bytes + settings_bytes) job)

  abbrev its_rows : List ℕ
  its_rows = drop (contents_bytes + settings_bytes + of_records) job

  pub whole_file : file_of 1 (take settings_bytes (drop contents_bytes job)) (take (second job).length (drop (contents_bytes + settings_bytes) job))
      (drop (contents_bytes + settings_bytes + (second job).length) job) ≡ job
  unfolding file_of
  whole_file =
      let s : length its_settings ≡ settings_bytes =
      length-take-le settings_bytes (drop contents_bytes job) (omega (arith, ends, length-drop contents_bytes job)) in
      let r : length its_records ≡ of_records =
      length-take-le of_records (drop (contents_bytes + settings_bytes) job) (omega (arith, ends, length-drop (contents_bytes + settings_bytes) job)) in
      let l : length its_rows ≡ of_rows = omega (arith, ends, length-drop (contents_bytes + settings_bytes + of_records) job) in
      let head : List ℕ = written job contents_bytes 0 in
      (λ i. contents_for 1 (s i) (r i) (l i) ++ its_settings ++ its_records ++ its_rows)
      ∙ ap (λ (h : List ℕ). h ++ its_settings ++ its_records ++ its_rows) head_is
      ∙ append_assoc (head ++ its_settings) its_records its_rows
      ∙ ap (λ (t : List ℕ). head ++ its_settings ++ t)
      (ap (λ (t : List ℕ). its_records ++ t) (sym (drop-drop of_records (contents_bytes + settings_bytes) job))
      ∙ take-append-drop of_records (drop (contents_bytes + settings_bytes) job))
      ∙ append_assoc head its_settings (drop (contents_bytes + settings_bytes) job)
      ∙ ap (λ (t : List ℕ). head ++ t)
      (ap (λ (t : List ℕ). its_settings ++ t) (sym (drop-drop settings_bytes contents_bytes job)) ∙ take-append-drop settings_bytes (drop contents_bytes job))
      ∙ written_out job contents_bytes 0 w.headed.long
