-- The writer against the reader: it writes what is taken and refuses what is refused, and what is written reads back as the same parts.
-- Assumes nothing.
use Rattle.std.specs.Prelude.{ℕ, ◌+◌, ◌-◌, ◌≤◌, ◌<◌, ◌≡◌, refl, ◌↔◌, Bool, true, false, List, ◌++◌, ltb, length, take, drop, Ok, Err, Result}
use Rattle.std.proofs.Common.{sym, ap, ◌∙◌, subst, append-nil, zero-add, arith, ltb-true, ltb-false, length-drop, drop_of_length-le, take_at, drop_at, take_all}
use Rattle.std.proofs.lemmas.List.Edits.{sets, sets-eq}
use Rattle.ground.specs.declared.Refusal.{Refusal}
use Rattle.constants.specs.Sizes.{contents_bytes, settings_bytes}
use Rattle.constants.specs.Refusals.{refusal, too_many_rows, short_bytes}
use Rattle.job_contents.specs.Contents.{second}
use Rattle.job_contents.proofs.Laws.Contents.{contents_whole}
use Rattle.job.specs.Load.{Loaded}
use Rattle.job.specs.Load.{loaded_of, refusal_of}
use Rattle.job.proofs.Laws.Theorems.Loads.{load_exactly, load_number}
use Rattle.job.proofs.Laws.Theorems.Taking.{takes}
use Rattle.job_file.specs.File.{file_of, file_size, AllBytes}
use Rattle.job_file.proofs.Laws.File.{file_length, whole_file}
use Rattle.job_writer.specs.Writing.{End, ended, made_of, Right}
use Rattle.job_writer.proofs.Laws.Parts as parts
use Rattle.job_writer.specs.Theorems.{ReaderTakes, ReadsAs, RightFile}
use Rattle.job_writer.proofs.Laws.Theorems.Said.{right_taken, taken_right, refused_made, short_made, file_made}

-- ---- a buffer with a file at its beginning

pub front : (file out : List ℕ) → length file ≤ length out → sets out 0 file ≡ file ++ drop (length file) out
front file out h = rw (zero-add (length file)) at (sets-eq file out 0 (omega arith))

-- a file for which there is just room is all of it
pub filled : (file out : List ℕ) → length out ≡ length file → sets out 0 file ≡ file
filled file out e = front file out (omega arith) ∙ rw (drop_of_length-le out {i = length file} (omega arith), append-nil)

-- ---- the kinds of an answer

apart : {r : Refusal} {n : ℕ} → Err r ≡ Ok n → ⊥
apart e = let z : ◌≡◌ {A = ℕ} 0 1 = cc in omega arith

one_size : {m n : ℕ} → ◌≡◌ {A = Result ℕ Refusal} (Ok m) (Ok n) → m ≡ n
one_size e = cc

one_refusal : {r t : Refusal} → ◌≡◌ {A = Result ℕ Refusal} (Err r) (Err t) → r ≡ t
one_refusal e = cc

abbrev result : End → Result ℕ Refusal
result e = e.result

module _ (kind : ℕ) (settings records rows : List ℕ) where
  abbrev file : List ℕ
  file = file_of kind settings records rows

  abbrev size : ℕ
  size = file_size settings records rows

  -- ---- what is taken

  pub right_takes : Right kind settings records rows → ReaderTakes file
  right_takes h =
      record { its_settings = h.its_settings; bodies = parts.bodies kind settings records rows; loaded = right_taken kind settings records rows h }

  pub accepts : ReaderTakes file ↔ Right kind settings records rows
  accepts = (λ t. taken_right kind settings records rows t.loaded, right_takes)

  pub reads_back : ReaderTakes file → ReadsAs file settings records rows
  unfolding right_takes
  reads_back t =
      record {
        taken = right_takes (accepts.0 t);
        settings_back = parts.settings_back kind settings records rows;
        records_back = parts.records_back kind settings records rows;
        rows_back = parts.rows_back kind settings records rows;
      }

  -- ---- what is made is a refusal of the reader, 12, or the file

  refused_number : {r : Refusal} → loaded_of file ≡ Err r → r.number ≤ too_many_rows
  unfolding refusal_of
  refused_number {r} e = load_number file ((load_exactly file (Err r)).0 e)

  module _ (out : List ℕ) where
    abbrev made : End
    made = made_of kind settings records rows out

    by_made : (P : End → Type 0) → ((r : Refusal) → loaded_of file ≡ Err r → P (ended (Err r) out)) →
        (ReaderTakes file → length out < size → P (ended (Err (refusal short_bytes size)) out)) →
        (ReaderTakes file → size ≤ length out → P (ended (Ok size) (sets out 0 file))) → P made
    by_made P refused short written = by (loaded_of file) refl
      where
        in_room : (h : ReaderTakes file) (t : Bool) → ltb (length out) size ≡ t → P made
        in_room h true f =
            let less = ltb-true (length out) size f in subst P (sym (short_made kind settings records rows out h.loaded less)) (short h less)
        in_room h false f =
            let room = ltb-false (length out) size f in subst P (sym (file_made kind settings records rows out h.loaded room)) (written h room)

        by : (l : Loaded) → loaded_of file ≡ l → P made
        by (Err r) e = subst P (sym (refused_made kind settings records rows out e)) (refused r e)
        by (Ok (s, b)) e = in_room (record { its_settings = s; bodies = b; loaded = e }) (ltb (length out) size) refl

    pub writes : made.result ≡ Ok size ↔ ReaderTakes file × (size ≤ length out)
    writes = (
      by_made (λ m. m.result ≡ Ok size → ReaderTakes file × (size ≤ length out)) (λ r w e. absurd (apart e)) (λ h l e. absurd (apart e))
          (λ h l e. (h, l)),
      λ h. ap result (file_made kind settings records rows out h.0.loaded h.1),
    )

    pub refuses : (r : Refusal) → r.number ≤ too_many_rows → made ≡ ended (Err r) out ↔ loaded_of file ≡ Err r
    refuses r few = (
      by_made (λ m. m ≡ ended (Err r) out → loaded_of file ≡ Err r)
          (λ t w e. w ∙ ap Err (one_refusal (ap result e)))
          (λ h l e. let n = ap (λ (x : Refusal). x.number) (one_refusal (ap result e)) in let z : ⊥ = omega (arith, n) in absurd z)
          (λ h l e. absurd (apart (sym (ap result e)))),
      refused_made kind settings records rows out,
    )

    pub short : made ≡ ended (Err (refusal short_bytes size)) out ↔ ReaderTakes file × (length out < size)
    short = (
      by_made (λ m. m ≡ ended (Err (refusal short_bytes size)) out → ReaderTakes file × (length out < size))
          (λ r w e. let n = ap (λ (x : Refusal). x.number) (one_refusal (ap result e)) in let z : ⊥ = omega (arith, n, refused_number w) in absurd z)
          (λ h l e. (h, l)) (λ h l e. absurd (apart (sym (ap result e)))),
      λ h. short_made kind settings records rows out h.0.loaded h.1,
    )

    pub untouched : {r : Refusal} → made.result ≡ Err r → made.out ≡ out
    untouched {r} =
        by_made (λ m. m.result ≡ Err r → m.out ≡ out) (λ t w e. refl) (λ h l e. refl) (λ h l e. absurd (apart (sym e)))

    -- ---- what is written reads back

    at_file : {n : ℕ} → ◌≡◌ {A = Result ℕ Refusal} (Ok size) (Ok n) → length file ≡ n
    at_file e = file_length kind settings records rows ∙ one_size e

    pub written_read : {n : ℕ} → made.result ≡ Ok n → ReadsAs (take n made.out) settings records rows
    written_read {n} =
        by_made (λ m. m.result ≡ Ok n → ReadsAs (take n m.out) settings records rows) (λ r w e. absurd (apart e)) (λ h l e. absurd (apart e))
        (λ h l e. let f = at_file e in
        let all = front file out (omega (arith, file_length kind settings records rows)) in
        subst (λ (job : List ℕ). ReadsAs job settings records rows) (sym (ap (take n) all ∙ take_at file (drop (length file) out) n f))
        (reads_back h))

    pub rest_stays : {n : ℕ} → made.result ≡ Ok n → drop n made.out ≡ drop n out
    rest_stays {n} =
        by_made (λ m. m.result ≡ Ok n → drop n m.out ≡ drop n out) (λ r w e. absurd (apart e)) (λ h l e. absurd (apart e))
        (λ h l e. let f = at_file e in
        let all = front file out (omega (arith, file_length kind settings records rows)) in
        ap (drop n) all ∙ drop_at file (drop (length file) out) n f ∙ ap (λ (k : ℕ). drop k out) f)

-- ---- what is taken, written again

module _ (job : List ℕ) (bytes : AllBytes job) {settings records rows : List ℕ} (h : ReadsAs job settings records rows) where
  pub taken_written : file_of 1 settings records rows ≡ job
  taken_written =
      let t = takes job h.taken.loaded in
      let l = t.lies in
      let b = h.taken.bodies in
      let at_records : b.records ≡ contents_bytes + settings_bytes = omega (arith, l.first, l.settings) in
      let at_rows : b.rows ≡ contents_bytes + settings_bytes + (second job).length = omega (arith, at_records, l.records) in
      let of_settings : b.records - b.settings ≡ settings_bytes = omega (arith, l.settings) in
      let of_records : b.rows - b.records ≡ (second job).length = omega (arith, l.records) in
      let s : settings ≡ take settings_bytes (drop contents_bytes job) = sym h.settings_back ∙ (λ i. take (of_settings i) (drop (l.first i) job)) in
      let r : records ≡ take (second job).length (drop (contents_bytes + settings_bytes) job) =
      sym h.records_back ∙ (λ i. take (of_records i) (drop (at_records i) job)) in
      let w : rows ≡ drop (contents_bytes + settings_bytes + (second job).length) job =
      sym h.rows_back ∙ take_all (length job - b.rows) (drop b.rows job) (omega (arith, length-drop b.rows job)) ∙ (λ i. drop (at_rows i) job) in
      (λ i. file_of 1 (s i) (r i) (w i)) ∙ whole_file job bytes (contents_whole job t.found)

  taken_loaded : loaded_of (file_of 1 settings records rows) ≡ Ok (h.taken.its_settings, h.taken.bodies)
  taken_loaded = ap loaded_of taken_written ∙ h.taken.loaded

  pub taken_made : (out : List ℕ) → length job ≤ length out → made_of 1 settings records rows out ≡ ended (Ok (length job)) (sets out 0 job)
  taken_made out room =
      let f = taken_written in
      let n : file_size settings records rows ≡ length job = sym (file_length 1 settings records rows) ∙ ap length f in
      file_made 1 settings records rows out taken_loaded (omega arith) ∙ (λ i. ended (Ok (n i)) (sets out 0 (f i)))

  pub taken_filled : (out : List ℕ) → length out ≡ length job → made_of 1 settings records rows out ≡ ended (Ok (length job)) job
  taken_filled out e = taken_made out (omega arith) ∙ ap (ended (Ok (length job))) (filled job out e)

  -- and it is the file of right parts
  right_file : RightFile job
  right_file =
      record { settings = settings; records = records; rows = rows; right = taken_right 1 settings records rows taken_loaded; is = taken_written }

-- ---- what is taken is the file of right parts

pub is_file : (job : List ℕ) → AllBytes job → ReaderTakes job ↔ RightFile job
is_file job bytes = (
  λ t. right_file job bytes (record { taken = t; settings_back = refl; records_back = refl; rows_back = refl }),
  λ f. subst ReaderTakes f.is (right_takes 1 f.settings f.records f.rows f.right),
)
