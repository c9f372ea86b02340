-- A job that is taken: its bodies are the file's own bytes, and its records are all the records of body 2.
-- Assumes nothing.
use Rattle.std.specs.Prelude.{ℕ, ◌+◌, ◌-◌, ◌*◌, ◌/◌, ◌≤◌, ◌<◌, ◌≡◌, refl, ◌↔◌, Bool, true, List, length, get_or, take, drop, Ok}
use Rattle.std.proofs.Common.{sym, ◌∙◌, ap, ap₂, subst, arith, length-drop, length-take-le, get_or-take, get_or-drop}
use Rattle.std.proofs.Math.Logic.Iff.{trans as iff_trans}
use Rattle.constants.specs.Sizes.{settings_bytes, gains_place, triple_bytes, record_bytes, row_bytes}
use Rattle.power.specs.Triples.{TripleIn}
use Rattle.gap_records.specs.declared.Sequence.{Sequence}
use Rattle.gap_records.specs.Records.{sequence_at, record_of, RecordsFine, Taken}
use Rattle.gap_records.proofs.Laws.Records.{record_moved}
use Rattle.gap_slots.specs.Slots.{uplink, downlink, InGap, MakesBy, Makes}
use Rattle.gap_slots.proofs.Laws.Slots.{uplink_exactly, downlink_exactly, uplink_ids, downlink_ids, uplink_below, downlink_below}
use Rattle.job_settings.specs.declared.Settings.{Settings}
use Rattle.job_contents.specs.declared.Bodies.{Bodies}
use Rattle.job_contents.specs.Contents.{second, Lies, Whole}
use Rattle.job_contents.proofs.Laws.Contents.{contents_exactly, contents_lie, contents_whole}
use Rattle.job_settings.specs.Body.{gains_in}
use Rattle.job_settings.proofs.Laws.Body.{read_exactly, taken_in}
use Rattle.job_settings.specs.Gains.{triple_at}
use Rattle.job_settings.proofs.Laws.Gains.{body_part}
use Rattle.job.specs.Load.{Loaded}
use Rattle.job.specs.Load.{part, settings_body, gains_body, records_body, rows_body, row_count, loaded_of, OnJob, LoadSays}
use Rattle.job.specs.Theorems.{Own, record_place, MakesInBy, MakesIn, AllRecords, Takes}
use Rattle.job.proofs.Laws.Theorems.Loads.{load_exactly}

-- a part is the file's own bytes
pub part_own : (job : List ℕ) (start end : ℕ) {size : ℕ} → end ≡ start + size → end ≤ length job → Own job start size (part job start end)
part_own job start end {size} e h =
    let n : end - start ≡ size = omega arith in
    record {
      its_length = length-take-le (end - start) (drop start job) (rw (length-drop start job) (omega arith)) ∙ n;
      its_byte = λ i l. get_or-take (end - start) (drop start job) i 0 (omega arith) ∙ get_or-drop start job i 0;
    }

module _ {job : List ℕ} {b : Bodies} (whole : Whole job) (lies : Lies job b) where
  settings_own : Own job b.settings settings_bytes (settings_body job b)
  settings_own = part_own job b.settings b.records lies.settings (omega (arith, lies.records, lies.rows))

  gains_own : Own job b.gains triple_bytes (gains_body job b)
  gains_own = part_own job b.gains (b.gains + triple_bytes) refl (omega (arith, lies.triple, lies.records, lies.rows))

  -- the triple of the settings is a part of the file
  gains_part : gains_in (settings_body job b) ≡ gains_body job b
  gains_part =
      let n : b.records - b.settings ≡ settings_bytes = omega (arith, lies.settings) in
      let m : b.gains + triple_bytes - b.gains ≡ triple_bytes = omega arith in
      ap (λ (k : ℕ). take triple_bytes (drop gains_place (take k (drop b.settings job)))) n
      ∙ body_part triple_bytes gains_place settings_bytes b.settings job (omega arith)
      ∙ ap₂ (λ (k at : ℕ). take k (drop at job)) (sym m) (sym lies.gains)

  -- how many records the second body has, by the length that its entry states
  abbrev count : ℕ
  count = (second job).length / record_bytes

  stated : (second job).length ≡ record_bytes * count
  stated = omega (arith, whole.second_right.whole)

  records_own : Own job b.records (record_bytes * count) (records_body job b)
  records_own =
      part_own job b.records b.rows (lies.records ∙ ap (λ (n : ℕ). b.records + n) stated) (omega (arith, lies.rows))

  rows_own : Own job b.rows (row_bytes * row_count job b) (rows_body job b)
  rows_own = part_own job b.rows (length job) (omega (arith, lies.rows, whole.third_right.even)) (omega arith)

  each : (i : ℕ) → i < count → record_of (records_body job b) i ≡ sequence_at job (record_place b i)
  each i h =
      record_moved (records_body job b) job (record_bytes * i) (record_place b i)
      (λ j l. records_own.its_byte (record_bytes * i + j) (omega arith) ∙ ap (λ (n : ℕ). get_or job n 0) (omega arith))

  -- an id puts a slot into a gap by some record of the body exactly where it does by some record of the file
  opens_by : (direction : Sequence → Bool) (slot id : ℕ) → MakesBy direction (records_body job b) slot id ↔ MakesInBy job b count direction slot id
  opens_by direction slot id = (
    λ m. let h : m.which < count = omega (arith, m.whole, records_own.its_length) in
        record {
          which = m.which;
          among = h;
          named = subst (λ (q : Sequence). q.id ≡ id) (each m.which h) m.named;
          direct = subst (λ (q : Sequence). direction q ≡ true) (each m.which h) m.direct;
          gap = subst (λ (q : Sequence). InGap q slot) (each m.which h) m.gap;
        },
    λ o. let e = sym (each o.which o.among) in
        record {
          which = o.which;
          whole = omega (arith, o.among, records_own.its_length);
          named = subst (λ (q : Sequence). q.id ≡ id) e o.named;
          direct = subst (λ (q : Sequence). direction q ≡ true) e o.direct;
          gap = subst (λ (q : Sequence). InGap q slot) e o.gap;
        },
  )

  -- and so does some id, which is from 1 to 6 where the records are fine
  opens : RecordsFine (records_body job b) count → (direction : Sequence → Bool) (slot : ℕ) →
      Makes direction (records_body job b) slot ↔ MakesIn job b count direction slot
  opens fine direction slot = (
    λ m. record { id = m.id; by = (opens_by direction slot m.id).0 m.by },
    λ o. let r = (fine.each o.by.which o.by.among).id in
        let n = ap (λ (q : Sequence). q.id) (each o.by.which o.by.among) ∙ o.by.named in
        record { id = o.id; least = omega (arith, r.0, n); most = omega (arith, r.1, n); by = (opens_by direction slot o.id).1 o.by },
  )

  all : {n : ℕ} → Taken (records_body job b) n → AllRecords job b n
  all {n} t =
      let e : n ≡ count = omega (arith, t.all, records_own.its_length) in
      let fine = subst (RecordsFine (records_body job b)) e t.fine in
      subst (AllRecords job b) (sym e)
      (record {
        stated = stated;
        few = omega (arith, e, t.few);
        own = records_own;
        counted = sym t.all ∙ e;
        each = each;
        fine = fine;
        up = λ slot. iff_trans (uplink_exactly (records_body job b) slot) (opens fine uplink slot);
        down = λ slot. iff_trans (downlink_exactly (records_body job b) slot) (opens fine downlink slot);
        up_ids = λ slot. record {
          each = λ id h l. iff_trans (uplink_ids (records_body job b) slot id h l) (opens_by uplink slot id);
          small = uplink_below (records_body job b) slot;
        };
        down_ids = λ slot. record {
          each = λ id h l. iff_trans (downlink_ids (records_body job b) slot id h l) (opens_by downlink slot id);
          small = downlink_below (records_body job b) slot;
        };
      })

-- a claim on a job that is taken, from what a load says of the file
taking : {job : List ℕ} {l : Loaded} → LoadSays job l → OnJob (Takes job) l
unfolding OnJob
taking (LoadSays.contents w) = tt
taking (LoadSays.settings w x) = tt
taking (LoadSays.records w x y) = tt
taking (LoadSays.rows w x y h) = tt
taking {job} (LoadSays.taken {b} {s} {n} w x y h) =
    let e = (contents_exactly job (Ok b)).1 w in
    let whole = contents_whole job e in
    let lies = contents_lie job e in
    let read = taken_in (settings_body job b) ((read_exactly (settings_body job b) (Ok s)).1 x) in
    record {
      found = e;
      lies = lies;
      settings = read.own;
      settings_own = settings_own whole lies;
      ranged = read.settings;
      gains_own = gains_own whole lies;
      triple = subst (λ (l : List ℕ). TripleIn (triple_at l 0)) (gains_part whole lies) read.triple;
      count = n;
      all = all whole lies y;
      rows_own = rows_own whole lies;
      rows_few = h;
    }

-- every job that is taken
pub takes : (job : List ℕ) {s : Settings} {b : Bodies} → loaded_of job ≡ Ok (s, b) → Takes job s b
unfolding OnJob
takes job e = subst (OnJob (Takes job)) e (taking ((load_exactly job (loaded_of job)).0 refl))
