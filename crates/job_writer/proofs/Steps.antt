-- What the proofs share: pieces stored one after the other, and the ends of a writing.
-- Assumes nothing.
use Rattle.std.proofs.Common.{Ok, Err}
use Prim.Native.Nat.{ℕ, ◌+◌, ◌-◌, ◌≤◌, ◌<◌}
use mathlib.Core.Path.{◌≡◌, refl, sym, ap, ◌∙◌}
use mathlib.Core.Bool.{Bool, false}
use mathlib.Core.List.{List, [], ◌∷◌, ◌++◌, append_assoc}
use native.Mathlib.Nat.{zero-add}
use native.Mathlib.Omega.{arith}
use borrow.Author.Tests.{ltb-false}
use borrow.Rule.Slice.PartMut.{put_mid}
use lib.Dec.{ltb}
use lib.ListN.{length, take, drop, length-append}
use lib.Seq.{sets, sets-eq, drop-drop}
use Rattle.ground.specs.declared.Refusal.{Refusal}
use Rattle.ground.proofs.Laws.Lists.{sets_append}
use Rattle.constants.specs.Sizes.{file_most, contents_bytes}
use Rattle.constants.specs.Refusals.{refusal, short_bytes}
use Rattle.job_contents.specs.declared.Bodies.{Bodies}
use Rattle.job_settings.specs.declared.Settings.{Settings}
use Rattle.job.specs.Load.{loaded_of}
use Rattle.job_file.specs.File.{entry_bytes, contents_for, file_of, file_size}
use Rattle.job_writer.specs.Writing.{ended, WriteTold}
use Rattle.job_writer.proofs.Laws.Theorems.Said.{taken_right, refused_made, short_made, file_made, write_told}

-- ---- parts that are not too long

-- what the answer says of the sums
pub sum_fits : (settings records rows : ℕ) {b : Bool} → b ≡ ltb file_most (contents_bytes + settings + records + rows) → b ≡ false →
    contents_bytes + settings + records + rows ≤ file_most
sum_fits settings records rows e f = ltb-false file_most (contents_bytes + settings + records + rows) (sym e ∙ f)

-- ---- bytes in a buffer

-- a copy into so many bytes from a place on
pub copied : (out bytes : List ℕ) (at : ℕ) {after : List ℕ} → at + length bytes ≤ length out → after ≡ bytes →
    put_mid at (at + length bytes - at) out after ≡ sets out at bytes
copied out bytes at h e =
    let n : at + length bytes - at ≡ length bytes = omega arith in
    rw (e, n, drop-drop (length bytes) at out)
    (sym (append_assoc (take at out) bytes (drop (at + length bytes) out)) ∙ sym (sets-eq bytes out at h))

-- a piece stored where the one before it ends
joined : (out : List ℕ) {one two : List ℕ} (first second : List ℕ) {place : ℕ} → place ≡ length first → one ≡ sets out 0 first →
    two ≡ sets one place second → two ≡ sets out 0 (first ++ second)
joined out first second n e f = f ∙ (λ i. sets (e i) ((n ∙ sym (zero-add (length first))) i) second) ∙ sym (sets_append out 0 first second)

-- the contents, entry by entry
pub head_stored : (kind settings records rows : ℕ) (out : List ℕ) {a b c d : List ℕ} → a ≡ sets out 0 (kind ∷ 3 ∷ []) →
    b ≡ sets a 2 (entry_bytes 1 contents_bytes settings) → c ≡ sets b 11 (entry_bytes 2 (contents_bytes + settings) records) →
    d ≡ sets c 20 (entry_bytes 3 (contents_bytes + settings + records) rows) → d ≡ sets out 0 (contents_for kind settings records rows)
unfolding contents_for
head_stored kind settings records rows out e f g h =
    h
    ∙ ap (λ (l : List ℕ). sets l 20 (entry_bytes 3 (contents_bytes + settings + records) rows))
    (g
    ∙ ap (λ (l : List ℕ). sets l 11 (entry_bytes 2 (contents_bytes + settings) records))
    (f ∙ ap (λ (l : List ℕ). sets l 2 (entry_bytes 1 contents_bytes settings)) e))

-- the file, part by part
pub file_stored : (kind : ℕ) (settings records rows out : List ℕ) {a b c d : List ℕ} →
    a ≡ sets out 0 (contents_for kind (length settings) (length records) (length rows)) → b ≡ sets a contents_bytes settings →
    c ≡ sets b (contents_bytes + length settings) records → d ≡ sets c (contents_bytes + length settings + length records) rows →
    d ≡ sets out 0 (file_of kind settings records rows)
unfolding contents_for file_of
file_stored kind settings records rows out e f g h =
    let head = contents_for kind (length settings) (length records) (length rows) in
    let n : length (head ++ settings) ≡ contents_bytes + length settings = length-append head settings in
    let m : length (head ++ settings ++ records) ≡ contents_bytes + length settings + length records =
    length-append (head ++ settings) records ∙ ap (λ (k : ℕ). k + length records) n in
    let two = joined out head settings refl e f in
    let three = joined out (head ++ settings) records (sym n) two g in
    joined out (head ++ settings ++ records) rows (sym m) three h

-- ---- the ends of a writing, by what the load said

module _ (kind : ℕ) (settings records rows : List ℕ) where
  -- what is taken is not too long
  pub few : {x : Settings × Bodies} → Ok x ≡ loaded_of (file_of kind settings records rows) → file_size settings records rows ≤ file_most
  few {x = (s, b)} f = (taken_right kind settings records rows (sym f)).shaped.few

  module _ (out : List ℕ) where
    pub refused_end : {r : Refusal} → Err r ≡ loaded_of (file_of kind settings records rows) → WriteTold kind settings records rows out (Err r) out
    refused_end f = write_told kind settings records rows out (sym (refused_made kind settings records rows out (sym f)))

    pub short_end : {x : Settings × Bodies} → Ok x ≡ loaded_of (file_of kind settings records rows) → length out < file_size settings records rows →
        WriteTold kind settings records rows out (Err (refusal short_bytes (file_size settings records rows))) out
    short_end {x = (s, b)} f h = write_told kind settings records rows out (sym (short_made kind settings records rows out (sym f) h))

    pub file_end : {x : Settings × Bodies} {after : List ℕ} → Ok x ≡ loaded_of (file_of kind settings records rows) →
        file_size settings records rows ≤ length out → after ≡ sets out 0 (file_of kind settings records rows) →
        WriteTold kind settings records rows out (Ok (file_size settings records rows)) after
    file_end {x = (s, b)} f h g =
        write_told kind settings records rows out
        (ap (ended (Ok (file_size settings records rows))) g ∙ sym (file_made kind settings records rows out (sym f) h))
