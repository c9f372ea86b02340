-- The answer goes by the size of the lent bytes, and the file by the text alone.
-- Assumes nothing.
use Rattle.std.specs.Prelude.{ℕ, ◌+◌, ◌≤◌, ◌≡◌, refl, Bool, List, ltb, length, take, drop, Ok, Err, Result}
use Rattle.std.proofs.Common.{sym, ap, ◌∙◌, arith, ltb-false}
use Rattle.std.proofs.Math.Bool.{true, false}
use Rattle.std.proofs.lemmas.List.Edits.{sets, sets-eq}
use Rattle.std.proofs.Math.Seq.{take-append_seam}
use Rattle.ground.specs.declared.Refusal.{Refusal}
use Rattle.ground.specs.Choice.{when◌then◌else◌}
use Rattle.constants.specs.Sizes.{text_most}
use Rattle.constants.specs.Refusals.{refusal, short_bytes}
use Rattle.job.specs.Load.{Loaded}
use Rattle.job.specs.Load.{loaded_of}
use Rattle.job_file.specs.File.{file_of}
use Rattle.job_file.specs.Numbers.{settings_bytes_of}
use Rattle.job_writer.specs.Writing.{End as Writing, ended as endedWriting, placed, made_by, made_of}
use Rattle.compose_text.specs.Composing.{Read, all, unreadable, read_of, End, ended, by_writing, composed_by, composed_of}
use Rattle.compose_text.proofs.Laws.Theorems.OnAnswers.{unread_file, long_file, made_file}
use Rattle.compose_text.specs.declared.ComposeError.{ComposeError}

-- ---- the writer's

-- two writings with one answer and one file
record Alike (x y : Writing) : Type 0 where
  same : x.result ≡ y.result
  file : {size : ℕ} → x.result ≡ Ok size → take size x.out ≡ take size y.out

no_file : {r : Refusal} {size : ℕ} → Err r ≡ Ok size → ⊥
no_file e = let z : ◌≡◌ {A = ℕ} 0 1 = cc in omega arith

in_front : (file out : List ℕ) → length file ≤ length out → take (length file) (sets out 0 file) ≡ file
in_front file out h = rw (sets-eq file out 0 (omega arith)) (take-append_seam file (drop (0 + length file) out))

module _ (out other : List ℕ) (h : length out ≡ length other) where
  placed_alike : (file : List ℕ) → Alike (placed file out) (placed file other)
  unfolding placed
  placed_alike file = rw (← h) (by (ltb (length out) (length file)) refl)
    where
      short : Result ℕ Refusal
      short = Err (refusal short_bytes (length file))

      by : (b : Bool) → ltb (length out) (length file) ≡ b →
          Alike (when b then endedWriting short out else endedWriting (Ok (length file)) (sets out 0 file))
          (when b then endedWriting short other else endedWriting (Ok (length file)) (sets other 0 file))
      by true e = record { same = refl; file = λ f. absurd (no_file f) }
      by false e =
          let k = ltb-false (length out) (length file) e in
          record {
            same = refl;
            file = λ {size} f.
                let i : length file ≡ size = cc in
                rw (← i) (in_front file out k ∙ sym (in_front file other (omega arith)));
          }

  made_alike : (settings records rows : List ℕ) → Alike (made_of 1 settings records rows out) (made_of 1 settings records rows other)
  unfolding made_of
  made_alike settings records rows = by (loaded_of (file_of 1 settings records rows))
    where
      by : (l : Loaded) → Alike (made_by l (file_of 1 settings records rows) out) (made_by l (file_of 1 settings records rows) other)
      by (Ok (s, b)) = placed_alike (file_of 1 settings records rows)
      by (Err r) = record { same = refl; file = λ f. absurd (no_file f) }

  -- ---- a text's

  record Twin (x y : End) : Type 0 where
    result_same : x.result ≡ y.result
    file_same : {size : ℕ} → x.result ≡ Ok size → take size x.out ≡ take size y.out

  twin_by : (x : Read) → Twin (composed_by x out) (composed_by x other)
  twin_by (unreadable n) = record { result_same = refl; file_same = λ f. absurd (unread_file f) }
  twin_by (all p) =
      let a = made_alike (settings_bytes_of p.settings p.gain) p.records p.rows in
      record { result_same = ap by_writing a.same; file_same = λ f. a.file (made_file _ f) }

  twin : (text : List ℕ) → Twin (composed_of text out) (composed_of text other)
  unfolding composed_of
  twin text = by (ltb text_most (length text))
    where
      by : (b : Bool) → Twin (when b then ended (Err ComposeError.TooLong) out else composed_by (read_of text) out)
          (when b then ended (Err ComposeError.TooLong) other else composed_by (read_of text) other)
      by true = record { result_same = refl; file_same = λ f. absurd (long_file f) }
      by false = twin_by (read_of text)

pub by_size : (text out other : List ℕ) → length out ≡ length other → (composed_of text out).result ≡ (composed_of text other).result
by_size text out other h = (twin out other h text).result_same

pub same_file : (text out other : List ℕ) → length out ≡ length other → {size : ℕ} → (composed_of text out).result ≡ Ok size →
    take size (composed_of text out).out ≡ take size (composed_of text other).out
same_file text out other h f = (twin out other h text).file_same f
