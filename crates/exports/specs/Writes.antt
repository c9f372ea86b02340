-- W-202: what the exported functions that write answer, and every byte that was lent.
-- RULES: writing
-- Definitions, to be believed.
use Rattle.std.specs.Prelude.{ℕ, List, Ok, Err, Result}
use Rattle.ground.specs.declared.Refusal.{Refusal}
use Rattle.constants.specs.Refusals.{refusal}
use Rattle.job_writer.specs.Writing.{End, refusal_of}

-- a refusal, how many bytes are written, 0 where it is one, and the lent bytes afterwards
pub record FileTold : Type 0 where
  pub refusal : Refusal
  pub size : ℕ
  pub out : List ℕ

abbrev pub file_told : (number place size : ℕ) → List ℕ → FileTold
file_told number place size out = record { refusal = refusal number place; size = size; out = out }

abbrev pub size_of : Result ℕ Refusal → ℕ
size_of (Ok size) = size
size_of (Err r) = 0

abbrev pub written_by : End → FileTold
written_by e = record { refusal = refusal_of e.result; size = size_of e.result; out = e.out }

-- the same of a part, whose size the caller knows
-- DECISIONS: writing-twelve-lent
pub record PartTold : Type 0 where
  pub refusal : Refusal
  pub out : List ℕ

abbrev pub part_told : (number place : ℕ) → List ℕ → PartTold
part_told number place out = record { refusal = refusal number place; out = out }

abbrev pub part_by : End → PartTold
part_by e = record { refusal = refusal_of e.result; out = e.out }
