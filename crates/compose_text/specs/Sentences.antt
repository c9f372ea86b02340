-- What is printed of a text that gives no file: "line N unreadable", the text of the refusal, or "input too long".
-- RULES: compose
-- Definitions, to be believed.
use Rattle.std.specs.Prelude.{ℕ, List, ◌++◌, decimal}
use Rattle.ground.specs.Texts.{bytes}
use Rattle.ground.specs.Refused.{refusal_text}
use Rattle.compose_text.specs.declared.ComposeError.{ComposeError}

abbrev pub error_text : ComposeError → List ℕ
error_text (ComposeError.Unreadable line) = bytes "line " ++ decimal line ++ bytes " unreadable"
error_text (ComposeError.Refused refusal) = refusal_text refusal
error_text (ComposeError.TooLong) = bytes "input too long"
