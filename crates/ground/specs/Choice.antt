-- A choice by a test, as every rule above is written: the first line whose test holds decides.
-- Definitions, to be believed.
use Rattle.std.specs.Prelude.{Bool, true, false}

infixr 0 when◌then◌else◌
abbrev pub when◌then◌else◌ : {A : Type 0} → Bool → A → A → A
when◌then◌else◌ true a b = a
when◌then◌else◌ false a b = b
