-- What the exported functions say of a job that was loaded, and of one that was refused.
-- Assumes nothing.
use Rattle.std.proofs.Common.{refl, Ok, Err, Option}
use Rattle.std.specs.Option.{unwrap_or}
use Rattle.std.specs.Result.{result_err}
use Prim.Native.Nat.{ℕ}
use mathlib.Core.Path.{◌≡◌, sym, subst, ap, ◌∙◌}
use mathlib.Core.List.{List}
use lib.IntN.{ℤ}
use Rattle.ground.specs.declared.Refusal.{Refusal}
use Rattle.constants.specs.Refusals.{refusal, no_refusal}
use Rattle.job_contents.specs.declared.Bodies.{Bodies}
use Rattle.job_contents.specs.Contents.{Lies}
use Rattle.job_settings.specs.declared.Settings.{Settings}
use Rattle.row_rules.specs.declared.Ran.{Ran}
use Rattle.row_rules.specs.Runs.{refusal_by, End, ended}
use Rattle.job.specs.Load.{Loaded}
use Rattle.job.specs.Load.{loaded_of, refusal_of, OnJob, LoadTold}
use Rattle.exports.specs.Calls.{told, told_by}

-- ---- by what a load says: each exported function answers by it

module _ {job : List ℕ} {l : Loaded} (t : LoadTold job l) where
  -- the bodies of a job that was loaded lie in the file
  pub lies : {s : Settings} {b : Bodies} → l ≡ Ok (s, b) → Lies job b
  unfolding OnJob
  lies f = subst (OnJob (λ s b. Lies job b)) f t.lies

  -- its refusal, and none where it was taken
  pub load_told : {n p : ℕ} {o : Option Refusal} → refusal n p ≡ unwrap_or o no_refusal → o ≡ result_err l → refusal n p ≡ refusal_of (loaded_of job)
  unfolding refusal_of
  load_told a b = a ∙ ap (λ (x : Option Refusal). unwrap_or x no_refusal) b ∙ by l ∙ ap refusal_of t.is
    where
      by : (x : Loaded) → unwrap_or (result_err x) no_refusal ≡ refusal_of x
      by (Ok y) = refl
      by (Err r) = refl

  module _ {A : Type 0} (answer : Loaded → A) where
    -- a job that was refused: what is made of the refusal is the answer
    pub refused : (made : Refusal → A) {n p : ℕ} {o : Option Refusal} {r : Refusal} → l ≡ Err r → made r ≡ answer (Err r) →
        refusal n p ≡ unwrap_or o no_refusal → o ≡ result_err l → made (refusal n p) ≡ answer (loaded_of job)
    refused made f m a b = ap made (a ∙ ap (λ (x : Option Refusal). unwrap_or x no_refusal) (b ∙ ap result_err f)) ∙ m ∙ ap answer (sym f ∙ t.is)

    -- one that was taken
    pub taken : {x : A} {s : Settings} {b : Bodies} → l ≡ Ok (s, b) → x ≡ answer (Ok (s, b)) → x ≡ answer (loaded_of job)
    taken f h = h ∙ ap answer (sym f ∙ t.is)

-- ---- a run

pub ran_told : {n p : ℕ} {r : Refusal} (ran : Ran) {out : List ℤ} {e : End} → refusal n p ≡ r → r ≡ refusal_by ran →
    ended ran out ≡ e → told n p out ≡ told_by e
ran_told ran {out = out} a b c = ap (λ (x : Refusal). record { refusal = x; out = out }) (a ∙ b) ∙ ap told_by c
