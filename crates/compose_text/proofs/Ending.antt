-- The parts of the file in the buffer, and what the writer makes of them.
-- Assumes nothing.
use Rattle.std.proofs.Common.{Ok, Err, Result}
use Rattle.std.specs.Result.{MatchResult, IsErrAnd}
use Prim.Native.Nat.{ℕ, ◌+◌, ◌-◌, ◌≤◌, ◌<◌}
use Rattle.std.proofs.Math.Path.{◌≡◌, refl, sym, ap, subst, ◌∙◌}
use mathlib.Core.List.{List, ◌++◌}
use native.Mathlib.Omega.{arith}
use borrow.Author.Tests.{lt-ltb, le-ltb}
use Rattle.std.proofs.Math.ListN.{length, take, drop}
use Rattle.std.proofs.Math.Seq.{length-take-le, take-take, take-add, take_at, drop_at}
use Rattle.ground.proofs.Laws.Choice.{if_true, if_false}
use Rattle.constants.specs.Sizes.{file_most, text_most, contents_bytes}
use Rattle.constants.specs.Refusals.{refusal, file_too_long}
use Rattle.job_file.specs.Numbers.{settings_bytes_of}
use Rattle.job_file.proofs.Laws.Numbers.{settings_length}
use Rattle.job_writer.specs.Writing.{WriteSays, WriteTold}
use Rattle.job_writer.proofs.Laws.Theorems.All.{theorems}
use Rattle.compose_text.specs.Composing.{Composed}
use Rattle.compose_text.specs.declared.Standing.{Standing}
use Rattle.compose_text.specs.Composing.{Progress, Read, all, unreadable, read_of, End, ended, composed_of, by_writing, by_writer, composed_by}
use Rattle.compose_text.specs.Standing.{Stands, Comes, bodies_most}
use Rattle.ground.specs.declared.Refusal.{Refusal}
use Rattle.compose_text.specs.declared.ComposeError.{ComposeError}

-- two lists, one behind the other in a buffer
module _ (bodies first second : List ℕ) (n m : ℕ) (k : length first ≡ n) (h : n + m ≤ length bodies) (e : take (n + m) bodies ≡ first ++ second) where
  first_there : take n bodies ≡ first
  first_there = sym (take-take n (n + m) bodies (omega arith)) ∙ ap (take n) e ∙ take_at first second n k

  second_there : take m (drop n bodies) ≡ second
  second_there =
      sym (drop_at (take n bodies) (take m (drop n bodies)) n (length-take-le n bodies (omega arith)))
      ∙ ap (drop n) (sym (take-add n m bodies) ∙ e) ∙ drop_at first second n k

module _ {st : Standing} {bodies : List ℕ} (p : Progress) (s : Stands st bodies p) where
  pub over : {out : List ℕ} → bodies_most ≤ length bodies → length bodies < st.used →
      ended (Err (ComposeError.Refused (refusal file_too_long 0))) out ≡ composed_by (all p) out
  over {out} h k =
      let settings = settings_bytes_of p.settings p.gain in
      let long : file_most < contents_bytes + length settings + length p.records + length p.rows =
      omega (arith, settings_length p.settings p.gain, s.used_is) in
      let said = theorems.made_said 1 settings p.records p.rows out (Err (refusal file_too_long 0)) out in
      ap by_writer (sym (said.1 (WriteSays.over long)))

  pub written : {settings out after : List ℕ} {made : Result ℕ Refusal} → st.used ≤ length bodies → settings ≡ settings_bytes_of st.settings st.gain →
      WriteTold 1 settings (take st.records bodies) (take (st.used - st.records) (drop st.records bodies)) out made after →
      ended (by_writing made) after ≡ composed_by (all p) out
  written {settings} {out} {after} {made} h e w =
      let sum : st.records + (st.used - st.records) ≡ st.used = omega (arith, s.records_is, s.used_is) in
      let stored : take (st.records + (st.used - st.records)) bodies ≡ p.records ++ p.rows = rw sum (s.stored h) in
      let a = first_there bodies p.records p.rows st.records (st.used - st.records) (sym s.records_is) (omega arith) stored in
      let b = second_there bodies p.records p.rows st.records (st.used - st.records) (sym s.records_is) (omega arith) stored in
      let f : settings ≡ settings_bytes_of p.settings p.gain = rw (← s.settings_is, ← s.gain_is) e in
      ap by_writer (rw (a, b, f) at w.is)

-- ---- errors under another name

pub by_name : (m : Result ℕ Refusal) (r : Composed) (P : Refusal → ComposeError → Type 0) →
    MatchResult m (λ x. r ≡ Ok x) (λ e. IsErrAnd r (P e)) → ((e : Refusal) (d : ComposeError) → P e d → d ≡ ComposeError.Refused e) → r ≡ by_writing m
by_name (Ok x) r P m f = m
by_name (Err e) (Ok y) P m f = absurd m
by_name (Err e) (Err d) P m f = ap Err (f e d m)

module _ {T : Type 0} (a : Result T ℕ) (r : Result T ComposeError) (P : ℕ → ComposeError → Type 0)
    (m : MatchResult a (λ x. r ≡ Ok x) (λ e. IsErrAnd r (P e))) where
  pub same_ok : {x : T} → r ≡ Ok x → a ≡ Ok x
  same_ok {x} e = by a r m e
    where
      by : (a : Result T ℕ) (r : Result T ComposeError) → MatchResult a (λ x. r ≡ Ok x) (λ e. IsErrAnd r (P e)) → r ≡ Ok x → a ≡ Ok x
      by (Ok y) r m e = let i : y ≡ x = cc in ap Ok i
      by (Err d) (Ok y) m e = absurd m
      by (Err d) (Err f) m e = cc

  pub same_err : {d : ComposeError} {C : Type 0} → r ≡ Err d → ((n : ℕ) → a ≡ Err n → P n d → C) → C
  same_err {d} {C} e f = by a r m e f
    where
      by : (a : Result T ℕ) (r : Result T ComposeError) → MatchResult a (λ x. r ≡ Ok x) (λ e. IsErrAnd r (P e)) → r ≡ Err d →
          ((n : ℕ) → a ≡ Err n → P n d → C) → C
      by (Ok y) r m e f = cc
      by (Err n) (Ok y) m e f = absurd m
      by (Err n) (Err g) m e f = let i : g ≡ d = cc in f n refl (subst (P n) i m)

-- ---- what all lines came to

pub record Gave (read : Read) (st : Standing) (bodies : List ℕ) : Type 0 where
  pub gave : Progress
  pub is : read ≡ all gave
  pub stands : Stands st bodies gave

pub gave : (read : Read) {st : Standing} {bodies : List ℕ} {answer : Result Standing ℕ} → answer ≡ Ok st → Comes read answer bodies → Gave read st bodies
unfolding Comes
gave read {st} {bodies} e k = by read (subst (λ (x : Result Standing ℕ). Comes read x bodies) e k)
  where
    by : (x : Read) → Comes x (Ok st) bodies → Gave x st bodies
    by (all p) h = record { gave = p; is = refl; stands = h }
    by (unreadable m) h = absurd h

halts : (read : Read) {n : ℕ} (bodies : List ℕ) {answer : Result Standing ℕ} → answer ≡ Err n → Comes read answer bodies → read ≡ unreadable n
unfolding Comes
halts read {n} bodies e k = by read (subst (λ (x : Result Standing ℕ). Comes read x bodies) e k)
  where
    by : (x : Read) → Comes x (Err n) bodies → x ≡ unreadable n
    by (all p) h = absurd h
    by (unreadable m) h = ap unreadable h

module _ (text : List ℕ) (few : length text ≤ text_most) where
  by_read : (out : List ℕ) → composed_by (read_of text) out ≡ composed_of text out
  unfolding composed_of
  by_read out = if_false _ _ (le-ltb text_most (length text) few)

  pub line_unreadable : (out bodies : List ℕ) {n : ℕ} {answer : Result Standing ℕ} → answer ≡ Err n → Comes (read_of text) answer bodies →
      ended (Err (ComposeError.Unreadable n)) out ≡ composed_of text out
  line_unreadable out bodies e k = ap (λ (x : Read). composed_by x out) (sym (halts (read_of text) bodies e k)) ∙ by_read out

  pub all_read : (out : List ℕ) {st : Standing} {bodies : List ℕ} {end : End} (g : Gave (read_of text) st bodies) → end ≡ composed_by (all g.gave) out →
      end ≡ composed_of text out
  all_read out g e = e ∙ ap (λ (x : Read). composed_by x out) (sym g.is) ∙ by_read out

pub too_long : (text out : List ℕ) → text_most < length text → ended (Err ComposeError.TooLong) out ≡ composed_of text out
unfolding composed_of
too_long text out h = if_true _ _ (lt-ltb text_most (length text) h)
