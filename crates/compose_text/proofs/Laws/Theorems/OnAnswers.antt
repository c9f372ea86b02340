-- One answer, by the text and the size of the lent bytes alone, and nothing but the file is written.
-- Assumes nothing.
use Rattle.std.specs.Prelude.{ℕ, ◌≤◌, ◌<◌, ◌≡◌, refl, ◌↔◌, List, ltb, length, drop, Ok, Err, Result}
use Rattle.std.proofs.Common.{sym, ap, ◌∙◌, arith, ltb-true, ltb-false, lt-ltb, le-ltb}
use Rattle.ground.proofs.Laws.Choice.{either, if_true, if_false}
use Rattle.constants.specs.Sizes.{text_most}
use Rattle.job_file.specs.Numbers.{settings_bytes_of}
use Rattle.job_writer.specs.Writing.{End as Writing, made_of}
use Rattle.job_writer.proofs.Laws.Theorems.All.{theorems as writer}
use Rattle.compose_text.specs.Composing.{Composed}
use Rattle.compose_text.specs.Composing.{Read, all, unreadable, read_of, End, ended, by_writing, composed_by, composed_of}
use Rattle.ground.specs.declared.Refusal.{Refusal}
use Rattle.compose_text.specs.declared.ComposeError.{ComposeError}

pub one_answer : (text out : List ℕ) {x y : Composed} {o p : List ℕ} →
    ended x o ≡ composed_of text out → ended y p ≡ composed_of text out → (x ≡ y) × (o ≡ p)
one_answer text out e f = (ap (λ (z : End). z.result) (e ∙ sym f), ap (λ (z : End). z.out) (e ∙ sym f))

-- ---- answers are told apart

pub unread_file : {n size : ℕ} → Err (ComposeError.Unreadable n) ≡ Ok size → ⊥
unread_file e = let z : ◌≡◌ {A = ℕ} 0 1 = cc in omega arith

pub long_file : {size : ℕ} → (Err ComposeError.TooLong) ≡ Ok size → ⊥
long_file e = let z : ◌≡◌ {A = ℕ} 0 1 = cc in omega arith

long_unread : {n : ℕ} → ◌≡◌ {A = Composed} (Err ComposeError.TooLong) (Err (ComposeError.Unreadable n)) → ⊥
long_unread e = let z : ◌≡◌ {A = ℕ} 0 1 = cc in omega arith

made_unread : (m : Result ℕ Refusal) {n : ℕ} → by_writing m ≡ Err (ComposeError.Unreadable n) → ⊥
made_unread (Ok size) e = let z : ◌≡◌ {A = ℕ} 0 1 = cc in omega arith
made_unread (Err r) e = let z : ◌≡◌ {A = ℕ} 0 1 = cc in omega arith

pub made_file : (m : Result ℕ Refusal) {size : ℕ} → by_writing m ≡ Ok size → m ≡ Ok size
made_file (Ok n) {size} e = let i : n ≡ size = cc in ap Ok i
made_file (Err r) e = absurd (let z : ◌≡◌ {A = ℕ} 0 1 = cc in omega arith)

made_long : (m : Result ℕ Refusal) → by_writing m ≡ (Err ComposeError.TooLong) → ⊥
made_long (Ok size) e = let z : ◌≡◌ {A = ℕ} 0 1 = cc in omega arith
made_long (Err r) e = let z : ◌≡◌ {A = ℕ} 0 1 = cc in omega arith

-- ---- what stays

record Stays (out : List ℕ) (e : End) : Type 0 where
  rest : {size : ℕ} → e.result ≡ Ok size → drop size e.out ≡ drop size out
  kept : ((size : ℕ) → e.result ≡ Ok size → ⊥) → e.out ≡ out

stays_by : (out : List ℕ) (x : Read) → Stays out (composed_by x out)
stays_by out (unreadable n) = record { rest = λ e. absurd (unread_file e); kept = λ _. refl }
stays_by out (all p) = record {
  rest = λ e. writer.rest_stays 1 settings p.records p.rows out (made_file made.result e);
  kept = λ f. by made.result refl f;
}
  where
    settings : List ℕ
    settings = settings_bytes_of p.settings p.gain

    made : Writing
    made = made_of 1 settings p.records p.rows out

    by : (m : Result ℕ Refusal) → made.result ≡ m → ((size : ℕ) → by_writing m ≡ Ok size → ⊥) → made.out ≡ out
    by (Ok n) e f = absurd (f n refl)
    by (Err r) e f = writer.untouched 1 settings p.records p.rows out e

stays : (text out : List ℕ) → Stays out (composed_of text out)
unfolding composed_of
stays text out =
    either (Stays out) (ltb text_most (length text)) (λ _. record { rest = λ e. absurd (long_file e); kept = λ _. refl }) (λ _. stays_by out (read_of text))

pub rest_stays : (text out : List ℕ) {size : ℕ} → (composed_of text out).result ≡ Ok size →
    drop size (composed_of text out).out ≡ drop size out
rest_stays text out e = (stays text out).rest e

pub untouched : (text out : List ℕ) → ((size : ℕ) → (composed_of text out).result ≡ Ok size → ⊥) →
    (composed_of text out).out ≡ out
untouched text out f = (stays text out).kept f

-- ---- which line is named

unread_by : (out : List ℕ) (n : ℕ) (x : Read) → composed_by x out ≡ ended (Err (ComposeError.Unreadable n)) out → x ≡ unreadable n
unread_by out n (unreadable m) e =
    let f : Err (ComposeError.Unreadable m) ≡ Err (ComposeError.Unreadable n) = ap (λ (z : End). z.result) e in
    let i : m ≡ n = cc in
    ap unreadable i
unread_by out n (all p) e =
    absurd (made_unread (made_of 1 (settings_bytes_of p.settings p.gain) p.records p.rows out).result (ap (λ (z : End). z.result) e))

record Names (out : List ℕ) (n : ℕ) (text : List ℕ) (e : End) : Type 0 where
  names : e ≡ ended (Err (ComposeError.Unreadable n)) out → (length text ≤ text_most) × (read_of text ≡ unreadable n)

pub unread : (text out : List ℕ) (n : ℕ) →
    composed_of text out ≡ ended (Err (ComposeError.Unreadable n)) out ↔ (length text ≤ text_most) × (read_of text ≡ unreadable n)
unfolding composed_of
unread text out n = (
  λ e. named.names e,
  λ h. sym (if_false _ _ (le-ltb text_most (length text) h.0)) ∙ ap (λ (x : Read). composed_by x out) h.1,
)
  where
    named : Names out n text (composed_of text out)
    named =
        either (Names out n text) (ltb text_most (length text)) (λ _. record { names = λ e. absurd (long_unread (ap (λ (z : End). z.result) e)) })
        (λ f. record { names = λ e. (ltb-false text_most (length text) f, unread_by out n (read_of text) e) })

-- ---- which texts are too long

by_long : (out : List ℕ) (x : Read) → (composed_by x out).result ≡ (Err ComposeError.TooLong) → ⊥
by_long out (unreadable n) e = long_unread (sym e)
by_long out (all p) e = made_long (made_of 1 (settings_bytes_of p.settings p.gain) p.records p.rows out).result e

record Long (text : List ℕ) (e : End) : Type 0 where
  long : e.result ≡ (Err ComposeError.TooLong) → text_most < length text

pub too_long : (text out : List ℕ) → (composed_of text out).result ≡ (Err ComposeError.TooLong) ↔ text_most < length text
unfolding composed_of
too_long text out = (
  λ e. told.long e,
  λ h. ap (λ (z : End). z.result) (sym (if_true _ _ (lt-ltb text_most (length text) h))),
)
  where
    told : Long text (composed_of text out)
    told =
        either (Long text) (ltb text_most (length text)) (λ f. record { long = λ _. ltb-true text_most (length text) f })
        (λ _. record { long = λ e. absurd (by_long out (read_of text) e) })
