-- Which line is named: the one that the lines before it cannot be gone on with.
-- Assumes nothing.
use Rattle.std.specs.Prelude.{ℕ, zero, suc, ◌+◌, ◌≤◌, ◌<◌, ◌≡◌, refl, Bool, true, false, not, ◌↔◌, List, [], ◌∷◌, ◌++◌, ltb, length, take}
use Rattle.std.proofs.Math.Path.{sym, ap}
use Rattle.std.proofs.Common.{◌∙◌, append_assoc, arith, ltb-true, ltb-false, lt-ltb}
use Rattle.ground.specs.Choice.{when◌then◌else◌}
use Rattle.ground.proofs.Laws.Choice.{clash, if_true}
use Rattle.power.specs.declared.Triple.{Triple}
use Rattle.job_settings.specs.declared.Settings.{Settings}
use Rattle.words.specs.Text.{lines_of, clear, uncommented, words_of}
use Rattle.compose_lines.specs.declared.Item.{Item}
use Rattle.compose_lines.specs.Lines.{item_of}
use Rattle.compose_text.specs.Composing.{Progress, begun, Advance, to, none, advanced, Read, all, unreadable, gone, read_from, read_of}
use Rattle.compose_text.specs.Theorems.{AllClear, told, items_of, Begins, NamedAfter}
use Rattle.compose_text.proofs.Laws.Theorems.Items.{onto, taken, none_to}
use Rattle.compose_text.proofs.Laws.Theorems.Lines.{same_line, never, numbered_from}
use Rattle.compose_text.proofs.Laws.Theorems.Meaning.{at, from_first, first_back, means}

-- ---- lines that can be gone on with, from where a reading stands

record Goes (p : Progress) (lines : List (List ℕ)) : Type 0 where
  clears : AllClear lines
  rest : List Item
  end : Progress
  comes : taken p (items_of lines ++ rest) ≡ to end

-- no line at all: what is missing still follows
from_stage : (stage : ℕ) (s : Settings) (t : Triple) (records rows : List ℕ) → Goes (at stage s t records rows) []
unfolding AllClear items_of taken advanced
from_stage zero s t records rows = record { clears = tt; rest = Item.Settings s ∷ Item.Gain t ∷ []; end = at 2 s t records rows; comes = refl }
from_stage (suc zero) s t records rows = record { clears = tt; rest = Item.Gain t ∷ []; end = at 2 s t records rows; comes = refl }
from_stage (suc (suc n)) s t records rows =
    record { clears = tt; rest = []; end = at (suc (suc n)) s t records rows; comes = sym (if_true _ _ (lt-ltb 1 (suc (suc n)) (omega arith))) }

at_all : (p : Progress) → Goes p []
at_all p = from_stage p.stage p.settings p.gain p.records p.rows

taken_told : (p : Progress) (i : Item) (items rest : List Item) →
    taken p (told i items ++ rest) ≡ onto (advanced p i) (λ next. taken next (items ++ rest))
unfolding taken advanced
taken_told p (Item.Blank) items rest = refl
taken_told p (Item.Settings s) items rest = refl
taken_told p (Item.Gain t) items rest = refl
taken_told p (Item.Gap q) items rest = refl
taken_told p (Item.Rows c k l) items rest = refl
taken_told p (Item.Unreadable) items rest = refl

-- what a line leads to
abbrev gives : Progress → List ℕ → Advance
gives p l = advanced p (item_of (words_of (uncommented l)))

-- one line more in front
module _ (p : Progress) (l : List ℕ) (lines : List (List ℕ)) where
  by_line : (rest : List Item) {a : Advance} → gives p l ≡ a →
      taken p (items_of (l ∷ lines) ++ rest) ≡ onto a (λ next. taken next (items_of lines ++ rest))
  unfolding items_of
  by_line rest e =
      taken_told p (item_of (words_of (uncommented l))) (items_of lines) rest ∙ ap (λ (a : Advance). onto a (λ next. taken next (items_of lines ++ rest))) e

  onward : {next : Progress} → clear l ≡ true → gives p l ≡ to next → Goes next lines → Goes p (l ∷ lines)
  unfolding AllClear
  onward c e g = record { clears = (c, g.clears); rest = g.rest; end = g.end; comes = by_line g.rest e ∙ g.comes }

  beyond : {next : Progress} → gives p l ≡ to next → Goes p (l ∷ lines) → Goes next lines
  unfolding AllClear
  beyond e g = record { clears = g.clears.1; rest = g.rest; end = g.end; comes = sym (by_line g.rest e) ∙ g.comes }

  halted : gives p l ≡ none → Goes p (l ∷ lines) → ⊥
  halted e g = none_to (sym (by_line g.rest e) ∙ g.comes)

  marred : clear l ≡ false → Goes p (l ∷ lines) → ⊥
  unfolding AllClear
  marred c g = clash g.clears.0 c

-- ---- the line that a reading names

record After (p : Progress) (k : ℕ) (lines : List (List ℕ)) : Type 0 where
  among : k ≤ length lines
  before : Goes p (take k lines)
  line : k < length lines → Goes p (take (suc k) lines) → ⊥

-- the line here
module _ (p : Progress) (line : ℕ) (l : List ℕ) (rest : List (List ℕ)) {n : ℕ} where
  here : (b : Bool) (a : Advance) → clear l ≡ b → gives p l ≡ a → n ≡ line →
      (when not b then unreadable line else gone a line (λ next. read_from next (line + 1) rest)) ≡ unreadable n →
      Goes p (l ∷ []) → ⊥
  here false a c e i f g = marred p l [] c g
  here true (none) c e i f g = halted p l [] e g
  here true (to next) c e i f g = let b = numbered_from next (line + 1) rest f in omega (arith, b.0)

  -- a later one
  there : (k : ℕ) (b : Bool) (a : Advance) → clear l ≡ b → gives p l ≡ a → n ≡ line + suc k →
      ((next : Progress) → read_from next (line + 1) rest ≡ unreadable n → After next k rest) →
      (when not b then unreadable line else gone a line (λ next. read_from next (line + 1) rest)) ≡ unreadable n →
      After p (suc k) (l ∷ rest)
  there k false a c e i h f = let s = same_line f in absurd (omega arith)
  there k true (none) c e i h f = let s = same_line f in absurd (omega arith)
  there k true (to next) c e i h f =
      let r = h next f in
      record {
        among = omega (arith, r.among);
        before = onward p l (take k rest) c e r.before;
        line = λ s g. r.line (omega arith) (beyond p l (take (suc k) rest) e g);
      }

after_from : (p : Progress) (line k : ℕ) (lines : List (List ℕ)) {n : ℕ} → n ≡ line + k → read_from p line lines ≡ unreadable n → After p k lines
unfolding read_from
after_from p line zero [] i e = record { among = omega arith; before = at_all p; line = λ h g. let z : ⊥ = omega arith in z }
after_from p line (suc k) [] i e = let b = numbered_from p line [] e in absurd (omega (arith, b.1))
after_from p line zero (l ∷ rest) i e = record {
  among = omega arith;
  before = at_all p;
  line = λ h g. here p line l rest (clear l) (gives p l) refl refl (omega arith) e g;
}
after_from p line (suc k) (l ∷ rest) i e =
    there p line l rest k (clear l) (gives p l) refl refl i
    (λ next f. after_from next (line + 1) k rest (omega arith) f) e

-- ---- without a state

goes : {lines : List (List ℕ)} → Begins lines → Goes begun lines
goes {lines} b =
    let r = first_back b.settings b.gain b.gaps b.runs in
    record { clears = b.clears; rest = b.rest; end = _; comes = ap (taken begun) b.goes_on ∙ r.is }

begins : {lines : List (List ℕ)} → Goes begun lines → Begins lines
begins {lines} g =
    let w = from_first (items_of lines ++ g.rest) g.comes in
    record {
      clears = g.clears;
      settings = g.end.settings;
      gain = g.end.gain;
      gaps = w.gaps;
      runs = w.runs;
      rest = g.rest;
      goes_on = w.items_are;
    }

names : (text : List ℕ) (k : ℕ) → read_of text ≡ unreadable (1 + k) → NamedAfter text k
unfolding read_of
names text k e =
    let a = after_from begun 1 k (lines_of text) refl e in
    let one : 1 + k ≡ suc k = omega arith in
    record {
      among = a.among;
      before = begins a.before;
      line = λ h b. a.line h (rw one at (goes b));
      not_whole = λ {settings} {gain} {records} {rows} c.
          let m = (means text settings gain records rows).1 c in
          never (sym m.1 ∙ e);
    }

-- ---- one number alone

told_more : (i : Item) (items more : List Item) → told i (items ++ more) ≡ told i items ++ more
told_more (Item.Blank) items more = refl
told_more (Item.Settings s) items more = refl
told_more (Item.Gain t) items more = refl
told_more (Item.Gap q) items more = refl
told_more (Item.Rows c k l) items more = refl
told_more (Item.Unreadable) items more = refl

-- fewer lines give fewer items
record Fewer (few many : List (List ℕ)) : Type 0 where
  clears : AllClear many → AllClear few
  more : List Item
  is : items_of many ≡ items_of few ++ more

fewer : (m k : ℕ) (lines : List (List ℕ)) → m ≤ k → Fewer (take m lines) (take k lines)
unfolding AllClear items_of
fewer zero k lines h = record { clears = λ _. tt; more = items_of (take k lines); is = refl }
fewer (suc m) zero lines h = absurd (omega arith)
fewer (suc m) (suc k) [] h = record { clears = λ c. c; more = []; is = refl }
fewer (suc m) (suc k) (l ∷ rest) h =
    let f = fewer m k rest (omega arith) in
    let i = item_of (words_of (uncommented l)) in
    record {
      clears = λ c. (c.0, f.clears c.1);
      more = f.more;
      is = ap (told i) f.is ∙ told_more i (items_of (take m rest)) f.more;
    }

shorter : (m k : ℕ) (lines : List (List ℕ)) → m ≤ k → Begins (take k lines) → Begins (take m lines)
shorter m k lines h b =
    let f = fewer m k lines h in
    record {
      clears = f.clears b.clears;
      settings = b.settings;
      gain = b.gain;
      gaps = b.gaps;
      runs = b.runs;
      rest = f.more ++ b.rest;
      goes_on =
          sym (append_assoc (items_of (take m lines)) f.more b.rest) ∙
          ap (λ (x : List Item). x ++ b.rest) (sym f.is) ∙ b.goes_on;
    }

not_below : (text : List ℕ) (m k : ℕ) → NamedAfter text m → NamedAfter text k → m < k → ⊥
not_below text m k a b h =
    let last = b.among in
    a.line (omega arith) (shorter (1 + m) k (lines_of text) (omega arith) b.before)

same_number : (text : List ℕ) (m k : ℕ) → NamedAfter text m → NamedAfter text k → m ≡ k
same_number text m k a b = by (ltb m k) (ltb k m) refl refl
  where
    by : (c d : Bool) → ltb m k ≡ c → ltb k m ≡ d → m ≡ k
    by true d e f = absurd (not_below text m k a b (ltb-true m k e))
    by false true e f = absurd (not_below text k m b a (ltb-true k m f))
    by false false e f = let i = ltb-false m k e in let j = ltb-false k m f in omega arith

numbered : (text : List ℕ) (n : ℕ) → read_of text ≡ unreadable n → (k : ℕ) × (n ≡ 1 + k) × NamedAfter text k
unfolding read_of
numbered text zero e = let b = numbered_from begun 1 (lines_of text) e in absurd (omega (arith, b.0))
numbered text (suc k) e = let one : suc k ≡ 1 + k = omega arith in (k, one, names text k (e ∙ ap unreadable one))

alone : (text : List ℕ) (k : ℕ) → NamedAfter text k → (x : Read) → read_of text ≡ x → read_of text ≡ unreadable (1 + k)
alone text k a (all p) e =
    absurd (a.not_whole ((means text p.settings p.gain p.records p.rows).0 (p, e, refl, refl, refl, refl)))
alone text k a (unreadable n) e =
    let h = numbered text n e in
    let i = same_number text h.0 k h.2 a in
    e ∙ ap unreadable (h.1 ∙ ap (λ (m : ℕ). 1 + m) i)

pub named : (text : List ℕ) (n : ℕ) →
    read_of text ≡ unreadable n ↔ ((k : ℕ) × (n ≡ 1 + k) × NamedAfter text k)
named text n = (λ e. numbered text n e, λ h. alone text h.0 h.2 (read_of text) refl ∙ ap unreadable (sym h.1))
