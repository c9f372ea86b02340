-- The laws of numbers that fit their ranges, number by number and part by part.
-- Assumes nothing.
use Rattle.std.specs.Prelude.{ℕ, zero, suc, ◌+◌, ◌-◌, ◌≤◌, ◌<◌, ◌≡◌, refl, Bool, true, false, ◌&&◌, List, [], ◌∷◌, ◌++◌, ℤ, pos, length, get_or, take, drop}
use Rattle.std.proofs.Common.{sym, ap, ◌∙◌, append-nil, add-one, not-suc-le-zero, arith, lit≤, take-append-drop, drop_of_length-le, drop-cons, drop-drop}
use Rattle.ground.proofs.Laws.Choice.{clash, both}
use Rattle.exports_state.specs.Packed.{Range, fits_range, fitting, nth, part, state_numbers, state_ranges}
use Rattle.exports_state.specs.Packed.{version_ranges, accounts_ranges, run_ranges, opening_ranges, set_ranges}
use Rattle.exports_state.specs.Packed.{filter_ranges}
use Rattle.exports_state.specs.Packed.{accounts_place, run_place, opening_place, set_place, filter_place}
use Rattle.exports_state.specs.Packed.Parts.{Fits, none, one, Parts}

-- ---- as facts

pub fits_fitting : {rs : List Range} {ns : List ℤ} → Fits rs ns → fitting rs ns ≡ true
unfolding fitting
fits_fitting none = refl
fits_fitting (one {rs} n {ns} e f) = ap (λ (b : Bool). b && fitting rs ns) e ∙ fits_fitting f

pub fitting_fits : (rs : List Range) (ns : List ℤ) → fitting rs ns ≡ true → Fits rs ns
unfolding fitting
fitting_fits [] [] e = none
fitting_fits (r ∷ rs) (n ∷ ns) e = let h = both (fits_range r n) _ e in one n h.0 (fitting_fits rs ns h.1)
fitting_fits [] (n ∷ ns) e = absurd (clash e refl)
fitting_fits (r ∷ rs) [] e = absurd (clash e refl)

-- ---- how many there are

pub fits_long : {rs : List Range} {ns : List ℤ} → Fits rs ns → length ns ≡ length rs
fits_long none = refl
fits_long (one n e f) = ap suc (fits_long f)

-- another count does not fit
pub unfit : (rs : List Range) (ns : List ℤ) → (length ns ≡ length rs → ⊥) → fitting rs ns ≡ false
unfit rs ns n = by (fitting rs ns) refl
  where
    by : (b : Bool) → fitting rs ns ≡ b → fitting rs ns ≡ false
    by true e = absurd (n (fits_long (fitting_fits rs ns e)))
    by false e = e

-- the numbers from number k on fit where number k does, and those after it
pub fitting_from : (rs : List Range) (ns : List ℤ) (k : ℕ) (r : Range) → k < length rs → k < length ns →
    fitting (drop k rs) (drop k ns) ≡ fits_range (get_or rs k r) (nth ns k) && fitting (drop (k + 1) rs) (drop (k + 1) ns)
unfolding fitting
fitting_from rs ns k r h l = rw (drop-cons rs k r h, drop-cons ns k (pos 0) l, add-one k)

-- ---- parts one after the other

-- two parts that fit, joined
pub joined : {rs ss : List Range} {ns ms : List ℤ} → Fits rs ns → Fits ss ms → Fits (rs ++ ss) (ns ++ ms)
joined none g = g
joined (one n e f) g = one n e (joined f g)

-- and cut again
halves : (rs ss : List Range) (ns : List ℤ) → Fits (rs ++ ss) ns → Fits rs (take (length rs) ns)
    × Fits ss (drop (length rs) ns)
halves [] ss ns f = (none, f)
halves (r ∷ rs) ss [] f = elim f [ ]
halves (r ∷ rs) ss (n ∷ ns) (one _ e f) = let k = halves rs ss ns f in (one n e k.0, k.1)

-- a part of numbers fits, and the numbers after it fit the ranges after it
cut : (rs ss : List Range) (ns : List ℤ) (at : ℕ) → Fits (rs ++ ss) (drop at ns) → Fits rs (part at (at + length rs) ns)
    × Fits ss (drop (at + length rs) ns)
cut rs ss ns at f =
    let h = halves rs ss (drop at ns) f in
    let w : at + length rs - at ≡ length rs = omega arith in
    (rw w h.0, rw (drop-drop (length rs) at ns) at h.1)

-- numbers that are a state, part by part
pub parts_fit : (ns : List ℤ) → fitting state_ranges ns ≡ true → Parts Fits ns
parts_fit ns e =
    let all = fitting_fits state_ranges ns e in
    let v = cut version_ranges (accounts_ranges ++ run_ranges ++ opening_ranges ++ set_ranges ++ filter_ranges) ns 0 all in
    let a = cut accounts_ranges (run_ranges ++ opening_ranges ++ set_ranges ++ filter_ranges) ns accounts_place v.1 in
    let r = cut run_ranges (opening_ranges ++ set_ranges ++ filter_ranges) ns run_place a.1 in
    let o = cut opening_ranges (set_ranges ++ filter_ranges) ns opening_place r.1 in
    let s = cut set_ranges filter_ranges ns set_place o.1 in
    let f = cut filter_ranges [] ns filter_place s.1 in
    record {
      long = fits_long all;
      version = v.0;
      accounts = a.0;
      run = r.0;
      opening = o.0;
      set = s.0;
      filter =
          f.0;
    }

-- the numbers of a part and those after it are the numbers from its start on
onto : (ns : List ℤ) (from to : ℕ) {after : List ℤ} → from ≤ to → after ≡ drop to ns →
    part from to ns ++ after ≡ drop from ns
onto ns from to h e =
    let w : from + (to - from) ≡ to = omega arith in
    ap (λ (l : List ℤ). part from to ns ++ l)
    (e ∙ ap (λ (k : ℕ). drop k ns) (sym w) ∙ sym (drop-drop (to - from) from ns))
    ∙ take-append-drop (to - from) (drop from ns)

-- the parts joined are the numbers
abbrev pub from_run : List ℤ → List ℤ
from_run ns =
    part run_place opening_place ns ++ (part opening_place set_place ns ++
    (part set_place filter_place ns ++ part filter_place state_numbers ns))

pub parts_joined : (ns : List ℤ) → length ns ≡ state_numbers →
    part 0 accounts_place ns ++ (part accounts_place run_place ns ++ from_run ns) ≡ ns
parts_joined ns all =
    let over : drop state_numbers ns ≡ [] = drop_of_length-le ns {i = state_numbers} (omega arith) in
    onto ns 0 accounts_place (lit≤ tt)
    (onto ns accounts_place run_place (lit≤ tt)
    (onto ns run_place opening_place (lit≤ tt)
    (onto ns opening_place set_place (lit≤ tt)
    (onto ns set_place filter_place (lit≤ tt)
    (sym (append-nil (part filter_place state_numbers ns)) ∙ onto ns filter_place state_numbers (lit≤ tt) (sym over))))))

-- ---- number by number

held : {rs : List Range} {ns : List ℤ} → Fits rs ns → (k : ℕ) (r : Range) → k < length rs →
    (k < length ns) × (fits_range (get_or rs k r) (nth ns k) ≡ true)
held none k r h = absurd (not-suc-le-zero h)
held (one n e f) zero r h = (omega arith, e)
held (one n e f) (suc k) r h = let g = held f k r (omega arith) in (omega (arith, g.0), g.1)

-- every number of every part is there, and in its range
pub fitted : (ns : List ℤ) → fitting state_ranges ns ≡ true →
    Parts (λ rs p. (k : ℕ) (r : Range) → k < length rs → (k < length p) × (fits_range (get_or rs k r) (nth p k) ≡ true)) ns
fitted ns e =
    let f = parts_fit ns e in
    record {
      long = f.long;
      version = held f.version;
      accounts = held f.accounts;
      run = held f.run;
      opening = held f.opening;
      set = held f.set;
      filter = held f.filter;
    }
