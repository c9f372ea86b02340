-- Reading a text goes by what its lines give, those that give nothing left out.
-- Assumes nothing.
use Rattle.std.specs.Prelude.{ℕ, ◌+◌, ◌≡◌, refl, Bool, true, false, not, List, [], ◌∷◌, ltb}
use Rattle.std.proofs.Common.{ap, arith}
use Rattle.ground.specs.Choice.{when◌then◌else◌}
use Rattle.words.specs.Text.{clear, uncommented, words_of}
use Rattle.compose_lines.specs.declared.Item.{Item}
use Rattle.compose_lines.specs.Lines.{item_of}
use Rattle.compose_text.specs.Composing.{Progress, Advance, to, none, advanced, Read, all, unreadable, closed, gone, read_from}
use Rattle.compose_text.specs.Theorems.{AllClear, told, items_of}

-- one item after another; a blank is none of them
abbrev pub onto : Advance → (Progress → Advance) → Advance
onto (to p) next = next p
onto (none) next = none

abbrev pub by_item : Progress → Item → Advance
by_item p (Item.Blank) = none
by_item p (Item.Settings s) = advanced p (Item.Settings s)
by_item p (Item.Gain t) = advanced p (Item.Gain t)
by_item p (Item.Gap q) = advanced p (Item.Gap q)
by_item p (Item.Rows count commands pilots) = advanced p (Item.Rows count commands pilots)
by_item p (Item.Unreadable) = none

unfoldable pub taken : Progress → List Item → Advance
taken p [] = when ltb 1 p.stage then to p else none
taken p (i ∷ rest) = onto (by_item p i) (λ next. taken next rest)

unread_all : {n : ℕ} {q : Progress} → unreadable n ≡ all q → ⊥
unread_all e = let z : ◌≡◌ {A = ℕ} 0 1 = cc in omega arith

pub none_to : {q : Progress} → none ≡ to q → ⊥
none_to e = let z : ◌≡◌ {A = ℕ} 0 1 = cc in omega arith

same_all : {p q : Progress} → ◌≡◌ {A = Read} (all p) (all q) → p ≡ q
same_all e = cc

pub same_to : {p q : Progress} → ◌≡◌ {A = Advance} (to p) (to q) → p ≡ q
same_to e = cc

-- ---- from the lines to the items

ended_there : (b : Bool) (n : ℕ) (p : Progress) {q : Progress} → (when b then all p else unreadable n) ≡ all q → (when b then to p else none) ≡ to q
ended_there true n p e = ap to (same_all e)
ended_there false n p e = absurd (unread_all e)

onto_there : (a : Advance) (n : ℕ) (f : Progress → Read) (g : Progress → Advance) {q : Progress} {C : Type 0} →
    ((p : Progress) → f p ≡ all q → C × (g p ≡ to q)) → gone a n f ≡ all q → C × (onto a g ≡ to q)
onto_there (to p) n f g h e = h p e
onto_there (none) n f g h e = absurd (unread_all e)

item_there : (p : Progress) (n : ℕ) (i : Item) (f : Progress → Read) (rest : List Item) {q : Progress} {C : Type 0} →
    ((p : Progress) → f p ≡ all q → C × (taken p rest ≡ to q)) → gone (advanced p i) n f ≡ all q → C × (taken p (told i rest) ≡ to q)
unfolding taken advanced
item_there p n (Item.Blank) f rest h e = h p e
item_there p n (Item.Settings s) f rest h e = onto_there (advanced p (Item.Settings s)) n f (λ next. taken next rest) h e
item_there p n (Item.Gain t) f rest h e = onto_there (advanced p (Item.Gain t)) n f (λ next. taken next rest) h e
item_there p n (Item.Gap g) f rest h e = onto_there (advanced p (Item.Gap g)) n f (λ next. taken next rest) h e
item_there p n (Item.Rows c k l) f rest h e = onto_there (advanced p (Item.Rows c k l)) n f (λ next. taken next rest) h e
item_there p n (Item.Unreadable) f rest h e = absurd (unread_all e)

clear_there : (b : Bool) (n : ℕ) (x : Read) {q : Progress} → (when not b then unreadable n else x) ≡ all q → (b ≡ true) × (x ≡ all q)
clear_there true n x e = (refl, e)
clear_there false n x e = absurd (unread_all e)

pub items_there : (p : Progress) (n : ℕ) (lines : List (List ℕ)) {q : Progress} → read_from p n lines ≡ all q →
    AllClear lines × (taken p (items_of lines) ≡ to q)
unfolding read_from closed AllClear items_of taken
items_there p n [] e = (tt, ended_there (ltb 1 p.stage) n p e)
items_there p n (l ∷ rest) {q} e =
    let c = clear_there (clear l) n (gone (advanced p (item_of (words_of (uncommented l)))) n (λ next. read_from next (n + 1) rest)) e in
    let r =
    item_there p n (item_of (words_of (uncommented l))) (λ next. read_from next (n + 1) rest) (items_of rest)
    (λ next f. items_there next (n + 1) rest f) c.1
    in
    ((c.0, r.0), r.1)

-- ---- and back

ended_back : (b : Bool) (n : ℕ) (p : Progress) {q : Progress} → (when b then to p else none) ≡ to q → (when b then all p else unreadable n) ≡ all q
ended_back true n p e = ap all (same_to e)
ended_back false n p e = absurd (none_to e)

onto_back : (a : Advance) (n : ℕ) (f : Progress → Read) (g : Progress → Advance) {q : Progress} →
    ((p : Progress) → g p ≡ to q → f p ≡ all q) → onto a g ≡ to q → gone a n f ≡ all q
onto_back (to p) n f g h e = h p e
onto_back (none) n f g h e = absurd (none_to e)

item_back : (p : Progress) (n : ℕ) (i : Item) (f : Progress → Read) (rest : List Item) {q : Progress} →
    ((p : Progress) → taken p rest ≡ to q → f p ≡ all q) → taken p (told i rest) ≡ to q → gone (advanced p i) n f ≡ all q
unfolding taken advanced
item_back p n (Item.Blank) f rest h e = h p e
item_back p n (Item.Settings s) f rest h e = onto_back (advanced p (Item.Settings s)) n f (λ next. taken next rest) h e
item_back p n (Item.Gain t) f rest h e = onto_back (advanced p (Item.Gain t)) n f (λ next. taken next rest) h e
item_back p n (Item.Gap g) f rest h e = onto_back (advanced p (Item.Gap g)) n f (λ next. taken next rest) h e
item_back p n (Item.Rows c k l) f rest h e = onto_back (advanced p (Item.Rows c k l)) n f (λ next. taken next rest) h e
item_back p n (Item.Unreadable) f rest h e = absurd (none_to e)

clear_back : (b : Bool) (n : ℕ) (x : Read) {q : Progress} → b ≡ true → x ≡ all q → (when not b then unreadable n else x) ≡ all q
clear_back b n x c e = rw c e

pub items_back : (p : Progress) (n : ℕ) (lines : List (List ℕ)) {q : Progress} → AllClear lines → taken p (items_of lines) ≡ to q →
    read_from p n lines ≡ all q
unfolding read_from closed AllClear items_of taken
items_back p n [] c e = ended_back (ltb 1 p.stage) n p e
items_back p n (l ∷ rest) c e =
    clear_back (clear l) n _ c.0
    (item_back p n (item_of (words_of (uncommented l))) (λ next. read_from next (n + 1) rest) (items_of rest)
    (λ next f. items_back next (n + 1) rest c.1 f) e)
