-- One piece more, and the end.
-- Assumes nothing.
use Rattle.std.proofs.Common.{ℕ, zero, suc, ◌+◌, ◌≡◌, ◌≤◌, ◌<◌, List, [], ◌++◌, length, take, Option, Result, Ok, Err, OnErr}
use Rattle.std.proofs.Common.{refl, sym, ap, subst, ◌∙◌, append_assoc, length-append, arith}
use Rattle.std.proofs.lemmas.List.{append-nil, take-append-le}
use Rattle.std.proofs.Math.Seq.{take-append_seam, take-append-add}
use Rattle.std.specs.Io.KnownBytes.{Appends}
use Rattle.std.proofs.KnownBytes.{Appends-nil, Appends-trans}
use Rattle.constants.specs.Sizes.{piece_least, pieces_most}
use Rattle.listing.specs.declared.Stand.{Stand}
use Rattle.listing.specs.Listing.{listing_of}
use Rattle.listing.specs.Pieces.{Written, Made, made, part_of, piece_of}
use Rattle.listing_theorems.specs.Theorems.{joined, stand_after}
use Rattle.listing_theorems.proofs.Laws.Theorems.All.{theorems}
use Rattle.printing.specs.Asks.{Begun, Printing}

-- what holds anyhow holds where a call failed
pub where_failed : {T E P : Type 0} (r : Result T E) → P → OnErr r P
where_failed (Ok x) p = tt
where_failed (Err e) p = p

abbrev count : Written → ℕ
count (Ok (n, next)) = n
count (Err n) = n

abbrev then : Written → Stand
then (Ok (n, next)) = next
then (Err n) = Stand.Over

module _ (job : List ℕ) (stand : Stand) (out : List ℕ) {n : ℕ} {next : Stand} {after : List ℕ} (room : piece_least ≤ length out) (e : made (Ok (n, next)) after ≡ piece_of job stand out) where
  pub piece_next : next ≡ (part_of job stand (length out)).next
  piece_next = ap (λ (m : Made). then m.result) (e ∙ theorems.stored job stand out room)

  pub piece_text : take n after ≡ (part_of job stand (length out)).text
  piece_text =
      let f = e ∙ theorems.stored job stand out room in
      ap (λ (m : Made). take (count m.result) m.out) f ∙ take-append_seam _ _

module _ (job : List ℕ) (size : ℕ) where
  pub printing_begins : {a : Option (List ℕ)} → piece_least ≤ size → Printing job size a a pieces_most Stand.Before
  printing_begins {a} room =
      let w = theorems.whole job (λ k. size) (λ k. room) pieces_most (omega arith) in
      record { text = []; written = Appends-nil a; joins = w.joins; ends = w.ends }

  pub printing_goes_on : {a b c : Option (List ℕ)} (more left : ℕ) {stand next : Stand} → more ≡ suc left → Printing job size a b more stand →
      next ≡ (part_of job stand size).next → Appends b c (part_of job stand size).text → Printing job size a c left next
  unfolding joined stand_after
  printing_goes_on {a} {b} {c} more left {stand} f q e w =
      let p = subst (λ k. Printing job size a b k stand) f q in
      subst (Printing job size a c left) (sym e) (record {
        text = p.text ++ (part_of job stand size).text;
        written = Appends-trans a b c _ _ p.written w;
        joins = append_assoc p.text _ _ ∙ p.joins;
        ends = p.ends;
      })

  -- a piece that was only begun leaves the listing begun
  pub printing_fails : (a b c : Option (List ℕ)) (more left : ℕ) {stand : Stand} → more ≡ suc left → Printing job size a b more stand →
      Begun b c (part_of job stand size).text → Begun a c (listing_of job)
  unfolding joined
  printing_fails a b c more left {stand} f q (n, within, w) =
      let p = subst (λ k. Printing job size a b k stand) f q in
      let part = (part_of job stand size).text in
      let rest = joined job (λ k. size) left (part_of job stand size).next in
      let whole : p.text ++ (part ++ rest) ≡ listing_of job = p.joins in
      let short : length p.text + n < length (p.text ++ (part ++ rest)) = omega (arith, length-append p.text (part ++ rest), length-append part rest) in
      let seam : p.text ++ take n part ≡ take (length p.text + n) (p.text ++ (part ++ rest)) =
      ap (λ l. p.text ++ l) (sym (take-append-le n part rest (omega arith))) ∙ sym (take-append-add p.text (part ++ rest) n) in
      subst (Begun a c) whole (length p.text + n, short, subst (Appends a c) seam (Appends-trans a b c _ _ p.written w))

  -- where no piece is left, the listing is over
  pub printing_ends : {a b : Option (List ℕ)} (left : ℕ) {stand : Stand} → left ≡ 0 → Printing job size a b left stand → stand ≡ Stand.Over
  unfolding stand_after
  printing_ends {a} {b} left {stand} e q =
      let p = subst (λ k. Printing job size a b k stand) e q in
      p.ends

  nothing_left : (left : ℕ) → joined job (λ k. size) left Stand.Over ≡ []
  unfolding joined part_of
  nothing_left zero = refl
  nothing_left (suc left) = nothing_left left

  pub printing_over : {a b : Option (List ℕ)} {left : ℕ} → Printing job size a b left Stand.Over → Appends a b (listing_of job)
  printing_over {a} {b} {left} p = subst (Appends a b) (sym (append-nil p.text) ∙ sym (ap (λ l. p.text ++ l) (nothing_left left)) ∙ p.joins) p.written
