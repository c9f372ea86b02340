-- A file of which bytes are left out: its contents state lengths that it no longer has.
-- Assumes nothing.
use Rattle.std.specs.Prelude.{ℕ, ◌+◌, ◌%◌, ◌≤◌, ◌<◌, ◌≡◌, List, ltb, length, take, Ok, Err}
use Rattle.std.proofs.Common.{sym, ◌∙◌, ap, arith, ltb-true, ltb-false, lit<, get_or-take}
use Rattle.std.proofs.Math.ListN.{get_or}
use Rattle.ground.specs.Choice.{when◌then◌else◌}
use Rattle.ground.proofs.Laws.Choice.{either}
use Rattle.constants.specs.Refusals.{refusal, wrong_contents}
use Rattle.constants.specs.Sizes.{file_most, contents_bytes, settings_bytes, record_bytes}
use Rattle.job_contents.specs.declared.Entry.{Entry}
use Rattle.job_contents.specs.declared.Bodies.{Bodies}
use Rattle.job_contents.specs.Contents.{entry_at, first, second, third, end_of, contents_of, Headed, FirstRight, SecondRight, ContentsSay}
use Rattle.job_contents.proofs.Laws.Contents.{contents_exactly, contents_lie, contents_whole}

module _ (j k : List ℕ) (same : take contents_bytes j ≡ take contents_bytes k) where
  same_byte : (i : ℕ) → i < contents_bytes → get_or j i 0 ≡ get_or k i 0
  same_byte i h = sym (get_or-take contents_bytes j i 0 h) ∙ ap (λ (l : List ℕ). get_or l i 0) same ∙ get_or-take contents_bytes k i 0 h

  -- an entry is its nine bytes
  same_entry : (at : ℕ) → at + 9 ≤ contents_bytes → entry_at j at ≡ entry_at k at
  unfolding entry_at
  same_entry at h =
      let byte : (i : ℕ) → i < at + 9 → get_or j i 0 ≡ get_or k i 0 = λ i b. same_byte i (omega arith) in
      rw (
        byte at (omega arith),
        byte (at + 1) (omega arith),
        byte (at + 1 + 1) (omega arith),
        byte (at + 1 + 2) (omega arith),
        byte (at + 1 + 3) (omega arith),
        byte (at + 5) (omega arith),
        byte (at + 5 + 1) (omega arith),
        byte (at + 5 + 2) (omega arith),
        byte (at + 5 + 3) (omega arith),
      )

  -- field by field
  record Alike (d e : Entry) : Type 0 where
    kinds : d.kind ≡ e.kind
    offsets : d.offset ≡ e.offset
    lengths : d.length ≡ e.length

  alike_at : (at : ℕ) → at + 9 ≤ contents_bytes → Alike (entry_at j at) (entry_at k at)
  alike_at at h =
      let e = same_entry at h in
      record { kinds = ap (λ (x : Entry). x.kind) e; offsets = ap (λ (x : Entry). x.offset) e; lengths = ap (λ (x : Entry). x.length) e }

  one : Alike (first j) (first k)
  one = alike_at 2 (omega arith)

  two : Alike (second j) (second k)
  two = alike_at 11 (omega arith)

  three : Alike (third j) (third k)
  three = alike_at 20 (omega arith)

  -- two files with one table of contents are equally long where the bodies of both are found
  pub one_length : {b c : Bodies} → contents_of j ≡ Ok b → contents_of k ≡ Ok c → length j ≡ length k
  one_length e f =
      let l = contents_lie j e in
      let m = contents_lie k f in
      omega (arith, l.first, l.settings, l.records, l.rows, m.first, m.settings, m.records, m.rows, two.lengths, three.lengths)

  -- what is right of the head, and of an entry whose body still ends inside the file, stays right
  still_headed : contents_bytes ≤ length k → Headed j → Headed k
  still_headed h w = record { long = h; byte_0 = sym (same_byte 0 (lit< tt)) ∙ w.byte_0; byte_1 = sym (same_byte 1 (lit< tt)) ∙ w.byte_1 }

  still_first : contents_bytes + settings_bytes ≤ length k → FirstRight j → FirstRight k
  still_first h w =
      record {
        entry = record {
          its_kind = sym one.kinds ∙ w.entry.its_kind;
          its_offset = sym one.offsets ∙ w.entry.its_offset;
          inside = omega (arith, one.offsets, one.lengths, w.entry.its_offset, w.twelve);
        };
        twelve = sym one.lengths ∙ w.twelve;
      }

  still_second : end_of (second j) ≤ length k → SecondRight j → SecondRight k
  still_second h w =
      record {
        entry = record {
          its_kind = sym two.kinds ∙ w.entry.its_kind;
          its_offset = omega (arith, one.offsets, one.lengths, two.offsets, w.entry.its_offset);
          inside = omega (arith, two.offsets, two.lengths);
        };
        whole = ap (λ (n : ℕ). n % record_bytes) (sym two.lengths) ∙ w.whole;
      }

  -- and a shorter file that has its settings is refused: where the second body no longer ends inside it, or else the third
  pub shorter : {b : Bodies} → contents_of j ≡ Ok b → contents_bytes + settings_bytes ≤ length k → length k < length j →
      contents_of k ≡ Err (refusal wrong_contents (when ltb (length k) b.rows then 2 else 3))
  shorter {b} e h less =
      let w = contents_whole j e in
      let l = contents_lie j e in
      let few : length k ≤ file_most = omega (arith, w.few) in
      let headed = still_headed (omega arith) w.headed in
      let right = still_first h w.first_right in
      let f = w.first_right in
      let ends : end_of (second j) ≡ b.rows =
      omega (arith, l.first, l.settings, l.records, f.entry.its_offset, f.twelve, w.second_right.entry.its_offset) in
      either (λ (n : ℕ). contents_of k ≡ Err (refusal wrong_contents n)) (ltb (length k) b.rows)
      (λ c. (contents_exactly k (Err (refusal wrong_contents 2))).1 (ContentsSay.second_wrong few headed right
      (λ z. let y : ⊥ = omega (arith, z.entry.inside, ltb-true (length k) b.rows c, ends, two.offsets, two.lengths) in y)))
      (λ c. (contents_exactly k (Err (refusal wrong_contents 3))).1 (ContentsSay.third_wrong few headed right
      (still_second (omega (arith, ltb-false (length k) b.rows c, ends)) w.second_right)
      (λ z. let y : ⊥ = omega (arith, z.last, w.third_right.last, three.offsets, three.lengths) in y)))
