-- Sheets made by opening, tidying and adding: each passes the test, and what has no fault and finds room is added. So a caller that tests faults itself is never refused.
-- Assumes nothing.
use Rattle.std.specs.Prelude.{Ok, Err}
use mathlib.Core.Path.{◌≡◌, refl, sym, ap, ◌∙◌}
use mathlib.Core.List.{List, map}
use Prim.Native.Nat.{ℕ, ◌+◌, ◌-◌, ◌<◌, ◌≤◌}
use native.Mathlib.Omega.{arith}
use native.Mathlib.Decide.{ℕ_discrete}
use lib.ListN.{length, get_or, take, set, length-set, replicate, length-take, length-map, get_or-append}
use lib.Seq.{get_or-take, get_or-set_same, get_or-set_other}
use lib.Dec.{ltb}
use borrow.Author.Tests.{lt-ltb}
use Rattle.arith.specs.declared.interval.Interval.{Interval}
use Rattle.sheet.specs.declared.kept.Record.{Record}
use Rattle.sheet.specs.declared.kept.Sheet.{Sheet}
use Rattle.sheet.specs.declared.kept.Kept.{Kept}
use Rattle.sheet.specs.Cells.{canonical_cell}
use Rattle.sheet.specs.Faults.{Fault, head_fault, cell_fault, record_fault}
use Rattle.sheet.specs.Sheets.{no_cell, no_record, blank, used_cells, used_records, tidied, first_fault, test_of, Sound, with_cell, with_record, open_of, add_cell_of, add_record_of}
use Rattle.sheet.proofs.Firsts.{faultless_at, none_found}
use Rattle.sheet.proofs.Filling.{get_d_under, length_filled}
use Rattle.sheet.proofs.Answers.{all_good, passes_test, opened, added}
use Rattle.sheet.proofs.Cells.{canonical_faultless}
use Rattle.sheet.proofs.Records.{record_more}
use Rattle.sheet.proofs.Tidied.{cells_counted, records_counted, tidied_record}

-- a sound sheet by its members: what the test asks of each
record Good (s : Sheet) : Type 0 where
  cells_long : length s.cells ≡ 64
  records_long : length s.records ≡ 128
  head : head_fault s.width s.limit ≡ Ok tt
  few_cells : s.cell_count ≤ 64
  few_records : s.record_count ≤ 128
  cells : (i : ℕ) → i < s.cell_count → cell_fault s.width (get_or s.cells i no_cell) ≡ Ok tt
  records : (k : ℕ) → k < s.record_count → record_fault s.cell_count (get_or s.records k no_record) ≡ Ok tt

good : (s : Sheet) → Sound s → Good s
good s h =
    let p = all_good s.width s.limit s.cell_count s.record_count (used_cells s) (used_records s) h.passes in
    let a = p.few_cells in
    let b = p.few_records in
    let c = h.cells_long in
    let d = h.records_long in
    record {
      cells_long = c;
      records_long = d;
      head = p.head;
      few_cells = a;
      few_records = b;
      cells = λ i l. faultless_at (cell_fault s.width) no_cell s.cells s.cell_count i (omega arith) p.cells_good l;
      records = λ k l. faultless_at (record_fault s.cell_count) no_record s.records s.record_count k (omega arith) p.records_good l;
    }

first_none : {A : Type 0} (fault : A → Fault) (d : A) (l : List A) (n : ℕ) → ((i : ℕ) → i < n → fault (get_or l i d) ≡ Ok tt) → first_fault fault 0 (take n l) ≡ Ok tt
first_none fault d l n h = none_found fault d 0 (take n l) (λ i lt. let k : i < n = omega (arith, length-take n l) in ap fault (get_or-take n l i d k) ∙ h i k)

sound : (s : Sheet) → Good s → Sound s
sound s g = record {
  cells_long = g.cells_long;
  records_long = g.records_long;
  passes = passes_test s.width s.limit s.cell_count s.record_count (used_cells s) (used_records s) (record {
    head = g.head;
    few_cells = g.few_cells;
    few_records = g.few_records;
    cells_good = first_none (cell_fault s.width) no_cell s.cells s.cell_count g.cells;
    records_good = first_none (record_fault s.cell_count) no_record s.records s.record_count g.records;
  });
}

-- ---- opening
pub open_sound : (width limit : ℕ) → head_fault width limit ≡ Ok tt → (◌≡◌ {A = Kept} (open_of width limit) (record { sheet = blank width limit; answer = Ok tt })) × Sound (blank width limit)
open_sound width limit z = (
  sym (opened width limit z),
  sound (blank width limit) (record {
    cells_long = refl;
    records_long = refl;
    head = z;
    few_cells = omega arith;
    few_records = omega arith;
    cells = λ i l. absurd (omega arith);
    records = λ k l. absurd (omega arith);
  }),
)

-- ---- tidying
module _ (s : Sheet) (h : Sound s) where
  abbrev g : Good s
  g = good s h

  cells_used : length (map (canonical_cell s.width) (used_cells s)) ≡ s.cell_count
  cells_used = length-map (used_cells s) (canonical_cell s.width) ∙ cells_counted s h.passes h.cells_long

  tidied_cell : (i : ℕ) → i < s.cell_count → get_or (tidied s).cells i no_cell ≡ canonical_cell s.width (get_or s.cells i no_cell)
  unfolding tidied
  tidied_cell i l =
      let a = cells_used in
      get_or-append (map (canonical_cell s.width) (used_cells s)) (replicate (64 - s.cell_count) no_cell) no_cell i (omega arith)
      ∙ get_d_under (canonical_cell s.width) (used_cells s) i no_cell no_cell (rw (cells_counted s h.passes h.cells_long) l)
      ∙ ap (canonical_cell s.width) (get_or-take s.cell_count s.cells i no_cell l)

  tidied_good : Good (tidied s)
  unfolding tidied
  tidied_good = record {
    cells_long = length_filled 64 s.cell_count no_cell (map (canonical_cell s.width) (used_cells s)) cells_used g.few_cells;
    records_long = length_filled 128 s.record_count no_record (used_records s) (records_counted s h.passes h.records_long) g.few_records;
    head = g.head;
    few_cells = g.few_cells;
    few_records = g.few_records;
    cells = λ i l. rw (tidied_cell i l) (canonical_faultless s.width (get_or s.cells i no_cell) (g.cells i l));
    records = λ k l. rw (tidied_record s h.records_long h.passes k l) (g.records k l);
  }

-- a sound sheet, tidied, is sound
pub tidied_sound : (s : Sheet) → Sound s → Sound (tidied s)
tidied_sound s h = sound (tidied s) (tidied_good s h)

-- ---- adding
-- a member added after the first n: what holds of them and of it holds of all
one_more : {A : Type 0} (P : A → Type 0) (l : List A) (n : ℕ) (v d : A) → n < length l → ((i : ℕ) → i < n → P (get_or l i d)) → P v → (i : ℕ) → i < n + 1 → P (get_or (set l n v) i d)
one_more P l n v d lt h p i k = go (ℕ_discrete i n)
  where
    go : Dec (i ≡ n) → P (get_or (set l n v) i d)
    go (yes e) = rw (e, get_or-set_same l n v d lt) p
    go (no e) = rw (get_or-set_other l n i v d e) (h i (omega arith))

with_cell_lem : (s : Sheet) (cell : Interval) → Good s → s.cell_count < 64 → cell_fault s.width cell ≡ Ok tt → Good (with_cell s cell)
with_cell_lem s cell g lt z =
    let a = g.cells_long in
    record {
      cells_long = length-set s.cells s.cell_count cell ∙ a;
      records_long = g.records_long;
      head = g.head;
      few_cells = omega arith;
      few_records = g.few_records;
      cells = one_more (λ c. cell_fault s.width c ≡ Ok tt) s.cells s.cell_count cell no_cell (omega arith) g.cells z;
      records = λ k l. record_more s.cell_count (get_or s.records k no_record) (g.records k l);
    }

with_record_lem : (s : Sheet) (r : Record) → Good s → s.record_count < 128 → record_fault s.cell_count r ≡ Ok tt → Good (with_record s r)
with_record_lem s r g lt z =
    let a = g.records_long in
    record {
      cells_long = g.cells_long;
      records_long = length-set s.records s.record_count r ∙ a;
      head = g.head;
      few_cells = g.few_cells;
      few_records = omega arith;
      cells = g.cells;
      records = one_more (λ t. record_fault s.cell_count t ≡ Ok tt) s.records s.record_count r no_record (omega arith) g.records z;
    }

-- a cell without a fault is added where there is room
pub add_cell_sound :
    (s : Sheet) (cell : Interval) → Sound s → cell_fault s.width cell ≡ Ok tt → s.cell_count < 64 →
    let next = with_cell (tidied s) (canonical_cell s.width cell) in
    ◌≡◌ {A = Kept} (add_cell_of s cell) (record { sheet = next; answer = Ok tt }) × Sound next
unfolding add_cell_of tidied
add_cell_sound s cell h z lt = (
  sym (added s (with_cell (tidied s) (canonical_cell s.width cell)) (test_of s) (cell_fault s.width cell) (ltb s.cell_count 64) h.passes z (lt-ltb _ _ lt)),
  sound (with_cell (tidied s) (canonical_cell s.width cell)) (with_cell_lem (tidied s) (canonical_cell s.width cell) (tidied_good s h) lt (canonical_faultless s.width cell z)),
)

-- and so is a record
pub add_record_sound :
    (s : Sheet) (r : Record) → Sound s → record_fault s.cell_count r ≡ Ok tt → s.record_count < 128 →
    let next = with_record (tidied s) r in
    ◌≡◌ {A = Kept} (add_record_of s r) (record { sheet = next; answer = Ok tt }) × Sound next
unfolding add_record_of tidied
add_record_sound s r h z lt = (
  sym (added s (with_record (tidied s) r) (test_of s) (record_fault s.cell_count r) (ltb s.record_count 128) h.passes z (lt-ltb _ _ lt)),
  sound (with_record (tidied s) r) (with_record_lem (tidied s) r (tidied_good s h) lt z),
)
