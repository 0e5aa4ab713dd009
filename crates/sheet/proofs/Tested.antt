-- What the test of lists says of those that it lets pass: a known width and an allowed limit, cells that stand for a box, records over these cells;
-- and that they are let pass under every other limit that is allowed. Assumes nothing.
use Rattle.std.specs.Prelude.{Ok, Err}
use mathlib.Core.Path.{◌≡◌, refl, ◌∙◌}
use mathlib.Core.Bool.{Bool, true, false, cond}
use mathlib.Core.List.{List}
use Prim.Native.Nat.{ℕ, ◌<◌, ◌≤◌}
use native.Mathlib.Omega.{arith}
use lib.ListN.{length, get_or, length-map}
use lib.Dec.{ltb}
use borrow.Author.Tests.{ltb-false, le-ltb}
use Rattle.arith.specs.declared.interval.Interval.{Interval}
use Rattle.arith.specs.declared.refusal.Reason.{Reason}
use Rattle.arith.specs.Formats.{is_known}
use Rattle.arith.proofs.Valid.{valid_bounded}
use Rattle.sheet.specs.declared.kept.Record.{Record}
use Rattle.sheet.specs.Records.{Names}
use Rattle.sheet.specs.Boxes.{at, Proper, IsBox}
use Rattle.sheet.specs.Cells.{fraction_of, exponent_of, ordinals_of, box_of}
use Rattle.sheet.specs.Faults.{Fault, head_fault, cell_fault, record_fault}
use Rattle.sheet.specs.Sheets.{no_cell, no_record, test_lists}
use Rattle.sheet.proofs.Answers.{AllGood, all_good, passes_test}
use Rattle.sheet.proofs.Firsts.{faultless}
use Rattle.sheet.proofs.Cells.{fault_free}
use Rattle.sheet.proofs.Records.{names_of}
use Rattle.sheet.proofs.Filling.{get_d_under}

-- ---- the head
-- one without a fault: a known width, and a limit from 1 to 65,535
pub record GoodHead (width limit : ℕ) : Type 0 where
  pub known : is_known width ≡ true
  pub some : 1 ≤ limit
  pub few : limit ≤ 65535

pub good_head : (width limit : ℕ) → head_fault width limit ≡ Ok tt → GoodHead width limit
unfolding head_fault
good_head width limit = go (is_known width) refl (ltb limit 1) refl (ltb 65535 limit) refl
  where
    go : (k : Bool) → is_known width ≡ k → (s : Bool) → ltb limit 1 ≡ s → (t : Bool) → ltb 65535 limit ≡ t → ◌≡◌ {A = Fault} (cond k (cond s (Err Reason.Limit) (cond t (Err Reason.Limit) (Ok tt))) (Err Reason.Width)) (Ok tt) → GoodHead width limit
    go false p s q t o e = absurd (let z : ◌≡◌ {A = ℕ} 0 1 = cc in omega arith)
    go true p true q t o e = absurd (let z : ◌≡◌ {A = ℕ} 0 1 = cc in omega arith)
    go true p false q true o e = absurd (let z : ◌≡◌ {A = ℕ} 0 1 = cc in omega arith)
    go true p false q false o e =
        let l = ltb-false limit 1 q in
        let m = ltb-false 65535 limit o in
        record { known = p; some = omega arith; few = omega arith }

head_good : (width limit : ℕ) → GoodHead width limit → head_fault width limit ≡ Ok tt
unfolding head_fault
head_good width limit g = rw (g.known, le-ltb limit 1 g.some, le-ltb 65535 limit g.few)

-- ---- the lists; m and n are their counts
pub record LetPass (width limit m n : ℕ) (cells : List Interval) (records : List Record) : Type 0 where
  pub head : GoodHead width limit
  pub few_cells : m ≤ 64
  pub few_records : n ≤ 128
  pub names : (k : ℕ) → k < length records → Names m (get_or records k no_record)
  pub box : length cells ≡ m → IsBox (fraction_of width) (exponent_of width) m (box_of width cells)

module _ (width limit m n : ℕ) (cells : List Interval) (records : List Record) (t : test_lists width limit m n cells records ≡ Ok tt) where
  seen : AllGood width limit m n cells records
  seen = all_good width limit m n cells records t

  proper : length cells ≡ m → (i : ℕ) → i < m → Proper (fraction_of width) (exponent_of width) (at (box_of width cells) i)
  proper size i l =
      let k : i < length cells = omega arith in
      let z = faultless (cell_fault width) no_cell 0 cells seen.cells_good i k in
      let g = valid_bounded width (get_or cells i no_cell) (fault_free width (get_or cells i no_cell) z) in
      rw (get_d_under (ordinals_of width) cells i no_cell (record { low = 0; high = 0 }) k) (record { low = g.0.low; high = g.0.high; order = g.1 })

  pub tested : LetPass width limit m n cells records
  tested = record {
    head = good_head width limit seen.head;
    few_cells = seen.few_cells;
    few_records = seen.few_records;
    names = λ k l. names_of m (get_or records k no_record) (faultless (record_fault m) no_record 0 records seen.records_good k l);
    box = λ size. record { cells = length-map cells (ordinals_of width) ∙ size; proper = proper size };
  }

  -- under another limit that is allowed they are let pass too
  pub tested_limit : (other : ℕ) → 1 ≤ other → other ≤ 65535 → test_lists width other m n cells records ≡ Ok tt
  tested_limit other some few =
      passes_test width other m n cells records
      (record {
        head = head_good width other (record { known = tested.head.known; some = some; few = few });
        few_cells = seen.few_cells;
        few_records = seen.few_records;
        cells_good = seen.cells_good;
        records_good = seen.records_good;
      })
