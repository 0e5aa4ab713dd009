-- Sheets by the lists of their cells and records: filled place by place, such a sheet passes its own test, and tidied it is the built one. Rests on specs/Texts and the laws of `sheet`.
use mathlib.Core.Path.{◌≡◌, refl, sym}
use mathlib.Core.List.{List, [], ◌∷◌, ◌++◌, append_assoc}
use Prim.Native.Nat.{ℕ, suc, ◌+◌, ◌-◌, ◌≤◌, ◌<◌}
use native.Mathlib.Omega.{arith}
use lib.ListN.{length, set, replicate, length-append}
use lib.Seq.{take_at, set_at}
use Rattle.arith.specs.declared.interval.Interval.{Interval}
use Rattle.sheet.specs.declared.kept.Record.{Record}
use Rattle.sheet.specs.declared.kept.Sheet.{Sheet}
use Rattle.sheet.specs.Faults.{Fault, head_fault, cell_fault, record_fault}
use Rattle.sheet.specs.Sheets.{no_cell, no_record, filled, used_cells, used_records, tidied, with_cell, with_record, first_fault, test_of_lists, test_of, Sound}
use Rattle.sheet.proofs.Answers.{all_good, passes_test}
use Rattle.sheet.proofs.Firsts.{faultless, none_found}
use Rattle.sheet.proofs.Filling.{length_filled}
use Rattle.std.specs.Prelude.{Ok}
use Rattle.reader.specs.Texts.{built}

-- ---- lists without a fault
abbrev pub Faultless : {A : Type 0} → (A → Fault) → List A → Type 0
Faultless fault [] = Unit {0}
Faultless fault (v ∷ vs) = (fault v ≡ Ok tt) × Faultless fault vs

module _ {A : Type 0} (fault : A → Fault) where
  faultless_list : (d : A) (i : ℕ) (l : List A) → first_fault fault i l ≡ Ok tt → Faultless fault l
  faultless_list d i [] e = tt
  faultless_list d i (v ∷ vs) e = (
    faultless fault d i (v ∷ vs) e 0 (omega arith),
    faultless_list d (i + 1) vs (none_found fault d (i + 1) vs (λ j h. faultless fault d i (v ∷ vs) e (suc j) (omega arith))),
  )

  first_none : (i : ℕ) (l : List A) → Faultless fault l → first_fault fault i l ≡ Ok tt
  unfolding first_fault
  first_none i [] f = refl
  first_none i (v ∷ vs) f = rw (f.0, first_none (i + 1) vs f.1)

  pub faultless_append : (xs ys : List A) → Faultless fault xs → Faultless fault ys → Faultless fault (xs ++ ys)
  faultless_append [] ys f g = g
  faultless_append (x ∷ xs) ys f g = (f.0, faultless_append xs ys f.1 g)

  pub faultless_next : (xs : List A) (y : A) (ys : List A) → Faultless fault (xs ++ (y ∷ ys)) → fault y ≡ Ok tt
  faultless_next [] y ys f = f.0
  faultless_next (x ∷ xs) y ys f = faultless_next xs y ys f.1

-- ---- what the test of such lists asks
pub record Passing (w m : ℕ) (cs : List Interval) (ts : List Record) : Type 0 where
  pub head : head_fault w m ≡ Ok tt
  pub few_cells : length cs ≤ 64
  pub few_records : length ts ≤ 128
  pub cells : Faultless (cell_fault w) cs
  pub records : Faultless (record_fault (length cs)) ts

pub lists_passing : (w m : ℕ) (cs : List Interval) (ts : List Record) → test_of_lists w m cs ts ≡ Ok tt → Passing w m cs ts
lists_passing w m cs ts e =
    let p = all_good w m (length cs) (length ts) cs ts e in
    record {
      head = p.head;
      few_cells = p.few_cells;
      few_records = p.few_records;
      cells = faultless_list (cell_fault w) no_cell 0 cs p.cells_good;
      records = faultless_list (record_fault (length cs)) no_record 0 ts p.records_good;
    }

-- ---- the sheet with these lists in its places, as they are
abbrev pub loaded : ℕ → ℕ → List Interval → List Record → Sheet
loaded w m cs ts =
    record {
      width = w;
      limit = m;
      cell_count = length cs;
      record_count = length ts;
      cells = filled 64 no_cell cs (length cs);
      records = filled 128 no_record ts (length ts);
    }

-- one more in the place that comes next
filled_more : {A : Type 0} (places : ℕ) (v a : A) (l : List A) → length l < places → set (filled places v l (length l)) (length l) a ≡ filled places v (l ++ (a ∷ [])) (length l + 1)
filled_more places v a l h =
    let n = length l in
    let m : places - n ≡ suc (places - (n + 1)) = omega arith in
    rw (m, set_at l v (replicate (places - (n + 1)) v) a n refl) (sym (append_assoc l (a ∷ []) (replicate (places - (n + 1)) v)))

pub length_more : {A : Type 0} (l : List A) (a : A) → length (l ++ (a ∷ [])) ≡ length l + 1
length_more l a = length-append l (a ∷ [])

module _ (w m : ℕ) (cs : List Interval) (ts : List Record) where
  pub load_cell : (I : Interval) → length cs < 64 → with_cell (loaded w m cs ts) I ≡ loaded w m (cs ++ (I ∷ [])) ts
  load_cell I h = rw (length_more cs I, filled_more 64 no_cell I cs h)

  pub load_record : (t : Record) → length ts < 128 → with_record (loaded w m cs ts) t ≡ loaded w m cs (ts ++ (t ∷ []))
  load_record t h = rw (length_more ts t, filled_more 128 no_record t ts h)

  used_cells_lem : used_cells (loaded w m cs ts) ≡ cs
  used_cells_lem = take_at cs (replicate (64 - length cs) no_cell) (length cs) refl

  used_records_lem : used_records (loaded w m cs ts) ≡ ts
  used_records_lem = take_at ts (replicate (128 - length ts) no_record) (length ts) refl

  pub loaded_tidied : tidied (loaded w m cs ts) ≡ built w m cs ts
  unfolding tidied
  loaded_tidied = rw (used_cells_lem, used_records_lem)

  pub loaded_passes : Passing w m cs ts → test_of (loaded w m cs ts) ≡ Ok tt
  loaded_passes g =
      passes_test w m (length cs) (length ts) (used_cells (loaded w m cs ts)) (used_records (loaded w m cs ts))
      (record {
        head = g.head;
        few_cells = g.few_cells;
        few_records = g.few_records;
        cells_good = rw used_cells_lem (first_none (cell_fault w) 0 cs g.cells);
        records_good = rw used_records_lem (first_none (record_fault (length cs)) 0 ts g.records);
      })

  pub loaded_sound : Passing w m cs ts → Sound (loaded w m cs ts)
  loaded_sound g = record {
    cells_long = length_filled 64 (length cs) no_cell cs refl g.few_cells;
    records_long = length_filled 128 (length ts) no_record ts refl g.few_records;
    passes = loaded_passes g;
  }
