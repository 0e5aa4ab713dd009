-- The answers of opening, testing and adding, case by case: each law is one way out of a function.
-- Assumes nothing.
use Rattle.std.specs.Prelude.{Ok, Err, is_ok}
use mathlib.Core.Path.{◌≡◌, refl, sym, ap, ◌∙◌}
use mathlib.Core.Bool.{Bool, true, false, true≢false}
use mathlib.Core.List.{List}
use Prim.Native.Nat.{ℕ, ◌<◌, ◌≤◌}
use native.Mathlib.Omega.{arith}
use lib.Dec.{leb, eqb}
use borrow.Author.Tests.{eq-eqb, ne_eqb, eqb-true, le-leb, lt-leb, leb-true}
use Rattle.arith.specs.declared.refusal.Refusal.{Refusal}
use Rattle.arith.specs.declared.interval.Interval.{Interval}
use Rattle.arith.specs.declared.refusal.Reason.{Reason}
use Rattle.arith.specs.Refusals.{refusal, refusal_at}
use Rattle.sheet.specs.declared.kept.Record.{Record}
use Rattle.sheet.specs.declared.kept.Sheet.{Sheet}
use Rattle.sheet.specs.declared.kept.Kept.{Kept}
use Rattle.sheet.specs.Faults.{Fault, head_fault, cell_fault, record_fault}
use Rattle.sheet.specs.Sheets.{Answer, and_then, require, fault_at, first_fault, test_lists, test_of, tidied, add_test, kept_by, blank, open_of, accept_of}

-- ---- a fault
-- as a reply has it: a reason, or none
pub fault_none : (f : Fault) → is_ok f ≡ true → f ≡ Ok tt
fault_none (Ok u) e = refl
fault_none (Err r) e = absurd (true≢false (sym e))

-- ---- opening
module _ (width limit : ℕ) where
  pub open_refused : (r : Reason) → head_fault width limit ≡ Err r → ◌≡◌ {A = Kept} (record { sheet = blank 0 0; answer = Err (refusal r) }) (open_of width limit)
  unfolding open_of
  open_refused r e = ap (λ (f : Fault). kept_by (fault_at f 0) (blank 0 0) (blank width limit)) (sym e)

  pub opened : head_fault width limit ≡ Ok tt → ◌≡◌ {A = Kept} (record { sheet = blank width limit; answer = Ok tt }) (open_of width limit)
  unfolding open_of
  opened e = ap (λ (f : Fault). kept_by (fault_at f 0) (blank 0 0) (blank width limit)) (sym e)

-- ---- testing
module _ (width limit m n : ℕ) (cells : List Interval) (records : List Record) where
  pub test_head : (r : Reason) → head_fault width limit ≡ Err r → Err (refusal r) ≡ test_lists width limit m n cells records
  unfolding test_lists
  test_head r e = rw e

  module _ (h : head_fault width limit ≡ Ok tt) where
    pub test_many_cells : 64 < m → Err (refusal_at Reason.Full 64) ≡ test_lists width limit m n cells records
    unfolding test_lists
    test_many_cells l = rw (h, lt-leb m 64 l)

    pub test_many_records : m ≤ 64 → 128 < n → Err (refusal_at Reason.Full 128) ≡ test_lists width limit m n cells records
    unfolding test_lists
    test_many_records k l = rw (h, le-leb m 64 k, lt-leb n 128 l)

    module _ (k : m ≤ 64) (l : n ≤ 128) where
      test_rest : and_then (first_fault (cell_fault width) 0 cells) (first_fault (record_fault m) 0 records) ≡ test_lists width limit m n cells records
      unfolding test_lists
      test_rest = rw (h, le-leb m 64 k, le-leb n 128 l)

      pub test_bad_cell : (r : Refusal) → first_fault (cell_fault width) 0 cells ≡ Err r → Err r ≡ test_lists width limit m n cells records
      test_bad_cell r e = ap (λ (a : Answer). and_then a (first_fault (record_fault m) 0 records)) (sym e) ∙ test_rest

      pub test_good_cells : first_fault (cell_fault width) 0 cells ≡ Ok tt → first_fault (record_fault m) 0 records ≡ test_lists width limit m n cells records
      test_good_cells e = ap (λ (a : Answer). and_then a (first_fault (record_fault m) 0 records)) (sym e) ∙ test_rest

-- what a test that lets pass has seen
pub record AllGood (width limit m n : ℕ) (cells : List Interval) (records : List Record) : Type 0 where
  pub head : head_fault width limit ≡ Ok tt
  pub few_cells : m ≤ 64
  pub few_records : n ≤ 128
  pub cells_good : first_fault (cell_fault width) 0 cells ≡ Ok tt
  pub records_good : first_fault (record_fault m) 0 records ≡ Ok tt

and_done : (a b : Answer) → and_then a b ≡ Ok tt → (a ≡ Ok tt) × (b ≡ Ok tt)
and_done (Ok u) b e = (refl, e)
and_done (Err r) b e = absurd (let z : ◌≡◌ {A = ℕ} 0 1 = cc in omega arith)

require_done : (t : Bool) (n : Reason) (p : ℕ) → require t n p ≡ Ok tt → t ≡ true
require_done true n p e = refl
require_done false n p e = absurd (let z : ◌≡◌ {A = ℕ} 0 1 = cc in omega arith)

pub all_good : (width limit m n : ℕ) (cells : List Interval) (records : List Record) → test_lists width limit m n cells records ≡ Ok tt → AllGood width limit m n cells records
unfolding test_lists
all_good width limit m n cells records e =
    let a = and_done (fault_at (head_fault width limit) 0) _ e in
    let b = and_done (require (leb m 64) Reason.Full 64) _ a.1 in
    let c = and_done (require (leb n 128) Reason.Full 128) _ b.1 in
    let d = and_done (first_fault (cell_fault width) 0 cells) _ c.1 in
    record {
      head = fault_none _ (require_done _ _ _ a.0);
      few_cells = leb-true m 64 (require_done _ _ _ b.0);
      few_records = leb-true n 128 (require_done _ _ _ c.0);
      cells_good = d.0;
      records_good = d.1;
    }

pub passes_test : (width limit m n : ℕ) (cells : List Interval) (records : List Record) → AllGood width limit m n cells records → test_lists width limit m n cells records ≡ Ok tt
passes_test width limit m n cells records p = sym (test_good_cells width limit m n cells records p.head p.few_cells p.few_records p.cells_good) ∙ p.records_good

-- ---- adding
module _ (tested : Answer) (fault : Fault) (room : Bool) where
  pub add_tested : (r : Refusal) → tested ≡ Err r → add_test tested fault room ≡ Err r
  add_tested r e = ap (λ (a : Answer). add_test a fault room) e

  module _ (e : tested ≡ Ok tt) where
    pub add_fault : (r : Reason) → fault ≡ Err r → add_test tested fault room ≡ Err (refusal r)
    add_fault r ne = rw (e, ne)

    pub add_room : fault ≡ Ok tt → add_test tested fault room ≡ require room Reason.Full 0
    add_room z = rw (e, z)

-- what is added was tested, has no fault and finds room
pub record Admitted (tested : Answer) (fault : Fault) (room : Bool) : Type 0 where
  pub tests : tested ≡ Ok tt
  pub faultless : fault ≡ Ok tt
  pub roomy : room ≡ true

pub admitted : (tested : Answer) (fault : Fault) (room : Bool) → add_test tested fault room ≡ Ok tt → Admitted tested fault room
admitted (Err r) fault room h = absurd (let z : ◌≡◌ {A = ℕ} 0 1 = cc in omega arith)
admitted (Ok u) (Err r) room h = absurd (let z : ◌≡◌ {A = ℕ} 0 1 = cc in omega arith)
admitted (Ok u) (Ok v) true h = record { tests = refl; faultless = refl; roomy = refl }
admitted (Ok u) (Ok v) false h = absurd (let z : ◌≡◌ {A = ℕ} 0 1 = cc in omega arith)

-- a call that is refused leaves the old sheet, any other the new one
module _ (old new : Sheet) {a : Answer} where
  pub refused_old : {r : Refusal} → a ≡ Err r → ◌≡◌ {A = Kept} (record { sheet = old; answer = Err r }) (kept_by a old new)
  refused_old e = ap (λ (v : Answer). kept_by v old new) (sym e)

  pub done_new : a ≡ Ok tt → ◌≡◌ {A = Kept} (record { sheet = new; answer = Ok tt }) (kept_by a old new)
  done_new e = ap (λ (v : Answer). kept_by v old new) (sym e)

-- accepting: the answer is the test's, and what passes is tidied
kept_answer : (a : Answer) (old new : Sheet) → (kept_by a old new).answer ≡ a
kept_answer (Ok u) old new = refl
kept_answer (Err r) old new = refl

pub accept_answer : (s : Sheet) → (accept_of s).answer ≡ test_of s
unfolding accept_of
accept_answer s = kept_answer (test_of s) s (tidied s)

pub accept_sheet : (s : Sheet) → test_of s ≡ Ok tt → (accept_of s).sheet ≡ tidied s
unfolding accept_of
accept_sheet s t = ap (λ (a : Answer). (kept_by a s (tidied s)).sheet) t

pub added :
    (old new : Sheet) (tested : Answer) (fault : Fault) (room : Bool) → tested ≡ Ok tt → fault ≡ Ok tt → room ≡ true →
    ◌≡◌ {A = Kept} (record { sheet = new; answer = Ok tt }) (kept_by (add_test tested fault room) old new)
added old new tested fault room e z t = done_new old new (add_room tested fault room e z ∙ rw t)
