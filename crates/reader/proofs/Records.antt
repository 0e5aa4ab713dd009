-- What is written as a line is read as its record: the head, a cell, a record over cells. Rests on specs/Texts, Numerals and Fields.
use mathlib.Core.Path.{◌≡◌, refl, sym, ap₂, ◌∙◌}
use mathlib.Core.Bool.{Bool, true, false, cond, and-eq-true_iff}
use mathlib.Core.List.{◌∷◌, ◌++◌}
use Prim.Native.Nat.{ℕ, ◌^◌, ◌≤◌, ◌<◌}
use native.Mathlib.Omega.{arith}
use lib.Dec.{eqb}
use lib.ListN.{length, length-append}
use borrow.Author.Tests.{ne_eqb}
use Rattle.ladder.specs.Ordinal as L
use Rattle.arith.specs.declared.interval.Interval.{Interval}
use Rattle.arith.specs.Formats.{binary, fits32, fits64, format_of, is_finite}
use Rattle.arith.specs.Intervals.{ends_finite}
use Rattle.sheet.specs.declared.kept.Record.{Record}
use Rattle.sheet.specs.declared.kind.Kind.{Kind}
use Rattle.sheet.specs.declared.kind.Kind.TheVariants.{Sum, Diff, Neg}
use Rattle.sheet.specs.Kinds.{kind_of}
use Rattle.sheet.specs.Faults.{cell_fault}
use Rattle.arith.proofs.Formats.{finite_fits}
use Rattle.sheet.proofs.Cells.{fault_free}
use Rattle.sheet.proofs.Records.{Kinded, a_sum, a_diff, a_neg, kinded}
use Rattle.reader.specs.Bytes.{index_of, before, after, is_same}
use Rattle.reader.specs.Numbers.{digits_for}
use Rattle.reader.specs.Digits.{digits_of, decimal_of, hex_of}
use Rattle.reader.specs.Lines.{tab, feed, head_from, cell_from, triple_from, pair_from, head_in, cell_in, triple_in, pair_in, record_in, line_of}
use Rattle.reader.specs.Texts.{head_text, cell_text, pair_text, triple_text, kind_text, record_text}
use Rattle.std.specs.Prelude.{Some, Ok}
use Rattle.reader.specs.declared.entry.Entry.TheVariants as Entry
use Rattle.reader.proofs.Numerals.{numeral_back, pattern_back, decimal_short, digits_length}
use Rattle.reader.proofs.Fields.{Free, free_append, before_free, after_free, decimal_free, hex_free}

-- ---- patterns have room in their digits
pattern_small : (w p : ℕ) → is_finite (format_of w) p ≡ true → p < 16 ^ digits_for w
unfolding digits_for L.sign
pattern_small w p = go (eqb w 32)
  where
    go : (t : Bool) → is_finite (cond t (binary 23 8 fits32) (binary 52 11 fits64)) p ≡ true → p < 16 ^ cond t 8 16
    go true h = finite_fits (binary 23 8 fits32) fits32 p h
    go false h = finite_fits (binary 52 11 fits64) fits64 p h

-- both ends of a cell without a fault
pub record Small (w : ℕ) (I : Interval) : Type 0 where
  pub low : I.low < 16 ^ digits_for w
  pub high : I.high < 16 ^ digits_for w

pub cell_small : (w : ℕ) (I : Interval) → cell_fault w I ≡ Ok tt → Small w I
unfolding ends_finite
cell_small w I z =
    let e = (and-eq-true_iff (is_finite (format_of w) I.low) (is_finite (format_of w) I.high)).0 (fault_free w I z).finite in
    record { low = pattern_small w I.low e.0; high = pattern_small w I.high e.1 }

-- ---- the head
head_fields : (w m : ℕ) → w < 100000 → m < 100000 → head_in (decimal_of w ++ (tab ∷ decimal_of m)) ≡ Some (Entry.Head w m)
unfolding head_in head_from
head_fields w m h k =
    let f = decimal_free tab w (omega arith) in
    rw (before_free tab (decimal_of w) (decimal_of m) f, after_free tab (decimal_of w) (decimal_of m) f, numeral_back w h, numeral_back m k)

pub head_back : (kept w m : ℕ) → w < 100000 → m < 100000 → line_of 0 kept (head_text w m) ≡ Some (Entry.Head w m)
unfolding line_of head_text before after index_of is_same
head_back kept w m h k = head_fields w m h k

-- ---- a cell
cell_fields : (w : ℕ) (I : Interval) → Small w I → cell_in w (hex_of w I.low ++ (tab ∷ hex_of w I.high)) ≡ Some (Entry.Cell I)
unfolding cell_in cell_from
cell_fields w I s =
    let f = hex_free tab w I.low (omega arith) in
    rw (before_free tab (hex_of w I.low) (hex_of w I.high) f, after_free tab (hex_of w I.low) (hex_of w I.high) f, pattern_back w I.low s.low, pattern_back w I.high s.high)

pub cell_back : (at w : ℕ) (I : Interval) → 0 < at → Small w I → line_of at w (cell_text w I) ≡ Some (Entry.Cell I)
unfolding line_of cell_text before after index_of is_same
cell_back at w I p s = rw (ne_eqb at 0 (λ e. omega arith)) (cell_fields w I s)

-- ---- a record over cells, of a known kind and with short numbers
pub record Few (t : Record) : Type 0 where
  pub x : t.x < 100000
  pub a : t.a < 100000
  pub b : t.b < 100000
  pub third : kind_of t.kind ≡ Neg → t.b ≡ 0
  pub kind : t.kind < 3

triple_fields : (k : ℕ) (t : Record) → Few t → triple_in k (triple_text t) ≡ Some (Entry.Record (record { kind = k; x = t.x; a = t.a; b = t.b }))
unfolding triple_in triple_from
triple_fields k t s =
    let f = decimal_free tab t.x (omega arith) in
    let g = decimal_free tab t.a (omega arith) in
    rw (
      before_free tab (decimal_of t.x) (pair_text t.a t.b) f,
      after_free tab (decimal_of t.x) (pair_text t.a t.b) f,
      before_free tab (decimal_of t.a) (decimal_of t.b) g,
      after_free tab (decimal_of t.a) (decimal_of t.b) g,
      numeral_back t.x s.x,
      numeral_back t.a s.a,
      numeral_back t.b s.b,
    )

pair_fields : (t : Record) → Few t → pair_in (pair_text t.x t.a) ≡ Some (Entry.Record (record { kind = 2; x = t.x; a = t.a; b = 0 }))
unfolding pair_in pair_from
pair_fields t s =
    let f = decimal_free tab t.x (omega arith) in
    rw (before_free tab (decimal_of t.x) (decimal_of t.a) f, after_free tab (decimal_of t.x) (decimal_of t.a) f, numeral_back t.x s.x, numeral_back t.a s.a)

-- with the number of the kind
as_read : (t : Record) (k b : ℕ) → k ≡ t.kind → b ≡ t.b → Some (Entry.Record (record { kind = k; x = t.x; a = t.a; b = b })) ≡ Some (Entry.Record t)
as_read t k b h q = ap₂ (λ (n m : ℕ). Some (Entry.Record (record { kind = n; x = t.x; a = t.a; b = m }))) h q

kind_back : (at w : ℕ) (t : Record) → 0 < at → Few t → Kinded t.kind → line_of at w (kind_text (kind_of t.kind) t) ≡ Some (Entry.Record t)
unfolding line_of record_in before after index_of is_same
kind_back at w t p s (a_sum z k) = rw (k, ne_eqb at 0 (λ e. omega arith)) (triple_fields 0 t s ∙ as_read t 0 t.b (sym z) refl)
kind_back at w t p s (a_diff z k) = rw (k, ne_eqb at 0 (λ e. omega arith)) (triple_fields 1 t s ∙ as_read t 1 t.b (sym z) refl)
kind_back at w t p s (a_neg l k) = rw (k, ne_eqb at 0 (λ e. omega arith)) (pair_fields t s ∙ as_read t 2 0 (omega (arith, l, s.kind)) (sym (s.third k)))

pub record_back : (at w : ℕ) (t : Record) → 0 < at → Few t → line_of at w (record_text t) ≡ Some (Entry.Record t)
unfolding record_text
record_back at w t p s = kind_back at w t p s (kinded t.kind)

-- ---- no line holds a line feed
digits_only : (n : ℕ) → Free feed (decimal_of n)
digits_only n = decimal_free feed n (omega arith)

pub head_free : (w m : ℕ) → Free feed (head_text w m)
unfolding head_text
head_free w m =
    (λ e. omega arith, (λ e. omega arith, (λ e. omega arith, (λ e. omega arith, (λ e. omega arith, (λ e. omega arith, free_append feed (decimal_of w) (tab ∷ decimal_of m) (digits_only w) (λ e. omega arith, digits_only m)))))))

pub cell_free : (w : ℕ) (I : Interval) → Free feed (cell_text w I)
unfolding cell_text
cell_free w I =
    (λ e. omega arith, (λ e. omega arith, (λ e. omega arith, (λ e. omega arith, (λ e. omega arith, free_append feed (hex_of w I.low) (tab ∷ hex_of w I.high) (hex_free feed w I.low (omega arith)) (λ e. omega arith, hex_free feed w I.high (omega arith)))))))

pair_free : (x a : ℕ) → Free feed (pair_text x a)
pair_free x a = free_append feed (decimal_of x) (tab ∷ decimal_of a) (digits_only x) (λ e. omega arith, digits_only a)

triple_free : (t : Record) → Free feed (triple_text t)
triple_free t = free_append feed (decimal_of t.x) (tab ∷ pair_text t.a t.b) (digits_only t.x) (λ e. omega arith, pair_free t.a t.b)

kind_free : (k : Kind) (t : Record) → Free feed (kind_text k t)
kind_free Sum t = (λ e. omega arith, (λ e. omega arith, (λ e. omega arith, (λ e. omega arith, triple_free t))))
kind_free Diff t = (λ e. omega arith, (λ e. omega arith, (λ e. omega arith, (λ e. omega arith, (λ e. omega arith, triple_free t)))))
kind_free Neg t = (λ e. omega arith, (λ e. omega arith, (λ e. omega arith, (λ e. omega arith, pair_free t.x t.a))))

pub record_free : (t : Record) → Free feed (record_text t)
unfolding record_text
record_free t = kind_free (kind_of t.kind) t

-- ---- and none is long
pub head_length : (w m : ℕ) → w < 100000 → m < 100000 → length (head_text w m) ≤ 17
unfolding head_text
head_length w m h k = simp length-append (omega (arith, decimal_short w h, decimal_short m k))

hex_length : (w n : ℕ) → length (hex_of w n) ≤ 16
unfolding hex_of digits_for
hex_length w n = go (eqb w 32)
  where
    go : (t : Bool) → length (digits_of 16 (cond t 8 16) n) ≤ 16
    go true = omega (arith, digits_length 16 8 n)
    go false = omega (arith, digits_length 16 16 n)

pub cell_length : (w : ℕ) (I : Interval) → length (cell_text w I) ≤ 38
unfolding cell_text
cell_length w I = simp length-append (omega (arith, hex_length w I.low, hex_length w I.high))

triple_length : (t : Record) → Few t → length (triple_text t) ≤ 17
triple_length t s = simp length-append (omega (arith, decimal_short t.x s.x, decimal_short t.a s.a, decimal_short t.b s.b))

kind_length : (k : Kind) (t : Record) → Few t → length (kind_text k t) ≤ 22
kind_length Sum t s = omega (arith, triple_length t s)
kind_length Diff t s = omega (arith, triple_length t s)
kind_length Neg t s = simp length-append (omega (arith, decimal_short t.x s.x, decimal_short t.a s.a))

pub record_length : (t : Record) → Few t → length (record_text t) ≤ 22
unfolding record_text
record_length t s = kind_length (kind_of t.kind) t s
