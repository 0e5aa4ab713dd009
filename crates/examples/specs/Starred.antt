-- The table of 01's starred examples, each as an equation of the definitions. Assumes nothing.
-- Document 000 is D. Gallois-Wong, S. Boldo, P. Cuoq, Optimal Inverse Projection of Floating-Point Addition.
use Rattle.std.specs.Prelude.{◌≡◌, List, [], ◌∷◌, ℕ, length, Result, Ok, Err}
use Prim.Native.String.{String, ◌++◌}
use Rattle.arith.specs.declared.refusal.Reason.{Reason}
use Rattle.arith.specs.declared.refusal.Refusal.{Refusal}
use Rattle.arith.specs.declared.sum.Mark.{Mark}
use Rattle.arith.specs.declared.sum.Sum.{Sum}
use Rattle.arith.specs.declared.interval.Interval.{Interval}
use Rattle.arith.specs.declared.narrow.Narrowed.{Narrowed}
use Rattle.arith.specs.Refusals.{refusal}
use Rattle.arith.specs.Sums.{add_of}
use Rattle.arith.specs.Narrows.{narrow_of}
use Rattle.sheet.specs.declared.kept.Record.{Record}
use Rattle.sheet.specs.declared.kept.Sheet.{Sheet}
use Rattle.propagation.specs.declared.passes.Outcome.TheVariants.{Settled, NoTriple, Stopped}
use Rattle.sheet.specs.Sheets.{no_cell, no_record, filled}
use Rattle.propagation.specs.Narrowings.{narrow_sheet_of}
use Rattle.listing.specs.Listings.{run_of, listing_of}
use Rattle.examples.specs.Quoted.{bytes}

-- ---- sums, each with its mark and what rounding left over (02)
-- a sum: its pattern, its mark and what it leaves over
abbrev pub sum_of : ℕ → Mark → ℕ → Result Sum Refusal
sum_of p mark r = Ok (record { pattern = p; mark = mark; remainder = r })

-- 01's sums
pub record Sums : Type 0 where
  -- 1 ⊕ half an ulp: a tie, to the even 1
  pub tie : add_of 64 0x3FF0000000000000 0x3CA0000000000000 ≡ sum_of 0x3FF0000000000000 Mark.Rounded 0x3CA0000000000000
  -- a little more than half an ulp: up
  pub past_tie : add_of 64 0x3FF0000000000000 0x3CA0000000000001 ≡ sum_of 0x3FF0000000000001 Mark.Rounded 0xBC9FFFFFFFFFFFFE
  -- the smallest float twice
  pub smallest : add_of 64 0x0000000000000001 0x0000000000000001 ≡ sum_of 0x0000000000000002 Mark.Exact 0x0000000000000000
  -- the largest float and less than half its ulp
  pub largest : add_of 64 0x7FEFFFFFFFFFFFFF 0x7C80000000000000 ≡ sum_of 0x7FEFFFFFFFFFFFFF Mark.Rounded 0x7C80000000000000
  -- the largest float and half its ulp: no finite sum
  pub too_large : add_of 64 0x7FEFFFFFFFFFFFFF 0x7C90000000000000 ≡ Err (refusal Reason.Overflow)
  -- the tie at width 32
  pub tie_32 : add_of 32 0x3F800000 0x33800000 ≡ sum_of 0x3F800000 Mark.Rounded 0x33800000

-- ---- narrowings
-- an interval by its ends
abbrev pub interval : ℕ → ℕ → Interval
interval low high = record { low = low; high = high }

-- an interval of a single float
abbrev pub point : ℕ → Interval
point p = interval p p

-- every finite float of width 64
abbrev pub all64 : Interval
all64 = interval 0xFFEFFFFFFFFFFFFF 0x7FEFFFFFFFFFFFFF

-- 1 at width 64
abbrev pub one64 : Interval
one64 = point 0x3FF0000000000000

-- every finite float of width 32
abbrev pub all32 : Interval
all32 = interval 0xFF7FFFFF 0x7F7FFFFF

-- 1 at width 32
abbrev pub one32 : Interval
one32 = point 0x3F800000

-- a narrowing: the ends of x, a and b
abbrev pub ends : Interval → Interval → Interval → Result Narrowed Refusal
ends x a b = Ok (record { x = x; a = a; b = b })

-- 01's narrowings, in the first three x over all finite floats
pub record Narrowings : Type 0 where
  -- a = b = 1: below 1 floats are twice as dense
  pub absorbed : narrow_of 64 all64 one64 one64 ≡ ends (interval 0xBC90000000000000 0x3CA0000000000000) one64 one64
  pub absorbed_32 : narrow_of 32 all32 one32 one32 ≡ ends (interval 0xB3000000 0x33800000) one32 one32
  -- a is 2 or its successor
  pub gap : narrow_of 64 all64 (interval 0x4000000000000000 0x4000000000000001) one64 ≡ ends (interval 0xBFF0000000000002 0xBFEFFFFFFFFFFFFF) (interval 0x4000000000000000 0x4000000000000001) one64
  -- a float between the two ends that fits no triple
  pub between : narrow_of 64 (point 0xBFF0000000000001) (interval 0x4000000000000000 0x4000000000000001) one64 ≡ Err (refusal Reason.NoTriple)
  -- every such sum is even
  pub even : narrow_of 64 (interval 0x4340000000000000 0x4350000000000000) (interval 0xC350000000000000 0xC340000000000000) one64 ≡ Err (refusal Reason.NoTriple)
  -- document 000's example
  pub document_000 : narrow_of 64 (interval 0xC630000000000000 0xC330000000000000) (interval 0x3FF0000000000000 0x4630000000000000) (interval 0x3FE0000000000000 0x3FF8000000000000)
      ≡ ends (interval 0xC33FFFFFFFFFFFFF 0xC330000000000000) (interval 0x4330000000000001 0x4340000000000000) one64

-- ---- sheets
-- a sheet of width 64 with these cells and records
abbrev pub sheet : ℕ → List Interval → List Record → Sheet
sheet limit cells records =
    record {
      width = 64;
      limit = limit;
      cell_count = length cells;
      record_count = length records;
      cells = filled 64 no_cell cells (length cells);
      records = filled 128 no_record records (length records);
    }

-- a sum over three cells
abbrev pub over : ℕ → ℕ → ℕ → Record
over x a b = record { kind = 0; x = x; a = a; b = b }

-- document 000's sheet
abbrev pub sheet000 : List Interval → Sheet
sheet000 cells = sheet 10 cells (over 0 1 2 ∷ [])

-- two sums, each of which moves the other's cells
abbrev pub two_sums : ℕ → List Interval → Sheet
two_sums limit cells = sheet limit cells (over 0 1 2 ∷ over 2 3 0 ∷ [])

-- their cells: 0 and 2 from place 0 to place 10, 1 at place 1, 3 at place 0
abbrev pub two_sums_cells : List Interval
two_sums_cells = interval 0 10 ∷ point 1 ∷ interval 0 10 ∷ point 0 ∷ []

-- 01's sheets
pub record Sheets : Type 0 where
  -- document 000's example, settled by its second pass
  pub settles :
      narrow_sheet_of (sheet000 (interval 0xC630000000000000 0xC330000000000000 ∷ interval 0x3FF0000000000000 0x4630000000000000 ∷ interval 0x3FE0000000000000 0x3FF8000000000000 ∷ []))
      ≡ record { sheet = sheet000 (interval 0xC33FFFFFFFFFFFFF 0xC330000000000000 ∷ interval 0x4330000000000001 0x4340000000000000 ∷ one64 ∷ []); outcome = Settled 2 }
  -- one float a pass: five passes meet in the middle
  pub stops : narrow_sheet_of (two_sums 5 two_sums_cells) ≡ record { sheet = two_sums 5 (point 5 ∷ point 1 ∷ point 5 ∷ point 0 ∷ []); outcome = Stopped 5 }
  -- and the sixth finds no triple
  pub breaks : narrow_sheet_of (two_sums 6 two_sums_cells) ≡ record { sheet = two_sums 6 two_sums_cells; outcome = NoTriple 6 0 }

-- ---- listings
-- what the program prints for a text
abbrev pub prints : String → List ℕ
prints text = listing_of (run_of (bytes text))

-- the text of document 000's sheet
abbrev pub text000 : String
text000 = "sheet\t64\t10\ncell\tC630000000000000\tC330000000000000\ncell\t3FF0000000000000\t4630000000000000\ncell\t3FE0000000000000\t3FF8000000000000\nsum\t0\t1\t2\n"

-- the text of the two sums, below its head
abbrev pub two_sums_text : String
two_sums_text = "cell\t0000000000000000\t000000000000000A\ncell\t0000000000000001\t0000000000000001\ncell\t0000000000000000\t000000000000000A\ncell\t0000000000000000\t0000000000000000\nsum\t0\t1\t2\nsum\t2\t3\t0\n"

-- 01's texts and what is printed for them
pub record Listings : Type 0 where
  -- the whole listing
  pub whole : prints text000 ≡ bytes "settled\t2\ncell\t0\tC33FFFFFFFFFFFFF\tC330000000000000\ncell\t1\t4330000000000001\t4340000000000000\ncell\t2\t3FF0000000000000\t3FF0000000000000\n"
  -- the two sums with limit 5, and with limit 6
  pub stops : prints ("sheet\t64\t5\n" ++ two_sums_text) ≡ bytes "stopped\t5\ncell\t0\t0000000000000005\t0000000000000005\ncell\t1\t0000000000000001\t0000000000000001\ncell\t2\t0000000000000005\t0000000000000005\ncell\t3\t0000000000000000\t0000000000000000\n"
  pub breaks : prints ("sheet\t64\t6\n" ++ two_sums_text) ≡ bytes "none\t6\t0\n"

-- ---- the whole table
pub record Starred : Type 0 where
  pub sums : Sums
  pub narrowings : Narrowings
  pub sheets : Sheets
  pub listings : Listings
