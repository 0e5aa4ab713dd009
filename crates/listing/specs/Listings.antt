-- 01's listing: the lines that the program prints for a run, with the text's tabs and line feeds. Assumes nothing.
use Rattle.std.specs.Prelude.{ℕ, ◌+◌, List, [], ◌∷◌, ◌++◌, Ok, Err}
use Rattle.arith.specs.declared.interval.Interval.{Interval}
use Rattle.sheet.specs.declared.kept.Sheet.{Sheet}
use Rattle.propagation.specs.declared.narrowing.Run.{Run}
use Rattle.propagation.specs.declared.passes.Outcome.{Outcome}
use Rattle.propagation.specs.declared.passes.Outcome.TheVariants.{Settled, NoTriple, Stopped, Refused}
use Rattle.arith.specs.Refusals.{number}
use Rattle.sheet.specs.Sheets.{Answer, used_cells}
use Rattle.propagation.specs.Narrowings.{narrow_sheet_of}
use Rattle.reader.specs.Lines.{tab, feed, cell_word}
use Rattle.reader.specs.Digits.{decimal_of, hex_of}
use Rattle.reader.specs.Readings.{read_of}

-- ---- the words
-- `settled`
abbrev pub settled_word : List ℕ
settled_word = 115 ∷ 101 ∷ 116 ∷ 116 ∷ 108 ∷ 101 ∷ 100 ∷ []

-- `stopped`
abbrev pub stopped_word : List ℕ
stopped_word = 115 ∷ 116 ∷ 111 ∷ 112 ∷ 112 ∷ 101 ∷ 100 ∷ []

-- `none`
abbrev pub none_word : List ℕ
none_word = 110 ∷ 111 ∷ 110 ∷ 101 ∷ []

-- `refused`
abbrev pub refused_word : List ℕ
refused_word = 114 ∷ 101 ∷ 102 ∷ 117 ∷ 115 ∷ 101 ∷ 100 ∷ []

-- ---- the lines
-- a word, a tab, a number and the byte after it
abbrev pub worded : List ℕ → ℕ → ℕ → List ℕ
worded word n last = word ++ (tab ∷ (decimal_of n ++ (last ∷ [])))

-- a line of a word and two numbers
abbrev pub pair_line : List ℕ → ℕ → ℕ → List ℕ
pair_line word n m = worded word n tab ++ (decimal_of m ++ (feed ∷ []))

-- a `cell` line: number, low, high
unfoldable pub cell_line : ℕ → ℕ → Interval → List ℕ
cell_line width i I = cell_word ++ (tab ∷ (decimal_of i ++ (tab ∷ (hex_of width I.low ++ (tab ∷ (hex_of width I.high ++ (feed ∷ [])))))))

-- the lines of cells numbered from i on
unfoldable pub cell_lines : ℕ → ℕ → List Interval → List ℕ
cell_lines width i [] = []
cell_lines width i (I ∷ Is) = cell_line width i I ++ cell_lines width (i + 1) Is

-- ---- the listing of an outcome: `settled` or `stopped` with the passes made and the cells; `none` with pass and record; `refused` with number and place
unfoldable pub lines_of : Outcome → ℕ → List Interval → List ℕ
lines_of (Settled p) width cells = worded settled_word p feed ++ cell_lines width 0 cells
lines_of (NoTriple p k) width cells = pair_line none_word p k
lines_of (Stopped p) width cells = worded stopped_word p feed ++ cell_lines width 0 cells
lines_of (Refused r) width cells = pair_line refused_word (number r.reason) r.place

-- the listing of a run: the cells in use are those of the sheet it leaves
abbrev pub listing_of : Run → List ℕ
listing_of run = lines_of run.outcome run.sheet.width (used_cells run.sheet)

-- ---- a text: the run of its sheet, or its refusal, whose place is the line
abbrev pub run_for : Sheet → Answer → Run
run_for s (Ok u) = narrow_sheet_of s
run_for s (Err r) = record { sheet = s; outcome = Refused r }

-- the run of a text
unfoldable pub run_of : List ℕ → Run
run_of text = run_for (read_of text).sheet (read_of text).answer
