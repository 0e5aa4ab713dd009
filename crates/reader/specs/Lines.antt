-- The lines of 01's text, without their line feeds: fields parted by one tab, the first field a word. Assumes nothing.
use Rattle.std.specs.Prelude.{ℕ, cond, List, [], ◌∷◌, eqb, Option, Some, None}
use Rattle.reader.specs.Bytes.{before, after, is_same}
use Rattle.reader.specs.Numbers.{numeral_of, pattern_of}
use Rattle.reader.specs.declared.entry.Entry.{Entry}
use Rattle.reader.specs.declared.entry.Entry.TheVariants.{Head, Cell, Record}

-- the byte that parts fields
abbrev pub tab : ℕ
tab = 9

-- the line feed, which ends lines
abbrev pub feed : ℕ
feed = 10

-- the word `sheet`
abbrev pub sheet_word : List ℕ
sheet_word = 115 ∷ 104 ∷ 101 ∷ 101 ∷ 116 ∷ []

-- the word `cell`
abbrev pub cell_word : List ℕ
cell_word = 99 ∷ 101 ∷ 108 ∷ 108 ∷ []

-- the word `sum`
abbrev pub sum_word : List ℕ
sum_word = 115 ∷ 117 ∷ 109 ∷ []

-- the word `diff`
abbrev pub diff_word : List ℕ
diff_word = 100 ∷ 105 ∷ 102 ∷ 102 ∷ []

-- the word `neg`
abbrev pub neg_word : List ℕ
neg_word = 110 ∷ 101 ∷ 103 ∷ []

-- ---- a record of numbers; a field that is none makes the line malformed, which is none
-- a head: width, pass limit
unfoldable pub head_from : Option ℕ → Option ℕ → Option Entry
head_from None m = None
head_from (Some w) None = None
head_from (Some w) (Some m) = Some (Head w m)

-- a cell: low, high
unfoldable pub cell_from : Option ℕ → Option ℕ → Option Entry
cell_from None h = None
cell_from (Some l) None = None
cell_from (Some l) (Some h) = Some (Cell (record { low = l; high = h }))

-- a sum or a diff, by its kind: the cell numbers of x, a, b
unfoldable pub triple_from : ℕ → Option ℕ → Option ℕ → Option ℕ → Option Entry
triple_from kind None a b = None
triple_from kind (Some x) None b = None
triple_from kind (Some x) (Some a) None = None
triple_from kind (Some x) (Some a) (Some b) = Some (Record (record { kind = kind; x = x; a = a; b = b }))

-- a neg: the cell numbers of x and y; its third number is 0
unfoldable pub pair_from : Option ℕ → Option ℕ → Option Entry
pair_from None y = None
pair_from (Some x) None = None
pair_from (Some x) (Some y) = Some (Record (record { kind = 2; x = x; a = y; b = 0 }))

-- ---- the fields after the word. A tab too many stands in the last field, which is then no number
-- after `sheet`
unfoldable pub head_in : List ℕ → Option Entry
head_in fields = head_from (numeral_of (before tab fields)) (numeral_of (after tab fields))

-- after `cell`
unfoldable pub cell_in : ℕ → List ℕ → Option Entry
cell_in width fields = cell_from (pattern_of width (before tab fields)) (pattern_of width (after tab fields))

-- after `sum` and `diff`
unfoldable pub triple_in : ℕ → List ℕ → Option Entry
triple_in kind fields = triple_from kind (numeral_of (before tab fields)) (numeral_of (before tab (after tab fields))) (numeral_of (after tab (after tab fields)))

-- after `neg`
unfoldable pub pair_in : List ℕ → Option Entry
pair_in fields = pair_from (numeral_of (before tab fields)) (numeral_of (after tab fields))

-- ---- a record over cells by its word: kind 0 `sum`, 1 `diff`, 2 `neg`
unfoldable pub record_in : List ℕ → List ℕ → Option Entry
record_in word fields =
    cond (is_same word sum_word) (triple_in 0 fields)
    (cond (is_same word diff_word) (triple_in 1 fields)
    (cond (is_same word neg_word) (pair_in fields) None))

-- ---- a line by its word: `sheet` at position 0 and only there, `cell`, `sum`, `diff` and `neg` elsewhere
unfoldable pub line_of : ℕ → ℕ → List ℕ → Option Entry
line_of at width l =
    cond (eqb at 0)
    (cond (is_same (before tab l) sheet_word) (head_in (after tab l)) None)
    (cond (is_same (before tab l) cell_word) (cell_in width (after tab l)) (record_in (before tab l) (after tab l)))
