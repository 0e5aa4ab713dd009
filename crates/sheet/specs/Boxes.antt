-- 01's boxes, by ordinals, and when one contains another. Assumes nothing.
use Rattle.std.specs.Prelude.{◌≡◌, List, ℕ, ◌<◌, ◌≤◌, length, get_or}
use Rattle.ladder.specs.Ordinal.{Finite}
use Rattle.ladder.specs.Solution.{Interval}

-- 01's box: for each cell, in their order, the ordinals of its ends
abbrev pub Box : Type 0
Box = List Interval

-- the interval of cell i
abbrev pub at : Box → ℕ → Interval
at box i = get_or box i (record { low = 0; high = 0 })

-- 01's interval: two finite ends, low not above high
pub record Proper (f e : ℕ) (I : Interval) : Type 0 where
  pub low : Finite f e I.low
  pub high : Finite f e I.high
  pub order : I.low ≤ I.high

-- 01: a box gives each of the n cells a nonempty interval
pub record IsBox (f e n : ℕ) (box : Box) : Type 0 where
  pub cells : length box ≡ n
  pub proper : (i : ℕ) → i < n → Proper f e (at box i)

-- I lies inside J
pub record Inside (J I : Interval) : Type 0 where
  pub low : J.low ≤ I.low
  pub high : I.high ≤ J.high

-- 01: one box contains another if it does so cell by cell, by place
pub record Contains (outer inner : Box) : Type 0 where
  pub cells : length inner ≡ length outer
  pub inside : (i : ℕ) → i < length outer → Inside (at outer i) (at inner i)
