-- Lists of bytes: the first place of a byte, what stands before and after it, how often it occurs, equality; and a part of a slice, by its bytes and its position. Assumes nothing.
use Rattle.std.specs.Prelude.{◌≡◌, ℕ, ◌+◌, Bool, List, take, drop, eqb}
use Rattle.std.specs.List.{position_or_len, count_by}
use Rattle.std.specs.Str.{bytes_eq}
use Rattle.std.specs.Borrow.{Bor}

-- the index of the first b, or the length where there is none
unfoldable pub index_of : ℕ → List ℕ → ℕ
index_of b s = position_or_len (λ x. eqb x b) s

-- what stands before the first b: all where there is none
unfoldable pub before : ℕ → List ℕ → List ℕ
before b s = take (index_of b s) s

-- what stands after the first b: nothing where there is none
unfoldable pub after : ℕ → List ℕ → List ℕ
after b s = drop (index_of b s + 1) s

-- how many elements are b
unfoldable pub count_of : ℕ → List ℕ → ℕ
count_of b s = count_by (λ x. eqb x b) s

-- whether two lists are equal
unfoldable pub is_same : List ℕ → List ℕ → Bool
is_same s t = bytes_eq s t

-- these bytes of a slice, from the index `at` on: the slice's own memory, and no copy elsewhere
pub record PartOf (slice : Bor (List ℕ)) (at : ℕ) (bytes : List ℕ) (part : Bor (List ℕ)) : Type 0 where
  pub holds : part.now ≡ bytes
  pub block : part.ref_ptr.0 ≡ slice.ref_ptr.0
  pub offset : part.ref_ptr.1 ≡ slice.ref_ptr.1 + at
