-- Line feeds counted: a line with its line feed holds one, and past it stands the next line. Rests on specs/Bytes and specs/Steps.
use mathlib.Core.Path.{◌≡◌, refl, sym}
use mathlib.Core.Bool.{Bool, true, false, cond, not}
use mathlib.Core.List.{List, [], ◌∷◌, ◌++◌}
use Prim.Native.Nat.{ℕ, suc, ◌+◌, ◌≤◌, ◌<◌}
use native.Mathlib.Omega.{arith}
use lib.Dec.{eqb}
use lib.ListN.{length, take, drop, length-take}
use lib.Seq.{take-add}
use borrow.Author.Tests.{ne_eqb}
use Rattle.std.proofs.lemmas.List.Sums.{sum_by-cons, sum_by-append, count_by-le-length}
use Rattle.reader.specs.Bytes.{index_of, count_of}
use Rattle.reader.specs.Lines.{feed}
use Rattle.reader.specs.Steps.{line_after, line_number}

module _ (b : ℕ) where
  pub count_append : (xs ys : List ℕ) → count_of b (xs ++ ys) ≡ count_of b xs + count_of b ys
  unfolding count_of
  count_append = sum_by-append (λ x. cond (eqb x b) 1 0)

  pub count_more : (x : ℕ) (xs : List ℕ) → count_of b (x ∷ xs) ≡ cond (eqb x b) 1 0 + count_of b xs
  unfolding count_of
  count_more = sum_by-cons (λ x. cond (eqb x b) 1 0)

  pub count_le : (xs : List ℕ) → count_of b xs ≤ length xs
  unfolding count_of
  count_le = count_by-le-length (λ x. eqb x b)

  -- up to the first b there is one
  count_first : (xs : List ℕ) → index_of b xs < length xs → count_of b (take (suc (index_of b xs)) xs) ≡ 1
  unfolding index_of count_of
  count_first [] h = absurd (omega arith)
  count_first (x ∷ xs) h = go (eqb x b) refl (count_first xs) h
    where
      go :
          (t : Bool) → eqb x b ≡ t → (index_of b xs < length xs → count_of b (take (suc (index_of b xs)) xs) ≡ 1) →
          cond (not t) (1 + index_of b xs) 0 < suc (length xs) → count_of b (take (suc (cond (not t) (1 + index_of b xs) 0)) (x ∷ xs)) ≡ 1
      go true e later h = rw e
      go false e later h =
          let k : 1 + index_of b xs ≡ suc (index_of b xs) = omega arith in
          rw (k, count_more x (take (suc (index_of b xs)) xs), e, later (omega arith))

-- the line after one that a text of so many bytes can have
pub line_on : (line : ℕ) → line ≤ 8193 → line_after line ≡ line + 1
unfolding line_after
line_on line h = rw (ne_eqb line 18446744073709551615 (λ e. omega arith))

-- ---- the line at a position
line_most : (text : List ℕ) (at : ℕ) → length text ≤ 8192 → line_number text at ≤ 8193
unfolding line_number
line_most text at h = omega (arith, count_le feed (take at text), length-take at text)

-- past the line there
pub line_past :
    (text : List ℕ) (at : ℕ) → length text ≤ 8192 → index_of feed (drop at text) < length (drop at text) →
    line_number text (at + index_of feed (drop at text) + 1) ≡ line_after (line_number text at)
unfolding line_number
line_past text at h l =
    let n = index_of feed (drop at text) in
    let e : at + n + 1 ≡ at + suc n = omega arith in
    rw (e, take-add at (suc n) text, count_append feed (take at text) (take (suc n) (drop at text)), count_first feed (drop at text) l)
    (sym (line_on (count_of feed (take at text) + 1) (line_most text at h)))
