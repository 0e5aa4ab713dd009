-- 01's starred narrowings: each end by its triple, each bound by one sum that is computed from the definitions, or by the multiples of a power of two. Assumes nothing.
use mathlib.Core.Path.{refl, ap, ◌∙◌, subst}
use mathlib.Core.Logic.{inl, inr}
use Prim.Native.Nat.{ℕ, ◌+◌, ◌-◌, ◌^◌, ◌<◌, ◌∣◌}
use native.Mathlib.Omega.{arith}
use lib.Dec.{lit<, lit≤}
use lib.Ieee.{size}
use Rattle.ladder.specs.Magnitude.{magnitude}
use Rattle.ladder.specs.Rounding.{excess, round}
use Rattle.ladder.specs.Ordinal.{sign, infinity, ordinal, pattern}
use Rattle.ladder.specs.Sum.{rounded, sum}
use Rattle.ladder.specs.Solution.{Interval, In, Solution}
use Rattle.ladder.specs.Narrowing.{Hull}
use Rattle.ladder.proofs.Cases.{le_or_lt}
use Rattle.ladder.proofs.Hull.{hull_narrowing, none_narrowing}
use Rattle.ladder.proofs.Solutions.{swap}
use Rattle.ladder.proofs.Granularity.{digits_free, binade_free}
use Rattle.ladder.proofs.Clamp.{coarse, not_coarse}
use Rattle.arith.specs.Intervals.{ends_finite, is_ordered}
use Rattle.arith.specs.Formats.{format_of}
use Rattle.arith.specs.Narrows.{narrow_answer}
use Rattle.arith.proofs.Callers.{narrow_valid}
use Rattle.examples.specs.Starred.{Narrowings, interval, point, all64, one64, all32, one32}
use Rattle.examples.proofs.Bounding.{triple, over, under, shown_hull, x_hull}

abbrev span : ℕ → ℕ → Interval
span l h = record { low = l; high = h }

-- ---- at width 64, on ordinals
abbrev pos : ℕ → ℕ
pos m = 2 ^ 63 + m

abbrev neg : ℕ → ℕ
neg m = 2 ^ 63 - m

abbrev all : Interval
all = span (neg 0x7FEFFFFFFFFFFFFF) (pos 0x7FEFFFFFFFFFFFFF)

abbrev pub one : Interval
one = span (pos 0x3FF0000000000000) (pos 0x3FF0000000000000)

absorbed : Hull 52 11 all one one (span (neg 0x3C90000000000000) (pos 0x3CA0000000000000)) one one
unfolding sum rounded round excess magnitude size sign infinity
absorbed =
    x_hull 52 11 (lit≤ tt) all one one (neg 0x3C90000000000000) (pos 0x3CA0000000000000) one.low
    (triple 52 11 all one one _ _ _ (lit≤ tt) (lit≤ tt) (lit≤ tt) (lit≤ tt) (lit≤ tt) (lit≤ tt) refl)
    (triple 52 11 all one one _ _ _ (lit≤ tt) (lit≤ tt) (lit≤ tt) (lit≤ tt) (lit≤ tt) (lit≤ tt) refl)
    refl (neg 0x3C90000000000001) (pos 0x3CA0000000000001) refl refl (lit< tt) (lit< tt)

abbrev two : Interval
two = span (pos 0x4000000000000000) (pos 0x4000000000000001)

gap : Hull 52 11 all two one (span (neg 0x3FF0000000000002) (neg 0x3FEFFFFFFFFFFFFF)) two one
unfolding sum rounded round excess magnitude size sign infinity
gap =
    x_hull 52 11 (lit≤ tt) all two one (neg 0x3FF0000000000002) (neg 0x3FEFFFFFFFFFFFFF) one.low
    (triple 52 11 all two one _ _ _ (lit≤ tt) (lit≤ tt) (lit≤ tt) (lit≤ tt) (lit≤ tt) (lit≤ tt) refl)
    (triple 52 11 all two one _ _ _ (lit≤ tt) (lit≤ tt) (lit≤ tt) (lit≤ tt) (lit≤ tt) (lit≤ tt) refl)
    refl (neg 0x3FF0000000000003) (neg 0x3FEFFFFFFFFFFFFE) refl refl (lit< tt) (lit< tt)

-- between the two ends of x: with 2 the sum is below 1, with its successor above
abbrev odd : Interval
odd = span (neg 0x3FF0000000000001) (neg 0x3FF0000000000001)

odd_sums : (sum 52 11 two.low odd.high < one.low) × (one.high < sum 52 11 two.high odd.low)
unfolding sum rounded round excess magnitude size sign infinity
odd_sums = (lit< tt, lit< tt)

between : (x a b : ℕ) → Solution 52 11 odd two one x a b → ⊥
between x a b s =
    let t = swap s in
    let i = s.a_in in
    omega (arith, over 52 11 (lit≤ tt) two odd one two.low a x b odd_sums.0 t, under 52 11 (lit≤ tt) two odd one two.high a x b odd_sums.1 t)

-- ---- by multiples: x from 2^53 to 2^54, a from -2^54 to -2^53
abbrev large : Interval
large = span (pos 0x4340000000000000) (pos 0x4350000000000000)

abbrev small : Interval
small = span (neg 0x4350000000000000) (neg 0x4340000000000000)

even : (x a b : ℕ) → Solution 52 11 large small one x a b → ⊥
unfolding sign infinity
even x a b s =
    let t = swap s in
    let i = s.a_in in
    let l = not_coarse 52 11 (lit≤ tt) 1075 small large one (lit< tt) (record { low = lit< tt; high = lit< tt }) (digits_free 52 1023 0x3FF0000000000000 0x3FF0000000000000 (lit< tt) (lit< tt)) a x (record { low = omega (arith, t.is, t.b_in.low); high = omega (arith, t.is, t.b_in.high) }) in
    omega arith

-- ---- document 000's example
abbrev pub d_x : Interval
d_x = span (neg 0x4630000000000000) (neg 0x4330000000000000)

abbrev pub d_a : Interval
d_a = span (pos 0x3FF0000000000000) (pos 0x4630000000000000)

abbrev pub d_b : Interval
d_b = span (pos 0x3FE0000000000000) (pos 0x3FF8000000000000)

abbrev pub d_x' : Interval
d_x' = span (neg 0x433FFFFFFFFFFFFF) (neg 0x4330000000000000)

abbrev pub d_a' : Interval
d_a' = span (pos 0x4330000000000001) (pos 0x4340000000000000)

document_low : Solution 52 11 d_x d_a d_b d_x'.low d_a'.high one.low
unfolding sum rounded round excess magnitude size sign infinity
document_low = triple 52 11 d_x d_a d_b _ _ _ (lit≤ tt) (lit≤ tt) (lit≤ tt) (lit≤ tt) (lit≤ tt) (lit≤ tt) refl

document_high : Solution 52 11 d_x d_a d_b d_x'.high d_a'.low one.low
unfolding sum rounded round excess magnitude size sign infinity
document_high = triple 52 11 d_x d_a d_b _ _ _ (lit≤ tt) (lit≤ tt) (lit≤ tt) (lit≤ tt) (lit≤ tt) (lit≤ tt) refl

document_sums : (sum 52 11 (pos 0x4330000000000000) d_x.high < d_b.low) × (d_b.high < sum 52 11 (pos 0x4340000000000001) d_x'.low)
unfolding sum rounded round excess magnitude size sign infinity
document_sums = (lit< tt, lit< tt)

module _ (x a b : ℕ) (s : Solution 52 11 d_x d_a d_b x a b) where
  at : In d_b (sum 52 11 x a)
  at = record { low = omega (arith, s.is, s.b_in.low); high = omega (arith, s.is, s.b_in.high) }

  document_x : In d_x' x
  unfolding sign infinity
  document_x =
      let i = s.x_in in
      let l = not_coarse 52 11 (lit≤ tt) 1075 d_x d_a d_b (lit< tt) (record { low = lit< tt; high = lit< tt }) (digits_free 52 1023 0x3FE0000000000000 0x3FF8000000000000 (lit< tt) (lit< tt)) x a at in
      record { low = omega arith; high = i.high }

  document_a : In d_a' a
  document_a =
      let t = swap s in
      let narrow : Solution 52 11 d_a d_x' d_b a x b = record { x_in = t.x_in; a_in = document_x; b_in = t.b_in; is = t.is } in
      record { low = over 52 11 (lit≤ tt) d_a d_x d_b (pos 0x4330000000000000) a x b document_sums.0 t; high = omega (arith, under 52 11 (lit≤ tt) d_a d_x' d_b (pos 0x4340000000000001) a x b document_sums.1 narrow) }

  -- every operand is a multiple of 2^1074 units, which is 1
  document_b : In one b
  unfolding sign infinity
  document_b =
      let i = s.x_in in
      let j = s.b_in in
      let e = s.is in
      let d : 2 ^ 1074 ∣ magnitude 52 (b - 2 ^ 63) = subst (λ (z : ℕ). 2 ^ 1074 ∣ magnitude 52 (z - 2 ^ 63)) e (coarse 52 11 (lit≤ tt) 1074 x a (omega arith) (omega arith) (omega arith)) in
      elim (le_or_lt one.low b) [
        | inl l ↦ elim (le_or_lt b one.low) [
          | inl g ↦ record { low = l; high = g }
          | inr g ↦ absurd (binade_free 52 52 1022 0x10000000000001 0x18000000000000 (inr (lit≤ tt)) (lit≤ tt) (lit< tt) refl (b - 2 ^ 63) (omega arith) (omega arith) d)
        ]
        | inr l ↦ absurd (digits_free 52 1022 0x3FE0000000000000 0x3FEFFFFFFFFFFFFF (lit< tt) (lit< tt) (b - 2 ^ 63) (omega arith) (omega arith) d)
      ]

-- document 000's example
pub document : Hull 52 11 d_x d_a d_b d_x' d_a' one
document = shown_hull 52 11 (lit≤ tt) d_x d_a d_b d_x' d_a' one (record {
  x_low = record { a = _; b = _; solution = document_low };
  x_high = record { a = _; b = _; solution = document_high };
  a_low = record { x = _; b = _; solution = document_high };
  a_high = record { x = _; b = _; solution = document_low };
  b_low = record { x = _; a = _; solution = document_low };
  b_high = record { x = _; a = _; solution = document_low };
  within = λ x a b s. (document_x x a b s, document_a x a b s, document_b x a b s);
})

-- ---- at width 32
abbrev all_32 : Interval
all_32 = span (2 ^ 31 - 0x7F7FFFFF) (2 ^ 31 + 0x7F7FFFFF)

abbrev one_32 : Interval
one_32 = span (2 ^ 31 + 0x3F800000) (2 ^ 31 + 0x3F800000)

absorbed_32 : Hull 23 8 all_32 one_32 one_32 (span (2 ^ 31 - 0x33000000) (2 ^ 31 + 0x33800000)) one_32 one_32
unfolding sum rounded round excess magnitude size sign infinity
absorbed_32 =
    x_hull 23 8 (lit≤ tt) all_32 one_32 one_32 (2 ^ 31 - 0x33000000) (2 ^ 31 + 0x33800000) one_32.low
    (triple 23 8 all_32 one_32 one_32 _ _ _ (lit≤ tt) (lit≤ tt) (lit≤ tt) (lit≤ tt) (lit≤ tt) (lit≤ tt) refl)
    (triple 23 8 all_32 one_32 one_32 _ _ _ (lit≤ tt) (lit≤ tt) (lit≤ tt) (lit≤ tt) (lit≤ tt) (lit≤ tt) refl)
    refl (2 ^ 31 - 0x33000001) (2 ^ 31 + 0x33800001) refl refl (lit< tt) (lit< tt)

-- ---- the table
pub narrowings : Narrowings
unfolding ends_finite is_ordered ordinal pattern sign infinity
narrowings = record {
  absorbed = narrow_valid 64 all64 one64 one64 refl refl refl refl refl refl refl ∙ ap (narrow_answer (format_of 64)) (hull_narrowing 52 11 all one one _ _ _ absorbed);
  absorbed_32 = narrow_valid 32 all32 one32 one32 refl refl refl refl refl refl refl ∙ ap (narrow_answer (format_of 32)) (hull_narrowing 23 8 all_32 one_32 one_32 _ _ _ absorbed_32);
  gap = narrow_valid 64 all64 (interval 0x4000000000000000 0x4000000000000001) one64 refl refl refl refl refl refl refl ∙ ap (narrow_answer (format_of 64)) (hull_narrowing 52 11 all two one _ _ _ gap);
  between = narrow_valid 64 (point 0xBFF0000000000001) (interval 0x4000000000000000 0x4000000000000001) one64 refl refl refl refl refl refl refl ∙ ap (narrow_answer (format_of 64)) (none_narrowing 52 11 odd two one between);
  even = narrow_valid 64 (interval 0x4340000000000000 0x4350000000000000) (interval 0xC350000000000000 0xC340000000000000) one64 refl refl refl refl refl refl refl ∙ ap (narrow_answer (format_of 64)) (none_narrowing 52 11 large small one even);
  document_000 = narrow_valid 64 (interval 0xC630000000000000 0xC330000000000000) (interval 0x3FF0000000000000 0x4630000000000000) (interval 0x3FE0000000000000 0x3FF8000000000000) refl refl refl refl refl refl refl ∙ ap (narrow_answer (format_of 64)) (hull_narrowing 52 11 d_x d_a d_b _ _ _ document);
}
