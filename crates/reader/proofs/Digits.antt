-- Laws by which the loop over digits goes: one digit more, and that the value fits where the whole number does. Rests on specs/Numbers.
use mathlib.Core.Path.{◌≡◌}
use mathlib.Core.List.{List}
use Prim.Native.Nat.{ℕ, ◌+◌, ◌*◌, ◌^◌, ◌≤◌, ◌<◌}
use native.Mathlib.Nat.{pow-suc, mul-le-mul_right, pow-le-pow_right}
use native.Mathlib.Numerals.{add-one}
use native.Mathlib.Omega.{arith}
use lib.ListN.{length, get_or, drop, drop_of_length-le}
use lib.Seq.{drop-cons}
use borrow.Author.Tests.{lt-ltb, le-ltb}
use Rattle.std.specs.Prelude.{Some, None}
use Rattle.reader.specs.Numbers.{digit_of, value_from}

module _ (base v : ℕ) (s : List ℕ) (i : ℕ) where
  pub value_on : (d : ℕ) → i < length s → digit_of (get_or s i 0) ≡ Some d → d < base → value_from base v (drop i s) ≡ value_from base (v * base + d) (drop (i + 1) s)
  unfolding value_from
  value_on d h e f = rw (add-one, drop-cons s i 0, e, lt-ltb d base f)

  pub value_off : (d : ℕ) → i < length s → digit_of (get_or s i 0) ≡ Some d → base ≤ d → value_from base v (drop i s) ≡ None
  unfolding value_from
  value_off d h e f = rw (drop-cons s i 0, e, le-ltb d base f)

  pub value_bad : i < length s → digit_of (get_or s i 0) ≡ None → value_from base v (drop i s) ≡ None
  unfolding value_from
  value_bad h e = rw (drop-cons s i 0, e)

  pub value_end : length s ≤ i → value_from base v (drop i s) ≡ Some v
  unfolding value_from
  value_end h = rw (drop_of_length-le s h)

-- one more digit keeps the value below the next power
pub digit_below : (base v d i : ℕ) → v < base ^ i → d < base → v * base + d < base ^ (i + 1)
digit_below base v d i h e = rw (add-one i, pow-suc base i) (omega (arith, mul-le-mul_right base h))

-- and fits where a number of n digits does
pub digit_fits : (base v d i n : ℕ) → v < base ^ i → d < base → i < n → base ^ n ≤ 2 ^ 64 → v * base + d < 2 ^ 64
digit_fits base v d i n h e k f =
    let p : 0 < base = omega arith in
    let q : i + 1 ≤ n = omega arith in
    omega (arith, digit_below base v d i h e, pow-le-pow_right p q)

-- sixteen hexadecimal digits fit
pub hex_fits : (n : ℕ) → n ≤ 16 → 16 ^ n ≤ 2 ^ 64
hex_fits n h = let p : 0 < 16 = omega arith in omega (arith, pow-le-pow_right p h)
