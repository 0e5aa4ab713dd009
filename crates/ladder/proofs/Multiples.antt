-- Multiples of a power of two: what divides a number of units divides what it rounds to, and a large value is a multiple. Also the multiple of a difference. Assumes nothing.
use mathlib.Core.Path.{◌≡◌, sym, ap, ◌∙◌, subst}
use mathlib.Core.Logic.{inl, inr}
use Prim.Native.Nat.{ℕ, suc, ◌+◌, ◌-◌, ◌*◌, ◌^◌, ◌%◌, ◌≤◌, ◌<◌, ◌∣◌}
use native.Mathlib.Nat.{mul_comm, mul-sub, dvd-mul_left, dvd-mul_left_of_dvd, dvd_trans, dvd-add, mod-eq-zero_of_dvd, mul-le-mul_right, pow-succ', mul-lt-mul_of_pos_right}
use native.Mathlib.Omega.{arith}
use lib.Arith.{digits_mod}
use lib.Pow.{pow-add, pow_pos, pow_mono}
use Rattle.ladder.specs.Magnitude.{magnitude, shift, significand}
use Rattle.ladder.specs.Rounding.{round}
use Rattle.ladder.proofs.Cases.{le_or_lt}
use Rattle.ladder.proofs.Magnitude.{parts, magnitude_parts}
use Rattle.ladder.proofs.Rounding.{floor, exact, half}

-- a difference times c
pub sub_mul : (a b c : ℕ) → (a - b) * c ≡ a * c - b * c
sub_mul a b c = mul_comm (a - b) c ∙ mul-sub c a b ∙ omega arith

-- ---- powers of two
pub pow_dvd : (j k : ℕ) → j ≤ k → 2 ^ j ∣ 2 ^ k
pow_dvd j k h = subst (λ (x : ℕ). 2 ^ j ∣ x) (sym (pow-add 2 (k - j) j) ∙ ap (λ (x : ℕ). 2 ^ x) (omega arith)) (dvd-mul_left (2 ^ j) (2 ^ (k - j)))

pub times_dvd : (j k w : ℕ) → j ≤ k → 2 ^ j ∣ w * 2 ^ k
times_dvd j k w h = dvd-mul_left_of_dvd (2 ^ j) (pow_dvd j k h) w

pub round_dvd : (f n j : ℕ) → 1 ≤ f → 2 ^ j ∣ n → 2 ^ j ∣ magnitude f (round f n)
round_dvd f n j some d =
    let a = floor f n some in
    elim (le_or_lt j a.k) [
      | inl h ↦ elim (half a.side) [
        | inl p ↦ rw (ap (magnitude f) p.0 ∙ a.here) (times_dvd j a.k a.w h)
        | inr p ↦ rw (ap (magnitude f) p.0 ∙ a.next) (dvd-add (2 ^ j) (times_dvd j a.k a.w h) (pow_dvd j a.k h))
      ]
      | inr h ↦
          let z : a.r ≡ 0 = sym (digits_mod a.w a.rest) ∙ ap (λ (x : ℕ). x % 2 ^ a.k) (sym a.is) ∙ mod-eq-zero_of_dvd (2 ^ a.k) (dvd_trans (2 ^ a.k) (pow_dvd a.k j (omega arith)) d) in
          let e : n ≡ magnitude f (round f n) = omega (arith, ap (magnitude f) (exact a.side z (pow_pos a.k))) in
          subst (λ (x : ℕ). 2 ^ j ∣ x) e d
    ]

pub magnitude_dvd : (f m k : ℕ) → 2 ^ (k + f) ≤ magnitude f m → 2 ^ k ∣ magnitude f m
magnitude_dvd f m k h =
    let s = shift f m in
    elim (le_or_lt k s) [
      | inl l ↦ rw (magnitude_parts f m) (times_dvd k s (significand f m) l)
      | inr l ↦
          let x : significand f m * 2 ^ s < 2 * 2 ^ f * 2 ^ s = mul-lt-mul_of_pos_right (parts f m).below (pow_pos s) in
          let y : 2 ^ suc s * 2 ^ f ≤ 2 ^ k * 2 ^ f = mul-le-mul_right (2 ^ f) (pow_mono l) in
          absurd (omega (arith, magnitude_parts f m, pow-add 2 k f, ap (λ (z : ℕ). z * 2 ^ f) (pow-succ' 2 s)))
    ]
