-- Rounding as the kit's lib.Ieee, its account of IEEE 754, has it for `f32` and `f64`: the bits of a rounded number of units are our m, or infinity's. Assumes nothing.
use mathlib.Core.Path.{◌≡◌, refl, sym, ap, ap₂, ◌∙◌}
use mathlib.Core.Logic.{inl, inr}
use mathlib.Core.Bool.{Bool, cond}
use Prim.Native.Nat.{ℕ, suc, ◌+◌, ◌-◌, ◌*◌, ◌/◌, ◌%◌, ◌^◌, min, ◌≤◌, compare}
use native.Mathlib.Nat.{le_refl, mul-div_cancel, pow-succ'}
use native.Mathlib.Omega.{arith}
use lib.Dec.{ltb}
use lib.Arith.{le→nltb}
use lib.Pow.{pow_pos, pow-add}
use lib.Ieee.{Float, nan, inf, fin, Format, prec, emax, low, up, down, size, odd, units, hid, ones, top, to_bits}
use lib.Ieee as I
use lib.Ieee.Fits.{two, reach, round_is, nearest-le, down_pos}
use lib.Ieee.Bits.{cond_no}
use lib.Ieee.Exact.{HasValue, units_val}
use lib.Ieee.Nearest.{closest, closest_same, nearest-ge}
use Rattle.ladder.specs.Magnitude.{magnitude}
use Rattle.ladder.specs.Rounding.{excess, round, truncated}
use Rattle.ladder.proofs.Cases.{le_or_lt}
use Rattle.ladder.proofs.Magnitude.{counted_more, magnitude_is, magnitude_high, magnitude_le, magnitude_lt}
use Rattle.ladder.proofs.Rounding.{counted, few}
use Rattle.ladder.proofs.Truncation.{truncated_magnitude}

abbrev pub frac : Format → ℕ
frac F = prec F - 1

suc_frac : (F : Format) → suc (frac F) ≡ prec F
suc_frac F = omega (arith, two F)

-- the bits of a finite value
bits_of : (F : Format) (x : Float) (s : Bool) (a : ℕ) → HasValue x s a (2 ^ low F) → to_bits F x ≡ cond s (top F) 0 + truncated (frac F) a
unfolding to_bits truncated excess
bits_of F nan s a h = absurd h
bits_of F (inf t) s a h = absurd h
bits_of F (fin t m e) s a h =
    let p : m * up e * 2 ^ low F / down e ≡ a = ap (λ (x : ℕ). x / down e) h.1 ∙ mul-div_cancel a (down_pos e) in
    ap₂ (λ (b : Bool) (x : ℕ). cond b (top F) 0 + (size x - prec F) * hid F + x / 2 ^ (size x - prec F)) h.0 p
    ∙ ap (λ (x : ℕ). cond s (top F) 0 + (size a - x) * hid F + a / 2 ^ (size a - x)) (sym (suc_frac F))
    ∙ omega arith

-- what `round` keeps, as lib.Ieee writes it
rounded_kept : (f n : ℕ) → magnitude f (round f n) ≡ closest n (2 ^ excess f n) * 2 ^ excess f n
unfolding round
rounded_kept f n =
    let u = 2 ^ excess f n in
    let o = compare (n % u * 2) u in
    magnitude_is f (excess f n) (closest n u) (counted_more (counted f n) (nearest-ge (n / u) o)) (omega (arith, nearest-le (n / u) o, few f n))

round_units : (F : Format) (s : Bool) (n : ℕ) → I.round F s n (2 ^ low F) ≡ units F s (closest n (2 ^ excess (frac F) n)) (excess (frac F) n)
unfolding excess
round_units F s n =
    let L = 2 ^ low F in
    let k = excess (frac F) n in
    round_is F s n L
    ∙ ap (λ (x : ℕ). units F s (closest (n * L) (L * 2 ^ x)) x) (ap₂ (λ (x y : ℕ). size x - y) (mul-div_cancel n (pow_pos (low F))) (sym (suc_frac F)))
    ∙ ap (λ (x : ℕ). units F s x k) (closest_same (n * L) (L * 2 ^ k) n (2 ^ k) (omega (arith, native.Mathlib.Nat.mul-pos (pow_pos (low F)) (pow_pos k))) (pow_pos k) (omega arith))

magnitude_cap : (F : Format) → magnitude (frac F) (ones F * hid F) ≡ 2 ^ (low F + suc (emax F))
magnitude_cap F =
    let f = frac F in
    let e = 2 * emax F - 1 in
    let a = two F in
    let b = reach F in
    ap (magnitude f) (ap (λ (x : ℕ). x * 2 ^ f) (next (omega arith)) ∙ omega arith) ∙ magnitude_high f e (2 * 2 ^ f) (omega arith) (le_refl (2 * 2 ^ f)) ∙ ap (λ (x : ℕ). x * 2 ^ e) (sym (pow-succ' 2 f)) ∙ sym (pow-add 2 (suc f) e) ∙ ap (λ (x : ℕ). 2 ^ x) (omega arith)
  where
    next : {a : ℕ} → 1 ≤ a → 2 * a + 1 ≡ 2 * a - 1 + 2
    next l = omega arith

units_inf : (F : Format) (s : Bool) (q k : ℕ) → 2 ^ (low F + suc (emax F)) ≤ q * 2 ^ k → units F s q k ≡ inf s
unfolding units
units_inf F s q k h = cond_no (ltb (q * 2 ^ k) (2 ^ (low F + suc (emax F)))) (odd (suc (prec F)) s q k (low F)) (inf s) (le→nltb (q * 2 ^ k) (2 ^ (low F + suc (emax F))) h)

pub bits_inf : (F : Format) (s : Bool) → to_bits F (inf s) ≡ cond s (top F) 0 + ones F * hid F
unfolding to_bits
bits_inf F s = refl

pub round_bits : (F : Format) (s : Bool) (n : ℕ) → to_bits F (I.round F s n (2 ^ low F)) ≡ cond s (top F) 0 + min (round (frac F) n) (ones F * hid F)
round_bits F s n =
    let f = frac F in
    let k = excess f n in
    let q = closest n (2 ^ k) in
    let cap = ones F * hid F in
    ap (to_bits F) (round_units F s n) ∙ elim (le_or_lt cap (round f n)) [
      | inl h ↦
          ap (to_bits F) (units_inf F s q k (omega (arith, magnitude_cap F, rounded_kept f n, magnitude_le f cap (round f n) h)))
          ∙ bits_inf F s ∙ ap (λ (x : ℕ). cond s (top F) 0 + x) (omega arith)
      | inr h ↦
          bits_of F (units F s q k) s (q * 2 ^ k) (units_val F s q k (omega (arith, magnitude_cap F, rounded_kept f n, magnitude_lt f (round f n) cap h)))
          ∙ ap (λ (x : ℕ). cond s (top F) 0 + x) (ap (truncated f) (sym (rounded_kept f n)) ∙ truncated_magnitude f (round f n) ∙ omega arith)
    ]
