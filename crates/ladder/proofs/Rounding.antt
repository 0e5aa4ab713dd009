-- Rounding is monotone, undoes the exact value, and takes a number of units to the nearest m, at a tie to the even one. All of it rests on `floor`: the m at or just below the number, one ulp,
-- the rest, and which side rounding takes. Assumes nothing.
use mathlib.Core.Path.{◌≡◌, refl, sym, ap, ◌∙◌}
use mathlib.Core.Logic.{◌⊎◌, ◌≢◌, inl, inr}
use Prim.Native.Nat.{ℕ, zero, suc, ◌+◌, ◌-◌, ◌*◌, ◌/◌, ◌%◌, ◌^◌, ◌≤◌, ◌<◌, compare, Ordering}
use native.Mathlib.Nat.{eq-or-lt_of_le, le_refl, le_of_suc-le-suc, mod-lt, div-add-mod', not-suc-le-zero, pow-succ', le_of_eq, le_trans, le-div_iff_mul-le}
use native.Mathlib.Omega.{arith}
use lib.Pow.{pow_pos, pow-add}
use lib.Ieee.{nearest}
use lib.Ieee.Digits.{size_reaches}
use lib.Ieee.Fits.{kept-lt}
use Rattle.ladder.specs.Magnitude.{magnitude}
use Rattle.ladder.specs.Rounding.{excess, round}
use Rattle.ladder.specs.Nearest.{distance}
use Rattle.ladder.proofs.Cases.{le_or_lt, Compares, compares}
use Rattle.ladder.proofs.Magnitude.{Counted, counted_suc, magnitude_is, magnitude_lt, magnitude_le, lt_of_magnitude}

-- p is lo, or the next one, by how twice the rest r compares with one ulp u
pub data Side (u r lo p : ℕ) : Type 0 where
  down : r * 2 < u → p ≡ lo → Side u r lo p
  tie : r * 2 ≡ u → p ≡ lo + lo % 2 → Side u r lo p
  up : u < r * 2 → p ≡ suc lo → Side u r lo p

-- c is even
side : (c g w r u : ℕ) → c ≡ 2 * g → (o : Ordering) → Compares o (r * 2) u → Side u r (c + w) (c + nearest w o)
side c g w r u e Ordering.lt h = down h refl
side c g w r u e Ordering.eq h = tie h (omega arith)
side c g w r u e Ordering.gt h = up h (omega arith)

-- lo is the m at or just below n units; w * 2^k is its value and r the rest
pub record Floor (f n : ℕ) : Type 0 where
  pub lo : ℕ
  pub k : ℕ
  pub w : ℕ
  pub r : ℕ
  pub is : n ≡ w * 2 ^ k + r
  pub rest : r < 2 ^ k
  pub here : magnitude f lo ≡ w * 2 ^ k
  pub next : magnitude f (suc lo) ≡ w * 2 ^ k + 2 ^ k
  pub side : Side (2 ^ k) r lo (round f n)

pub even_pow : (f : ℕ) → 1 ≤ f → 2 ^ f ≡ 2 * 2 ^ (f - 1)
even_pow zero h = absurd (not-suc-le-zero h)
even_pow (suc g) h = pow-succ' 2 g ∙ ap (λ (x : ℕ). 2 * 2 ^ x) (omega arith)

pub counted : (f n : ℕ) → Counted (2 ^ f) (excess f n) (n / 2 ^ excess f n)
unfolding excess
counted f n = go (excess f n) refl
  where
    go : (k : ℕ) → excess f n ≡ k → Counted (2 ^ f) k (n / 2 ^ k)
    go zero e = inl refl
    go (suc k) e = inr ((le-div_iff_mul-le (pow_pos (suc k))).1 (le_trans (le_of_eq (sym (pow-add 2 f (suc k)))) (size_reaches n (f + suc k) (omega arith))))

pub few : (f n : ℕ) → n / 2 ^ excess f n < 2 * 2 ^ f
unfolding excess
few f n = rw (← pow-succ' 2 f) (kept-lt (suc f) n)

pub floor : (f n : ℕ) → 1 ≤ f → Floor f n
unfolding round
floor f n some =
    let k = excess f n in
    let w = n / 2 ^ k in
    let l = few f n in
    record {
      lo = k * 2 ^ f + w;
      k = k;
      w = w;
      r = n % 2 ^ k;
      is = sym (div-add-mod' n (2 ^ k));
      rest = mod-lt n (pow_pos k);
      here = magnitude_is f k w (counted f n) (omega arith);
      next = ap (magnitude f) (omega arith) ∙ magnitude_is f k (suc w) (counted_suc (2 ^ f) k w (counted f n)) l ∙ omega arith;
      side = side (k * 2 ^ f) (k * 2 ^ (f - 1)) w (n % 2 ^ k) (2 ^ k) (ap (λ (x : ℕ). k * x) (even_pow f some) ∙ omega arith) (compare (n % 2 ^ k * 2) (2 ^ k)) (compares (n % 2 ^ k * 2) (2 ^ k));
    }

-- ---- monotone
pub near : {u r lo p : ℕ} → Side u r lo p → (lo ≤ p) × (p ≤ suc lo)
near (down h e) = omega arith
near (tie h e) = omega arith
near (up h e) = omega arith

mono_side : {u v r s lo hi p q : ℕ} → u ≡ v → lo ≡ hi → r ≤ s → Side u r lo p → Side v s hi q → p ≤ q
mono_side x y l (down h e) b = omega (arith, near b)
mono_side x y l (tie h e) (down i d) = omega arith
mono_side x y l (tie h e) (tie i d) = omega arith
mono_side x y l (tie h e) (up i d) = omega arith
mono_side x y l (up h e) (down i d) = omega arith
mono_side x y l (up h e) (tie i d) = omega arith
mono_side x y l (up h e) (up i d) = omega arith

pub exact : {u r lo p : ℕ} → Side u r lo p → r ≡ 0 → 0 < u → p ≡ lo
exact (down h e) z l = e
exact (tie h e) z l = omega arith
exact (up h e) z l = omega arith

pub half : {u r lo p : ℕ} → Side u r lo p → ((p ≡ lo) × (r * 2 ≤ u)) ⊎ ((p ≡ suc lo) × (u ≤ r * 2))
half (down h e) = inl (e, omega arith)
half {lo = lo} (tie h e) = elim (le_or_lt (lo % 2) 0) [ inl z ↦ inl (omega arith) | inr o ↦ inr (omega arith) ]
half (up h e) = inr (e, omega arith)

module _ (f : ℕ) (some : 1 ≤ f) where
  pub round_mono : (n n' : ℕ) → n ≤ n' → round f n ≤ round f n'
  round_mono n n' h =
      let a = floor f n some in
      let b = floor f n' some in
      let l : a.lo ≤ b.lo = le_of_suc-le-suc (lt_of_magnitude f a.lo (suc b.lo) (omega arith)) in
      elim (eq-or-lt_of_le l) [
        | inl e ↦
            let p = ap (magnitude f) e in
            let q = ap (λ (x : ℕ). magnitude f (suc x)) e in
            mono_side (omega arith) e (omega arith) a.side b.side
        | inr s ↦ omega (arith, near a.side, near b.side)
      ]

  -- an exact value rounds to its own m
  pub round_magnitude : (m : ℕ) → round f (magnitude f m) ≡ m
  round_magnitude m =
      let a = floor f (magnitude f m) some in
      let l : a.lo ≤ m = le_of_suc-le-suc (lt_of_magnitude f a.lo (suc m) (omega (arith, magnitude_lt f m (suc m) (le_refl (suc m))))) in
      let g : m ≤ a.lo = le_of_suc-le-suc (lt_of_magnitude f m (suc a.lo) (omega arith)) in
      let e : m ≡ a.lo = omega arith in
      let z : a.r ≡ 0 = omega (arith, ap (magnitude f) e) in
      exact a.side z (omega arith) ∙ sym e

  -- ---- nearest, and even at a tie
  around : (lo m : ℕ) → (magnitude f m ≤ magnitude f lo) ⊎ (magnitude f (suc lo) ≤ magnitude f m)
  around lo m = elim (le_or_lt m lo) [ inl h ↦ inl (magnitude_le f m lo h) | inr h ↦ inr (magnitude_le f (suc lo) m h) ]

  pub round_nearest : (n m : ℕ) → distance n (magnitude f (round f n)) ≤ distance n (magnitude f m)
  round_nearest n m =
      let a = floor f n some in
      elim (half a.side) [
        | inl p ↦ let e = ap (magnitude f) p.0 in elim (around a.lo m) [ inl h ↦ omega arith | inr h ↦ omega arith ]
        | inr p ↦ let e = ap (magnitude f) p.0 in elim (around a.lo m) [ inl h ↦ omega arith | inr h ↦ omega arith ]
      ]

  pub round_even : (n m : ℕ) → m ≢ round f n → distance n (magnitude f m) ≡ distance n (magnitude f (round f n)) → round f n % 2 ≡ 0
  round_even n m ne d = let a = floor f n some in go a a.side
    where
      go : (a : Floor f n) → Side (2 ^ a.k) a.r a.lo (round f n) → round f n % 2 ≡ 0
      go a (down h e) =
          let g = ap (magnitude f) e in
          elim (le_or_lt m a.lo) [
            | inl l ↦ let x = magnitude_lt f m a.lo (omega arith) in omega arith
            | inr l ↦ let x = magnitude_le f (suc a.lo) m l in omega arith
          ]
      go a (tie h e) = omega arith
      go a (up h e) =
          let g = ap (magnitude f) e in
          elim (le_or_lt m a.lo) [
            | inl l ↦ let x = magnitude_le f m a.lo l in omega arith
            | inr l ↦ let x = magnitude_lt f (suc a.lo) m (omega arith) in omega arith
          ]
