-- The narrowing of two intervals by a test that takes the second value mirrored, as x ⊖ a does: it is the narrowing with the second interval mirrored, mirrored back. Assumes nothing.
use mathlib.Core.Path.{◌≡◌, sym, subst}
use mathlib.Core.Bool.{Bool}
use Prim.Native.Nat.{ℕ}
use lib.Dec.{T}
use Rattle.ladder.specs.Ordinal.{mirrored}
use Rattle.ladder.specs.Solution.{Interval, Bounded}
use Rattle.ladder.specs.Search.{reflection}
use Rattle.ladder.specs.Pairing.{none, ends, pairing, Pair, HasSecond, PairHull}
use Rattle.ladder.proofs.Solutions.{in_reflection, in_reflected}
use Rattle.ladder.proofs.Reflection.{mirror_twice, mirror_spans}
use Rattle.ladder.proofs.Hull.{same_spans}
use Rattle.ladder.proofs.Pairing.{pairing_unique, pairing_none, pairing_hull}

module _ (f e : ℕ) (t : ℕ → ℕ → Bool) (P Q : Interval) (n : Bounded f e Q) where
  -- the test with the second value mirrored
  abbrev pub opposed : ℕ → ℕ → Bool
  opposed p q = t p (mirrored f e q)

  abbrev Q' : Interval
  Q' = reflection f e Q

  to : (p q : ℕ) → Pair opposed P Q p q → Pair t P Q' p (mirrored f e q)
  to p q w = record { p_in = w.p_in; q_in = in_reflection f e Q q w.q_in; passes = w.passes }

  from : (p q : ℕ) → Pair t P Q' p q → Pair opposed P Q p (mirrored f e q)
  from p q w = record {
    p_in = w.p_in;
    q_in = in_reflected f e Q n q w.q_in;
    passes = subst (λ (z : ℕ). T (t p z)) (sym (mirror_twice f e Q n q w.q_in)) w.passes;
  }

  opposed_hull : (R S : Interval) → PairHull t P Q' R S → PairHull opposed P Q R (reflection f e S)
  opposed_hull R S h = record {
    firsts = same_spans
        (λ p w. record { q = mirrored f e w.q; pair = from p w.q w.pair })
        (λ p w. record { q = mirrored f e w.q; pair = to p w.q w.pair })
        R h.firsts;
    seconds = same_spans
        (λ q w. record { p = w.1.p; pair = record { p_in = w.1.pair.p_in; q_in = w.0; passes = w.1.pair.passes } })
        (λ q w. (w.pair.q_in, record { p = w.p; pair = to w.p q w.pair }))
        (reflection f e S) (mirror_spans f e Q n (HasSecond t P Q') (λ q w. w.pair.q_in) S h.seconds);
  }

  -- nothing is left of the one where nothing is left of the other
  pub opposed_none : pairing t P Q' ≡ none → pairing opposed P Q ≡ none
  opposed_none g = sym (pairing_unique opposed P Q none (λ p q w. pairing_none t P Q' g p (mirrored f e q) (to p q w)))

  -- and the second interval is mirrored back
  pub opposed_ends : (R S : Interval) → pairing t P Q' ≡ ends R S → pairing opposed P Q ≡ ends R (reflection f e S)
  opposed_ends R S g = sym (pairing_unique opposed P Q (ends R (reflection f e S)) (opposed_hull R S (pairing_hull t P Q' R S g)))
