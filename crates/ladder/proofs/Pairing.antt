-- The narrowing of two intervals by search is the one that Pairing describes, and the only one. And what a caller needs of it, so that none opens its definition. Assumes nothing.
use mathlib.Core.Path.{◌≡◌, sym, ap, ◌∙◌, subst}
use mathlib.Core.Bool.{Bool}
use Prim.Native.Nat.{ℕ}
use lib.Dec.{T}
use Rattle.ladder.specs.Solution.{Interval, In, Bounded}
use Rattle.ladder.specs.Narrowing.{Extent, empty, over}
use Rattle.ladder.specs.Pairing.{first_extent, second_extent, Pairing, none, ends, couple, pairing, Pair, HasFirst, HasSecond, PairHull, IsPairing}
use Rattle.ladder.proofs.Extents.{some_in, any_in_lem, IsExtent, extent_in_lem, extent_unique}
use Rattle.ladder.proofs.Hull.{Within, spans_within, within_bounded, same_spans}

module _ (t : ℕ → ℕ → Bool) (P Q : Interval) where
  first_extent_is : IsExtent (HasFirst t P Q) (first_extent t P Q)
  unfolding first_extent
  first_extent_is =
      extent_in_lem P _ (HasFirst t P Q)
      (λ p i h. let u = some_in Q (λ q. t p q) h in record { q = u.z; pair = record { p_in = i; q_in = u.inside; passes = u.holds } })
      (λ p w. let h = w.pair in (h.p_in, any_in_lem Q (λ q. t p q) w.q h.q_in h.passes))

  second_extent_is : IsExtent (HasSecond t P Q) (second_extent t P Q)
  unfolding second_extent
  second_extent_is =
      extent_in_lem Q _ (HasSecond t P Q)
      (λ q i h. let u = some_in P (λ p. t p q) h in record { p = u.z; pair = record { p_in = u.inside; q_in = i; passes = u.holds } })
      (λ q w. let h = w.pair in (h.q_in, any_in_lem P (λ p. t p q) w.p h.p_in h.passes))

  pub pairing_is : IsPairing t P Q (pairing t P Q)
  unfolding pairing
  pairing_is = go (first_extent t P Q) (second_extent t P Q) first_extent_is second_extent_is
    where
      go : (r s : Extent) → IsExtent (HasFirst t P Q) r → IsExtent (HasSecond t P Q) s → IsPairing t P Q (couple r s)
      go empty s x y = λ p q h. x p (record { q = q; pair = h })
      go (over i) empty x y = λ p q h. y q (record { p = p; pair = h })
      go (over i) (over j) x y = record { firsts = x; seconds = y }

  pub pairing_unique : (r : Pairing) → IsPairing t P Q r → r ≡ pairing t P Q
  unfolding pairing
  pairing_unique none h =
      ap (λ (s : Extent). couple s (second_extent t P Q)) (extent_unique (HasFirst t P Q) empty (first_extent t P Q) (λ p w. h p w.q w.pair) first_extent_is)
  pairing_unique (ends i j) h =
      ap (λ (s : Extent). couple s (over j)) (extent_unique (HasFirst t P Q) (over i) (first_extent t P Q) h.firsts first_extent_is)
      ∙ ap (couple (first_extent t P Q)) (extent_unique (HasSecond t P Q) (over j) (second_extent t P Q) h.seconds second_extent_is)

  -- ---- for a caller
  -- none: no two pass
  pub pairing_none : pairing t P Q ≡ none → (p q : ℕ) → Pair t P Q p q → ⊥
  pairing_none e = subst (IsPairing t P Q) e pairing_is

  module _ (P' Q' : Interval) where
    -- each end stands in a pair, and every pair lies between the ends
    pub pairing_hull : pairing t P Q ≡ ends P' Q' → PairHull t P Q P' Q'
    pairing_hull e = subst (IsPairing t P Q) e pairing_is

    module _ (h : PairHull t P Q P' Q') where
      -- the result lies inside the intervals given
      pub pair_within : Within P P' × Within Q Q'
      pair_within = (spans_within (HasFirst t P Q) P P' (λ y w. w.pair.p_in) h.firsts, spans_within (HasSecond t P Q) Q Q' (λ y w. w.pair.q_in) h.seconds)

      -- finite ends stay finite
      pub pair_bounded : {f e : ℕ} → Bounded f e P → Bounded f e Q → Bounded f e P' × Bounded f e Q'
      pair_bounded p q = (within_bounded p pair_within.0, within_bounded q pair_within.1)

-- tests that agree inside the intervals narrow them alike
pub pairing_agree : (t t' : ℕ → ℕ → Bool) (P Q : Interval) → ((p q : ℕ) → In P p → In Q q → t p q ≡ t' p q) → pairing t P Q ≡ pairing t' P Q
pairing_agree t t' P Q e = go (pairing t P Q) (pairing_is t P Q)
  where
    to : (p q : ℕ) → Pair t P Q p q → Pair t' P Q p q
    to p q w = record { p_in = w.p_in; q_in = w.q_in; passes = subst T (e p q w.p_in w.q_in) w.passes }

    from : (p q : ℕ) → Pair t' P Q p q → Pair t P Q p q
    from p q w = record { p_in = w.p_in; q_in = w.q_in; passes = subst T (sym (e p q w.p_in w.q_in)) w.passes }

    go : (n : Pairing) → IsPairing t P Q n → n ≡ pairing t' P Q
    go none h = pairing_unique t' P Q none (λ p q w. h p q (from p q w))
    go (ends P' Q') h =
        pairing_unique t' P Q (ends P' Q')
        (record {
          firsts = same_spans (λ p w. record { q = w.q; pair = to p w.q w.pair }) (λ p w. record { q = w.q; pair = from p w.q w.pair }) P' h.firsts;
          seconds = same_spans (λ q w. record { p = w.p; pair = to w.p q w.pair }) (λ q w. record { p = w.p; pair = from w.p q w.pair }) Q' h.seconds;
        })
