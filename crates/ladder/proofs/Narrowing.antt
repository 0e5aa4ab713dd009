-- The narrowing by search is the one that 01 describes: each end stands in a triple, every triple lies between the ends, none means that there is no triple. And it is the only one. Assumes nothing.
use mathlib.Core.Path.{◌≡◌, ap, ap₂, ◌∙◌, subst}
use Prim.Native.Nat.{ℕ}
use lib.Dec.{T, eqb, eqb→eq, eqb_refl}
use Rattle.ladder.specs.Sum.{sum}
use Rattle.ladder.specs.Solution.{Interval, In}
use Rattle.ladder.specs.Narrowing.{any_in, extent_in, Extent, empty, over, x_extent, a_extent, b_extent, Narrowing, none, ends, gather, narrowing, HasX, HasA, HasB, IsNarrowing}
use Rattle.ladder.proofs.Extents.{some_in, any_in_lem, IsExtent, extent_in_lem, extent_unique}

-- P holds of the i inside I that fulfil an equation with a j inside J and a k inside K
module _
    (I J K : Interval) (l r : ℕ → ℕ → ℕ → ℕ) (P : ℕ → Type 0) (to : (i j k : ℕ) → In I i → In J j → In K k → l i j k ≡ r i j k → P i)
    (j k : (i : ℕ) → P i → ℕ) (from : (i : ℕ) (h : P i) → In I i × In J (j i h) × In K (k i h) × (l i (j i h) (k i h) ≡ r i (j i h) (k i h))) where
  extent_is : IsExtent P (extent_in I (λ i. any_in J (λ j. any_in K (λ k. eqb (l i j k) (r i j k)))))
  extent_is =
      extent_in_lem I _ P
      (λ i g h. let u = some_in J _ h in let v = some_in K (λ k. eqb (l i u.z k) (r i u.z k)) u.holds in to i u.z v.z g u.inside v.inside (eqb→eq _ _ v.holds))
      (λ i h. let w = from i h in
      (w.0, any_in_lem J _ (j i h) w.1 (any_in_lem K (λ k. eqb (l i (j i h) k) (r i (j i h) k)) (k i h) w.2 (subst (λ (z : ℕ). T (eqb (l i (j i h) (k i h)) z)) w.3 (eqb_refl (l i (j i h) (k i h)))))))

module _ (f e : ℕ) (X A B : Interval) where
  x_extent_is : IsExtent (HasX f e X A B) (x_extent f e X A B)
  unfolding x_extent
  x_extent_is =
      extent_is X A B (λ x a b. sum f e x a) (λ x a b. b) (HasX f e X A B)
      (λ x a b i j k p. record { a = a; b = b; solution = record { x_in = i; a_in = j; b_in = k; is = p } })
      (λ x w. w.a) (λ x w. w.b) (λ x w. let s = w.solution in (s.x_in, s.a_in, s.b_in, s.is))

  a_extent_is : IsExtent (HasA f e X A B) (a_extent f e X A B)
  unfolding a_extent
  a_extent_is =
      extent_is A X B (λ a x b. sum f e x a) (λ a x b. b) (HasA f e X A B)
      (λ a x b j i k p. record { x = x; b = b; solution = record { x_in = i; a_in = j; b_in = k; is = p } })
      (λ a w. w.x) (λ a w. w.b) (λ a w. let s = w.solution in (s.a_in, s.x_in, s.b_in, s.is))

  b_extent_is : IsExtent (HasB f e X A B) (b_extent f e X A B)
  unfolding b_extent
  b_extent_is =
      extent_is B X A (λ b x a. sum f e x a) (λ b x a. b) (HasB f e X A B)
      (λ b x a k i j p. record { x = x; a = a; solution = record { x_in = i; a_in = j; b_in = k; is = p } })
      (λ b w. w.x) (λ b w. w.a) (λ b w. let s = w.solution in (s.b_in, s.x_in, s.a_in, s.is))

  pub narrowing_is : IsNarrowing f e X A B (narrowing f e X A B)
  unfolding narrowing
  narrowing_is = go (x_extent f e X A B) (a_extent f e X A B) (b_extent f e X A B) x_extent_is a_extent_is b_extent_is
    where
      go : (r s t : Extent) → IsExtent (HasX f e X A B) r → IsExtent (HasA f e X A B) s → IsExtent (HasB f e X A B) t → IsNarrowing f e X A B (gather r s t)
      go empty s t p q o = λ x a b h. p x (record { a = a; b = b; solution = h })
      go (over i) empty t p q o = λ x a b h. q a (record { x = x; b = b; solution = h })
      go (over i) (over j) empty p q o = λ x a b h. o b (record { x = x; a = a; solution = h })
      go (over i) (over j) (over k) p q o = record { xs = p; «as» = q; bs = o }

  pub narrowing_unique : (r : Narrowing) → IsNarrowing f e X A B r → r ≡ narrowing f e X A B
  unfolding narrowing
  narrowing_unique none h =
      ap (λ (s : Extent). gather s (a_extent f e X A B) (b_extent f e X A B)) (extent_unique (HasX f e X A B) empty (x_extent f e X A B) (λ x w. h x w.a w.b w.solution) x_extent_is)
  narrowing_unique (ends i j k) h =
      ap (λ (s : Extent). gather s (over j) (over k)) (extent_unique (HasX f e X A B) (over i) (x_extent f e X A B) h.xs x_extent_is)
      ∙ ap₂ (gather (x_extent f e X A B)) (extent_unique (HasA f e X A B) (over j) (a_extent f e X A B) h.«as» a_extent_is) (extent_unique (HasB f e X A B) (over k) (b_extent f e X A B) h.bs b_extent_is)
