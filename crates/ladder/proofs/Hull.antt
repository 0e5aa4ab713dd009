-- What a caller needs of the narrowing, so that none opens its definition: it loses no triple, stays inside the intervals given, keeps finite ends finite, narrowing once more moves nothing, and intervals with the same triples are narrowed alike. Assumes nothing.
use mathlib.Core.Path.{◌≡◌, sym, subst}
use Prim.Native.Nat.{ℕ, ◌≤◌}
use native.Mathlib.Omega.{arith}
use Rattle.ladder.specs.Solution.{Interval, In, Solution, Bounded}
use Rattle.ladder.specs.Narrowing.{Narrowing, none, ends, narrowing, HasX, HasA, HasB, Spans, Hull, IsNarrowing}
use Rattle.ladder.proofs.Narrowing.{narrowing_is, narrowing_unique}
use Rattle.ladder.proofs.Solutions.{Kept, kept_x, kept_a, kept_b}

-- I lies inside J
pub record Within (J I : Interval) : Type 0 where
  pub low : J.low ≤ I.low
  pub high : I.high ≤ J.high
  pub order : I.low ≤ I.high

pub in_within : {J I : Interval} → Within J I → (y : ℕ) → In I y → In J y
in_within w y i = record { low = omega arith; high = omega arith }

pub within_bounded : {f e : ℕ} {J I : Interval} → Bounded f e J → Within J I → Bounded f e I
within_bounded n w = record { low = record { low = omega arith; high = omega arith }; high = record { low = omega arith; high = omega arith } }

pub spans_within : (P : ℕ → Type 0) (J I : Interval) → ((y : ℕ) → P y → In J y) → Spans P I → Within J I
spans_within P J I p s =
    let l = p I.low s.low in
    let h = p I.high s.high in
    let o = s.all I.low s.low in
    record { low = l.low; high = h.high; order = o.high }

module _ (f e : ℕ) (X A B : Interval) where
  -- none: there is no triple
  pub narrowing_none : narrowing f e X A B ≡ none → (x a b : ℕ) → Solution f e X A B x a b → ⊥
  narrowing_none p = subst (IsNarrowing f e X A B) p (narrowing_is f e X A B)

  -- and where there is none, the narrowing says so
  pub none_narrowing : ((x a b : ℕ) → Solution f e X A B x a b → ⊥) → narrowing f e X A B ≡ none
  none_narrowing n = sym (narrowing_unique f e X A B none n)

  module _ (X' A' B' : Interval) where
    -- each end stands in a triple, and every triple lies between the ends
    pub narrowing_hull : narrowing f e X A B ≡ ends X' A' B' → Hull f e X A B X' A' B'
    narrowing_hull p = subst (IsNarrowing f e X A B) p (narrowing_is f e X A B)

    pub hull_narrowing : Hull f e X A B X' A' B' → narrowing f e X A B ≡ ends X' A' B'
    hull_narrowing h = sym (narrowing_unique f e X A B (ends X' A' B') h)

    module _ (h : Hull f e X A B X' A' B') where
      -- no triple is lost
      pub hull_kept : Kept f e X A B X' A' B'
      hull_kept x a b s = record {
        x_in = h.xs.all x (record { a = a; b = b; solution = s });
        a_in = h.«as».all a (record { x = x; b = b; solution = s });
        b_in = h.bs.all b (record { x = x; a = a; solution = s });
        is = s.is;
      }

      -- the result lies inside the intervals given
      pub hull_x : Within X X'
      hull_x = spans_within (HasX f e X A B) X X' (λ y w. w.solution.x_in) h.xs

      pub hull_a : Within A A'
      hull_a = spans_within (HasA f e X A B) A A' (λ y w. w.solution.a_in) h.«as»

      pub hull_b : Within B B'
      hull_b = spans_within (HasB f e X A B) B B' (λ y w. w.solution.b_in) h.bs

      -- finite ends stay finite
      pub hull_bounded : Bounded f e X → Bounded f e A → Bounded f e B → Bounded f e X' × Bounded f e A' × Bounded f e B'
      hull_bounded x a b = (within_bounded x hull_x, within_bounded a hull_a, within_bounded b hull_b)

      -- the ends of the result stand in triples of the result
      hull_again : Hull f e X' A' B' X' A' B'
      hull_again =
          let x = kept_x f e X A B X' A' B' hull_kept in
          let a = kept_a f e X A B X' A' B' hull_kept in
          let b = kept_b f e X A B X' A' B' hull_kept in
          record {
            xs = record { low = x X'.low h.xs.low; high = x X'.high h.xs.high; all = λ y w. w.solution.x_in };
            «as» = record { low = a A'.low h.«as».low; high = a A'.high h.«as».high; all = λ y w. w.solution.a_in };
            bs = record { low = b B'.low h.bs.low; high = b B'.high h.bs.high; all = λ y w. w.solution.b_in };
          }

      -- narrowing the result changes nothing
      pub narrowing_idempotent : narrowing f e X' A' B' ≡ ends X' A' B'
      narrowing_idempotent = sym (narrowing_unique f e X' A' B' (ends X' A' B') hull_again)

-- ---- intervals with the same triples
-- what is the same set has the same least and greatest number
pub same_spans : {P Q : ℕ → Type 0} → ((y : ℕ) → P y → Q y) → ((y : ℕ) → Q y → P y) → (I : Interval) → Spans P I → Spans Q I
same_spans to from I s = record { low = to I.low s.low; high = to I.high s.high; all = λ y q. s.all y (from y q) }

-- they are narrowed alike
pub same_narrowing : (f e : ℕ) (X A B X' A' B' : Interval) → Kept f e X A B X' A' B' → Kept f e X' A' B' X A B → narrowing f e X' A' B' ≡ narrowing f e X A B
same_narrowing f e X A B X' A' B' k j = go (narrowing f e X' A' B') (narrowing_is f e X' A' B')
  where
    go : (r : Narrowing) → IsNarrowing f e X' A' B' r → r ≡ narrowing f e X A B
    go none n = narrowing_unique f e X A B none (λ x a b s. n x a b (k x a b s))
    go (ends I J K) h =
        narrowing_unique f e X A B (ends I J K)
        (record {
          xs = same_spans (kept_x f e X' A' B' X A B j) (kept_x f e X A B X' A' B' k) I h.xs;
          «as» = same_spans (kept_a f e X' A' B' X A B j) (kept_a f e X A B X' A' B' k) J h.«as»;
          bs = same_spans (kept_b f e X' A' B' X A B j) (kept_b f e X A B X' A' B' k) K h.bs;
        })
