-- The clamped operands make the same triples, and so have the same corner. Rests on `ladder`'s Clamp and Solutions.
use Rattle.std.proofs.Common.{◌≡◌, ℕ, ◌-◌, ◌<◌, subst, Option, None, Some, arith}
use Rattle.ladder.specs.Search.{NoMultiple, SomeMultiple, raised, lowered}
use Rattle.ladder.proofs.Clamp.{raised_kept, raised_given, raised_bounded, raised_fine, lowered_kept, lowered_given, lowered_bounded, lowered_fine}
use Rattle.arith.specs.declared.format.Format.{Format}
use Rattle.arith.specs.declared.range.Range.{Range}
use Rattle.arith.specs.declared.ranges.Ranges.{Ranges}
use Rattle.arith.specs.declared.corner.Corner.{Corner}
use Rattle.arith.specs.Intervals.{Bounded, span}
use Rattle.arith.specs.Searches.{CornerOf, SameTriples}

-- ---- the corner of other ranges that make the same triples
pub same_corner : {R O : Ranges} → SameTriples R O → (r : Option Corner) → CornerOf O r → CornerOf R r
same_corner s (Some c) h =
    let t = s.given c.x c.a c.b h.solution in
    record {
      frontier = record {
        x_in = t.x_in;
        a_in = t.a_in;
        least = λ y w. h.frontier.least y (record { a = w.a; b = w.b; solution = s.kept y w.a w.b w.solution });
        most = λ y w. h.frontier.most y (record { x = w.x; b = w.b; solution = s.kept w.x y w.b w.solution });
      };
      solution = t;
    }
same_corner s None h = λ y w. h y (record { a = w.a; b = w.b; solution = s.kept y w.a w.b w.solution })

-- ---- the clamped operands
module _ (F : Format) (k : ℕ) (I J : Range) (n : Bounded F I) where
  pub raised_ends : span J ≡ raised F.fraction F.exponent k (span I) → Bounded F J
  raised_ends p = rw p (raised_bounded F.fraction F.exponent F.sound.some k (span I) n)

  pub lowered_ends : span J ≡ lowered F.fraction F.exponent k (span I) → Bounded F J
  lowered_ends p = rw p (lowered_bounded F.fraction F.exponent F.sound.some k (span I) n)

module _ (R : Ranges) (k : ℕ) (X A : Range) (i : Bounded R.format X) (j : Bounded R.format A) where
  abbrev F : Format
  F = R.format

  abbrev f : ℕ
  f = F.fraction

  abbrev e : ℕ
  e = F.exponent

  abbrev O : Ranges
  O = record R { x = X; a = A; x_ends = i; a_ends = j }

  pub same_raised : F.sign < R.b.low → NoMultiple f k (R.b.low - F.sign) (R.b.high - F.sign) → SomeMultiple f (k - 1) (R.b.low - F.sign) (R.b.high - F.sign)
      → span X ≡ raised f e k (span R.x) → span A ≡ raised f e k (span R.a) → SameTriples R O
  same_raised up free one p q = record {
    kept = rw (p, q) (raised_kept f e F.sound.some k (span R.x) (span R.a) (span R.b) (omega (arith, F.sound.sign)) R.b_ends.high (subst (λ (s : ℕ). NoMultiple f k (R.b.low - s) (R.b.high - s)) F.sound.sign free));
    given = rw (p, q) (raised_given f e F.sound.some k (span R.x) (span R.a) (span R.b));
    fine = rw (p, q) (raised_fine f e F.sound.some k (span R.x) (span R.a) (span R.b) (omega (arith, F.sound.sign)) (subst (λ (s : ℕ). SomeMultiple f (k - 1) (R.b.low - s) (R.b.high - s)) F.sound.sign one));
  }

  pub same_lowered : R.b.high < F.sign → NoMultiple f k (F.sign - R.b.high) (F.sign - R.b.low) → SomeMultiple f (k - 1) (F.sign - R.b.high) (F.sign - R.b.low)
      → span X ≡ lowered f e k (span R.x) → span A ≡ lowered f e k (span R.a) → SameTriples R O
  same_lowered down free one p q = record {
    kept = rw (p, q) (lowered_kept f e F.sound.some k (span R.x) (span R.a) (span R.b) R.x_ends R.a_ends R.b_ends (omega (arith, F.sound.sign)) (subst (λ (s : ℕ). NoMultiple f k (s - R.b.high) (s - R.b.low)) F.sound.sign free));
    given = rw (p, q) (lowered_given f e F.sound.some k (span R.x) (span R.a) (span R.b) R.x_ends R.a_ends R.b_ends);
    fine = rw (p, q) (lowered_fine f e F.sound.some k (span R.x) (span R.a) (span R.b) R.x_ends R.a_ends R.b_ends (omega (arith, F.sound.sign)) (subst (λ (s : ℕ). SomeMultiple f (k - 1) (s - R.b.high) (s - R.b.low)) F.sound.sign one));
  }
