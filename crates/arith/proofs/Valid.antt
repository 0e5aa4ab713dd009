-- What a crate above needs of intervals, so that it opens no definition here: when one is refused, its ordinals, its written form, its mirror, the cut of two, and the narrowing of three and of two. Rests on `ladder`'s laws of ordinals.
use Rattle.std.proofs.Common.{◌≡◌, ℕ, ◌<◌, ◌≤◌, min, max, Bool, true, false, cond, Option, Some, None, Result, Ok, Err, leb, sym, refl, ap, arith, le-leb, leb-true}
use Rattle.ladder.specs.Solution as L
use Rattle.ladder.specs.Solution.{Bounded}
use Rattle.ladder.specs.Search.{reflection}
use Rattle.ladder.proofs.Ordinals.{ordinal_pattern}
use Rattle.arith.specs.declared.refusal.Reason.{Reason}
use Rattle.arith.specs.declared.refusal.Refusal.{Refusal}
use Rattle.arith.specs.declared.interval.Interval.{Interval}
use Rattle.arith.specs.Refusals.{number, refusal, or_refuse}
use Rattle.arith.specs.Formats.{is_known, format_of}
use Rattle.arith.specs.Intervals.{Valid, ends_finite, is_ordered, range_of, interval_of, mirrored_ends, canonical_in, canonical_of, shared_in, cut_in, cut_of, mirror_in, mirror_of, span}
use Rattle.arith.specs.Narrows.{narrowing, written, narrow_answer, narrow_of}
use Rattle.arith.specs.Repeats.{Relation, pair_answer, pair_in, pair_of}
use Rattle.arith.proofs.Intervals.{range_ends, mirrored_ends_lem}
use Rattle.arith.proofs.Callers.{narrow_valid, written_finite}

-- ---- its canonical form
module _ (width : ℕ) (I : Interval) where
  pub canonical_is : Valid width I → canonical_of width I ≡ Ok (interval_of (format_of width) (range_of (format_of width) I))
  unfolding canonical_of canonical_in
  canonical_is v = simp (v.known, v.finite, v.ordered)

  data Tried : Result Interval Refusal → Type 0 where
    is : {J : Interval} → Valid width I → Tried (Ok J)
    refused : {n : Reason} → 0 < number n → number n ≤ 3 → Tried (Err (refusal n))

  tried : Tried (canonical_of width I)
  unfolding canonical_of canonical_in
  tried = go (is_known width) refl (ends_finite (format_of width) I) refl (is_ordered (range_of (format_of width) I)) refl
    where
      go :
          (k : Bool) → is_known width ≡ k → (t : Bool) → ends_finite (format_of width) I ≡ t → (o : Bool) → is_ordered (range_of (format_of width) I) ≡ o →
          Tried (or_refuse k Reason.Width (or_refuse t Reason.NotFinite (or_refuse o Reason.Reversed (Ok (interval_of (format_of width) (range_of (format_of width) I))))))
      go false p t q o r = refused {n = Reason.Width} (omega arith) (omega arith)
      go true p false q o r = refused {n = Reason.NotFinite} (omega arith) (omega arith)
      go true p true q false r = refused {n = Reason.Reversed} (omega arith) (omega arith)
      go true p true q true r = is (record { known = p; finite = q; ordered = r })

  -- what is not refused is valid
  pub is_valid : (J : Interval) → canonical_of width I ≡ Ok J → Valid width I
  is_valid J e = from (canonical_of width I) e tried
    where
      from : (i : Result Interval Refusal) → i ≡ Ok J → Tried i → Valid width I
      from (Ok j) h (is v) = v
      from (Err r) h t = absurd (let z : ◌≡◌ {A = ℕ} 0 1 = cc in omega arith)

  -- and a refusal is one of 1 to 3
  pub refused_number : (r : Refusal) → canonical_of width I ≡ Err r → (0 < number r.reason) × (number r.reason ≤ 3)
  refused_number r e = from (canonical_of width I) e tried
    where
      from : (i : Result Interval Refusal) → i ≡ Err r → Tried i → (0 < number r.reason) × (number r.reason ≤ 3)
      from (Ok j) h t = absurd (let z : ◌≡◌ {A = ℕ} 0 1 = cc in omega arith)
      from (Err q) h (refused {n} l m) =
          let z : number n ≡ number r.reason = cc in
          (omega arith, omega arith)

-- ---- by ordinals
-- a valid interval has finite ends, low not above high
pub valid_bounded : (width : ℕ) (I : Interval) → Valid width I → Bounded (format_of width).fraction (format_of width).exponent (span (range_of (format_of width) I)) × ((range_of (format_of width) I).low ≤ (range_of (format_of width) I).high)
unfolding is_ordered
valid_bounded width I v = (range_ends (format_of width) I (range_of (format_of width) I) refl v.finite, leb-true _ _ v.ordered)

-- its mirror by patterns is the one by ordinals
pub mirrored_written :
    (width : ℕ) (I : Interval) → Valid width I →
    mirrored_ends (format_of width) I ≡ written (format_of width) (reflection (format_of width).fraction (format_of width).exponent (span (range_of (format_of width) I)))
mirrored_written width I v = mirrored_ends_lem (format_of width) I v.finite

-- and it is what `mirror` gives
pub valid_mirror : (width : ℕ) (I : Interval) → Valid width I → mirror_of width I ≡ Ok (mirrored_ends (format_of width) I)
unfolding mirror_of mirror_in
valid_mirror width I v = simp (v.known, v.finite, v.ordered) (ap Ok (sym (mirrored_written width I v)))

module _ (width : ℕ) (I : L.Interval) (b : Bounded (format_of width).fraction (format_of width).exponent I) where
  -- the patterns of finite ends lead back to them
  pub written_span : span (range_of (format_of width) (written (format_of width) I)) ≡ I
  written_span =
      let l = ordinal_pattern (format_of width).fraction (format_of width).exponent I.low b.low in
      let h = ordinal_pattern (format_of width).fraction (format_of width).exponent I.high b.high in
      λ i. record { low = l i; high = h i }

  -- and are a valid interval
  pub written_valid : is_known width ≡ true → I.low ≤ I.high → Valid width (written (format_of width) I)
  unfolding is_ordered
  written_valid k o =
      let f = (format_of width).fraction in
      let e = (format_of width).exponent in
      record {
        known = k;
        finite = written_finite (format_of width) I b;
        ordered = rw (ordinal_pattern f e I.low b.low, ordinal_pattern f e I.high b.high) (le-leb _ _ o);
      }

-- ---- the cut of two
-- what two intervals of ordinals share; nothing where its low is above its high
abbrev pub shared : L.Interval → L.Interval → L.Interval
shared I J = record { low = max I.low J.low; high = min I.high J.high }

-- as the cut answers it
abbrev pub cut_answer : ℕ → L.Interval → Option Interval
cut_answer width S = cond (leb S.low S.high) (Some (written (format_of width) S)) None

pub valid_cut :
    (width : ℕ) (I J : Interval) → Valid width I → Valid width J →
    cut_of width I J ≡ Ok (cut_answer width (shared (span (range_of (format_of width) I)) (span (range_of (format_of width) J))))
unfolding cut_of cut_in shared_in is_ordered
valid_cut width I J u v = simp (u.known, u.finite, v.finite, u.ordered, v.ordered)

-- ---- the narrowing of three
pub valid_narrow :
    (width : ℕ) (x a b : Interval) → Valid width x → Valid width a → Valid width b →
    narrow_of width x a b ≡ narrow_answer (format_of width) (narrowing (format_of width) (range_of (format_of width) x) (range_of (format_of width) a) (range_of (format_of width) b))
valid_narrow width x a b u v w = narrow_valid width x a b u.known u.finite v.finite w.finite u.ordered v.ordered w.ordered

-- ---- the narrowing of two, by either relation
pub valid_pair :
    (by : Relation) (width : ℕ) (i j : Interval) → Valid width i → Valid width j →
    pair_of by width i j ≡ pair_answer (format_of width) (by (format_of width) (range_of (format_of width) i) (range_of (format_of width) j))
unfolding pair_of pair_in
valid_pair by width i j u v = simp (u.known, u.finite, v.finite, u.ordered, v.ordered)
