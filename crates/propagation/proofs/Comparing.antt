-- What `==` answers of two lists of cells. Assumes nothing.
use mathlib.Core.Path.{◌≡◌, refl}
use mathlib.Core.Bool.{Bool, true, false, ◌&&◌}
use mathlib.Core.List.{List}
use lib.Dec.{eqb}
use lib.Pointwise.{pointwise}
use Rattle.std.specs.Bool.{Decides}
use Rattle.std.proofs.lemmas.Bool.Decides.{Decides-eqb}
use Rattle.std.proofs.lemmas.Slice.Eq.{slice_eq-Decides}
use Rattle.arith.specs.declared.interval.Interval.{Interval}
use Rattle.propagation.specs.Loops.{Compares}

abbrev same_ends : Interval → Interval → Bool
same_ends I J = eqb I.low J.low && eqb I.high J.high

ends_decide : (I J : Interval) → Decides (same_ends I J) (I ≡ J)
ends_decide I J = (λ t. go (eqb I.low J.low) (eqb I.high J.high) (Decides-eqb I.low J.low).0 (Decides-eqb I.high J.high).0 t, λ e. rw e both)
  where
    go : (s t : Bool) → (s ≡ true → I.low ≡ J.low) → (t ≡ true → I.high ≡ J.high) → s && t ≡ true → I ≡ J
    go true t l h e = let low = l refl in let high = h e in λ i. record { low = low i; high = high i }
    go false t l h e = absurd cc

    both : same_ends J J ≡ true
    both = rw ((Decides-eqb J.low J.low).1 refl, (Decides-eqb J.high J.high).1 refl)

pub compares : (p q : List Interval) (t : Bool) → t ≡ pointwise same_ends p q → Compares t p q
compares p q t e =
    let d = slice_eq-Decides ends_decide p q t e in
    record { same = d.0; differ = λ f h. let g = d.1 h in cc }
