-- The place of a byte as `position` of std gives it. Rests on specs/Bytes.
use Prim.Native.Nat.{ℕ, ◌<◌}
use mathlib.Core.Path.{◌≡◌, refl, sym, subst}
use mathlib.Core.Bool.{Bool, true, false, cond, not}
use mathlib.Core.List.{List}
use native.Mathlib.Omega.{arith}
use lib.Dec.{eqb, ltb}
use lib.ListN.{length}
use borrow.Author.Tests.{ltb-true, ltb-false}
use Rattle.std.specs.Prelude.{Option, Some, None, MatchOption, position}
use Rattle.std.proofs.lemmas.List.Sums.{prefix_len-le-length}
use Rattle.reader.specs.Bytes.{index_of}

abbrev Found : ℕ → List ℕ → Option ℕ → Type 0
Found b s r = MatchOption r (index_of b s ≡ length s) (λ n. (n ≡ index_of b s) × (n < length s))

pub found : (b : ℕ) (s : List ℕ) {r : Option ℕ} → r ≡ position (λ x. eqb x b) s → Found b s r
unfolding index_of
found b s e = subst (Found b s) (sym e) (go (ltb (index_of b s) (length s)) refl)
  where
    go : (t : Bool) → ltb (index_of b s) (length s) ≡ t → Found b s (cond t (Some (index_of b s)) None)
    go true f = (refl, ltb-true (index_of b s) (length s) f)
    go false f = omega (arith, ltb-false (index_of b s) (length s) f, prefix_len-le-length (λ x. not (eqb x b)) s)
