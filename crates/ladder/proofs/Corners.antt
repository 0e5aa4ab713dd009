-- Two corners are the narrowing of both operands: one has the least x and the greatest a, the other, with the operands swapped, the least a and the greatest x. Assumes nothing.
use Prim.Native.Nat.{ℕ}
use Rattle.ladder.specs.Solution.{Interval}
use Rattle.ladder.specs.Narrowing.{HasX, Spans}
use Rattle.ladder.specs.Search.{Corner}
use Rattle.ladder.proofs.Solutions.{swap, swap_x}

-- x and a are at one corner, c and z at the other
pub corners_span : {f e : ℕ} {X A B : Interval} {x a b c z d : ℕ} → Corner f e X A B x a b → Corner f e A X B c z d → Spans (HasX f e X A B) (record { low = x; high = z })
corners_span {f} {e} {X} {A} {B} {x} {a} {b} {c} {z} {d} p q = record {
  low = record { a = a; b = b; solution = p.solution };
  high = record { a = c; b = d; solution = swap q.solution };
  all = λ y w. record { low = p.frontier.least y w; high = q.frontier.most y (swap_x f e A X B y w) };
}
