-- `machine::shortcut::shortcut_at` meets its contract: by the width. Assumes nothing.
use mathlib.Core.Path.{sym, subst}
use Prim.Native.Nat.{ℕ}
use Rattle.arith.specs.Narrows.{narrow_of}
use Rattle.machine.specs.Shortcuts.{Answers}
use Rattle.machine.proofs.shortcut.shortcut_at.Goals as goal

pub returns-in-64 : goal.returns-in-64
unfolding narrow_of
returns-in-64 c = let a = c.args in subst (λ (w : ℕ). Answers (λ p q. narrow_of w p q a.b) a.x a.a c.shortcut.result) (sym c.in-64.is) c.shortcut.ensures

pub returns-in-32 : goal.returns-in-32
unfolding narrow_of
returns-in-32 c = let a = c.args in subst (λ (w : ℕ). Answers (λ p q. narrow_of w p q a.b) a.x a.a c.shortcut-in-32.result) (sym c.in-32.is) c.shortcut-in-32.ensures
