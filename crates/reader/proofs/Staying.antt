-- The reader stays at a refused record and at the end of the text: what it says there, it says again and again. Assumes nothing.
use Prim.Native.Nat.{ℕ}
use mathlib.Core.List.{List}
use mathlib.Core.Path.{◌≡◌, ap}
use Rattle.arith.specs.declared.refusal.Refusal.{Refusal}
use Rattle.std.specs.Prelude.{None, Ok, Err}
use Rattle.reader.specs.Steps.{Step, next_of, past, after_of}
use Rattle.reader.specs.declared.cursor.Cursor.{Cursor}

pub stays_refused : (text : List ℕ) (c : Cursor) (r : Refusal) → next_of text c ≡ Err r → after_of text c ≡ c
unfolding after_of
stays_refused text c r e = ap (λ (s : Step). past s c) e

pub stays_ended : (text : List ℕ) (c : Cursor) → next_of text c ≡ Ok None → after_of text c ≡ c
unfolding after_of
stays_ended text c e = ap (λ (s : Step). past s c) e
