-- `arith::width::format_of` meets its contract. Assumes nothing.
use Rattle.std.proofs.Common.{Bool, cond, sym, ap, ◌∙◌, eq-eqb, ne_eqb}
use Rattle.ladder.specs.Ordinal.{sign, infinity}
use Rattle.arith.specs.Formats.{binary, fits32, fits64}
use Rattle.arith.proofs.Formats.{only_proof}
use Rattle.arith.proofs.width.format_of.Goals as goal

pub invariant_of-result : goal.invariant_of-result
unfolding sign infinity
invariant_of-result c = record { sound = fits32 }

pub returns-then-width-eq32 : goal.returns-then-width-eq32
unfolding sign infinity
returns-then-width-eq32 c =
    ap (binary 23 8) (only_proof _ fits32) ∙ sym (ap (λ (b : Bool). cond b (binary 23 8 fits32) (binary 52 11 fits64)) (eq-eqb _ _ c.if-width-eq32.true))

pub invariant_of-result-2 : goal.invariant_of-result-2
unfolding sign infinity
invariant_of-result-2 c = record { sound = fits64 }

pub returns : goal.returns
unfolding sign infinity
returns c =
    ap (binary 52 11) (only_proof _ fits64) ∙ sym (ap (λ (b : Bool). cond b (binary 23 8 fits32) (binary 52 11 fits64)) (ne_eqb _ _ c.if-width-eq32.false))
