-- One test of an answer's chain: what a call answered, refused, or passed to the rest. Assumes nothing.
use Rattle.std.proofs.Common.{◌≡◌, Bool, true, false, cond, Result, Err, sym, ap, ◌∙◌}
use Rattle.arith.specs.declared.refusal.Reason.{Reason}
use Rattle.arith.specs.declared.refusal.Refusal.{Refusal}
use Rattle.arith.specs.Refusals.{refusal, or_refuse}

-- a call's result r is the test t, and `if !r` was left
pub holds : {r t : Bool} → r ≡ t → r ≡ true → t ≡ true
holds e h = sym e ∙ h

-- or taken
pub fails : {r t : Bool} → r ≡ t → r ≡ false → t ≡ false
fails e h = sym e ∙ h

pub refused : {A : Type 0} (n : Reason) (ok : Bool) (rest : Result A Refusal) {r : Refusal} → r ≡ refusal n → ok ≡ false → Err r ≡ or_refuse ok n rest
refused n ok rest R h = ap Err R ∙ sym (ap (λ (b : Bool). cond b rest (Err (refusal n))) h)

pub passed : {A : Type 0} (n : Reason) (ok : Bool) (rest : Result A Refusal) {x : Result A Refusal} → ok ≡ true → x ≡ rest → x ≡ or_refuse ok n rest
passed n ok rest h e = e ∙ sym (ap (λ (b : Bool). cond b rest (Err (refusal n))) h)
