-- The answer by width: refusal 1, then the answer in the width's format, and that the one given tells the reply due. Assumes nothing.
use Rattle.std.proofs.Common.{◌≡◌, Bool, true, false, Result, Err, ap, ◌∙◌}
use Rattle.arith.specs.declared.format.Format.{Format}
use Rattle.arith.specs.declared.refusal.Reason.{Reason}
use Rattle.arith.specs.declared.refusal.Refusal.{Refusal}
use Rattle.arith.specs.Refusals.{refusal, or_refuse}
use Rattle.arith.specs.Answers.{Reply}
use Rattle.arith.proofs.Refusing.{refused, passed, holds, fails}

-- k, whether the width is known, as a call gave it
module _ {A B : Type 0} (told : Result A Refusal → Reply B) {k known : Bool} (e : k ≡ known) {due : Reply B} where
  pub unknown : (rest : Result A Refusal) {q : Refusal} → told (or_refuse known Reason.Width rest) ≡ due → k ≡ false → q ≡ refusal Reason.Width → (Err q ≡ or_refuse known Reason.Width rest) × (told (Err q) ≡ due)
  unknown rest t h r = let i = refused Reason.Width known rest r (fails e h) in (i, ap told i ∙ t)

  pub in_format : (answer : Format → Result A Refusal) {F G : Format} {x : Result A Refusal} → told (or_refuse known Reason.Width (answer G)) ≡ due → k ≡ true → F ≡ G → x ≡ answer F → (x ≡ or_refuse known Reason.Width (answer G)) × (told x ≡ due)
  in_format answer {G = G} t h f a = let i = passed Reason.Width known (answer G) (holds e h) (a ∙ ap answer f) in (i, ap told i ∙ t)
