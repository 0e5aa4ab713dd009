-- What a C program gets of the forward sum: 0 or the refusal number, and at 0 the pattern, the mark and the remainder in its three words. Assumes nothing.
use Rattle.std.specs.Prelude.{◌≡◌, cond, List, [], ◌∷◌, ℕ, eqb, Result, Ok, Err}
use Rattle.arith.specs.declared.sum.Sum.{Sum}
use Rattle.arith.specs.declared.refusal.Refusal.{Refusal}
use Rattle.arith.specs.Refusals as Refusals
use Rattle.arith.specs.Sums.{mark_number, add_of}
use Rattle.arith.specs.Answers.{Reply}
use Rattle.arith.specs.Replies.{reply_after, add_tests, add_values}

-- ---- the answer, by the cases of the sum's
-- the number returned
abbrev pub sum_number : Result Sum Refusal → ℕ
sum_number (Ok sum) = 0
sum_number (Err r) = Refusals.number r.reason

-- what the words then hold: the pattern, the mark and the remainder, or on a refusal what they held
abbrev pub sum_words : List ℕ → Result Sum Refusal → List ℕ
sum_words s (Ok sum) = sum.pattern ∷ mark_number sum.mark ∷ sum.remainder ∷ []
sum_words s (Err r) = s

-- ---- the answer, by the reply due
-- 01's tests of the forward sum in their order; then its pattern, mark and remainder
abbrev pub sum_reply : ℕ → ℕ → ℕ → Reply ℕ
sum_reply width x a = reply_after (add_tests width x a) (add_values width x a)

-- what the words hold by a reply: at 0 its values, else what they held
abbrev pub stored_by : Reply ℕ → List ℕ → List ℕ
stored_by due s = cond (eqb due.number 0) due.values s

-- ---- what the export promises: the number r and the words afterwards, by the sum's answer and by the reply due
pub record ExportsSum (width x a : ℕ) (before : List ℕ) (r : ℕ) (after : List ℕ) : Type 0 where
  pub number : r ≡ sum_number (add_of width x a)
  pub words : after ≡ sum_words before (add_of width x a)
  pub told : r ≡ (sum_reply width x a).number
  pub stored : after ≡ stored_by (sum_reply width x a) before
  -- on any refusal the words are as they were
  pub kept : (r ≡ 0 → ⊥) → after ≡ before
