-- What the export answers, by the sum's answer, is the reply due: its number, and its values. Rests on the laws of `arith` on replies.
use mathlib.Core.Path.{◌≡◌, refl, ap, ◌∙◌}
use mathlib.Core.List.{List, []}
use Prim.Native.Nat.{ℕ}
use Rattle.std.specs.Prelude.{Result, Ok, Err}
use Rattle.arith.specs.declared.sum.Sum.{Sum}
use Rattle.arith.specs.declared.refusal.Refusal.{Refusal}
use Rattle.arith.specs.Formats.{format_of, ordinal}
use Rattle.arith.specs.Sums.{sum_is, in_range, add_in, add_of}
use Rattle.arith.specs.Answers.{Reply, sum_told}
use Rattle.arith.specs.Replies.{sum_of, add_tests, add_values}
use Rattle.arith.proofs.Replies.{after_chain, add_told}
use Rattle.test_exports.specs.Exports.{sum_number, sum_words, sum_reply, stored_by, ExportsSum}

number_told : (n : Result Sum Refusal) → sum_number n ≡ (sum_told n).number
number_told (Ok sum) = refl
number_told (Err r) = refl

module _ (width x a : ℕ) (s : List ℕ) where
  words_due : sum_words s (add_of width x a) ≡ stored_by (sum_reply width x a) s
  unfolding add_of add_in in_range
  words_due =
      let F = format_of width in
      let p = sum_of width x a in
      after_chain (sum_words s) (λ (d : Reply ℕ). stored_by d s) (add_tests width x a) [] (Ok (sum_is F (ordinal F x) (ordinal F a) p)) (add_values width x a)
      (refl, (refl, (refl, (refl, tt))))
      (λ _. refl)

  kept : (n : Result Sum Refusal) → (sum_number n ≡ 0 → ⊥) → sum_words s n ≡ s
  kept (Ok sum) h = absurd (h refl)
  kept (Err r) h = refl

  -- the sum's answer n, told by its number and its words
  pub exported : (n : Result Sum Refusal) → n ≡ add_of width x a → ExportsSum width x a s (sum_number n) (sum_words s n)
  exported n e = record {
    number = ap sum_number e;
    words = ap (sum_words s) e;
    told = number_told n ∙ ap (λ (m : Result Sum Refusal). (sum_told m).number) e ∙ ap (λ (d : Reply ℕ). d.number) (add_told width x a);
    stored = ap (sum_words s) e ∙ words_due;
    kept = kept n;
  }
