-- What the answers' definitions tell is the reply due, test by test. Assumes nothing.
use Rattle.std.proofs.Common.{◌≡◌, ℕ, Bool, true, false, cond, List, [], ◌∷◌, ◌++◌, Option, Some, None, Result, Ok, Err, refl, ap, ◌∙◌}
use Rattle.ladder.specs.Narrowing.{Narrowing, none, ends}
use Rattle.arith.specs.declared.range.Range.{Range}
use Rattle.arith.specs.declared.refusal.Refusal.{Refusal}
use Rattle.arith.specs.declared.interval.Interval.{Interval}
use Rattle.arith.specs.declared.narrow.Narrowed.{Narrowed}
use Rattle.arith.specs.Formats.{format_of, ordinal}
use Rattle.arith.specs.Sums.{sum_is, in_range, add_in, add_of}
use Rattle.arith.specs.Intervals.{is_ordered, common, reflected, interval_of, shared_in, moved_in, canonical_in, cut_in, shift_in, mirror_in, canonical_of, cut_of, shift_of, mirror_of}
use Rattle.arith.specs.Narrows.{narrow_answer, narrow_finite, narrow_in, narrow_of}
use Rattle.arith.specs.Answers.{Reply, gives, refuses, two_ends, told, sum_values, shared_values, narrowed_values, sum_told, cut_told, image_told, narrowed_told}
use Rattle.arith.specs.Replies as R
use Rattle.arith.specs.Replies.{Test, reply_after}

-- ---- one test
-- a function of what stands behind it, where it is passed and where not
pub on_test : {A B : Type 0} (f : A → B) (ok : Bool) (a b : A) {c d : B} → (ok ≡ true → f a ≡ c) → f b ≡ d → f (cond ok a b) ≡ cond ok c d
on_test f true a b e g = e refl
on_test f false a b e g = g

-- ---- an answer's chain of tests
abbrev pub chain : {A : Type 0} → List Test → Result A Refusal → Result A Refusal
chain [] rest = rest
chain (t ∷ ts) rest = cond t.0 (chain ts rest) (Err t.1)

-- every test is passed
abbrev pub Passed : List Test → Type 0
Passed [] = Unit {0}
Passed (t ∷ ts) = (t.0 ≡ true) × Passed ts

-- what a function f makes of the chain, a function g makes of the reply after its tests, where it is so for each refusal and for what stands behind the tests
module _ {A B C : Type 0} (f : Result A Refusal → C) (g : Reply B → C) where
  abbrev pub Refuses : List Test → Type 0
  Refuses [] = Unit {0}
  Refuses (t ∷ ts) = (f (Err t.1) ≡ g (refuses t.1)) × Refuses ts

  pub after_chain : (ts us : List Test) (rest : Result A Refusal) (vs : List B) → Refuses ts → (Passed ts → f rest ≡ g (reply_after us vs)) → f (chain ts rest) ≡ g (reply_after (ts ++ us) vs)
  after_chain [] us rest vs r e = e tt
  after_chain (t ∷ ts) us rest vs r e = go t.0 (λ p. after_chain ts us rest vs r.1 (λ q. e (p, q))) r.0
    where
      go : (ok : Bool) {a b : Result A Refusal} {c d : Reply B} → (ok ≡ true → f a ≡ g c) → f b ≡ g d → f (cond ok a b) ≡ g (cond ok c d)
      go true p q = p refl
      go false p q = q

-- what the chain tells is the reply after its tests
module _ {A B : Type 0} (values : A → List B) where
  always : (ts : List Test) → Refuses (told values) (λ r. r) ts
  always [] = tt
  always (t ∷ ts) = (refl, always ts)

  pub told_chain : (ts us : List Test) (rest : Result A Refusal) (vs : List B) → told values rest ≡ reply_after us vs → told values (chain ts rest) ≡ reply_after (ts ++ us) vs
  told_chain ts us rest vs e = after_chain (told values) (λ r. r) ts us rest vs (always ts) (λ _. e)

-- an answer that is the one defined tells the reply due
pub tells : {A B : Type 0} (values : A → List B) {r d : Result A Refusal} {due : Reply B} → r ≡ d → told values d ≡ due → told values r ≡ due
tells values e t = ap (told values) e ∙ t

-- ---- the forward sum
pub add_told : (width x a : ℕ) → sum_told (add_of width x a) ≡ reply_after (R.add_tests width x a) (R.add_values width x a)
unfolding add_of add_in in_range
add_told width x a =
    let F = format_of width in
    let s = R.sum_of width x a in
    told_chain sum_values (R.add_tests width x a) [] (Ok (sum_is F (ordinal F x) (ordinal F a) s)) (R.add_values width x a) refl

-- ---- intervals
module _ (width : ℕ) (I : Interval) where
  image_told_lem : (ts : List Test) (P : Range) → image_told (chain ts (Ok (interval_of (format_of width) P))) ≡ reply_after (ts ++ []) (R.patterns width P)
  image_told_lem ts P = told_chain two_ends ts [] (Ok (interval_of (format_of width) P)) (R.patterns width P) refl

  pub canonical_reply : {r : Result Interval Refusal} → r ≡ canonical_of width I → image_told r ≡ reply_after (R.own_tests width I) (R.canonical_values width I)
  unfolding canonical_of canonical_in
  canonical_reply e = tells two_ends e (image_told_lem (R.own_tests width I) (R.ordinals width I))

  pub mirror_reply : {r : Result Interval Refusal} → r ≡ mirror_of width I → image_told r ≡ reply_after (R.own_tests width I) (R.mirror_values width I)
  unfolding mirror_of mirror_in
  mirror_reply e = tells two_ends e (image_told_lem (R.own_tests width I) (reflected (format_of width) (R.ordinals width I)))

  pub shift_reply : (c : ℕ) {r : Result Interval Refusal} → r ≡ shift_of width I c → image_told r ≡ reply_after (R.shift_tests width I c) (R.shift_values width I c)
  unfolding shift_of shift_in moved_in
  shift_reply c e = tells two_ends e (image_told_lem (R.shift_tests width I c) (R.shifted width I c))

  pub cut_reply : (other : Interval) {r : Result (Option Interval) Refusal} → r ≡ cut_of width I other → cut_told r ≡ reply_after (R.cut_tests width I other) (R.cut_values width I other)
  unfolding cut_of cut_in shared_in
  cut_reply other e = tells shared_values e (told_chain shared_values (R.cut_tests width I other) [] (Ok (shared_in (format_of width) S)) (R.cut_values width I other) (go (is_ordered S)))
    where
      S : Range
      S = common (R.ordinals width I) (R.ordinals width other)

      go : (t : Bool) → cut_told (Ok (cond t (Some (interval_of (format_of width) S)) None)) ≡ gives (cond t (R.patterns width S) [])
      go true = refl
      go false = refl

-- ---- one sum
answer_told_lem : (width : ℕ) (n : Narrowing) → narrowed_told (narrow_answer (format_of width) n) ≡ reply_after (R.solved n ∷ []) (R.six_patterns width n)
answer_told_lem width none = refl
answer_told_lem width (ends X A B) = refl

pub narrow_reply : (width : ℕ) (x a b : Interval) {r : Result Narrowed Refusal} → r ≡ narrow_of width x a b → narrowed_told r ≡ reply_after (R.narrow_tests width x a b) (R.narrow_values width x a b)
unfolding narrow_of narrow_in narrow_finite
narrow_reply width x a b e =
    let n = R.in_triples width x a b in
    tells narrowed_values e (told_chain narrowed_values (R.given_tests width x a b) (R.solved n ∷ []) (narrow_answer (format_of width) n) (R.six_patterns width n) (answer_told_lem width n))
