-- What a writer answers, and what the lent buffer then holds. Assumes nothing.
use Rattle.std.specs.Prelude.{◌≡◌, ℕ, cond, Result, Ok, Err, List, [], ◌∷◌, ◌++◌, leb, length, drop}
use Rattle.arith.specs.Refusals.{refusal}
use Rattle.arith.specs.Answers.{Reply, told}
use Rattle.arith.specs.Replies.{Test, reply_after}
use Rattle.arith.specs.declared.refusal.Reason.{Reason}
use Rattle.arith.specs.declared.refusal.Refusal.{Refusal}
use Rattle.propagation.specs.declared.narrowing.Run.{Run}
use Rattle.propagation.specs.declared.passes.Outcome.{Outcome}
use Rattle.listing.specs.Listings.{listing_of}

-- ---- answers
-- what a writer answers: the length in bytes, or the refusal
abbrev pub Written : Type 0
Written = Result ℕ Refusal

-- what it tells: the length, or the refusal
abbrev pub written_told : Written → Reply ℕ
written_told = told (λ n. n ∷ [])

-- the reply due: some tests, 13 last; then the length of the bytes
abbrev pub length_after : List Test → List ℕ → List ℕ → Reply ℕ
length_after tests bytes out = reply_after (tests ++ (leb (length bytes) (length out), refusal Reason.Short) ∷ []) (length bytes ∷ [])

-- ---- bytes written at the start of a buffer
-- their number, or refusal 13 where the buffer is too short
unfoldable pub size_in : List ℕ → List ℕ → Written
size_in bytes out = cond (leb (length bytes) (length out)) (Ok (length bytes)) (Err (refusal Reason.Short))

-- the buffer: the bytes and then what it held there before, or as it was under 13
unfoldable pub stored_in : List ℕ → List ℕ → List ℕ
stored_in bytes out = cond (leb (length bytes) (length out)) (bytes ++ drop (length bytes) out) out

-- ---- a run: a refusal is answered and leaves the buffer; 11 and 12 are no refusals here, and 13 is tested last
abbrev pub unless_refused : {A : Type 0} → Outcome → (Refusal → A) → A → A
unless_refused (Outcome.Settled p) refused rest = rest
unless_refused (Outcome.NoTriple p k) refused rest = rest
unless_refused (Outcome.Stopped p) refused rest = rest
unless_refused (Outcome.Refused r) refused rest = refused r

-- what the writer answers
unfoldable pub written_by : Run → List ℕ → Written
written_by run out = unless_refused run.outcome Err (size_in (listing_of run) out)

-- the lent buffer afterwards
unfoldable pub buffer_by : Run → List ℕ → List ℕ
buffer_by run out = unless_refused run.outcome (λ _. out) (stored_in (listing_of run) out)

-- ---- what a call promises: its answer, the reply due, what the lent buffer holds afterwards, and that a refusal leaves the buffer as it was
pub record Writes (answer : Written) (due : Reply ℕ) (stored out : List ℕ) (r : Written) (after : List ℕ) : Type 0 where
  pub answers : r ≡ answer
  pub told : written_told r ≡ due
  pub holds : after ≡ stored
  pub keeps : ((written_told r).number ≡ 0 → ⊥) → after ≡ out
