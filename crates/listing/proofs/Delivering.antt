-- What was written fits the lent buffer and is told as due, and a refusal leaves the buffer as it was. Rests on specs/Buffers.
use mathlib.Core.Path.{◌≡◌, refl, ap, ◌∙◌}
use mathlib.Core.List.{List, [], ◌∷◌}
use mathlib.Core.Logic.{inl, inr}
use Prim.Native.Nat.{ℕ, ◌≤◌}
use native.Mathlib.Omega.{arith}
use lib.Dec.{leb}
use lib.ListN.{length}
use borrow.Author.Tests.{le-leb, lt-leb}
use Rattle.ladder.proofs.Cases.{le_or_lt}
use Rattle.arith.specs.declared.refusal.Reason.{Reason}
use Rattle.arith.specs.Refusals.{refusal}
use Rattle.arith.specs.Answers.{Reply}
use Rattle.arith.specs.Replies.{Test}
use Rattle.arith.proofs.Replies.{on_test, Refuses, after_chain}
use Rattle.sheet.specs.declared.kept.Sheet.{Sheet}
use Rattle.propagation.specs.declared.narrowing.Run.{Run}
use Rattle.propagation.specs.declared.passes.Outcome.{Outcome}
use Rattle.sheet.specs.Sheets.{Answer, test_of}
use Rattle.propagation.specs.Runs.{Ended, settled, stopped, no_triple}
use Rattle.propagation.specs.Narrowings.{end_of, ran_on, run_after, narrow_sheet_of}
use Rattle.sheet.specs.Replies.{sheet_tests}
use Rattle.sheet.proofs.Replies.{sheet_after_lem}
use Rattle.listing.specs.Listings.{listing_of}
use Rattle.listing.specs.Buffers.{written_told, length_after, size_in, stored_in, unless_refused, written_by, buffer_by, Writes, Written}
use Rattle.std.specs.Prelude.{Ok, Err}

pub size_within : (bytes out : List ℕ) (n : ℕ) → size_in bytes out ≡ Ok n → n ≤ length out
unfolding size_in
size_within bytes out n e = elim (le_or_lt (length bytes) (length out)) [
  | inl h ↦ let f : n ≡ length bytes = cc (rw (le-leb (length bytes) (length out) h) at e) in omega arith
  | inr h ↦ let z : ◌≡◌ {A = ℕ} 0 1 = cc (rw (lt-leb (length bytes) (length out) h) at e) in absurd (omega arith)
]

size_kept : (bytes out : List ℕ) → ((written_told (size_in bytes out)).number ≡ 0 → ⊥) → stored_in bytes out ≡ out
unfolding size_in stored_in
size_kept bytes out = elim (le_or_lt (length bytes) (length out)) [
  | inl h ↦ rw (le-leb (length bytes) (length out) h) (λ n. absurd (n refl))
  | inr h ↦ rw (lt-leb (length bytes) (length out) h) (λ n. refl)
]

run_kept : (run : Run) (out : List ℕ) → ((written_told (written_by run out)).number ≡ 0 → ⊥) → buffer_by run out ≡ out
unfolding written_by buffer_by
run_kept run out = go run.outcome
  where
    go : (o : Outcome) → ((written_told (unless_refused o Err (size_in (listing_of run) out))).number ≡ 0 → ⊥) → unless_refused o (λ _. out) (stored_in (listing_of run) out) ≡ out
    go (Outcome.Settled p) = size_kept (listing_of run) out
    go (Outcome.NoTriple p k) = size_kept (listing_of run) out
    go (Outcome.Stopped p) = size_kept (listing_of run) out
    go (Outcome.Refused r) = λ n. refl

-- ---- the reply due
size_told : (bytes out : List ℕ) → written_told (size_in bytes out) ≡ length_after [] bytes out
unfolding size_in
size_told bytes out = on_test written_told (leb (length bytes) (length out)) _ _ (λ _. refl) refl

-- a sheet's own tests first
run_told : (s : Sheet) (out : List ℕ) → written_told (written_by (narrow_sheet_of s) out) ≡ length_after (sheet_tests s) (listing_of (narrow_sheet_of s)) out
unfolding written_by narrow_sheet_of
run_told s out =
    let bytes = listing_of (run_after (test_of s) s) in
    ap (λ (a : Answer). written_told (unless_refused (run_after a s).outcome Err (size_in bytes out))) (sheet_after_lem s) ∙
    after_chain (λ (a : Answer). written_told (unless_refused (run_after a s).outcome Err (size_in bytes out))) (λ r. r) (sheet_tests s) ((leb (length bytes) (length out), refusal Reason.Short) ∷ []) (Ok tt) (length bytes ∷ []) (refusing bytes (sheet_tests s)) (λ _. ended (end_of s) bytes)
  where
    refusing : (bytes : List ℕ) (ts : List Test) → Refuses (λ (a : Answer). written_told (unless_refused (run_after a s).outcome Err (size_in bytes out))) (λ (r : Reply ℕ). r) ts
    refusing bytes [] = tt
    refusing bytes (t ∷ ts) = (refl, refusing bytes ts)

    ended : (e : Ended) (bytes : List ℕ) → written_told (unless_refused (ran_on s e).outcome Err (size_in bytes out)) ≡ length_after [] bytes out
    ended (settled p box) bytes = size_told bytes out
    ended (stopped p box) bytes = size_told bytes out
    ended (no_triple p k) bytes = size_told bytes out

-- ---- the promises, from the answer and the buffer
pub bytes_written : (bytes out : List ℕ) (r : Written) (after : List ℕ) → r ≡ size_in bytes out → after ≡ stored_in bytes out → Writes (size_in bytes out) (length_after [] bytes out) (stored_in bytes out) out r after
bytes_written bytes out r after e f =
    record {
      answers = e;
      told = ap written_told e ∙ size_told bytes out;
      holds = f;
      keeps = λ n. f ∙ size_kept bytes out (λ z. n (ap (λ (w : Written). (written_told w).number) e ∙ z));
    }

pub run_written :
    (s : Sheet) (out : List ℕ) (r : Written) (after : List ℕ) → let run = narrow_sheet_of s in
    r ≡ written_by run out → after ≡ buffer_by run out → Writes (written_by run out) (length_after (sheet_tests s) (listing_of run) out) (buffer_by run out) out r after
run_written s out r after e f =
    record {
      answers = e;
      told = ap written_told e ∙ run_told s out;
      holds = f;
      keeps = λ n. f ∙ run_kept (narrow_sheet_of s) out (λ z. n (ap (λ (w : Written). (written_told w).number) e ∙ z));
    }
