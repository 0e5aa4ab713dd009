-- A text that reads is run: a `refused` line of a text is always the text's own, with the line as its place. Rests on `reader`'s law that what is read passes its test.
use mathlib.Core.Path.{◌≡◌, refl}
use mathlib.Core.List.{List}
use Rattle.std.specs.Prelude.{Ok, Err}
use Prim.Native.Nat.{ℕ}
use native.Mathlib.Omega.{arith}
use Rattle.arith.specs.declared.refusal.Refusal.{Refusal}
use Rattle.sheet.specs.declared.kept.Sheet.{Sheet}
use Rattle.propagation.specs.declared.passes.Outcome.TheVariants.{Refused}
use Rattle.propagation.specs.Runs.{Ended, settled, stopped, no_triple}
use Rattle.sheet.specs.Sheets.{Answer, test_of}
use Rattle.propagation.specs.Narrowings.{end_of, ran_on, narrow_sheet_of}
use Rattle.reader.specs.Readings.{read_of}
use Rattle.reader.proofs.Tested.{read_tested}
use Rattle.listing.specs.Listings.{run_for, run_of}

never : (s : Sheet) (e : Ended) (r : Refusal) → (ran_on s e).outcome ≡ Refused r → ⊥
never s (settled p box) r h = let z : ◌≡◌ {A = ℕ} 0 1 = cc in omega arith
never s (stopped p box) r h = let z : ◌≡◌ {A = ℕ} 0 1 = cc in omega arith
never s (no_triple p k) r h = let z : ◌≡◌ {A = ℕ} 0 1 = cc in omega arith

run_never : (s : Sheet) (r : Refusal) → test_of s ≡ Ok tt → (narrow_sheet_of s).outcome ≡ Refused r → ⊥
unfolding narrow_sheet_of
run_never s r t h = never s (end_of s) r (rw t at h)

pub refused_by_text : (text : List ℕ) (r : Refusal) → (run_of text).outcome ≡ Refused r → (read_of text).answer ≡ Err r
unfolding run_of
refused_by_text text r h = go (read_of text).answer refl h
  where
    go : (a : Answer) → (read_of text).answer ≡ a → (run_for (read_of text).sheet a).outcome ≡ Refused r → a ≡ Err r
    go (Ok u) e k = absurd (run_never (read_of text).sheet r (read_tested text (read_of text).sheet (λ i. record { sheet = (read_of text).sheet; answer = e i })) k)
    go (Err q) e k = cc
