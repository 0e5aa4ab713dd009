-- What an entry answers, by the narrowing's answer, is the reply due: its number, and its values in bytes. Rests on the laws of `arith` on replies.
use mathlib.Core.Path.{◌≡◌, refl, ap, ap₂, ◌∙◌}
use mathlib.Core.List.{List, [], ◌∷◌, ◌++◌, append_assoc, append-nil}
use Prim.Native.Nat.{ℕ, ◌≤◌}
use native.Mathlib.Omega.{arith}
use native.Mathlib.Decide.{dec_lt}
use lib.ListN.{length}
use borrow.Author.Tests.{lt-ltb, le-ltb, lt-leb, le-leb}
use Rattle.std.specs.Prelude.{Result, Ok, Err}
use Rattle.ladder.specs.Narrowing.{Narrowing, none, ends}
use Rattle.arith.specs.declared.interval.Interval.{Interval}
use Rattle.arith.specs.declared.narrow.Narrowed.{Narrowed}
use Rattle.arith.specs.declared.refusal.Reason.{Reason}
use Rattle.arith.specs.declared.refusal.Refusal.{Refusal}
use Rattle.arith.specs.Refusals.{refusal}
use Rattle.arith.specs.Formats.{format_of}
use Rattle.arith.specs.Narrows.{narrow_answer, narrow_finite, narrow_in, narrow_of}
use Rattle.arith.specs.Answers.{Reply, refuses, narrowed_values, two_ends}
use Rattle.arith.specs.Replies.{reply_after, given_tests, solved, in_triples, six_patterns}
use Rattle.arith.proofs.Replies.{after_chain}
use Rattle.tazsmibor.specs.Exports.{interval, end_bytes, six_ends, export_number, export_buffer, roomy, export_reply, word_bytes, stored_by, Exports}

-- ---- the bytes of six numbers are those of three intervals
words_six : (x a b : Interval) → six_ends x a b ≡ word_bytes (two_ends x ++ two_ends a ++ two_ends b)
unfolding word_bytes six_ends end_bytes
words_six x a b = simp (append_assoc, append-nil)

-- ---- a narrowing's answer that is not refused: the room decides
module _ (s : List ℕ) (n : Narrowed) where
  abbrev due : Reply ℕ
  due = reply_after (roomy (length s) ∷ []) (narrowed_values n)

  ends_number : export_number (length s) (Ok n) ≡ due.number
  ends_number = elim (dec_lt (length s) 48) [
    | yes h ↦ rw (lt-ltb _ _ h, lt-leb _ _ h)
    | no h ↦ let l : 48 ≤ length s = omega arith in rw (le-ltb _ _ l, le-leb _ _ l)
  ]

  ends_buffer : export_buffer {E = Refusal} s (Ok n) ≡ stored_by due s
  ends_buffer = elim (dec_lt (length s) 48) [
    | yes h ↦ rw (lt-ltb _ _ h, lt-leb _ _ h)
    | no h ↦ let l : 48 ≤ length s = omega arith in rw (le-ltb _ _ l, le-leb _ _ l, words_six n.x n.a n.b)
  ]

-- ---- after 01's tests
module _ (width : ℕ) (x a b : Interval) (s : List ℕ) where
  abbrev n : Narrowing
  n = in_triples width x a b

  -- f of the narrowing's answer is g of the reply due, where it is so for each reason and for ends
  by_tests :
      {C : Type 0} (f : Result Narrowed Refusal → C) (g : Reply ℕ → C) → ((q : Reason) → f (Err (refusal q)) ≡ g (refuses (refusal q))) →
      ((m : Narrowed) → f (Ok m) ≡ g (reply_after (roomy (length s) ∷ []) (narrowed_values m))) → f (narrow_of width x a b) ≡ g (export_reply width x a b (length s))
  unfolding narrow_of narrow_in narrow_finite
  by_tests f g r e =
      let one = r Reason.Width in
      let two = r Reason.NotFinite in
      let three = r Reason.Reversed in
      after_chain f g (given_tests width x a b) (solved n ∷ roomy (length s) ∷ []) (narrow_answer (format_of width) n) (six_patterns width n)
      (one, (two, (two, (two, (three, (three, (three, tt)))))))
      (λ _. by_answer n)
    where
      by_answer : (m : Narrowing) → f (narrow_answer (format_of width) m) ≡ g (reply_after (solved m ∷ roomy (length s) ∷ []) (six_patterns width m))
      by_answer none = r Reason.NoTriple
      by_answer (ends X A B) = e _

  number_due : export_number (length s) (narrow_of width x a b) ≡ (export_reply width x a b (length s)).number
  number_due = by_tests (export_number (length s)) (λ (d : Reply ℕ). d.number) (λ q. refl) (ends_number s)

  buffer_due : export_buffer s (narrow_of width x a b) ≡ stored_by (export_reply width x a b (length s)) s
  buffer_due = by_tests (export_buffer s) (λ (d : Reply ℕ). stored_by d s) refused_kept (ends_buffer s)
    where
      refused_kept : (q : Reason) → s ≡ stored_by (refuses (refusal q)) s
      refused_kept Reason.Width = refl
      refused_kept Reason.NotFinite = refl
      refused_kept Reason.Reversed = refl
      refused_kept Reason.Malformed = refl
      refused_kept Reason.NoCell = refl
      refused_kept Reason.Limit = refl
      refused_kept Reason.TooLong = refl
      refused_kept Reason.Overflow = refl
      refused_kept Reason.Full = refl
      refused_kept Reason.NoTriple = refl
      refused_kept Reason.Short = refl

  kept : (N : Result Narrowed Refusal) → (export_number (length s) N ≡ 0 → ⊥) → export_buffer s N ≡ s
  kept (Err r) h = refl
  kept (Ok m) h = elim (dec_lt (length s) 48) [
    | yes l ↦ rw (lt-ltb _ _ l)
    | no l ↦ let m : 48 ≤ length s = omega arith in absurd (h (rw (le-ltb _ _ m)))
  ]

  exports : {r : ℕ} {after : List ℕ} → r ≡ export_number (length s) (narrow_of width x a b) → after ≡ export_buffer s (narrow_of width x a b) → Exports width x a b s r after
  exports e f = record {
    number = e;
    bytes = f;
    told = e ∙ number_due;
    stored = f ∙ buffer_due;
    kept = λ h. f ∙ kept (narrow_of width x a b) (λ z. h (e ∙ z));
  }

-- x, a and b made of plain numbers, narrowed to n, and n told by a number and put into the bytes
pub exported :
    (width : ℕ) (s : List ℕ) {xl xh al ah bl bh r : ℕ} {x a b : Interval} {n : Result Narrowed Refusal} {after : List ℕ} → x ≡ interval xl xh → a ≡ interval al ah → b ≡ interval bl bh → n ≡ narrow_of width x a b →
    r ≡ export_number (length s) n → after ≡ export_buffer s n → Exports width (interval xl xh) (interval al ah) (interval bl bh) s r after
exported width s {b = b} p q t e h k =
    let m = e ∙ ap₂ (λ (y z : Interval). narrow_of width y z b) p q ∙ ap (narrow_of width _ _) t in
    exports width _ _ _ s (h ∙ ap (export_number (length s)) m) (k ∙ ap (export_buffer s) m)
