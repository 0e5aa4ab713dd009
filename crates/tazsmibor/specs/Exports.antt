-- What a C program gets of the narrowing of one sum: 0 or the refusal number, and at 0 the six ends in the first 48 bytes of its buffer. Assumes nothing.
use Rattle.std.specs.Prelude.{◌≡◌, cond, List, [], ◌∷◌, ◌++◌, ℕ, zero, suc, ◌+◌, ◌/◌, ◌%◌, eqb, leb, ltb, length, take, drop, Result, Ok, Err}
use Rattle.arith.specs.declared.interval.Interval.{Interval}
use Rattle.arith.specs.declared.narrow.Narrowed.{Narrowed}
use Rattle.arith.specs.declared.refusal.Reason.{Reason}
use Rattle.arith.specs.declared.refusal.Refusal.{Refusal}
use Rattle.arith.specs.Refusals as Refusals
use Rattle.arith.specs.Refusals.{refusal}
use Rattle.arith.specs.Narrows.{narrow_of}
use Rattle.arith.specs.Answers.{Reply}
use Rattle.arith.specs.Replies.{Test, reply_after, narrow_tests, narrow_values}

-- an interval handed over as two plain numbers
abbrev pub interval : ℕ → ℕ → Interval
interval low high = record { low = low; high = high }

-- ---- the bytes
-- n bytes of a number, low byte first
unfoldable pub little_endian : ℕ → ℕ → List ℕ
little_endian zero w = []
little_endian (suc n) w = (w % 256) ∷ little_endian n (w / 256)

-- an interval's ends, low then high, 8 bytes each
unfoldable pub end_bytes : Interval → List ℕ
end_bytes I = little_endian 8 I.low ++ little_endian 8 I.high

-- the six ends, of x, a, b
unfoldable pub six_ends : Interval → Interval → Interval → List ℕ
six_ends x a b = (end_bytes x ++ end_bytes a) ++ end_bytes b

-- s with the bytes bs from the index i on, the others kept
unfoldable pub placed : ℕ → List ℕ → List ℕ → List ℕ
placed i bs s = take i s ++ (bs ++ drop (i + length bs) s)

-- ---- the answer, by the cases of the narrowing's
-- the number returned, for a buffer of n bytes, where a refusal has the number that f gives it: refusal 13 is tested last
abbrev pub number_in : {E : Type 0} → (E → ℕ) → ℕ → Result Narrowed E → ℕ
number_in f n (Err r) = f r
number_in f n (Ok ends) = cond (ltb n 48) 13 0

-- a refusal's number: its reason's
abbrev pub refusal_number : Refusal → ℕ
refusal_number r = Refusals.number r.reason

-- the number returned, where a refusal has its reason's
abbrev pub export_number : ℕ → Result Narrowed Refusal → ℕ
export_number = number_in refusal_number

-- what the buffer then holds: on any refusal what it held, else the six ends, and later bytes kept
abbrev pub export_buffer : {E : Type 0} → List ℕ → Result Narrowed E → List ℕ
export_buffer s (Err r) = s
export_buffer s (Ok ends) = cond (ltb (length s) 48) s (six_ends ends.x ends.a ends.b ++ drop 48 s)

-- ---- the answer, by the reply due
-- 13: the buffer has 48 bytes
abbrev pub roomy : ℕ → Test
roomy n = (leb 48 n, refusal Reason.Short)

-- 01's tests of one sum in their order, 13 last; then the six ends
abbrev pub export_reply : ℕ → Interval → Interval → Interval → ℕ → Reply ℕ
export_reply width x a b n = reply_after (narrow_tests width x a b ++ roomy n ∷ []) (narrow_values width x a b)

-- numbers, 8 bytes each
unfoldable pub word_bytes : List ℕ → List ℕ
word_bytes [] = []
word_bytes (w ∷ ws) = little_endian 8 w ++ word_bytes ws

-- what the buffer holds by a reply: at 0 its values, and later bytes kept; else what it held
abbrev pub stored_by : Reply ℕ → List ℕ → List ℕ
stored_by due s = cond (eqb due.number 0) (word_bytes due.values ++ drop 48 s) s

-- ---- what an entry promises: the number r and the bytes afterwards, by the narrowing's answer and by the reply due
pub record Exports (width : ℕ) (x a b : Interval) (before : List ℕ) (r : ℕ) (after : List ℕ) : Type 0 where
  pub number : r ≡ export_number (length before) (narrow_of width x a b)
  pub bytes : after ≡ export_buffer before (narrow_of width x a b)
  pub told : r ≡ (export_reply width x a b (length before)).number
  pub stored : after ≡ stored_by (export_reply width x a b (length before)) before
  -- on any refusal every byte is as it was
  pub kept : (r ≡ 0 → ⊥) → after ≡ before
