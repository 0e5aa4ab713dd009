-- Bytes placed into a buffer: a word, one run after the other, and the answer's 48. Assumes nothing.
use mathlib.Core.Path.{◌≡◌, refl, sym, ap, ap₂, ◌∙◌}
use mathlib.Core.Bool.{Bool, cond}
use mathlib.Core.List.{List, ◌∷◌, ◌++◌, append_assoc, append-nil}
use Prim.Native.Nat.{ℕ, zero, suc, ◌+◌, ◌-◌, ◌/◌, ◌%◌, ◌^◌, ◌≤◌}
use native.Mathlib.Nat.{div-one, div-div-eq-div-mul, pow-suc}
use native.Mathlib.Omega.{arith}
use lib.ListN.{length, take, drop, length-append, length-drop}
use lib.Seq.{length-take-le, take_at, drop-append-add, drop-drop}
use borrow.Author.Tests.{le-ltb}
use borrow.Rule.Slice.PartMut.{put_mid}
use Rattle.std.specs.Int.{w64, byte_at, bytes_low_first, to_le_bytes}
use Rattle.std.specs.Prelude.{Ok}
use Rattle.std.proofs.lemmas.List.{drop_all}
use Rattle.arith.specs.declared.interval.Interval.{Interval}
use Rattle.arith.specs.declared.narrow.Narrowed.{Narrowed}
use Rattle.arith.specs.declared.refusal.Refusal.{Refusal}
use Rattle.tazsmibor.specs.Exports.{little_endian, end_bytes, six_ends, placed, export_number, export_buffer}

length_little : (n w : ℕ) → length (little_endian n w) ≡ n
unfolding little_endian
length_little zero w = refl
length_little (suc n) w = ap suc (length_little n (w / 256))

-- the library's bytes of a number, from byte i on
low_first : (k i n : ℕ) → bytes_low_first i k n ≡ little_endian k (n / 256 ^ i)
unfolding little_endian
low_first zero i n = refl
low_first (suc k) i n = ap₂ (λ (b : ℕ) (bs : List ℕ). b ∷ bs) (first i) (low_first k (suc i) n ∙ ap (little_endian k) (ap (λ (m : ℕ). n / m) (pow-suc 256 i) ∙ sym (div-div-eq-div-mul n (256 ^ i) 256)))
  where
    first : (i : ℕ) → byte_at i n ≡ n / 256 ^ i % 256
    first zero = ap (λ (m : ℕ). m % 256) (sym (div-one n))
    first (suc i) = refl

-- a word's bytes as the library writes them
bytes_of_word : (w : ℕ) → to_le_bytes w64 w ≡ little_endian 8 w
bytes_of_word w = low_first 8 0 w ∙ ap (little_endian 8) (div-one w)

-- ---- a part written
part_placed : (i n : ℕ) (bs s : List ℕ) → length bs ≡ n → put_mid i n s bs ≡ placed i bs s
unfolding placed
part_placed i n bs s e = ap (λ (t : List ℕ). take i s ++ (bs ++ t)) (drop-drop n i s ∙ ap (λ (m : ℕ). drop (i + m) s) (sym e))

whole_placed : (bs s : List ℕ) → length bs ≡ length s → placed 0 bs s ≡ bs
unfolding placed
whole_placed bs s e = ap (λ (t : List ℕ). bs ++ t) (drop_all (0 + length bs) s (omega (arith, e))) ∙ append-nil bs

-- ---- run by run
placed_next : (i j : ℕ) (bs cs s : List ℕ) → j ≡ i + length bs → j + length cs ≤ length s → placed j cs (placed i bs s) ≡ placed i (bs ++ cs) s
unfolding placed
placed_next i j bs cs s e h =
    let p = take i s ++ bs in
    let q = drop (i + length bs) s in
    let t : take i s ++ (bs ++ q) ≡ p ++ q = sym (append_assoc (take i s) bs q) in
    let n : length p ≡ j = length-append (take i s) bs ∙ omega (arith, length-take-le i s (omega arith)) in
    let a : take j (p ++ q) ≡ p = take_at p q j n in
    let b : drop (j + length cs) (p ++ q) ≡ drop (j + length cs) s = ap (λ (k : ℕ). drop (k + length cs) (p ++ q)) (sym n) ∙ drop-append-add p q (length cs) ∙ drop-drop (length cs) (i + length bs) s ∙ ap (λ (k : ℕ). drop (k + length cs) s) (sym e) in
    let k : j + length cs ≡ i + length (bs ++ cs) = omega (arith, length-append bs cs) in
    ap (λ (u : List ℕ). take j u ++ (cs ++ drop (j + length cs) u)) t
    ∙ ap₂ (λ (u v : List ℕ). u ++ (cs ++ v)) a b
    ∙ append_assoc (take i s) bs (cs ++ drop (j + length cs) s)
    ∙ ap (λ (u : List ℕ). take i s ++ u) (sym (append_assoc bs cs (drop (j + length cs) s)) ∙ ap (λ (m : ℕ). (bs ++ cs) ++ drop m s) k)

length_ends : (I : Interval) → length (end_bytes I) ≡ 16
unfolding end_bytes
length_ends I = length-append (little_endian 8 I.low) (little_endian 8 I.high) ∙ omega (arith, length_little 8 I.low, length_little 8 I.high)

length_six : (x a b : Interval) → length (six_ends x a b) ≡ 48
unfolding six_ends
length_six x a b = length-append (end_bytes x ++ end_bytes a) (end_bytes b) ∙ omega (arith, length-append (end_bytes x) (end_bytes a), length_ends x, length_ends a, length_ends b)

placed_ends : (i : ℕ) (I : Interval) (s : List ℕ) → i + 16 ≤ length s → placed (i + 8) (little_endian 8 I.high) (placed i (little_endian 8 I.low) s) ≡ placed i (end_bytes I) s
unfolding end_bytes
placed_ends i I s h = placed_next i (i + 8) (little_endian 8 I.low) (little_endian 8 I.high) s (omega (arith, length_little 8 I.low)) (omega (arith, length_little 8 I.high))

-- an interval's two words, written into the halves of 16 bytes
pub ends_put : (I : Interval) (s l h : List ℕ) (n : ℕ) → length s ≡ 16 → l ≡ to_le_bytes w64 I.low → h ≡ to_le_bytes w64 I.high → n ≡ length (l ++ drop 8 s) - 8 → put_mid 8 n (l ++ drop 8 s) h ≡ end_bytes I
ends_put I s l h n e f g k =
    let low : length l ≡ 8 = ap length (f ∙ bytes_of_word I.low) ∙ length_little 8 I.low in
    let high : length h ≡ 8 = ap length (g ∙ bytes_of_word I.high) ∙ length_little 8 I.high in
    let front : l ++ drop 8 s ≡ placed 0 l s = part_placed 0 8 l s low in
    part_placed 8 n h (l ++ drop 8 s) (omega (arith, high, k, length-append l (drop 8 s), length-drop 8 s, low, e))
    ∙ ap₂ (λ (u v : List ℕ). placed 8 u v) (g ∙ bytes_of_word I.high) (front ∙ ap (λ (u : List ℕ). placed 0 u s) (f ∙ bytes_of_word I.low))
    ∙ placed_ends 0 I s (omega (arith, e))
    ∙ whole_placed (end_bytes I) s (length_ends I ∙ sym e)

placed_six : (x a b : Interval) (s : List ℕ) → 48 ≤ length s → placed 32 (end_bytes b) (placed 16 (end_bytes a) (placed 0 (end_bytes x) s)) ≡ placed 0 (six_ends x a b) s
unfolding six_ends
placed_six x a b s h =
    ap (placed 32 (end_bytes b)) (placed_next 0 16 (end_bytes x) (end_bytes a) s (omega (arith, length_ends x)) (omega (arith, length_ends a)))
    ∙ placed_next 0 32 (end_bytes x ++ end_bytes a) (end_bytes b) s (omega (arith, length-append (end_bytes x) (end_bytes a), length_ends x, length_ends a)) (omega (arith, length_ends b))

-- three intervals, written into 16 bytes each
pub six_put : (x a b : Interval) (s p q r : List ℕ) → 48 ≤ length s → p ≡ end_bytes x → q ≡ end_bytes a → r ≡ end_bytes b → put_mid 32 16 (put_mid 16 16 (p ++ drop 16 s) q) r ≡ placed 0 (six_ends x a b) s
six_put x a b s p q r h e f g =
    let front : p ++ drop 16 s ≡ placed 0 (end_bytes x) s = part_placed 0 16 p s (ap length e ∙ length_ends x) ∙ ap (λ (u : List ℕ). placed 0 u s) e in
    let next : put_mid 16 16 (p ++ drop 16 s) q ≡ placed 16 (end_bytes a) (placed 0 (end_bytes x) s) = part_placed 16 16 q (p ++ drop 16 s) (ap length f ∙ length_ends a) ∙ ap₂ (placed 16) f front in
    part_placed 32 16 r (put_mid 16 16 (p ++ drop 16 s) q) (ap length g ∙ length_ends b) ∙ ap₂ (placed 32) g next ∙ placed_six x a b s h

-- ---- the answer
module _ (n : Narrowed) (s : List ℕ) where
  pub room_number : 48 ≤ length s → 0 ≡ export_number (length s) (Ok n)
  room_number h = sym (ap (λ (t : Bool). cond t 13 0) (le-ltb _ _ h))

  pub room_buffer : 48 ≤ length s → placed 0 (six_ends n.x n.a n.b) s ≡ export_buffer {E = Refusal} s (Ok n)
  unfolding placed
  room_buffer h = ap (λ (m : ℕ). six_ends n.x n.a n.b ++ drop (0 + m) s) (length_six n.x n.a n.b) ∙ sym (ap (λ (t : Bool). cond t s (six_ends n.x n.a n.b ++ drop 48 s)) (le-ltb _ _ h))
