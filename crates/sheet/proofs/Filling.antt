-- Places written one after the other: what the loops that tidy rest on, and what each place then holds; and lists under a function.
-- Assumes nothing.
use mathlib.Core.Path.{◌≡◌, refl, sym, ap, ◌∙◌}
use mathlib.Core.List.{List, [], ◌∷◌, ◌++◌, map, append-nil}
use Prim.Native.Nat.{ℕ, zero, suc, ◌-◌, ◌<◌, ◌≤◌}
use native.Mathlib.Nat.{add-zero}
use native.Mathlib.Omega.{arith}
use lib.ListN.{length, get_or, take, drop, replicate, length-append, length-replicate, length-map, get_or-append}
use lib.Seq.{length-take-le, get_or-take, get_or-append_right, take_all}
use Rattle.std.proofs.lemmas.List.{get_or-drop, get_or-replicate, drop_all}
use Rattle.sheet.specs.Sheets.{filled}

pub length_filled : {A : Type 0} (places n : ℕ) (v : A) (l : List A) → length l ≡ n → n ≤ places → length (filled places v l n) ≡ places
length_filled places n v l e le = length-append l (replicate (places - n) v) ∙ omega (arith, length-replicate (places - n) v)

-- a list is as long as its image
pub mapped_long : {A B : Type 0} (g : A → B) (l : List A) (n : ℕ) → length (map g l) ≡ n → length l ≡ n
mapped_long g l n e = sym (length-map l g) ∙ e

-- a member under a function
pub get_d_under : {A B : Type 0} (f : A → B) (l : List A) (i : ℕ) (d : A) (d' : B) → i < length l → get_or (map f l) i d' ≡ f (get_or l i d)
get_d_under f [] i d d' lt = absurd (omega arith)
get_d_under f (x ∷ xs) zero d d' lt = refl
get_d_under f (x ∷ xs) (suc i) d d' lt = get_d_under f xs i d d' (omega arith)

-- the first n members under a function are n
mapped_first : {A B : Type 0} (f : A → B) (n : ℕ) (l : List A) → n ≤ length l → length (map f (take n l)) ≡ n
mapped_first f n l few = length-map (take n l) f ∙ length-take-le n l few

-- ---- the list that tidying leaves of l: its first n members in their places, under f, and v in the others
module _ {A : Type 0} (f : A → A) (v : A) (n : ℕ) (l : List A) where
  abbrev pub Due : List A
  Due = filled (length l) v (map f (take n l)) n

  module _ (few : n ≤ length l) where
    -- a place in use
    pub due_used : (i : ℕ) (d e : A) → i < n → get_or Due i d ≡ f (get_or l i e)
    due_used i d e lt =
        let m = mapped_first f n l few in
        let h : i < length (map f (take n l)) = omega arith in
        let t : i < length (take n l) = omega (arith, length-take-le n l few) in
        get_or-append (map f (take n l)) (replicate (length l - n) v) d i h ∙ get_d_under f (take n l) i e d t ∙ ap f (get_or-take n l i e lt)

    -- a place not in use
    pub due_unused : (i : ℕ) (d : A) → n ≤ i → i < length l → get_or Due i d ≡ v
    due_unused i d le lt =
        let m = mapped_first f n l few in
        get_or-append_right (map f (take n l)) (replicate (length l - n) v) i d (omega arith)
        ∙ get_or-replicate (length l - n) (i - length (map f (take n l))) v d (omega arith)

-- ---- a loop that writes f x over each x of l: before i they are written, from i on as they were
module _ {A : Type 0} (f : A → A) (l out : List A) (i : ℕ) (so : out ≡ map f (take i l) ++ drop i l) where
  pub not_yet : (d : A) → i ≤ length l → get_or out i d ≡ get_or l i d
  not_yet d h =
      let m = mapped_first f i l h in
      let z : i - length (map f (take i l)) ≡ 0 = omega arith in
      ap (λ (o : List A). get_or o i d) so ∙ get_or-append_right (map f (take i l)) (drop i l) i d (omega arith) ∙ ap (λ (k : ℕ). get_or (drop i l) k d) z ∙ get_or-drop i l 0 d ∙ ap (λ (k : ℕ). get_or l k d) (add-zero i)

  pub over_all : length l ≤ i → out ≡ map f l
  over_all h = so ∙ rw (take_all i l h, drop_all i l h) (append-nil (map f l))

-- one value over each
pub one_value : {A : Type 0} (v : A) (l : List A) → map (λ (_ : A). v) l ≡ replicate (length l) v
one_value v [] = refl
one_value {A = A} v (x ∷ xs) = ap (λ (vs : List A). v ∷ vs) (one_value v xs)
