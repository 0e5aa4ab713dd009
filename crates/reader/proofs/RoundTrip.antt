-- The text of a sheet reads back as that sheet. Rests on Building, Records and Walking.
use mathlib.Core.Path.{◌≡◌, refl, sym, ap, subst, ◌∙◌}
use mathlib.Core.Bool.{Bool, true, false, ◌||◌, true≢false}
use mathlib.Core.List.{List, [], ◌∷◌, ◌++◌, append_assoc, append-nil}
use Prim.Native.Nat.{ℕ, suc, ◌+◌, ◌*◌, ◌≤◌, ◌<◌}
use native.Mathlib.Omega.{arith}
use lib.Dec.{eqb}
use lib.ListN.{length, length-append, drop_of_length-le}
use lib.Seq.{length-take-le}
use borrow.Author.Tests.{ne_eqb, le-ltb, lt-ltb, eqb-true}
use Rattle.arith.specs.declared.interval.Interval.{Interval}
use Rattle.arith.specs.Formats.{is_known}
use Rattle.sheet.specs.declared.kept.Record.{Record}
use Rattle.sheet.specs.declared.kept.Sheet.{Sheet}
use Rattle.sheet.specs.Faults.{Fault, head_fault, cell_fault, record_fault}
use Rattle.sheet.specs.Sheets.{used_cells, used_records, tidied, test_of_lists, test_of}
use Rattle.sheet.proofs.Answers.{all_good}
use Rattle.sheet.proofs.Records.{names_of, first_in, second_in, third_in}
use Rattle.sheet.proofs.Tested.{good_head}
use Rattle.reader.specs.Bytes.{index_of, count_of}
use Rattle.reader.specs.Lines.{feed}
use Rattle.reader.specs.Steps.{start, head_step, cell_step, record_step, counted, read_step, admitted, step_at, next_of}
use Rattle.reader.specs.Readings.{read_of}
use Rattle.reader.specs.Texts.{head_text, cell_text, record_text, text_lines, text_for, built, text_of}
use Rattle.std.specs.Prelude.{None, Ok}
use Rattle.reader.specs.declared.entry.Entry.TheVariants as Entry
use Rattle.reader.proofs.Building.{Faultless, faultless_next, Passing, lists_passing, loaded, length_more, load_cell, load_record, loaded_tidied}
use Rattle.reader.proofs.Following.{Reached, reached_first, reached_next, read_there}
use Rattle.reader.proofs.Records.{cell_small, Few, head_back, cell_back, record_back, head_free, cell_free, record_free, head_length, cell_length, record_length}
use Rattle.reader.proofs.Walking.{after, next_line, walk}

-- ---- what the faults say of numbers
width_small : (w : ℕ) → is_known w ≡ true → w < 100000
width_small w = go (eqb w 32) refl (eqb w 64) refl
  where
    go : (p : Bool) → eqb w 32 ≡ p → (q : Bool) → eqb w 64 ≡ q → p || q ≡ true → w < 100000
    go true e q f z = omega (arith, eqb-true w 32 e)
    go false e true f z = omega (arith, eqb-true w 64 f)
    go false e false f z = absurd (true≢false (sym z))

record_few : (n : ℕ) (t : Record) → n ≤ 64 → record_fault n t ≡ Ok tt → Few t
record_few n t h z =
    let m = names_of n t z in
    record { x = omega (arith, first_in n t m); a = omega (arith, second_in n t m); b = omega (arith, third_in n t m); third = m.third; kind = m.kind }

-- ---- the step at each kind of line
begins : start ≡ after [] 0 0 0
unfolding count_of
begins = refl

head_next : (rest : List ℕ) (w m : ℕ) → length (head_text w m ++ (feed ∷ rest)) ≤ 8192 → head_fault w m ≡ Ok tt → next_of (head_text w m ++ (feed ∷ rest)) start ≡ read_step (Entry.Head w m) (after (head_text w m ++ (feed ∷ [])) w 0 0)
unfolding admitted counted head_step
head_next rest w m h z =
    let g = good_head w m z in
    ap (next_of (head_text w m ++ (feed ∷ rest))) begins
    ∙ rw (next_line [] (head_text w m) rest 0 0 0 (head_free w m) h, head_back 0 w m (width_small w g.known) (omega (arith, g.few)), z)

module _ (text read rest : List ℕ) (w i j : ℕ) (h : length text ≤ 8192) (p : 0 < length read) where
  cell_next : (I : Interval) → text ≡ read ++ (cell_text w I ++ (feed ∷ rest)) → cell_fault w I ≡ Ok tt → i < 64 → next_of text (after read w i j) ≡ read_step (Entry.Cell I) (after (read ++ (cell_text w I ++ (feed ∷ []))) w (i + 1) j)
  unfolding admitted counted cell_step
  cell_next I e z l =
      rw (e, next_line read (cell_text w I) rest w i j (cell_free w I) (rw e at h), cell_back (length read) w I p (cell_small w I z), z, lt-ltb i 64 l)

  record_next : (t : Record) → text ≡ read ++ (record_text t ++ (feed ∷ rest)) → Few t → record_fault i t ≡ Ok tt → j < 128 → next_of text (after read w i j) ≡ read_step (Entry.Record t) (after (read ++ (record_text t ++ (feed ∷ []))) w i (j + 1))
  unfolding admitted counted record_step
  record_next t e f z l =
      rw (e, next_line read (record_text t) rest w i j (record_free t) (rw e at h), record_back (length read) w t p f, z, lt-ltb j 128 l)

end_next : (text : List ℕ) (w i j : ℕ) → length text ≤ 8192 → 0 < length text → next_of text (after text w i j) ≡ Ok None
unfolding next_of step_at index_of
end_next text w i j h p =
    let l : length text ≤ length text = omega arith in
    rw (le-ltb 8192 (length text) h, drop_of_length-le text l, ne_eqb (length text) 0 (λ e. omega arith))

-- ---- the length of the text
lines_short : {A : Type 0} (line : A → List ℕ) (fault : A → Fault) → ((v : A) → fault v ≡ Ok tt → length (line v) ≤ 38) → (l : List A) → Faultless fault l → length (text_lines line l) ≤ 39 * length l
unfolding text_lines
lines_short line fault k [] f = omega arith
lines_short line fault k (v ∷ vs) f = simp length-append (omega (arith, k v f.0, lines_short line fault k vs f.1))

lines_long : {A : Type 0} (line : A → List ℕ) (l : List A) → length l ≤ length (text_lines line l)
unfolding text_lines
lines_long line [] = omega arith
lines_long line (v ∷ vs) = simp length-append (omega (arith, lines_long line vs))

-- ---- the text of cells and records that the test lets pass
module _ (w m : ℕ) (cs : List Interval) (ts : List Record) (tested : test_of_lists w m cs ts ≡ Ok tt) where
  g : Passing w m cs ts
  g = lists_passing w m cs ts tested

  abbrev text : List ℕ
  text = text_for w m cs ts

  abbrev headed : List ℕ
  headed = head_text w m ++ (feed ∷ [])

  few : (t : Record) → record_fault (length cs) t ≡ Ok tt → Few t
  few t z = record_few (length cs) t g.few_cells z

  fits : length text ≤ 8192
  fits =
      let d = good_head w m g.head in
      let a = head_length w m (width_small w d.known) (omega (arith, d.few)) in
      let b = lines_short (cell_text w) (cell_fault w) (λ v z. cell_length w v) cs g.cells in
      let c = lines_short record_text (record_fault (length cs)) (λ v z. omega (arith, record_length v (few v z))) ts g.records in
      let e = g.few_cells in
      let f = g.few_records in
      simp (length-append, length-append) (omega arith)

  one_cell :
      (before : List Interval) (I : Interval) (later : List Interval) (read rest : List ℕ) (n : ℕ) → cs ≡ before ++ (I ∷ later) → text ≡ read ++ (cell_text w I ++ (feed ∷ rest)) → 0 < length read →
      Reached text n (after read w (length before) 0) (loaded w m before []) →
      Reached text (suc n) (after (read ++ (cell_text w I ++ (feed ∷ []))) w (length (before ++ (I ∷ []))) 0) (loaded w m (before ++ (I ∷ [])) [])
  one_cell before I later read rest n e t p r =
      let z = faultless_next (cell_fault w) before I later (rw e at g.cells) in
      let k : length before < 64 = omega (arith, g.few_cells, ap length e ∙ length-append before (I ∷ later)) in
      rw (← load_cell w m before [] I k, length_more before I) (reached_next text r _ (cell_next text read rest w (length before) 0 fits p I t z k))

  one_record :
      (before : List Record) (v : Record) (later : List Record) (read rest : List ℕ) (n : ℕ) → ts ≡ before ++ (v ∷ later) → text ≡ read ++ (record_text v ++ (feed ∷ rest)) → 0 < length read →
      Reached text n (after read w (length cs) (length before)) (loaded w m cs before) →
      Reached text (suc n) (after (read ++ (record_text v ++ (feed ∷ []))) w (length cs) (length (before ++ (v ∷ [])))) (loaded w m cs (before ++ (v ∷ [])))
  one_record before v later read rest n e t p r =
      let z = faultless_next (record_fault (length cs)) before v later (rw e at g.records) in
      let k : length before < 128 = omega (arith, g.few_records, ap length e ∙ length-append before (v ∷ later)) in
      rw (← load_record w m cs before v k, length_more before v) (reached_next text r _ (record_next text read rest w (length cs) (length before) fits p v t (few v z) z k))

  -- there are as many records as bytes, or fewer
  short : length ts + (length cs + 1) ≤ length text
  short =
      let a = lines_long (cell_text w) cs in
      let b = lines_long record_text ts in
      let c : length text ≡ length (head_text w m) + suc (length (text_lines (cell_text w) cs) + length (text_lines record_text ts)) = simp (length-append, length-append) in
      omega arith

  first : Reached text 1 (after headed w 0 0) (loaded w m [] [])
  unfolding head_text
  first = reached_next text (reached_first text) _ (head_next (text_lines (cell_text w) cs ++ text_lines record_text ts) w m fits g.head)

  all : Reached text (length ts + (length cs + 1)) (after text w (length cs) (length ts)) (loaded w m cs ts)
  all =
      let cells = text_lines (cell_text w) cs in
      let records = text_lines record_text ts in
      let p : 0 < length headed = simp length-append (omega arith) in
      let q : 0 < length (headed ++ cells) = simp (length-append, length-append) (omega arith) in
      let a : text ≡ headed ++ (cells ++ records) = sym (append_assoc (head_text w m) (feed ∷ []) (cells ++ records)) in
      let b : (headed ++ cells) ++ records ≡ text = append_assoc headed cells records ∙ sym a in
      let c : text ≡ (headed ++ cells) ++ (records ++ []) = sym b ∙ rw (append-nil records) in
      let d = walk (cell_text w) text cs (λ r l. after r w (length l) 0) (λ l. loaded w m l []) one_cell [] cs headed records 1 refl a p first in
      subst (λ (r : List ℕ). Reached text (length ts + (length cs + 1)) (after r w (length cs) (length ts)) (loaded w m cs ts)) b
      (walk record_text text ts (λ r l. after r w (length cs) (length l)) (λ l. loaded w m cs l) one_record [] ts (headed ++ cells) [] (length cs + 1) refl c q d)

  pub lists_back : read_of (text_for w m cs ts) ≡ record { sheet = built w m cs ts; answer = Ok tt }
  lists_back =
      let e = end_next text w (length cs) (length ts) fits (omega (arith, short)) in
      (rw e at (read_there text all short (rw e tt))) ∙ rw (loaded_tidied w m cs ts)

-- ---- a kept sheet that its own test lets pass reads back in its written form, each end in its one pattern and unused places zero
pub round_trip : (s : Sheet) → length s.cells ≡ 64 → length s.records ≡ 128 → test_of s ≡ Ok tt → read_of (text_of s) ≡ record { sheet = tidied s; answer = Ok tt }
unfolding text_of tidied
round_trip s a b t =
    let p = all_good s.width s.limit s.cell_count s.record_count (used_cells s) (used_records s) t in
    let c : length (used_cells s) ≡ s.cell_count = length-take-le s.cell_count s.cells (omega (arith, p.few_cells)) in
    let d : length (used_records s) ≡ s.record_count = length-take-le s.record_count s.records (omega (arith, p.few_records)) in
    lists_back s.width s.limit (used_cells s) (used_records s) (rw (c, d) t) ∙ rw (c, d)
