-- 01's starred texts: each is the text of its sheet, which reads back; the sheet's run is in the table; the listing is computed. Rests on `reader`'s round trip and Sheets.
use Rattle.std.specs.Prelude.{Ok}
use mathlib.Core.Path.{◌≡◌, refl, sym, ap, ◌∙◌}
use mathlib.Core.List.{List, [], ◌∷◌}
use Prim.Native.Nat.{ℕ}
use Prim.Native.String.{◌++◌}
use Rattle.ladder.specs.Ordinal.{sign, infinity, ordinal, pattern}
use Rattle.arith.specs.declared.interval.Interval.{Interval}
use Rattle.arith.specs.Intervals.{ends_finite, is_ordered, canonical_in, canonical_of}
use Rattle.sheet.specs.declared.kept.Record.{Record}
use Rattle.sheet.specs.declared.kept.Kept.{Kept}
use Rattle.sheet.specs.Faults.{head_fault, cell_fault, named_fault, record_fault}
use Rattle.sheet.specs.Sheets.{first_fault, test_lists, test_of_lists}
use Rattle.propagation.specs.Narrowings.{narrow_sheet_of}
use Rattle.reader.specs.Numbers.{digits_for}
use Rattle.reader.specs.Digits.{digit_byte, digits_of, digit_count, decimal_of, hex_of}
use Rattle.reader.specs.Texts.{head_text, cell_text, record_text, text_lines, text_for, built}
use Rattle.reader.specs.Readings.{read_of}
use Rattle.reader.proofs.RoundTrip.{lists_back}
use Rattle.listing.specs.Listings.{cell_line, cell_lines, lines_of, listing_of, run_for, run_of}
use Rattle.examples.specs.Quoted.{bytes}
use Rattle.examples.specs.Starred.{Listings, interval, over, two_sums_cells, text000, two_sums_text}
use Rattle.examples.proofs.Sheets.{sheets}

-- ---- the text of cells and records is run as their sheet
text_run : (m : ℕ) (cells : List Interval) (records : List Record) (text : List ℕ) → test_of_lists 64 m cells records ≡ Ok tt → text_for 64 m cells records ≡ text → run_of text ≡ narrow_sheet_of (built 64 m cells records)
unfolding run_of
text_run m cells records text g t = ap (λ (k : Kept). run_for k.sheet k.answer) (ap read_of (sym t) ∙ lists_back 64 m cells records g)

-- ---- document 000's sheet
abbrev cells000 : List Interval
cells000 = interval 0xC630000000000000 0xC330000000000000 ∷ interval 0x3FF0000000000000 0x4630000000000000 ∷ interval 0x3FE0000000000000 0x3FF8000000000000 ∷ []

passing000 : test_of_lists 64 10 cells000 (over 0 1 2 ∷ []) ≡ Ok tt
unfolding test_lists first_fault head_fault cell_fault record_fault named_fault canonical_of canonical_in ends_finite is_ordered ordinal sign infinity
passing000 = refl

-- ---- the two sums
two_sums_passing : (test_of_lists 64 5 two_sums_cells (over 0 1 2 ∷ over 2 3 0 ∷ []) ≡ Ok tt) × (test_of_lists 64 6 two_sums_cells (over 0 1 2 ∷ over 2 3 0 ∷ []) ≡ Ok tt)
unfolding test_lists first_fault head_fault cell_fault record_fault named_fault canonical_of canonical_in ends_finite is_ordered ordinal sign infinity
two_sums_passing = (refl, refl)

-- ---- the texts are theirs
record Texts : Type 0 where
  whole : text_for 64 10 cells000 (over 0 1 2 ∷ []) ≡ bytes text000
  stops : text_for 64 5 two_sums_cells (over 0 1 2 ∷ over 2 3 0 ∷ []) ≡ bytes ("sheet\t64\t5\n" ++ two_sums_text)
  breaks : text_for 64 6 two_sums_cells (over 0 1 2 ∷ over 2 3 0 ∷ []) ≡ bytes ("sheet\t64\t6\n" ++ two_sums_text)

texts : Texts
unfolding head_text cell_text record_text text_lines decimal_of digit_count digits_of digit_byte hex_of digits_for bytes
texts = record { whole = refl; stops = refl; breaks = refl }

-- ---- the table
pub listings : Listings
unfolding lines_of cell_lines cell_line decimal_of digit_count digits_of digit_byte hex_of digits_for bytes ordinal pattern sign
listings = record {
  whole = ap listing_of (text_run 10 cells000 (over 0 1 2 ∷ []) (bytes text000) passing000 texts.whole ∙ sheets.settles);
  stops = ap listing_of (text_run 5 two_sums_cells (over 0 1 2 ∷ over 2 3 0 ∷ []) (bytes ("sheet\t64\t5\n" ++ two_sums_text)) two_sums_passing.0 texts.stops ∙ sheets.stops);
  breaks = ap listing_of (text_run 6 two_sums_cells (over 0 1 2 ∷ over 2 3 0 ∷ []) (bytes ("sheet\t64\t6\n" ++ two_sums_text)) two_sums_passing.1 texts.breaks ∙ sheets.breaks);
}
