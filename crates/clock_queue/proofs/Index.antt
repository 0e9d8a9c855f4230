-- Lines by their positions: reading, changing, and making one.
use Rattle.std.proofs.Common.{◌≡◌, ℕ, ◌-◌, ◌^◌, ◌<◌, ◌≤◌, ◌⊎◌, List, [], ◌∷◌, ◌++◌, refl, ap, sym, ◌∙◌, inl, inr, arith}
use Rattle.std.proofs.Common.{get_or, set, length, replicate}
use Rattle.std.proofs.lemmas.List.{get_or-map, length-map, length-set, length-append, get_or-set_same, get_or-set_other}
use Rattle.std.proofs.lemmas.List.{get_or_past, get_or_push, get_or_append_left, get_or_default, get_or-replicate}
use Rattle.std.proofs.lemmas.List.{length-replicate, ext_get_or}
use Rattle.clock_processor.proofs.Cases.{set_cases}
use Rattle.clock_queue.specs.inside.Lines.{LineFields, IsIndex, empty_line, lines_of, nowhere}

-- the line at a position
abbrev at_of : List LineFields → ℕ → LineFields
at_of lines at = get_or lines at empty_line

-- a line is read at its position in the list
pub line_read : (index : List ℕ) (lines : List LineFields) (line : ℕ) → line < length index →
    get_or (lines_of index lines) line empty_line ≡ get_or lines (get_or index line 0) empty_line
line_read index lines line within = get_or-map (at_of lines) index line 0 empty_line within

-- a line without a position is empty
pub line_empty : (index : List ℕ) (lines : List LineFields) (line : ℕ) → line < length index
    → length lines ≤ get_or index line 0 → get_or (lines_of index lines) line empty_line ≡ empty_line
line_empty index lines line within past =
    line_read index lines line within ∙ get_or_past lines (get_or index line 0) empty_line past

-- if one line is new and each other one reads as before, the list of all lines has one entry replaced
module _ (index index-2 : List ℕ) (lines lines-2 : List LineFields) (line : ℕ) (new : LineFields)
    (within : line < length index) (lengths : length index-2 ≡ length index)
    (is_new : get_or lines-2 (get_or index-2 line 0) empty_line ≡ new) (others : (k : ℕ) → k < length index → (k ≡ line
    → ⊥) → get_or lines-2 (get_or index-2 k 0) empty_line ≡ get_or lines (get_or index k 0) empty_line) where
  one_changed : lines_of index-2 lines-2 ≡ set (lines_of index lines) line new
  one_changed = ext_get_or empty_line (lines_of index-2 lines-2) (set (lines_of index lines) line new)
      (length-map index-2 (at_of lines-2) ∙ lengths ∙ sym (length-set (lines_of index lines) line new ∙ length-map index
      (at_of lines))) (λ k lt. set_cases (λ j held. j < length index → get_or (lines_of index-2 lines-2) j empty_line
      ≡ held) (lines_of index lines) line new empty_line (omega (arith, within, length-map index (at_of lines)))
      (λ _. line_read index-2 lines-2 line (omega (arith, within, lengths)) ∙ is_new)
      (λ j differ j_in. line_read index-2 lines-2 j (omega (arith, j_in, lengths)) ∙ others j j_in differ
      ∙ sym (line_read index lines j j_in)) k (omega (arith, lt, length-map index-2 (at_of lines-2), lengths)))

-- changing the line at its position replaces one entry
pub line_written : (index : List ℕ) (lines : List LineFields) (line : ℕ) (new : LineFields)
    → IsIndex index (length lines) → line < length index → get_or index line 0 < length lines
    → lines_of index (set lines (get_or index line 0) new) ≡ set (lines_of index lines) line new
line_written index lines line new is within has =
    let at : ℕ = get_or index line 0 in
    one_changed index index lines (set lines at new) line new within refl (get_or-set_same lines at new empty_line has)
    (λ k lt differ. get_or-set_other lines at (get_or index k 0) new empty_line
    (λ same. differ (sym (is.own line k within lt has (sym same)))))

-- making a line at the end replaces one entry
module _ (index : List ℕ) (lines : List LineFields) (line : ℕ) (new : LineFields) (is : IsIndex index (length lines))
    (within : line < length index) (few : length lines < nowhere) where
  read_before : (k : ℕ) → (get_or index k 0 < length lines) ⊎ (get_or index k 0 ≡ nowhere) →
      get_or (lines ++ new ∷ []) (get_or index k 0) empty_line ≡ get_or lines (get_or index k 0) empty_line
  read_before k (inl has) = get_or_append_left lines (new ∷ []) empty_line (get_or index k 0) has
  read_before k (inr none) = get_or_past (lines ++ new ∷ []) (get_or index k 0) empty_line
      (omega (arith, none, few, length-append lines (new ∷ [])))
      ∙ sym (get_or_past lines (get_or index k 0) empty_line (omega (arith, none, few)))

  other_position : (k : ℕ) → (k ≡ line → ⊥) → get_or (set index line (length lines)) k 0 ≡ get_or index k 0
  other_position k differ = get_or-set_other index line k (length lines) 0 differ

  own_position : get_or (set index line (length lines)) line 0 ≡ length lines
  own_position = get_or-set_same index line (length lines) 0 within

  pub line_made : lines_of (set index line (length lines)) (lines ++ new ∷ []) ≡ set (lines_of index lines) line new
  line_made = one_changed index (set index line (length lines)) lines (lines ++ new ∷ []) line new within
      (length-set index line (length lines)) (ap (λ at. get_or (lines ++ new ∷ []) at empty_line) own_position
      ∙ get_or_push lines new empty_line (length lines) refl) (λ k lt differ.
      ap (λ at. get_or (lines ++ new ∷ []) at empty_line) (other_position k differ) ∙ read_before k (is.positions k lt))

-- lines without positions are empty
nobody_waits : (count : ℕ) → lines_of (replicate count nowhere) [] ≡ replicate count empty_line
nobody_waits count = ext_get_or empty_line (lines_of (replicate count nowhere) []) (replicate count empty_line)
    (length-map (replicate count nowhere) (at_of []) ∙ length-replicate count nowhere
    ∙ sym (length-replicate count empty_line)) (λ k lt.
    let within : k < length (replicate count nowhere) =
    omega (arith, lt, length-map (replicate count nowhere) (at_of [])) in
    line_empty (replicate count nowhere) [] k within (omega arith)
    ∙ sym (get_or-replicate count k empty_line empty_line (omega (arith, within, length-replicate count nowhere))))

pub none_made : (index : List ℕ) (lists : List LineFields) (count : ℕ) → index ≡ replicate count nowhere → lists ≡ [] →
    lines_of index lists ≡ replicate count empty_line
none_made index lists count index_is lists_are = ap (λ (list : List ℕ). lines_of list lists) index_is
    ∙ ap (lines_of (replicate count nowhere)) lists_are ∙ nobody_waits count

-- what a call reads and writes, in terms of the list of all lines
module _ (index : List ℕ) (lists : List LineFields) (now : List LineFields) (is : IsIndex index (length lists))
    (shown : lines_of index lists ≡ now) (line at d : ℕ) (within : line < length now)
    (at_is : at ≡ get_or index line d) where
  in_index : line < length index
  in_index = omega (arith, within, ap length shown, length-map index (at_of lists))

  position : at ≡ get_or index line 0
  position = at_is ∙ get_or_default index line d 0 in_index

  read_now : get_or now line empty_line ≡ get_or lists (get_or index line 0) empty_line
  read_now =
      ap (λ (lines : List LineFields). get_or lines line empty_line) (sym shown) ∙ line_read index lists line in_index

  -- if the line has a position
  module _ (list other : LineFields) (has : at < length lists) (list_is : list ≡ get_or lists at other) where
    pub shown_list : list ≡ get_or now line empty_line
    shown_list = list_is ∙ get_or_default lists at other empty_line has
        ∙ ap (λ n. get_or lists n empty_line) position ∙ sym read_now

    pub shown_written : (new : LineFields) → lines_of index (set lists at new) ≡ set now line new
    shown_written new = ap (λ n. lines_of index (set lists n new)) position
        ∙ line_written index lists line new is in_index (omega (arith, has, position))
        ∙ ap (λ (lines : List LineFields). set lines line new) shown

  -- if the line has no position
  module _ (past : length lists ≤ at) where
    pub shown_empty : get_or now line empty_line ≡ empty_line
    shown_empty = read_now ∙ get_or_past lists (get_or index line 0) empty_line (omega (arith, past, position))

    pub shown_made : (last : ℕ) (longer : List LineFields) (new : LineFields) → length longer < 2 ^ 64 → longer
        ≡ lists ++ new ∷ [] → last ≡ length longer - 1 → lines_of (set index line last) longer ≡ set now line new
    shown_made last longer new few longer_is last_is =
        let count : last ≡ length lists = omega (arith, last_is, ap length longer_is, length-append lists (new ∷ [])) in
        ap (λ n. lines_of (set index line n) longer) count ∙ ap (lines_of (set index line (length lists))) longer_is
        ∙ line_made index lists line new is in_index
        (omega (arith, few, ap length longer_is, length-append lists (new ∷ [])))
        ∙ ap (λ (lines : List LineFields). set lines line new) shown
