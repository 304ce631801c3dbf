-- The text of the events of a value is its text.
use Rattle.std.proofs.Common.{◌≡◌, ℕ, zero, suc, ◌+◌, ◌≤◌, ◌<◌, ◌==◌, ◌/◌, ◌%◌, Bool, true, false, ◌&&◌, if◌then◌else◌, List, [], ◌∷◌, ◌++◌, length, take, drop, slice_index, map, refl, sym, ap, ◌∙◌, subst, append_assoc, append-nil, codes, arith, nat_lt, nat_le}
use Rattle.std.specs.List.{flat_map}
use Rattle.std.proofs.lemmas.Bool.Decides.{nat_tests}
use Rattle.std.proofs.lemmas.List.{map-append, take-append-drop}
use Rattle.hex.specs.Hex.{encode_lower, encode_with, lower_digits}
use Rattle.cqlp_note.specs.Limits.{Rules}
use Rattle.cqlp_kind.specs.declared.kind.Kind.{Kind}
use Rattle.cqlp_kind.specs.declared.kind.Kind.TheVariants as kind
use Rattle.cqlp_kind.specs.Types.{Types, NoMore, Type_and, first_types, how_many}
use Rattle.cqlp_kind.specs.Scalars.{ScalarValue, kind_of, content_of}
use Rattle.cqlp_kind.specs.Scalars as scalar
use Rattle.cqlp_kind.specs.CellStep.{CellEvent, Leaf, Enter, Leave, Part, is_opaque}
use Rattle.cqlp_value.specs.Values.{Values, NoValue, Null_and, Empty_and, Scalar_and, Counted_and, Fields_and, values_in, values_size, type_copies, part_items, in_parts, scalar_items, values_items}
use Rattle.cqlp_value.proofs.ScalarsWritten.{both_true}
use Rattle.cqlp_grammar.specs.Events.{Event, cell_event}
use Rattle.cqlp_text.specs.declared.page_text.WrittenValue.{WrittenValue}
use Rattle.cqlp_text.specs.declared.page_text.Turn.{Turn}
use Rattle.cqlp_text.specs.declared.page_text.Turn.TheVariants.{First, Another}
use Rattle.cqlp_text.specs.CellText.{cell_text}
use Rattle.cqlp_text.specs.PageText.{PagePlace, opening, closing, before, after, turn_after, with_item, page_text}
use Rattle.cqlp_tool_laws.specs.ValueText.{joined, entries, items_text, value_texts}
use Rattle.cqlp_tool_laws.specs.Rows.{nesting}
use Rattle.cqlp_tool_laws.proofs.Shapes.{AreOf}

-- ---- items with what comes between them

-- the texts of values one after the other, each with what comes before and after it among these open values
abbrev pub spread : (columns column : ℕ) → List WrittenValue → List (List ℕ) → List ℕ
spread columns column os [] = []
spread columns column os (t ∷ ts) = before column os ++ (t ++ (after columns column os ++ spread columns column (with_item os) ts))

-- the open values after as many items
abbrev pub counted : List WrittenValue → List (List ℕ) → List WrittenValue
counted os [] = os
counted os (t ∷ ts) = counted (with_item os) ts

abbrev pub opened : Kind → Turn → WrittenValue
opened k turn = record { kind = k; turn = turn }

-- a kind whose items all look alike
abbrev pub IsAlike : Kind → Type 0
IsAlike k = (turn : Turn) → turn_after k turn ≡ Another

module _ (columns column : ℕ) (os : List WrittenValue) where
  -- items after the first
  abbrev pub further : List (List ℕ) → List ℕ
  further ts = flat_map (λ t. codes ", " ++ t) ts

  alike_further : (k : Kind) → IsAlike k → (ts : List (List ℕ)) → spread columns column (opened k Another ∷ os) ts ≡ further ts
  alike_further k alike [] = refl
  alike_further k alike (t ∷ ts) =
      ap (λ (turn : Turn). codes ", " ++ (t ++ spread columns column (opened k turn ∷ os) ts)) (alike Another)
      ∙ ap (λ rest. codes ", " ++ (t ++ rest)) (alike_further k alike ts)
      ∙ sym (append_assoc (codes ", ") t (further ts))

  alike_items : (k : Kind) → IsAlike k → (ts : List (List ℕ)) → spread columns column (opened k First ∷ os) ts ≡ joined (codes ", ") ts
  alike_items k alike [] = refl
  alike_items k alike (t ∷ ts) =
      ap (λ (turn : Turn). t ++ spread columns column (opened k turn ∷ os) ts) (alike First)
      ∙ ap (λ rest. t ++ rest) (alike_further k alike ts)

  map_further : (ts : List (List ℕ)) → spread columns column (opened kind.Map Another ∷ os) ts ≡ further (entries ts)
  map_further [] = refl
  map_further (key ∷ []) = sym (append_assoc (codes ", ") key [])
  map_further (key ∷ value ∷ ts) =
      ap (λ rest. codes ", " ++ (key ++ (codes ": " ++ (value ++ rest)))) (map_further ts) ∙ sym (simp append_assoc)

  map_items : (ts : List (List ℕ)) → spread columns column (opened kind.Map First ∷ os) ts ≡ joined (codes ", ") (entries ts)
  map_items [] = refl
  map_items (key ∷ []) = refl
  map_items (key ∷ value ∷ ts) =
      ap (λ rest. key ++ (codes ": " ++ (value ++ rest))) (map_further ts) ∙ sym (simp append_assoc)

  pub items_are : (k : Kind) (ts : List (List ℕ)) → spread columns column (opened k First ∷ os) ts ≡ items_text k ts
  items_are kind.Map ts = map_items ts
  items_are k ts = alike_items k (λ turn. refl) ts

-- the innermost open value stays the same but for its turn
pub still_open : (k : Kind) (turn : Turn) (os : List WrittenValue) (ts : List (List ℕ)) → (now : Turn) × (counted (opened k turn ∷ os) ts ≡ opened k now ∷ os)
still_open k turn os [] = (turn, refl)
still_open k turn os (t ∷ ts) = still_open k (turn_after k turn) os ts

-- an item more leaves as many open values, and nothing else comes after an item of them
length-with_item : (os : List WrittenValue) → length (with_item os) ≡ length os
length-with_item [] = refl
length-with_item (o ∷ os) = refl

after-with_item : (columns column : ℕ) (os : List WrittenValue) → after columns column (with_item os) ≡ after columns column os
after-with_item columns column [] = refl
after-with_item columns column (o ∷ os) = refl

-- ---- long contents

encode-append : (digits a b : List ℕ) → encode_with digits (a ++ b) ≡ encode_with digits a ++ encode_with digits b
unfolding encode_with
encode-append digits [] b = refl
encode-append digits (x ∷ a) b = ap (λ t. slice_index digits (x / 16) ∷ slice_index digits (x % 16) ∷ t) (encode-append digits a b)

whole_hex : (n : ℕ) (c : List ℕ) → encode_lower (take n c) ++ encode_lower (drop n c) ≡ encode_lower c
whole_hex n c = sym (encode-append lower_digits (take n c) (drop n c)) ∙ ap encode_lower (take-append-drop n c)

-- a scalar that comes in parts is hex text
opaque_text : (v : ScalarValue) → is_opaque (kind_of v) ≡ true → cell_text v ≡ codes "0x" ++ encode_lower (content_of v)
opaque_text (scalar.Custom bytes) e = refl
opaque_text (scalar.Blob bytes) e = refl
opaque_text (scalar.Raw bytes) e = refl
opaque_text v e = absurd cc

regroup : (a b c d e : List ℕ) → (a ++ (b ++ c)) ++ (d ++ e) ≡ (a ++ (b ++ (c ++ d))) ++ e
regroup a b c d e = simp append_assoc

two_parts : (a b c d : List ℕ) → (a ++ []) ++ ((b ++ c) ++ d) ≡ ((a ++ b) ++ c) ++ d
two_parts a b c d = simp (append_assoc, append-nil)

first_part : (a x b c d e : List ℕ) → ((a ++ x) ++ (b ++ [])) ++ ((c ++ d) ++ e) ≡ (a ++ ((x ++ (b ++ c)) ++ d)) ++ e
first_part a x b c d e = simp (append_assoc, append-nil)

in_brackets : (a x b y c d e : List ℕ) → (a ++ x) ++ (b ++ ((y ++ c) ++ (d ++ e))) ≡ (a ++ ((x ++ (b ++ y)) ++ (c ++ d))) ++ e
in_brackets a x b y c d e = simp append_assoc

-- what comes before a value with items, its brackets and its items, what comes after it, and the others
bracketed : (a x items y end others rest b c left : List ℕ) → b ≡ items → c ≡ end → left ≡ others ++ rest
    → (a ++ x) ++ (b ++ ((y ++ c) ++ left)) ≡ (a ++ ((x ++ (items ++ y)) ++ (end ++ others))) ++ rest
bracketed a x items y end others rest b c left is after behind =
    ap (λ t. (a ++ x) ++ (t ++ ((y ++ c) ++ left))) is ∙ ap (λ t. (a ++ x) ++ (items ++ ((y ++ t) ++ left))) after ∙ ap (λ t. (a ++ x) ++ (items ++ ((y ++ end) ++ t))) behind
    ∙ in_brackets a x items y end others rest

further_on : (a b : ℕ) → (a == 0) ≡ false → (a + b == 0) ≡ false
further_on a b e = grind (arith, nat_tests)

-- ---- the events of values in a cell

module _ (l : Rules) (columns row column : ℕ) where
  -- the place in a page in this column with these open values
  abbrev pub place : List WrittenValue → PagePlace
  place os = record { is_page = true; columns = columns; column = column; open_values = os }

  abbrev pub events : List (ℕ × CellEvent) → List (ℕ × Event)
  events es = map (λ e. (e.0, cell_event row column e.1)) es

  events-append : (es fs : List (ℕ × CellEvent)) (more : List (ℕ × Event)) → events (es ++ fs) ++ more ≡ events es ++ (events fs ++ more)
  events-append es fs more = ap (λ x. x ++ more) (map-append (λ (e : ℕ × CellEvent). (e.0, cell_event row column e.1)) es fs) ∙ append_assoc (events es) (events fs) more

  -- a value of this text, with what comes before and after it
  abbrev pub around : List WrittenValue → List ℕ → List ℕ
  around os text = before column os ++ (text ++ after columns column os)

  -- what is written of the parts after the first
  module _ (os : List WrittenValue) (level : ℕ) (more : List (ℕ × Event)) where
    abbrev pub last_of : List ℕ → List ℕ
    last_of c = (encode_lower c ++ after columns column os) ++ page_text (place (with_item os)) more

    part_then : (n at offset : ℕ) (c : List ℕ) (b : Bool) → (offset == 0) ≡ false
        → page_text (place os) (events (part_items l n level (at + l.part) (offset + l.part) (drop l.part c)) ++ more) ≡ last_of (drop l.part c)
        → page_text (place os) (events (if b then (at, Part level offset c true) ∷ [] else (at, Part level offset (take l.part c) false) ∷ part_items l n level (at + l.part) (offset + l.part) (drop l.part c)) ++ more) ≡ last_of c
    part_then n at offset c true later next =
        ap (λ (first : Bool). ((if first then before column os ++ codes "0x" else []) ++ (encode_lower c ++ after columns column os)) ++ page_text (place (with_item os)) more) later
    part_then n at offset c false later next =
        ap (λ (first : Bool). ((if first then before column os ++ codes "0x" else []) ++ (encode_lower (take l.part c) ++ [])) ++ page_text (place os) (events (part_items l n level (at + l.part) (offset + l.part) (drop l.part c)) ++ more)) later
        ∙ ap (λ rest. (encode_lower (take l.part c) ++ []) ++ rest) next
        ∙ two_parts (encode_lower (take l.part c)) (encode_lower (drop l.part c)) (after columns column os) (page_text (place (with_item os)) more)
        ∙ ap (λ hex. (hex ++ after columns column os) ++ page_text (place (with_item os)) more) (whole_hex l.part c)

    later_parts : (n at offset : ℕ) (c : List ℕ) → (offset == 0) ≡ false → page_text (place os) (events (part_items l n level at offset c) ++ more) ≡ last_of c
    later_parts zero at offset c later =
        ap (λ (first : Bool). ((if first then before column os ++ codes "0x" else []) ++ (encode_lower c ++ after columns column os)) ++ page_text (place (with_item os)) more) later
    later_parts (suc n) at offset c later =
        part_then n at offset c (nat_le (length c) l.part) later (later_parts n (at + l.part) (offset + l.part) (drop l.part c) (further_on offset l.part later))

    all_parts : (n at : ℕ) (c : List ℕ) → n ≡ length c → l.part < length c → 1 ≤ l.part
        → page_text (place os) (events (part_items l n level at 0 c) ++ more) ≡ around os (codes "0x" ++ encode_lower c) ++ page_text (place (with_item os)) more
    all_parts zero at c size long some = absurd (omega arith)
    all_parts (suc n) at c size long some =
        let cut : nat_le (length c) l.part ≡ false = grind (arith, nat_tests) in
        let begun : (0 + l.part == 0) ≡ false = grind (arith, nat_tests) in
        ap (λ (b : Bool). page_text (place os) (events (if b then (at, Part level 0 c true) ∷ [] else (at, Part level 0 (take l.part c) false) ∷ part_items l n level (at + l.part) (0 + l.part) (drop l.part c)) ++ more)) cut
        ∙ ap (λ rest. ((before column os ++ codes "0x") ++ (encode_lower (take l.part c) ++ [])) ++ rest) (later_parts n (at + l.part) (0 + l.part) (drop l.part c) begun)
        ∙ first_part (before column os) (codes "0x") (encode_lower (take l.part c)) (encode_lower (drop l.part c)) (after columns column os) (page_text (place (with_item os)) more)
        ∙ ap (λ hex. (before column os ++ ((codes "0x" ++ hex) ++ after columns column os)) ++ page_text (place (with_item os)) more) (whole_hex l.part c)

    scalar_by : (at : ℕ) (v : ScalarValue) (b : Bool) → in_parts l v ≡ b → 1 ≤ l.part
        → page_text (place os) (events (if b then part_items l (length (content_of v)) level (at + 4) 0 (content_of v) else (at, Leaf level v) ∷ []) ++ more) ≡ around os (cell_text v) ++ page_text (place (with_item os)) more
    scalar_by at v false is some = refl
    scalar_by at v true is some =
        let both = both_true (l.parts && is_opaque (kind_of v)) (nat_lt l.part (length (content_of v))) is in
        let opaque = both_true l.parts (is_opaque (kind_of v)) both.0 in
        let long : nat_lt l.part (length (content_of v)) ≡ true = both.1 in
        all_parts (length (content_of v)) (at + 4) (content_of v) refl (grind (arith, nat_tests)) some
        ∙ ap (λ text. around os text ++ page_text (place (with_item os)) more) (sym (opaque_text v opaque.1))

    scalar_text : (at : ℕ) (v : ScalarValue) → 1 ≤ l.part
        → page_text (place os) (events (scalar_items l level at v) ++ more) ≡ around os (cell_text v) ++ page_text (place (with_item os)) more
    scalar_text at v some = scalar_by at v (in_parts l v) refl some

  -- a value, and others after it
  value_then : (text : List ℕ) (os : List WrittenValue) (ts : List (List ℕ)) (rest : List ℕ)
      → around os text ++ (spread columns column (with_item os) ts ++ rest) ≡ spread columns column os (text ∷ ts) ++ rest
  value_then text os ts rest = regroup (before column os) text (after columns column os) (spread columns column (with_item os) ts) rest

  -- a value with items, whose end gives the bracket that closes it
  module _ (os : List WrittenValue) (level at stop n m : ℕ) (k : Kind) (es fs : List (ℕ × CellEvent)) (items others : List (List ℕ)) (more : List (ℕ × Event)) where
    abbrev pub inside : List WrittenValue
    inside = opened k First ∷ with_item os

    with_items_at : (now : Turn) → counted inside items ≡ opened k now ∷ with_item os → length os < 64
        → ((left : List (ℕ × Event)) → page_text (place inside) (events es ++ left) ≡ spread columns column inside items ++ page_text (place (counted inside items)) left)
        → page_text (place (with_item os)) (events fs ++ more) ≡ spread columns column (with_item os) others ++ page_text (place (counted (with_item os) others)) more
        → page_text (place os) (events ((at, Enter level k n) ∷ (es ++ ((stop, Leave level m) ∷ fs))) ++ more)
        ≡ spread columns column os ((opening k ++ (items_text k items ++ closing k)) ∷ others) ++ page_text (place (counted (with_item os) others)) more
    with_items_at now still room within behind =
        let free : (length (with_item os) == 64) ≡ false = let same = length-with_item os in grind (arith, nat_tests) in
        let left = events ((stop, Leave level m) ∷ fs) ++ more in
        ap (λ x. (before column os ++ opening k) ++ page_text (place (if length (with_item os) == 64 then with_item os else inside)) x) (events-append es ((stop, Leave level m) ∷ fs) more)
        ∙ ap (λ (b : Bool). (before column os ++ opening k) ++ page_text (place (if b then with_item os else inside)) (events es ++ left)) free
        ∙ ap (λ x. (before column os ++ opening k) ++ x) (within left)
        ∙ ap (λ (now : List WrittenValue). (before column os ++ opening k) ++ (spread columns column inside items ++ page_text (place now) left)) still
        ∙ bracketed (before column os) (opening k) (items_text k items) (closing k) (after columns column os) (spread columns column (with_item os) others) (page_text (place (counted (with_item os) others)) more)
        (spread columns column inside items) (after columns column (with_item os)) (page_text (place (with_item os)) (events fs ++ more))
        (items_are columns column (with_item os) k items) (after-with_item columns column os) behind

    with_items : length os < 64
        → ((left : List (ℕ × Event)) → page_text (place inside) (events es ++ left) ≡ spread columns column inside items ++ page_text (place (counted inside items)) left)
        → page_text (place (with_item os)) (events fs ++ more) ≡ spread columns column (with_item os) others ++ page_text (place (counted (with_item os) others)) more
        → page_text (place os) (events ((at, Enter level k n) ∷ (es ++ ((stop, Leave level m) ∷ fs))) ++ more)
        ≡ spread columns column os ((opening k ++ (items_text k items ++ closing k)) ∷ others) ++ page_text (place (counted (with_item os) others)) more
    with_items room within behind = let ends = still_open k First (with_item os) items in with_items_at ends.0 ends.1 room within behind

  -- The text of the events of values is their texts, each with what comes around it among the open values.
  pub values_text : (os : List WrittenValue) (level at : ℕ) (ts : Types) (vs : Values) (more : List (ℕ × Event)) → 1 ≤ l.part → AreOf ts vs → length os + nesting vs ≤ 64
      → page_text (place os) (events (values_items l level at ts vs) ++ more) ≡ spread columns column os (value_texts vs) ++ page_text (place (counted os (value_texts vs))) more
  values_text os level at NoMore NoValue more some are room = refl
  values_text os level at (Type_and k inner ts) NoValue more some are room = absurd are
  values_text os level at NoMore (Null_and vs) more some are room = absurd are
  values_text os level at NoMore (Empty_and vs) more some are room = absurd are
  values_text os level at NoMore (Scalar_and v vs) more some are room = absurd are
  values_text os level at NoMore (Counted_and j n items vs) more some are room = absurd are
  values_text os level at NoMore (Fields_and j items vs) more some are room = absurd are
  values_text os level at (Type_and k inner ts) (Null_and vs) more some are room =
      let same = length-with_item os in
      ap (λ x. around os (codes "null") ++ x) (values_text (with_item os) level (at + 4) ts vs more some are (omega arith))
      ∙ value_then (codes "null") os (value_texts vs) (page_text (place (counted (with_item os) (value_texts vs))) more)
  values_text os level at (Type_and k inner ts) (Empty_and vs) more some are room =
      let same = length-with_item os in
      ap (λ x. around os (codes "empty") ++ x) (values_text (with_item os) level (at + 4) ts vs more some are (omega arith))
      ∙ value_then (codes "empty") os (value_texts vs) (page_text (place (counted (with_item os) (value_texts vs))) more)
  values_text os level at (Type_and k inner ts) (Scalar_and v vs) more some are room =
      let same = length-with_item os in
      let behind = values_items l level (at + 4 + length (content_of v)) ts vs in
      ap (λ x. page_text (place os) x) (events-append (scalar_items l level at v) behind more)
      ∙ scalar_text os level (events behind ++ more) at v some
      ∙ ap (λ x. around os (cell_text v) ++ x) (values_text (with_item os) level (at + 4 + length (content_of v)) ts vs more some are (omega arith))
      ∙ value_then (cell_text v) os (value_texts vs) (page_text (place (counted (with_item os) (value_texts vs))) more)
  values_text os level at (Type_and k inner ts) (Counted_and j n items vs) more some are room =
      let same = length-with_item os in
      let stop = at + 8 + values_size items in
      subst (λ (i : Kind). page_text (place os) (events (values_items l level at (Type_and k inner ts) (Counted_and j n items vs)) ++ more) ≡ spread columns column os ((opening i ++ (items_text i (value_texts items) ++ closing i)) ∷ value_texts vs) ++ page_text (place (counted (with_item os) (value_texts vs))) more) (sym are.0)
      (with_items os level at stop n n k (values_items l (level + 1) (at + 8) (type_copies n inner) items) (values_items l level stop ts vs) (value_texts items) (value_texts vs) more (omega arith)
      (λ left. values_text (opened k First ∷ with_item os) (level + 1) (at + 8) (type_copies n inner) items left some are.2 (omega arith))
      (values_text (with_item os) level stop ts vs more some are.3 (omega arith)))
  values_text os level at (Type_and k inner ts) (Fields_and j items vs) more some are room =
      let same = length-with_item os in
      let stop = at + 4 + values_size items in
      subst (λ (i : Kind). page_text (place os) (events (values_items l level at (Type_and k inner ts) (Fields_and j items vs)) ++ more) ≡ spread columns column os ((opening i ++ (items_text i (value_texts items) ++ closing i)) ∷ value_texts vs) ++ page_text (place (counted (with_item os) (value_texts vs))) more) (sym are.0)
      (with_items os level at stop (how_many inner) (values_in items) k (values_items l (level + 1) (at + 4) (first_types (values_in items) inner) items) (values_items l level stop ts vs) (value_texts items) (value_texts vs) more (omega arith)
      (λ left. values_text (opened k First ∷ with_item os) (level + 1) (at + 4) (first_types (values_in items) inner) items left some are.2 (omega arith))
      (values_text (with_item os) level stop ts vs more some are.3 (omega arith)))
