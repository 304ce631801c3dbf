-- The items that were read of a cell are those of a value, which its bytes spell.
use Rattle.std.proofs.Common.{◌≡◌, ◌≢◌, ℕ, zero, suc, ◌+◌, ◌-◌, ◌<◌, ◌≤◌, ◌^◌, Bool, true, false, ◌&&◌, eqb, ltb, leb, cond, min, List, [], ◌∷◌, ◌++◌, length, take, drop, Option, Some, None, refl, sym, ap, ◌∙◌, append_assoc, subst, arith}
use Rattle.std.specs.Int.{w32, from_be_bytes}
use Rattle.std.proofs.lemmas.Bool.{ltb-true, ltb-false, leb-true, leb-false, eqb-true, eqb-false, lt-ltb, lt-leb, le-leb}
use Rattle.std.proofs.lemmas.List.{append-nil, length-append, length-drop, take_at, drop_at}
use Rattle.cqlp_note.specs.declared.field.Notation.TheVariants as notation
use Rattle.cqlp_note.specs.Reader.{Got, says, Reader, Gives, Refuses, Takes, Idles, number_of}
use Rattle.cqlp_note.specs.Field.{Count, is_negative}
use Rattle.cqlp_note.specs.Spelling.{IsNumber, Spells}
use Rattle.cqlp_note.specs.Step.{Emitted, Runs}
use Rattle.cqlp_note.specs.Limits.{Rules}
use Rattle.cqlp_note.proofs.Readers.{Always, says_always}
use Rattle.cqlp_note.proofs.Fields.{either_always}
use Rattle.cqlp_note.proofs.Yields.{says_yields}
use Rattle.cqlp_note.proofs.Spelled.{counted_size}
use Rattle.cqlp_kind.specs.declared.kind.Kind.{Kind}
use Rattle.cqlp_kind.specs.declared.kind.Kind.TheVariants as kind
use Rattle.cqlp_kind.specs.Types.{Types, NoMore, Type_and, how_many, first_types, followed_by}
use Rattle.cqlp_type.specs.Trees.{Joined}
use Rattle.cqlp_kind.specs.Scalars.{ScalarValue, allows_size, scalar_of, size_or_lenient, scalar_or_lenient, content_size}
use Rattle.cqlp_cell.proofs.Further.{reads_when}
use Rattle.cqlp_kind.specs.CellStep.{CellSymbol, Value_of, Items_of, Close_of, Content_from, CellEvent, Null, Empty, Enter, Leave, Part, CellPlace, cell_copies, values_of, is_opaque, place_after, leaf_step, fielded_step, close_step, counted_step, part_step, scalar_step, content_step, sized_step, value_step, items_step, cell_step_at, cell_step, lenient_excess}
use Rattle.cqlp_cell.specs.Sizes.{is_counted}
use Rattle.cqlp_value.specs.Values.{Values, NoValue, Null_and, Empty_and, Scalar_and, Counted_and, Fields_and, values_in, type_copies, has_fields, IsBytes, IsScalar, ValuesSpell, ValueSpells, values_size, part_items, scalar_items, values_items, value_items}
use Rattle.cqlp_value.proofs.ScalarItems.{is_own, whole_items, parted_items}
use Rattle.cqlp_cell.proofs.ScalarSizes.{opaque_scalar, opaque_content}

-- ---- values one after the other

abbrev pub with_others : Values → Values → Values
with_others NoValue ws = ws
with_others (Null_and vs) ws = Null_and (with_others vs ws)
with_others (Empty_and vs) ws = Empty_and (with_others vs ws)
with_others (Scalar_and v vs) ws = Scalar_and v (with_others vs ws)
with_others (Counted_and k n items vs) ws = Counted_and k n items (with_others vs ws)
with_others (Fields_and k items vs) ws = Fields_and k items (with_others vs ws)

joined_after : (P Q R : List ℕ → Type 0) (b c : List ℕ) (h : Joined P Q b) → R (h.back ++ c) → Joined P R (b ++ c)
joined_after P Q R b c h r = record { front = h.front; back = h.back ++ c; whole = ap (λ (x : List ℕ). x ++ c) h.whole ∙ append_assoc h.front h.back c; this = h.this; that = r }

pub spelled_after : (ts us : Types) (vs ws : Values) (b c : List ℕ) → ValuesSpell ts vs b → ValuesSpell us ws c → ValuesSpell (followed_by ts us) (with_others vs ws) (b ++ c)
spelled_after NoMore us NoValue ws b c h g = rw h g
spelled_after (Type_and k inner ts) us (Null_and vs) ws b c h g = joined_after _ _ _ b c h (spelled_after ts us vs ws h.back c h.that g)
spelled_after (Type_and k inner ts) us (Empty_and vs) ws b c h g = joined_after _ _ _ b c h (spelled_after ts us vs ws h.back c h.that g)
spelled_after (Type_and k inner ts) us (Scalar_and v vs) ws b c h g = (h.0, h.1, joined_after _ _ _ b c h.2 (spelled_after ts us vs ws h.2.back c h.2.that g))
spelled_after (Type_and k inner ts) us (Counted_and j n items vs) ws b c h g = (h.0, h.1, h.2, h.3, joined_after _ _ _ b c h.4 (spelled_after ts us vs ws h.4.back c h.4.that g))
spelled_after (Type_and k inner ts) us (Fields_and j items vs) ws b c h g = (h.0, h.1, h.2, h.3, h.4, joined_after _ _ _ b c h.5 (spelled_after ts us vs ws h.5.back c h.5.that g))
spelled_after ts us vs ws b c h g = absurd h

pub values_in_after : (vs ws : Values) → values_in (with_others vs ws) ≡ values_in vs + values_in ws
values_in_after NoValue ws = omega arith
values_in_after (Null_and vs) ws = omega (arith, values_in_after vs ws)
values_in_after (Empty_and vs) ws = omega (arith, values_in_after vs ws)
values_in_after (Scalar_and v vs) ws = omega (arith, values_in_after vs ws)
values_in_after (Counted_and k n items vs) ws = omega (arith, values_in_after vs ws)
values_in_after (Fields_and k items vs) ws = omega (arith, values_in_after vs ws)

-- one value of each type
pub spelled_many : (ts : Types) (vs : Values) (b : List ℕ) → ValuesSpell ts vs b → values_in vs ≡ how_many ts
spelled_many NoMore NoValue b h = refl
spelled_many (Type_and k inner ts) (Null_and vs) b h = ap suc (spelled_many ts vs h.back h.that)
spelled_many (Type_and k inner ts) (Empty_and vs) b h = ap suc (spelled_many ts vs h.back h.that)
spelled_many (Type_and k inner ts) (Scalar_and v vs) b h = ap suc (spelled_many ts vs h.2.back h.2.that)
spelled_many (Type_and k inner ts) (Counted_and j n items vs) b h = ap suc (spelled_many ts vs h.4.back h.4.that)
spelled_many (Type_and k inner ts) (Fields_and j items vs) b h = ap suc (spelled_many ts vs h.5.back h.5.that)
spelled_many ts vs b h = absurd h

pub null_size : (b : List ℕ) → IsBytes None b → length b ≡ 4
unfolding Spells
null_size b h = h.1.long

pub bytes_size : (c b : List ℕ) → IsBytes (Some c) b → length b ≡ 4 + length c
unfolding Spells
bytes_size c b h = counted_size 4 w32 c b h.0

pub count_size : (n : ℕ) (b : List ℕ) → Spells notation.Count32 (Count n) b → length b ≡ 4
unfolding Spells
count_size n b h = h.0.long

joined_size : (P Q : List ℕ → Type 0) (b : List ℕ) (h : Joined P Q b) → length b ≡ length h.front + length h.back
joined_size P Q b h = ap length h.whole ∙ length-append h.front h.back

-- the bytes that spell values are as many as their size says
pub spelled_size : (ts : Types) (vs : Values) (b : List ℕ) → ValuesSpell ts vs b → length b ≡ values_size vs
spelled_size NoMore NoValue b h = rw h refl
spelled_size (Type_and k inner ts) (Null_and vs) b h = omega (arith, joined_size _ _ b h, null_size h.front h.this, spelled_size ts vs h.back h.that)
spelled_size (Type_and k inner ts) (Empty_and vs) b h = omega (arith, joined_size _ _ b h, bytes_size [] h.front h.this, spelled_size ts vs h.back h.that)
spelled_size (Type_and k inner ts) (Scalar_and v vs) b h = omega (arith, joined_size _ _ b h.2, bytes_size h.0 h.2.front h.2.this, (is_own k v h.0 h.1).1, spelled_size ts vs h.2.back h.2.that)
spelled_size (Type_and k inner ts) (Counted_and j n items vs) b h =
    omega (arith, joined_size _ _ b h.4, bytes_size h.2 h.4.front h.4.this, joined_size _ _ h.2 h.3, count_size n h.3.front h.3.this, spelled_size (type_copies n inner) items h.3.back h.3.that, spelled_size ts vs h.4.back h.4.that)
spelled_size (Type_and k inner ts) (Fields_and j items vs) b h =
    omega (arith, joined_size _ _ b h.5, bytes_size h.2 h.5.front h.5.this, spelled_size (first_types (values_in items) inner) items h.2 h.4, spelled_size ts vs h.5.back h.5.that)
spelled_size ts vs b h = absurd h

-- the items of values, one of each type, and then of others
pub items_after : (l : Rules) (level at : ℕ) (ts us : Types) (vs ws : Values) → values_in vs ≡ how_many ts
    → values_items l level at (followed_by ts us) (with_others vs ws) ≡ values_items l level at ts vs ++ values_items l level (at + values_size vs) us ws
items_after l level at NoMore us NoValue ws m = let e : at + 0 ≡ at = omega arith in rw e refl
items_after l level at (Type_and k inner ts) us (Null_and vs) ws m = let e : at + 4 + values_size vs ≡ at + (4 + values_size vs) = omega arith in rw (items_after l level (at + 4) ts us vs ws (omega arith), e) refl
items_after l level at (Type_and k inner ts) us (Empty_and vs) ws m = let e : at + 4 + values_size vs ≡ at + (4 + values_size vs) = omega arith in rw (items_after l level (at + 4) ts us vs ws (omega arith), e) refl
items_after l level at (Type_and k inner ts) us (Scalar_and v vs) ws m =
    let n = content_size v in
    let e : at + 4 + n + values_size vs ≡ at + (4 + n + values_size vs) = omega arith in
    rw (items_after l level (at + 4 + n) ts us vs ws (omega arith), e) (sym (append_assoc (scalar_items l level at v) (values_items l level (at + 4 + n) ts vs) _))
items_after l level at (Type_and k inner ts) us (Counted_and j n items vs) ws m =
    let stop = at + 8 + values_size items in
    let e : at + 8 + values_size items + values_size vs ≡ at + (8 + values_size items + values_size vs) = omega arith in
    rw (items_after l level stop ts us vs ws (omega arith), e) (ap (λ (x : List (ℕ × CellEvent)). (at, Enter level k n) ∷ x) (sym (append_assoc (values_items l (level + 1) (at + 8) (type_copies n inner) items) ((stop, Leave level n) ∷ values_items l level stop ts vs) _)))
items_after l level at (Type_and k inner ts) us (Fields_and j items vs) ws m =
    let stop = at + 4 + values_size items in
    let e : at + 4 + values_size items + values_size vs ≡ at + (4 + values_size items + values_size vs) = omega arith in
    rw (items_after l level stop ts us vs ws (omega arith), e) (ap (λ (x : List (ℕ × CellEvent)). (at, Enter level k (how_many inner)) ∷ x) (sym (append_assoc (values_items l (level + 1) (at + 4) (first_types (values_in items) inner) items) ((stop, Leave level (values_in items)) ∷ values_items l level stop ts vs) _)))
items_after l level at ts us vs ws m = absurd cc

-- ---- parts

module _ (l : Rules) (level : ℕ) where
  pub part_last : (most at offset : ℕ) (c : List ℕ) → length c ≤ l.part → part_items l most level at offset c ≡ (at, Part level offset c true) ∷ []
  part_last zero at offset c le = refl
  part_last (suc n) at offset c le = rw (le-leb (length c) l.part le) refl

  -- it does not matter how many parts there may be, if they are enough
  part_enough : (m n at offset : ℕ) (c : List ℕ) → 0 < l.part → length c ≤ m → length c ≤ n → part_items l m level at offset c ≡ part_items l n level at offset c
  part_enough zero n at offset c some a b = sym (part_last n at offset c (omega arith))
  part_enough (suc m) zero at offset c some a b = part_last (suc m) at offset c (omega arith)
  part_enough (suc m) (suc n) at offset c some a b = elim (leb (length c) l.part) as (λ t. leb (length c) l.part ≡ t → part_items l (suc m) level at offset c ≡ part_items l (suc n) level at offset c) [
    | true ↦ λ e. rw e refl
    | false ↦ λ e. rw e (ap (λ (x : List (ℕ × CellEvent)). (at, Part level offset (take l.part c) false) ∷ x) (part_enough m n (at + l.part) (offset + l.part) (drop l.part c) some (omega (arith, length-drop l.part c)) (omega (arith, length-drop l.part c))))
  ] refl

  -- a part, and those after it
  pub part_first : (at offset : ℕ) (c d : List ℕ) → 0 < l.part → length c ≡ l.part → 0 < length d
      → part_items l (length (c ++ d)) level at offset (c ++ d) ≡ (at, Part level offset c false) ∷ part_items l (length d) level (at + l.part) (offset + l.part) d
  part_first at offset c d some long more =
      let all = length-append c d in
      let less : leb (length (c ++ d)) l.part ≡ false = lt-leb (length (c ++ d)) l.part (omega (arith, all)) in
      let enough = part_enough (length (c ++ d)) (suc (length (c ++ d) - 1)) at offset (c ++ d) some (omega arith) (omega arith) in
      let rest = part_enough (length (c ++ d) - 1) (length d) (at + l.part) (offset + l.part) d some (omega (arith, all)) (omega arith) in
      enough ∙ rw (less, take_at c d l.part long, drop_at c d l.part long) (ap (λ (x : List (ℕ × CellEvent)). (at, Part level offset c false) ∷ x) rest)

-- ---- what comes of symbols

abbrev pub Events : Type 0
Events = List (ℕ × CellEvent)

abbrev pub Later : Type 1
Later = (at : ℕ) → Events → List ℕ → Type 0

module _ (l : Rules) where
  -- These items and bytes are those of one value of each of these types, and of what comes after them.
  pub record ReadsValues (ts : Types) (level stop : ℕ) (K : Later) (at : ℕ) (es : Events) (b : List ℕ) : Type 0 where
    pub values : Values
    pub front : List ℕ
    pub back : List ℕ
    pub more : Events
    pub whole : b ≡ front ++ back
    pub spelled : ValuesSpell ts values front
    pub items : es ≡ values_items l level at ts values ++ more
    pub within : at ≤ stop → at + length front ≤ stop
    pub later : K (at + length front) more back

  -- They are those of the fields of a value, from after this many on, of its end, and of what comes after it.
  pub record ReadsFields (ts : Types) (level stop taken : ℕ) (K : Later) (at : ℕ) (es : Events) (b : List ℕ) : Type 0 where
    pub values : Values
    pub front : List ℕ
    pub back : List ℕ
    pub more : Events
    pub whole : b ≡ front ++ back
    pub spelled : ValuesSpell (first_types (values_in values) ts) values front
    pub items : es ≡ values_items l (level + 1) at (first_types (values_in values) ts) values ++ ((at + length front, Leave level (taken + values_in values)) ∷ more)
    pub within : at ≤ stop → at + length front ≤ stop
    pub ends : stop ≤ at + length front
    pub later : K (at + length front) more back

  -- They are those of the last bytes of a content, and of what comes after it.
  pub record ReadsContent (level offset left : ℕ) (K : Later) (at : ℕ) (es : Events) (b : List ℕ) : Type 0 where
    pub content : List ℕ
    pub back : List ℕ
    pub more : Events
    pub whole : b ≡ content ++ back
    pub long : length content ≡ left
    pub items : es ≡ part_items l (length content) level at offset content ++ more
    pub some : 0 < left → 0 < l.part
    pub later : K (at + length content) more back

  -- These items and bytes come of the symbols.
  abbrev pub Comes : List CellSymbol → Later
  Comes [] at es b = (es ≡ []) × (b ≡ [])
  Comes (Value_of k inner level stop ∷ rest) at es b = ReadsValues (Type_and k inner NoMore) level stop (Comes rest) at es b
  Comes (Items_of ts level stop taken ∷ rest) at es b = ReadsFields ts level stop taken (Comes rest) at es b
  Comes (Close_of level stop taken ∷ rest) at es b = (more : Events) × (es ≡ (at, Leave level taken) ∷ more) × (stop ≤ at) × Comes rest at more b
  Comes (Content_from level offset total ∷ rest) at es b = ReadsContent level offset (total - offset) (Comes rest) at es b

  -- ---- several values

  reads_none : (level stop : ℕ) (K : Later) (at : ℕ) (es : Events) (b : List ℕ) → K at es b → ReadsValues NoMore level stop K at es b
  reads_none level stop K at es b h =
      let e : at ≡ at + 0 = omega arith in
      record { values = NoValue; front = []; back = b; more = es; whole = refl; spelled = refl; items = refl; within = λ le. omega arith; later = rw e at h }

  -- values of some types, and then of others
  reads_then : (ts us : Types) (level stop : ℕ) (K : Later) (at : ℕ) (es : Events) (b : List ℕ) → ReadsValues ts level stop (ReadsValues us level stop K) at es b → ReadsValues (followed_by ts us) level stop K at es b
  reads_then ts us level stop K at es b h =
      let g = h.later in
      let far : at + length h.front + length g.front ≡ at + length (h.front ++ g.front) = omega (arith, length-append h.front g.front) in
      let size : at + length h.front ≡ at + values_size h.values = ap (λ (n : ℕ). at + n) (spelled_size ts h.values h.front h.spelled) in
      record {
        values = with_others h.values g.values;
        front = h.front ++ g.front;
        back = g.back;
        more = g.more;
        whole = h.whole ∙ ap (λ (x : List ℕ). h.front ++ x) g.whole ∙ sym (append_assoc h.front g.front g.back);
        spelled = spelled_after ts us h.values g.values h.front g.front h.spelled g.spelled;
        items = h.items ∙ ap (λ (x : Events). values_items l level at ts h.values ++ x) (g.items ∙ ap (λ (n : ℕ). values_items l level n us g.values ++ g.more) size)
            ∙ sym (append_assoc (values_items l level at ts h.values) (values_items l level (at + values_size h.values) us g.values) g.more)
            ∙ ap (λ (x : Events). x ++ g.more) (sym (items_after l level at ts us h.values g.values (spelled_many ts h.values h.front h.spelled)));
        within = λ le. omega (arith, g.within (h.within le), far);
        later = subst (λ (n : ℕ). K n g.more g.back) far g.later;
      }

  reads_as : (ts : Types) (level stop : ℕ) (K L : Later) (at : ℕ) (es : Events) (b : List ℕ) → ((at : ℕ) (es : Events) (b : List ℕ) → K at es b → L at es b) → ReadsValues ts level stop K at es b → ReadsValues ts level stop L at es b
  reads_as ts level stop K L at es b f h = record { values = h.values; front = h.front; back = h.back; more = h.more; whole = h.whole; spelled = h.spelled; items = h.items; within = h.within; later = f _ _ _ h.later }

  pub values_come : (ts : Types) (level stop : ℕ) (rest : List CellSymbol) (at : ℕ) (es : Events) (b : List ℕ) → Comes (values_of ts level stop ++ rest) at es b → ReadsValues ts level stop (Comes rest) at es b
  values_come NoMore level stop rest at es b h = reads_none level stop (Comes rest) at es b h
  values_come (Type_and k inner others) level stop rest at es b h =
      reads_then (Type_and k inner NoMore) others level stop (Comes rest) at es b
      (reads_as (Type_and k inner NoMore) level stop (Comes (values_of others level stop ++ rest)) (ReadsValues others level stop (Comes rest)) at es b (values_come others level stop rest) h)

  copies_come : (n : ℕ) (ts : Types) (level stop : ℕ) (rest : List CellSymbol) (at : ℕ) (es : Events) (b : List ℕ) → Comes (cell_copies n (values_of ts level stop) ++ rest) at es b → ReadsValues (type_copies n ts) level stop (Comes rest) at es b
  copies_come zero ts level stop rest at es b h = reads_none level stop (Comes rest) at es b h
  copies_come (suc n) ts level stop rest at es b h =
      let these = cell_copies n (values_of ts level stop) ++ rest in
      reads_then ts (type_copies n ts) level stop (Comes rest) at es b
      (reads_as ts level stop (Comes these) (ReadsValues (type_copies n ts) level stop (Comes rest)) at es b (copies_come n ts level stop rest)
      (values_come ts level stop these at es b (rw (append_assoc (values_of ts level stop) (cell_copies n (values_of ts level stop)) rest) at h)))

  -- the first field, and those after it
  fields_then : (k : Kind) (inner others : Types) (level stop taken : ℕ) (K : Later) (at : ℕ) (es : Events) (b : List ℕ) → ReadsValues (Type_and k inner NoMore) (level + 1) stop (ReadsFields others level stop (taken + 1) K) at es b
      → ReadsFields (Type_and k inner others) level stop taken K at es b
  fields_then k inner others level stop taken K at es b h =
      let g = h.later in
      let all = with_others h.values g.values in
      let far : at + length h.front + length g.front ≡ at + length (h.front ++ g.front) = omega (arith, length-append h.front g.front) in
      let size : at + length h.front ≡ at + values_size h.values = ap (λ (n : ℕ). at + n) (spelled_size (Type_and k inner NoMore) h.values h.front h.spelled) in
      let one = Type_and k inner NoMore in
      let firsts = first_types (values_in g.values) others in
      let single = spelled_many one h.values h.front h.spelled in
      let many : values_in all ≡ suc (values_in g.values) = omega (arith, values_in_after h.values g.values, single) in
      let count : taken + 1 + values_in g.values ≡ taken + values_in all = omega (arith, many) in
      let last : (at + length h.front + length g.front, Leave level (taken + 1 + values_in g.values)) ≡ (at + length (h.front ++ g.front), Leave level (taken + values_in all)) = rw (far, count) refl in
      record {
        values = all;
        front = h.front ++ g.front;
        back = g.back;
        more = g.more;
        whole = h.whole ∙ ap (λ (x : List ℕ). h.front ++ x) g.whole ∙ sym (append_assoc h.front g.front g.back);
        spelled = rw many (spelled_after one firsts h.values g.values h.front g.front h.spelled g.spelled);
        items = h.items ∙ ap (λ (x : Events). values_items l (level + 1) at one h.values ++ x) (g.items ∙ (λ i. values_items l (level + 1) (size i) firsts g.values ++ (last i ∷ g.more)))
            ∙ sym (append_assoc (values_items l (level + 1) at one h.values) (values_items l (level + 1) (at + values_size h.values) firsts g.values) _)
            ∙ ap (λ (x : Events). x ++ ((at + length (h.front ++ g.front), Leave level (taken + values_in all)) ∷ g.more)) (sym (items_after l (level + 1) at one firsts h.values g.values single))
            ∙ ap (λ (n : ℕ). values_items l (level + 1) at (first_types n (Type_and k inner others)) all ++ ((at + length (h.front ++ g.front), Leave level (taken + values_in all)) ∷ g.more)) (sym many);
        within = λ le. omega (arith, g.within (h.within le), far);
        ends = omega (arith, g.ends, far);
        later = subst (λ (n : ℕ). K n g.more g.back) far g.later;
      }

-- ---- one step

always_as : {A F : Type 0} (P Q : A → List ℕ → Type 0) (r : Reader A F) (before : List ℕ) → ((v : A) (b : List ℕ) → P v b → Q v b) → Always P r before → Always Q r before
always_as P Q (Gives v) before f h = f v before h
always_as P Q (Refuses why) before f h = tt
always_as P Q Idles before f h = tt
always_as P Q (Takes n next) before f h = λ c long. always_as P Q (next c) (before ++ c) f (h c long)

pub alone : (P : List ℕ → Type 0) (b : List ℕ) → P b → Joined P (ValuesSpell NoMore NoValue) b
alone P b h = record { front = b; back = []; whole = sym (append-nil b); this = h; that = refl }

regroup : (a b c d : List ℕ) → (a ++ b) ++ (c ++ d) ≡ (a ++ (b ++ c)) ++ d
regroup a b c d = simp append_assoc

pub all_true : (a b c : Bool) → (a && b && c) ≡ true → (a ≡ true) × (b ≡ true) × (c ≡ true)
all_true true true true e = (refl, refl, refl)
all_true true true false e = absurd cc
all_true true false c e = absurd cc
all_true false b c e = absurd cc

module _ (l : Rules) (strict : l.lenient ≡ false) where
  -- What comes after a step comes, with its item and its bytes, of the symbols before it.
  abbrev pub Came : (at : ℕ) → List CellSymbol → Emitted CellEvent CellPlace → List ℕ → Type 0
  Came at ss x b = (es : Events) (c : List ℕ) → Comes l (x.after (length b)).symbols (x.after (length b)).offset es c → Comes l ss at ((x.at, x.event) ∷ es) (b ++ c)

  -- a value, whose length is these bytes
  module _ (p : CellPlace) (rest : List CellSymbol) (inner : Types) (level stop : ℕ) where
    abbrev Value_came : Kind → Emitted CellEvent CellPlace → List ℕ → Type 0
    Value_came k x b = Came p.offset (Value_of k inner level stop ∷ rest) x b

    module _ (c : List ℕ) (long : length c ≡ 4) where
      abbrev number : ℕ
      number = from_be_bytes w32 c

      null_came : (k : Kind) → 4 ≤ stop - p.offset → is_negative number ≡ true → Value_came k (record { at = p.offset; event = Null level; after = place_after p rest [] }) c
      unfolding Spells
      null_came k le t = λ es d h. record {
        values = Null_and NoValue;
        front = c;
        back = d;
        more = es;
        whole = refl;
        spelled = alone (IsBytes None) c (number, record { long = long; is = refl }, omega (arith, ltb-true _ _ t));
        items = refl;
        within = λ _. omega arith;
        later = h;
      }

      empty_came : (k : Kind) → 4 ≤ stop - p.offset → number ≡ 0 → Value_came k (record { at = p.offset; event = Empty level; after = place_after p rest [] }) c
      unfolding Spells
      empty_came k le e = λ es d h. record {
        values = Empty_and NoValue;
        front = c;
        back = d;
        more = es;
        whole = refl;
        spelled = alone (IsBytes (Some [])) c (record { head = c; counts = record { long = long; is = e }; parts = sym (append-nil c) }, omega arith);
        items = refl;
        within = λ _. omega arith;
        later = h;
      }

      module _ (fits : 4 + number ≤ stop - p.offset) (low : number < 2 ^ 31) (some : 0 < number) where
        head_counts : (d : List ℕ) → length d ≡ number → IsBytes (Some d) (c ++ d)
        unfolding Spells
        head_counts d size = (record { head = c; counts = record { long = long; is = sym size }; parts = refl }, omega (arith, size))

        not_none : (d : List ℕ) → length d ≡ number → d ≢ []
        not_none d size e = omega (arith, ap length e, size)

        leaf_came : (k : Kind) (d : List ℕ) (o : Option ScalarValue) → length d ≡ number → allows_size k number ≡ true → (l.parts && is_opaque k && ltb l.part number) ≡ false → scalar_of k d ≡ o → Always (Value_came k) (leaf_step p rest level k o) (c ++ d)
        leaf_came k d None size a f e = tt
        leaf_came k d (Some v) size a f e = let is : IsScalar k v d = record { some = not_none d size; size = rw size a; is = e } in λ es b h. record {
          values = Scalar_and v NoValue;
          front = c ++ d;
          back = b;
          more = es;
          whole = refl;
          spelled = (d, is, alone (IsBytes (Some d)) (c ++ d) (head_counts d size));
          items = ap (λ (y : Events). (y ++ []) ++ es) (sym (whole_items l level p.offset k v d (is_own k v d is) (rw size f)));
          within = λ _. omega (arith, length-append c d, size);
          later = h;
        }

        first_came : (k : Kind) (d : List ℕ) → length d ≡ l.part → allows_size k number ≡ true → l.parts ≡ true → is_opaque k ≡ true → l.part < number
            → Value_came k (record { at = p.offset + 4; event = Part level 0 d false; after = place_after p rest (Content_from level (0 + l.part) number ∷ []) }) (c ++ d)
        first_came k d size a parts opaque lt = λ es b h.
            let all = d ++ h.content in
            let x = opaque_scalar k all opaque in
            let full : length all ≡ number = omega (arith, length-append d h.content, size, h.long) in
            let far : p.offset + length (c ++ d) + length h.content ≡ p.offset + length (c ++ all) = omega (arith, length-append c d, length-append c all, length-append d h.content) in
            let next : p.offset + length (c ++ d) ≡ p.offset + 4 + l.part = omega (arith, length-append c d, size) in
            let test : (l.parts && is_opaque k && ltb l.part (length all)) ≡ true = rw (full, parts, opaque, lt-ltb l.part number lt) refl in
            let is : IsScalar k x.0 all = record { some = not_none all full; size = rw full a; is = x.1 } in
            let parts_are : scalar_items l level p.offset x.0 ≡ (p.offset + 4, Part level 0 d false) ∷ part_items l (length h.content) level (p.offset + 4 + l.part) (0 + l.part) h.content =
            parted_items l level p.offset k x.0 all (is_own k x.0 all is).0 (opaque_content k x.0 all opaque x.1) test ∙ part_first l level (p.offset + 4) 0 d h.content (h.some (omega arith)) size (omega (arith, h.long)) in
            record {
              values = Scalar_and x.0 NoValue;
              front = c ++ all;
              back = h.back;
              more = h.more;
              whole = ap (λ (y : List ℕ). (c ++ d) ++ y) h.whole ∙ regroup c d h.content h.back;
              spelled = (all, is, alone (IsBytes (Some all)) (c ++ all) (head_counts all full));
              items = ap (λ (y : Events). (p.offset + 4, Part level 0 d false) ∷ y) (h.items ∙ ap (λ (n : ℕ). part_items l (length h.content) level n (0 + l.part) h.content ++ h.more) next)
                  ∙ ap (λ (y : Events). y ++ h.more) (sym parts_are ∙ sym (append-nil (scalar_items l level p.offset x.0)));
              within = λ _. omega (arith, full, length-append c all);
              later = subst (λ (n : ℕ). Comes l rest n h.more h.back) far h.later;
            }

        parts_came : (k : Kind) → allows_size k number ≡ true → (l.parts && is_opaque k && ltb l.part number) ≡ true → Always (Value_came k) (part_step l p rest level 4 0 number) c
        parts_came k a t =
            let e = all_true l.parts (is_opaque k) (ltb l.part number) t in
            let lt : l.part < number = ltb-true _ _ e.2 in
            let size : min l.part (number - 0) ≡ l.part = omega arith in
            let more : leb (number - 0) l.part ≡ false = lt-leb (number - 0) l.part (omega arith) in
            rw (more, size) (λ d long. first_came k d long a e.0 e.1 lt)

        scalar_came : (k : Kind) → Always (Value_came k) (scalar_step l p rest level k number) c
        scalar_came k = either_always (Value_came k) c (size_or_lenient l.lenient k number) _ _ (λ taken.
            let a : allows_size k number ≡ true = rw strict at taken in
            either_always (Value_came k) c (l.parts && is_opaque k && ltb l.part number) _ _ (λ t. parts_came k a t) (λ f.
            either_always (Value_came k) c (ltb l.cell number) _ _ (λ _. tt) (λ _ d size. leaf_came k d (scalar_or_lenient l.lenient k d) size a f (rw strict refl)))) (λ _. tt)

        fields_came : (k : Kind) → has_fields k ≡ true → Always (Value_came k) (fielded_step p rest level k inner number) c
        fields_came k fields = λ es b h.
            let size : length h.front ≡ number = omega (arith, h.ends, h.within (omega arith)) in
            let its = first_types (values_in h.values) inner in
            let sized = spelled_size its h.values h.front h.spelled in
            let far : p.offset + length c + length h.front ≡ p.offset + length (c ++ h.front) = omega (arith, length-append c h.front) in
            let first : p.offset + length c ≡ p.offset + 4 = omega arith in
            let ends : p.offset + length c + length h.front ≡ p.offset + 4 + values_size h.values = omega (arith, sized) in
            let count : 0 + values_in h.values ≡ values_in h.values = omega arith in
            let last : (p.offset + length c + length h.front, Leave level (0 + values_in h.values)) ≡ (p.offset + 4 + values_size h.values, Leave level (values_in h.values)) = rw (ends, count) refl in
            record {
              values = Fields_and k h.values NoValue;
              front = c ++ h.front;
              back = h.back;
              more = h.more;
              whole = ap (λ (y : List ℕ). c ++ y) h.whole ∙ sym (append_assoc c h.front h.back);
              spelled = (refl, fields, h.front, not_none h.front size, h.spelled, alone (IsBytes (Some h.front)) (c ++ h.front) (head_counts h.front size));
              items = ap (λ (y : Events). (p.offset, Enter level k (how_many inner)) ∷ y) (h.items ∙ (λ i. values_items l (level + 1) (first i) its h.values ++ (last i ∷ h.more))
                  ∙ sym (append_assoc (values_items l (level + 1) (p.offset + 4) its h.values) ((p.offset + 4 + values_size h.values, Leave level (values_in h.values)) ∷ []) h.more));
              within = λ _. omega (arith, size, length-append c h.front);
              later = subst (λ (n : ℕ). Comes l rest n h.more h.back) far h.later;
            }

        abbrev its_stop : ℕ
        its_stop = p.offset + 4 + number

        enter_came : (k : Kind) (d : List ℕ) (n : ℕ) → is_counted k ≡ true → IsNumber 4 w32 n d → 4 ≤ number → n < 2 ^ 31
            → Value_came k (record { at = p.offset; event = Enter level k n; after = place_after p rest (cell_copies n (values_of inner (level + 1) its_stop) ++ Close_of level its_stop n ∷ []) }) (c ++ d)
        unfolding Spells
        enter_came k d n counted is enough small = λ es b h.
            let copies = cell_copies n (values_of inner (level + 1) its_stop) in
            let both = length-append c d in
            let r = copies_come l n inner (level + 1) its_stop (Close_of level its_stop n ∷ rest) (p.offset + length (c ++ d)) es b (rw (append_assoc copies (Close_of level its_stop n ∷ []) rest) at h) in
            let g = r.later in
            let all = d ++ r.front in
            let long_all = length-append d r.front in
            let size : length all ≡ number = omega (arith, long_all, g.2, r.within (omega (arith, both, is.long)), both, is.long) in
            let its = type_copies n inner in
            let sized = spelled_size its r.values r.front r.spelled in
            let far : p.offset + length (c ++ d) + length r.front ≡ p.offset + length (c ++ all) = omega (arith, both, long_all, length-append c all) in
            let first : p.offset + length (c ++ d) ≡ p.offset + 8 = omega (arith, both, is.long) in
            let ends : p.offset + length (c ++ d) + length r.front ≡ p.offset + 8 + values_size r.values = omega (arith, sized, both, is.long) in
            let last : (p.offset + length (c ++ d) + length r.front, Leave level n) ≡ (p.offset + 8 + values_size r.values, Leave level n) = rw ends refl in
            record {
              values = Counted_and k n r.values NoValue;
              front = c ++ all;
              back = r.back;
              more = g.0;
              whole = ap (λ (y : List ℕ). (c ++ d) ++ y) r.whole ∙ regroup c d r.front r.back;
              spelled = (refl, counted, all, record { front = d; back = r.front; whole = refl; this = (is, small); that = r.spelled }, alone (IsBytes (Some all)) (c ++ all) (head_counts all size));
              items = ap (λ (y : Events). (p.offset, Enter level k n) ∷ y) (r.items ∙ ap (λ (y : Events). values_items l (level + 1) (p.offset + length (c ++ d)) its r.values ++ y) g.1
                  ∙ (λ i. values_items l (level + 1) (first i) its r.values ++ (last i ∷ g.0))
                  ∙ sym (append_assoc (values_items l (level + 1) (p.offset + 8) its r.values) ((p.offset + 8 + values_size r.values, Leave level n) ∷ []) g.0));
              within = λ _. omega (arith, size, length-append c all);
              later = subst (λ (m : ℕ). Comes l rest m g.0 r.back) far g.3;
            }

        counted_came : (k : Kind) → is_counted k ≡ true → Always (Value_came k) (counted_step p rest level k inner number) c
        unfolding number_of
        counted_came k counted = either_always (Value_came k) c (ltb number 4) _ _ (λ _. tt) (λ t d size.
            either_always (Value_came k) (c ++ d) (is_negative (from_be_bytes w32 d)) _ _ (λ _. tt) (λ f.
            enter_came k d (from_be_bytes w32 d) counted (record { long = size; is = refl }) (omega (arith, ltb-false _ _ t)) (omega (arith, ltb-false _ _ f))))

        content_came : (k : Kind) → Always (Value_came k) (content_step l p rest level k inner number) c
        content_came kind.List = counted_came kind.List refl
        content_came kind.Set = counted_came kind.Set refl
        content_came kind.Map = counted_came kind.Map refl
        content_came kind.Udt = fields_came kind.Udt refl
        content_came kind.Tuple = fields_came kind.Tuple refl
        content_came k = scalar_came k

      sized_came : (k : Kind) → 4 ≤ stop - p.offset → Always (Value_came k) (sized_step l p rest k inner level (stop - p.offset) number) c
      sized_came k le = either_always (Value_came k) c (is_negative number) _ _ (λ t. null_came k le t) (λ f.
          either_always (Value_came k) c (eqb number 0) _ _ (λ e. empty_came k le (eqb-true number 0 e)) (λ e.
          either_always (Value_came k) c (ltb (stop - p.offset) (4 + number)) _ _ (λ _. tt) (λ t.
          content_came (ltb-false _ _ t) (omega (arith, ltb-false _ _ f)) (omega (arith, eqb-false number 0 e)) k)))

    value_came : (k : Kind) → Always (Value_came k) (value_step l p rest k inner level (stop - p.offset)) []
    unfolding number_of
    value_came k = either_always (Value_came k) [] (ltb (stop - p.offset) 4) _ _ (λ _. tt) (λ t c long. sized_came c long k (ltb-false _ _ t))

  -- ---- the other symbols

  module _ (p : CellPlace) (rest : List CellSymbol) where
    -- the end of a value
    close_came : (level stop taken : ℕ) → Always (Came p.offset (Close_of level stop taken ∷ rest)) (close_step p rest level stop taken) []
    close_came level stop taken = either_always (Came p.offset (Close_of level stop taken ∷ rest)) [] (ltb p.offset stop) _ _ (λ _. tt) (λ f es b h.
        let none : p.offset + 0 ≡ p.offset = omega arith in
        (es, refl, ltb-false _ _ f, rw none at h))

    -- the end of a value after its fields
    last_came : (ts : Types) (level stop taken : ℕ) → Always (Came p.offset (Items_of ts level stop taken ∷ rest)) (close_step p rest level stop taken) []
    last_came ts level stop taken = either_always (Came p.offset (Items_of ts level stop taken ∷ rest)) [] (ltb p.offset stop) _ _ (λ _. tt) (λ f es b h.
        let none : p.offset + 0 ≡ p.offset = omega arith in
        let count : taken + 0 ≡ taken = omega arith in
        record {
          values = NoValue;
          front = [];
          back = b;
          more = es;
          whole = refl;
          spelled = refl;
          items = rw (none, count) refl;
          within = λ le. omega arith;
          ends = omega (arith, ltb-false _ _ f);
          later = h;
        })

    items_came : (ts : Types) (level stop taken : ℕ) → Always (Came p.offset (Items_of ts level stop taken ∷ rest)) (items_step l p ts level stop taken rest) []
    items_came NoMore level stop taken =
        either_always (Came p.offset (Items_of NoMore level stop taken ∷ rest)) [] (lenient_excess l (stop - p.offset)) _ _
        (λ t. let no : ◌≡◌ {A = Bool} true false = sym (reads_when l (stop - p.offset) t).0 ∙ strict in absurd cc)
        (λ _. last_came NoMore level stop taken)
    items_came (Type_and k inner others) level stop taken =
        let behind = Items_of others level stop (taken + 1) ∷ rest in
        either_always (Came p.offset (Items_of (Type_and k inner others) level stop taken ∷ rest)) [] (leb stop p.offset) _ _ (λ _. last_came (Type_and k inner others) level stop taken) (λ _.
        always_as (Came p.offset (Value_of k inner (level + 1) stop ∷ behind)) (Came p.offset (Items_of (Type_and k inner others) level stop taken ∷ rest)) (value_step l p behind k inner (level + 1) (stop - p.offset)) []
        (λ x b f es c h. fields_then l k inner others level stop taken (Comes l rest) p.offset ((x.at, x.event) ∷ es) (b ++ c) (f es c h))
        (value_came p behind inner (level + 1) stop k))

    -- a part of a content that was begun
    part_came : (level offset total : ℕ) (last : Bool) → leb (total - offset) l.part ≡ last → (c : List ℕ) → length c ≡ min l.part (total - offset)
        → Came p.offset (Content_from level offset total ∷ rest) (record { at = p.offset + 0; event = Part level offset c last; after = place_after p rest (cond last [] (Content_from level (offset + min l.part (total - offset)) total ∷ [])) }) c
    part_came level offset total true e c size = λ es b h.
        let all : length c ≡ total - offset = omega (arith, leb-true _ _ e, size) in
        let none : p.offset + 0 ≡ p.offset = omega arith in
        record {
          content = c;
          back = b;
          more = es;
          whole = refl;
          long = all;
          items = rw (none, part_last l level (length c) p.offset offset c (omega (arith, all, leb-true _ _ e))) refl;
          some = λ lt. omega (arith, leb-true _ _ e);
          later = h;
        }
    part_came level offset total false e c size = λ es b h.
        let more : l.part < total - offset = leb-false _ _ e in
        let full : min l.part (total - offset) ≡ l.part = omega arith in
        let part : length c ≡ l.part = omega (arith, size) in
        let left : length h.content ≡ total - (offset + l.part) = rw full at h.long in
        let some : 0 < l.part = h.some (omega arith) in
        let none : p.offset + 0 ≡ p.offset = omega arith in
        let next : p.offset + length c ≡ p.offset + l.part = omega (arith, part) in
        let far : p.offset + length c + length h.content ≡ p.offset + length (c ++ h.content) = omega (arith, length-append c h.content) in
        let first = part_first l level p.offset offset c h.content some part (omega (arith, left)) in
        record {
          content = c ++ h.content;
          back = h.back;
          more = h.more;
          whole = ap (λ (y : List ℕ). c ++ y) h.whole ∙ sym (append_assoc c h.content h.back);
          long = omega (arith, length-append c h.content, part, left);
          items = rw none (ap (λ (y : Events). (p.offset, Part level offset c false) ∷ y) (h.items ∙ (λ i. part_items l (length h.content) level (next i) (offset + full i) h.content ++ h.more)) ∙ ap (λ (y : Events). y ++ h.more) (sym first));
          some = λ lt. some;
          later = subst (λ (n : ℕ). Comes l rest n h.more h.back) far h.later;
        }

  step_came : (p : CellPlace) (ss : List CellSymbol) → Always (Came p.offset ss) (cell_step_at l p ss) []
  step_came p [] = tt
  step_came p (Value_of k inner level stop ∷ rest) = value_came p rest inner level stop k
  step_came p (Items_of ts level stop taken ∷ rest) = items_came p rest ts level stop taken
  step_came p (Close_of level stop taken ∷ rest) = close_came p rest level stop taken
  step_came p (Content_from level offset total ∷ rest) = λ c size. part_came p rest level offset total (leb (total - offset) l.part) refl c size

  -- ---- runs

  came_here : (p : CellPlace) (bytes : List ℕ) (x : Emitted CellEvent CellPlace) (used : ℕ) → says (cell_step l p) 0 bytes ≡ Got x used
      → (front : List ℕ) × (back : List ℕ) × (bytes ≡ front ++ back) × (drop used bytes ≡ back) × (length front ≡ used) × Came p.offset p.symbols x front
  came_here p bytes x used s =
      let y = says_yields (cell_step l p) 0 x used bytes s in
      let none : used - length {A = ℕ} [] ≡ used = omega arith in
      let long : length y.0 ≡ used = omega (arith, y.3) in
      let front : take used bytes ≡ y.0 = ap (λ (t : List ℕ). take used t) y.2 ∙ take_at y.0 y.1 used long in
      let back : drop used bytes ≡ y.1 = ap (λ (t : List ℕ). drop used t) y.2 ∙ drop_at y.0 y.1 used long in
      let c = (says_always (Came p.offset p.symbols) (cell_step l p) [] bytes x used (step_came p p.symbols) s).1 in
      (y.0, y.1, y.2, back, long, rw front at (rw none at c))

  -- the items and the bytes of a run come of its symbols
  pub runs_come : (es : Events) (p q : CellPlace) (bytes : List ℕ) → Runs (cell_step l) p bytes es q [] → q.symbols ≡ [] → Comes l p.symbols p.offset es bytes
  runs_come [] p q bytes r done = let none : p.symbols ≡ [] = rw r.0 at done in rw none (refl, sym r.1)
  runs_come (e ∷ es) p q bytes r done =
      let c = came_here p bytes (record { at = e.0; event = e.1; after = r.1 }) r.0 r.2 in
      let later = runs_come es (r.1 r.0) q (drop r.0 bytes) r.3 done in
      rw c.2 (c.5 es c.1 (rw c.4 (rw c.3 at later)))

-- A cell that is read is that of a value.
pub cell_read : (l : Rules) → l.lenient ≡ false → (k : Kind) (inner : Types) (stop : ℕ) (before after : CellPlace) (b : List ℕ) (es : Events) → before.symbols ≡ Value_of k inner 0 stop ∷ [] → after.symbols ≡ [] → Runs (cell_step l) before b es after []
    → (v : Values) × ValueSpells k inner v b × (es ≡ value_items l before.offset k inner v)
cell_read l strict k inner stop before after b es first done r =
    let h : Comes l (Value_of k inner 0 stop ∷ []) before.offset es b = rw first at (runs_come l strict es before after b r done) in
    let last = h.later in
    let all : b ≡ h.front = h.whole ∙ ap (λ (y : List ℕ). h.front ++ y) last.1 ∙ append-nil h.front in
    let its = value_items l before.offset k inner h.values in
    let items : es ≡ its = h.items ∙ ap (λ (y : Events). its ++ y) last.0 ∙ append-nil its in
    (h.values, subst (λ (y : List ℕ). ValuesSpell (Type_and k inner NoMore) h.values y) (sym all) h.spelled, items)
