-- What spells a value is read as its items.
use Rattle.std.proofs.Common.{◌≡◌, ◌≢◌, ℕ, zero, suc, ◌+◌, ◌-◌, ◌<◌, ◌≤◌, ◌^◌, ◌&&◌, true, false, ltb, leb, min, List, [], ◌∷◌, ◌++◌, length, take, drop, Some, None, refl, sym, ap, ◌∙◌, append_assoc, subst, arith}
use Rattle.std.specs.Int.{w32}
use Rattle.std.proofs.lemmas.Bool.{ltb-true, leb-true, leb-false, ne_eqb, lt-ltb, le-ltb, lt-leb, le-leb}
use Rattle.std.proofs.lemmas.List.{append-nil, length-append, length-drop, length-take-le, take-append-drop, drop_all}
use Rattle.cqlp_note.specs.declared.refusal.Reason.TheVariants.{Overrun}
use Rattle.cqlp_note.specs.Spelling.{IsNumber, Spells}
use Rattle.cqlp_note.specs.Step.{Emitted, Runs}
use Rattle.cqlp_note.specs.Limits.{Rules}
use Rattle.cqlp_note.proofs.Runs.{runs_then, runs_stay}
use Rattle.cqlp_note.proofs.Yields.{Yields, yields_says}
use Rattle.cqlp_note.proofs.Spelled.{number_yields, alone_yields, positive}
use Rattle.cqlp_kind.specs.declared.kind.Kind.{Kind}
use Rattle.cqlp_kind.specs.declared.kind.Kind.TheVariants as kind
use Rattle.cqlp_kind.specs.Types.{Types, NoMore, Type_and, how_many, first_types, followed_by}
use Rattle.cqlp_type.specs.Trees.{Joined}
use Rattle.cqlp_cell.proofs.Contents.{allowed_taken, spelled_taken}
use Rattle.cqlp_cell.proofs.Further.{past_reads}
use Rattle.cqlp_kind.specs.Scalars.{ScalarValue, allows_size, scalar_of, content_of}
use Rattle.cqlp_kind.specs.CellStep.{CellSymbol, Value_of, Items_of, Close_of, Content_from, CellEvent, Leaf, Null, Empty, Enter, Leave, Part, CellPlace, cell_copies, values_of, is_opaque, place_after, fielded_step, close_step, scalar_step, content_step, sized_step, value_step, cell_step}
use Rattle.cqlp_cell.specs.Sizes.{is_counted}
use Rattle.cqlp_value.specs.Values.{Values, NoValue, Null_and, Empty_and, Scalar_and, Counted_and, Fields_and, values_in, type_copies, has_fields, IsBytes, ValuesSpell, ValueSpells, values_size, part_items, in_parts, scalar_items, values_items, value_items, AreWithin}
use Rattle.cqlp_cell.proofs.Sizing.{counted_content}
use Rattle.cqlp_value.proofs.ScalarItems.{is_own, whole_items, parted_items}
use Rattle.cqlp_cell.proofs.ScalarSizes.{opaque_content}
use Rattle.cqlp_value.proofs.ReadBack.{Events, with_others, values_in_after, items_after, bytes_size, spelled_size, part_first, part_last, alone, all_true}

abbrev place : (at : ℕ) → List CellSymbol → CellPlace
place at ss = record { offset = at; symbols = ss }

alone_is : (P : List ℕ → Type 0) (b : List ℕ) → Joined P (ValuesSpell NoMore NoValue) b → P b
alone_is P b h = subst P (sym (h.whole ∙ ap (λ (x : List ℕ). h.front ++ x) h.that ∙ append-nil h.front)) h.this

some_bytes : (c : List ℕ) → c ≢ [] → 0 < length c
some_bytes [] ne = absurd (ne refl)
some_bytes (x ∷ c) ne = omega arith

-- a scalar's content is read by its kind alone
scalar_step_is : (l : Rules) (p : CellPlace) (rest : List CellSymbol) (level : ℕ) (k : Kind) (inner : Types) (n : ℕ) (c : List ℕ) (v : ScalarValue) → scalar_of k c ≡ Some v → content_step l p rest level k inner n ≡ scalar_step l p rest level k n
unfolding scalar_of
scalar_step_is l p rest level kind.List inner n c v e = absurd cc
scalar_step_is l p rest level kind.Set inner n c v e = absurd cc
scalar_step_is l p rest level kind.Map inner n c v e = absurd cc
scalar_step_is l p rest level kind.Udt inner n c v e = absurd cc
scalar_step_is l p rest level kind.Tuple inner n c v e = absurd cc
scalar_step_is l p rest level k inner n c v e = refl

fielded_step_is : (l : Rules) (p : CellPlace) (rest : List CellSymbol) (level : ℕ) (k : Kind) (inner : Types) (n : ℕ) → has_fields k ≡ true → content_step l p rest level k inner n ≡ fielded_step p rest level k inner n
fielded_step_is l p rest level kind.Udt inner n t = refl
fielded_step_is l p rest level kind.Tuple inner n t = refl
fielded_step_is l p rest level k inner n t = absurd cc

values_of_after : (ts us : Types) (level stop : ℕ) → values_of (followed_by ts us) level stop ≡ values_of ts level stop ++ values_of us level stop
values_of_after NoMore us level stop = refl
values_of_after (Type_and k inner ts) us level stop = ap (λ (x : List CellSymbol). Value_of k inner level stop ∷ x) (values_of_after ts us level stop)

copies_are : (n : ℕ) (ts : Types) (level stop : ℕ) → cell_copies n (values_of ts level stop) ≡ values_of (type_copies n ts) level stop
copies_are zero ts level stop = refl
copies_are (suc n) ts level stop = ap (λ (x : List CellSymbol). values_of ts level stop ++ x) (copies_are n ts level stop) ∙ sym (values_of_after ts (type_copies n ts) level stop)

module _ (l : Rules) where
  abbrev Reads : CellPlace → List ℕ → Events → CellPlace → Type 0
  Reads p b es q = Runs (cell_step l) p b es q []

  reads_both : (p m q : CellPlace) (front back : List ℕ) (es fs : Events) → Reads p front es m → Reads m back fs q → Reads p (front ++ back) (es ++ fs) q
  reads_both p m q front back es fs a b = runs_then (cell_step l) p m q (front ++ back) back [] es fs (runs_stay (cell_step l) p front back es m [] a) b

  one_step : (p : CellPlace) (x : Emitted CellEvent CellPlace) (b : List ℕ) → Yields (cell_step l p) x b → Reads p b ((x.at, x.event) ∷ []) (x.after (length b))
  one_step p x b y =
      let none : 0 + length b ≡ length b = omega arith in
      let said = rw (none, append-nil b) at (yields_says (cell_step l p) 0 x b [] y) in
      (length b, x.after, said, (refl, sym (drop_all (length b) b (omega arith))))

  -- ---- parts

  last_read : (level at offset total : ℕ) (c : List ℕ) (rest : List CellSymbol) → length c ≡ total - offset → length c ≤ l.part → Reads (place at (Content_from level offset total ∷ rest)) c ((at, Part level offset c true) ∷ []) (place (at + length c) rest)
  last_read level at offset total c rest all le =
      let p = place at (Content_from level offset total ∷ rest) in
      let x : Emitted CellEvent CellPlace = record { at = at + 0; event = Part level offset c true; after = place_after p rest [] } in
      let none : at + 0 ≡ at = omega arith in
      let size : min l.part (total - offset) ≡ length c = omega arith in
      let last : leb (total - offset) l.part ≡ true = le-leb (total - offset) l.part (omega arith) in
      let y : Yields (cell_step l p) x c = rw (last, size) (c, [], refl, sym (append-nil c), (refl, refl)) in
      subst (λ (n : ℕ). Reads p c ((n, Part level offset c true) ∷ []) (place (at + length c) rest)) none (one_step p x c y)

  part_read : (level at offset total : ℕ) (d e : List ℕ) (rest : List CellSymbol) (es : Events) → length d ≡ l.part → length (d ++ e) ≡ total - offset → 0 < length e
      → Reads (place (at + length d) (Content_from level (offset + l.part) total ∷ rest)) e es (place (at + length (d ++ e)) rest) → Reads (place at (Content_from level offset total ∷ rest)) (d ++ e) ((at, Part level offset d false) ∷ es) (place (at + length (d ++ e)) rest)
  part_read level at offset total d e rest es long all some r =
      let p = place at (Content_from level offset total ∷ rest) in
      let x : Emitted CellEvent CellPlace = record { at = at + 0; event = Part level offset d false; after = place_after p rest (Content_from level (offset + l.part) total ∷ []) } in
      let none : at + 0 ≡ at = omega arith in
      let size : min l.part (total - offset) ≡ l.part = omega (arith, length-append d e) in
      let more : leb (total - offset) l.part ≡ false = lt-leb (total - offset) l.part (omega (arith, length-append d e)) in
      let y : Yields (cell_step l p) x d = rw (more, size) (d, [], long, sym (append-nil d), (refl, refl)) in
      let mid = place (at + length d) (Content_from level (offset + l.part) total ∷ rest) in
      let first = subst (λ (n : ℕ). Reads p d ((n, Part level offset d false) ∷ []) mid) none (one_step p x d y) in
      reads_both p mid (place (at + length (d ++ e)) rest) d e ((at, Part level offset d false) ∷ []) es first r

  parts_read : (most level at offset total : ℕ) (c : List ℕ) (rest : List CellSymbol) → length c ≤ most → length c ≡ total - offset → 0 < l.part
      → Reads (place at (Content_from level offset total ∷ rest)) c (part_items l (length c) level at offset c) (place (at + length c) rest)
  parts_read zero level at offset total c rest le all some = rw (part_last l level (length c) at offset c (omega arith)) (last_read level at offset total c rest all (omega arith))
  parts_read (suc n) level at offset total c rest le all some = elim (leb (length c) l.part) as (λ t. leb (length c) l.part ≡ t → Reads (place at (Content_from level offset total ∷ rest)) c (part_items l (length c) level at offset c) (place (at + length c) rest)) [
    | true ↦ λ e. let small = leb-true _ _ e in rw (part_last l level (length c) at offset c small) (last_read level at offset total c rest all small)
    | false ↦ λ e.
        let lt = leb-false _ _ e in
        let d = take l.part c in
        let more = drop l.part c in
        let long : length d ≡ l.part = length-take-le l.part c (omega arith) in
        let left : length more ≡ length c - l.part = length-drop l.part c in
        let whole : d ++ more ≡ c = take-append-drop l.part c in
        let far : at + length d + length more ≡ at + length (d ++ more) = omega (arith, length-append d more) in
        let later : Reads (place (at + length d) (Content_from level (offset + l.part) total ∷ rest)) more (part_items l (length more) level (at + l.part) (offset + l.part) more) (place (at + length (d ++ more)) rest) =
        rw (← far, long) (parts_read n level (at + l.part) (offset + l.part) total more rest (omega (arith, left)) (omega (arith, left)) some) in
        let both = part_read level at offset total d more rest (part_items l (length more) level (at + l.part) (offset + l.part) more) long (ap length whole ∙ all) (omega (arith, left)) later in
        let parts = part_first l level at offset d more some long (omega (arith, left)) in
        subst (λ (y : List ℕ). Reads (place at (Content_from level offset total ∷ rest)) y (part_items l (length y) level at offset y) (place (at + length y) rest)) whole
        (subst (λ (y : Events). Reads (place at (Content_from level offset total ∷ rest)) (d ++ more) y (place (at + length (d ++ more)) rest)) (sym parts) both)
  ] refl

  -- ---- one value

  -- This value alone is read, whatever is after it.
  abbrev Reads_one : Values → Type 0
  Reads_one one = (k : Kind) (inner : Types) (front : List ℕ) → ValueSpells k inner one front → (p : CellPlace) (rest : List CellSymbol) (level stop : ℕ) → cell_step l p ≡ value_step l p rest k inner level (stop - p.offset) → p.offset + length front ≤ stop
      → Reads p front (values_items l level p.offset (Type_and k inner NoMore) one) (place (p.offset + length front) rest)

  -- the length of a value, and what is after it
  module _ (p : CellPlace) (rest : List CellSymbol) (k : Kind) (inner : Types) (level stop : ℕ) (step : cell_step l p ≡ value_step l p rest k inner level (stop - p.offset)) where
    sized_yields : (n : ℕ) (head more : List ℕ) (x : Emitted CellEvent CellPlace) → IsNumber 4 w32 n head → p.offset + 4 ≤ stop → Yields (sized_step l p rest k inner level (stop - p.offset) n) x more → Yields (cell_step l p) x (head ++ more)
    sized_yields n head more x is le y = rw step (number_yields (p.offset, Overrun) 4 w32 (stop - p.offset) n _ x head more is (omega arith) y)

    content_yields : (n : ℕ) (head more : List ℕ) (x : Emitted CellEvent CellPlace) → IsNumber 4 w32 n head → n < 2 ^ 31 → 0 < n → p.offset + (4 + n) ≤ stop → Yields (content_step l p rest level k inner n) x more → Yields (cell_step l p) x (head ++ more)
    content_yields n head more x is low some le y =
        sized_yields n head more x is (omega arith) (rw (positive n low, ne_eqb n 0 (λ e. omega (arith, e)), le-ltb (stop - p.offset) (4 + n) (omega arith)) y)

  null_read : Reads_one (Null_and NoValue)
  unfolding Spells
  null_read k inner front s p rest level stop step le =
      let n = alone_is (IsBytes None) front s in
      let x : Emitted CellEvent CellPlace = record { at = p.offset; event = Null level; after = place_after p rest [] } in
      let y = sized_yields p rest k inner level stop step n.0 front [] x n.1 (omega (arith, n.1.long)) (rw (lt-ltb (2 ^ 31 - 1) n.0 (omega (arith, n.2))) (refl, refl)) in
      one_step p x front (rw (append-nil front) at y)

  empty_read : Reads_one (Empty_and NoValue)
  unfolding Spells
  empty_read k inner front s p rest level stop step le =
      let h = alone_is (IsBytes (Some [])) front s in
      let x : Emitted CellEvent CellPlace = record { at = p.offset; event = Empty level; after = place_after p rest [] } in
      let y = sized_yields p rest k inner level stop step 0 h.0.head [] x h.0.counts (omega (arith, bytes_size [] front h)) (refl, refl) in
      one_step p x front (subst (Yields (cell_step l p) x) (sym h.0.parts) y)

  -- a scalar that comes whole
  leaf_read : (k : Kind) (inner : Types) (c front : List ℕ) (v : ScalarValue) → c ≢ [] → allows_size k (length c) ≡ true → scalar_of k c ≡ Some v → IsBytes (Some c) front → (l.parts && is_opaque k && ltb l.part (length c)) ≡ false → length c ≤ l.cell
      → (p : CellPlace) (rest : List CellSymbol) (level stop : ℕ) → cell_step l p ≡ value_step l p rest k inner level (stop - p.offset) → p.offset + length front ≤ stop
      → Reads p front ((p.offset, Leaf level v) ∷ []) (place (p.offset + length front) rest)
  unfolding Spells
  leaf_read k inner c front v some allows is s whole fits p rest level stop step le =
      let x : Emitted CellEvent CellPlace = record { at = p.offset; event = Leaf level v; after = place_after p rest [] } in
      let content : Yields (content_step l p rest level k inner (length c)) x c = rw (scalar_step_is l p rest level k inner (length c) c v is, allowed_taken l.lenient k (length c) allows, whole, le-ltb l.cell (length c) fits) (c, [], refl, sym (append-nil c), rw (spelled_taken l.lenient k c v allows is) (refl, refl)) in
      let y = content_yields p rest k inner level stop step (length c) s.0.head c x s.0.counts s.1 (some_bytes c some) (omega (arith, bytes_size c front s)) content in
      one_step p x front (subst (Yields (cell_step l p) x) (sym s.0.parts) y)

  -- a scalar that comes in parts
  split_read : (k : Kind) (inner : Types) (d e front : List ℕ) (v : ScalarValue) → allows_size k (length (d ++ e)) ≡ true → scalar_of k (d ++ e) ≡ Some v → IsBytes (Some (d ++ e)) front → l.parts ≡ true → is_opaque k ≡ true → length d ≡ l.part → 0 < l.part → 0 < length e
      → (p : CellPlace) (rest : List CellSymbol) (level stop : ℕ) → cell_step l p ≡ value_step l p rest k inner level (stop - p.offset) → p.offset + length front ≤ stop
      → Reads p front (part_items l (length (d ++ e)) level (p.offset + 4) 0 (d ++ e)) (place (p.offset + length front) rest)
  unfolding Spells
  split_read k inner d e front v allows is s parts opaque long part some p rest level stop step le =
      let n = length (d ++ e) in
      let all = length-append d e in
      let lt : l.part < n = omega (arith, all) in
      let size : min l.part (n - 0) ≡ l.part = omega arith in
      let more : leb (n - 0) l.part ≡ false = lt-leb (n - 0) l.part (omega arith) in
      let mid = Content_from level (0 + l.part) n ∷ rest in
      let x : Emitted CellEvent CellPlace = record { at = p.offset + 4; event = Part level 0 d false; after = place_after p rest (Content_from level (0 + l.part) n ∷ []) } in
      let content : Yields (content_step l p rest level k inner n) x d = rw (scalar_step_is l p rest level k inner n (d ++ e) v is, allowed_taken l.lenient k n allows, parts, opaque, lt-ltb l.part n lt, more, size) (d, [], long, sym (append-nil d), (refl, refl)) in
      let y = content_yields p rest k inner level stop step n s.0.head d x s.0.counts s.1 (omega arith) (omega (arith, bytes_size (d ++ e) front s)) content in
      let first = one_step p x (s.0.head ++ d) y in
      let whole : (s.0.head ++ d) ++ e ≡ front = append_assoc s.0.head d e ∙ sym s.0.parts in
      let there : p.offset + 4 + l.part ≡ p.offset + length (s.0.head ++ d) = omega (arith, length-append s.0.head d, s.0.counts.long) in
      let far : p.offset + length (s.0.head ++ d) + length e ≡ p.offset + length front = omega (arith, ap length whole, length-append (s.0.head ++ d) e) in
      let later = parts_read (length e) level (p.offset + length (s.0.head ++ d)) (0 + l.part) n e rest (omega arith) (omega (arith, all)) part in
      let both = reads_both p (place (p.offset + length (s.0.head ++ d)) mid) (place (p.offset + length front) rest) (s.0.head ++ d) e ((p.offset + 4, Part level 0 d false) ∷ []) (part_items l (length e) level (p.offset + length (s.0.head ++ d)) (0 + l.part) e) first (rw (← far) later) in
      let items = part_first l level (p.offset + 4) 0 d e part long some ∙ ap (λ (m : ℕ). (p.offset + 4, Part level 0 d false) ∷ part_items l (length e) level m (0 + l.part) e) there in
      subst (λ (z : List ℕ). Reads p z (part_items l n level (p.offset + 4) 0 (d ++ e)) (place (p.offset + length front) rest)) whole
      (subst (λ (z : Events). Reads p ((s.0.head ++ d) ++ e) z (place (p.offset + length front) rest)) (sym items) both)

  scalar_read : (v : ScalarValue) → (in_parts l v ≡ false → length (content_of v) ≤ l.cell) → (in_parts l v ≡ true → 0 < l.part) → Reads_one (Scalar_and v NoValue)
  scalar_read v fits some k inner front s p rest level stop step le =
      let c = s.0 in
      let is = s.1 in
      let own = is_own k v c is in
      let bytes = alone_is (IsBytes (Some c)) front s.2 in
      let q = place (p.offset + length front) rest in
      let its = scalar_items l level p.offset v in
      let all = append-nil its in
      let split = l.parts && is_opaque k && ltb l.part (length c) in
      let same : in_parts l v ≡ split = rw (own.0, sym own.1) refl in
      elim split as (λ t. split ≡ t → Reads p front (its ++ []) q) [
        | true ↦ λ t.
            let e = all_true l.parts (is_opaque k) (ltb l.part (length c)) t in
            let lt : l.part < length c = ltb-true _ _ e.2 in
            let d = take l.part c in
            let more = drop l.part c in
            let whole : d ++ more ≡ c = take-append-drop l.part c in
            let read = split_read k inner d more front v (rw whole is.size) (rw whole is.is) (rw whole bytes) e.0 e.1 (length-take-le l.part c (omega arith)) (some (same ∙ t)) (omega (arith, length-drop l.part c)) p rest level stop step le in
            let items : part_items l (length c) level (p.offset + 4) 0 c ≡ its ++ [] = sym (all ∙ parted_items l level p.offset k v c own.0 (opaque_content k v c e.1 is.is) t) in
            subst (λ (y : Events). Reads p front y q) items (subst (λ (y : List ℕ). Reads p front (part_items l (length y) level (p.offset + 4) 0 y) q) whole read)
        | false ↦ λ t.
            let short : length c ≤ l.cell = omega (arith, fits (same ∙ t), own.1) in
            subst (λ (y : Events). Reads p front y q) (sym (all ∙ whole_items l level p.offset k v c own t))
            (leaf_read k inner c front v is.some is.size is.is bytes t short p rest level stop step le)
      ] refl

  -- ---- values in values

  -- These values are read, side by side and as fields.
  pub record Read (vs : Values) : Type 0 where
    pub values : (ts : Types) (b : List ℕ) → ValuesSpell ts vs b → (at level stop : ℕ) (rest : List CellSymbol) → at + length b ≤ stop
        → Reads (place at (values_of ts level stop ++ rest)) b (values_items l level at ts vs) (place (at + length b) rest)
    pub fields : (ts : Types) (b : List ℕ) → ValuesSpell (first_types (values_in vs) ts) vs b → (at level stop taken : ℕ) (rest : List CellSymbol) → at + length b ≡ stop
        → Reads (place at (Items_of ts level stop taken ∷ rest)) b (values_items l (level + 1) at (first_types (values_in vs) ts) vs ++ ((stop, Leave level (taken + values_in vs)) ∷ [])) (place stop rest)

  reads_as : (p : CellPlace) (b b' : List ℕ) (es es' : Events) (q q' : CellPlace) → b ≡ b' → es ≡ es' → q ≡ q' → Reads p b es q → Reads p b' es' q'
  reads_as p b b' es es' q q' e f g r = rw (← e, ← f, ← g) r

  close_read : (p : CellPlace) (at level stop taken : ℕ) (rest : List CellSymbol) → p.offset ≡ at → cell_step l p ≡ close_step p rest level stop taken → stop ≤ at → Reads p [] ((at, Leave level taken) ∷ []) (place at rest)
  close_read p at level stop taken rest here step le =
      let x : Emitted CellEvent CellPlace = record { at = p.offset; event = Leave level taken; after = place_after p rest [] } in
      let none : p.offset + 0 ≡ at = omega arith in
      let y : Yields (cell_step l p) x [] = rw (step, le-ltb p.offset stop (omega arith)) (refl, refl) in
      reads_as p [] [] ((p.offset, Leave level taken) ∷ []) ((at, Leave level taken) ∷ []) (place (p.offset + 0) rest) (place at rest) refl (ap (λ (n : ℕ). (n, Leave level taken) ∷ []) here) (ap (λ (n : ℕ). place n rest) none) (one_step p x [] y)

  counted_read : (n : ℕ) (items : Values) (k : Kind) (inner : Types) (c count body front : List ℕ) → Read items → is_counted k ≡ true → c ≡ count ++ body → IsNumber 4 w32 n count → n < 2 ^ 31 → ValuesSpell (type_copies n inner) items body → IsBytes (Some c) front
      → (p : CellPlace) (rest : List CellSymbol) (level stop : ℕ) → cell_step l p ≡ value_step l p rest k inner level (stop - p.offset) → p.offset + length front ≤ stop
      → Reads p front (values_items l level p.offset (Type_and k inner NoMore) (Counted_and k n items NoValue)) (place (p.offset + length front) rest)
  unfolding Spells
  counted_read n items k inner c count body front r counted parts is low spelled s p rest level stop step le =
      let ends = p.offset + 4 + length c in
      let copies = cell_copies n (values_of inner (level + 1) ends) in
      let behind = Close_of level ends n ∷ rest in
      let types = type_copies n inner in
      let x : Emitted CellEvent CellPlace = record { at = p.offset; event = Enter level k n; after = place_after p rest (copies ++ Close_of level ends n ∷ []) } in
      let size : length c ≡ 4 + length body = omega (arith, ap length parts, length-append count body, is.long) in
      let content : Yields (content_step l p rest level k inner (length c)) x count =
      rw ((counted_content l (length c) k counted).is p rest inner level) (alone_yields (p.offset + 4, Overrun) 4 w32 (length c) n _ x count is (omega arith) (rw (positive n low) (refl, refl))) in
      let head = s.0.head in
      let all = bytes_size c front s in
      let y = content_yields p rest k inner level stop step (length c) head count x s.0.counts s.1 (omega arith) (omega (arith, all)) content in
      let long : length (head ++ count) ≡ 8 = omega (arith, length-append head count, s.0.counts.long, is.long) in
      let mid = place (p.offset + 8) (values_of types (level + 1) ends ++ behind) in
      let symbols : (copies ++ Close_of level ends n ∷ []) ++ rest ≡ values_of types (level + 1) ends ++ behind = append_assoc copies (Close_of level ends n ∷ []) rest ∙ ap (λ (z : List CellSymbol). z ++ behind) (copies_are n inner (level + 1) ends) in
      let first = reads_as p (head ++ count) (head ++ count) _ ((p.offset, Enter level k n) ∷ []) _ mid refl refl (λ i. place (p.offset + long i) (symbols i)) (one_step p x (head ++ count) y) in
      let sized = spelled_size types items body spelled in
      let far = p.offset + 8 + length body in
      let inside = r.values types body spelled (p.offset + 8) (level + 1) ends behind (omega (arith, size)) in
      let close = close_read (place far behind) far level ends n rest refl refl (omega (arith, size)) in
      let its = values_items l (level + 1) (p.offset + 8) types items in
      let later = reads_both mid (place far behind) (place far rest) body [] its ((far, Leave level n) ∷ []) inside close in
      let both = reads_both p mid (place far rest) (head ++ count) (body ++ []) ((p.offset, Enter level k n) ∷ []) (its ++ ((far, Leave level n) ∷ [])) first later in
      let whole : (head ++ count) ++ (body ++ []) ≡ front = append_assoc head count (body ++ []) ∙ ap (λ (z : List ℕ). head ++ (count ++ z)) (append-nil body) ∙ ap (λ (z : List ℕ). head ++ z) (sym parts) ∙ sym s.0.parts in
      let size_is : far ≡ p.offset + 8 + values_size items = omega (arith, sized) in
      let end_is : far ≡ p.offset + length front = omega (arith, all, size) in
      reads_as p ((head ++ count) ++ (body ++ [])) front _ _ (place far rest) (place (p.offset + length front) rest) whole (ap (λ (m : ℕ). (p.offset, Enter level k n) ∷ (its ++ ((m, Leave level n) ∷ []))) size_is) (ap (λ (m : ℕ). place m rest) end_is) both

  fields_read : (items : Values) (k : Kind) (inner : Types) (c front : List ℕ) → Read items → has_fields k ≡ true → c ≢ [] → ValuesSpell (first_types (values_in items) inner) items c → IsBytes (Some c) front
      → (p : CellPlace) (rest : List CellSymbol) (level stop : ℕ) → cell_step l p ≡ value_step l p rest k inner level (stop - p.offset) → p.offset + length front ≤ stop
      → Reads p front (values_items l level p.offset (Type_and k inner NoMore) (Fields_and k items NoValue)) (place (p.offset + length front) rest)
  unfolding Spells
  fields_read items k inner c front r fields ne spelled s p rest level stop step le =
      let ends = p.offset + 4 + length c in
      let x : Emitted CellEvent CellPlace = record { at = p.offset; event = Enter level k (how_many inner); after = place_after p rest (Items_of inner level ends 0 ∷ []) } in
      let content : Yields (content_step l p rest level k inner (length c)) x [] = rw (fielded_step_is l p rest level k inner (length c) fields) (refl, refl) in
      let head = s.0.head in
      let all = bytes_size c front s in
      let y = content_yields p rest k inner level stop step (length c) head [] x s.0.counts s.1 (some_bytes c ne) (omega (arith, all)) content in
      let y' : Yields (cell_step l p) x head = rw (append-nil head) at y in
      let mid = place (p.offset + 4) (Items_of inner level ends 0 ∷ rest) in
      let first = reads_as p head head _ ((p.offset, Enter level k (how_many inner)) ∷ []) _ mid refl refl (λ i. place (p.offset + s.0.counts.long i) (Items_of inner level ends 0 ∷ rest)) (one_step p x head y') in
      let inside = r.fields inner c spelled (p.offset + 4) level ends 0 rest refl in
      let types = first_types (values_in items) inner in
      let its = values_items l (level + 1) (p.offset + 4) types items in
      let both = reads_both p mid (place ends rest) head c ((p.offset, Enter level k (how_many inner)) ∷ []) (its ++ ((ends, Leave level (0 + values_in items)) ∷ [])) first inside in
      let size_is : ends ≡ p.offset + 4 + values_size items = omega (arith, spelled_size types items c spelled) in
      let count : 0 + values_in items ≡ values_in items = omega arith in
      let end_is : ends ≡ p.offset + length front = omega (arith, all) in
      reads_as p (head ++ c) front _ _ (place ends rest) (place (p.offset + length front) rest) (sym s.0.parts) (λ i. (p.offset, Enter level k (how_many inner)) ∷ (its ++ ((size_is i, Leave level (count i)) ∷ []))) (ap (λ (m : ℕ). place m rest) end_is) both

  -- ---- one value after the other

  none_values : (ts : Types) (b : List ℕ) → ValuesSpell ts NoValue b → (at level stop : ℕ) (rest : List CellSymbol) → Reads (place at (values_of ts level stop ++ rest)) b (values_items l level at ts NoValue) (place (at + length b) rest)
  none_values NoMore b h at level stop rest = let none : at + length b ≡ at = rw h (omega arith) in (ap (λ (n : ℕ). place n rest) none, sym h)
  none_values (Type_and k inner ts) b h at level stop rest = absurd h

  last_step : (ts : Types) (at level stop taken : ℕ) (rest : List CellSymbol) → stop ≤ at → cell_step l (place at (Items_of ts level stop taken ∷ rest)) ≡ close_step (place at (Items_of ts level stop taken ∷ rest)) rest level stop taken
  last_step NoMore at level stop taken rest le = rw (past_reads l (stop - at) (omega arith)) refl
  last_step (Type_and k inner ts) at level stop taken rest le = rw (le-leb stop at le) refl

  none_fields : (ts : Types) (b : List ℕ) → b ≡ [] → (at level stop taken : ℕ) (rest : List CellSymbol) → at + length b ≡ stop → Reads (place at (Items_of ts level stop taken ∷ rest)) b ((stop, Leave level (taken + 0)) ∷ []) (place stop rest)
  none_fields ts b h at level stop taken rest e =
      let here : at ≡ stop = omega (arith, ap length h) in
      let count : taken ≡ taken + 0 = omega arith in
      let p = place at (Items_of ts level stop taken ∷ rest) in
      reads_as p [] b ((stop, Leave level taken) ∷ []) ((stop, Leave level (taken + 0)) ∷ []) (place stop rest) (place stop rest) (sym h) (ap (λ (n : ℕ). (stop, Leave level n) ∷ []) count) refl
      (close_read p stop level stop taken rest here (last_step ts at level stop taken rest (omega arith)) (omega arith))

  none_read : Read NoValue
  none_read = record { values = λ ts b h at level stop rest le. none_values ts b h at level stop rest; fields = λ ts b h at level stop taken rest e. none_fields ts b h at level stop taken rest e }

  -- A value in front of others has its own bytes.
  pub record Splits (one vs : Values) : Type 0 where
    pub none : (b : List ℕ) → ValuesSpell NoMore (with_others one vs) b → ⊥
    pub some : (k : Kind) (inner ts : Types) (b : List ℕ) → ValuesSpell (Type_and k inner ts) (with_others one vs) b → Joined (ValueSpells k inner one) (ValuesSpell ts vs) b
    pub single : values_in one ≡ 1
    pub long : 4 ≤ values_size one

  module _ (one vs : Values) (splits : Splits one vs) (reads : Reads_one one) (r : Read vs) where
    abbrev both_of : Values
    both_of = with_others one vs

    and_values : (ts : Types) (b : List ℕ) → ValuesSpell ts both_of b → (at level stop : ℕ) (rest : List CellSymbol) → at + length b ≤ stop → Reads (place at (values_of ts level stop ++ rest)) b (values_items l level at ts both_of) (place (at + length b) rest)
    and_values NoMore b h at level stop rest le = absurd (splits.none b h)
    and_values (Type_and k inner ts) b h at level stop rest le =
        let s = splits.some k inner ts b h in
        let long : length b ≡ length s.front + length s.back = ap length s.whole ∙ length-append s.front s.back in
        let behind = values_of ts level stop ++ rest in
        let p = place at (Value_of k inner level stop ∷ behind) in
        let mid = at + length s.front in
        let alone_of = Type_and k inner NoMore in
        let size : mid ≡ at + values_size one = ap (λ (n : ℕ). at + n) (spelled_size alone_of one s.front s.this) in
        let first = reads k inner s.front s.this p behind level stop refl (omega (arith, long)) in
        let later = r.values ts s.back s.that mid level stop rest (omega (arith, long)) in
        let both = reads_both p (place mid behind) (place (mid + length s.back) rest) s.front s.back (values_items l level at alone_of one) (values_items l level mid ts vs) first later in
        let items = ap (λ (n : ℕ). values_items l level at alone_of one ++ values_items l level n ts vs) size ∙ sym (items_after l level at alone_of ts one vs splits.single) in
        let far : mid + length s.back ≡ at + length b = omega (arith, long) in
        reads_as p (s.front ++ s.back) b _ (values_items l level at (Type_and k inner ts) both_of) (place (mid + length s.back) rest) (place (at + length b) rest) (sym s.whole) items (ap (λ (n : ℕ). place n rest) far) both

    many : values_in both_of ≡ suc (values_in vs)
    many = omega (arith, values_in_after one vs, splits.single)

    and_fields : (ts : Types) (b : List ℕ) → ValuesSpell (first_types (values_in both_of) ts) both_of b → (at level stop taken : ℕ) (rest : List CellSymbol) → at + length b ≡ stop
        → Reads (place at (Items_of ts level stop taken ∷ rest)) b (values_items l (level + 1) at (first_types (values_in both_of) ts) both_of ++ ((stop, Leave level (taken + values_in both_of)) ∷ [])) (place stop rest)
    and_fields NoMore b h at level stop taken rest e = absurd (splits.none b (rw many at h))
    and_fields (Type_and k inner ts) b h at level stop taken rest e =
        let firsts = first_types (values_in vs) ts in
        let alone_of = Type_and k inner NoMore in
        let s = splits.some k inner firsts b (rw many at h) in
        let long : length b ≡ length s.front + length s.back = ap length s.whole ∙ length-append s.front s.back in
        let behind = Items_of ts level stop (taken + 1) ∷ rest in
        let p = place at (Items_of (Type_and k inner ts) level stop taken ∷ rest) in
        let mid = at + length s.front in
        let sized = spelled_size alone_of one s.front s.this in
        let size : mid ≡ at + values_size one = ap (λ (n : ℕ). at + n) sized in
        let step : cell_step l p ≡ value_step l p behind k inner (level + 1) (stop - at) = rw (lt-leb stop at (omega (arith, long, sized, splits.long))) refl in
        let first = reads k inner s.front s.this p behind (level + 1) stop step (omega (arith, long)) in
        let later = r.fields ts s.back s.that mid level stop (taken + 1) rest (omega (arith, long)) in
        let here = values_items l (level + 1) at alone_of one in
        let both = reads_both p (place mid behind) (place stop rest) s.front s.back here (values_items l (level + 1) mid firsts vs ++ ((stop, Leave level (taken + 1 + values_in vs)) ∷ [])) first later in
        let count : taken + 1 + values_in vs ≡ taken + values_in both_of = omega (arith, many) in
        let last : Events = (stop, Leave level (taken + values_in both_of)) ∷ [] in
        let items = (λ i. here ++ (values_items l (level + 1) (size i) firsts vs ++ ((stop, Leave level (count i)) ∷ [])))
        ∙ sym (append_assoc here (values_items l (level + 1) (at + values_size one) firsts vs) last)
        ∙ ap (λ (z : Events). z ++ last) (sym (items_after l (level + 1) at alone_of firsts one vs splits.single))
        ∙ ap (λ (n : ℕ). values_items l (level + 1) at (first_types n (Type_and k inner ts)) both_of ++ last) (sym many) in
        reads_as p (s.front ++ s.back) b _ _ (place stop rest) (place stop rest) (sym s.whole) items refl both

    and_read : Read both_of
    and_read = record { values = and_values; fields = and_fields }

  null_splits : (vs : Values) → Splits (Null_and NoValue) vs
  null_splits vs = record {
    none = λ b h. absurd h;
    some = λ k inner ts b h. record { front = h.front; back = h.back; whole = h.whole; this = alone (IsBytes None) h.front h.this; that = h.that };
    single = refl;
    long = omega arith;
  }

  empty_splits : (vs : Values) → Splits (Empty_and NoValue) vs
  empty_splits vs = record {
    none = λ b h. absurd h;
    some = λ k inner ts b h. record { front = h.front; back = h.back; whole = h.whole; this = alone (IsBytes (Some [])) h.front h.this; that = h.that };
    single = refl;
    long = omega arith;
  }

  scalar_splits : (v : ScalarValue) (vs : Values) → Splits (Scalar_and v NoValue) vs
  scalar_splits v vs = record {
    none = λ b h. absurd h;
    some = λ k inner ts b h. record { front = h.2.front; back = h.2.back; whole = h.2.whole; this = (h.0, h.1, alone (IsBytes (Some h.0)) h.2.front h.2.this); that = h.2.that };
    single = refl;
    long = omega arith;
  }

  counted_splits : (j : Kind) (n : ℕ) (items vs : Values) → Splits (Counted_and j n items NoValue) vs
  counted_splits j n items vs = record {
    none = λ b h. absurd h;
    some = λ k inner ts b h. record { front = h.4.front; back = h.4.back; whole = h.4.whole; this = (h.0, h.1, h.2, h.3, alone (IsBytes (Some h.2)) h.4.front h.4.this); that = h.4.that };
    single = refl;
    long = omega arith;
  }

  fields_splits : (j : Kind) (items vs : Values) → Splits (Fields_and j items NoValue) vs
  fields_splits j items vs = record {
    none = λ b h. absurd h;
    some = λ k inner ts b h. record { front = h.5.front; back = h.5.back; whole = h.5.whole; this = (h.0, h.1, h.2, h.3, h.4, alone (IsBytes (Some h.2)) h.5.front h.5.this); that = h.5.that };
    single = refl;
    long = omega arith;
  }

  counted_one : (j : Kind) (n : ℕ) (items : Values) → Read items → Reads_one (Counted_and j n items NoValue)
  unfolding Spells
  counted_one j n items r k inner front s p rest level stop step le =
      let c = s.3 in
      counted_read n items k inner s.2 c.front c.back front r s.1 c.whole c.this.0 c.this.1 c.that (alone_is (IsBytes (Some s.2)) front s.4) p rest level stop step le

  fields_one : (j : Kind) (items : Values) → Read items → Reads_one (Fields_and j items NoValue)
  fields_one j items r k inner front s p rest level stop step le =
      fields_read items k inner s.2 front r s.1 s.3 s.4 (alone_is (IsBytes (Some s.2)) front s.5) p rest level stop step le

  pub all_read : (vs : Values) → AreWithin l vs → Read vs
  all_read NoValue w = none_read
  all_read (Null_and vs) w = and_read (Null_and NoValue) vs (null_splits vs) null_read (all_read vs w)
  all_read (Empty_and vs) w = and_read (Empty_and NoValue) vs (empty_splits vs) empty_read (all_read vs w)
  all_read (Scalar_and v vs) w = and_read (Scalar_and v NoValue) vs (scalar_splits v vs) (scalar_read v w.0 w.1) (all_read vs w.2)
  all_read (Counted_and j n items vs) w = and_read (Counted_and j n items NoValue) vs (counted_splits j n items vs) (counted_one j n items (all_read items w.0)) (all_read vs w.1)
  all_read (Fields_and j items vs) w = and_read (Fields_and j items NoValue) vs (fields_splits j items vs) (fields_one j items (all_read items w.0)) (all_read vs w.1)

-- What spells a value that is within the limits is read.
pub cell_spelled : (l : Rules) (k : Kind) (inner : Types) (v : Values) (at stop : ℕ) (b : List ℕ) → ValueSpells k inner v b → AreWithin l v → at + length b ≤ stop
    → Runs (cell_step l) (place at (Value_of k inner 0 stop ∷ [])) b (value_items l at k inner v) (place (at + length b) []) []
cell_spelled l k inner v at stop b s w le = (all_read l v w).values (Type_and k inner NoMore) b s at 0 stop [] le
