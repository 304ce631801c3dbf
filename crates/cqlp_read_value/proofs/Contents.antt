-- Contents that are read, and those that are refused.
use Rattle.std.proofs.Common.{◌≡◌, ◌≢◌, ℕ, zero, suc, ◌+◌, ◌<◌, ◌≤◌, ◌^◌, ◌&&◌, ◌||◌, Bool, true, false, ltb, List, [], ◌∷◌, ◌++◌, length, take, drop, Option, Some, None, Result, Ok, Err, refl, sym, ap, ◌∙◌, append_assoc, subst, arith}
use Rattle.std.specs.Int.{w32}
use Rattle.std.proofs.lemmas.Bool.{lt-ltb, le-ltb, lt-leb, ltb-false}
use Rattle.std.proofs.lemmas.List.{length-append, length-drop, length-take-le, take-append-drop, take_at, drop_at, drop-drop}
use Rattle.cqlp_note.specs.declared.refusal.Reason.{Reason}
use Rattle.cqlp_note.specs.declared.refusal.Reason.TheVariants.{BadSize, TooLong, ExtraInValue}
use Rattle.cqlp_note.specs.Limits.{Rules}
use Rattle.cqlp_note.specs.Reader.{Bad, Got, says}
use Rattle.cqlp_note.specs.Spelling.{IsNumber, Spells}
use Rattle.cqlp_note.specs.Step.{Emitted, Step, Runs}
use Rattle.cqlp_note.proofs.Runs.{runs_stay, runs_then}
use Rattle.cqlp_note.proofs.Spelled.{positive}
use Rattle.cqlp_kind.specs.declared.kind.Kind.{Kind}
use Rattle.cqlp_kind.specs.declared.kind.Kind.TheVariants as kind
use Rattle.cqlp_kind.specs.Contents.{scalar_in}
use Rattle.cqlp_kind.specs.Scalars.{ScalarValue, allows_size, fault_of, scalar_of}
use Rattle.cqlp_kind.specs.Types.{Types, NoMore, Type_and, first_types, followed_by, has_no_items, how_many}
use Rattle.cqlp_kind.specs.CellStep.{CellEvent, CellPlace, CellSymbol, Close_of, Enter, Items_of, Value_of, cell_copies, cell_step, content_step, counted_step, fielded_step, place_after, scalar_step, values_of}
use Rattle.cqlp_cell.specs.Sizes.{is_counted}
use Rattle.cqlp_cell.proofs.Sizing.{counted_content}
use Rattle.cqlp_cell.proofs.Fronts.{scalar_is}
use Rattle.cqlp_value.specs.Values.{AreWithin, IsBytes, IsScalar, ValueSpells, Values, NoValue, Null_and, Empty_and, Scalar_and, Counted_and, Fields_and, ValuesSpell, has_fields, type_copies, values_in, values_items}
use Rattle.cqlp_value.proofs.ReadBack.{Events, alone, spelled_size}
use Rattle.cqlp_value.proofs.ScalarItems.{is_own}
use Rattle.cqlp_value.proofs.SpelledRead.{all_read}
use Rattle.cqlp_read_value.specs.declared.error.ReadError.{ReadError}
use Rattle.cqlp_read_value.specs.declared.error.ReadError.TheVariants as error
use Rattle.cqlp_read_value.specs.Reading.{IsStopped, WantsMemory, has_bytes, take_memory}
use Rattle.cqlp_read_value.specs.Fronts.{ContentStops, FrontStops, value_at}
use Rattle.cqlp_read_value.proofs.Refusals.{take_behind, refusal, number_says, content_now, content_says, refused_now, refused_stays, refused_then, refused_as, runs_as}

abbrev place : (at : ℕ) → List CellSymbol → CellPlace
place at symbols = record { offset = at; symbols = symbols }

both_true : (a b : Bool) → (a && b) ≡ true → (a ≡ true) × (b ≡ true)
both_true true true e = (refl, refl)
both_true true false e = absurd cc
both_true false b e = absurd cc

first_false : (a b : Bool) → (a && b) ≡ false → b ≡ true → a ≡ false
first_false true true e t = absurd cc
first_false true false e t = absurd cc
first_false false b e t = refl

same_why : (why other : Reason) → ◌≡◌ {A = Result ScalarValue Reason} (Err why) (Err other) → other ≡ why
same_why why other e = cc

scalar_step_is : (l : Rules) (p : CellPlace) (rest : List CellSymbol) (level : ℕ) (k : Kind) (inner : Types) (n : ℕ) → has_no_items k ≡ true → content_step l p rest level k inner n ≡ scalar_step l p rest level k n
scalar_step_is l p rest level kind.List inner n e = absurd cc
scalar_step_is l p rest level kind.Set inner n e = absurd cc
scalar_step_is l p rest level kind.Map inner n e = absurd cc
scalar_step_is l p rest level kind.Udt inner n e = absurd cc
scalar_step_is l p rest level kind.Tuple inner n e = absurd cc
scalar_step_is l p rest level k inner n e = refl

or_true : (a : Bool) → ((a || true) || false) ≡ true
or_true true = refl
or_true false = refl

-- ---- scalars

module _ (l : Rules) (whole : l.parts ≡ false) (strict : l.lenient ≡ false) (at : ℕ) (k : Kind) (c : List ℕ) (scalar : has_no_items k ≡ true) where
  refuses : (inner : Types) (why : Reason)
      → ((p : CellPlace) (rest : List CellSymbol) (level : ℕ) (back : List ℕ) → says (scalar_step l p rest level k (length c)) 4 (c ++ back) ≡ Bad (p.offset, why)) → ContentStops l at k inner c (refusal at why)
  refuses inner why f = content_now l at at why k inner c (λ p rest level back here.
      ap (λ (s : Step CellEvent CellPlace). says s 4 (c ++ back)) (scalar_step_is l p rest level k inner (length c) scalar) ∙ f p rest level back ∙ ap (λ (m : ℕ). Bad (m, why)) here)

  pub scalar_long : (inner : Types) → (ltb l.cell (length c) && allows_size k (length c)) ≡ true → ContentStops l at k inner c (refusal at TooLong)
  scalar_long inner t =
      let both = both_true (ltb l.cell (length c)) (allows_size k (length c)) t in
      refuses inner TooLong (λ p rest level back. rw (strict, both.1, whole, both.0) refl)

  none_is : (why : Reason) (o : Option ScalarValue) → scalar_of k c ≡ o → allows_size k (length c) ≡ true → Err why ≡ scalar_in k c → (scalar_of k c ≡ None) × (fault_of k ≡ why)
  none_is why None e allows is = let got = rw (allows, e) at is in (e, same_why why (fault_of k) got)
  none_is why (Some v) e allows is = let got = rw (allows, e) at is in absurd cc

  pub scalar_fails : (inner : Types) (why : Reason) → (ltb l.cell (length c) && allows_size k (length c)) ≡ false → Err why ≡ scalar_in k c → ContentStops l at k inner c (refusal at why)
  scalar_fails inner why short is = elim (allows_size k (length c)) as (λ t. allows_size k (length c) ≡ t → ContentStops l at k inner c (refusal at why)) [
    | true ↦ λ allows.
        let fits = first_false (ltb l.cell (length c)) (allows_size k (length c)) short allows in
        let none = none_is why (scalar_of k c) refl allows is in
        refuses inner why (λ p rest level back.
        let enough : length c ≤ length (c ++ back) = omega (arith, length-append c back) in
        rw (strict, allows, whole, fits, le-ltb (length (c ++ back)) (length c) enough, take_at c back (length c) refl, none.0) (ap (λ (w : Reason). Bad (p.offset, w)) none.1))
    | false ↦ λ e.
        let size = same_why why BadSize (rw e at is) in
        refuses inner why (λ p rest level back. rw (strict, e) (ap (λ (w : Reason). Bad (p.offset, w)) size))
  ] refl

  pub scalar_reads : (v : ScalarValue) → c ≢ [] → (ltb l.cell (length c) && allows_size k (length c)) ≡ false → Ok v ≡ scalar_in k c → (inner : Types) → ((front : List ℕ) → IsBytes (Some c) front → ValueSpells k inner (Scalar_and v NoValue) front) × AreWithin l (Scalar_and v NoValue)
  scalar_reads v some short is inner =
      let s = scalar_is k c v is in
      let scalar : IsScalar k v c = record { some = some; size = s.0; is = s.1 } in
      let own = is_own k v c scalar in
      let fits = ltb-false l.cell (length c) (first_false (ltb l.cell (length c)) (allows_size k (length c)) short s.0) in
      (λ front b. (c, scalar, alone (IsBytes (Some c)) front b), (λ _. omega (arith, own.1, fits), (λ t. let no = rw whole at t in absurd cc), tt))

-- ---- what is kept in memory

module _ (l : Rules) (whole : l.parts ≡ false) where
  above : (level : ℕ) → ltb 0 (level + 1) ≡ true
  above level = lt-ltb 0 (level + 1) (omega arith)

  -- a value in another
  pub item_takes : (level at : ℕ) (k : Kind) (inner ts : Types) (vs : Values) (b : List ℕ) → ValuesSpell (Type_and k inner ts) vs b → take_memory (values_items l (level + 1) at (Type_and k inner ts) vs) ≡ true
  item_takes level at k inner ts NoValue b h = absurd h
  item_takes level at k inner ts (Null_and vs) b h = rw (above level) refl
  item_takes level at k inner ts (Empty_and vs) b h = rw (above level) refl
  item_takes level at k inner ts (Scalar_and v vs) b h = rw (whole, above level) refl
  item_takes level at k inner ts (Counted_and j n items vs) b h = take_behind (values_items l (level + 1 + 1) (at + 8) (type_copies n inner) items) _ (rw (above level) refl)
  item_takes level at k inner ts (Fields_and j items vs) b h = take_behind (values_items l (level + 1 + 1) (at + 4) (first_types (values_in items) inner) items) _ (rw (above level) refl)

  pub scalar_takes : (level at : ℕ) (k : Kind) (inner : Types) (v : ScalarValue) → has_bytes v ≡ true → take_memory (values_items l level at (Type_and k inner NoMore) (Scalar_and v NoValue)) ≡ true
  scalar_takes level at k inner v e = rw (whole, e) (or_true (ltb 0 level))

  -- a scalar of some bytes that is read
  pub scalar_wants : (at : ℕ) (k : Kind) (inner : Types) (c : List ℕ) (v : ScalarValue) → has_bytes v ≡ true
      → ((front : List ℕ) → IsBytes (Some c) front → ValueSpells k inner (Scalar_and v NoValue) front) × AreWithin l (Scalar_and v NoValue) → ContentStops l at k inner c error.NoMemory
  scalar_wants at k inner c v e h front back some s level rest =
      let one = Type_and k inner NoMore in
      let b = front ++ back in
      let ends = at + length b in
      let read = (all_read l (Scalar_and v NoValue) h.1).values one front (h.0 front s) at level ends rest (omega (arith, length-append front back)) in
      record {
        events = values_items l level at one (Scalar_and v NoValue);
        there = place (at + length front) rest;
        left = [] ++ back;
        runs = runs_stay (cell_step l) (value_at at k inner b level rest) front back _ _ [] read;
        takes = scalar_takes level at k inner v e;
      }

-- ---- lists, sets and maps

values_of_after : (ts us : Types) (level stop : ℕ) → values_of (followed_by ts us) level stop ≡ values_of ts level stop ++ values_of us level stop
values_of_after NoMore us level stop = refl
values_of_after (Type_and k inner ts) us level stop = ap (λ (x : List CellSymbol). Value_of k inner level stop ∷ x) (values_of_after ts us level stop)

copies_are : (n : ℕ) (ts : Types) (level stop : ℕ) → cell_copies n (values_of ts level stop) ≡ values_of (type_copies n ts) level stop
copies_are zero ts level stop = refl
copies_are (suc n) ts level stop = ap (λ (x : List CellSymbol). values_of ts level stop ++ x) (copies_are n ts level stop) ∙ sym (values_of_after ts (type_copies n ts) level stop)

followed_none : (ts : Types) → followed_by ts NoMore ≡ ts
followed_none NoMore = refl
followed_none (Type_and k inner ts) = ap (Type_and k inner) (followed_none ts)

pub dropped : (m n : ℕ) (xs : List ℕ) → drop n (drop m xs) ≡ drop (m + n) xs
dropped m n xs = drop-drop n m xs

pub runs_at : (l : Rules) (p q q' : CellPlace) (b b' left left' : List ℕ) (es : Events) → b ≡ b' → q ≡ q' → left ≡ left' → Runs (cell_step l) p b es q left → Runs (cell_step l) p b' es q' left'
runs_at l p q q' b b' left left' es e f g r = rw (← e, ← f, ← g) r

module _ (l : Rules) (at : ℕ) (k : Kind) (ts : Types) (c count body : List ℕ) (n : ℕ) (counted : is_counted k ≡ true) (parts : c ≡ count ++ body) (is : IsNumber 4 w32 n count) (low : n < 2 ^ 31) where
  abbrev ends : ℕ
  ends = at + 4 + length c

  -- what is left to be read once values of the first types are
  abbrev behind : Types → (level : ℕ) → List CellSymbol → List CellSymbol
  behind more level rest = values_of more (level + 1) ends ++ Close_of level ends n ∷ rest

  long : length c ≡ 4 + length body
  long = omega (arith, ap length parts, length-append count body, is.long)

  -- a content after its length, in a container
  module _ (level : ℕ) (rest : List CellSymbol) (head back : List ℕ) (size : IsNumber 4 w32 (length c) head) (short : length c < 2 ^ 31) where
    abbrev all : List ℕ
    all = head ++ (c ++ back)

    abbrev start : CellPlace
    start = value_at at k ts all level rest

    enters : Runs (cell_step l) start all ((at, Enter level k n) ∷ []) (place (at + 8) (behind (type_copies n ts) level rest)) (body ++ back)
    enters =
        let copies = cell_copies n (values_of ts (level + 1) ends) in
        let x : Emitted CellEvent CellPlace = record { at = at; event = Enter level k n; after = place_after start rest (copies ++ Close_of level ends n ∷ []) } in
        let step : content_step l start rest level k ts (length c) ≡ counted_step start rest level k ts (length c) = (counted_content l (length c) k counted).is start rest ts level in
        let cut : c ++ back ≡ count ++ (body ++ back) = ap (λ (y : List ℕ). y ++ back) parts ∙ append_assoc count body back in
        let said : says (cell_step l start) 0 all ≡ Got x 8 =
        content_says l at k ts level rest c head back size short (omega (arith, long))
        ∙ ap (λ (s : Step CellEvent CellPlace). says s 4 (c ++ back)) step
        ∙ ap (λ (y : List ℕ). says (counted_step start rest level k ts (length c)) 4 y) cut
        ∙ number_says (at + 4, _) (length c) n _ 4 count (body ++ back) is (omega (arith, long))
        ∙ rw (positive n low) refl in
        let symbols : (copies ++ Close_of level ends n ∷ []) ++ rest ≡ behind (type_copies n ts) level rest =
        append_assoc copies (Close_of level ends n ∷ []) rest ∙ ap (λ (z : List CellSymbol). z ++ Close_of level ends n ∷ rest) (copies_are n ts (level + 1) ends) in
        let whole : all ≡ (head ++ count) ++ (body ++ back) = ap (λ (y : List ℕ). head ++ y) cut ∙ sym (append_assoc head count (body ++ back)) in
        let eight : length (head ++ count) ≡ 8 = omega (arith, length-append head count, size.long, is.long) in
        let left : drop 8 all ≡ body ++ back = ap (λ (y : List ℕ). drop 8 y) whole ∙ drop_at (head ++ count) (body ++ back) 8 eight in
        (8, x.after, said, (ap (λ (z : List CellSymbol). place (at + 8) z) (sym symbols), sym left))

    -- values of the first types are read
    leads : (done more : Types) (vs : Values) (used : ℕ) → type_copies n ts ≡ followed_by done more → ValuesSpell done vs (take used body) → AreWithin l vs → used ≤ length body
        → Runs (cell_step l) start all (((at, Enter level k n) ∷ []) ++ values_items l (level + 1) (at + 8) done vs) (place (at + 8 + used) (behind more level rest)) (drop used body ++ back)
    leads done more vs used split spelled within le =
        let these = behind more level rest in
        let size : length (take used body) ≡ used = length-take-le used body le in
        let symbols : behind (type_copies n ts) level rest ≡ values_of done (level + 1) ends ++ these =
        ap (λ (t : Types). behind t level rest) split ∙ ap (λ (z : List CellSymbol). z ++ Close_of level ends n ∷ rest) (values_of_after done more (level + 1) ends)
        ∙ append_assoc (values_of done (level + 1) ends) (values_of more (level + 1) ends) (Close_of level ends n ∷ rest) in
        let read = (all_read l vs within).values done (take used body) spelled (at + 8) (level + 1) ends these (omega (arith, size, long)) in
        let behind_them = runs_stay (cell_step l) (place (at + 8) (values_of done (level + 1) ends ++ these)) (take used body) (drop used body ++ back) _ _ [] read in
        let cut : take used body ++ (drop used body ++ back) ≡ body ++ back = sym (append_assoc (take used body) (drop used body) back) ∙ ap (λ (y : List ℕ). y ++ back) (take-append-drop used body) in
        let there : place (at + 8 + length (take used body)) these ≡ place (at + 8 + used) these = ap (λ (m : ℕ). place (at + 8 + m) these) size in
        let later = runs_at l _ _ _ _ _ _ _ _ cut there refl behind_them in
        let first = runs_at l start (place (at + 8) (behind (type_copies n ts) level rest)) (place (at + 8) (values_of done (level + 1) ends ++ these)) all all (body ++ back) (body ++ back) ((at, Enter level k n) ∷ []) refl (ap (λ (z : List CellSymbol). place (at + 8) z) symbols) refl enters in
        runs_then (cell_step l) start (place (at + 8) (values_of done (level + 1) ends ++ these)) (place (at + 8 + used) these) all (body ++ back) (drop used body ++ back) ((at, Enter level k n) ∷ []) _ first later

  -- refused at the front of what is left after these values
  pub counted_stops : (done more : Types) (j : Kind) (inner : Types) (vs : Values) (used : ℕ) (r : ReadError) → type_copies n ts ≡ followed_by done (Type_and j inner more) → ValuesSpell done vs (take used body) → AreWithin l vs → used ≤ length body
      → FrontStops l (at + 8 + used) j inner (drop used body) r → ContentStops l at k ts c r
  unfolding Spells
  counted_stops done more j inner vs used r split spelled within le refused front back some s level rest =
      let head = s.0.head in
      let size = s.0.counts in
      let there = leads level rest head back size s.1 done (Type_and j inner more) vs used split spelled within le in
      let stop : at + 8 + used + length (drop used body) ≡ ends = omega (arith, length-drop used body, long) in
      let after = behind more level rest in
      let here = subst (λ (m : ℕ). IsStopped l (place (at + 8 + used) (Value_of j inner (level + 1) m ∷ after)) (drop used body) r) stop (refused (level + 1) after) in
      let stays = refused_stays l (place (at + 8 + used) (Value_of j inner (level + 1) ends ∷ after)) (drop used body) back r here in
      let whole : head ++ (c ++ back) ≡ front ++ back = sym (append_assoc head c back) ∙ ap (λ (x : List ℕ). x ++ back) (sym s.0.parts) in
      subst (λ (x : List ℕ). IsStopped l (value_at at k ts x level rest) x r) whole
      (refused_then l (start level rest head back size s.1) (place (at + 8 + used) (behind (Type_and j inner more) level rest)) (head ++ (c ++ back)) (drop used body ++ back) (((at, Enter level k n) ∷ []) ++ values_items l (level + 1) (at + 8) done vs) r there stays)

  -- the first values are kept
  pub counted_wants : l.parts ≡ false → (j : Kind) (inner done more : Types) (vs : Values) (used : ℕ) → let first = Type_and j inner done in type_copies n ts ≡ followed_by first more → ValuesSpell first vs (take used body) → AreWithin l vs → used ≤ length body → ContentStops l at k ts c error.NoMemory
  unfolding Spells
  counted_wants whole j inner done more vs used split spelled within le front back some s level rest =
      let head = s.0.head in
      let size = s.0.counts in
      let first = Type_and j inner done in
      let same : head ++ (c ++ back) ≡ front ++ back = sym (append_assoc head c back) ∙ ap (λ (x : List ℕ). x ++ back) (sym s.0.parts) in
      subst (λ (x : List ℕ). WantsMemory l (value_at at k ts x level rest) x) same (record {
        events = ((at, Enter level k n) ∷ []) ++ values_items l (level + 1) (at + 8) first vs;
        there = place (at + 8 + used) (behind more level rest);
        left = drop used body ++ back;
        runs = leads level rest head back size s.1 first more vs used split spelled within le;
        takes = item_takes l whole level (at + 8) j inner done vs (take used body) spelled;
      })

  -- bytes that are left after all values
  pub counted_ends : (vs : Values) (used : ℕ) → ValuesSpell (type_copies n ts) vs (take used body) → AreWithin l vs → used < length body → ContentStops l at k ts c (refusal (at + 8 + used) ExtraInValue)
  unfolding Spells
  counted_ends vs used spelled within lt front back some s level rest =
      let head = s.0.head in
      let size = s.0.counts in
      let r = refusal (at + 8 + used) ExtraInValue in
      let there = leads level rest head back size s.1 (type_copies n ts) NoMore vs used (sym (followed_none (type_copies n ts))) spelled within (omega arith) in
      let q = place (at + 8 + used) (Close_of level ends n ∷ rest) in
      let here : IsStopped l q (drop used body ++ back) r = refused_now l q (drop used body ++ back) (at + 8 + used) ExtraInValue (rw (lt-ltb (at + 8 + used) ends (omega (arith, long))) refl) in
      let whole : head ++ (c ++ back) ≡ front ++ back = sym (append_assoc head c back) ∙ ap (λ (x : List ℕ). x ++ back) (sym s.0.parts) in
      subst (λ (x : List ℕ). IsStopped l (value_at at k ts x level rest) x r) whole
      (refused_then l (start level rest head back size s.1) q (head ++ (c ++ back)) (drop used body ++ back) (((at, Enter level k n) ∷ []) ++ values_items l (level + 1) (at + 8) (type_copies n ts) vs) r there here)

-- ---- tuples and user-defined types

fielded_step_is : (l : Rules) (p : CellPlace) (rest : List CellSymbol) (level : ℕ) (k : Kind) (inner : Types) (n : ℕ) → has_fields k ≡ true → content_step l p rest level k inner n ≡ fielded_step p rest level k inner n
fielded_step_is l p rest level kind.Udt inner n t = refl
fielded_step_is l p rest level kind.Tuple inner n t = refl
fielded_step_is l p rest level k inner n t = absurd cc

-- a value has the four bytes of its length
long_enough : (k : Kind) (inner ts : Types) (vs : Values) (b : List ℕ) → ValuesSpell (Type_and k inner ts) vs b → 4 ≤ length b
long_enough k inner ts NoValue b h = absurd h
long_enough k inner ts (Null_and vs) b h = omega (arith, spelled_size (Type_and k inner ts) (Null_and vs) b h)
long_enough k inner ts (Empty_and vs) b h = omega (arith, spelled_size (Type_and k inner ts) (Empty_and vs) b h)
long_enough k inner ts (Scalar_and v vs) b h = omega (arith, spelled_size (Type_and k inner ts) (Scalar_and v vs) b h)
long_enough k inner ts (Counted_and j n items vs) b h = omega (arith, spelled_size (Type_and k inner ts) (Counted_and j n items vs) b h)
long_enough k inner ts (Fields_and j items vs) b h = omega (arith, spelled_size (Type_and k inner ts) (Fields_and j items vs) b h)

module _ (l : Rules) (at : ℕ) (ts : Types) (c : List ℕ) where
  abbrev stop : ℕ
  stop = at + 4 + length c

  -- The first fields, this many, are read, and those of the other types are due after this many bytes.
  abbrev pub FieldsLead : (more : Types) (n used : ℕ) → Type 0
  FieldsLead more n used = (level : ℕ) (rest : List CellSymbol) → (es : Events) × Runs (cell_step l) (place (at + 4) (Items_of ts level stop 0 ∷ rest)) c es (place (at + 4 + used) (Items_of more level stop n ∷ rest)) (drop used c) × (l.parts ≡ false → 0 < n → take_memory es ≡ true)

  pub fields_begin : FieldsLead ts 0 0
  fields_begin level rest = let none : at + 4 + 0 ≡ at + 4 = omega arith in ([], (ap (λ (m : ℕ). place m (Items_of ts level stop 0 ∷ rest)) none, refl), (λ whole lt. absurd (omega (arith, lt))))

  -- the step at the next field is that of its value
  field_step : (j : Kind) (inner more : Types) (x : ℕ) (n level : ℕ) (rest : List CellSymbol) → x < stop
      → cell_step l (place x (Value_of j inner (level + 1) stop ∷ (Items_of more level stop (n + 1) ∷ rest))) ≡ cell_step l (place x (Items_of (Type_and j inner more) level stop n ∷ rest))
  field_step j inner more x n level rest lt = rw (lt-leb stop x lt) refl

  pub fields_follow : (j : Kind) (inner more : Types) (one : Values) (n used m : ℕ) → FieldsLead (Type_and j inner more) n used → used < length c → m ≤ length (drop used c) → ValueSpells j inner one (take m (drop used c)) → AreWithin l one → FieldsLead more (n + 1) (used + m)
  fields_follow j inner more one n used m lead lt le spelled within level rest =
      let front = take m (drop used c) in
      let size : length front ≡ m = length-take-le m (drop used c) le in
      let some = long_enough j inner NoMore one front spelled in
      let due = Items_of more level stop (n + 1) ∷ rest in
      let x = at + 4 + used in
      let p = place x (Value_of j inner (level + 1) stop ∷ due) in
      let q = place x (Items_of (Type_and j inner more) level stop n ∷ rest) in
      let y = place (at + 4 + (used + m)) due in
      let fits : x + length front ≤ stop = omega (arith, size, length-drop used c) in
      let read = (all_read l one within).values (Type_and j inner NoMore) front spelled x (level + 1) stop due fits in
      let here = runs_as l p q (place (x + length front) due) front _ (omega arith) (field_step j inner more x n level rest (omega arith)) read in
      let stays = runs_stay (cell_step l) q front (drop m (drop used c)) _ (place (x + length front) due) [] here in
      let far : x + length front ≡ at + 4 + (used + m) = omega (arith, size) in
      let left : drop m (drop used c) ≡ drop (used + m) c = dropped used m c in
      let later = runs_at l q (place (x + length front) due) y (front ++ drop m (drop used c)) (drop used c) (drop m (drop used c)) (drop (used + m) c) _ (take-append-drop m (drop used c)) (ap (λ (z : ℕ). place z due) far) left stays in
      let before = lead level rest in
      (before.0 ++ values_items l (level + 1) x (Type_and j inner NoMore) one, runs_then (cell_step l) (place (at + 4) (Items_of ts level stop 0 ∷ rest)) q y c (drop used c) (drop (used + m) c) before.0 _ before.1 later, (λ whole lt. take_behind before.0 _ (item_takes l whole level x j inner NoMore one front spelled)))

  module _ (k : Kind) (fields : has_fields k ≡ true) where
    -- a content that is refused after its length and the first of its fields
    refused_in : (more : Types) (n used : ℕ) (r : ReadError) → FieldsLead more n used → ((level : ℕ) (rest : List CellSymbol) → IsStopped l (place (at + 4 + used) (Items_of more level stop n ∷ rest)) (drop used c) r) → ContentStops l at k ts c r
    unfolding Spells
    refused_in more n used r lead refused front back some s level rest =
        let head = s.0.head in
        let b = head ++ (c ++ back) in
        let start = value_at at k ts b level rest in
        let due = place (at + 4) (Items_of ts level stop 0 ∷ rest) in
        let x : Emitted CellEvent CellPlace = record { at = at; event = Enter level k (how_many ts); after = place_after start rest (Items_of ts level stop 0 ∷ []) } in
        let said : says (cell_step l start) 0 b ≡ Got x 4 =
        content_says l at k ts level rest c head back s.0.counts s.1 some
        ∙ ap (λ (z : Step CellEvent CellPlace). says z 4 (c ++ back)) (fielded_step_is l start rest level k ts (length c) fields) in
        let left : drop 4 b ≡ c ++ back = drop_at head (c ++ back) 4 s.0.counts.long in
        let first : Runs (cell_step l) start b ((at, Enter level k (how_many ts)) ∷ []) due (c ++ back) = (4, x.after, said, (refl, sym left)) in
        let whole : b ≡ front ++ back = sym (append_assoc head c back) ∙ ap (λ (y : List ℕ). y ++ back) (sym s.0.parts) in
        let then = lead level rest in
        let there = place (at + 4 + used) (Items_of more level stop n ∷ rest) in
        let inside = refused_then l due there c (drop used c) then.0 r then.1 (refused level rest) in
        subst (λ (y : List ℕ). IsStopped l (value_at at k ts y level rest) y r) whole
        (refused_then l start due b (c ++ back) ((at, Enter level k (how_many ts)) ∷ []) r first (refused_stays l due c back r inside))

    -- the first fields are kept
    pub fields_want : l.parts ≡ false → (more : Types) (n used : ℕ) → FieldsLead more n used → 0 < n → ContentStops l at k ts c error.NoMemory
    fields_want whole more n used lead lt = refused_in ts 0 0 error.NoMemory fields_begin (λ level rest.
        let then = lead level rest in
        let none : at + 4 ≡ at + 4 + 0 = omega arith in
        subst (λ (m : ℕ). WantsMemory l (place m (Items_of ts level stop 0 ∷ rest)) c) none
        (record { events = then.0; there = place (at + 4 + used) (Items_of more level stop n ∷ rest); left = drop used c; runs = then.1; takes = then.2 whole lt }))

    pub fields_stop : (j : Kind) (inner more : Types) (n used : ℕ) (r : ReadError) → FieldsLead (Type_and j inner more) n used → used < length c → FrontStops l (at + 4 + used) j inner (drop used c) r → ContentStops l at k ts c r
    fields_stop j inner more n used r lead lt refused = refused_in (Type_and j inner more) n used r lead (λ level rest.
        let x = at + 4 + used in
        let due = Items_of more level stop (n + 1) ∷ rest in
        let far : x + length (drop used c) ≡ stop = omega (arith, length-drop used c) in
        refused_as l (place x (Value_of j inner (level + 1) stop ∷ due)) (place x (Items_of (Type_and j inner more) level stop n ∷ rest)) (drop used c) r (field_step j inner more x n level rest (omega arith))
        (subst (λ (m : ℕ). IsStopped l (place x (Value_of j inner (level + 1) m ∷ due)) (drop used c) r) far (refused (level + 1) due)))

    pub fields_end : l.lenient ≡ false → (n used : ℕ) → FieldsLead NoMore n used → used < length c → ContentStops l at k ts c (refusal (at + 4 + used) ExtraInValue)
    fields_end strict n used lead lt = refused_in NoMore n used (refusal (at + 4 + used) ExtraInValue) lead (λ level rest.
        refused_now l (place (at + 4 + used) (Items_of NoMore level stop n ∷ rest)) (drop used c) (at + 4 + used) ExtraInValue (rw (strict, lt-ltb (at + 4 + used) stop (omega arith)) refl))
