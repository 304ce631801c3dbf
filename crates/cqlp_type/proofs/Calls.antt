-- What a call makes of an option, by what the `Partial` makes of its item.
use Rattle.std.proofs.Common.{◌≡◌, ℕ, ◌+◌, ◌-◌, ◌<◌, ◌≤◌, true, false, List, [], ◌∷◌, ◌++◌, length, drop, refl, sym, ap, subst, ◌∙◌, arith}
use Rattle.std.proofs.lemmas.List.{length-append}
use Rattle.cqlp_note.specs.declared.head.Wanted.{Wanted}
use Rattle.cqlp_note.specs.declared.refusal.Reason.{Reason}
use Rattle.cqlp_note.specs.declared.advance.FieldOutline.{FieldOutline}
use Rattle.cqlp_note.specs.declared.advance.FieldOutline.TheVariants as item
use Rattle.cqlp_note.specs.declared.head.ContentForm.TheVariants as form
use Rattle.cqlp_note.specs.declared.field.Notation.TheVariants as notation
use Rattle.cqlp_note.specs.declared.refusal.Reason.TheVariants.{Overrun}
use Rattle.cqlp_note.specs.Reader.{Said, More, Bad, Got, Gives, Refuses, says}
use Rattle.cqlp_note.specs.Step.{Step, Emit}
use Rattle.cqlp_note.specs.Field.{FieldValue, Short, Text, field_of}
use Rattle.cqlp_note.specs.Limits.{Rules, limit_of}
use Rattle.cqlp_note.specs.Head.{reader_of}
use Rattle.cqlp_note.specs.Spelling.{Spells}
use Rattle.cqlp_note.specs.Partial.{FieldState, item_value, CanLend, content_bytes, going_on, ended}
use Rattle.cqlp_note.specs.Field.{content_length}
use Rattle.cqlp_note.specs.Partial as partial
use Rattle.cqlp_note.proofs.Readers.{says_always}
use Rattle.cqlp_note.proofs.Fields.{field_spells}
use Rattle.cqlp_note.proofs.Yields.{got_inside}
use Rattle.cqlp_kind.specs.declared.node.Node.{Node}
use Rattle.cqlp_type.specs.declared.advance.TypeOutline.{TypeOutline}
use Rattle.cqlp_kind.specs.TypeStep.{TypeSymbol, Option_at, Text_of, Fields_of, Whole, TypeEvent, TypePlace, type_place}
use Rattle.cqlp_type.specs.Table.{Table}
use Rattle.cqlp_type.specs.Remaining.{event_at, item_step, Keeps, IsPart, number_of, short_in}
use Rattle.cqlp_type.specs.Progress.{TypeState, stopped, place_of, notation_of, IsFor, IsShared, pending, step_says, CanLendPart, text_length, text_bytes, Waits, Ends}
use Rattle.cqlp_type.specs.Pushing.{ReadsInto}
use Rattle.cqlp_type.proofs.OpenTypes.{keeps}
use Rattle.cqlp_type.proofs.ReadBack.{text_is}
use Rattle.cqlp_type.proofs.Items.{short_got, IsRead, field_says, item_waits, item_fails, item_gives, waiting_inside, item_size}

-- the item is the field that was asked for
module _ (r : TypeState) (nodes : List Node) (w : Wanted) (bytes : List ℕ) where
  abbrev here : List TypeSymbol → Said FieldValue Reason
  here = field_says r.rules (place_of r nodes) bytes

  for_says : (ss : List TypeSymbol) → IsFor r.rules r.offset r.stop ss w → says (reader_of w) 0 bytes ≡ here ss
  for_says [] f = absurd f
  for_says (Option_at depth ∷ ss) f = rw f refl
  for_says (Text_of t ∷ ss) f = rw f refl
  for_says (Fields_of named depth ∷ ss) f = rw f refl
  for_says (Whole i ∷ ss) f = absurd f

  for_read : (ss : List TypeSymbol) → IsFor r.rules r.offset r.stop ss w → IsRead r.rules (place_of r nodes) bytes ss
  for_read [] f = absurd f
  for_read (Option_at depth ∷ ss) f = tt
  for_read (Text_of t ∷ ss) f = tt
  for_read (Fields_of named depth ∷ ss) f = tt
  for_read (Whole i ∷ ss) f = absurd f

  waiting : (ss : List TypeSymbol) → IsFor r.rules r.offset r.stop ss w → here ss ≡ More → length bytes ≤ r.stop - r.offset
  waiting [] f m = absurd f
  waiting (s ∷ ss) f m = waiting_inside (r.stop - r.offset) s (limit_of r.rules (notation_of s)) bytes m

  given : (ss : List TypeSymbol) (v : FieldValue) (k : ℕ) → IsFor r.rules r.offset r.stop ss w → here ss ≡ Got v k → k ≤ length bytes → (2 ≤ k) × (k ≤ r.stop - r.offset)
  given [] v k f g le = absurd f
  given (s ∷ ss) v k f g le =
      (item_size s (limit_of r.rules (notation_of s)) (r.stop - r.offset) bytes v k g, got_inside (notation_of s) (limit_of r.rules (notation_of s)) (r.stop - r.offset) bytes v k g le)

  module _ (f : IsFor r.rules r.offset r.stop r.symbols w) where
    pub step_waits : says (reader_of w) 0 bytes ≡ More → (step_says r nodes bytes ≡ More) × (length bytes ≤ r.stop - r.offset)
    step_waits m =
        let h = sym (for_says r.symbols f) ∙ m in
        (item_waits r.rules (place_of r nodes) bytes r.symbols (for_read r.symbols f) h, waiting r.symbols f h)

    pub step_fails : (why : Reason) → says (reader_of w) 0 bytes ≡ Bad why → step_says r nodes bytes ≡ Bad (r.offset, why)
    step_fails why m = item_fails r.rules (place_of r nodes) bytes r.symbols why (for_read r.symbols f) (sym (for_says r.symbols f) ∙ m)

    pub step_gives : (v : FieldValue) (k : ℕ) → says (reader_of w) 0 bytes ≡ Got v k → step_says r nodes bytes ≡ says (item_step r.rules (place_of r nodes) r.symbols v) k (drop k bytes)
    step_gives v k m = item_gives r.rules (place_of r nodes) bytes r.symbols v k (for_read r.symbols f) (sym (for_says r.symbols f) ∙ m)

    pub step_size : (v : FieldValue) (k : ℕ) → says (reader_of w) 0 bytes ≡ Got v k → k ≤ length bytes → (2 ≤ k) × (k ≤ r.stop - r.offset)
    step_size v k m le = given r.symbols v k f (sym (for_says r.symbols f) ∙ m) le

-- ---- what the value of an item is

text_got : (limit room : ℕ) (bytes : List ℕ) (v : FieldValue) (k : ℕ) → says (field_of notation.Text16 limit room) 0 bytes ≡ Got v k → (s : List ℕ) × (v ≡ Text s)
text_got limit room bytes v k g = text_is v _ (says_always (Spells notation.Text16) (field_of notation.Text16 limit room) [] bytes v k (field_spells notation.Text16 limit room) g).1

short_plain : (limit room : ℕ) (bytes : List ℕ) (v : FieldValue) (k : ℕ) → says (field_of notation.Short limit room) 0 bytes ≡ Got v k → content_length v ≡ 0
short_plain limit room bytes v k g = ap content_length (short_got Overrun limit room (λ n. Gives (Short n)) bytes v k g).0

number_is : (i : FieldOutline) (input buffer : List ℕ) → short_in (item_value i input buffer) ≡ number_of i
number_is (item.Plain v) input buffer = refl
number_is (item.Content form.Text l) input buffer = refl
number_is (item.Content form.Bytes l) input buffer = refl
number_is (item.Content form.Bound l) input buffer = refl

-- only an id can be refused
failed_plain : (l : Rules) (p : TypePlace) (w : Wanted) (bytes : List ℕ) (v : FieldValue) (k : ℕ) (fault : ℕ × Reason) (ss : List TypeSymbol) → IsFor l p.offset p.stop ss w → says (reader_of w) 0 bytes ≡ Got v k
    → item_step l p ss v ≡ Refuses fault → content_length v ≡ 0
failed_plain l p w bytes v k fault [] f g r = absurd f
failed_plain l p w bytes v k fault (Option_at depth ∷ ss) f g r = short_plain (limit_of l notation.Short) (p.stop - p.offset) bytes v k (rw f at g)
failed_plain l p w bytes v k fault (Text_of t ∷ ss) f g r = absurd cc
failed_plain l p w bytes v k fault (Fields_of named depth ∷ ss) f g r = absurd cc
failed_plain l p w bytes v k fault (Whole n ∷ ss) f g r = absurd f

module _ (w : Wanted) (bytes : List ℕ) (k : ℕ) (i : FieldOutline) (input buffer : List ℕ) (x : TypeOutline) where
  part_lends : CanLend i input buffer → (l : Rules) (offset stop : ℕ) (ss : List TypeSymbol) → IsFor l offset stop ss w → IsPart ss i x → says (reader_of w) 0 bytes ≡ Got (item_value i input buffer) k → CanLendPart x input buffer
  part_lends can l offset stop [] f is g = absurd f
  part_lends can l offset stop (Option_at depth ∷ ss) f is g = rw is.1 tt
  part_lends can l offset stop (Text_of t ∷ ss) f is g = rw is (can, text_got (limit_of l notation.Text16) (stop - offset) bytes (item_value i input buffer) k (rw f at g))
  part_lends can l offset stop (Fields_of named depth ∷ ss) f is g = rw is.1 tt
  part_lends can l offset stop (Whole n ∷ ss) f is g = absurd f

  part_plain : (used : ℕ) (l : Rules) (offset stop : ℕ) (ss : List TypeSymbol) → IsFor l offset stop ss w → IsPart ss i x → says (reader_of w) 0 bytes ≡ Got (item_value i input buffer) k
      → text_length (event_at x input buffer) ≤ used → content_length (item_value i input buffer) ≤ used
  part_plain used l offset stop [] f is g le = absurd f
  part_plain used l offset stop (Option_at depth ∷ ss) f is g le = rw (short_plain (limit_of l notation.Short) (stop - offset) bytes (item_value i input buffer) k (rw f at g)) (omega arith)
  part_plain used l offset stop (Text_of t ∷ ss) f is g le = rw is at le
  part_plain used l offset stop (Fields_of named depth ∷ ss) f is g le = rw (short_plain (limit_of l notation.Short) (stop - offset) bytes (item_value i input buffer) k (rw f at g)) (omega arith)
  part_plain used l offset stop (Whole n ∷ ss) f is g le = absurd f

  part_held : (used : ℕ) (l : Rules) (offset stop : ℕ) (ss : List TypeSymbol) → IsFor l offset stop ss w → IsPart ss i x → (used < content_length (item_value i input buffer) → buffer ≡ content_bytes (item_value i input buffer))
      → used < text_length (event_at x input buffer) → buffer ≡ text_bytes (event_at x input buffer)
  part_held used l offset stop [] f is h lt = absurd f
  part_held used l offset stop (Option_at depth ∷ ss) f is h lt = absurd (let no : used < 0 = rw is.1 at lt in omega arith)
  part_held used l offset stop (Text_of t ∷ ss) f is h lt = rw is (h (rw is at lt))
  part_held used l offset stop (Fields_of named depth ∷ ss) f is h lt = absurd (let no : used < 0 = rw is.1 at lt in omega arith)
  part_held used l offset stop (Whole n ∷ ss) f is h lt = absurd f

-- r is the reader with its item begun
module _ (old r : TypeState) (p q : FieldState) (t : Table) (input : List ℕ) (reader : r ≡ record old { begun = true; taken = r.taken }) (shared : IsShared r q) (same : pending r q ≡ pending old p) (room : q.room ≡ p.room) where
  begun : r.begun ≡ true
  begun = ap (λ (z : TypeState). z.begun) reader

  seen : q.seen ≡ pending old p
  seen = rw begun at same

  pub taken_is : r.taken ≡ length q.seen
  taken_is = sym (shared.taken begun)

  pub asked : IsFor r.rules r.offset r.stop r.symbols q.field
  asked = shared.item begun

  step_same : (bytes : List ℕ) → step_says old t.nodes bytes ≡ step_says r t.nodes bytes
  step_same bytes = ap (λ (z : TypeState). step_says z t.nodes bytes) (sym reader)

  module _ (used : ℕ) (q' : FieldState) (w : partial.Waits q input used q') where
    now : says (reader_of q.field) 0 (q.seen ++ input) ≡ More
    now = w.is

    pub waits_fits : r.taken + used ≤ r.stop - r.offset
    waits_fits =
        let le = (step_waits r t.nodes q.field (q.seen ++ input) asked now).1 in
        omega (arith, taken_is, w.all, length-append q.seen input, le)

    progress : q' ≡ going_on q (q.seen ++ input) q'.content
    progress = w.under_way

    waits_shared : IsShared (record r { taken = r.taken + used }) q'
    waits_shared = record {
      room = let e : q'.room ≡ q.room = ap (λ (z : FieldState). z.room) progress in rw e shared.room;
      same = ap (λ (z : FieldState). z.under_way) progress ∙ sym begun;
      item = λ _. let e : q'.field ≡ q.field = ap (λ (z : FieldState). z.field) progress in rw e asked;
      taken = λ _. let e : q'.seen ≡ q.seen ++ input = ap (λ (z : FieldState). z.seen) progress in rw e (omega (arith, length-append q.seen input, taken_is, w.all));
    }

    pub waits_on : Waits old p t input used (record r { taken = r.taken + used }) q' t
    waits_on = record {
      all = w.all;
      is = step_same (pending old p ++ input) ∙ rw (← seen) (step_waits r t.nodes q.field (q.seen ++ input) asked now).0;
      pending = rw begun (ap (λ (z : FieldState). z.seen) progress ∙ ap (λ (x : List ℕ). x ++ input) seen);
      reader = ap (λ (z : TypeState). record z { taken = r.taken + used }) reader;
      shared = waits_shared;
      room = ap (λ (z : FieldState). z.room) progress ∙ room;
      table = refl;
    }

  asked_at : (ss : List TypeSymbol) → IsFor r.rules r.offset r.stop ss q.field → q.field.at ≡ r.offset
  asked_at [] f = absurd f
  asked_at (Option_at depth ∷ ss) f = ap (λ (z : Wanted). z.at) f
  asked_at (Text_of t ∷ ss) f = ap (λ (z : Wanted). z.at) f
  asked_at (Fields_of named depth ∷ ss) f = ap (λ (z : Wanted). z.at) f
  asked_at (Whole n ∷ ss) f = absurd f

  pub field_at : q.field.at ≡ r.offset
  field_at = asked_at r.symbols asked

  pub stopped_is : stopped r ≡ stopped old
  stopped_is = ap stopped reader

  -- the field is refused
  pub refused_says : (why : Reason) → says (reader_of q.field) 0 (q.seen ++ input) ≡ Bad why → step_says old t.nodes (pending old p ++ input) ≡ Bad (r.offset, why)
  refused_says why m = step_same (pending old p ++ input) ∙ rw (← seen) (step_fails r t.nodes q.field (q.seen ++ input) asked why m)

  module _ (used : ℕ) (i : FieldOutline) (q' : FieldState) (can : CanLend i input q'.content) (e : partial.Ends q input used (item_value i input q'.content) q') where
    abbrev value : FieldValue
    value = item_value i input q'.content

    long : length (pending old p) + used ≡ r.taken + used
    long = rw (← seen) (omega (arith, taken_is))

    got : says (reader_of q.field) 0 (q.seen ++ input) ≡ Got value (length q.seen + used)
    got = e.is

    within : length q.seen + used ≤ length (q.seen ++ input)
    within = omega (arith, length-append q.seen input, e.within)

    pub ends_fits : (2 ≤ r.taken + used) × (r.taken + used ≤ r.stop - r.offset)
    ends_fits =
        let s = step_size r t.nodes q.field (q.seen ++ input) asked value (length q.seen + used) got within in
        (omega (arith, taken_is, s.0), omega (arith, taken_is, s.1))

    goes : step_says old t.nodes (pending old p ++ input) ≡ says (item_step r.rules (place_of r t.nodes) r.symbols value) (length (pending old p) + used) (drop (length (pending old p) + used) (pending old p ++ input))
    goes = step_same (pending old p ++ input) ∙ rw (← seen) (step_gives r t.nodes q.field (q.seen ++ input) asked value (length q.seen + used) got)

    idle : q' ≡ ended q q'.content
    idle = e.idle

    pub idle_after : (q'.under_way ≡ false) × (q'.room ≡ p.room)
    idle_after = (ap (λ (z : FieldState). z.under_way) idle, ap (λ (z : FieldState). z.room) idle ∙ room)

    -- what the item does to the table, it does to one that holds types
    pub kept : ReadsInto old p t → Keeps r.rules r.symbols t.nodes (number_of i)
    kept reads =
        let rules : old.rules ≡ r.rules = ap (λ (z : TypeState). z.rules) (sym reader) in
        let symbols : old.symbols ≡ r.symbols = ap (λ (z : TypeState). z.symbols) (sym reader) in
        let place : place_of old t.nodes ≡ place_of r t.nodes = ap (λ (z : TypeState). place_of z t.nodes) (sym reader) in
        let k = length (pending old p) + used in
        let said = goes ∙ (λ j. says (item_step (sym rules j) (sym place j) (sym symbols j) value) k (drop k (pending old p ++ input))) in
        let here = keeps old p t input reads used value old.symbols refl e.within said in
        let P : Rules × List TypeSymbol × ℕ → Type 0 = λ z. Keeps z.0 z.1 t.nodes z.2 in
        let same : (old.rules, old.symbols, short_in value) ≡ (r.rules, r.symbols, number_of i) = λ j. (rules j, symbols j, number_is i input q'.content j) in
        subst P same here

    -- an item that is no text has no content
    pub failed : (why : Reason) → item_step r.rules (place_of r t.nodes) r.symbols value ≡ Refuses (r.offset, why) → (step_says old t.nodes (pending old p ++ input) ≡ Bad (r.offset, why)) × (q'.content ≡ [])
    failed why f = (
      goes ∙ ap (λ (s : Step TypeEvent TypePlace). says s (length (pending old p) + used) (drop (length (pending old p) + used) (pending old p ++ input))) f,
      e.lent (rw (failed_plain r.rules (place_of r t.nodes) q.field (q.seen ++ input) value (length q.seen + used) (r.offset, why) r.symbols asked got f) (omega arith)),
    )

    module _ (x : TypeOutline) (symbols : List TypeSymbol) (height : ℕ) (t' : Table)
        (is : item_step r.rules (place_of r t.nodes) r.symbols value ≡ Emit r.offset (event_at x input q'.content) (type_place (place_of r t.nodes) (symbols, t'.nodes)))
        (part_is : IsPart r.symbols i x) (table : t'.room ≡ t.room) (entries : length t.nodes ≤ r.rules.entries → length t'.nodes ≤ r.rules.entries) where
      abbrev new : TypeState
      new = record { rules = r.rules; under_way = true; offset = r.offset + (r.taken + used); stop = r.stop; symbols = symbols; height = height; begun = false; taken = 0 }

      new_shared : IsShared new q'
      new_shared = record {
        room = let same_room : q'.room ≡ q.room = ap (λ (z : FieldState). z.room) idle in rw same_room shared.room;
        same = ap (λ (z : FieldState). z.under_way) idle;
        item = λ no. absurd cc;
        taken = λ no. absurd cc;
      }

      pub ends_on : Ends old p t input r.offset used x new q' t'
      ends_on = record {
        within = e.within;
        step = record { at = r.offset; event = event_at x input q'.content; after = type_place (place_of r t.nodes) (symbols, t'.nodes) };
        is = goes ∙ ap (λ (s : Step TypeEvent TypePlace). says s (length (pending old p) + used) (drop (length (pending old p) + used) (pending old p ++ input))) is;
        place = refl;
        event = refl;
        after = rw long refl;
        forward =
            let here : old.offset ≡ r.offset = ap (λ (z : TypeState). z.offset) (sym reader) in
            omega (arith, ends_fits.0);
        reader = ap (λ (z : TypeState). record { rules = z.rules; under_way = true; offset = r.offset + (r.taken + used); stop = z.stop; symbols = symbols; height = height; begun = false; taken = 0 }) reader;
        shared = new_shared;
        room = idle_after.1;
        can_lend = part_lends q.field (q.seen ++ input) (length q.seen + used) i input q'.content x can r.rules r.offset r.stop r.symbols asked part_is got;
        lent = λ short. e.lent (part_plain q.field (q.seen ++ input) (length q.seen + used) i input q'.content x used r.rules r.offset r.stop r.symbols asked part_is got short);
        held = part_held q.field (q.seen ++ input) (length q.seen + used) i input q'.content x used r.rules r.offset r.stop r.symbols asked part_is e.kept;
        table = table;
        entries = let same_rules : old.rules ≡ r.rules = ap (λ (z : TypeState). z.rules) (sym reader) in rw same_rules entries;
      }
