-- What a caller gives between two events, and what the reading makes of it.
use Rattle.std.proofs.Common.{◌≡◌, ℕ, suc, ◌-◌, Bool, true, false, cond, ltb, ◌^◌, List, [], ◌∷◌, ◌++◌, length, drop, refl, sym, ap, subst, ◌∙◌}
use Rattle.std.specs.Prelude.{Option, Some, None, Ok, Err}
use Rattle.cqlp_note.specs.declared.refusal.Reason.{Reason}
use Rattle.cqlp_note.specs.declared.refusal.Reason.TheVariants.{StreamTooLong}
use Rattle.cqlp_note.specs.declared.refusal.Refusal.{Refusal}
use Rattle.cqlp_note.specs.Reader.{Said, More, Bad, Got, Gives as GivesNow, Refuses, Takes, Idles, says}
use Rattle.cqlp_note.specs.Field.{FieldValue, FieldReader, field_of}
use Rattle.cqlp_note.specs.Step.{Emitted, Step, after_field, map_step}
use Rattle.cqlp_note.specs.Limits.{Rules, limit_of}
use Rattle.cqlp_note.specs.Heading.{Heading, heading}
use Rattle.cqlp_note.proofs.Yields.{map_said, says_map}
use Rattle.cqlp_kind.specs.TypeStep.{type_step}
use Rattle.cqlp_kind.specs.CellStep.{Value_of, cell_step}
use Rattle.cqlp_type.specs.Table.{Table}
use Rattle.cqlp_grammar.specs.declared.grammar.Role.{Role}
use Rattle.cqlp_note.specs.declared.field.Field.{Field}
use Rattle.cqlp_grammar.specs.Productions.{Symbol, Stream, In, In_type, Cell_due, In_cell, Extra, fault_in}
use Rattle.cqlp_decode.specs.Reading.{Event, Given, Nothing, Waiting, InUse, Used, Gift, Gives, TakesBack, Gifts, held_after, held_after_all, gifts_now, gifts_later, with_gift, Place, start_with, settled, retired, is_in_use, type_event, cell_event, header_step, value_step, place_of_types, place_of_cells, step_at, step, Reads}
use Rattle.cqlp_decode.specs.Progress.{StreamState}
use Rattle.cqlp_decode.specs.Streams.{AfterBy}
use Rattle.cqlp_decode.specs.Giving.{with_given}

-- ---- what is held

pub retired_all : (xs : List Gift) (g : Given) → retired (held_after_all xs g) ≡ held_after_all xs (retired g)
retired_all [] g = refl
retired_all (Gives ts ∷ xs) g = retired_all xs (Waiting ts)
retired_all (TakesBack ∷ xs) g = retired_all xs Nothing

never_in_use : (xs : List Gift) (g : Given) → is_in_use g ≡ false → is_in_use (held_after_all xs g) ≡ false
never_in_use [] g free = free
never_in_use (Gives ts ∷ xs) g free = never_in_use xs (Waiting ts) refl
never_in_use (TakesBack ∷ xs) g free = never_in_use xs Nothing refl

retired_free : (g : Given) → is_in_use (retired g) ≡ false
retired_free Nothing = refl
retired_free (Waiting ts) = refl
retired_free (InUse ts) = refl
retired_free (Used ts) = refl

-- after a refusal no table is in use
pub refused_free : (o : Option Refusal) (r : Refusal) (gifts : Gifts) (d : StreamState) (s : List ℕ) (es : List (ℕ × Event)) → o ≡ Some r → AfterBy o gifts d s es → is_in_use d.place.given ≡ false
refused_free None r gifts d s es is a = absurd cc
refused_free (Some w) r gifts d s es is a = rw a.given (never_in_use (gifts_now a.place.gifts) (retired a.place.given) (retired_free a.place.given))

held_more : (xs : List Gift) (x : Gift) (g : Given) → held_after_all (xs ++ x ∷ []) g ≡ held_after x (held_after_all xs g)
held_more [] x g = refl
held_more (y ∷ xs) x g = held_more xs x (held_after y g)

now_more : (x : Gift) (gs : Gifts) → gifts_now (with_gift 0 x gs) ≡ gifts_now gs ++ x ∷ []
now_more x [] = refl
now_more x (now ∷ later) = refl

later_same : (x : Gift) (gs : Gifts) → gifts_later (with_gift 0 x gs) ≡ gifts_later gs
later_same x [] = refl
later_same x (now ∷ later) = refl

now_same : (n : ℕ) (x : Gift) (gs : Gifts) → gifts_now (with_gift (suc n) x gs) ≡ gifts_now gs
now_same n x [] = refl
now_same n x (now ∷ later) = refl

later_more : (n : ℕ) (x : Gift) (gs : Gifts) → gifts_later (with_gift (suc n) x gs) ≡ with_gift n x (gifts_later gs)
later_more n x [] = refl
later_more n x (now ∷ later) = refl

-- ---- places that are settled

-- a place over which nothing is given any more
pub settled_none : (p : Place) → p.gifts ≡ [] → p ≡ settled p
settled_none p none =
    let one : p ≡ record p { gifts = [] } = λ i. record p { gifts = none i } in
    one ∙ (λ i. record p { given = held_after_all (gifts_now (sym none i)) p.given; gifts = gifts_later (sym none i) })

settled_twice : (p : Place) → gifts_later p.gifts ≡ [] → settled p ≡ settled (settled p)
settled_twice p none = settled_none (settled p) none

-- where nothing is given later, the step is that of the place with what is given now
pub settled_step : (l : Rules) (p : Place) → gifts_later p.gifts ≡ [] → step l p ≡ step l (settled p)
settled_step l p none = λ i. step_at l (settled_twice p none i) p.symbols

-- the place of one more gift
pub settled_more : (x : Gift) (p : Place) → record (settled p) { given = held_after x (settled p).given } ≡ settled (record p { gifts = with_gift 0 x p.gifts })
settled_more x p =
    let given : held_after x (held_after_all (gifts_now p.gifts) p.given) ≡ held_after_all (gifts_now (with_gift 0 x p.gifts)) p.given = sym (held_more (gifts_now p.gifts) x p.given) ∙ ap (λ (xs : List Gift). held_after_all xs p.given) (sym (now_more x p.gifts)) in
    λ i. record p { given = given i; gifts = sym (later_same x p.gifts) i }

settled_later : (n : ℕ) (x : Gift) (p : Place) → settled (record p { gifts = with_gift (suc n) x p.gifts }) ≡ record (settled p) { gifts = with_gift n x (gifts_later p.gifts) }
settled_later n x p = λ i. record p { given = held_after_all (now_same n x p.gifts i) p.given; gifts = later_more n x p.gifts i }

-- ---- steps, but for what is given

module _ {E P F Q R : Type 0} where
  map_twice : (f : E → F) (g : P → Q) (h : Q → R) (r : Step E P) → map_step f (λ q. h (g q)) r ≡ map_step (λ e. e) h (map_step f g r)
  map_twice f g h (GivesNow x) = refl
  map_twice f g h (Refuses fault) = refl
  map_twice f g h Idles = refl
  map_twice f g h (Takes n next) = λ i. Takes n (λ c. map_twice f g h (next c) i)

-- a step that is mapped by nothing
own : {E P : Type 0} (r : Step E P) → r ≡ map_step (λ e. e) (λ q. q) r
own (GivesNow x) = refl
own (Refuses fault) = refl
own Idles = refl
own (Takes n next) = λ i. Takes n (λ c. own (next c) i)

bad_seen : {E P Q : Type 0} (g : P → Q) (d : Said (Emitted E P) (ℕ × Reason)) (fault : ℕ × Reason) → map_said (λ e. e) g d ≡ Bad fault → d ≡ Bad fault
bad_seen g More fault is = absurd cc
bad_seen g (Bad why) fault is = let same : why ≡ fault = cc in ap Bad same
bad_seen g (Got x k) fault is = absurd cc

map_after : {P Q R : Type 0} (g : P → R) (h : Q → R) (at : ℕ) (r : FieldReader) (next : FieldValue → Step Event P) (later : FieldValue → Step Event Q) → ((v : FieldValue) → map_step (λ e. e) g (next v) ≡ map_step (λ e. e) h (later v))
    → map_step (λ e. e) g (after_field at r next) ≡ map_step (λ e. e) h (after_field at r later)
map_after g h at (GivesNow v) next later same = same v
map_after g h at (Refuses why) next later same = refl
map_after g h at Idles next later same = refl
map_after g h at (Takes n f) next later same = λ i. Takes n (λ c. map_after g h at (f c) next later same i)

-- the place with other gifts to come
abbrev with_later : Gifts → Place → Place
with_later gs p = record p { gifts = gs }

-- where a step leads is not seen
abbrev unseen : Place → Unit {0}
unseen p = tt

module _ (l : Rules) (p : Place) where
  module _ (gs : Gifts) where
    header_later : (h : Heading) → header_step (with_later gs p) h ≡ map_step (λ e. e) (with_later gs) (header_step p h)
    header_later (Err e) = refl
    header_later (Ok h) = refl

    value_later : (f : Field) (r : Role) (rest : List Symbol) (v : FieldValue) (o : Option Reason) → value_step l.types (with_later gs p) f r rest v o ≡ map_step (λ e. e) (with_later gs) (value_step l.types p f r rest v o)
    value_later f r rest v None = refl
    value_later f r rest v (Some why) = refl

    early_later : (t : Bool) → cond t (Refuses (p.offset, StreamTooLong)) (Takes 9 (λ b. header_step (with_later gs p) (heading b))) ≡ map_step (λ e. e) (with_later gs) (cond t (Refuses (p.offset, StreamTooLong)) (Takes 9 (λ b. header_step p (heading b))))
    early_later true = refl
    early_later false = λ i. Takes 9 (λ b. header_later (heading b) i)

    -- a step carries along what is given later
    pub step_later : (ss : List Symbol) → step_at l (with_later gs p) ss ≡ map_step (λ e. e) (with_later gs) (step_at l p ss)
    step_later [] = refl
    step_later (Stream ∷ rest) = early_later (ltb (2 ^ 63) p.offset)
    step_later (In f n r ∷ rest) =
        own (after_field p.offset (field_of n (limit_of l n) (p.stop - p.offset)) (λ v. value_step l.types (with_later gs p) f r rest v (fault_in r v)))
        ∙ map_after (λ q. q) (with_later gs) p.offset (field_of n (limit_of l n) (p.stop - p.offset)) (λ v. value_step l.types (with_later gs p) f r rest v (fault_in r v)) (λ v. value_step l.types p f r rest v (fault_in r v)) (λ v.
        sym (own (value_step l.types (with_later gs p) f r rest v (fault_in r v))) ∙ value_later f r rest v (fault_in r v))
    step_later (In_type ts ∷ rest) = map_twice type_event (place_of_types p rest) (with_later gs) (type_step l (record { offset = p.offset; stop = p.stop; symbols = ts; nodes = p.nodes }))
    step_later (Cell_due row column k inner ∷ rest) = map_twice (cell_event row column) (place_of_cells row column p rest) (with_later gs) (cell_step l (record { offset = p.offset; symbols = Value_of k inner 0 p.stop ∷ [] }))
    step_later (In_cell row column cs ∷ rest) = map_twice (cell_event row column) (place_of_cells row column p rest) (with_later gs) (cell_step l (record { offset = p.offset; symbols = cs }))
    step_later (Extra ∷ rest) = refl

  module _ (held : Given) (gs : Gifts) where
    abbrev other : Place
    other = record p { given = held; gifts = gs }

    header_unseen : (h : Heading) → map_step (λ e. e) unseen (header_step other h) ≡ map_step (λ e. e) unseen (header_step p h)
    header_unseen (Err e) = refl
    header_unseen (Ok h) = refl

    value_unseen : (f : Field) (r : Role) (rest : List Symbol) (v : FieldValue) (o : Option Reason) → map_step (λ e. e) unseen (value_step l.types other f r rest v o) ≡ map_step (λ e. e) unseen (value_step l.types p f r rest v o)
    value_unseen f r rest v None = refl
    value_unseen f r rest v (Some why) = refl

    early_unseen : (t : Bool) → map_step (λ e. e) unseen (cond t (Refuses (p.offset, StreamTooLong)) (Takes 9 (λ b. header_step other (heading b)))) ≡ map_step (λ e. e) unseen (cond t (Refuses (p.offset, StreamTooLong)) (Takes 9 (λ b. header_step p (heading b))))
    early_unseen true = refl
    early_unseen false = λ i. Takes 9 (λ b. header_unseen (heading b) i)

    -- a step reads the same bytes, whatever is given
    step_unseen : (ss : List Symbol) → map_step (λ e. e) unseen (step_at l other ss) ≡ map_step (λ e. e) unseen (step_at l p ss)
    step_unseen [] = refl
    step_unseen (Stream ∷ rest) = early_unseen (ltb (2 ^ 63) p.offset)
    step_unseen (In f n r ∷ rest) = map_after unseen unseen p.offset (field_of n (limit_of l n) (p.stop - p.offset)) (λ v. value_step l.types other f r rest v (fault_in r v)) (λ v. value_step l.types p f r rest v (fault_in r v)) (λ v. value_unseen f r rest v (fault_in r v))
    step_unseen (In_type ts ∷ rest) =
        let one = type_step l (record { offset = p.offset; stop = p.stop; symbols = ts; nodes = p.nodes }) in
        sym (map_twice type_event (place_of_types other rest) unseen one) ∙ map_twice type_event (place_of_types p rest) unseen one
    step_unseen (Cell_due row column k inner ∷ rest) =
        let one = cell_step l (record { offset = p.offset; symbols = Value_of k inner 0 p.stop ∷ [] }) in
        sym (map_twice (cell_event row column) (place_of_cells row column other rest) unseen one) ∙ map_twice (cell_event row column) (place_of_cells row column p rest) unseen one
    step_unseen (In_cell row column cs ∷ rest) =
        let one = cell_step l (record { offset = p.offset; symbols = cs }) in
        sym (map_twice (cell_event row column) (place_of_cells row column other rest) unseen one) ∙ map_twice (cell_event row column) (place_of_cells row column p rest) unseen one
    step_unseen (Extra ∷ rest) = refl

    -- so what it refuses is the same
    pub refused_same : (ss : List Symbol) (bytes : List ℕ) (fault : ℕ × Reason) → says (step_at l p ss) 0 bytes ≡ Bad fault → says (step_at l other ss) 0 bytes ≡ Bad fault
    refused_same ss bytes fault is =
        let same : map_said (λ e. e) unseen (says (step_at l other ss) 0 bytes) ≡ map_said (λ e. e) unseen (says (step_at l p ss) 0 bytes) = sym (says_map (λ e. e) unseen (step_at l other ss) 0 bytes) ∙ ap (λ r. says r 0 bytes) (step_unseen ss) ∙ says_map (λ e. e) unseen (step_at l p ss) 0 bytes in
        bad_seen unseen (says (step_at l other ss) 0 bytes) fault (same ∙ ap (map_said (λ e. e) unseen) is)

-- ---- one more gift

got_seen : (g : Place → Place) (d : Said (Emitted Event Place) (ℕ × Reason)) (x : Emitted Event Place) (k : ℕ) → d ≡ Got x k → map_said (λ e. e) g d ≡ Got (record { at = x.at; event = x.event; after = λ u. g (x.after u) }) k
got_seen g d x k is = ap (map_said (λ e. e) g) is

after_of : (x y : Emitted Event Place) (k : ℕ) → ◌≡◌ {A = Said (Emitted Event Place) (ℕ × Reason)} (Got x k) (Got y k) → x.after k ≡ y.after k
after_of x y k is = let same : x ≡ y = cc in ap (λ (z : Emitted Event Place). z.after k) same

module _ (l : Rules) where
  -- what a step says of a place with other gifts to come
  says_later : (p : Place) (gs : Gifts) (bytes : List ℕ) (x : Emitted Event Place) (k : ℕ) → says (step l p) 0 bytes ≡ Got x k
      → says (step_at l (with_later gs (settled p)) p.symbols) 0 bytes ≡ Got (record { at = x.at; event = x.event; after = λ u. with_later gs (x.after u) }) k
  says_later p gs bytes x k is =
      ap (λ r. says r 0 bytes) (step_later l (settled p) gs p.symbols)
      ∙ says_map (λ e. e) (with_later gs) (step l p) 0 bytes
      ∙ got_seen (with_later gs) (says (step l p) 0 bytes) x k is

  -- after a step there is still to come what was
  still_later : (p : Place) (bytes : List ℕ) (x : Emitted Event Place) (k : ℕ) → says (step l p) 0 bytes ≡ Got x k → (x.after k).gifts ≡ gifts_later p.gifts
  still_later p bytes x k is = ap (λ (z : Place). z.gifts) (after_of x (record { at = x.at; event = x.event; after = λ u. with_later (gifts_later p.gifts) (x.after u) }) k (sym is ∙ says_later p (gifts_later p.gifts) bytes x k is))

  pub runs_more : (x : Gift) (p q : Place) (bytes rest : List ℕ) (es : List (ℕ × Event)) → Reads l p bytes es q rest → Reads l (record p { gifts = with_gift (length es) x p.gifts }) bytes es (record q { gifts = with_gift 0 x q.gifts }) rest
  runs_more x p q bytes rest [] r = (ap (λ (z : Place). record z { gifts = with_gift 0 x z.gifts }) r.0, r.1)
  runs_more x p q bytes rest (e ∷ es) r =
      let n = length es in
      let gs = with_gift n x (gifts_later p.gifts) in
      let one : Emitted Event Place = record { at = e.0; event = e.1; after = r.1 } in
      let more : Place = record p { gifts = with_gift (suc n) x p.gifts } in
      let same : says (step l more) 0 bytes ≡ says (step_at l (with_later gs (settled p)) p.symbols) 0 bytes = λ i. says (step_at l (settled_later n x p i) p.symbols) 0 bytes in
      let carried = still_later p bytes one r.0 r.2 in
      let next = runs_more x (r.1 r.0) q (drop r.0 bytes) rest es r.3 in
      let there : record (r.1 r.0) { gifts = with_gift n x (r.1 r.0).gifts } ≡ with_later gs (r.1 r.0) = λ i. record (r.1 r.0) { gifts = with_gift n x (carried i) } in
      (r.0, λ u. with_later gs (r.1 u), same ∙ says_later p gs bytes one r.0 r.2, subst (λ (z : Place). Reads l z (drop r.0 bytes) es (record q { gifts = with_gift 0 x q.gifts }) rest) there next)

-- ---- one more gift to a decoder

module _ (x : Gift) (gifts : Gifts) (d : StreamState) (table : Option Table) (s : List ℕ) (es : List (ℕ × Event)) where
  -- the decoder once the gift was made
  abbrev new : StreamState
  new = with_given d table (held_after x d.place.given)

  pub one_more : (o : Option Refusal) → AfterBy o gifts d s es → AfterBy o (with_gift (length es) x gifts) new s es
  one_more None a = record {
    place = record a.place { gifts = with_gift 0 x a.place.gifts };
    bytes = a.bytes;
    pending = a.pending;
    read = runs_more d.rules x (start_with gifts) a.place s a.bytes es a.read;
    here = ap (λ (z : Place). record z { given = held_after x z.given }) a.here ∙ settled_more x a.place;
    all = later_same x a.place.gifts ∙ a.all;
    count = a.count;
    frame = a.frame;
    due = a.due;
  }
  one_more (Some r) a =
      let given = held_after_all (gifts_now (with_gift 0 x a.place.gifts)) a.place.given in
      record {
        place = record a.place { gifts = with_gift 0 x a.place.gifts };
        bytes = a.bytes;
        read = runs_more d.rules x (start_with gifts) a.place s a.bytes es a.read;
        looked = a.looked;
        refused = refused_same d.rules (settled a.place) given (gifts_later (with_gift 0 x a.place.gifts)) a.place.symbols (a.bytes ++ a.looked) (r.at, r.why) a.refused;
        all = later_same x a.place.gifts ∙ a.all;
        nodes = a.nodes;
        given = ap (held_after x) a.given ∙ sym (held_more (gifts_now a.place.gifts) x (retired a.place.given)) ∙ ap (λ (xs : List Gift). held_after_all xs (retired a.place.given)) (sym (now_more x a.place.gifts));
      }
