-- Where reading stops, in a container and inside a value.
use Rattle.std.proofs.Common.{◌≡◌, ℕ, ◌+◌, ◌-◌, ◌<◌, ◌≤◌, ◌^◌, ◌||◌, Bool, true, false, List, [], ◌∷◌, ◌++◌, length, take, drop, Some, None, refl, sym, ap, ◌∙◌, append_assoc, subst, arith}
use Rattle.std.specs.Int.{w32}
use Rattle.std.proofs.Math.Seq.{take-append-add}
use Rattle.std.proofs.lemmas.Bool.{lt-ltb, le-ltb, ne_eqb}
use Rattle.std.proofs.lemmas.List.{length-append, length-drop, length-take-le, take-append-drop, take_at, drop_at}
use Rattle.cqlp_note.specs.declared.refusal.Refusal.{Refusal}
use Rattle.cqlp_note.specs.declared.refusal.Reason.{Reason}
use Rattle.cqlp_note.specs.declared.refusal.Reason.TheVariants.{Overrun, BadCount}
use Rattle.cqlp_note.specs.declared.field.Notation.TheVariants as notation
use Rattle.cqlp_note.specs.Field.{Count}
use Rattle.cqlp_note.specs.Limits.{Rules}
use Rattle.cqlp_note.specs.Reader.{Bad, Reader, number_of, says}
use Rattle.cqlp_note.specs.Spelling.{IsNumber, Spells}
use Rattle.cqlp_note.specs.Step.{Step, Runs}
use Rattle.cqlp_note.proofs.Readers.{says_stays}
use Rattle.cqlp_note.proofs.Runs.{runs_stay, runs_then, stays_bad}
use Rattle.cqlp_note.proofs.Spelled.{positive}
use Rattle.cqlp_kind.specs.declared.kind.Kind.{Kind}
use Rattle.cqlp_kind.specs.Types.{Types}
use Rattle.cqlp_kind.specs.CellStep.{CellEvent, CellPlace, CellSymbol, cell_step, content_step, counted_step, sized_step}
use Rattle.cqlp_value.specs.Values.{IsBytes}
use Rattle.cqlp_value.proofs.ReadBack.{Events}
use Rattle.cqlp_cell.specs.Sizes.{is_counted}
use Rattle.cqlp_cell.proofs.Sizing.{counted_content}
use Rattle.cqlp_read_value.specs.declared.error.ReadError.{ReadError}
use Rattle.cqlp_read_value.specs.declared.error.ReadError.TheVariants as error
use Rattle.cqlp_read_value.specs.Reading.{IsRefused, IsStopped, WantsMemory, take_memory, takes_memory}
use Rattle.cqlp_read_value.specs.Fronts.{ContentStops, FrontStops, value_at}

abbrev place : (at : ℕ) → List CellSymbol → CellPlace
place at symbols = record { offset = at; symbols = symbols }

abbrev pub refusal : (at : ℕ) → Reason → ReadError
refusal at why = error.Refused (record { at = at; why = why })

-- ---- what is said of a number

pub number_says : {A F : Type 0} (fault : F) (room m : ℕ) (f : ℕ → Reader A F) (taken : ℕ) (head more : List ℕ) → IsNumber 4 w32 m head → 4 ≤ room → says (number_of fault 4 w32 room f) taken (head ++ more) ≡ says (f m) (taken + 4) more
unfolding number_of
number_says fault room m f taken head more is le =
    let enough : 4 ≤ length (head ++ more) = omega (arith, length-append head more, is.long) in
    rw (le-ltb room 4 le, le-ltb (length (head ++ more)) 4 enough, take_at head more 4 is.long, drop_at head more 4 is.long, is.is) refl

pub number_lacks : {A F : Type 0} (fault : F) (room : ℕ) (f : ℕ → Reader A F) (taken : ℕ) (bytes : List ℕ) → room < 4 → says (number_of fault 4 w32 room f) taken bytes ≡ Bad fault
unfolding number_of
number_lacks fault room f taken bytes lt = rw (lt-ltb room 4 lt) refl

-- ---- what takes memory

either_takes : (a b c : Bool) → (a || b) ≡ true → (b ≡ true → c ≡ true) → (a || c) ≡ true
either_takes true b c e f = refl
either_takes false b c e f = f e

or_right : (a b : Bool) → b ≡ true → (a || b) ≡ true
or_right true b e = refl
or_right false b e = e

pub take_behind : (es fs : Events) → take_memory fs ≡ true → take_memory (es ++ fs) ≡ true
take_behind [] fs e = e
take_behind (x ∷ es) fs e = or_right (takes_memory x.1) (take_memory (es ++ fs)) (take_behind es fs e)

neither : (a b c : Bool) → (a || b) ≡ false → (b ≡ false → c ≡ false) → (a || c) ≡ false
neither true b c e f = absurd cc
neither false b c e f = f e

pub take_neither : (es fs : Events) → take_memory es ≡ false → take_memory fs ≡ false → take_memory (es ++ fs) ≡ false
take_neither [] fs e f = f
take_neither (x ∷ es) fs e f = neither (takes_memory x.1) (take_memory es) (take_memory (es ++ fs)) e (λ same. take_neither es fs same f)

pub take_before : (es fs : Events) → take_memory es ≡ true → take_memory (es ++ fs) ≡ true
take_before [] fs e = absurd cc
take_before (x ∷ es) fs e = either_takes (takes_memory x.1) (take_memory es) (take_memory (es ++ fs)) e (take_before es fs)

module _ (l : Rules) where
  abbrev pub Said : CellPlace → List ℕ → Refusal → Type 0
  Said p b r = says (cell_step l p) 0 b ≡ Bad (r.at, r.why)

  -- ---- refusals by steps

  now : (p : CellPlace) (b : List ℕ) (r : Refusal) → Said p b r → IsRefused l p b r
  now p b r s = record { events = []; there = p; left = b; runs = (refl, refl); refused = s }

  pub refused_now : (p : CellPlace) (b : List ℕ) (at : ℕ) (why : Reason) → says (cell_step l p) 0 b ≡ Bad (at, why) → IsStopped l p b (refusal at why)
  refused_now p b at why s = now p b (record { at = at; why = why }) s

  pub refused_stays : (p : CellPlace) (b t : List ℕ) (r : ReadError) → IsStopped l p b r → IsStopped l p (b ++ t) r
  refused_stays p b t error.Unformed h = absurd h
  refused_stays p b t error.NoMemory h = record {
    events = h.events;
    there = h.there;
    left = h.left ++ t;
    runs = runs_stay (cell_step l) p b t h.events h.there h.left h.runs;
    takes = h.takes;
  }
  refused_stays p b t (error.Refused r) h = record {
    events = h.events;
    there = h.there;
    left = h.left ++ t;
    runs = runs_stay (cell_step l) p b t h.events h.there h.left h.runs;
    refused = stays_bad (r.at, r.why) (says_stays (cell_step l h.there) 0 h.left t) h.refused;
  }

  pub refused_then : (p q : CellPlace) (b left : List ℕ) (es : Events) (r : ReadError) → Runs (cell_step l) p b es q left → IsStopped l q left r → IsStopped l p b r
  refused_then p q b left es error.Unformed a h = absurd h
  refused_then p q b left es error.NoMemory a h = record {
    events = es ++ h.events;
    there = h.there;
    left = h.left;
    runs = runs_then (cell_step l) p q h.there b left h.left es h.events a h.runs;
    takes = take_behind es h.events h.takes;
  }
  refused_then p q b left es (error.Refused r) a h = record {
    events = es ++ h.events;
    there = h.there;
    left = h.left;
    runs = runs_then (cell_step l) p q h.there b left h.left es h.events a h.runs;
    refused = h.refused;
  }

  step_as : (p q : CellPlace) (b : List ℕ) → cell_step l p ≡ cell_step l q → says (cell_step l p) 0 b ≡ says (cell_step l q) 0 b
  step_as p q b e = ap (λ (s : Step CellEvent CellPlace). says s 0 b) e

  refused_from : (p q : CellPlace) (b : List ℕ) (es : Events) (there : CellPlace) (left : List ℕ) (r : Refusal) → cell_step l p ≡ cell_step l q → Runs (cell_step l) p b es there left → Said there left r → IsRefused l q b r
  refused_from p q b [] there left r e a s =
      let is = sym a.0 in
      let same = sym a.1 in
      now q b r (sym (step_as p q b e) ∙ (λ i. says (cell_step l (is i)) 0 (same i)) ∙ s)
  refused_from p q b (x ∷ es) there left r e a s = record { events = x ∷ es; there = there; left = left; runs = (a.0, a.1, sym (step_as p q b e) ∙ a.2, a.3); refused = s }

  wanted_from : (p q : CellPlace) (b : List ℕ) (es : Events) (there : CellPlace) (left : List ℕ) → cell_step l p ≡ cell_step l q → Runs (cell_step l) p b es there left → take_memory es ≡ true → WantsMemory l q b
  wanted_from p q b [] there left e a takes = absurd cc
  wanted_from p q b (x ∷ es) there left e a takes = record { events = x ∷ es; there = there; left = left; runs = (a.0, a.1, sym (step_as p q b e) ∙ a.2, a.3); takes = takes }

  pub refused_as : (p q : CellPlace) (b : List ℕ) (r : ReadError) → cell_step l p ≡ cell_step l q → IsStopped l p b r → IsStopped l q b r
  refused_as p q b (error.Refused r) e h = refused_from p q b h.events h.there h.left r e h.runs h.refused
  refused_as p q b error.NoMemory e h = wanted_from p q b h.events h.there h.left e h.runs h.takes
  refused_as p q b error.Unformed e h = absurd h

  pub runs_as : (p p' q : CellPlace) (b : List ℕ) (es : Events) → 0 < length b → cell_step l p ≡ cell_step l p' → Runs (cell_step l) p b es q [] → Runs (cell_step l) p' b es q []
  runs_as p p' q b [] some e a = let none : length b ≡ 0 = ap length (sym a.1) in absurd (omega (arith, none))
  runs_as p p' q b (x ∷ es) some e a = (a.0, a.1, sym (step_as p p' b e) ∙ a.2, a.3)

  -- ---- a value in a container that ends with these bytes

  module _ (at : ℕ) (k : Kind) (inner : Types) (level : ℕ) (rest : List CellSymbol) where
    abbrev pub here : List ℕ → CellPlace
    here b = value_at at k inner b level rest

    value_says : (n : ℕ) (head more : List ℕ) → IsNumber 4 w32 n head → says (cell_step l (here (head ++ more))) 0 (head ++ more) ≡ says (sized_step l (here (head ++ more)) rest k inner level (at + length (head ++ more) - at) n) 4 more
    value_says n head more is = number_says (at, Overrun) (at + length (head ++ more) - at) n (sized_step l (here (head ++ more)) rest k inner level (at + length (head ++ more) - at)) 0 head more is (omega (arith, length-append head more, is.long))

    pub content_says : (c head back : List ℕ) → IsNumber 4 w32 (length c) head → length c < 2 ^ 31 → 0 < length c → says (cell_step l (here (head ++ (c ++ back)))) 0 (head ++ (c ++ back)) ≡ says (content_step l (here (head ++ (c ++ back))) rest level k inner (length c)) 4 (c ++ back)
    content_says c head back is low some =
        let b = head ++ (c ++ back) in
        let room : 4 + length c ≤ at + length b - at = omega (arith, length-append head (c ++ back), length-append c back, is.long) in
        value_says (length c) head (c ++ back) is ∙ rw (positive (length c) low, ne_eqb (length c) 0 (λ e. omega (arith, e)), le-ltb (at + length b - at) (4 + length c) room) refl

  pub front_short : (at : ℕ) (k : Kind) (inner : Types) (b : List ℕ) → length b < 4 → FrontStops l at k inner b (refusal at Overrun)
  front_short at k inner b lt level rest =
      refused_now (value_at at k inner b level rest) b at Overrun (number_lacks (at, Overrun) (at + length b - at) (sized_step l (value_at at k inner b level rest) rest k inner level (at + length b - at)) 0 b (omega arith))

  pub front_long : (at n : ℕ) (k : Kind) (inner : Types) (head more : List ℕ) → IsNumber 4 w32 n head → n < 2 ^ 31 → 0 < n → length more < n → FrontStops l at k inner (head ++ more) (refusal at Overrun)
  front_long at n k inner head more is low some lt level rest =
      let b = head ++ more in
      let room : at + length b - at < 4 + n = omega (arith, length-append head more, is.long) in
      refused_now (value_at at k inner b level rest) b at Overrun
      (value_says at k inner level rest n head more is ∙ rw (positive n low, ne_eqb n 0 (λ e. omega (arith, e)), lt-ltb (at + length b - at) (4 + n) room) refl)

  -- a content that is refused at once, by its value's step
  pub content_now : (at m : ℕ) (why : Reason) (k : Kind) (inner : Types) (c : List ℕ)
      → ((p : CellPlace) (rest : List CellSymbol) (level : ℕ) (back : List ℕ) → p.offset ≡ at → says (content_step l p rest level k inner (length c)) 4 (c ++ back) ≡ Bad (m, why)) → ContentStops l at k inner c (refusal m why)
  unfolding Spells
  content_now at m why k inner c f front back some s level rest =
      let head = s.0.head in
      let b = head ++ (c ++ back) in
      let whole : b ≡ front ++ back = sym (append_assoc head c back) ∙ ap (λ (x : List ℕ). x ++ back) (sym s.0.parts) in
      subst (λ (x : List ℕ). IsStopped l (value_at at k inner x level rest) x (refusal m why)) whole
      (refused_now (value_at at k inner b level rest) b m why (content_says at k inner level rest c head back s.0.counts s.1 some ∙ f (value_at at k inner b level rest) rest level back refl))

  pub front_past : (at n : ℕ) (k : Kind) (inner : Types) (b : List ℕ) → IsNumber 4 w32 n (take 4 b) → n < 2 ^ 31 → length b - 4 < n → FrontStops l at k inner b (refusal at Overrun)
  front_past at n k inner b is low lt =
      subst (λ (x : List ℕ). FrontStops l at k inner x (refusal at Overrun)) (take-append-drop 4 b)
      (front_long at n k inner (take 4 b) (drop 4 b) is low (omega arith) (omega (arith, length-drop 4 b)))

  -- ---- counts

  count_now : (at : ℕ) (k : Kind) (ts : Types) (c : List ℕ) (why : Reason) → is_counted k ≡ true
      → ((p : CellPlace) (rest : List CellSymbol) (level : ℕ) (back : List ℕ) → p.offset ≡ at → says (counted_step p rest level k ts (length c)) 4 (c ++ back) ≡ Bad (at + 4, why)) → ContentStops l at k ts c (refusal (at + 4) why)
  count_now at k ts c why counted f = content_now at (at + 4) why k ts c (λ p rest level back here. ap (λ (s : Step CellEvent CellPlace). says s 4 (c ++ back)) ((counted_content l (length c) k counted).is p rest ts level) ∙ f p rest level back here)

  pub count_short : (at : ℕ) (k : Kind) (ts : Types) (c : List ℕ) → is_counted k ≡ true → length c < 4 → ContentStops l at k ts c (refusal (at + 4) Overrun)
  count_short at k ts c counted lt = count_now at k ts c Overrun counted (λ p rest level back here.
      number_lacks (p.offset + 4, Overrun) (length c) _ 4 (c ++ back) lt ∙ ap (λ (n : ℕ). Bad (n + 4, Overrun)) here)

  pub count_negative : (at n : ℕ) (k : Kind) (ts : Types) (c : List ℕ) → is_counted k ≡ true → IsNumber 4 w32 n (take 4 c) → 4 ≤ length c → 2 ^ 31 ≤ n → ContentStops l at k ts c (refusal (at + 4) BadCount)
  count_negative at n k ts c counted is le high = count_now at k ts c BadCount counted (λ p rest level back here.
      let whole : take 4 c ++ (drop 4 c ++ back) ≡ c ++ back = sym (append_assoc (take 4 c) (drop 4 c) back) ∙ ap (λ (x : List ℕ). x ++ back) (take-append-drop 4 c) in
      ap (λ (x : List ℕ). says (counted_step p rest level k ts (length c)) 4 x) (sym whole)
      ∙ number_says (p.offset + 4, Overrun) (length c) n _ 4 (take 4 c) (drop 4 c ++ back) is le
      ∙ rw (lt-ltb (2 ^ 31 - 1) n (omega arith)) (ap (λ (m : ℕ). Bad (m + 4, BadCount)) here))

pub null_front : (n : ℕ) (front : List ℕ) → IsNumber 4 w32 n front → 2 ^ 31 ≤ n → IsBytes None front
unfolding Spells
null_front n front is high = (n, is, high)

pub content_front : (n : ℕ) (b : List ℕ) → IsNumber 4 w32 n (take 4 b) → n < 2 ^ 31 → 4 + n ≤ length b → let c = take (4 + n - 4) (drop 4 b) in (4 + length c ≤ length b) × IsBytes (Some c) (take (4 + length c) b)
unfolding Spells
content_front n b is low le =
    let c = take (4 + n - 4) (drop 4 b) in
    let size : 4 + n - 4 ≡ n = omega arith in
    let long : length c ≡ n = ap (λ (m : ℕ). length (take m (drop 4 b))) size ∙ length-take-le n (drop 4 b) (omega (arith, length-drop 4 b)) in
    let four : length (take 4 b) ≡ 4 = is.long in
    let same : 4 + length c ≡ length (take 4 b) + n = omega (arith, four, long) in
    let parts : take (4 + length c) b ≡ take 4 b ++ c =
    ap (λ (x : List ℕ). take (4 + length c) x) (sym (take-append-drop 4 b)) ∙ ap (λ (m : ℕ). take m (take 4 b ++ drop 4 b)) same ∙ take-append-add (take 4 b) (drop 4 b) n ∙ ap (λ (m : ℕ). take 4 b ++ take m (drop 4 b)) (sym size) in
    (omega (arith, long), (record { head = take 4 b; counts = record { long = is.long; is = is.is ∙ sym long }; parts = parts }, omega (arith, long)))

pub count_front : (n : ℕ) (c : List ℕ) → IsNumber 4 w32 n (take 4 c) → n < 2 ^ 31 → Spells notation.Count32 (Count n) (take 4 c)
unfolding Spells
count_front n c is low = (is, low)
