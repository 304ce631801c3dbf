-- From one place, one input and one batch of columns there is one answer.
use Rattle.std.proofs.Common.{◌≡◌, ℕ, zero, suc, ◌+◌, ◌≤◌, ◌<◌, List, [], ◌∷◌, ◌++◌, length, take, drop, refl, sym, ap, subst, ◌∙◌, append_assoc, inl, inr, arith}
use Rattle.std.specs.Prelude.{Option, Some, None, Bool, true, false, ◌⊎◌, ◌==◌, ◌&&◌, if◌then◌else◌, is_none, nat_lt, not}
use Rattle.std.specs.Ptr.{Ptr}
use Rattle.std.proofs.lemmas.Bool.{and_from, and_parts, cases_lt, eq-eqb, eqb-true}
use Rattle.std.proofs.lemmas.List.{append-nil, append_cancel_left, length-append, length-drop, length-take-le, take-append-drop}
use Rattle.cqlp_note.specs.declared.refusal.Refusal.{Refusal}
use Rattle.cqlp_note.specs.Limits.{Rules}
use Rattle.cqlp_note.proofs.Runs.{runs_compare, runs_stay}
use Rattle.cqlp_decode.specs.Reading.{Event, Gifts, Place, Verdict, Waits, Refused, Reads, Says, start_with, step}
use Rattle.cqlp_decode.specs.Progress.{StreamState}
use Rattle.cqlp_decode.specs.Streams.{AfterBy, AfterGifts, Decoding, state}
use Rattle.cqlp_decode.proofs.Gets.{refuses_new}
use Rattle.cqlp_laws.proofs.OneAnswer.{no_further, place_once}
use Rattle.cqlp_laws.proofs.Whole.{says_once}
use Rattle.cqlp_columns.specs.declared.columns.BatchLimits.{BatchLimits}
use Rattle.cqlp_columns.specs.declared.columns.TakeError.{TakeError}
use Rattle.cqlp_columns.specs.declared.columns.TakeError.TheVariants as fault
use Rattle.cqlp_columns.specs.Arrays.{Site}
use Rattle.cqlp_columns.specs.Batches.{Batch, HasTaken, batch_of, fault_among, has_room, is_full}
use Rattle.cqlp_columns.specs.Findings.{Finding, Nothing, Part, Whole, found_in}
use Rattle.cqlp_columns.specs.declared.filled.Stop.{Stop as Why}
use Rattle.cqlp_columns.specs.declared.filled.Stop.TheVariants as why
use Rattle.cqlp_columns.specs.Filling.{EndsAtEvent, IsRead, StopsBy, TakesCells}
use Rattle.cqlp_columns.specs.Sorting.{takes}
use Rattle.cqlp_c.specs.declared.course.CqlpBegun.{CqlpBegun}
use Rattle.cqlp_c.specs.declared.event.CqlpEvent.{CqlpEvent}
use Rattle.cqlp_c.specs.Batches.{buffer_in}
use Rattle.cqlp_c.specs.Columns.{FillsColumns, PutsOther, batch_at, begun_at, placed_written}
use Rattle.cqlp_c.specs.Course.{batch_from, gone_on}
use Rattle.cqlp_c.specs.declared.batch.Batch.{Batch as FromC}
use Rattle.cqlp_skip.specs.Stretches.{stream_offset as written_there}
use denote.RawPtr.{◌+ₚ◌}
use Rattle.cqlp_c.specs.ColumnsLaws.{IsOneAnswerOfColumns}
use Rattle.cqlp_c.specs.Events.{written_at}
use Rattle.cqlp_c.specs.Laws.{unplaced}

-- ---- lists

-- the longer of two beginnings of one list goes on after the shorter
cut_one : {X : Type 0} (xs ys t z : List X) → ys ++ t ≡ xs ++ z → length xs < length ys → (y : X) × (rest : List X) × (ys ≡ xs ++ y ∷ rest) × (z ≡ y ∷ (rest ++ t))
cut_one [] [] t z same lt = absurd (omega (arith, lt))
cut_one [] (y ∷ ys) t z same lt = (y, ys, refl, sym same)
cut_one (x ∷ xs) [] t z same lt = absurd (omega (arith, lt))
cut_one {X = X} (x ∷ xs) (y ∷ ys) t z same lt =
    let head : y ≡ x = cc in
    let tail : ys ++ t ≡ xs ++ z = cc in
    let r = cut_one xs ys t z tail (omega (arith, lt)) in
    (r.0, r.1, λ i. head i ∷ r.2 i, r.3)

same_cut : {X : Type 0} (xs ys t z : List X) → ys ++ t ≡ xs ++ z → length ys ≡ length xs → (ys ≡ xs) × (t ≡ z)
same_cut [] [] t z same long = (refl, same)
same_cut [] (y ∷ ys) t z same long = absurd (omega (arith, long))
same_cut (x ∷ xs) [] t z same long = absurd (omega (arith, long))
same_cut (x ∷ xs) (y ∷ ys) t z same long =
    let head : y ≡ x = cc in
    let tail : ys ++ t ≡ xs ++ z = cc in
    let r = same_cut xs ys t z tail (omega (arith, long)) in
    (λ i. head i ∷ r.0 i, r.1)

same_item : {X : Type 0} (x y : X) (xs ys : List X) → x ∷ xs ≡ y ∷ ys → x ≡ y
same_item x y xs ys same = cc

-- ---- columns

abbrev events_in : List (ℕ × Event) → List Event
events_in [] = []
events_in (e ∷ es) = e.1 ∷ events_in es

taken_all : (sites : List Site) (a b : Batch) (had : List Event) (cells : List (ℕ × Event)) → HasTaken a.limits sites had a → TakesCells a cells b → b ≡ batch_of a.limits sites (had ++ events_in cells)
taken_all sites a b had [] is t = t ∙ is ∙ ap (batch_of a.limits sites) (sym (append-nil had))
taken_all sites a b had (e ∷ es) is t =
    let next : t.0 ≡ batch_of a.limits sites (had ++ e.1 ∷ []) = t.1.taken sites had is in
    let limits : t.0.limits ≡ a.limits = ap (λ (z : Batch). z.limits) next in
    let more = taken_all sites t.0 b (had ++ e.1 ∷ []) es (subst (λ (l : BatchLimits). t.0 ≡ batch_of l sites (had ++ e.1 ∷ [])) (sym limits) next) t.2 in
    more ∙ ap (λ (l : BatchLimits). batch_of l sites ((had ++ e.1 ∷ []) ++ events_in es)) limits ∙ ap (batch_of a.limits sites) (append_assoc had (e.1 ∷ []) (events_in es))

split_at : (a c : Batch) (xs : List (ℕ × Event)) (y : ℕ × Event) (rest : List (ℕ × Event)) → TakesCells a (xs ++ y ∷ rest) c → (mid : Batch) × TakesCells a xs mid × (takes mid (found_in y.1) ≡ true)
split_at a c [] y rest t = (a, refl, t.1.free)
split_at a c (x ∷ xs) y rest t = let r = split_at t.0 c xs y rest t.2 in (r.0, (t.0, t.1, r.1), r.2)

free_parts : (d b : Bool) (o : Option TakeError) → is_none (if d then (if b then Some fault.Full else o) else Some fault.OutOfOrder) ≡ true → (d ≡ true) × (b ≡ false)
free_parts true true o free = absurd cc
free_parts true false o free = (refl, refl)
free_parts false b o free = absurd cc

not_both : (x : Bool) → x ≡ true → x ≡ false → ⊥
not_both true a b = absurd cc
not_both false a b = absurd cc

-- full columns take no cell
full_takes : (b : Batch) (f : Finding) → is_full b ≡ true → takes b f ≡ true → ⊥
full_takes b Nothing full free = absurd cc
full_takes b Part full free = absurd cc
full_takes b (Whole k c) full free =
    let none = not (has_room b.limits b.columns) in
    let p = free_parts (k == b.next) ((k == 0) && none) (fault_among b.limits k c b.columns) free in
    let q = and_parts (b.next == 0) none full in
    not_both ((k == 0) && none) (and_from (k == 0) none (eq-eqb k 0 (eqb-true k b.next p.0 ∙ eqb-true b.next 0 q.0)) q.1) p.1

-- what C gets of at most one event
abbrev IsWrittenOf : (Got : CqlpEvent → ℕ → Event → CqlpEvent → Type 0) → (was written : CqlpEvent) → List (ℕ × Event) → Type 0
IsWrittenOf Got was written [] = written ≡ was
IsWrittenOf Got was written (x ∷ xs) = Got was x.0 x.1 written

-- ---- the reading

module _ (gifts : Gifts) (l : Rules) (s input : List ℕ) (es : List (ℕ × Event)) where
  -- the reading of all of the input goes through these events
  abbrev Through : List (ℕ × Event) → Type 0
  Through written = (q : Place) × (rest : List ℕ) × Reads l (start_with gifts) (s ++ input) (es ++ written) q rest

  stay : (used : ℕ) (written : List (ℕ × Event)) (p : Place) (b : List ℕ) → Reads l (start_with gifts) (s ++ take used input) (es ++ written) p b → Reads l (start_with gifts) (s ++ input) (es ++ written) p (b ++ drop used input)
  stay used written p b run =
      let there : (s ++ take used input) ++ drop used input ≡ s ++ input = append_assoc s (take used input) (drop used input) ∙ ap (λ (z : List ℕ). s ++ z) (take-append-drop used input) in
      subst (λ (z : List ℕ). Reads l (start_with gifts) z (es ++ written) p (b ++ drop used input)) there (runs_stay (step l) (start_with gifts) (s ++ take used input) (drop used input) (es ++ written) p b run)

  -- where the reading is after these events, it has at least what was not used
  record Reached (used : ℕ) (written : List (ℕ × Event)) : Type 0 where
    place : Place
    rest : List ℕ
    run : Reads l (start_with gifts) (s ++ input) (es ++ written) place rest
    least : length input ≤ length rest + used

  reached_by : (o : Option Refusal) (d : StreamState) (used : ℕ) (written : List (ℕ × Event)) → d.rules ≡ l → AfterBy o gifts d (s ++ take used input) (es ++ written) → Reached used written
  reached_by None d used written is a = record { place = a.place; rest = a.bytes ++ drop used input; run = stay used written a.place a.bytes (rw is at a.read); least = omega (arith, length-append a.bytes (drop used input), length-drop used input) }
  reached_by (Some r) d used written is a = record { place = a.place; rest = a.bytes ++ drop used input; run = stay used written a.place a.bytes (rw is at a.read); least = omega (arith, length-append a.bytes (drop used input), length-drop used input) }

  -- the bytes used end with the last of these events, or there are none
  abbrev Stops : (used : ℕ) → (written : List (ℕ × Event)) → Type 0
  Stops used written = (r : Reached used written) × ((used ≡ 0) ⊎ (length r.rest + used ≡ length input))

  stops_there : (used : ℕ) (written : List (ℕ × Event)) → used ≤ length input → Reached used written → EndsAtEvent gifts l s (take used input) (es ++ written) → Stops used written
  stops_there used written within r (inl none) = (r, inl (omega (arith, ap length none, length-take-le used input within)))
  stops_there used written within r (inr run) =
      let long : length (drop used input) + used ≡ length input = omega (arith, within, length-drop used input) in
      (record { place = run.0; rest = drop used input; run = stay used written run.0 [] run.1; least = omega (arith, long) }, inr long)

  used_once : (used used' : ℕ) (written : List (ℕ × Event)) → Stops used written → Stops used' written → used' ≡ used
  used_once used used' written x y =
      let same = ap length (place_once gifts l (s ++ input) (es ++ written) x.0.place y.0.place x.0.rest y.0.rest x.0.run y.0.run).1 in
      let a = x.0.least in
      let b = y.0.least in
      elim x.1 [
        | inl p ↦ elim y.1 [
          | inl q ↦ omega (arith, p, q)
          | inr q ↦ omega (arith, p, q, a, b, same)
        ]
        | inr p ↦ elim y.1 [
          | inl q ↦ omega (arith, p, q, a, b, same)
          | inr q ↦ omega (arith, p, q, same)
        ]
      ]

  compare : (t t' : List (ℕ × Event)) → Through t → Through t' → length t ≤ length t' → (more : List (ℕ × Event)) × (t' ≡ t ++ more)
  compare t t' x y le =
      let c = runs_compare (step l) (start_with gifts) x.0 y.0 (s ++ input) x.1 y.1 (es ++ t) (es ++ t') x.2 y.2 (omega (arith, le, length-append es t, length-append es t')) in
      (c.0, append_cancel_left es t' (t ++ c.0) (c.1 ∙ append_assoc es t c.0))

  few : (v : Verdict) (t t' : List (ℕ × Event)) → Says l (start_with gifts) (s ++ input) (es ++ t) v → Through t' → length t' ≤ length t
  few v t t' all y =
      let le = no_further gifts l (s ++ input) (es ++ t) (es ++ t') v y.0 y.1 all y.2 in omega (arith, le, length-append es t, length-append es t')

  module _ (sites : List Site) (had : List Event) (columns : Batch) (has : HasTaken columns.limits sites had columns) where
    -- how a call ended, after these cells and at most one other event
    abbrev EndsBy : (cells other : List (ℕ × Event)) → (c : Batch) → (used : ℕ) → Why → Type 0
    EndsBy cells other c used why.More = (is_full c ≡ false) × (other ≡ []) × (used ≡ length input) × Says l (start_with gifts) (s ++ input) (es ++ cells) Waits
    EndsBy cells other c used why.Full = (is_full c ≡ true) × (other ≡ []) × Stops used cells
    EndsBy cells other c used why.Other = (is_full c ≡ false) × (x : ℕ × Event) × (other ≡ x ∷ []) × (takes c (found_in x.1) ≡ false) × Stops used (cells ++ x ∷ [])
    EndsBy cells other c used why.Failed = ⊥
    EndsBy cells other c used (why.Refused r) = (is_full c ≡ false) × (other ≡ []) × Stops used cells × Says l (start_with gifts) (s ++ input) (es ++ cells) (Refused r.at r.why)

    record Outcome (c : Batch) (used : ℕ) (w : Why) : Type 0 where
      cells : List (ℕ × Event)
      other : List (ℕ × Event)
      taken : TakesCells columns cells c
      through : Through (cells ++ other)
      ends : EndsBy cells other c used w

    same_columns : (c c' : Batch) (cells : List (ℕ × Event)) → TakesCells columns cells c → TakesCells columns cells c' → c' ≡ c
    same_columns c c' cells x y = taken_all sites columns c' had cells has y ∙ sym (taken_all sites columns c had cells has x)

    -- a call that read on took the next event
    goes_on : (c c' : Batch) (used used' : ℕ) (w w' : Why) (x : Outcome c used w) (y : Outcome c' used' w') → length (x.cells ++ x.other) ≤ length (y.cells ++ y.other) → length x.cells < length y.cells
        → (e : ℕ × Event) × (more : List (ℕ × Event)) × (rest : List (ℕ × Event)) × (x.other ++ more ≡ e ∷ rest) × (takes c (found_in e.1) ≡ true)
    goes_on c c' used used' w w' x y le lt =
        let p = compare (x.cells ++ x.other) (y.cells ++ y.other) x.through y.through le in
        let cut = cut_one x.cells y.cells y.other (x.other ++ p.0) (p.1 ∙ append_assoc x.cells x.other p.0) lt in
        let at = split_at columns c' x.cells cut.0 cut.1 (subst (λ (z : List (ℕ × Event)). TakesCells columns z c') cut.2 y.taken) in
        (cut.0, p.0, cut.1 ++ y.other, cut.3, subst (λ (z : Batch). takes z (found_in cut.0.1) ≡ true) (same_columns c at.0 x.cells x.taken at.1) at.2)

    longer_by : (c c' : Batch) (used used' : ℕ) (w' : Why) (y : Outcome c' used' w') (w : Why) (x : Outcome c used w) → EndsBy x.cells x.other c used w → length x.cells < length y.cells → ⊥
    longer_by c c' used used' w' y why.More x e lt = let le = few Waits x.cells (y.cells ++ y.other) e.3 y.through in omega (arith, le, lt, length-append y.cells y.other)
    longer_by c c' used used' w' y (why.Refused r) x e lt = let le = few (Refused r.at r.why) x.cells (y.cells ++ y.other) e.3 y.through in omega (arith, le, lt, length-append y.cells y.other)
    longer_by c c' used used' w' y why.Full x e lt =
        let on = goes_on c c' used used' why.Full w' x y (omega (arith, lt, ap length e.1, length-append x.cells x.other, length-append y.cells y.other)) lt in full_takes c (found_in on.0.1) e.0 on.4
    longer_by c c' used used' w' y why.Other x e lt =
        let on = goes_on c c' used used' why.Other w' x y (omega (arith, lt, ap length e.2, length-append x.cells x.other, length-append y.cells y.other)) lt in
        let same : e.1 ≡ on.0 = same_item e.1 on.0 on.1 on.2 (subst (λ (z : List (ℕ × Event)). z ++ on.1 ≡ on.0 ∷ on.2) e.2 on.3) in
        not_both (takes c (found_in on.0.1)) on.4 (subst (λ (z : ℕ × Event). takes c (found_in z.1) ≡ false) same e.3)
    longer_by c c' used used' w' y why.Failed x e lt = absurd e

    -- the same cells, and of the other events the one list begins the other
    same_written : (c c' : Batch) (used used' : ℕ) (w w' : Why) (x : Outcome c used w) (y : Outcome c' used' w')
        → (y.cells ≡ x.cells) × (((more : List (ℕ × Event)) × (y.other ≡ x.other ++ more)) ⊎ ((more : List (ℕ × Event)) × (x.other ≡ y.other ++ more)))
    same_written c c' used used' w w' x y = elim (cases_lt (length x.cells) (length y.cells)) [
      | inl lt ↦ absurd (longer_by c c' used used' w' y w x x.ends lt)
      | inr le ↦ elim (cases_lt (length y.cells) (length x.cells)) [
        | inl lt ↦ absurd (longer_by c' c used' used w x w' y y.ends lt)
        | inr le' ↦
            let long : length y.cells ≡ length x.cells = omega (arith, le, le') in
            elim (cases_lt (length (y.cells ++ y.other)) (length (x.cells ++ x.other))) [
              | inl lt ↦
                  let p = compare (y.cells ++ y.other) (x.cells ++ x.other) y.through x.through (omega (arith, lt)) in
                  let r = same_cut y.cells x.cells x.other (y.other ++ p.0) (p.1 ∙ append_assoc y.cells y.other p.0) (sym long) in (sym r.0, inr (p.0, r.1))
              | inr few ↦
                  let p = compare (x.cells ++ x.other) (y.cells ++ y.other) x.through y.through few in
                  let r = same_cut x.cells y.cells y.other (x.other ++ p.0) (p.1 ∙ append_assoc x.cells x.other p.0) long in (r.0, inl (p.0, r.1))
            ]
      ]
    ]

    -- ---- two calls

    two : (v w : Verdict) (cells : List (ℕ × Event)) → Says l (start_with gifts) (s ++ input) (es ++ cells) v → Says l (start_with gifts) (s ++ input) (es ++ cells) w → w ≡ v
    two v w cells a b = (says_once l (start_with gifts) (s ++ input) (es ++ cells) (es ++ cells) v w a b).1

    same_refusal : (r z : Refusal) → ◌≡◌ {A = Verdict} (Refused z.at z.why) (Refused r.at r.why) → z ≡ r
    same_refusal r z same = let at : z.at ≡ r.at = cc in let why : z.why ≡ r.why = cc in λ i. record { at = at i; why = why i }

    -- no further event where the reading says no more
    no_other : (v : Verdict) (used : ℕ) (cells : List (ℕ × Event)) (x : ℕ × Event) → Says l (start_with gifts) (s ++ input) (es ++ cells) v → Stops used (cells ++ x ∷ []) → ⊥
    no_other v used cells x all stops = let le = few v cells (cells ++ x ∷ []) all (stops.0.place, stops.0.rest, stops.0.run) in omega (arith, le, length-append cells (x ∷ []))

    module _ (c : Batch) (used used' : ℕ) (cells other other' : List (ℕ × Event)) (near : ((more : List (ℕ × Event)) × (other' ≡ other ++ more)) ⊎ ((more : List (ℕ × Event)) × (other ≡ other' ++ more))) where
      one_other : (x x' : ℕ × Event) → other ≡ x ∷ [] → other' ≡ x' ∷ [] → x' ≡ x
      one_other x x' is is' = elim near [
        | inl m ↦ same_item x' x [] m.0 (sym is' ∙ m.1 ∙ ap (λ (z : List (ℕ × Event)). z ++ m.0) is)
        | inr m ↦ sym (same_item x x' [] m.0 (sym is ∙ m.1 ∙ ap (λ (z : List (ℕ × Event)). z ++ m.0) is'))
      ]

      same_end : (w w' : Why) → EndsBy cells other c used w → EndsBy cells other' c used' w' → (used' ≡ used) × (w' ≡ w) × (other' ≡ other)
      same_end why.More why.More x y = (y.2 ∙ sym x.2, refl, y.1 ∙ sym x.1)
      same_end why.More why.Full x y = absurd (not_both (is_full c) y.0 x.0)
      same_end why.More why.Other x y = absurd (no_other Waits used' cells y.1 x.3 y.4)
      same_end why.More why.Failed x y = absurd y
      same_end why.More (why.Refused r) x y = let same = two Waits (Refused r.at r.why) cells x.3 y.3 in absurd cc
      same_end why.Full why.More x y = absurd (not_both (is_full c) x.0 y.0)
      same_end why.Full why.Full x y = (used_once used used' cells x.2 y.2, refl, y.1 ∙ sym x.1)
      same_end why.Full why.Other x y = absurd (not_both (is_full c) x.0 y.0)
      same_end why.Full why.Failed x y = absurd y
      same_end why.Full (why.Refused r) x y = absurd (not_both (is_full c) x.0 y.0)
      same_end why.Other why.More x y = absurd (no_other Waits used cells x.1 y.3 x.4)
      same_end why.Other why.Full x y = absurd (not_both (is_full c) y.0 x.0)
      same_end why.Other why.Other x y =
          let same = one_other x.1 y.1 x.2 y.2 in (
            used_once used used' (cells ++ x.1 ∷ []) x.4 (subst (λ (z : ℕ × Event). Stops used' (cells ++ z ∷ [])) same y.4),
            refl,
            y.2 ∙ ap (λ (z : ℕ × Event). z ∷ []) same ∙ sym x.2,
          )
      same_end why.Other why.Failed x y = absurd y
      same_end why.Other (why.Refused r) x y = absurd (no_other (Refused r.at r.why) used cells x.1 y.3 x.4)
      same_end why.Failed w' x y = absurd x
      same_end (why.Refused r) why.More x y = let same = two Waits (Refused r.at r.why) cells y.3 x.3 in absurd cc
      same_end (why.Refused r) why.Full x y = absurd (not_both (is_full c) y.0 x.0)
      same_end (why.Refused r) why.Other x y = absurd (no_other (Refused r.at r.why) used' cells y.1 x.3 y.4)
      same_end (why.Refused r) why.Failed x y = absurd y
      same_end (why.Refused r) (why.Refused z) x y =
          (used_once used used' cells x.2 y.2, ap why.Refused (same_refusal r z (two (Refused r.at r.why) (Refused z.at z.why) cells x.3 y.3)), y.1 ∙ sym x.1)

    -- of two calls, how much is used, why they stop, the columns and the other event are one
    same_outcome : (c c' : Batch) (used used' : ℕ) (w w' : Why) (x : Outcome c used w) (y : Outcome c' used' w') → (c' ≡ c) × (used' ≡ used) × (w' ≡ w) × (y.other ≡ x.other)
    same_outcome c c' used used' w w' x y =
        let written = same_written c c' used used' w w' x y in
        let one = same_columns c c' x.cells x.taken (subst (λ (z : List (ℕ × Event)). TakesCells columns z c') written.0 y.taken) in
        let end = same_end c used used' x.cells x.other y.other written.1 w w' x.ends (rw (written.0, one) at y.ends) in
        (one, end.0, end.1, end.2)

    -- ---- what a call makes

    module _ (old new : StreamState) (none : old.refusal ≡ None) (was_rules : old.rules ≡ l) (rules : new.rules ≡ l) (Got : CqlpEvent → ℕ → Event → CqlpEvent → Type 0) (c : Batch) (was written : CqlpEvent) (used : ℕ) (within : used ≤ length input)
        (cells : List (ℕ × Event)) (taken : TakesCells columns cells c) where
      through_all : (written : List (ℕ × Event)) → Reached used written → Through written
      through_all written r = (r.place, r.rest, r.run)

      outcome : (w : Why) → StopsBy Got (λ was at e written. ⊥) gifts old new s input (take used input) (es ++ cells) c was written w → (o : Outcome c used w) × IsWrittenOf Got was written o.other
      outcome why.More h =
          let all = rw rules at h.5 in (
            record {
              cells = cells;
              other = [];
              taken = taken;
              through = subst Through (sym (append-nil cells)) (all.0, all.1, all.2);
              ends = (h.1, refl, omega (arith, ap length h.0, length-take-le used input within), all);
            },
            h.2,
          )
      outcome why.Full h =
          let r = reached_by new.refusal new used cells rules h.2 in (
            record {
              cells = cells;
              other = [];
              taken = taken;
              through = subst Through (sym (append-nil cells)) (through_all cells r);
              ends = (h.0, refl, stops_there used cells within r (rw rules at h.3));
            },
            h.1,
          )
      outcome why.Other h =
          let x : ℕ × Event = (h.1.at, h.1.event) in
          let there = append_assoc es cells (x ∷ []) in
          let r = reached_by new.refusal new used (cells ++ x ∷ []) rules (subst (λ (z : List (ℕ × Event)). AfterGifts gifts new (s ++ take used input) z) there h.1.after) in (
            record {
              cells = cells;
              other = x ∷ [];
              taken = taken;
              through = through_all (cells ++ x ∷ []) r;
              ends = (h.0, x, refl, h.1.apart, stops_there used (cells ++ x ∷ []) within r (inr (subst (λ (z : List (ℕ × Event)). IsRead gifts l (s ++ take used input) z) there (rw rules at h.1.ends))));
            },
            h.1.holds,
          )
      outcome why.Failed h = absurd h.1.holds
      outcome (why.Refused r) h =
          let at = reached_by new.refusal new used cells rules h.3 in (
            record {
              cells = cells;
              other = [];
              taken = taken;
              through = subst Through (sym (append-nil cells)) (through_all cells at);
              ends = (h.0, refl, stops_there used cells within at (rw rules at h.5), rw was_rules at (refuses_new old.refusal gifts old s (es ++ cells) input r none h.4));
            },
            h.1,
          )

-- ---- as C sees it

bare_begun : (n : ℕ) (f : CqlpBegun) (c : CqlpEvent) → begun_at n f c ≡ begun_at n f (unplaced c)
bare_begun zero f c = refl
bare_begun (suc n) f c = refl

module _ (begins : Ptr) (old new new' : Decoding) (was written written' : CqlpEvent) (used used' : ℕ) where
  same_event : (o o' : List (ℕ × Event)) → o' ≡ o → IsWrittenOf (PutsOther begins (buffer_in new) used) was written o → IsWrittenOf (PutsOther begins (buffer_in new') used') was written' o' → unplaced written' ≡ unplaced written
  same_event [] [] same x y = ap unplaced (y ∙ sym x)
  same_event [] (b ∷ bs) same x y = absurd cc
  same_event (a ∷ rest) [] same x y = absurd cc
  same_event (a ∷ rest) (b ∷ bs) same x y =
      let one = same_item b a bs rest same in
      ap unplaced y.2 ∙ ap (λ (z : ℕ × Event). unplaced (written_at z.0 z.1 x.0)) one ∙ sym (ap unplaced x.2)

one_fill : (gifts : Gifts) (s : List ℕ) (es : List (ℕ × Event)) (sites : List Site) (had : List Event) (old new new' : Decoding) (input : List ℕ) (begins : Ptr) (columns after after' : Batch) (was written written' : CqlpEvent) (from to to' : CqlpBegun) (b b' : FromC)
    → (state old).refusal ≡ None → AfterGifts gifts (state old) s es → HasTaken columns.limits sites had columns
    → FillsColumns old new input begins columns after was written from to b → FillsColumns old new' input begins columns after' was written' from to' b'
    → (b' ≡ b) × (after' ≡ after) × (unplaced written' ≡ unplaced written) × (to' ≡ to)
one_fill gifts s es sites had old new new' input begins columns after after' was written written' from to to' b b' none a has x y =
    let l = (state old).rules in
    let f = x.fills gifts s es a in
    let g = y.fills gifts s es a in
    let p = outcome gifts l s input es sites had columns has (state old) (state new) none refl x.rules (PutsOther begins (buffer_in new) x.filled.used) after was written x.filled.used x.within f.cells f.taken x.filled.stop f.stops in
    let q = outcome gifts l s input es sites had columns has (state old) (state new') none refl y.rules (PutsOther begins (buffer_in new') y.filled.used) after' was written' y.filled.used y.within g.cells g.taken y.filled.stop g.stops in
    let same = same_outcome gifts l s input es sites had columns has after after' x.filled.used y.filled.used x.filled.stop y.filled.stop p.0 q.0 in
    let batch : b' ≡ b = y.batch ∙ (λ i. batch_at (same.1 i) (same.2 i)) ∙ sym x.batch in
    let event = same_event begins old new new' was written written' x.filled.used y.filled.used p.0.other q.0.other same.3 p.1 q.1 in (
      batch,
      same.0,
      event,
      y.frame ∙ bare_begun b'.events from written' ∙ (λ i. begun_at (batch i).events from (event i)) ∙ sym (bare_begun b.events from written) ∙ sym x.frame,
    )

bare_at : (base : ℕ) (c : CqlpEvent) (moved : Bool) → unplaced (if moved then record c { at = written_there base c.at } else c) ≡ (if moved then record (unplaced c) { at = written_there base c.at } else unplaced c)
bare_at base c true = refl
bare_at base c false = refl

bare_placed : (events base : ℕ) (c : CqlpEvent) → unplaced (placed_written events base c) ≡ placed_written events base (unplaced c)
bare_placed events base c = bare_at base c (nat_lt 0 base && nat_lt 0 events)

pub one_answer_of_columns : IsOneAnswerOfColumns
one_answer_of_columns gifts s es sites had old new new' from to to' input begins columns after after' was written written' b b' none a has x y =
    let passed : y.passed ≡ x.passed = y.is_passed ∙ sym x.is_passed in
    let fills = subst (λ (p : ℕ). FillsColumns old new' (drop p input) (begins +ₚ p) columns after' was y.event from.frame y.frame y.own) passed y.fills in
    let r = one_fill gifts s es sites had old new new' (drop x.passed input) (begins +ₚ x.passed) columns after after' was x.event y.event from.frame x.frame y.frame x.own y.own none a has x.fills fills in
    let batch : b' ≡ b = y.batch ∙ (λ i. batch_from from.base (passed i) (r.0 i)) ∙ sym x.batch in (
      batch,
      r.1,
      ap unplaced y.placed ∙ bare_placed y.own.events from.base y.event ∙ (λ i. placed_written (r.0 i).events from.base (r.2 i)) ∙ sym (bare_placed x.own.events from.base x.event) ∙ sym (ap unplaced x.placed),
      y.course ∙ (λ i. record (gone_on from (batch i).used) { frame = r.3 i }) ∙ sym x.course,
    )
