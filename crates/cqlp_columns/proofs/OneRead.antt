-- From one place, one input and one batch of columns there is one answer.
use Rattle.std.proofs.Common.{◌≡◌, ℕ, ◌+◌, ◌≤◌, ◌<◌, List, [], ◌∷◌, ◌++◌, length, take, drop, refl, sym, ap, subst, ◌∙◌, append_assoc, inl, inr, arith}
use Rattle.std.specs.Prelude.{Option, Some, None, Bool, true, false, ◌⊎◌, ◌==◌, ◌&&◌, if◌then◌else◌, is_none, not}
use Rattle.std.proofs.lemmas.Bool.{and_from, and_parts, cases_lt, eq-eqb, eqb-true}
use Rattle.std.proofs.lemmas.List.{append-nil, append_cancel_left, length-append, length-drop, length-take-le, nil_from_length, take-append-drop}
use Rattle.cqlp_note.specs.declared.refusal.Reason.{Reason}
use Rattle.cqlp_note.specs.declared.refusal.Refusal.{Refusal}
use Rattle.cqlp_note.specs.Limits.{Rules}
use Rattle.cqlp_note.specs.Reader.{Said, More, Got, Bad, says}
use Rattle.cqlp_note.specs.Step.{Emitted}
use Rattle.cqlp_note.proofs.Runs.{runs_compare, runs_stay}
use Rattle.cqlp_grammar.specs.declared.sink.Sink as sink
use Rattle.cqlp_decode.specs.Reading.{Ends, Event, Gifts, Place, Verdict, Waits, Refused, Reads, Says, start_with, step}
use Rattle.cqlp_decode.specs.Progress.{StreamState}
use Rattle.cqlp_decode.specs.Sinks.{Fails, Gets}
use Rattle.cqlp_decode.specs.Streams.{AfterBy, AfterGifts}
use Rattle.cqlp_decode.proofs.Gets.{refuses_new}
use Rattle.cqlp_columns.specs.declared.columns.BatchLimits.{BatchLimits}
use Rattle.cqlp_columns.specs.declared.columns.TakeError.{TakeError}
use Rattle.cqlp_columns.specs.declared.columns.TakeError.TheVariants as fault
use Rattle.cqlp_columns.specs.Arrays.{Site}
use Rattle.cqlp_columns.specs.Batches.{Batch, HasTaken, batch_of, fault_among, has_room, is_full}
use Rattle.cqlp_columns.specs.Findings.{Finding, Nothing, Part, Whole, found_in}
use Rattle.cqlp_columns.specs.declared.filled.Filled.{Filled}
use Rattle.cqlp_columns.specs.declared.filled.Stop.{Stop as Why}
use Rattle.cqlp_columns.specs.declared.filled.Stop.TheVariants as why
use Rattle.cqlp_columns.specs.declared.page_columns.Went.{Went}
use Rattle.cqlp_columns.specs.Filling.{EndsAtEvent, IsRead, StopsBy, TakesCells, refusal_after, refused_again, went_of}
use Rattle.cqlp_columns.specs.PageLaws.{AreOneRead, HasRead, IsEmitted, OneAnswerOfRead, StopAlike}
use Rattle.cqlp_columns.specs.Sorting.{takes}

-- ---- one reading

no_step : (l : Rules) (q r : Place) (rest rest' : List ℕ) (v : Verdict) (es : List (ℕ × Event)) → Ends (says (step l q) 0 rest) v
    → Reads l q rest es r rest' → es ≡ []
no_step l q r rest rest' v [] ends run = refl
no_step l q r rest rest' v (e ∷ es) ends run = absurd (rw run.2 at ends)

same_verdict : (d : Said (Emitted Event Place) (ℕ × Reason)) (v w : Verdict) → Ends d v → Ends d w → v ≡ w
same_verdict More Waits Waits a b = refl
same_verdict More Waits (Refused k why) a b = absurd b
same_verdict More (Refused k why) w a b = absurd a
same_verdict (Bad f) Waits w a b = absurd a
same_verdict (Bad f) (Refused k why) Waits a b = absurd b
same_verdict (Bad f) (Refused k why) (Refused j how) a b = ap (λ (x : ℕ × Reason). Refused x.0 x.1) (sym a ∙ b)
same_verdict (Got x used) v w a b = absurd a

none_more : {X : Type 0} (xs more : List X) → xs ≡ xs ++ more → more ≡ []
none_more xs more same = nil_from_length more (let e = ap length same in omega (arith, e, length-append xs more))

module _ (gifts : Gifts) (l : Rules) (s : List ℕ) where
  -- of one stream the same events lead to one place
  place_once : (es : List (ℕ × Event)) (p q : Place) (b c : List ℕ) → Reads l (start_with gifts) s es p b → Reads l (start_with gifts) s es q c
      → (q ≡ p) × (c ≡ b)
  place_once es p q b c x y =
      let r = runs_compare (step l) (start_with gifts) p q s b c es es x y (omega arith) in
      rw (none_more es r.0 r.1) at r.2

  -- no reading of a stream goes further than what it says
  no_further : (es fs : List (ℕ × Event)) (v : Verdict) (p : Place) (b : List ℕ) → Says l (start_with gifts) s es v → Reads l (start_with gifts) s fs p b
      → length fs ≤ length es
  no_further es fs v p b all run = elim (cases_lt (length es) (length fs)) [
    | inl lt ↦
        let c = runs_compare (step l) (start_with gifts) all.0 p s all.1 b es fs all.2 run (omega arith) in
        let none = no_step l all.0 p all.1 b v c.0 all.3 c.2 in
        absurd (omega (arith, ap length (c.1 ∙ ap (λ (x : List (ℕ × Event)). es ++ x) none ∙ append-nil es)))
    | inr le ↦ le
  ]

  -- and one verdict
  verdict_once : (es : List (ℕ × Event)) (v w : Verdict) → Says l (start_with gifts) s es v → Says l (start_with gifts) s es w → w ≡ v
  verdict_once es v w a b =
      let there = place_once es a.0 b.0 a.1 b.1 a.2 b.2 in
      same_verdict (says (step l a.0) 0 a.1) w v (rw (there.0, there.1) at b.3) a.3

-- ---- lists

-- the longer of two beginnings of one list goes on after the shorter
cut_one : {X : Type 0} (xs ys t z : List X) → ys ++ t ≡ xs ++ z → length xs < length ys → (y : X) × (rest : List X) × (ys ≡ xs ++ y ∷ rest)
    × (z ≡ y ∷ (rest ++ t))
cut_one [] [] t z same lt = absurd (omega (arith, lt))
cut_one [] (y ∷ ys) t z same lt = (y, ys, refl, sym same)
cut_one (x ∷ xs) [] t z same lt = absurd (omega (arith, lt))
cut_one {X = X} (x ∷ xs) (y ∷ ys) t z same lt =
    let head : y ≡ x = cc in
    let tail : ys ++ t ≡ xs ++ z = cc in
    let r = cut_one xs ys t z tail (omega (arith, lt)) in
    (r.0, r.1, λ i. head i ∷ r.2 i, r.3)

same_cut : {X : Type 0} (xs ys t z : List X) → ys ++ t ≡ xs ++ z → length ys ≡ length xs → (ys ≡ xs) × (t ≡ z)
same_cut [] [] t z same long = (refl, same)
same_cut [] (y ∷ ys) t z same long = absurd (omega (arith, long))
same_cut (x ∷ xs) [] t z same long = absurd (omega (arith, long))
same_cut (x ∷ xs) (y ∷ ys) t z same long =
    let head : y ≡ x = cc in
    let tail : ys ++ t ≡ xs ++ z = cc in
    let r = same_cut xs ys t z tail (omega (arith, long)) in
    (λ i. head i ∷ r.0 i, r.1)

same_item : {X : Type 0} (x y : X) (xs ys : List X) → x ∷ xs ≡ y ∷ ys → x ≡ y
same_item x y xs ys same = cc

-- ---- columns

abbrev events_in : List (ℕ × Event) → List Event
events_in [] = []
events_in (e ∷ es) = e.1 ∷ events_in es

taken_all : (sites : List Site) (a b : Batch) (had : List Event) (cells : List (ℕ × Event)) → HasTaken a.limits sites had a → TakesCells a cells b
    → b ≡ batch_of a.limits sites (had ++ events_in cells)
taken_all sites a b had [] is t = t ∙ is ∙ ap (batch_of a.limits sites) (sym (append-nil had))
taken_all sites a b had (e ∷ es) is t =
    let next : t.0 ≡ batch_of a.limits sites (had ++ e.1 ∷ []) = t.1.taken sites had is in
    let limits : t.0.limits ≡ a.limits = ap (λ (z : Batch). z.limits) next in
    let more = taken_all sites t.0 b (had ++ e.1 ∷ []) es (subst (λ (l : BatchLimits). t.0 ≡ batch_of l sites (had ++ e.1 ∷ [])) (sym limits) next) t.2 in
    more ∙ ap (λ (l : BatchLimits). batch_of l sites ((had ++ e.1 ∷ []) ++ events_in es)) limits ∙ ap (batch_of a.limits sites) (append_assoc had
    (e.1 ∷ []) (events_in es))

split_at : (a c : Batch) (xs : List (ℕ × Event)) (y : ℕ × Event) (rest : List (ℕ × Event)) → TakesCells a (xs ++ y ∷ rest) c
    → (mid : Batch) × TakesCells a xs mid × (takes mid (found_in y.1) ≡ true)
split_at a c [] y rest t = (a, refl, t.1.free)
split_at a c (x ∷ xs) y rest t = let r = split_at t.0 c xs y rest t.2 in (r.0, (t.0, t.1, r.1), r.2)

free_parts : (d b : Bool) (o : Option TakeError) → is_none (if d then (if b then Some fault.Full else o) else Some fault.OutOfOrder) ≡ true
    → (d ≡ true) × (b ≡ false)
free_parts true true o free = absurd cc
free_parts true false o free = (refl, refl)
free_parts false b o free = absurd cc

not_both : (x : Bool) → x ≡ true → x ≡ false → ⊥
not_both true a b = absurd cc
not_both false a b = absurd cc

-- full columns take no cell
full_takes : (b : Batch) (f : Finding) → is_full b ≡ true → takes b f ≡ true → ⊥
full_takes b Nothing full free = absurd cc
full_takes b Part full free = absurd cc
full_takes b (Whole k c) full free =
    let none = not (has_room b.limits b.columns) in
    let p = free_parts (k == b.next) ((k == 0) && none) (fault_among b.limits k c b.columns) free in
    let q = and_parts (b.next == 0) none full in
    not_both ((k == 0) && none) (and_from (k == 0) none (eq-eqb k 0 (eqb-true k b.next p.0 ∙ eqb-true b.next 0 q.0)) q.1) p.1

-- ---- the reading

module _ (gifts : Gifts) (l : Rules) (s input : List ℕ) (es : List (ℕ × Event)) where
  -- the reading of all of the input goes through these events
  abbrev Through : List (ℕ × Event) → Type 0
  Through emitted = (q : Place) × (rest : List ℕ) × Reads l (start_with gifts) (s ++ input) (es ++ emitted) q rest

  stay : (used : ℕ) (emitted : List (ℕ × Event)) (p : Place) (b : List ℕ) → Reads l (start_with gifts) (s ++ take used input) (es ++ emitted) p b
      → Reads l (start_with gifts) (s ++ input) (es ++ emitted) p (b ++ drop used input)
  stay used emitted p b run =
      let there : (s ++ take used input) ++ drop used input ≡ s ++ input = append_assoc s (take used input) (drop used input)
      ∙ ap (λ (z : List ℕ). s ++ z) (take-append-drop used input) in
      subst (λ (z : List ℕ). Reads l (start_with gifts) z (es ++ emitted) p (b ++ drop used input)) there (runs_stay (step l) (start_with gifts)
      (s ++ take used input) (drop used input) (es ++ emitted) p b run)

  -- where the reading is after these events, it has at least what was not used
  record Reached (used : ℕ) (emitted : List (ℕ × Event)) : Type 0 where
    place : Place
    rest : List ℕ
    run : Reads l (start_with gifts) (s ++ input) (es ++ emitted) place rest
    least : length input ≤ length rest + used

  reached_by : (o : Option Refusal) (d : StreamState) (used : ℕ) (emitted : List (ℕ × Event)) → d.rules ≡ l → AfterBy o gifts d (s ++ take used input)
      (es ++ emitted) → Reached used emitted
  reached_by None d used emitted is a = record {
    place = a.place;
    rest = a.bytes ++ drop used input;
    run = stay used emitted a.place a.bytes
        (rw is at a.read);
    least = omega (arith, length-append a.bytes (drop used input), length-drop used input);
  }
  reached_by (Some r) d used emitted is a = record {
    place = a.place;
    rest = a.bytes ++ drop used input;
    run = stay used emitted a.place a.bytes
        (rw is at a.read);
    least = omega (arith, length-append a.bytes (drop used input), length-drop used input);
  }

  -- the bytes used end with the last of these events, or there are none
  abbrev Stops : (used : ℕ) → (emitted : List (ℕ × Event)) → Type 0
  Stops used emitted = (r : Reached used emitted) × ((used ≡ 0) ⊎ (length r.rest + used ≡ length input))

  stops_there : (used : ℕ) (emitted : List (ℕ × Event)) → used ≤ length input → Reached used emitted → EndsAtEvent gifts l s (take used input) (es ++ emitted)
      → Stops used emitted
  stops_there used emitted within r (inl none) = (r, inl (omega (arith, ap length none, length-take-le used input within)))
  stops_there used emitted within r (inr run) =
      let long : length (drop used input) + used ≡ length input = omega (arith, within, length-drop used input) in
      (record { place = run.0; rest = drop used input; run = stay used emitted run.0 [] run.1; least = omega (arith, long) }, inr long)

  used_once : (used used' : ℕ) (emitted : List (ℕ × Event)) → Stops used emitted → Stops used' emitted → used' ≡ used
  used_once used used' emitted x y =
      let same = ap length (place_once gifts l (s ++ input) (es ++ emitted) x.0.place y.0.place x.0.rest y.0.rest x.0.run y.0.run).1 in
      let a = x.0.least in
      let b = y.0.least in
      elim x.1 [
        | inl p ↦ elim y.1 [
          | inl q ↦ omega (arith, p, q)
          | inr q ↦ omega (arith, p, q, a, b, same)
        ]
        | inr p ↦ elim y.1 [
          | inl q ↦ omega (arith, p, q, a, b, same)
          | inr q ↦ omega (arith, p, q, same)
        ]
      ]

  compare : (t t' : List (ℕ × Event)) → Through t → Through t' → length t ≤ length t' → (more : List (ℕ × Event)) × (t' ≡ t ++ more)
  compare t t' x y le =
      let c = runs_compare (step l) (start_with gifts) x.0 y.0 (s ++ input) x.1 y.1 (es ++ t) (es ++ t') x.2 y.2 (omega
      (arith, le, length-append es t, length-append es t')) in
      (c.0, append_cancel_left es t' (t ++ c.0) (c.1 ∙ append_assoc es t c.0))

  few : (v : Verdict) (t t' : List (ℕ × Event)) → Says l (start_with gifts) (s ++ input) (es ++ t) v → Through t' → length t' ≤ length t
  few v t t' all y =
      let le = no_further gifts l (s ++ input) (es ++ t) (es ++ t') v y.0 y.1 all y.2 in omega (arith, le, length-append es t, length-append es t')

  module _ (sites : List Site) (had : List Event) (columns : Batch) (has : HasTaken columns.limits sites had columns) where
    -- how a call ended, after these cells and at most one other event
    abbrev EndsBy : (cells other : List (ℕ × Event)) → (c : Batch) → (used : ℕ) → Why → Type 0
    EndsBy cells other c used why.More = (is_full c ≡ false) × (other ≡ []) × (used ≡ length input) × Says l (start_with gifts) (s ++ input) (es ++ cells) Waits
    EndsBy cells other c used why.Full = (is_full c ≡ true) × (other ≡ []) × Stops used cells
    EndsBy cells other c used why.Other = (is_full c ≡ false) × (x : ℕ × Event) × (other ≡ x ∷ []) × (takes c (found_in x.1) ≡ false)
        × Stops used (cells ++ x ∷ [])
    EndsBy cells other c used why.Failed = (is_full c ≡ false) × (x : ℕ × Event) × (other ≡ x ∷ []) × (takes c (found_in x.1) ≡ false)
        × Stops used (cells ++ x ∷ [])
    EndsBy cells other c used (why.Refused r) = (is_full c ≡ false) × (other ≡ []) × Stops used cells × Says l (start_with gifts) (s ++ input)
        (es ++ cells) (Refused r.at r.why)

    record Outcome (c : Batch) (used : ℕ) (w : Why) : Type 0 where
      cells : List (ℕ × Event)
      other : List (ℕ × Event)
      taken : TakesCells columns cells c
      through : Through (cells ++ other)
      ends : EndsBy cells other c used w

    same_columns : (c c' : Batch) (cells : List (ℕ × Event)) → TakesCells columns cells c → TakesCells columns cells c' → c' ≡ c
    same_columns c c' cells x y = taken_all sites columns c' had cells has y ∙ sym (taken_all sites columns c had cells has x)

    -- a call that read on took the next event
    goes_on : (c c' : Batch) (used used' : ℕ) (w w' : Why) (x : Outcome c used w) (y : Outcome c' used' w')
        → length (x.cells ++ x.other) ≤ length (y.cells ++ y.other) → length x.cells < length y.cells
        → (e : ℕ × Event) × (more : List (ℕ × Event)) × (rest : List (ℕ × Event)) × (x.other ++ more ≡ e ∷ rest) × (takes c (found_in e.1) ≡ true)
    goes_on c c' used used' w w' x y le lt =
        let p = compare (x.cells ++ x.other) (y.cells ++ y.other) x.through y.through le in
        let cut = cut_one x.cells y.cells y.other (x.other ++ p.0) (p.1 ∙ append_assoc x.cells x.other p.0) lt in
        let at = split_at columns c' x.cells cut.0 cut.1 (subst (λ (z : List (ℕ × Event)). TakesCells columns z c') cut.2 y.taken) in
        (cut.0, p.0, cut.1 ++ y.other, cut.3, subst (λ (z : Batch). takes z (found_in cut.0.1) ≡ true) (same_columns c at.0 x.cells x.taken at.1) at.2)

    longer_by : (c c' : Batch) (used used' : ℕ) (w' : Why) (y : Outcome c' used' w') (w : Why) (x : Outcome c used w) → EndsBy x.cells x.other c used w
        → length x.cells < length y.cells → ⊥
    longer_by c c' used used' w' y why.More x e lt = let le = few Waits x.cells (y.cells ++ y.other) e.3 y.through in omega
        (arith, le, lt, length-append y.cells y.other)
    longer_by c c' used used' w' y (why.Refused r) x e lt = let le = few (Refused r.at r.why) x.cells (y.cells ++ y.other) e.3 y.through in omega
        (arith, le, lt, length-append y.cells y.other)
    longer_by c c' used used' w' y why.Full x e lt =
        let on = goes_on c c' used used' why.Full w' x y (omega
        (arith, lt, ap length e.1, length-append x.cells x.other, length-append y.cells y.other)) lt in full_takes c (found_in on.0.1) e.0 on.4
    longer_by c c' used used' w' y why.Other x e lt =
        let on = goes_on c c' used used' why.Other w' x y (omega (arith, lt, ap length e.2, length-append x.cells x.other, length-append y.cells y.other)) lt in
        let same : e.1 ≡ on.0 = same_item e.1 on.0 on.1 on.2 (subst (λ (z : List (ℕ × Event)). z ++ on.1 ≡ on.0 ∷ on.2) e.2 on.3) in
        not_both (takes c (found_in on.0.1)) on.4 (subst (λ (z : ℕ × Event). takes c (found_in z.1) ≡ false) same e.3)
    longer_by c c' used used' w' y why.Failed x e lt =
        let on = goes_on c c' used used' why.Failed w' x y (omega
        (arith, lt, ap length e.2, length-append x.cells x.other, length-append y.cells y.other)) lt in
        let same : e.1 ≡ on.0 = same_item e.1 on.0 on.1 on.2 (subst (λ (z : List (ℕ × Event)). z ++ on.1 ≡ on.0 ∷ on.2) e.2 on.3) in
        not_both (takes c (found_in on.0.1)) on.4 (subst (λ (z : ℕ × Event). takes c (found_in z.1) ≡ false) same e.3)

    -- the same cells, and of the other events the one list begins the other
    same_emitted : (c c' : Batch) (used used' : ℕ) (w w' : Why) (x : Outcome c used w) (y : Outcome c' used' w')
        → (y.cells ≡ x.cells) × (((more : List (ℕ × Event)) × (y.other ≡ x.other ++ more)) ⊎ ((more : List (ℕ × Event)) × (x.other ≡ y.other ++ more)))
    same_emitted c c' used used' w w' x y = elim (cases_lt (length x.cells) (length y.cells)) [
      | inl lt ↦ absurd (longer_by c c' used used' w' y w x x.ends lt)
      | inr le ↦ elim (cases_lt (length y.cells) (length x.cells)) [
        | inl lt ↦ absurd (longer_by c' c used' used w x w' y y.ends lt)
        | inr le' ↦
            let long : length y.cells ≡ length x.cells = omega (arith, le, le') in
            elim (cases_lt (length (y.cells ++ y.other)) (length (x.cells ++ x.other))) [
              | inl lt ↦
                  let p = compare (y.cells ++ y.other) (x.cells ++ x.other) y.through x.through (omega (arith, lt)) in
                  let r = same_cut y.cells x.cells x.other (y.other ++ p.0) (p.1 ∙ append_assoc y.cells y.other p.0) (sym long) in (sym r.0, inr (p.0, r.1))
              | inr few ↦
                  let p = compare (x.cells ++ x.other) (y.cells ++ y.other) x.through y.through few in
                  let r = same_cut x.cells y.cells y.other (x.other ++ p.0) (p.1 ∙ append_assoc x.cells x.other p.0) long in (r.0, inl (p.0, r.1))
            ]
      ]
    ]

    -- ---- two calls

    two : (v w : Verdict) (cells : List (ℕ × Event)) → Says l (start_with gifts) (s ++ input) (es ++ cells) v → Says l (start_with gifts) (s ++ input)
        (es ++ cells) w → w ≡ v
    two v w cells a b = verdict_once gifts l (s ++ input) (es ++ cells) v w a b

    same_refusal : (r z : Refusal) → ◌≡◌ {A = Verdict} (Refused z.at z.why) (Refused r.at r.why) → z ≡ r
    same_refusal r z same = let at : z.at ≡ r.at = cc in let why : z.why ≡ r.why = cc in λ i. record { at = at i; why = why i }

    -- no further event where the reading says no more
    no_other : (v : Verdict) (used : ℕ) (cells : List (ℕ × Event)) (x : ℕ × Event) → Says l (start_with gifts) (s ++ input) (es ++ cells) v
        → Stops used (cells ++ x ∷ []) → ⊥
    no_other v used cells x all stops = let le = few v cells (cells ++ x ∷ []) all (stops.0.place, stops.0.rest, stops.0.run) in omega
        (arith, le, length-append cells (x ∷ []))

    module _ (c : Batch) (used used' : ℕ) (cells other other' : List (ℕ × Event)) (near : ((more : List (ℕ × Event))
        × (other' ≡ other ++ more)) ⊎ ((more : List (ℕ × Event)) × (other ≡ other' ++ more))) where
      one_other : (x x' : ℕ × Event) → other ≡ x ∷ [] → other' ≡ x' ∷ [] → x' ≡ x
      one_other x x' is is' = elim near [
        | inl m ↦ same_item x' x [] m.0 (sym is' ∙ m.1 ∙ ap (λ (z : List (ℕ × Event)). z ++ m.0) is)
        | inr m ↦ sym (same_item x x' [] m.0 (sym is ∙ m.1 ∙ ap (λ (z : List (ℕ × Event)). z ++ m.0) is'))
      ]

      same_end : (w w' : Why) → EndsBy cells other c used w → EndsBy cells other' c used' w' → (used' ≡ used) × StopAlike w w' × (other' ≡ other)
      same_end why.More why.More x y = (y.2 ∙ sym x.2, refl, y.1 ∙ sym x.1)
      same_end why.More why.Full x y = absurd (not_both (is_full c) y.0 x.0)
      same_end why.More why.Other x y = absurd (no_other Waits used' cells y.1 x.3 y.4)
      same_end why.More why.Failed x y = absurd (no_other Waits used' cells y.1 x.3 y.4)
      same_end why.More (why.Refused r) x y = let same = two Waits (Refused r.at r.why) cells x.3 y.3 in absurd cc
      same_end why.Full why.More x y = absurd (not_both (is_full c) x.0 y.0)
      same_end why.Full why.Full x y = (used_once used used' cells x.2 y.2, refl, y.1 ∙ sym x.1)
      same_end why.Full why.Other x y = absurd (not_both (is_full c) x.0 y.0)
      same_end why.Full why.Failed x y = absurd (not_both (is_full c) x.0 y.0)
      same_end why.Full (why.Refused r) x y = absurd (not_both (is_full c) x.0 y.0)
      same_end why.Other why.More x y = absurd (no_other Waits used cells x.1 y.3 x.4)
      same_end why.Other why.Full x y = absurd (not_both (is_full c) y.0 x.0)
      same_end why.Other why.Other x y =
          let same = one_other x.1 y.1 x.2 y.2 in (
            used_once used used' (cells ++ x.1 ∷ []) x.4 (subst (λ (z : ℕ × Event). Stops used' (cells ++ z ∷ [])) same y.4),
            refl,
            y.2 ∙ ap (λ (z : ℕ × Event). z ∷ []) same ∙ sym x.2,
          )
      same_end why.Other why.Failed x y =
          let same = one_other x.1 y.1 x.2 y.2 in (
            used_once used used' (cells ++ x.1 ∷ []) x.4 (subst (λ (z : ℕ × Event). Stops used' (cells ++ z ∷ [])) same y.4),
            tt,
            y.2 ∙ ap (λ (z : ℕ × Event). z ∷ []) same ∙ sym x.2,
          )
      same_end why.Other (why.Refused r) x y = absurd (no_other (Refused r.at r.why) used cells x.1 y.3 x.4)
      same_end why.Failed why.More x y = absurd (no_other Waits used cells x.1 y.3 x.4)
      same_end why.Failed why.Full x y = absurd (not_both (is_full c) y.0 x.0)
      same_end why.Failed why.Other x y =
          let same = one_other x.1 y.1 x.2 y.2 in (
            used_once used used' (cells ++ x.1 ∷ []) x.4 (subst (λ (z : ℕ × Event). Stops used' (cells ++ z ∷ [])) same y.4),
            tt,
            y.2 ∙ ap (λ (z : ℕ × Event). z ∷ []) same ∙ sym x.2,
          )
      same_end why.Failed why.Failed x y =
          let same = one_other x.1 y.1 x.2 y.2 in (
            used_once used used' (cells ++ x.1 ∷ []) x.4 (subst (λ (z : ℕ × Event). Stops used' (cells ++ z ∷ [])) same y.4),
            refl,
            y.2 ∙ ap (λ (z : ℕ × Event). z ∷ []) same ∙ sym x.2,
          )
      same_end why.Failed (why.Refused r) x y = absurd (no_other (Refused r.at r.why) used cells x.1 y.3 x.4)
      same_end (why.Refused r) why.More x y = let same = two Waits (Refused r.at r.why) cells y.3 x.3 in absurd cc
      same_end (why.Refused r) why.Full x y = absurd (not_both (is_full c) y.0 x.0)
      same_end (why.Refused r) why.Other x y = absurd (no_other (Refused r.at r.why) used' cells y.1 x.3 y.4)
      same_end (why.Refused r) why.Failed x y = absurd (no_other (Refused r.at r.why) used' cells y.1 x.3 y.4)
      same_end (why.Refused r) (why.Refused z) x y =
          (used_once used used' cells x.2 y.2, ap why.Refused (same_refusal r z (two (Refused r.at r.why) (Refused z.at z.why) cells x.3 y.3)), y.1 ∙ sym x.1)

    -- of two calls, how much is used, why they stop, the columns and the other event are one
    same_outcome : (c c' : Batch) (used used' : ℕ) (w w' : Why) (x : Outcome c used w) (y : Outcome c' used' w')
        → (c' ≡ c) × (used' ≡ used) × StopAlike w w' × (y.other ≡ x.other) × (y.cells ≡ x.cells)
    same_outcome c c' used used' w w' x y =
        let emitted = same_emitted c c' used used' w w' x y in
        let one = same_columns c c' x.cells x.taken (subst (λ (z : List (ℕ × Event)). TakesCells columns z c') emitted.0 y.taken) in
        let end = same_end c used used' x.cells x.other y.other emitted.1 w w' x.ends (rw (emitted.0, one) at y.ends) in
        (one, end.0, end.1, end.2, emitted.0)

    -- ---- what a call makes

    -- ---- what a call makes

    module _ {S : Type 0} (m : sink.Ghosts S) (old new : StreamState) (none : old.refusal ≡ None) (was_rules : old.rules ≡ l) (rules : new.rules ≡ l)
        (c : Batch) (before after : S) (used : ℕ) (within : used ≤ length input)
        (cells : List (ℕ × Event)) (taken : TakesCells columns cells c) where
      through_all : (emitted : List (ℕ × Event)) → Reached used emitted → Through emitted
      through_all emitted r = (r.place, r.rest, r.run)

      -- the decoder is after the bytes used and these events
      abbrev LiesAfter : (emitted : List (ℕ × Event)) → Type 0
      LiesAfter emitted = AfterGifts gifts new (s ++ take used input) (es ++ emitted)

      abbrev Made : Why → Type 0
      Made w = (o : Outcome c used w) × IsEmitted m w before after o.other × LiesAfter (o.cells ++ o.other)

      -- no other event
      alone : LiesAfter cells → LiesAfter (cells ++ [])
      alone a = subst LiesAfter (sym (append-nil cells)) a

      at_other : (x : ℕ × Event) → AfterGifts gifts new (s ++ take used input) ((es ++ cells) ++ x ∷ []) → IsRead gifts new.rules (s ++ take used input)
          ((es ++ cells) ++ x ∷ []) → LiesAfter (cells ++ x ∷ []) × Stops used (cells ++ x ∷ []) × Through (cells ++ x ∷ [])
      at_other x a e =
          let there = append_assoc es cells (x ∷ []) in
          let conforms = subst (λ (z : List (ℕ × Event)). AfterGifts gifts new (s ++ take used input) z) there a in
          let r = reached_by new.refusal new used (cells ++ x ∷ []) rules conforms in (
            conforms,
            stops_there used (cells ++ x ∷ []) within r (inr (subst (λ (z : List (ℕ × Event)). IsRead gifts l (s ++ take used input) z) there
                (rw rules at e))),
            through_all (cells ++ x ∷ []) r,
          )

      made : (w : Why) → StopsBy (Gets m) (Fails m) gifts old new s input (take used input) (es ++ cells) c before after w → Made w
      made why.More h =
          let all = rw rules at h.5 in (
            record {
              cells = cells;
              other = [];
              taken = taken;
              through = subst Through (sym (append-nil cells)) (all.0, all.1, all.2);
              ends = (h.1, refl, omega (arith, ap length h.0, length-take-le used input within), all);
            },
            (refl, h.2),
            alone (subst (λ (z : List ℕ). AfterGifts gifts new (s ++ z) (es ++ cells)) (sym h.0) h.4),
          )
      made why.Full h =
          let r = reached_by new.refusal new used cells rules h.2 in (
            record {
              cells = cells;
              other = [];
              taken = taken;
              through = subst Through (sym (append-nil cells)) (through_all cells r);
              ends = (h.0, refl, stops_there used cells within r (rw rules at h.3));
            },
            (refl, h.1),
            alone h.2,
          )
      made why.Other h =
          let x : ℕ × Event = (h.1.at, h.1.event) in
          let r = at_other x h.1.after h.1.ends in (
            record { cells = cells; other = x ∷ []; taken = taken; through = r.2; ends = (h.0, x, refl, h.1.apart, r.1) },
            (x, refl, h.1.holds),
            r.0,
          )
      made why.Failed h =
          let x : ℕ × Event = (h.1.at, h.1.event) in
          let r = at_other x h.1.after h.1.ends in (
            record { cells = cells; other = x ∷ []; taken = taken; through = r.2; ends = (h.0, x, refl, h.1.apart, r.1) },
            (x, refl, h.1.holds),
            r.0,
          )
      made (why.Refused r) h =
          let at = reached_by new.refusal new used cells rules h.3 in (
            record {
              cells = cells;
              other = [];
              taken = taken;
              through = subst Through (sym (append-nil cells)) (through_all cells at);
              ends = (
                h.0,
                refl,
                stops_there used cells within at (rw rules at h.5),
                rw was_rules at (refuses_new old.refusal gifts old s
                    (es ++ cells) input r none h.4),
              );
            },
            (refl, h.1),
            alone h.3,
          )

-- ---- two calls

refusal_alike : (w w' : Why) → StopAlike w w' → refusal_after None w' ≡ refusal_after None w
refusal_alike why.Other why.Failed same = refl
refusal_alike why.Failed why.Other same = refl
refusal_alike why.Other why.Other same = refl
refusal_alike why.Failed why.Failed same = refl
refusal_alike why.More w' same = ap (refusal_after None) same
refusal_alike why.Full w' same = ap (refusal_after None) same
refusal_alike (why.Refused r) w' same = ap (refusal_after None) same
refusal_alike why.Other why.More same = absurd cc
refusal_alike why.Other why.Full same = absurd cc
refusal_alike why.Other (why.Refused r) same = absurd cc
refusal_alike why.Failed why.More same = absurd cc
refusal_alike why.Failed why.Full same = absurd cc
refusal_alike why.Failed (why.Refused r) same = absurd cc

module _ {S : Type 0} (m : sink.Ghosts S) (gifts : Gifts) (s : List ℕ) (es : List (ℕ × Event)) (sites : List Site) (had : List Event)
    (old new new' : StreamState) (input : List ℕ) (columns columns' columns'' : Batch) (before after after' : S) (w w' : Went) (f f' : Filled)
    (a : AfterGifts gifts old s es) (has : HasTaken columns.limits sites had columns) (x : HasRead m old new input columns columns' before after w f)
    (y : HasRead m old new' input columns columns'' before after' w' f') where
  abbrev One : Type 0
  One = AreOneRead m gifts s input es new new' columns columns' columns'' before after after' w w' f f'

  same_went : f'.stop ≡ f.stop → w' ≡ w
  same_went same = y.went ∙ ap went_of same ∙ sym x.went

  again_emitted : (r : Refusal) (full : Bool) (g : Filled) (o : S) → g ≡ refused_again r full → o ≡ before → IsEmitted m g.stop before o []
  again_emitted r true g o is same = subst (λ (z : Filled). IsEmitted m z.stop before o []) (sym is) (refl, same)
  again_emitted r false g o is same = subst (λ (z : Filled). IsEmitted m z.stop before o []) (sym is) (refl, same)

  again_alike : (r : Refusal) (full : Bool) → StopAlike (refused_again r full).stop (refused_again r full).stop
  again_alike r true = refl
  again_alike r false = refl

  again_used : (r : Refusal) (full : Bool) → (refused_again r full).used ≡ 0
  again_used r true = refl
  again_used r false = refl

  conforms_again : (n : StreamState) (g : Filled) → n ≡ old → g.used ≡ 0 → AfterGifts gifts n (s ++ take g.used input) (es ++ [])
  conforms_again n g same none = rw (same, none, append-nil s, append-nil es) a

  refused_before : (r : Refusal) → old.refusal ≡ Some r → One
  refused_before r is =
      let p = x.refused r is in
      let q = y.refused r is in
      let full = is_full columns in
      let one : f' ≡ f = q.0 ∙ sym p.0 in
      let none : f.used ≡ 0 = ap (λ (g : Filled). g.used) p.0 ∙ again_used r full in record {
        used = ap (λ (g : Filled). g.used) one;
        stop = subst (λ (g : Filled). StopAlike f.stop g.stop) (sym one) (subst (λ (g : Filled). StopAlike g.stop g.stop) (sym p.0) (again_alike r full));
        went = same_went;
        same = q.2 ∙ sym p.2;
        cells = [];
        taken = p.2;
        other = [];
        emitted = again_emitted r full f after p.0 p.3;
        emitted' = again_emitted r full f' after' q.0 q.3;
        conforms = conforms_again new f p.1 none;
        conforms' = conforms_again new' f q.1 none;
        refusal = ap (λ (n : StreamState). n.refusal) (q.1 ∙ sym p.1);
        rules = y.rules ∙ sym x.rules;
        given = y.given ∙ sym x.given;
      }

  read_on : old.refusal ≡ None → One
  read_on none =
      let l = old.rules in
      let g = x.fills gifts s es a in
      let h = y.fills gifts s es a in
      let p = made gifts l s input es sites had columns has m old new none refl x.rules columns' before after f.used x.within g.cells g.taken f.stop g.stops in
      let q = made gifts l s input es sites had columns has m old new' none refl y.rules columns'' before after' f'.used y.within h.cells h.taken f'.stop
      h.stops in
      let same = same_outcome gifts l s input es sites had columns has columns' columns'' f.used f'.used f.stop f'.stop p.0 q.0 in record {
        used = same.1;
        stop = same.2;
        went = same_went;
        same = same.0;
        cells = p.0.cells;
        taken = p.0.taken;
        other = p.0.other;
        emitted = p.1;
        emitted' = subst (λ (z : List (ℕ × Event)). IsEmitted m f'.stop before after' z) same.3 q.1;
        conforms = p.2;
        conforms' = subst (λ (n : ℕ). AfterGifts gifts new' (s ++ take n input) (es ++ (p.0.cells ++ p.0.other))) same.1 (subst (λ (z : List (ℕ
            × Event)). AfterGifts gifts new' (s ++ take f'.used input) (es ++ z)) (λ i. same.4 i ++ same.3 i) q.2);
        refusal = y.refusal ∙ ap (λ (o : Option Refusal). refusal_after o f'.stop) none ∙ refusal_alike f.stop f'.stop same.2 ∙ sym (x.refusal
            ∙ ap (λ (o : Option Refusal). refusal_after o f.stop) none);
        rules = y.rules ∙ sym x.rules;
        given = y.given ∙ sym x.given;
      }

  by_refusal : (o : Option Refusal) → old.refusal ≡ o → One
  by_refusal None is = read_on is
  by_refusal (Some r) is = refused_before r is

module _ {S : Type 0} (m : sink.Ghosts S) where
  pub one_answer_of_read : OneAnswerOfRead m
  one_answer_of_read gifts s es sites had old new new' input columns columns' columns'' before after after' w w' f f' a has x y =
      by_refusal m gifts s es sites had old new new' input columns columns' columns'' before after after' w w' f f' a has x y old.refusal refl
