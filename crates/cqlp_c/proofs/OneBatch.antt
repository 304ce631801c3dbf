-- From one history, one input and one room there is one batch.
use Rattle.std.proofs.Common.{◌≡◌, ℕ, ◌≤◌, ◌<◌, List, [], ◌∷◌, ◌++◌, length, take, drop, refl, sym, ap, subst, ◌∙◌, append_assoc, append-nil, inl, inr, arith}
use Rattle.std.specs.Prelude.{Option, Some, None}
use Rattle.std.proofs.lemmas.Bool.{cases_lt}
use Rattle.std.proofs.lemmas.List.{length-append, nil_from_length}
use Rattle.std.specs.Ptr.{Ptr}
use denote.RawPtr.{◌+ₚ◌}
use Rattle.cqlp_note.specs.declared.refusal.Refusal.{Refusal}
use Rattle.cqlp_note.specs.Limits.{Rules}
use Rattle.cqlp_decode.specs.Reading.{Event, Gifts, Verdict, Waits, Refused, Says, start_with}
use Rattle.cqlp_decode.specs.Progress.{StreamState}
use Rattle.cqlp_decode.specs.Streams.{AfterGifts, Refuses}
use Rattle.cqlp_laws.specs.Contents.{content_in}
use Rattle.cqlp_laws.proofs.OneAnswer.{event_once, no_event}
use Rattle.cqlp_laws.proofs.Whole.{says_once}
use Rattle.cqlp_c.specs.declared.batch.Batch.{Batch}
use Rattle.cqlp_c.specs.declared.batch.Stop.{Stop}
use Rattle.cqlp_c.specs.declared.batch.Stop.TheVariants as stop
use Rattle.cqlp_c.specs.declared.event.CqlpEvent.{CqlpEvent}
use Rattle.cqlp_c.specs.Events.{before_gathered, written_at}
use Rattle.cqlp_c.specs.Batches.{AllInInput, Buffer, Fills, IsGathered, IsInInput, LastIsGathered, LiesBy, MayRefuse, OthersInInput, Put, Puts, StopsBy, WritesAll, WritesPut, end_of, events_of}
use Rattle.cqlp_c.specs.Handle.{PutsInto}
use Rattle.cqlp_c.specs.Laws.{AreOneAnswer, AreSame, unplaced}
use Rattle.cqlp_c.proofs.Fills.{others_of_all}

-- ---- events

module _ (begins : Ptr) (buffer buffer' : Buffer) where
  placed_once : (p : Put) (o : Option (List ℕ)) → IsInInput p → (x y : Ptr) → LiesBy begins buffer p o x → LiesBy begins buffer' p o y → y ≡ x
  placed_once p None lies x y a b = b ∙ sym a
  placed_once p (Some content) lies x y a b = b.0 lies ∙ sym (a.0 lies)

  -- where a content begins that was gathered
  gathered_once : (p : Put) (o : Option (List ℕ)) → buffer'.at ≡ buffer.at → IsGathered p → (x y : Ptr) → LiesBy begins buffer p o x → LiesBy begins buffer' p o y → y ≡ x
  gathered_once p None same lies x y a b = b ∙ sym a
  gathered_once p (Some content) same lies x y a b = (b.1 lies).there ∙ ap (λ (q : Ptr). q +ₚ before_gathered p.event) same ∙ sym (a.1 lies).there

  writes_once : (c d : CqlpEvent) (p : Put) → WritesPut begins buffer c p → WritesPut begins buffer' d p
      → (unplaced d ≡ unplaced c) × (IsInInput p → d ≡ c) × (buffer'.at ≡ buffer.at → IsGathered p → d ≡ c)
  writes_once c d p x y = (
    ap unplaced y.2 ∙ sym (ap unplaced x.2),
    λ lies. y.2 ∙ ap (written_at p.at p.event) (placed_once p (content_in p.event) lies x.0 y.0 x.1 y.1) ∙ sym x.2,
    λ same lies. y.2 ∙ ap (written_at p.at p.event) (gathered_once p (content_in p.event) same lies x.0 y.0 x.1 y.1) ∙ sym x.2,
  )

  writes_all_once : (cs ds : List CqlpEvent) (ps : List Put) → WritesAll begins buffer cs ps → WritesAll begins buffer' ds ps → AreSame buffer.at buffer'.at ps cs ds
  writes_all_once [] [] [] x y = tt
  writes_all_once [] (d ∷ ds) [] x y = absurd y
  writes_all_once (c ∷ cs) ds [] x y = absurd x
  writes_all_once [] ds (p ∷ ps) x y = absurd x
  writes_all_once (c ∷ cs) [] (p ∷ ps) x y = absurd y
  writes_all_once (c ∷ cs) (d ∷ ds) (p ∷ ps) x y = let head = writes_once c d p x.0 y.0 in (head.0, head.1, head.2, writes_all_once cs ds ps x.1 y.1)

-- ---- what was put

put_once : (gifts : Gifts) (l : Rules) (s input : List ℕ) (es : List (ℕ × Event)) (from : ℕ) (p q : Put) (ps qs : List Put) → Puts gifts l s input es from (p ∷ ps) → Puts gifts l s input es from (q ∷ qs) → q ≡ p
put_once gifts l s input es from p q ps qs x y =
    let one : (q.end ≡ p.end) × ◌≡◌ {A = ℕ × Event} (q.at, q.event) (p.at, p.event) = elim (cases_lt q.end p.end) [
      | inl lt ↦ let r = event_once gifts l s input es y.2.0 x.2.0 q.end p.end (q.at, q.event) (p.at, p.event) (omega arith) x.1 y.2.1 x.2.1 in (sym r.1, sym r.2)
      | inr le ↦ let r = event_once gifts l s input es x.2.0 y.2.0 p.end q.end (p.at, p.event) (q.at, q.event) le y.1 x.2.1 y.2.1 in (r.1, r.2)
    ] in
    let from' : q.from ≡ p.from = y.0 ∙ sym x.0 in
    λ i. record { at = (one.1 i).0; event = (one.1 i).1; from = from' i; end = one.0 i }

-- the longer goes on where the shorter ends
puts_compare : (gifts : Gifts) (l : Rules) (s input : List ℕ) (es : List (ℕ × Event)) (from : ℕ) (ps qs : List Put) → Puts gifts l s input es from ps → Puts gifts l s input es from qs → length ps ≤ length qs → (rest : List Put) × (qs ≡ ps ++ rest)
puts_compare gifts l s input es from [] qs x y le = (qs, refl)
puts_compare gifts l s input es from (p ∷ ps) [] x y le = absurd (omega (arith, le))
puts_compare gifts l s input es from (p ∷ ps) (q ∷ qs) x y le =
    let same = put_once gifts l s input es from p q ps qs x y in
    let tail = subst (λ (z : Put). Puts gifts l s input (es ++ (z.at, z.event) ∷ []) z.end qs) same y.3 in
    let r = puts_compare gifts l s input (es ++ (p.at, p.event) ∷ []) p.end ps qs x.3 tail (omega (arith, le)) in
    (r.0, λ i. same i ∷ r.1 i)

-- what comes after the first of them
puts_after : (gifts : Gifts) (l : Rules) (s input : List ℕ) (es : List (ℕ × Event)) (from : ℕ) (ps : List Put) (r : Put) (rest : List Put) → Puts gifts l s input es from (ps ++ r ∷ rest) → Puts gifts l s input (es ++ events_of ps) (end_of from ps) (r ∷ rest)
puts_after gifts l s input es from [] r rest x = subst (λ (z : List (ℕ × Event)). Puts gifts l s input z from (r ∷ rest)) (sym (append-nil es)) x
puts_after gifts l s input es from (p ∷ ps) r rest x =
    subst (λ (z : List (ℕ × Event)). Puts gifts l s input z (end_of p.end ps) (r ∷ rest)) (append_assoc es ((p.at, p.event) ∷ []) (events_of ps))
    (puts_after gifts l s input (es ++ (p.at, p.event) ∷ []) p.end ps r rest x.3)

none_after : (gifts : Gifts) (l : Rules) (s input : List ℕ) (es : List (ℕ × Event)) (v : Verdict) (ps : List Put) (r : Put) (rest : List Put) → Says l (start_with gifts) (s ++ input) (es ++ events_of ps) v → Puts gifts l s input es 0 (ps ++ r ∷ rest) → ⊥
none_after gifts l s input es v ps r rest all x =
    let next = puts_after gifts l s input es 0 ps r rest x in
    no_event gifts l s input (es ++ events_of ps) v next.2.0 r.end (r.at, r.event) all next.2.1

-- ---- where contents lie

gathered_then : (ps : List Put) (r : Put) (rest : List Put) → LastIsGathered ps → OthersInInput (ps ++ r ∷ rest) → ⊥
gathered_then [] r rest x y = x
gathered_then (p ∷ []) r rest x y = omega (arith, x, y.0)
gathered_then (p ∷ q ∷ ps) r rest x y = gathered_then (q ∷ ps) r rest x y.1

gathered_not : (ps : List Put) → LastIsGathered ps → AllInInput ps → ⊥
gathered_not [] x y = x
gathered_not (p ∷ []) x y = omega (arith, x, y.0)
gathered_not (p ∷ q ∷ ps) x y = gathered_not (q ∷ ps) x y.1

-- ---- how a batch ends, where nothing was refused before

has_room : (before : Option Refusal) → before ≡ None → (room : ℕ) (ps : List Put) (r : Refusal) → MayRefuse before room ps r → length ps < room
has_room before none room ps r (inl lt) = lt
has_room before none room ps r (inr is) = absurd (let e = sym none ∙ is in cc)

module _ (gifts : Gifts) (old : StreamState) (none : old.refusal ≡ None) (s input : List ℕ) (es : List (ℕ × Event)) (room : ℕ) where
  -- more is wanted, or this is refused, after these events
  abbrev Ended : StreamState → (used : ℕ) → List Put → Verdict → Type 0
  Ended new used ps v = (length ps < room) × AllInInput ps × Says old.rules (start_with gifts) (s ++ input) (es ++ events_of ps) v

  ended_more : (new : StreamState) (used : ℕ) (ps : List Put) → new.rules ≡ old.rules → StopsBy gifts old new s input es room used ps stop.More → Ended new used ps Waits
  ended_more new used ps rules x = (x.1, x.2, rw rules at x.4)

  ended_refused : (new : StreamState) (used : ℕ) (ps : List Put) (r : Refusal) → StopsBy gifts old new s input es room used ps (stop.Refused r) → Ended new used ps (Refused r.at r.why)
  ended_refused new used ps r x = (has_room old.refusal none room ps r x.1, x.2, subst (λ (o : Option Refusal). Refuses o gifts old s (es ++ events_of ps) input r) none x.4)

  others_in : (new : StreamState) (used : ℕ) (ps : List Put) (x : Stop) → StopsBy gifts old new s input es room used ps x → OthersInInput ps
  others_in new used ps stop.More x = others_of_all ps x.2
  others_in new used ps (stop.Refused r) x = others_of_all ps x.2
  others_in new used ps stop.Full x = x.1

  -- no answer has fewer events than another
  fewer_by : (new new' : StreamState) (used used' : ℕ) (ps : List Put) (r : Put) (rest : List Put) (x y : Stop) → new.rules ≡ old.rules → length (ps ++ r ∷ rest) ≤ room → Puts gifts old.rules s input es 0 (ps ++ r ∷ rest)
      → StopsBy gifts old new s input es room used ps x → StopsBy gifts old new' s input es room used' (ps ++ r ∷ rest) y → ⊥
  fewer_by new new' used used' ps r rest stop.More y rules few put x z = let e = ended_more new used ps rules x in none_after gifts old.rules s input es Waits ps r rest e.2 put
  fewer_by new new' used used' ps r rest (stop.Refused f) y rules few put x z = let e = ended_refused new used ps f x in none_after gifts old.rules s input es (Refused f.at f.why) ps r rest e.2 put
  fewer_by new new' used used' ps r rest stop.Full y rules few put x z = elim x.2 [
    | inl full ↦ omega (arith, full, few, length-append ps (r ∷ rest))
    | inr last ↦ gathered_then ps r rest last (others_in new' used' (ps ++ r ∷ rest) y z)
  ]

  full_not : (new : StreamState) (used : ℕ) (ps : List Put) → StopsBy gifts old new s input es room used ps stop.Full → length ps < room → AllInInput ps → ⊥
  full_not new used ps x few all = elim x.2 [
    | inl full ↦ omega (arith, full, few)
    | inr last ↦ gathered_not ps last all
  ]

  two_verdicts : (ps : List Put) (v w : Verdict) → Says old.rules (start_with gifts) (s ++ input) (es ++ events_of ps) v → Says old.rules (start_with gifts) (s ++ input) (es ++ events_of ps) w → w ≡ v
  two_verdicts ps v w x y = (says_once old.rules (start_with gifts) (s ++ input) (es ++ events_of ps) (es ++ events_of ps) v w x y).1

  same_refused : (r z : Refusal) → ◌≡◌ {A = Verdict} (Refused z.at z.why) (Refused r.at r.why) → z ≡ r
  same_refused r z same = let at : z.at ≡ r.at = cc in let why : z.why ≡ r.why = cc in λ i. record { at = at i; why = why i }

  -- and answers with the same events end the same way
  stop_once : (new new' : StreamState) (used used' : ℕ) (ps : List Put) (x y : Stop) → new.rules ≡ old.rules → new'.rules ≡ old.rules → StopsBy gifts old new s input es room used ps x → StopsBy gifts old new' s input es room used' ps y → (used' ≡ used) × (y ≡ x)
  stop_once new new' used used' ps stop.More stop.More a b x y = (y.0 ∙ sym x.0, refl)
  stop_once new new' used used' ps stop.More (stop.Refused r) a b x y =
      let same = two_verdicts ps Waits (Refused r.at r.why) (ended_more new used ps a x).2 (ended_refused new' used' ps r y).2 in absurd cc
  stop_once new new' used used' ps stop.More stop.Full a b x y = absurd (full_not new' used' ps y x.1 x.2)
  stop_once new new' used used' ps (stop.Refused r) stop.More a b x y =
      let same = two_verdicts ps Waits (Refused r.at r.why) (ended_more new' used' ps b y).2 (ended_refused new used ps r x).2 in absurd cc
  stop_once new new' used used' ps (stop.Refused r) (stop.Refused z) a b x y =
      let same = two_verdicts ps (Refused r.at r.why) (Refused z.at z.why) (ended_refused new used ps r x).2 (ended_refused new' used' ps z y).2 in
      (y.0 ∙ sym x.0, ap stop.Refused (same_refused r z same))
  stop_once new new' used used' ps (stop.Refused r) stop.Full a b x y = absurd (full_not new' used' ps y (has_room old.refusal none room ps r x.1) x.2)
  stop_once new new' used used' ps stop.Full stop.More a b x y = absurd (full_not new used ps x y.1 y.2)
  stop_once new new' used used' ps stop.Full (stop.Refused r) a b x y = absurd (full_not new used ps x (has_room old.refusal none room ps r y.1) y.2)
  stop_once new new' used used' ps stop.Full stop.Full a b x y = (y.0 ∙ sym x.0, refl)

  longer : (new new' : StreamState) (used used' : ℕ) (ps rest : List Put) (x y : Stop) → new.rules ≡ old.rules → length (ps ++ rest) ≤ room → Puts gifts old.rules s input es 0 (ps ++ rest) → length ps < length (ps ++ rest)
      → StopsBy gifts old new s input es room used ps x → StopsBy gifts old new' s input es room used' (ps ++ rest) y → ⊥
  longer new new' used used' ps [] x y rules few put lt a b = omega (arith, lt, length-append ps [])
  longer new new' used used' ps (r ∷ rest) x y rules few put lt a b = fewer_by new new' used used' ps r rest x y rules few put a b

  fewer_not : (new new' : StreamState) (used used' : ℕ) (ps qs : List Put) (x y : Stop) → new.rules ≡ old.rules → length qs ≤ room → Puts gifts old.rules s input es 0 ps → Puts gifts old.rules s input es 0 qs → length ps < length qs
      → StopsBy gifts old new s input es room used ps x → StopsBy gifts old new' s input es room used' qs y → ⊥
  fewer_not new new' used used' ps qs x y rules few p q lt a b =
      let c = puts_compare gifts old.rules s input es 0 ps qs p q (omega (arith, lt)) in
      longer new new' used used' ps c.0 x y rules (rw c.1 at few) (rw c.1 at q) (rw c.1 at lt) a (rw c.1 at b)

-- ---- one answer

same_batch : (b b' : Batch) → b'.used ≡ b.used → b'.events ≡ b.events → b'.stop ≡ b.stop → b' ≡ b
same_batch b b' used events stops = λ i. record { used = used i; events = events i; stop = stops i }

module _ (gifts : Gifts) (old new new' : StreamState) (s input : List ℕ) (begins : Ptr) (buffer buffer' : Buffer) (es : List (ℕ × Event)) (b b' : Batch) (before after after' : List CqlpEvent) (a : AfterGifts gifts old s es) (x : PutsInto old new input begins buffer b before after) (y : PutsInto old new' input begins buffer' b' before after') where
  f : Fills gifts old new s input begins buffer es (length before) b after
  f = x.fills gifts s es a

  g : Fills gifts old new' s input begins buffer' es (length before) b' after'
  g = y.fills gifts s es a

  answer : b' ≡ b → g.puts ≡ f.puts → OthersInInput f.puts → AreOneAnswer gifts new new' s input buffer buffer' es b b' after after'
  answer batch puts lie = record {
    batch = batch;
    puts = f.puts;
    events = writes_all_once begins buffer buffer' (take b.events after) (take b.events after') f.puts f.written (subst (λ (z : Batch). WritesAll begins buffer' (take z.events after') f.puts) batch (subst (λ (z : List Put). WritesAll begins buffer' (take b'.events after') z) puts g.written));
    lie = lie;
    others = subst (λ (z : Batch). drop z.events after' ≡ drop z.events before) batch y.others ∙ sym x.others;
    conforms = f.after;
    conforms_too = subst (λ (z : Batch). AfterGifts gifts new' (s ++ take z.used input) (es ++ events_of f.puts)) batch (subst (λ (z : List Put). AfterGifts gifts new' (s ++ take b'.used input) (es ++ events_of z)) puts g.after);
    rules = y.rules ∙ sym x.rules;
  }

  few : length f.puts ≤ length before
  few = omega (arith, f.count, x.within.1)

  few' : length g.puts ≤ length before
  few' = omega (arith, g.count, y.within.1)

  unrefused : old.refusal ≡ None → AreOneAnswer gifts new new' s input buffer buffer' es b b' after after'
  unrefused none = elim (cases_lt (length f.puts) (length g.puts)) [
    | inl lt ↦ absurd (fewer_not gifts old none s input es (length before) new new' b.used b'.used f.puts g.puts b.stop b'.stop x.rules few' f.put g.put lt f.stops g.stops)
    | inr le ↦ elim (cases_lt (length g.puts) (length f.puts)) [
      | inl lt ↦ absurd (fewer_not gifts old none s input es (length before) new' new b'.used b.used g.puts f.puts b'.stop b.stop y.rules few g.put f.put lt g.stops f.stops)
      | inr le' ↦
          let c = puts_compare gifts old.rules s input es 0 f.puts g.puts f.put g.put le' in
          let empty : c.0 ≡ [] = nil_from_length c.0 (omega (arith, le, ap length c.1, length-append f.puts c.0)) in
          let puts : g.puts ≡ f.puts = c.1 ∙ ap (λ (z : List Put). f.puts ++ z) empty ∙ append-nil f.puts in
          let once = stop_once gifts old none s input es (length before) new new' b.used b'.used f.puts b.stop b'.stop x.rules y.rules f.stops (rw puts at g.stops) in
          answer (same_batch b b' once.0 (sym g.count ∙ ap length puts ∙ f.count) once.1) puts (others_in gifts old none s input es (length before) new b.used f.puts b.stop f.stops)
    ]
  ]

  refused : (r : Refusal) → old.refusal ≡ Some r → AreOneAnswer gifts new new' s input buffer buffer' es b b' after after'
  refused r is =
      let p = x.refused r is in
      let q = y.refused r is in
      let batch : b' ≡ b = q.0 ∙ sym p.0 in
      let one = nil_from_length f.puts (f.count ∙ ap (λ (z : Batch). z.events) p.0) in
      let two = nil_from_length g.puts (g.count ∙ ap (λ (z : Batch). z.events) q.0) in
      answer batch (two ∙ sym one) (subst OthersInInput (sym one) tt)

  by_refusal : (o : Option Refusal) → old.refusal ≡ o → AreOneAnswer gifts new new' s input buffer buffer' es b b' after after'
  by_refusal None is = unrefused is
  by_refusal (Some r) is = refused r is

  pub one_answer : AreOneAnswer gifts new new' s input buffer buffer' es b b' after after'
  one_answer = by_refusal old.refusal refl
