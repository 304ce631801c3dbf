-- The bytes of a packet, and the numbers of interfaces.
use Rattle.std.proofs.Common.{◌≡◌, ℕ, List, [], ◌∷◌, ◌++◌, length, take, drop, sym, ap, subst, ◌∙◌, arith}
use Rattle.std.specs.Prelude.{Option, Some}
use Rattle.std.proofs.lemmas.List.{length-take-le}
use Rattle.cqlp_capture.specs.declared.event.InterfaceHead.{InterfaceHead}
use Rattle.cqlp_capture.specs.declared.event.PacketHead.{PacketHead}
use Rattle.cqlp_capture.specs.declared.limits.CaptureLimits.{CaptureLimits}
use Rattle.cqlp_capture.specs.Laws.{BeginsAfterHead, count_from}
use Rattle.cqlp_capture.specs.Reading.{Event, Bytes, Interface, Packet, Emitted, Spot, after_emission, event_if, wanted, start, heard, heard_first, Reads, Hears}
use Rattle.cqlp_capture.proofs.Tests.{Fits}
use Rattle.cqlp_capture.proofs.Leading.{IsDataOf, Leads, data_read, read_leads}
use Rattle.cqlp_capture.proofs.Runs.{IsAt, Yields, got_yields, heard_split, reads_at, reads_split}
use Rattle.cqlp_capture.proofs.Whole.{at_start}

-- a step among others: where it is taken, and what is emitted there
pub record Taken (l : CaptureLimits) (s : List ℕ) (es : List (ℕ × Event)) (at : ℕ) (e : Event) (fs : List (ℕ × Event)) : Type 0 where
  pub spot : Spot
  pub mid : List ℕ
  pub used : ℕ
  pub after : Spot
  pub steps : List (ℕ × Option Event)
  pub front : heard steps ≡ es
  pub here : IsAt start l s steps spot mid
  pub yields : Yields l spot mid (record { at = at; event = Some e; after = after }) used
  pub leads : Leads l spot.known spot.place.offset spot.place.stage (take (wanted spot.place.stage) mid) yields.emission_is
  pub later : List (ℕ × Option Event)
  pub back : heard later ≡ fs
  pub end : Spot
  pub rest : List ℕ
  pub reads : Reads l after (drop used mid) later end rest

yields_long : (l : CaptureLimits) (p : Spot) (bytes : List ℕ) (x : Emitted) (used : ℕ) → Yields l p bytes x used → length (take (wanted p.place.stage) bytes) ≡ wanted p.place.stage
yields_long l p bytes x used t = length-take-le (wanted p.place.stage) bytes (let c = t.count in let w = t.within in omega arith)

taken : (l : CaptureLimits) (fits : Fits l) (s rest : List ℕ) (es : List (ℕ × Event)) (at : ℕ) (e : Event) (fs : List (ℕ × Event)) (q : Spot) → Hears l start s (es ++ (at, e) ∷ fs) q rest → Taken l s es at e fs
taken l fits s rest es at e fs q run =
    let split = heard_split run.steps es at e fs run.events in
    let reads = subst (λ (z : List (ℕ × Option Event)). Reads l start s z q rest) split.is run.reads in
    let two = reads_split l start q s rest split.before ((at, Some e) ∷ split.after) reads in
    let here = reads_at l fits start two.0 s two.1 split.before (at_start l) two.2 in
    let yields = got_yields l two.0 two.1 _ two.3.0 two.3.2 in
    record {
      spot = two.0;
      mid = two.1;
      used = two.3.0;
      after = two.3.1;
      steps = split.before;
      front = split.front;
      here = here;
      yields = yields;
      leads = read_leads l fits two.0 (take (wanted two.0.place.stage) two.1) yields.emission_is here.near (yields_long l two.0 two.1 _ two.3.0 yields) yields.is;
      later = split.after;
      back = split.back;
      end = q;
      rest = rest;
      reads = two.3.3;
    }

module _ (l : CaptureLimits) (fits : Fits l) (s rest : List ℕ) (es : List (ℕ × Event)) (q : Spot) (at : ℕ) where
  pub bytes_there : (b : List ℕ) → Hears l start s (es ++ (at, Bytes b) ∷ []) q rest → b ≡ take (length b) (drop at s)
  bytes_there b run =
      let k = taken l fits s rest es at (Bytes b) [] q run in
      let m = k.spot in
      let n = wanted m.place.stage in
      let c = take n k.mid in
      let long : length c ≡ n = yields_long l m k.mid _ k.used k.yields in
      let event : event_if k.yields.emission_is.what c ≡ Some (Bytes b) = sym (ap (λ (x : Emitted). x.event) k.yields.emits) in
      let same = k.leads.bytes b event in
      let at_is : at ≡ m.place.offset = ap (λ (x : Emitted). x.at) k.yields.emits ∙ same.0 in
      let size : n ≡ length b = sym long ∙ sym (ap length same.1) in
      let from : k.mid ≡ drop at s = k.here.is ∙ ap (λ (z : ℕ). drop z s) (let z = at_is in omega arith) in
      same.1 ∙ ap (λ (z : List ℕ). take n z) from ∙ ap (λ (z : ℕ). take z (drop at s)) size

  pub numbered : (i : InterfaceHead) → Hears l start s (es ++ (at, Interface i) ∷ []) q rest → i.number ≡ count_from 0 es
  numbered i run =
      let k = taken l fits s rest es at (Interface i) [] q run in
      let event : event_if k.yields.emission_is.what (take (wanted k.spot.place.stage) k.mid) ≡ Some (Interface i) = sym (ap (λ (x : Emitted). x.event) k.yields.emits) in
      k.leads.numbered i event ∙ k.here.counted ∙ ap (count_from 0) k.front

  -- the step after a packet's head says its bytes
  follows : (h : PacketHead) (next : ℕ) (e : Event) (p : Spot) (left : List ℕ) (end : Spot) (tail : List ℕ) → IsDataOf p.place.stage h.captured → BeginsAfterHead at p.place.offset h → (later : List (ℕ × Option Event)) → heard later ≡ (next, e) ∷ [] → Reads l p left later end tail → (b : List ℕ) × (e ≡ Bytes b) × (length b ≡ h.captured) × BeginsAfterHead at next h
  follows h next e p left end tail due begins [] is reads = absurd (let no : 0 ≡ 1 = ap length is in omega arith)
  follows h next e p left end tail due begins (x ∷ later) is reads =
      let u = got_yields l p left _ reads.0 reads.2 in
      let b = take (wanted p.place.stage) left in
      let emission = data_read l p.known p.place.offset h.captured p.place.stage b u.emission_is due (yields_long l p left _ reads.0 u) u.is in
      let event : x.1 ≡ Some (Bytes b) = ap (λ (y : Emitted). y.event) u.emits ∙ emission.0 in
      let where_at : x.0 ≡ p.place.offset = ap (λ (y : Emitted). y.at) u.emits ∙ emission.2 in
      let first : (x.0, Bytes b) ∷ heard later ≡ (next, e) ∷ [] = sym (ap (λ (o : Option Event). heard_first x.0 o (heard later)) event) ∙ is in
      let head : ◌≡◌ {A = ℕ × Event} (x.0, Bytes b) (next, e) = cc in
      let place : p.place.offset ≡ next = sym where_at ∙ ap (λ (z : ℕ × Event). z.0) head in
      (b, sym (ap (λ (z : ℕ × Event). z.1) head), emission.1, subst (λ (z : ℕ). BeginsAfterHead at z h) place begins)

  pub bytes_after_head : (h : PacketHead) (next : ℕ) (e : Event) → Hears l start s (es ++ (at, Packet h) ∷ (next, e) ∷ []) q rest → (b : List ℕ) × (e ≡ Bytes b) × (length b ≡ h.captured) × BeginsAfterHead at next h
  bytes_after_head h next e run =
      let k = taken l fits s rest es at (Packet h) ((next, e) ∷ []) q run in
      let event : event_if k.yields.emission_is.what (take (wanted k.spot.place.stage) k.mid) ≡ Some (Packet h) = sym (ap (λ (x : Emitted). x.event) k.yields.emits) in
      let head = k.leads.head h event in
      let at_is : at ≡ k.yields.emission_is.at = ap (λ (x : Emitted). x.at) k.yields.emits in
      let after : k.after ≡ after_emission k.spot.known k.yields.emission_is = ap (λ (x : Emitted). x.after) k.yields.emits in
      let due : IsDataOf k.after.place.stage h.captured = subst (λ (z : Spot). IsDataOf z.place.stage h.captured) (sym after) head.1 in
      let begins : BeginsAfterHead at k.after.place.offset h = subst (λ (z : Spot). BeginsAfterHead at z.place.offset h) (sym after) (subst (λ (z : ℕ). BeginsAfterHead z k.yields.emission_is.place.offset h) (sym at_is) head.0) in
      follows h next e k.after (drop k.used k.mid) k.end k.rest due begins k.later k.back k.reads
