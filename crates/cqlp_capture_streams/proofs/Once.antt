-- What bytes hold is one list.
use Rattle.std.proofs.Common.{◌≡◌, ◌∙◌, ℕ, true, List, [], ◌∷◌, ◌++◌, Option, Some, None, Result, Ok, Err, refl, sym, ap, subst}
use Rattle.cqlp_tcp_reassembly.specs.declared.step.StreamStep.{StreamStep}
use Rattle.cqlp_tcp_reassembly.specs.declared.step.StreamStep.TheVariants as step
use Rattle.cqlp_capture.specs.Reading.{Event, Section, Interface, Packet, Bytes, Skipped}
use Rattle.cqlp_tcp_segment.specs.declared.reason.NoSegment.{NoSegment}
use Rattle.cqlp_tcp_segment.specs.Segment.{Seen}
use Rattle.cqlp_tcp_connections.specs.declared.ends.Way.{Way}
use Rattle.cqlp_tcp_connections.specs.declared.delivery.Delivery.{Delivery}
use Rattle.cqlp_tcp_connections.specs.declared.delivery.Departure.{Departure}
use Rattle.cqlp_tcp_connections.specs.declared.delivery.Departure.TheVariants as departure
use Rattle.cqlp_tcp_connections.specs.declared.delivery.Admission.{Admission}
use Rattle.cqlp_tcp_connections.specs.declared.delivery.Admission.TheVariants as admission
use Rattle.cqlp_tcp_connections.specs.declared.totals.ConnectionTotals.{ConnectionTotals}
use Rattle.cqlp_tcp_connections.specs.Tables.{Departing, Pulling, Table, Taking, departing, finished, left, pulled, pulling, taking}
use Rattle.cqlp_capture_streams.specs.ConnectionEvents.{ConnectionEvent, Packet, New, Of, Left}
use Rattle.cqlp_capture_streams.specs.Reportings.{Departs, FinishesAll, HandsOn, Leaves, Parts, Path, Pulls, PullsAll, StillReports, ReportsAgain, ReportsFirst, ReportsOf, ReportsSeen, ReportsTimed, beginning}
use Rattle.cqlp_packet_order.specs.Packets as kept
use Rattle.cqlp_packet_order.specs.Orders.{Order, Release, arrived, due_left, first_left, releasing}
use Rattle.cqlp_capture_streams.specs.Packets.{Finishes, Hands, HandsAll, HandsEach, SplitState, ReportsEvent, ReportsEvents, ReportsPacket, ReportsRead, is_snapped, packet_begun, segment_in, with_order, with_segment, with_table}

-- ---- steps

-- Two paths of steps, each of which is one, are the same, where no step goes on from their ends.
module _ {S X : Type 0} (Step : S → X → S → Type 0) (Stop : S → Type 0) (one : (s t t' : S) (x x' : X) → Step s x t → Step s x' t' → (x' ≡ x) × (t' ≡ t)) (stops : (s t : S) (x : X) → Step s x t → Stop s → ⊥) where
  pub path_once : (xs ys : List X) (s t u : S) → Path Step s xs t → Stop t → Path Step s ys u → Stop u → (ys ≡ xs) × (u ≡ t)
  path_once [] [] s t u p a q b = (refl, q ∙ sym p)
  path_once [] (y ∷ ys) s t u p a q b = absurd (stops s q.0 y q.1 (subst Stop p a))
  path_once (x ∷ xs) [] s t u p a q b = absurd (stops s p.0 x p.1 (subst Stop q b))
  path_once (x ∷ xs) (y ∷ ys) s t u p a q b =
      let same = one s p.0 q.0 x y p.1 q.1 in
      let rest = path_once xs ys p.0 t u p.2 a (subst (λ z. Path Step z ys u) same.1 q.2) b in
      (λ i. same.0 i ∷ rest.0 i, rest.1)

-- ---- bytes that are handed on

hands_once : (s : StreamStep) (way : Way) (payload : List ℕ) (t u u' : Table) (b b' : List ℕ) → HandsOn s way payload t b u → HandsOn s way payload t b' u' → (b' ≡ b) × (u' ≡ u)
hands_once (step.Payload f n) way payload t u u' b b' a a' = (a'.0 ∙ sym a.0, a'.1 ∙ sym a.1)
hands_once (step.Held time begins) way payload t u u' b b' a a' = (a'.0 ∙ sym a.0, a'.1 ∙ sym a.1)
hands_once (step.Began syn) way payload t u u' b b' a a' = (a'.0 ∙ sym a.0, a'.1 ∙ sym a.1)
hands_once (step.Gap n cause time) way payload t u u' b b' a a' = (a'.0 ∙ sym a.0, a'.1 ∙ sym a.1)
hands_once step.Kept way payload t u u' b b' a a' = (a'.0 ∙ sym a.0, a'.1 ∙ sym a.1)
hands_once step.Ended way payload t u u' b b' a a' = (a'.0 ∙ sym a.0, a'.1 ∙ sym a.1)
hands_once step.Reset way payload t u u' b b' a a' = (a'.0 ∙ sym a.0, a'.1 ∙ sym a.1)
hands_once step.Done way payload t u u' b b' a a' = (a'.0 ∙ sym a.0, a'.1 ∙ sym a.1)

-- so is what is reported with them
delivered_once : (delivered delivered' : Delivery) (payload : List ℕ) (m m' u u' : Table) (b b' : List ℕ) → delivered' ≡ delivered → m' ≡ m → HandsOn delivered.step delivered.way payload m b u → HandsOn delivered'.step delivered'.way payload m' b' u' → (Of delivered' b' ≡ Of delivered b) × (u' ≡ u)
delivered_once delivered delivered' payload m m' u u' b b' same after a a' =
    let there = subst (λ (z : Delivery). HandsOn z.step z.way payload m b' u') same (subst (λ (z : Table). HandsOn delivered'.step delivered'.way payload z b' u') after a') in
    let one = hands_once delivered.step delivered.way payload m u u' b b' a there in
    (λ i. Of (same i) (one.0 i), one.1)

-- ---- what a segment delivers

some_delivered : (x y : Delivery) → ◌≡◌ {A = Option Delivery} (Some x) (Some y) → x ≡ y
some_delivered x y e = cc

pulls_once : (g : Seen) (time : Option ℕ) (t u u' : Table) (s s' : ConnectionEvent) → Pulls g time t s u → Pulls g time t s' u' → (s' ≡ s) × (u' ≡ u)
pulls_once g time t u u' (Of delivered b) (Of delivered' b') a a' =
    let same = a'.1 ∙ sym a.1 in
    delivered_once delivered delivered' g.payload a.0 a'.0 u u' b b' (some_delivered delivered' delivered (ap (λ (z : Pulling). z.delivered) same)) (ap (λ (z : Pulling). z.after) same) a.2 a'.2
pulls_once g time t u u' (Of delivered b) (New n) a a' = absurd a'
pulls_once g time t u u' (Of delivered b) (Packet n) a a' = absurd a'
pulls_once g time t u u' (Of delivered b) (Left c) a a' = absurd a'
pulls_once g time t u u' (New n) s' a a' = absurd a
pulls_once g time t u u' (Packet n) s' a a' = absurd a
pulls_once g time t u u' (Left c) s' a a' = absurd a

abbrev HasPulled : Seen → Option ℕ → Table → Type 0
HasPulled g time t = (v : Table) × (pulling None v ≡ pulled g time t)

pulls_stop : (g : Seen) (time : Option ℕ) (t u : Table) (s : ConnectionEvent) → Pulls g time t s u → HasPulled g time t → ⊥
pulls_stop g time t u (Of delivered b) a stop = let no : ◌≡◌ {A = Option Delivery} (Some delivered) None = ap (λ (z : Pulling). z.delivered) (a.1 ∙ sym stop.1) in absurd cc
pulls_stop g time t u (New n) a stop = absurd a
pulls_stop g time t u (Packet n) a stop = absurd a
pulls_stop g time t u (Left c) a stop = absurd a

pulls_all_once : (g : Seen) (time : Option ℕ) (t u u' : Table) (ss ss' : List ConnectionEvent) → PullsAll true g time t ss u → PullsAll true g time t ss' u' → (ss' ≡ ss) × (u' ≡ u)
pulls_all_once g time t u u' ss ss' a a' =
    let one = path_once (Pulls g time) (HasPulled g time) (pulls_once g time) (pulls_stop g time) ss ss' t a.0 a'.0 a.1 (u, a.2) a'.1 (u', a'.2) in
    (one.0, ap (λ (z : Pulling). z.after) (a'.2 ∙ ap (pulled g time) one.1 ∙ sym a.2))

-- ---- what connections deliver that leave

delivered_departure : (x y : Delivery) → ◌≡◌ {A = Departure} (departure.Delivery x) (departure.Delivery y) → x ≡ y
delivered_departure x y e = cc

left_departure : (x y : ConnectionTotals) → ◌≡◌ {A = Departure} (departure.Left x) (departure.Left y) → x ≡ y
left_departure x y e = cc

module _ (leaves : Table → Departing) where
  still_once : (t u u' : Table) (s s' : ConnectionEvent) → StillReports leaves t s u → StillReports leaves t s' u' → (s' ≡ s) × (u' ≡ u)
  still_once t u u' (Of delivered b) (Of delivered' b') a a' =
      let same = a'.1 ∙ sym a.1 in
      delivered_once delivered delivered' [] a.0 a'.0 u u' b b' (delivered_departure delivered' delivered (ap (λ (z : Departing). z.departure) same)) (ap (λ (z : Departing). z.after) same) a.2 a'.2
  still_once t u u' (Of delivered b) (New n) a a' = absurd a'
  still_once t u u' (Of delivered b) (Packet n) a a' = absurd a'
  still_once t u u' (Of delivered b) (Left c) a a' = absurd a'
  still_once t u u' (New n) s' a a' = absurd a
  still_once t u u' (Packet n) s' a a' = absurd a
  still_once t u u' (Left c) s' a a' = absurd a

  -- it has left, or there is none
  abbrev IsLast : Departure → Type 0
  IsLast (departure.Delivery delivered) = ⊥
  IsLast (departure.Left c) = Unit {0}
  IsLast departure.Empty = Unit {0}

  abbrev HasEmitted : Table → Type 0
  HasEmitted t = (d : Departure) × (v : Table) × (departing d v ≡ leaves t) × IsLast d

  still_stop : (t u : Table) (s : ConnectionEvent) → StillReports leaves t s u → HasEmitted t → ⊥
  still_stop t u (Of delivered b) a stop = subst IsLast (ap (λ (z : Departing). z.departure) (stop.2 ∙ sym a.1)) stop.3
  still_stop t u (New n) a stop = absurd a
  still_stop t u (Packet n) a stop = absurd a
  still_stop t u (Left c) a stop = absurd a

  parts_stop : (t u : Table) (last : List ConnectionEvent) → Parts leaves t last u → HasEmitted t
  parts_stop t u [] a = (departure.Empty, u, a, tt)
  parts_stop t u (Left c ∷ []) a = (departure.Left c, u, a, tt)
  parts_stop t u (Left c ∷ x ∷ xs) a = absurd a
  parts_stop t u (New n ∷ xs) a = absurd a
  parts_stop t u (Packet n ∷ xs) a = absurd a
  parts_stop t u (Of delivered b ∷ xs) a = absurd a

  parts_once : (t u u' : Table) (last last' : List ConnectionEvent) → Parts leaves t last u → Parts leaves t last' u' → (last' ≡ last) × (u' ≡ u)
  parts_once t u u' [] [] a a' = (refl, ap (λ (z : Departing). z.after) (a' ∙ sym a))
  parts_once t u u' [] (Left c ∷ []) a a' = let no : ◌≡◌ {A = Departure} (departure.Left c) departure.Empty = ap (λ (z : Departing). z.departure) (a' ∙ sym a) in absurd cc
  parts_once t u u' [] (Left c ∷ x ∷ xs) a a' = absurd a'
  parts_once t u u' [] (New n ∷ xs) a a' = absurd a'
  parts_once t u u' [] (Packet n ∷ xs) a a' = absurd a'
  parts_once t u u' [] (Of delivered b ∷ xs) a a' = absurd a'
  parts_once t u u' (Left c ∷ []) [] a a' = let no : ◌≡◌ {A = Departure} departure.Empty (departure.Left c) = ap (λ (z : Departing). z.departure) (a' ∙ sym a) in absurd cc
  parts_once t u u' (Left c ∷ []) (Left c' ∷ []) a a' =
      let same = a' ∙ sym a in
      let one = left_departure c' c (ap (λ (z : Departing). z.departure) same) in
      (λ i. Left (one i) ∷ [], ap (λ (z : Departing). z.after) same)
  parts_once t u u' (Left c ∷ []) (Left c' ∷ x ∷ xs) a a' = absurd a'
  parts_once t u u' (Left c ∷ []) (New n ∷ xs) a a' = absurd a'
  parts_once t u u' (Left c ∷ []) (Packet n ∷ xs) a a' = absurd a'
  parts_once t u u' (Left c ∷ []) (Of delivered b ∷ xs) a a' = absurd a'
  parts_once t u u' (Left c ∷ x ∷ xs) last' a a' = absurd a
  parts_once t u u' (New n ∷ xs) last' a a' = absurd a
  parts_once t u u' (Packet n ∷ xs) last' a a' = absurd a
  parts_once t u u' (Of delivered b ∷ xs) last' a a' = absurd a

both : (front front' last last' ss ss' : List ConnectionEvent) → ss ≡ front ++ last → ss' ≡ front' ++ last' → front' ≡ front → last' ≡ last → ss' ≡ ss
both front front' last last' ss ss' a a' f l = a' ∙ (λ i. f i ++ l i) ∙ sym a

leaves_once : (t u u' : Table) (ss ss' : List ConnectionEvent) → Leaves true t ss u → Leaves true t ss' u' → (ss' ≡ ss) × (u' ≡ u)
leaves_once t u u' ss ss' a a' =
    let one = path_once (StillReports left) (HasEmitted left) (still_once left) (still_stop left) a.1 a'.1 t a.0 a'.0 a.4 (parts_stop left a.0 u a.2 a.5) a'.4 (parts_stop left a'.0 u' a'.2 a'.5) in
    let last = parts_once left a.0 u u' a.2 a'.2 a.5 (subst (λ (z : Table). Parts left z a'.2 u') one.1 a'.5) in
    (both a.1 a'.1 a.2 a'.2 ss ss' a.3 a'.3 one.0 last.0, last.1)

departs_once : (t u u' : Table) (s s' : ConnectionEvent) → Departs t s u → Departs t s' u' → (s' ≡ s) × (u' ≡ u)
departs_once t u u' (Of delivered b) (Of delivered' b') a a' = still_once finished t u u' (Of delivered b) (Of delivered' b') a a'
departs_once t u u' (Of delivered b) (Left c) a a' = let no : ◌≡◌ {A = Departure} (departure.Left c) (departure.Delivery delivered) = ap (λ (z : Departing). z.departure) (a' ∙ sym a.1) in absurd cc
departs_once t u u' (Of delivered b) (New n) a a' = absurd a'
departs_once t u u' (Of delivered b) (Packet n) a a' = absurd a'
departs_once t u u' (Left c) (Left c') a a' =
    let same = a' ∙ sym a in
    (ap (λ z. Left z) (left_departure c' c (ap (λ (z : Departing). z.departure) same)), ap (λ (z : Departing). z.after) same)
departs_once t u u' (Left c) (Of delivered b) a a' = let no : ◌≡◌ {A = Departure} (departure.Delivery delivered) (departure.Left c) = ap (λ (z : Departing). z.departure) (a'.1 ∙ sym a) in absurd cc
departs_once t u u' (Left c) (New n) a a' = absurd a'
departs_once t u u' (Left c) (Packet n) a a' = absurd a'
departs_once t u u' (New n) s' a a' = absurd a
departs_once t u u' (Packet n) s' a a' = absurd a

abbrev AllLeft : Table → Type 0
AllLeft t = (v : Table) × (departing departure.Empty v ≡ finished t)

departs_stop : (t u : Table) (s : ConnectionEvent) → Departs t s u → AllLeft t → ⊥
departs_stop t u (Of delivered b) a stop = let no : ◌≡◌ {A = Departure} departure.Empty (departure.Delivery delivered) = ap (λ (z : Departing). z.departure) (stop.1 ∙ sym a.1) in absurd cc
departs_stop t u (Left c) a stop = let no : ◌≡◌ {A = Departure} departure.Empty (departure.Left c) = ap (λ (z : Departing). z.departure) (stop.1 ∙ sym a) in absurd cc
departs_stop t u (New n) a stop = absurd a
departs_stop t u (Packet n) a stop = absurd a

finishes_all_once : (t u u' : Table) (ss ss' : List ConnectionEvent) → FinishesAll true t ss u → FinishesAll true t ss' u' → (ss' ≡ ss) × (u' ≡ u)
finishes_all_once t u u' ss ss' a a' =
    let one = path_once Departs AllLeft departs_once departs_stop ss ss' t a.0 a'.0 a.1 (u, a.2) a'.1 (u', a'.2) in
    (one.0, ap (λ (z : Departing). z.after) (a'.2 ∙ ap finished one.1 ∙ sym a.2))

-- ---- what a packet reports

seen_once : (s : Admission) (g : Seen) (time : Option ℕ) (t u u' : Table) (ss ss' : List ConnectionEvent) → ReportsSeen s true g time t ss u → ReportsSeen s true g time t ss' u' → (ss' ≡ ss) × (u' ≡ u)
seen_once admission.Foreign g time t u u' ss ss' a a' = (a'.0 ∙ sym a.0, a'.1 ∙ sym a.1)
seen_once (admission.Taken n way is_new) g time t u u' ss ss' a a' =
    let one = pulls_all_once g time t u u' a.0 a'.0 a.2 a'.2 in
    (both (beginning is_new n) (beginning is_new n) a.0 a'.0 ss ss' a.1 a'.1 refl one.0, one.1)
seen_once (admission.Crowded n is_full) g time t u u' ss ss' a a' = (a'.0 ∙ sym a.0, a'.1 ∙ sym a.1)

seen_same : (s s' : Admission) (g : Seen) (time : Option ℕ) (t t' u u' : Table) (ss ss' : List ConnectionEvent) → taking s' t' ≡ taking s t → ReportsSeen s true g time t ss u → ReportsSeen s' true g time t' ss' u' → (ss' ≡ ss) × (u' ≡ u)
seen_same s s' g time t t' u u' ss ss' e a a' = seen_once s g time t u u' ss ss' a (subst (λ (z : Taking). ReportsSeen z.admission true g time z.after ss' u') e a')

again_once : (g : Seen) (time : Option ℕ) (t u u' : Table) (ss ss' : List ConnectionEvent) → ReportsAgain true g time t ss u → ReportsAgain true g time t ss' u' → (ss' ≡ ss) × (u' ≡ u)
again_once g time t u u' ss ss' a a' = seen_same a.0 a'.0 g time a.1 a'.1 u u' ss ss' (a'.2 ∙ sym a.2) a.3 a'.3

first_once : (s : Admission) (g : Seen) (time : Option ℕ) (t u u' : Table) (ss ss' : List ConnectionEvent) → ReportsFirst s true g time t ss u → ReportsFirst s true g time t ss' u' → (ss' ≡ ss) × (u' ≡ u)
first_once admission.Foreign g time t u u' ss ss' a a' = seen_once admission.Foreign g time t u u' ss ss' a a'
first_once (admission.Taken n way is_new) g time t u u' ss ss' a a' = seen_once (admission.Taken n way is_new) g time t u u' ss ss' a a'
first_once (admission.Crowded n is_full) g time t u u' ss ss' a a' =
    let one = leaves_once t a.0 a'.0 a.1 a'.1 a.4 a'.4 in
    let rest = again_once g time a.0 u u' a.2 a'.2 a.5 (subst (λ (z : Table). ReportsAgain true g time z a'.2 u') one.1 a'.5) in
    (both a.1 a'.1 a.2 a'.2 ss ss' a.3 a'.3 one.0 rest.0, rest.1)

of_once : (g : Seen) (time : Option ℕ) (t u u' : Table) (ss ss' : List ConnectionEvent) → ReportsOf true g time t ss u → ReportsOf true g time t ss' u' → (ss' ≡ ss) × (u' ≡ u)
of_once g time t u u' ss ss' a a' = first_once a.0 g time a.1 u u' ss ss' a.3 (subst (λ (z : Taking). ReportsFirst z.admission true g time z.after ss' u') (a'.2 ∙ sym a.2) a'.3)

timed_once : (time : Option ℕ) (g : Seen) (t u u' : Table) (ss ss' : List ConnectionEvent) → ReportsTimed true time g t ss u → ReportsTimed true time g t ss' u' → (ss' ≡ ss) × (u' ≡ u)
timed_once time g t u u' ss ss' a a' =
    let one = of_once g time t u u' a.0 a'.0 a.2 a'.2 in
    (a'.1 ∙ ap (λ z. Packet time ∷ z) one.0 ∙ sym a.1, one.1)

read_once : (r : Result Seen NoSegment) (time : Option ℕ) (s u u' : SplitState) (ss ss' : List ConnectionEvent) → ReportsRead r time true s ss u → ReportsRead r time true s ss' u' → (ss' ≡ ss) × (u' ≡ u)
read_once (Ok g) time s u u' ss ss' a a' =
    let one = timed_once time g s.table u.table u'.table ss ss' a.0 a'.0 in
    (one.0, a'.1 ∙ ap (λ (z : Table). record s { table = z; counts = with_segment (is_snapped s.table g) s.counts }) one.1 ∙ sym a.1)
read_once (Err why) time s u u' ss ss' a a' = (a'.0 ∙ sym a.0, a'.1 ∙ sym a.1)

-- ---- packets that leave the window

some_packet : (x y : kept.Packet) → ◌≡◌ {A = Option kept.Packet} (Some x) (Some y) → x ≡ y
some_packet x y e = cc

module _ (leaves : Order → Release) where
  hands_same : (s u u' : SplitState) (p p' : kept.Packet) (ss ss' : List ConnectionEvent) → Hands leaves true s p ss u → Hands leaves true s p' ss' u' → (p' ≡ p) × (ss' ≡ ss) × (u' ≡ u)
  hands_same s u u' p p' ss ss' a a' =
      let same = a'.1 ∙ sym a.1 in
      let packets = some_packet p' p (ap (λ (z : Release). z.packet) same) in
      let orders = ap (λ (z : Release). z.order) same in
      let there = subst (λ (z : kept.Packet). ReportsPacket z true (with_order a'.0 s) ss' u') packets a'.2 in
      let here = subst (λ (z : Order). ReportsPacket p true (with_order z s) ss' u') orders there in
      let one = read_once (segment_in p) p.time (with_order a.0 s) u u' ss ss' a.2 here in
      (packets, one.0, one.1)

  abbrev NoneLeaves : SplitState → Type 0
  NoneLeaves s = releasing None s.order ≡ leaves s.order

  hands_stop : (s u : SplitState) (p : kept.Packet) (ss : List ConnectionEvent) → Hands leaves true s p ss u → NoneLeaves s → ⊥
  hands_stop s u p ss a none = let no : ◌≡◌ {A = Option kept.Packet} (Some p) None = ap (λ (z : Release). z.packet) (a.1 ∙ sym none) in cc

  each_once : (s u u' : SplitState) (ps ps' : List kept.Packet) (ss ss' : List ConnectionEvent) → HandsEach leaves s ps ss u → NoneLeaves u → HandsEach leaves s ps' ss' u' → NoneLeaves u' → (ss' ≡ ss) × (u' ≡ u)
  each_once s u u' [] [] ss ss' a n a' n' = (a'.0 ∙ sym a.0, a'.1 ∙ sym a.1)
  each_once s u u' [] (p ∷ ps) ss ss' a n a' n' = absurd (hands_stop s a'.0 p a'.1 a'.4 (subst NoneLeaves a.1 n))
  each_once s u u' (p ∷ ps) [] ss ss' a n a' n' = absurd (hands_stop s a.0 p a.1 a.4 (subst NoneLeaves a'.1 n'))
  each_once s u u' (p ∷ ps) (p' ∷ ps') ss ss' a n a' n' =
      let one = hands_same s a.0 a'.0 p p' a.1 a'.1 a.4 a'.4 in
      let rest = each_once a.0 u u' ps ps' a.2 a'.2 a.5 n (subst (λ (z : SplitState). HandsEach leaves z ps' a'.2 u') one.2 a'.5) n' in
      (both a.1 a'.1 a.2 a'.2 ss ss' a.3 a'.3 one.1 rest.0, rest.1)

  all_once : (s u u' : SplitState) (ss ss' : List ConnectionEvent) → HandsAll leaves true s ss u → HandsAll leaves true s ss' u' → (ss' ≡ ss) × (u' ≡ u)
  all_once s u u' ss ss' a a' = each_once s u u' a.0 a'.0 ss ss' a.1 a.2 a'.1 a'.2

-- ---- the end

pub finishes_once : (s u u' : SplitState) (ss ss' : List ConnectionEvent) → Finishes true s ss u → Finishes true s ss' u' → (ss' ≡ ss) × (u' ≡ u)
finishes_once s u u' ss ss' a a' =
    let one = all_once first_left s a.0 a'.0 a.1 a'.1 a.4 a'.4 in
    let there = subst (λ (z : SplitState). FinishesAll true z.table a'.2 u'.table) one.1 a'.5 in
    let rest = finishes_all_once a.0.table u.table u'.table a.2 a'.2 a.5 there in
    (both a.1 a'.1 a.2 a'.2 ss ss' a.3 a'.3 one.0 rest.0, a'.6 ∙ (λ i. with_table (rest.1 i) (one.1 i)) ∙ sym a.6)

-- ---- what events report

event_once : (s u u' : SplitState) (e : Event) (ss ss' : List ConnectionEvent) → ReportsEvent true s e ss u → ReportsEvent true s e ss' u' → (ss' ≡ ss) × (u' ≡ u)
event_once s u u' (Section f) ss ss' a a' = (a'.0 ∙ sym a.0, a'.1 ∙ sym a.1)
event_once s u u' (Interface h) ss ss' a a' = (a'.0 ∙ sym a.0, a'.1 ∙ sym a.1)
event_once s u u' (Packet h) ss ss' a a' = (a'.0 ∙ sym a.0, a'.1 ∙ sym a.1)
event_once s u u' (Bytes bytes) ss ss' a a' = all_once due_left (with_order (arrived (packet_begun s bytes) s.order) s) u u' ss ss' a a'
event_once s u u' (Skipped why) ss ss' a a' = (a'.0 ∙ sym a.0, a'.1 ∙ sym a.1)

pub events_once : (s u u' : SplitState) (es : List (ℕ × Event)) (ss ss' : List ConnectionEvent) → ReportsEvents s es ss u → ReportsEvents s es ss' u' → (ss' ≡ ss) × (u' ≡ u)
events_once s u u' [] ss ss' a a' = (a'.0 ∙ sym a.0, a'.1 ∙ sym a.1)
events_once s u u' (e ∷ es) ss ss' a a' =
    let one = event_once s a.0 a'.0 e.1 a.1 a'.1 a.4 a'.4 in
    let rest = events_once a.0 u u' es a.2 a'.2 a.5 (subst (λ (z : SplitState). ReportsEvents z es a'.2 u') one.1 a'.5) in
    (both a.1 a'.1 a.2 a'.2 ss ss' a.3 a'.3 one.0 rest.0, rest.1)
