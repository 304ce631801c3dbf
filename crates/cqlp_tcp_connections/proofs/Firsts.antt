-- The first connection of a table, and where another becomes the first.
use Rattle.std.proofs.Common.{◌≡◌, ℕ, Bool, true, false, nat_le, nat_lt, List, [], ◌∷◌, length, refl, sym, ap, ◌∙◌, arith, if◌then◌else◌}
use Rattle.std.specs.Prelude.{Option, Some, None}
use Rattle.cqlp_tcp_segment.specs.declared.segments.SegmentHead.{SegmentHead}
use Rattle.cqlp_tcp_connections.specs.declared.delivery.Admission.{Admission}
use Rattle.cqlp_tcp_connections.specs.declared.delivery.Admission.TheVariants.{Foreign, Taken, Crowded}
use Rattle.cqlp_tcp_connections.specs.declared.ends.Ends.{Ends}
use Rattle.cqlp_tcp_connections.specs.declared.ends.Way.{Way}
use Rattle.cqlp_tcp_connections.specs.Ends.{ends_of, first_way, other}
use Rattle.cqlp_tcp_connections.specs.Known.{Flows, Known, begins_anew, counted_on, known, met, met_if}
use Rattle.cqlp_tcp_connections.specs.Tables.{Table, Taking, begun, crowded, found_in, seen_first, taken, taken_by, taken_in, taken_turned, taking, to_front, with_known}
use Rattle.cqlp_tcp_connections.specs.Pools.{Seeing, first_of, seeing, seen_at, seen_between, seen_by_first}

pub record FirstIs (ks : List Known) (e : Ends) (f : Flows) : Type 0 where
  pub rest : List Known
  pub is : ks ≡ known e f ∷ rest

pub first_known : (ks : List Known) (e : Ends) (f : Flows) → Some (e, f) ≡ first_of ks → FirstIs ks e f
first_known [] e f h = absurd cc
first_known (k ∷ ks) e f h =
    let both : (e, f) ≡ (k.ends, k.flows) = cc in
    let a : e ≡ k.ends = ap (λ (x : Ends × Flows). x.0) both in
    let b : f ≡ k.flows = ap (λ (x : Ends × Flows). x.1) both in
    record { rest = ks; is = sym (ap (λ x. known x f ∷ ks) a ∙ ap (λ x. known k.ends x ∷ ks) b) }

none_some : (a : Admission) → None ≡ Some a → ⊥
none_some a e = absurd cc

pub none_known : (ks : List Known) → None ≡ first_of ks → ks ≡ []
none_known [] h = refl
none_known (k ∷ ks) h = absurd cc

-- ---- where a segment's connection is sought

abbrev admission_of : Option Admission → Admission
admission_of None = Foreign
admission_of (Some a) = a

abbrev taking_of : Seeing → Table → Taking
taking_of s t = taking (admission_of s.admission) (with_known s.after t)

met_first : (b : Bool) (way : Way) (k : Known) (ks : List Known) (t : Table)
    → taking (met_if b way k.flows).admission (with_known (known k.ends (met_if b way k.flows).after ∷ ks) t)
    ≡ (if b then taking (Crowded k.flows.number false) (with_known (k ∷ ks) t) else taking (Taken k.flows.number way false) (with_known (known k.ends (counted_on way k.flows) ∷ ks) t))
met_first true way k ks t = refl
met_first false way k ks t = refl

seen_first_is : (way : Way) (h : SegmentHead) (ks : List Known) (t : Table) → taking_of (seen_by_first way h ks) t ≡ seen_first way h (with_known ks t)
seen_first_is way h [] t = refl
seen_first_is way h (k ∷ ks) t = met_first (begins_anew way h k.flows) way k ks t

some_seen : (way : Way) (h : SegmentHead) (l ks : List Known) → seeing None ks ≡ seen_by_first way h l → ⊥
some_seen way h [] ks e = absurd (none_some Foreign (ap (λ (s : Seeing). s.admission) e))
some_seen way h (k ∷ l) ks e = absurd (none_some (met way h k.flows).admission (ap (λ (s : Seeing). s.admission) e))

pub seen_is : (o : Option ℕ) (way : Way) (h : SegmentHead) (a : Admission) (ks : List Known) (t : Table) → seeing (Some a) ks ≡ seen_at o way h t.known
    → taking a (with_known ks t) ≡ taken_in o way h t
seen_is None way h a ks t e = absurd (none_some a (sym (ap (λ (s : Seeing). s.admission) e)))
seen_is (Some at) way h a ks t e = ap (λ (s : Seeing). taking_of s t) e ∙ seen_first_is way h (to_front at t.known) t

pub turned_is : (o : Option ℕ) (way : Way) (h : SegmentHead) (a : Admission) (ks : List Known) (t : Table) → seeing (Some a) ks ≡ seen_at o (other way) h t.known
    → taking a (with_known ks t) ≡ taken_turned o way h t
turned_is None way h a ks t e = absurd (none_some a (sym (ap (λ (s : Seeing). s.admission) e)))
turned_is (Some at) way h a ks t e = ap (λ (s : Seeing). taking_of s t) e ∙ seen_first_is (other way) h (to_front at t.known) t

pub none_seen : (o : Option ℕ) (way : Way) (h : SegmentHead) (ks now : List Known) → seeing None ks ≡ seen_at o way h now → o ≡ None
none_seen None way h ks now e = refl
none_seen (Some at) way h ks now e = absurd (some_seen way h (to_front at now) ks e)

pub none_moves : (o : Option ℕ) (way : Way) (h : SegmentHead) (ks now : List Known) → seeing None ks ≡ seen_at o way h now → ks ≡ now
none_moves None way h ks now e = ap (λ (s : Seeing). s.after) e
none_moves (Some at) way h ks now e = absurd (some_seen way h (to_front at now) ks e)

-- a segment whose ends are sought as its ports name them, where they are not there, and then the other way round
module _ (way turned : Way) (h : SegmentHead) (e f : Ends) (ks : List Known) (t : Table)
    (first : first_way t.ports h ≡ Some way) (own : e ≡ ends_of way h) (turns : turned ≡ other way) (its : f ≡ ends_of turned h)
    (absent : seeing None ks ≡ seen_between e way h t.known) where
  stays : ks ≡ t.known
  stays = none_moves (found_in e t.known) way h ks t.known absent

  sought : taken t h ≡ taken_turned (found_in (ends_of (other way) h) t.known) way h t
  sought =
      ap (λ (o : Option Way). taken_by o h t) first
      ∙ ap (λ (o : Option ℕ). taken_in o way h t) (ap (λ (x : Ends). found_in x t.known) (sym own) ∙ none_seen (found_in e t.known) way h ks t.known absent)

  turned_seen : seen_between f turned h ks ≡ seen_between (ends_of (other way) h) (other way) h t.known
  turned_seen =
      ap (λ (x : Ends). seen_between x turned h ks) its
      ∙ ap (λ (w : Way). seen_between (ends_of w h) w h ks) turns
      ∙ ap (λ (l : List Known). seen_between (ends_of (other way) h) (other way) h l) stays

  pub taken_turned_round : (a : Admission) (after : List Known) → seeing (Some a) after ≡ seen_between f turned h ks → taking a (with_known after t) ≡ taken t h
  taken_turned_round a after s = turned_is (found_in (ends_of (other way) h) t.known) way h a after t (s ∙ turned_seen) ∙ sym sought

  pub taken_absent : (after : List Known) → seeing None after ≡ seen_between f turned h ks
      → taken t h ≡ (if nat_lt (length after) t.limits.connections then begun way h (with_known after t) else crowded (with_known after t))
  taken_absent after s =
      let o = found_in (ends_of (other way) h) t.known in
      let there = s ∙ turned_seen in
      sought
      ∙ ap (λ (n : Option ℕ). taken_turned n way h t) (none_seen o (other way) h after t.known there)
      ∙ ap (λ (l : List Known). if nat_lt (length l) t.limits.connections then begun way h (with_known l t) else crowded (with_known l t)) (sym (none_moves o (other way) h after t.known there))

pub full_not : (len most : ℕ) → true ≡ nat_le most len → nat_lt len most ≡ false
full_not len most h = grind (arith, h)
