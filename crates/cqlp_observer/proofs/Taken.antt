-- A message that is taken: which wait then, and which exchange is reported.
use Rattle.std.proofs.Common.{inl, inr, ◌≡◌, Bool, true, false, cond, [], ◌∷◌, refl, sym, subst, ◌∙◌, Option, Some, None, ℤ}
use Rattle.std.specs.Prelude.{if◌then◌else◌}
use Rattle.std.specs.BTreeMap.{is_at}
use Rattle.std.specs.Cmp.{int_cmp_total}
use Rattle.std.specs.List.Sorted.{IsStrictlySortedBy}
use Rattle.std.specs.Map.{keys_of}
use Rattle.std.specs.Ordering.{int_cmp}
use Rattle.std.proofs.lemmas.Bool.{cases_Bool}
use Rattle.std.proofs.lemmas.Map.Lookups.{exact_signed}
use Rattle.cqlp_observer.specs.declared.message.Message.{Message}
use Rattle.cqlp_observer.specs.Messages.{id_of, is_event, is_request, is_under, meets}
use Rattle.cqlp_observer.specs.Waiting.{as_exchange, exchange_with, unmet}
use Rattle.cqlp_observer.specs.Pairings.{Waiting, alone, awaited, exchange, met, taken, taken_after, reported_or_none, under, without}
use Rattle.cqlp_observer.specs.Laws.{exchange_of, exchanges_in}
use Rattle.cqlp_observer.proofs.Entries.{cases_Option, lookup_with, lookup_without, own_key, same_key, sorted_with, sorted_without, without_none}

abbrev pub IsInOrder : {T : Type 0} → Waiting T → Type 0
IsInOrder w = IsStrictlySortedBy int_cmp (keys_of w)

abbrev pub is_id : ℤ → ℤ → Bool
is_id id other = is_at (int_cmp id) other

pub is_own : {T : Type 0} (id : ℤ) (m : Message T) → is_under id m ≡ is_id id (id_of m)
is_own id m = elim (cases_Bool (is_id id (id_of m))) [
  | inl is ↦
      let same : id ≡ id_of m = same_key exact_signed id (id_of m) is in
      subst (λ (i : ℤ). is_under i m ≡ true) (sym same) (own_key int_cmp_total (id_of m)) ∙ sym is
  | inr isnt ↦ elim (cases_Bool (is_under id m)) [
    | inr neither ↦ neither ∙ sym isnt
    | inl is ↦
        let same : id_of m ≡ id = same_key exact_signed (id_of m) id is in
        absurd (let here = subst (λ (i : ℤ). is_id i (id_of m) ≡ true) same (own_key int_cmp_total (id_of m)) in cc (here, isnt))
  ]
]

-- ---- what waits under a message's id then

abbrev pub stays : {T : Type 0} → Message T → (has_room : Bool) → Option (Message T) → Option (Message T)
stays m has_room None = if has_room then Some m else None
stays m has_room (Some first) = if meets first m then None else Some m

pub stays_open : {T : Type 0} (m : Message T) (o : Option (Message T)) → stays m true o ≡ unmet m o
stays_open m None = refl
stays_open m (Some first) = refl

pub stays_is : {T : Type 0} (m : Message T) (has_room : Bool) (o : Option (Message T)) (x : Message T) → stays m has_room o ≡ Some x → x ≡ m
stays_is m true None x e = cc e
stays_is m false None x e = absurd (cc e)
stays_is m has_room (Some first) x e = elim (cases_Bool (meets first m)) [
  | inl meet ↦ absurd (let f = rw meet at e in cc f)
  | inr apart ↦ let f = rw apart at e in cc f
]

pub under_gone : {T : Type 0} (id : ℤ) (w : Waiting T) → IsInOrder w → under id (without id w) ≡ None
under_gone id w sorted = lookup_without exact_signed id id w sorted ∙ rw (own_key int_cmp_total id) refl

under_alone : {T : Type 0} (m : Message T) (has_room : Bool) (w : Waiting T) (j : ℤ) → under (id_of m) w ≡ None → under j (awaited m has_room w).after ≡ cond (is_id j (id_of m)) (stays m has_room None) (under j w)
under_alone m true w j none = lookup_with exact_signed (id_of m) m j w none
under_alone {T} m false w j none = elim (cases_Bool (is_id j (id_of m))) [
  | inl is ↦ rw is (subst (λ (i : ℤ). under i w ≡ None) (sym (same_key exact_signed j (id_of m) is)) none)
  | inr isnt ↦ rw isnt refl
]

under_met : {T : Type 0} (first m : Message T) (w : Waiting T) (j : ℤ) → IsInOrder w → under j (met first m (without (id_of m) w)).after ≡ cond (is_id j (id_of m)) (stays m true (Some first)) (under j w)
under_met first m w j sorted =
    let gone = lookup_without exact_signed (id_of m) j w sorted in
    elim (cases_Bool (meets first m)) [
      | inl meet ↦ rw meet gone
      | inr apart ↦
          let new = lookup_with exact_signed (id_of m) m j (without (id_of m) w) (under_gone (id_of m) w sorted) in
          elim (cases_Bool (is_id j (id_of m))) [
            | inl is ↦ rw (apart, is) (rw is at new)
            | inr isnt ↦ rw (apart, isnt) ((rw isnt at new) ∙ (rw isnt at gone))
          ]
    ]

stays_met : {T : Type 0} (m first : Message T) (has_room : Bool) → stays m true (Some first) ≡ stays m has_room (Some first)
stays_met m first has_room = refl

pub taken_under : {T : Type 0} (m : Message T) (has_room : Bool) (w : Waiting T) (j : ℤ) → is_event m ≡ false → IsInOrder w → under j (taken m has_room w).after ≡ cond (is_id j (id_of m)) (stays m has_room (under (id_of m) w)) (under j w)
taken_under m has_room w j isnt sorted = elim (cases_Option (under (id_of m) w)) [
  | inl none ↦ rw (isnt, none, without_none (is_id (id_of m)) w none) (under_alone m has_room w j none)
  | inr some ↦ rw (isnt, some.1) (under_met some.0 m w j sorted)
]

-- ---- the order

order_alone : {T : Type 0} (m : Message T) (has_room : Bool) (w : Waiting T) → IsInOrder w → IsInOrder (awaited m has_room w).after
order_alone m true w sorted = sorted_with int_cmp_total (id_of m) m w sorted
order_alone m false w sorted = sorted

order_met : {T : Type 0} (first m : Message T) (others : Waiting T) → IsInOrder others → IsInOrder (met first m others).after
order_met first m others sorted = elim (cases_Bool (meets first m)) [
  | inl meet ↦ rw meet sorted
  | inr apart ↦ rw apart (sorted_with int_cmp_total (id_of m) m others sorted)
]

order_after : {T : Type 0} (o : Option (Message T)) (m : Message T) (has_room : Bool) (others : Waiting T) → IsInOrder others → IsInOrder (taken_after o m has_room others).after
order_after None m has_room others sorted = order_alone m has_room others sorted
order_after (Some first) m has_room others sorted = order_met first m others sorted

pub taken_in_order : {T : Type 0} (m : Message T) (has_room : Bool) (w : Waiting T) → IsInOrder w → IsInOrder (taken m has_room w).after
taken_in_order m has_room w sorted = elim (cases_Bool (is_event m)) [
  | inl is ↦ rw is sorted
  | inr isnt ↦ rw isnt (order_after (under (id_of m) w) m has_room (without (id_of m) w) (sorted_without int_cmp (is_id (id_of m)) w sorted))
]

-- ---- the exchange that is reported

no_exchange : {T : Type 0} (m : Message T) → exchange_of (alone m) ≡ []
no_exchange m = elim (cases_Bool (is_request m)) [ inl is ↦ rw is refl | inr isnt ↦ rw isnt refl ]

reported_exchange : {T : Type 0} (first m : Message T) → exchange_of (exchange first m) ≡ as_exchange first m ∷ []
reported_exchange first m = elim (cases_Bool (is_request first)) [ inl is ↦ rw is refl | inr isnt ↦ rw isnt refl ]

reported_alone : {T : Type 0} (m : Message T) (has_room : Bool) (w : Waiting T) → exchanges_in (reported_or_none (awaited m has_room w).reported) ≡ []
reported_alone m true w = refl
reported_alone m false w = rw (no_exchange m) refl

reported_met : {T : Type 0} (first m : Message T) (others : Waiting T) → exchanges_in (reported_or_none (met first m others).reported) ≡ exchange_with m (Some first)
reported_met first m others = elim (cases_Bool (meets first m)) [
  | inl meet ↦ rw (meet, reported_exchange first m) refl
  | inr apart ↦ rw (apart, no_exchange first) refl
]

reported_after : {T : Type 0} (o : Option (Message T)) (m : Message T) (has_room : Bool) (others : Waiting T) → exchanges_in (reported_or_none (taken_after o m has_room others).reported) ≡ exchange_with m o
reported_after None m has_room others = reported_alone m has_room others
reported_after (Some first) m has_room others = reported_met first m others

pub taken_reported : {T : Type 0} (m : Message T) (has_room : Bool) (w : Waiting T) → is_event m ≡ false → exchanges_in (reported_or_none (taken m has_room w).reported) ≡ exchange_with m (under (id_of m) w)
taken_reported m has_room w isnt = rw isnt (reported_after (under (id_of m) w) m has_room (without (id_of m) w))
