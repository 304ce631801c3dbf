-- Each message is reported once, or waits.
use Rattle.std.proofs.Common.{inl, inr, ◌≡◌, Bool, true, false, List, [], ◌∷◌, ◌++◌, refl, sym, ap, subst, ◌∙◌, append_assoc, append-nil, Option, Some, None}
use Rattle.std.specs.List.Sorted.{IsPermutation, IsStrictlySortedBy}
use Rattle.std.specs.Map.{values_of}
use Rattle.std.specs.Ordering.{int_cmp}
use Rattle.std.proofs.lemmas.Bool.{cases_Bool}
use Rattle.std.proofs.lemmas.List.Sorted.{IsPermutation-refl, IsPermutation-append_left, IsPermutation-append_right, IsPermutation-append_comm, IsPermutation-cons, IsPermutation-trans}
use Rattle.cqlp_observer.specs.declared.message.Message.{Message}
use Rattle.cqlp_observer.specs.declared.paired.Paired.{Paired}
use Rattle.cqlp_observer.specs.Messages.{id_of, is_event, is_request, meets}
use Rattle.cqlp_observer.specs.Pairings.{Pairs, Waiting, after_all, alone, awaited, met, none_wait, taken, reported_of, reported_or_none, under, without}
use Rattle.cqlp_observer.specs.Laws.{ReportsEachMessage, messages, messages_in, messages_of}
use Rattle.cqlp_observer.proofs.Entries.{cases_Option, swapped, values_with, values_without, without_none}
use Rattle.cqlp_observer.proofs.Taken.{IsInOrder, is_id, taken_in_order, under_gone}

-- what a step reports, and those that wait then
abbrev Moves : {T : Type 0} → (before : List (Message T)) → Pairs T → Type 0
Moves before p = IsPermutation before (messages_in (reported_or_none p.reported) ++ values_of p.after)

alone_is : {T : Type 0} (m : Message T) → messages_of (alone m) ≡ m ∷ []
alone_is m = elim (cases_Bool (is_request m)) [ inl is ↦ rw is refl | inr isnt ↦ rw isnt refl ]

with_one : {T : Type 0} (m : Message T) (w : Waiting T) → under (id_of m) w ≡ None → IsPermutation (values_of w ++ m ∷ []) (values_of (awaited m true w).after)
with_one m w none = IsPermutation-trans _ _ _ (IsPermutation-append_comm (values_of w) (m ∷ [])) (values_with int_cmp (id_of m) m w none)

moves_awaited : {T : Type 0} (m : Message T) (has_room : Bool) (w : Waiting T) → under (id_of m) w ≡ None → Moves (values_of w ++ m ∷ []) (awaited m has_room w)
moves_awaited m true w none = with_one m w none
moves_awaited m false w none = rw (alone_is m) (IsPermutation-append_comm (values_of w) (m ∷ []))

moves_met : {T : Type 0} (first m : Message T) (others : Waiting T) → under (id_of m) others ≡ None → Moves (first ∷ values_of others ++ m ∷ []) (met first m others)
moves_met first m others none =
    let near : IsPermutation (first ∷ values_of others ++ m ∷ []) (first ∷ m ∷ values_of others) = IsPermutation-cons first _ _ (IsPermutation-append_comm (values_of others) (m ∷ [])) in
    elim (cases_Bool (meets first m)) [
      | inl meet ↦ elim (cases_Bool (is_request first)) [
        | inl asks ↦ rw (meet, asks) near
        | inr reply ↦ rw (meet, reply) (IsPermutation-trans _ _ _ near (swapped first m (values_of others)))
      ]
      | inr no_meeting ↦ rw (no_meeting, alone_is first) (IsPermutation-cons first _ _ (with_one m others none))
    ]

moves_one : {T : Type 0} (m : Message T) (has_room : Bool) (w : Waiting T) → IsInOrder w → Moves (values_of w ++ m ∷ []) (taken m has_room w)
moves_one m has_room w sorted = elim (cases_Bool (is_event m)) [
  | inl is ↦ rw is (IsPermutation-append_comm (values_of w) (m ∷ []))
  | inr isnt ↦ elim (cases_Option (under (id_of m) w)) [
    | inl none ↦ rw (isnt, none, without_none (is_id (id_of m)) w none) (moves_awaited m has_room w none)
    | inr some ↦
        let gone = under_gone (id_of m) w sorted in
        let out : IsPermutation (values_of w ++ m ∷ []) ((some.0 ∷ values_of (without (id_of m) w)) ++ m ∷ []) =
        IsPermutation-append_left (m ∷ []) _ _ (values_without (is_id (id_of m)) some.0 w some.1) in
        rw (isnt, some.1) (IsPermutation-trans _ _ _ out (moves_met some.0 m (without (id_of m) w) gone))
  ]
]

reported_then : {T : Type 0} (o : Option (Paired T)) (reported : List (Paired T)) → messages_in (reported_or_none o ++ reported) ≡ messages_in (reported_or_none o) ++ messages_in reported
reported_then None reported = refl
reported_then {T} (Some t) reported = ap (λ (r : List (Message T)). r ++ messages_in reported) (sym (append-nil (messages_of t)))

moves_all : {T : Type 0} (ms : List (Message T × Bool)) (w : Waiting T) → IsInOrder w → IsPermutation (values_of w ++ messages ms) (messages_in (reported_of ms w) ++ values_of (after_all ms w))
moves_all [] w sorted = rw (append-nil (values_of w)) (IsPermutation-refl (values_of w))
moves_all {T} (m ∷ ms) w sorted =
    let next = taken m.0 m.1 w in
    let now = messages_in (reported_or_none next.reported) in
    let rest = moves_all ms next.after (taken_in_order m.0 m.1 w sorted) in
    let all = messages_in (reported_of ms next.after) ++ values_of (after_all ms next.after) in
    let first : IsPermutation ((values_of w ++ m.0 ∷ []) ++ messages ms) ((now ++ values_of next.after) ++ messages ms) = IsPermutation-append_left (messages ms) _ _ (moves_one m.0 m.1 w sorted) in
    let then : IsPermutation (now ++ (values_of next.after ++ messages ms)) (now ++ all) = IsPermutation-append_right now _ _ rest in
    let both : IsPermutation (values_of w ++ m.0 ∷ messages ms) (now ++ all) =
    IsPermutation-trans _ _ _ (subst (λ (r : List (Message T)). IsPermutation r ((now ++ values_of next.after) ++ messages ms)) (append_assoc (values_of w) (m.0 ∷ []) (messages ms)) first)
    (subst (λ (r : List (Message T)). IsPermutation r (now ++ all)) (sym (append_assoc now (values_of next.after) (messages ms))) then) in
    let end : now ++ all ≡ messages_in (reported_or_none next.reported ++ reported_of ms next.after) ++ values_of (after_all ms next.after) =
    sym (append_assoc now (messages_in (reported_of ms next.after)) (values_of (after_all ms next.after)))
    ∙ ap (λ (r : List (Message T)). r ++ values_of (after_all ms next.after)) (sym (reported_then next.reported (reported_of ms next.after))) in
    subst (λ (r : List (Message T)). IsPermutation (values_of w ++ m.0 ∷ messages ms) r) end both

none_in_order : (T : Type 0) → IsInOrder {T = T} none_wait
unfolding IsStrictlySortedBy
none_in_order T = tt

pub reports_each_message : (T : Type 0) → ReportsEachMessage T
reports_each_message T ms = moves_all ms none_wait (none_in_order T)
