-- What comes after each message: those that wait, and the exchanges that were reported.
use Rattle.std.proofs.Common.{inl, inr, ◌≡◌, Bool, true, false, List, [], ◌∷◌, ◌++◌, refl, sym, ap, subst, ◌∙◌, append_assoc, append-nil, Option, Some, None, ℤ}
use Rattle.std.specs.List.Sorted.{IsPermutation, IsStrictlySortedBy}
use Rattle.std.proofs.lemmas.Bool.{cases_Bool}
use Rattle.std.proofs.lemmas.List.Sorted.{IsPermutation-refl, IsPermutation-append_left, IsPermutation-append_right, IsPermutation-append_comm, IsPermutation-trans}
use Rattle.std.proofs.lemmas.Map.Lookups.{exact_signed}
use Rattle.cqlp_observer.specs.declared.message.Message.{Message}
use Rattle.cqlp_observer.specs.declared.paired.Paired.{Paired}
use Rattle.cqlp_observer.specs.Messages.{id_of, is_event}
use Rattle.cqlp_observer.specs.Waiting.{exchange_with, exchanges, last_said, meetings, unmet, waits}
use Rattle.cqlp_observer.specs.Pairings.{Waiting, after_all, none_wait, taken, reported_of, reported_or_none, under}
use Rattle.cqlp_observer.specs.Laws.{HasRoom, KeepsThoseThatWait, ReportsTheExchanges, exchange_of, exchanges_in, messages}
use Rattle.cqlp_observer.proofs.Entries.{cases_Option, same_key}
use Rattle.cqlp_observer.proofs.Exchanged.{Pairs, exchanges_event, exchanges_more, last_event, last_more, meetings_event, meetings_more, waits_event, waits_more}
use Rattle.cqlp_observer.proofs.Taken.{IsInOrder, is_id, is_own, stays_is, stays_open, taken_in_order, taken_reported, taken_under}

abbrev pub now : {T : Type 0} → Message T → Bool → Waiting T → Pairs T
now m room w = exchanges_in (reported_or_none (taken m room w).reported)

-- ---- where there was room always

record Open {T : Type 0} (h : List (Message T)) (w : Waiting T) (done : Pairs T) : Type 0 where
  ordered : IsInOrder w
  wait : (id : ℤ) → under id w ≡ waits id h
  reported : done ≡ exchanges h

open_more : {T : Type 0} (h : List (Message T)) (m : Message T) (w : Waiting T) (j : ℤ) → is_event m ≡ false → IsInOrder w → ((id : ℤ) → under id w ≡ waits id h) → under j (taken m true w).after ≡ waits j (h ++ m ∷ [])
open_more {T} h m w j isnt sorted wait =
    let after = taken_under m true w j isnt sorted in
    let more = waits_more j h m isnt in
    elim (cases_Bool (is_id j (id_of m))) [
      | inl is ↦
          let same : j ≡ id_of m = same_key exact_signed j (id_of m) is in
          let known : under (id_of m) w ≡ waits j h = subst (λ (i : ℤ). under i w ≡ waits j h) same (wait j) in
          (rw is at after) ∙ stays_open m (under (id_of m) w) ∙ ap (λ (o : Option (Message T)). unmet m o) known
          ∙ sym (rw (is_own j m, is) at more)
      | inr other ↦ (rw other at after) ∙ wait j ∙ sym (rw (is_own j m, other) at more)
    ]

open_one : {T : Type 0} (h : List (Message T)) (m : Message T) (w : Waiting T) (done : Pairs T) → Open h w done → Open (h ++ m ∷ []) (taken m true w).after (done ++ now m true w)
open_one {T} h m w done p = elim (cases_Bool (is_event m)) [
  | inl is ↦ rw is (record {
    ordered = p.ordered;
    wait = λ id. p.wait id ∙ sym (waits_event id h m is);
    reported = append-nil done ∙ p.reported ∙ sym (exchanges_event h m is);
  })
  | inr isnt ↦ record {
    ordered = taken_in_order m true w p.ordered;
    wait = λ j. open_more h m w j isnt p.ordered p.wait;
    reported = ap (λ (r : Pairs T). done ++ r) (taken_reported m true w isnt ∙ ap (λ (o : Option (Message T)). exchange_with m o) (p.wait (id_of m)))
        ∙ ap (λ (r : Pairs T). r ++ exchange_with m (waits (id_of m) h)) p.reported
        ∙ sym (exchanges_more h m isnt);
  }
]

-- ---- always

-- each that waits is the last that was said under its id
abbrev pub AreLast : {T : Type 0} → List (Message T) → Waiting T → Type 0
AreLast {T} h w = (id : ℤ) (x : Message T) → under id w ≡ Some x → last_said id h ≡ Some x

-- what is reported are some of the meetings, none twice
pub record AreOf {T : Type 0} (h : List (Message T)) (done : Pairs T) : Type 0 where
  pub missed : Pairs T
  pub each : IsPermutation (meetings h) (missed ++ done)

pub record Conforms {T : Type 0} (h : List (Message T)) (w : Waiting T) (done : Pairs T) : Type 0 where
  pub ordered : IsInOrder w
  pub last : AreLast h w
  pub reported : AreOf h done

last_one : {T : Type 0} (h : List (Message T)) (m : Message T) (room : Bool) (w : Waiting T) → is_event m ≡ false → IsInOrder w → AreLast h w → AreLast (h ++ m ∷ []) (taken m room w).after
last_one {T} h m room w isnt sorted are j x e =
    let after = taken_under m room w j isnt sorted in
    let last = last_more j h m isnt in
    elim (cases_Bool (is_id j (id_of m))) [
      | inl is ↦
          let own : x ≡ m = stays_is m room (under (id_of m) w) x (sym (rw is at after) ∙ e) in
          (rw (is_own j m, is) at last) ∙ ap (λ (y : Message T). Some y) (sym own)
      | inr other ↦ (rw (is_own j m, other) at last) ∙ are j x (sym (rw other at after) ∙ e)
    ]

-- a meeting that is not reported
missed_one : {T : Type 0} (h : List (Message T)) (m : Message T) (done new : Pairs T) → meetings (h ++ m ∷ []) ≡ meetings h ++ new → AreOf h done → AreOf (h ++ m ∷ []) (done ++ [])
missed_one {T} h m done new more p =
    let moved : IsPermutation ((p.missed ++ done) ++ new) ((p.missed ++ new) ++ (done ++ [])) =
    subst (λ (r : Pairs T). IsPermutation ((p.missed ++ done) ++ new) ((p.missed ++ new) ++ r)) (sym (append-nil done))
    (subst (λ (r : Pairs T). IsPermutation ((p.missed ++ done) ++ new) r) (sym (append_assoc p.missed new done))
    (subst (λ (r : Pairs T). IsPermutation r (p.missed ++ (new ++ done))) (sym (append_assoc p.missed done new))
    (IsPermutation-append_right p.missed (done ++ new) (new ++ done) (IsPermutation-append_comm done new)))) in
    record {
      missed = p.missed ++ new;
      each = subst (λ (r : Pairs T). IsPermutation r ((p.missed ++ new) ++ (done ++ []))) (sym more)
          (IsPermutation-trans _ _ _ (IsPermutation-append_left new _ _ p.each) moved);
    }

-- a meeting that is reported
reported_one : {T : Type 0} (h : List (Message T)) (m : Message T) (done new : Pairs T) → meetings (h ++ m ∷ []) ≡ meetings h ++ new → AreOf h done → AreOf (h ++ m ∷ []) (done ++ new)
reported_one {T} h m done new more p = record {
  missed = p.missed;
  each = subst (λ (r : Pairs T). IsPermutation (meetings (h ++ m ∷ [])) r) (append_assoc p.missed done new)
      (subst (λ (r : Pairs T). IsPermutation r ((p.missed ++ done) ++ new)) (sym more) (IsPermutation-append_left new _ _ p.each));
}

of_more : {T : Type 0} (h : List (Message T)) (m : Message T) (w : Waiting T) (done : Pairs T) → is_event m ≡ false → AreLast h w → AreOf h done → AreOf (h ++ m ∷ []) (done ++ exchange_with m (under (id_of m) w))
of_more {T} h m w done isnt are p =
    let more = meetings_more h m isnt in
    elim (cases_Option (under (id_of m) w)) [
      | inl none ↦ rw none (missed_one h m done (exchange_with m (last_said (id_of m) h)) more p)
      | inr some ↦
          let same : exchange_with m (last_said (id_of m) h) ≡ exchange_with m (Some some.0) =
          ap (λ (o : Option (Message T)). exchange_with m o) (are (id_of m) some.0 some.1) in
          rw some.1 (reported_one h m done (exchange_with m (Some some.0)) (more ∙ ap (λ (r : Pairs T). meetings h ++ r) same) p)
    ]

pub conforms_one : {T : Type 0} (h : List (Message T)) (m : Message T) (room : Bool) (w : Waiting T) (done : Pairs T) → Conforms h w done → Conforms (h ++ m ∷ []) (taken m room w).after (done ++ now m room w)
conforms_one {T} h m room w done p = elim (cases_Bool (is_event m)) [
  | inl is ↦
      let more : meetings (h ++ m ∷ []) ≡ meetings h ++ [] = meetings_event h m is ∙ sym (append-nil (meetings h)) in
      rw is (record {
        ordered = p.ordered;
        last = λ id x e. last_event id h m is ∙ p.last id x e;
        reported = reported_one h m done [] more p.reported;
      })
  | inr isnt ↦ record {
    ordered = taken_in_order m room w p.ordered;
    last = last_one h m room w isnt p.ordered p.last;
    reported = subst (λ (r : Pairs T). AreOf (h ++ m ∷ []) (done ++ r)) (sym (taken_reported m room w isnt)) (of_more h m w done isnt p.last p.reported);
  }
]

-- ---- all messages

pub reported_then : {T : Type 0} (o : Option (Paired T)) (reported : List (Paired T)) → exchanges_in (reported_or_none o ++ reported) ≡ exchanges_in (reported_or_none o) ++ exchanges_in reported
reported_then None reported = refl
reported_then {T} (Some t) reported = ap (λ (r : Pairs T). r ++ exchanges_in reported) (sym (append-nil (exchange_of t)))

-- what holds at first and after each message holds after all
abbrev Holds : Type 0 → Type 1
Holds T = List (Message T) → Waiting T → Pairs T → Type 0

joined : {T : Type 0} (P : Holds T) (m : Message T × Bool) (ms : List (Message T × Bool)) (h : List (Message T)) (w : Waiting T) (done : Pairs T) → P ((h ++ m.0 ∷ []) ++ messages ms) (after_all ms (taken m.0 m.1 w).after) ((done ++ now m.0 m.1 w) ++ exchanges_in (reported_of ms (taken m.0 m.1 w).after)) → P (h ++ messages (m ∷ ms)) (after_all (m ∷ ms) w) (done ++ exchanges_in (reported_of (m ∷ ms) w))
joined {T} P m ms h w done p =
    let next = taken m.0 m.1 w in
    let reported : (done ++ now m.0 m.1 w) ++ exchanges_in (reported_of ms next.after) ≡ done ++ exchanges_in (reported_or_none next.reported ++ reported_of ms next.after) =
    append_assoc done (now m.0 m.1 w) (exchanges_in (reported_of ms next.after)) ∙ ap (λ (r : Pairs T). done ++ r) (sym (reported_then next.reported (reported_of ms next.after))) in
    subst (λ (r : List (Message T)). P r (after_all ms next.after) (done ++ exchanges_in (reported_or_none next.reported ++ reported_of ms next.after))) (append_assoc h (m.0 ∷ []) (messages ms))
    (subst (λ (r : Pairs T). P ((h ++ m.0 ∷ []) ++ messages ms) (after_all ms next.after) r) reported p)

ended : {T : Type 0} (P : Holds T) (h : List (Message T)) (w : Waiting T) (done : Pairs T) → P h w done → P (h ++ []) w (done ++ [])
ended {T} P h w done p = subst (λ (r : List (Message T)). P r w (done ++ [])) (sym (append-nil h)) (subst (λ (r : Pairs T). P h w r) (sym (append-nil done)) p)

conforms_all : {T : Type 0} (ms : List (Message T × Bool)) (h : List (Message T)) (w : Waiting T) (done : Pairs T) → Conforms h w done → Conforms (h ++ messages ms) (after_all ms w) (done ++ exchanges_in (reported_of ms w))
conforms_all [] h w done p = ended Conforms h w done p
conforms_all (m ∷ ms) h w done p = joined Conforms m ms h w done (conforms_all ms (h ++ m.0 ∷ []) (taken m.0 m.1 w).after (done ++ now m.0 m.1 w) (conforms_one h m.0 m.1 w done p))

open_all : {T : Type 0} (ms : List (Message T × Bool)) (h : List (Message T)) (w : Waiting T) (done : Pairs T) → HasRoom ms → Open h w done → Open (h ++ messages ms) (after_all ms w) (done ++ exchanges_in (reported_of ms w))
open_all [] h w done room p = ended Open h w done p
open_all {T} (m ∷ ms) h w done room p =
    let first : Open (h ++ m.0 ∷ []) (taken m.0 m.1 w).after (done ++ now m.0 m.1 w) =
    subst (λ (b : Bool). Open (h ++ m.0 ∷ []) (taken m.0 b w).after (done ++ now m.0 b w)) (sym room.0) (open_one h m.0 w done p) in
    joined Open m ms h w done (open_all ms (h ++ m.0 ∷ []) (taken m.0 m.1 w).after (done ++ now m.0 m.1 w) room.1 first)

none_in_order : (T : Type 0) → IsInOrder {T = T} none_wait
unfolding IsStrictlySortedBy
none_in_order T = tt

pub conforms_new : {T : Type 0} → Conforms {T = T} [] none_wait []
conforms_new {T} = record {
  ordered = none_in_order T;
  last = λ id x e. e;
  reported = record { missed = []; each = IsPermutation-refl [] };
}

open_new : {T : Type 0} → Open {T = T} [] none_wait []
open_new {T} = record { ordered = none_in_order T; wait = λ id. refl; reported = refl }

pub keeps : (T : Type 0) → KeepsThoseThatWait T
keeps T ms =
    let p = conforms_all ms [] none_wait [] conforms_new in
    record {
      ordered = p.ordered;
      all = λ room. (open_all ms [] none_wait [] room open_new).wait;
      last = p.last;
    }

pub reports : (T : Type 0) → ReportsTheExchanges T
reports T ms =
    let p = conforms_all ms [] none_wait [] conforms_new in
    record {
      all = λ room. (open_all ms [] none_wait [] room open_new).reported;
      missed = p.reported.missed;
      each = p.reported.each;
    }
