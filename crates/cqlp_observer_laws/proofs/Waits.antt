-- Which messages wait once another one comes.
use Rattle.std.proofs.Common.{inl, inr, ◌⊎◌, ◌≡◌, Bool, true, false, List, [], ◌∷◌, ◌++◌, refl, sym, ap, subst, ◌∙◌, Option, Some, None, ℤ}
use Rattle.std.specs.Prelude.{find, is_none, is_some, ◌&&◌, if◌then◌else◌}
use Rattle.std.proofs.lemmas.Bool.{cases_Bool}
use Rattle.std.proofs.lemmas.Bool.Decides.{Decides-int_eq}
use Rattle.cqlp_observer.specs.declared.message.Message.{Message}
use Rattle.cqlp_observer.specs.Messages.{id_of, is_event, is_under, meets}
use Rattle.cqlp_observer.specs.Waiting.{exchange_with, exchanges, said, turned, unmet, waits_under}
use Rattle.cqlp_observer.proofs.Exchanged.{exchanges_more, said_event, said_more}
use Rattle.cqlp_observer_laws.proofs.Lists.{Apart, cases_Option, find_back, find_front, id_is, int_eq_turned, without, without_none}

-- ---- those that wait, the one that waits longest first

-- It met none that waited, and nothing has been said under its id since.
abbrev pub waits : {T : Type 0} → (before : List (Message T)) → Message T → (later : List (Message T)) → Bool
waits before m later = is_some (unmet m (waits_under (id_of m) before)) && is_none (find (is_under (id_of m)) later)

abbrev pub waiting_since : {T : Type 0} → (before later : List (Message T)) → List (Message T)
waiting_since before [] = []
waiting_since before (m ∷ later) =
    if waits before m later then m ∷ waiting_since (m ∷ before) later else waiting_since (m ∷ before) later

abbrev pub waiting_of : {T : Type 0} → List (Message T) → List (Message T)
waiting_of ms = waiting_since [] (said ms)

-- ---- the one that waits

-- a list of what there is
abbrev pub one : {X : Type 0} → Option X → List X
one None = []
one (Some x) = x ∷ []

pub unmet_is : {T : Type 0} (m : Message T) (o : Option (Message T)) → (unmet m o ≡ Some m) ⊎ (unmet m o ≡ None)
unmet_is m None = inl refl
unmet_is m (Some first) = elim (cases_Bool (meets first m)) [ inl is ↦ rw is (inr refl) | inr isnt ↦ rw isnt (inl refl) ]

pub own_id : {T : Type 0} (m : Message T) → is_under (id_of m) m ≡ true
own_id m = (Decides-int_eq (id_of m) (id_of m)).1 refl

second_none : {X : Type 0} (a : Bool) (o : Option X) → a && is_none o ≡ true → o ≡ None
second_none true None e = refl
second_none true (Some x) e = cc e
second_none false o e = cc e

and_false : (a : Bool) → a && false ≡ false
and_false true = refl
and_false false = refl

waits_answered : {T : Type 0} (b : List (Message T)) (x y : Message T) (ms : List (Message T)) → find (is_under (id_of x)) ms ≡ Some y → waits b x ms ≡ false
waits_answered b x y ms e = rw e (and_false (is_some (unmet x (waits_under (id_of x) b))))

-- none waits under an id under which nothing was said
pub waits_none : {T : Type 0} (id : ℤ) (b ms : List (Message T)) → find (is_under id) ms ≡ None → find (is_under id) (waiting_since b ms) ≡ None
waits_none id b [] e = refl
waits_none id b (m ∷ ms) e = elim (cases_Bool (is_under id m)) [
  | inl is ↦ absurd (let f = rw is at e in cc f)
  | inr isnt ↦
      let rest = waits_none id (m ∷ b) ms (rw isnt at e) in
      elim (cases_Bool (waits b m ms)) [
        | inl does ↦ rw (does, isnt) rest
        | inr not_does ↦ rw not_does rest
      ]
]

-- no two that wait have one id
pub since_apart : {T : Type 0} (b ms : List (Message T)) → Apart (waiting_since b ms)
since_apart b [] = tt
since_apart b (m ∷ ms) = elim (cases_Bool (waits b m ms)) [
  | inl does ↦ rw does (waits_none (id_of m) (m ∷ b) ms (second_none _ (find (is_under (id_of m)) ms) does), since_apart (m ∷ b) ms)
  | inr not_does ↦ rw not_does (since_apart (m ∷ b) ms)
]

own_waits : {T : Type 0} (x : Message T) (b ms : List (Message T)) → find (is_under (id_of x)) ms ≡ None → unmet x (waits_under (id_of x) b) ≡ find (is_under (id_of x)) (waiting_since b (x ∷ ms))
own_waits x b ms none = elim (unmet_is x (waits_under (id_of x) b)) [
  | inl is ↦
      let does : waits b x ms ≡ true = rw (is, none) refl in
      rw (does, own_id x) is
  | inr isnt ↦
      let not_does : waits b x ms ≡ false = rw isnt refl in
      rw not_does (isnt ∙ sym (waits_none (id_of x) (x ∷ b) ms none))
]

-- what waits under an id: the one among these, if something was said
abbrev pub chosen : {X : Type 0} → (found among before : Option X) → Option X
chosen None among before = before
chosen (Some x) among before = among

waits_among : {T : Type 0} (id : ℤ) (b ms : List (Message T)) → waits_under id (turned ms b) ≡ chosen (find (is_under id) ms) (find (is_under id) (waiting_since b ms)) (waits_under id b)
waits_among id b [] = refl
waits_among {T = T} id b (x ∷ ms) =
    let rest = waits_among id (x ∷ b) ms in
    elim (cases_Option (find (is_under id) ms)) [
      | inr some ↦ later x some.0 some.1 (rw some.1 at rest)
      | inl none ↦ elim (cases_Bool (is_under id x)) [
        | inl is ↦
            let own : unmet x (waits_under id b) ≡ find (is_under id) (waiting_since b (x ∷ ms)) =
            subst (λ (i : ℤ). unmet x (waits_under i b) ≡ find (is_under i) (waiting_since b (x ∷ ms))) (id_is id x is) (own_waits x b ms (subst (λ (i : ℤ). find (is_under i) ms ≡ None) (sym (id_is id x is)) none)) in
            let last = rw (none, is) at rest in
            rw is (last ∙ own)
        | inr isnt ↦
            let last = rw (none, isnt) at rest in
            rw (isnt, none) last
      ]
    ]
  where
    later : (x y : Message T) → find (is_under id) ms ≡ Some y → waits_under id (turned ms (x ∷ b)) ≡ find (is_under id) (waiting_since (x ∷ b) ms) → waits_under id (turned ms (x ∷ b)) ≡ chosen (find (is_under id) (x ∷ ms)) (find (is_under id) (waiting_since b (x ∷ ms))) (waits_under id b)
    later x y some e = elim (cases_Bool (is_under id x)) [
      | inl is ↦
          let not_does = waits_answered b x y ms (subst (λ (i : ℤ). find (is_under i) ms ≡ Some y) (sym (id_is id x is)) some) in
          rw (is, not_does) e
      | inr isnt ↦ elim (cases_Bool (waits b x ms)) [
        | inl does ↦ rw (isnt, some, does, isnt) e
        | inr not_does ↦ rw (isnt, some, not_does) e
      ]
    ]

pub waits_found : {T : Type 0} (id : ℤ) (ms : List (Message T)) → waits_under id (turned ms []) ≡ find (is_under id) (waiting_since [] ms)
waits_found {T} id ms =
    let among = waits_among {T = T} id [] ms in
    elim (cases_Option (find (is_under id) ms)) [
      | inl none ↦
          let rest = rw none at among in
          rest ∙ sym (waits_none id [] ms none)
      | inr some ↦ rw some.1 at among
    ]

-- ---- one more message

-- One that is not under an id leaves what is found there.
pub found_none : {X : Type 0} (p : X → Bool) (xs : List X) (x : X) → p x ≡ false → find p (xs ++ x ∷ []) ≡ find p xs
found_none p [] x e = rw e refl
found_none p (y ∷ xs) x e = elim (cases_Bool (p y)) [
  | inl is ↦ rw is refl
  | inr isnt ↦ rw isnt (found_none p xs x e)
]

pub found_some : {X : Type 0} (p : X → Bool) (xs : List X) (x : X) → find p xs ≡ None → p x ≡ true → find p (xs ++ x ∷ []) ≡ Some x
found_some p xs x none is = find_back p xs (x ∷ []) none ∙ rw is refl

waits_apart : {T : Type 0} (b : List (Message T)) (x m : Message T) (ms : List (Message T)) → is_under (id_of x) m ≡ false → waits b x (ms ++ m ∷ []) ≡ waits b x ms
waits_apart {T} b x m ms isnt = ap (λ (o : Option (Message T)). is_some (unmet x (waits_under (id_of x) b)) && is_none o) (found_none (is_under (id_of x)) ms m isnt)

waits_no_more : {T : Type 0} (b : List (Message T)) (x m : Message T) (ms : List (Message T)) → waits b x ms ≡ true → is_under (id_of x) m ≡ true → waits b x (ms ++ m ∷ []) ≡ false
waits_no_more b x m ms does is =
    let none = second_none _ (find (is_under (id_of x)) ms) does in
    waits_answered b x m (ms ++ m ∷ []) (found_some (is_under (id_of x)) ms m none is)

first_false : {X : Type 0} (a : Bool) (o : Option X) → a && is_none o ≡ false → o ≡ None → a ≡ false
first_false true None e f = cc e
first_false true (Some x) e f = cc f
first_false false o e f = refl

never_waits : {T : Type 0} (b : List (Message T)) (x m : Message T) (ms : List (Message T)) → waits b x ms ≡ false → waits b x (ms ++ m ∷ []) ≡ false
never_waits {T} b x m ms isnt = elim (cases_Option (find (is_under (id_of x)) ms)) [
  | inl none ↦ rw (first_false (is_some (unmet x (waits_under (id_of x) b))) (find (is_under (id_of x)) ms) isnt none) refl
  | inr found ↦ waits_answered b x found.0 (ms ++ m ∷ []) (find_front (is_under (id_of x)) ms (m ∷ []) found.0 found.1)
]

first_waits : {T : Type 0} (m : Message T) (o : Option (Message T)) → (if is_some (unmet m o) && true then m ∷ [] else []) ≡ one (unmet m o)
first_waits m o = elim (unmet_is m o) [ inl is ↦ rw is refl | inr isnt ↦ rw isnt refl ]

-- The one under its id waits no more, and it waits if the two do not meet.
waits_then : {T : Type 0} (b ms : List (Message T)) (m : Message T) → waiting_since b (ms ++ m ∷ []) ≡ without (id_of m) (waiting_since b ms) ++ one (unmet m (waits_under (id_of m) (turned ms b)))
waits_then b [] m = first_waits m (waits_under (id_of m) b)
waits_then {T} b (x ∷ ms) m =
    let rest = waits_then (x ∷ b) ms m in
    let new = one (unmet m (waits_under (id_of m) (turned ms (x ∷ b)))) in
    elim (cases_Bool (waits b x ms)) [
      | inr not_does ↦ rw (not_does, never_waits b x m ms not_does) rest
      | inl does ↦ elim (cases_Bool (is_under (id_of x) m)) [
        | inl under ↦
            let turned_id : is_under (id_of m) x ≡ true = int_eq_turned (id_of x) (id_of m) ∙ under in
            let none : find (is_under (id_of m)) (waiting_since (x ∷ b) ms) ≡ None =
            subst (λ (i : ℤ). find (is_under i) (waiting_since (x ∷ b) ms) ≡ None) (sym (id_is (id_of x) m under)) (waits_none (id_of x) (x ∷ b) ms (second_none _ (find (is_under (id_of x)) ms) does)) in
            rw (does, waits_no_more b x m ms does under, turned_id) (rest ∙ ap (λ (r : List (Message T)). r ++ new) (without_none (id_of m) (waiting_since (x ∷ b) ms) none))
        | inr not_under ↦
            let apart : is_under (id_of m) x ≡ false = int_eq_turned (id_of x) (id_of m) ∙ not_under in
            rw (waits_apart b x m ms not_under, does, apart) (ap (λ (r : List (Message T)). x ∷ r) rest)
      ]
    ]

pub waiting_apart : {T : Type 0} (ms : List (Message T)) → Apart (waiting_of ms)
waiting_apart ms = since_apart [] (said ms)

-- An event changes nothing.
pub waiting_event : {T : Type 0} (ms : List (Message T)) (m : Message T) → is_event m ≡ true → waiting_of (ms ++ m ∷ []) ≡ waiting_of ms
waiting_event {T} ms m is = ap (λ (r : List (Message T)). waiting_since [] r) (said_event ms m is)

pub waiting_more : {T : Type 0} (ms : List (Message T)) (m : Message T) → is_event m ≡ false → waiting_of (ms ++ m ∷ []) ≡ without (id_of m) (waiting_of ms) ++ one (unmet m (find (is_under (id_of m)) (waiting_of ms)))
waiting_more {T} ms m isnt =
    ap (λ (r : List (Message T)). waiting_since [] r) (said_more ms m isnt)
    ∙ waits_then [] (said ms) m
    ∙ ap (λ (o : Option (Message T)). without (id_of m) (waiting_of ms) ++ one (unmet m o)) (waits_found (id_of m) (said ms))

-- A message is an exchange with the one that waits under its id, if they meet.
pub exchanges_then : {T : Type 0} (ms : List (Message T)) (m : Message T) → is_event m ≡ false → exchanges (ms ++ m ∷ []) ≡ exchanges ms ++ exchange_with m (find (is_under (id_of m)) (waiting_of ms))
exchanges_then {T} ms m isnt =
    exchanges_more ms m isnt ∙ ap (λ (o : Option (Message T)). exchanges ms ++ exchange_with m o) (waits_found (id_of m) (said ms))
