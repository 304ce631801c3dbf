-- How many exchanges are missing.
use Rattle.std.proofs.Common.{inl, inr, ◌≡◌, ℕ, ◌+◌, ◌≤◌, Bool, true, false, cond, List, [], ◌∷◌, ◌++◌, refl, sym, ap, subst, ◌∙◌, arith, append_assoc, append-nil, Option, Some, None, ℤ}
use Rattle.std.specs.Prelude.{count_by, find, if◌then◌else◌}
use Rattle.std.specs.Cmp.{int_cmp_total}
use Rattle.std.specs.Ordering.{int_eq}
use Rattle.std.proofs.lemmas.Bool.{cases_Bool}
use Rattle.std.proofs.lemmas.List.Sums.{sum_by-append}
use Rattle.std.proofs.lemmas.Map.Lookups.{exact_signed}
use Rattle.cqlp_observer.specs.declared.message.Message.{Message}
use Rattle.cqlp_observer.specs.Messages.{id_of, is_event, is_request, is_under, meets}
use Rattle.cqlp_observer.specs.Waiting.{exchange_with, exchanges, last_said, last_under, said, turned, unmet, waits, waits_under}
use Rattle.cqlp_observer.specs.Pairings.{Waiting, after_all, fate_under, is_overtaken, none_wait, overtakes, taken, reported_of, reported_or_none, under}
use Rattle.cqlp_observer.specs.Laws.{CountsTheMissing, exchanges_in, is_of, messages, overtaken_of}
use Rattle.cqlp_observer.proofs.Entries.{own_key, same_key}
use Rattle.cqlp_observer.proofs.Exchanged.{Pairs, exchanges_event, exchanges_more, waits_event, waits_more}
use Rattle.cqlp_observer.proofs.Taken.{IsInOrder, is_id, is_own, stays, taken_reported, taken_under}
use Rattle.cqlp_observer.proofs.Conformed.{AreLast, Conforms, now, conforms_new, conforms_one, reported_then}

-- ---- what waits by the whole list is the last that was said

find_is : {X : Type 0} (p : X → Bool) (xs : List X) (x : X) → find p xs ≡ Some x → p x ≡ true
find_is p [] x e = absurd (cc e)
find_is {X} p (y ∷ xs) x e = elim (cases_Bool (p y)) [
  | inl is ↦ let f = rw is at e in let same : y ≡ x = cc f in subst (λ (z : X). p z ≡ true) same is
  | inr isnt ↦ find_is p xs x (rw isnt at e)
]

unmet_is : {T : Type 0} (m : Message T) (o : Option (Message T)) (x : Message T) → unmet m o ≡ Some x → m ≡ x
unmet_is m None x e = cc e
unmet_is m (Some first) x e = elim (cases_Bool (meets first m)) [
  | inl meet ↦ absurd (let f = rw meet at e in cc f)
  | inr apart ↦ let f = rw apart at e in cc f
]

waits_last : {T : Type 0} (id : ℤ) (before : List (Message T)) (x : Message T) → waits_under id before ≡ Some x → last_under id before ≡ Some x
waits_last id [] x e = absurd (cc e)
waits_last {T} id (m ∷ before) x e = elim (cases_Bool (is_under id m)) [
  | inl is ↦ rw is (ap (λ (y : Message T). Some y) (unmet_is m (waits_under id before) x (rw is at e)))
  | inr isnt ↦ rw isnt (waits_last id before x (rw isnt at e))
]

-- ---- numbers of one message

abbrev one_if : Bool → ℕ
one_if b = if b then 1 else 0

-- a message and one that waits are an exchange
abbrev met_in : {T : Type 0} → Message T → Option (Message T) → ℕ
met_in m None = 0
met_in m (Some first) = one_if (meets first m)

-- a message waits by the whole list, and none is held
abbrev lag : {T : Type 0} → (waiting held : Option (Message T)) → ℕ
lag None held = 0
lag (Some x) None = 1
lag (Some x) (Some y) = 0

-- a message is reported alone for want of room
abbrev over_in : {T : Type 0} → (has_room : Bool) → (held : Option (Message T)) → ℕ
over_in has_room None = if has_room then 0 else 1
over_in has_room (Some y) = 0

-- Those that one message more adds on both sides, under its own id.
lag_step : {T : Type 0} (m : Message T) (has_room : Bool) (a b : Option (Message T)) (e d o : ℕ) → ((x y : Message T) → a ≡ Some x → b ≡ Some y → x ≡ y) → e + lag a b ≤ d + o → (e + met_in m a) + lag (unmet m a) (stays m has_room b) ≤ (d + met_in m b) + (o + over_in has_room b)
lag_step m true None None e d o same le = omega arith
lag_step m false None None e d o same le = omega arith
lag_step m true (Some x) None e d o same le = elim (cases_Bool (meets x m)) [ inl is ↦ rw is (omega arith) | inr isnt ↦ rw isnt (omega arith) ]
lag_step m false (Some x) None e d o same le = elim (cases_Bool (meets x m)) [ inl is ↦ rw is (omega arith) | inr isnt ↦ rw isnt (omega arith) ]
lag_step m has_room None (Some y) e d o same le = elim (cases_Bool (meets y m)) [ inl is ↦ rw is (omega arith) | inr isnt ↦ rw isnt (omega arith) ]
lag_step {T} m has_room (Some x) (Some y) e d o same le =
    let P : Message T → Type 0 = λ z. (e + met_in m (Some x)) + lag (unmet m (Some x)) (stays m has_room (Some z)) ≤ (d + met_in m (Some z)) + (o + over_in has_room (Some z)) in
    subst P (same x y refl refl) (elim (cases_Bool (meets x m)) [ inl is ↦ rw is (omega arith) | inr isnt ↦ rw isnt (omega arith) ])

-- ---- exchanges under an id

same_under : {T : Type 0} (j : ℤ) (first m : Message T) → is_under (id_of m) first ≡ true → is_under j first ≡ is_under j m
same_under j first m is = ap (λ (i : ℤ). int_eq i j) (same_key exact_signed (id_of first) (id_of m) is)

exchange_count : {T : Type 0} (j : ℤ) (m : Message T) (o : Option (Message T)) → ((x : Message T) → o ≡ Some x → is_under (id_of m) x ≡ true) → count_by (is_of j) (exchange_with m o) ≡ cond (is_under j m) (met_in m o) 0
exchange_count j m None own = elim (cases_Bool (is_under j m)) [ inl is ↦ rw is refl | inr isnt ↦ rw isnt refl ]
exchange_count j m (Some first) own =
    let same = same_under j first m (own first refl) in
    elim (cases_Bool (is_under j m)) [
      | inl is ↦ elim (cases_Bool (meets first m)) [
        | inl meet ↦ elim (cases_Bool (is_request first)) [ inl asks ↦ rw (meet, asks, same, is) refl | inr reply ↦ rw (meet, reply, is) refl ]
        | inr apart ↦ rw (apart, is) refl
      ]
      | inr isnt ↦ elim (cases_Bool (meets first m)) [
        | inl meet ↦ elim (cases_Bool (is_request first)) [ inl asks ↦ rw (meet, asks, same, isnt) refl | inr reply ↦ rw (meet, reply, isnt) refl ]
        | inr apart ↦ rw (apart, isnt) refl
      ]
    ]

-- ---- messages reported alone for want of room

abbrev alone_now : {T : Type 0} → Message T → Bool → Waiting T → List (Message T)
alone_now m has_room w = if overtakes m has_room w then m ∷ [] else []

over_after : {T : Type 0} (j : ℤ) (m : Message T) (o : Option (Message T)) (has_room : Bool) → count_by (is_under j) (if is_overtaken (fate_under o m has_room) then m ∷ [] else []) ≡ cond (is_under j m) (over_in has_room o) 0
over_after j m None true = elim (cases_Bool (is_under j m)) [ inl is ↦ rw is refl | inr isnt ↦ rw isnt refl ]
over_after j m None false = elim (cases_Bool (is_under j m)) [ inl is ↦ rw is refl | inr isnt ↦ rw isnt refl ]
over_after j m (Some first) has_room = elim (cases_Bool (is_under j m)) [
  | inl is ↦ elim (cases_Bool (meets first m)) [ inl meet ↦ rw (meet, is) refl | inr apart ↦ rw (apart, is) refl ]
  | inr isnt ↦ elim (cases_Bool (meets first m)) [ inl meet ↦ rw (meet, isnt) refl | inr apart ↦ rw (apart, isnt) refl ]
]

over_count : {T : Type 0} (j : ℤ) (m : Message T) (has_room : Bool) (w : Waiting T) → is_event m ≡ false → count_by (is_under j) (alone_now m has_room w) ≡ cond (is_under j m) (over_in has_room (under (id_of m) w)) 0
over_count j m has_room w isnt = rw isnt (over_after j m (under (id_of m) w) has_room)

-- ---- one message more

abbrev Behind : {T : Type 0} → ℤ → (h : List (Message T)) → Waiting T → (done : Pairs T) → (over : List (Message T)) → Type 0
Behind j h w done over = count_by (is_of j) (exchanges h) + lag (waits j h) (under j w) ≤ count_by (is_of j) done + count_by (is_under j) over

counted : {X : Type 0} (p : X → Bool) (xs ys : List X) → count_by p (xs ++ ys) ≡ count_by p xs + count_by p ys
counted p xs ys = sum_by-append (λ x. cond (p x) 1 0) xs ys

last_is_own : {T : Type 0} (h : List (Message T)) (id : ℤ) (x : Message T) → last_said id h ≡ Some x → is_under id x ≡ true
last_is_own h id x e = find_is (is_under id) (turned (said h) []) x e

-- what is reported and missing of one message more
exchanges_count : {T : Type 0} (j : ℤ) (h : List (Message T)) (m : Message T) → is_event m ≡ false → count_by (is_of j) (exchanges (h ++ m ∷ [])) ≡ count_by (is_of j) (exchanges h) + cond (is_under j m) (met_in m (waits (id_of m) h)) 0
exchanges_count {T} j h m isnt =
    ap (λ (r : Pairs T). count_by (is_of j) r) (exchanges_more h m isnt)
    ∙ counted (is_of j) (exchanges h) (exchange_with m (waits (id_of m) h))
    ∙ ap (λ (n : ℕ). count_by (is_of j) (exchanges h) + n) (exchange_count j m (waits (id_of m) h) (λ x e. last_is_own h (id_of m) x (waits_last (id_of m) (turned (said h) []) x e)))

reported_count : {T : Type 0} (j : ℤ) (h : List (Message T)) (m : Message T) (room : Bool) (w : Waiting T) (done : Pairs T) → is_event m ≡ false → AreLast h w → count_by (is_of j) (done ++ now m room w) ≡ count_by (is_of j) done + cond (is_under j m) (met_in m (under (id_of m) w)) 0
reported_count {T} j h m room w done isnt are =
    counted (is_of j) done (now m room w)
    ∙ ap (λ (r : Pairs T). count_by (is_of j) done + count_by (is_of j) r) (taken_reported m room w isnt)
    ∙ ap (λ (n : ℕ). count_by (is_of j) done + n) (exchange_count j m (under (id_of m) w) (λ x e. last_is_own h (id_of m) x (are (id_of m) x e)))

alone_count : {T : Type 0} (j : ℤ) (m : Message T) (room : Bool) (w : Waiting T) (over : List (Message T)) → is_event m ≡ false → count_by (is_under j) (over ++ alone_now m room w) ≡ count_by (is_under j) over + cond (is_under j m) (over_in room (under (id_of m) w)) 0
alone_count j m room w over isnt =
    counted (is_under j) over (alone_now m room w) ∙ ap (λ (n : ℕ). count_by (is_under j) over + n) (over_count j m room w isnt)

same_last : {T : Type 0} (h : List (Message T)) (w : Waiting T) (id : ℤ) → AreLast h w → (x y : Message T) → waits id h ≡ Some x → under id w ≡ Some y → x ≡ y
same_last h w id are x y e f =
    let one = waits_last id (turned (said h) []) x e in
    let other = are id y f in
    cc (one, other)

behind_own : {T : Type 0} (j : ℤ) (h : List (Message T)) (m : Message T) (room : Bool) (w : Waiting T) (done : Pairs T) (over : List (Message T)) → is_event m ≡ false → j ≡ id_of m → IsInOrder w → AreLast h w → Behind j h w done over → Behind j (h ++ m ∷ []) (taken m room w).after (done ++ now m room w) (over ++ alone_now m room w)
behind_own {T} j h m room w done over isnt same sorted are le =
    let own : is_id j (id_of m) ≡ true = subst (λ (i : ℤ). is_id i (id_of m) ≡ true) (sym same) (own_key int_cmp_total (id_of m)) in
    let here : is_under j m ≡ true = is_own j m ∙ own in
    let a = waits j h in
    let b = under j w in
    let ja : waits (id_of m) h ≡ a = ap (λ (i : ℤ). waits i h) (sym same) in
    let jb : under (id_of m) w ≡ b = ap (λ (i : ℤ). under i w) (sym same) in
    let exchanged : count_by (is_of j) (exchanges (h ++ m ∷ [])) ≡ count_by (is_of j) (exchanges h) + met_in m a =
    exchanges_count j h m isnt ∙ rw here (ap (λ (o : Option (Message T)). count_by (is_of j) (exchanges h) + met_in m o) ja) in
    let reported : count_by (is_of j) (done ++ now m room w) ≡ count_by (is_of j) done + met_in m b =
    reported_count j h m room w done isnt are ∙ rw here (ap (λ (o : Option (Message T)). count_by (is_of j) done + met_in m o) jb) in
    let alone : count_by (is_under j) (over ++ alone_now m room w) ≡ count_by (is_under j) over + over_in room b =
    alone_count j m room w over isnt ∙ rw here (ap (λ (o : Option (Message T)). count_by (is_under j) over + over_in room o) jb) in
    let waits_now : waits j (h ++ m ∷ []) ≡ unmet m a = waits_more j h m isnt ∙ rw here refl in
    let under_now : under j (taken m room w).after ≡ stays m room b =
    taken_under m room w j isnt sorted ∙ rw own (ap (λ (o : Option (Message T)). stays m room o) jb) in
    let lags : lag (waits j (h ++ m ∷ [])) (under j (taken m room w).after) ≡ lag (unmet m a) (stays m room b) =
    ap (λ (o : Option (Message T)). lag o (under j (taken m room w).after)) waits_now ∙ ap (λ (o : Option (Message T)). lag (unmet m a) o) under_now in
    let step = lag_step m room a b (count_by (is_of j) (exchanges h)) (count_by (is_of j) done) (count_by (is_under j) over) (same_last h w j are) le in
    omega (arith, exchanged, reported, alone, lags, step)

behind_other : {T : Type 0} (j : ℤ) (h : List (Message T)) (m : Message T) (room : Bool) (w : Waiting T) (done : Pairs T) (over : List (Message T)) → is_event m ≡ false → is_id j (id_of m) ≡ false → IsInOrder w → AreLast h w → Behind j h w done over → Behind j (h ++ m ∷ []) (taken m room w).after (done ++ now m room w) (over ++ alone_now m room w)
behind_other {T} j h m room w done over isnt other sorted are le =
    let there : is_under j m ≡ false = is_own j m ∙ other in
    let exchanged = rw there at (exchanges_count j h m isnt) in
    let reported = rw there at (reported_count j h m room w done isnt are) in
    let alone = rw there at (alone_count j m room w over isnt) in
    let waits_now : waits j (h ++ m ∷ []) ≡ waits j h = waits_more j h m isnt ∙ rw there refl in
    let under_now : under j (taken m room w).after ≡ under j w = taken_under m room w j isnt sorted ∙ rw other refl in
    let lags : lag (waits j (h ++ m ∷ [])) (under j (taken m room w).after) ≡ lag (waits j h) (under j w) =
    ap (λ (o : Option (Message T)). lag o (under j (taken m room w).after)) waits_now ∙ ap (λ (o : Option (Message T)). lag (waits j h) o) under_now in
    omega (arith, exchanged, reported, alone, lags, le)

behind_event : {T : Type 0} (j : ℤ) (h : List (Message T)) (m : Message T) (room : Bool) (w : Waiting T) (done : Pairs T) (over : List (Message T)) → is_event m ≡ true → Behind j h w done over → Behind j (h ++ m ∷ []) (taken m room w).after (done ++ now m room w) (over ++ alone_now m room w)
behind_event {T} j h m room w done over is le =
    rw (is, append-nil done, append-nil over, exchanges_event h m is, waits_event j h m is) le

behind_one : {T : Type 0} (j : ℤ) (h : List (Message T)) (m : Message T) (room : Bool) (w : Waiting T) (done : Pairs T) (over : List (Message T)) → Conforms h w done → Behind j h w done over → Behind j (h ++ m ∷ []) (taken m room w).after (done ++ now m room w) (over ++ alone_now m room w)
behind_one j h m room w done over p le = elim (cases_Bool (is_event m)) [
  | inl is ↦ behind_event j h m room w done over is le
  | inr isnt ↦ elim (cases_Bool (is_id j (id_of m))) [
    | inl own ↦ behind_own j h m room w done over isnt (same_key exact_signed j (id_of m) own) p.ordered p.last le
    | inr other ↦ behind_other j h m room w done over isnt other p.ordered p.last le
  ]
]

-- ---- all messages

behind_all : {T : Type 0} (j : ℤ) (ms : List (Message T × Bool)) (h : List (Message T)) (w : Waiting T) (done : Pairs T) (over : List (Message T)) → Conforms h w done → Behind j h w done over → Behind j (h ++ messages ms) (after_all ms w) (done ++ exchanges_in (reported_of ms w)) (over ++ overtaken_of ms w)
behind_all j [] h w done over p le = rw (append-nil h, append-nil done, append-nil over) le
behind_all {T} j (m ∷ ms) h w done over p le =
    let next = taken m.0 m.1 w in
    let first = now m.0 m.1 w in
    let alone = alone_now m.0 m.1 w in
    let rest = behind_all j ms (h ++ m.0 ∷ []) next.after (done ++ first) (over ++ alone) (conforms_one h m.0 m.1 w done p) (behind_one j h m.0 m.1 w done over p le) in
    let reported : (done ++ first) ++ exchanges_in (reported_of ms next.after) ≡ done ++ exchanges_in (reported_or_none next.reported ++ reported_of ms next.after) =
    append_assoc done first (exchanges_in (reported_of ms next.after)) ∙ ap (λ (r : Pairs T). done ++ r) (sym (reported_then next.reported (reported_of ms next.after))) in
    let alones : (over ++ alone) ++ overtaken_of ms next.after ≡ over ++ (alone ++ overtaken_of ms next.after) = append_assoc over alone (overtaken_of ms next.after) in
    let reported_long = ap (λ (r : Pairs T). count_by (is_of j) r) reported in
    let alone_long = ap (λ (r : List (Message T)). count_by (is_under j) r) alones in
    let joined : (h ++ m.0 ∷ []) ++ messages ms ≡ h ++ m.0 ∷ messages ms = append_assoc h (m.0 ∷ []) (messages ms) in
    let P : List (Message T) → Type 0 = λ r. Behind j r (after_all ms next.after) (done ++ exchanges_in (reported_or_none next.reported ++ reported_of ms next.after)) (over ++ (alone ++ overtaken_of ms next.after)) in
    subst P joined (omega (arith, rest, reported_long, alone_long))

pub counts : (T : Type 0) → CountsTheMissing T
counts T ms id = let all = behind_all id ms [] none_wait [] [] conforms_new (omega arith) in omega (arith, all)
