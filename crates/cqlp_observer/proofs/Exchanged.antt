-- Which messages wait, and which exchanges there are, once another message comes.
use Rattle.std.proofs.Common.{◌≡◌, true, false, not, List, [], ◌∷◌, ◌++◌, refl, sym, ap, ◌∙◌, append_assoc, append-nil, Option, ℤ}
use Rattle.std.specs.Prelude.{if◌then◌else◌}
use Rattle.std.proofs.lemmas.List.Elements.{filter-append}
use Rattle.cqlp_observer.specs.declared.message.Message.{Message}
use Rattle.cqlp_observer.specs.Messages.{id_of, is_event, is_under}
use Rattle.cqlp_observer.specs.Waiting.{exchange_with, exchanges, last_said, last_under, meetings, pairs_by, said, turned, unmet, waits, waits_under}

abbrev pub Pairs : Type 0 → Type 0
Pairs T = List (Message T × Message T)

-- ---- what is said

pub said_event : {T : Type 0} (ms : List (Message T)) (m : Message T) → is_event m ≡ true → said (ms ++ m ∷ []) ≡ said ms
said_event ms m is = filter-append (λ x. not (is_event x)) ms (m ∷ []) ∙ rw is (append-nil (said ms))

pub said_more : {T : Type 0} (ms : List (Message T)) (m : Message T) → is_event m ≡ false → said (ms ++ m ∷ []) ≡ said ms ++ m ∷ []
said_more ms m isnt = filter-append (λ x. not (is_event x)) ms (m ∷ []) ∙ rw isnt refl

turned_more : {T : Type 0} (b ms : List (Message T)) (m : Message T) → turned (ms ++ m ∷ []) b ≡ m ∷ turned ms b
turned_more b [] m = refl
turned_more b (x ∷ ms) m = turned_more (x ∷ b) ms m

pairs_then : {T : Type 0} (under : ℤ → List (Message T) → Option (Message T)) (b ms : List (Message T)) (m : Message T) → pairs_by under b (ms ++ m ∷ []) ≡ pairs_by under b ms ++ exchange_with m (under (id_of m) (turned ms b))
pairs_then under b [] m = append-nil (exchange_with m (under (id_of m) b))
pairs_then {T} under b (x ∷ ms) m =
    let own = exchange_with x (under (id_of x) b) in
    ap (λ (r : Pairs T). own ++ r) (pairs_then under (x ∷ b) ms m)
    ∙ sym (append_assoc own (pairs_by under (x ∷ b) ms) (exchange_with m (under (id_of m) (turned ms (x ∷ b)))))

-- ---- an event changes nothing

pub exchanges_event : {T : Type 0} (ms : List (Message T)) (m : Message T) → is_event m ≡ true → exchanges (ms ++ m ∷ []) ≡ exchanges ms
exchanges_event {T} ms m is = ap (λ (r : List (Message T)). pairs_by waits_under [] r) (said_event ms m is)

pub meetings_event : {T : Type 0} (ms : List (Message T)) (m : Message T) → is_event m ≡ true → meetings (ms ++ m ∷ []) ≡ meetings ms
meetings_event {T} ms m is = ap (λ (r : List (Message T)). pairs_by last_under [] r) (said_event ms m is)

pub last_event : {T : Type 0} (id : ℤ) (ms : List (Message T)) (m : Message T) → is_event m ≡ true → last_said id (ms ++ m ∷ []) ≡ last_said id ms
last_event {T} id ms m is = ap (λ (r : List (Message T)). last_under id (turned r [])) (said_event ms m is)

pub waits_event : {T : Type 0} (id : ℤ) (ms : List (Message T)) (m : Message T) → is_event m ≡ true → waits id (ms ++ m ∷ []) ≡ waits id ms
waits_event {T} id ms m is = ap (λ (r : List (Message T)). waits_under id (turned r [])) (said_event ms m is)

-- ---- any other message

-- It is an exchange with that which waits under its id, if they meet.
pub exchanges_more : {T : Type 0} (ms : List (Message T)) (m : Message T) → is_event m ≡ false → exchanges (ms ++ m ∷ []) ≡ exchanges ms ++ exchange_with m (waits (id_of m) ms)
exchanges_more {T} ms m isnt =
    ap (λ (r : List (Message T)). pairs_by waits_under [] r) (said_more ms m isnt)
    ∙ pairs_then waits_under [] (said ms) m

pub meetings_more : {T : Type 0} (ms : List (Message T)) (m : Message T) → is_event m ≡ false → meetings (ms ++ m ∷ []) ≡ meetings ms ++ exchange_with m (last_said (id_of m) ms)
meetings_more {T} ms m isnt =
    ap (λ (r : List (Message T)). pairs_by last_under [] r) (said_more ms m isnt)
    ∙ pairs_then last_under [] (said ms) m

pub last_more : {T : Type 0} (id : ℤ) (ms : List (Message T)) (m : Message T) → is_event m ≡ false → last_said id (ms ++ m ∷ []) ≡ last_under id (m ∷ turned (said ms) [])
last_more {T} id ms m isnt =
    ap (λ (r : List (Message T)). last_under id (turned r [])) (said_more ms m isnt)
    ∙ ap (λ (r : List (Message T)). last_under id r) (turned_more [] (said ms) m)

-- It waits under its id, if it does not meet the one that did.
pub waits_more : {T : Type 0} (id : ℤ) (ms : List (Message T)) (m : Message T) → is_event m ≡ false → waits id (ms ++ m ∷ []) ≡ (if is_under id m then unmet m (waits id ms) else waits id ms)
waits_more {T} id ms m isnt =
    ap (λ (r : List (Message T)). waits_under id (turned r [])) (said_more ms m isnt)
    ∙ ap (λ (r : List (Message T)). waits_under id r) (turned_more [] (said ms) m)
