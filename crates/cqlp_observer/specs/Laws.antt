-- Laws: which exchanges are reported, and that no other message waits than those that do.
use Rattle.std.specs.Prelude.{◌≡◌, ℕ, ◌+◌, ◌≤◌, Bool, true, ℤ, List, [], ◌∷◌, ◌++◌, count_by, map, Option, Some, if◌then◌else◌, ⊤}
use Rattle.std.specs.List.Sorted.{IsPermutation, IsStrictlySortedBy}
use Rattle.std.specs.Map.{keys_of, values_of}
use Rattle.std.specs.Ordering.{int_cmp}
use Rattle.cqlp_note.specs.declared.header.Header.{Header}
use Rattle.cqlp_note.specs.declared.whole.WholeField.{WholeField}
use Rattle.cqlp_note.specs.Laws.{AreSameFrontFields}
use Rattle.cqlp_observer.specs.declared.message.Message.{Message}
use Rattle.cqlp_observer.specs.declared.paired.Paired.{Paired}
use Rattle.cqlp_observer.specs.declared.paired.Paired.TheVariants.{Exchange, Unanswered, Unasked, Event}
use Rattle.cqlp_observer.specs.Messages.{is_under}
use Rattle.cqlp_observer.specs.Subjects.{SaysSubject}
use Rattle.cqlp_observer.specs.Waiting.{exchanges, last_said, meetings, waits}
use Rattle.cqlp_observer.specs.Pairings.{Waiting, after_all, none_wait, overtakes, taken, reported_of, under}

-- the messages, of each of which is said whether there was room for one more that waits
abbrev pub messages : {T : Type 0} → List (Message T × Bool) → List (Message T)
messages ms = map (λ m. m.0) ms

-- There was room always.
abbrev pub HasRoom : {T : Type 0} → List (Message T × Bool) → Type 0
HasRoom [] = ⊤
HasRoom (m ∷ ms) = (m.1 ≡ true) × HasRoom ms

-- Those that wait, at most one under each id and the least id first. Where there was room always, they are those that wait by the whole list of
-- messages. Each is the last that was said under its id, always.
pub record AreThoseThatWait {T : Type 0} (ms : List (Message T × Bool)) (w : Waiting T) : Type 0 where
  pub ordered : IsStrictlySortedBy int_cmp (keys_of w)
  pub all : HasRoom ms → (id : ℤ) → under id w ≡ waits id (messages ms)
  pub last : (id : ℤ) (m : Message T) → under id w ≡ Some m → last_said id (messages ms) ≡ Some m

abbrev pub KeepsThoseThatWait : Type 0 → Type 0
KeepsThoseThatWait T = (ms : List (Message T × Bool)) → AreThoseThatWait ms (after_all ms none_wait)

-- the exchanges among what is reported
abbrev pub exchange_of : {T : Type 0} → Paired T → List (Message T × Message T)
exchange_of (Exchange request response) = (request, response) ∷ []
exchange_of (Unanswered request) = []
exchange_of (Unasked response) = []
exchange_of (Event event) = []

abbrev pub exchanges_in : {T : Type 0} → List (Paired T) → List (Message T × Message T)
exchanges_in [] = []
exchanges_in (t ∷ reported) = exchange_of t ++ exchanges_in reported

-- The exchanges of the messages, in their order, where there was room always. Each is one of a message that meets the last before it under its
-- id, always, and none of these is reported twice.
pub record AreTheExchanges {T : Type 0} (ms : List (Message T × Bool)) (reported : List (Message T × Message T)) : Type 0 where
  pub all : HasRoom ms → reported ≡ exchanges (messages ms)
  pub missed : List (Message T × Message T)
  pub each : IsPermutation (meetings (messages ms)) (missed ++ reported)

abbrev pub ReportsTheExchanges : Type 0 → Type 0
ReportsTheExchanges T = (ms : List (Message T × Bool)) → AreTheExchanges ms (exchanges_in (reported_of ms none_wait))

-- ---- what is missing

-- the messages that are reported alone since there is no room for them
abbrev pub overtaken_of : {T : Type 0} → List (Message T × Bool) → Waiting T → List (Message T)
overtaken_of [] w = []
overtaken_of (m ∷ ms) w = (if overtakes m.0 m.1 w then m.0 ∷ [] else []) ++ overtaken_of ms (taken m.0 m.1 w).after

-- an exchange under an id
abbrev pub is_of : {T : Type 0} → ℤ → Message T × Message T → Bool
is_of id exchange = is_under id exchange.0

-- Under each id no more exchanges of the messages are missing than messages were reported alone for want of room.
abbrev pub CountsTheMissing : Type 0 → Type 0
CountsTheMissing T =
    (ms : List (Message T × Bool)) (id : ℤ)
    → count_by (is_of id) (exchanges (messages ms))
    ≤ count_by (is_of id) (exchanges_in (reported_of ms none_wait)) + count_by (is_under id) (overtaken_of ms none_wait)

-- ---- the messages of what is reported

abbrev pub messages_of : {T : Type 0} → Paired T → List (Message T)
messages_of (Exchange request response) = request ∷ response ∷ []
messages_of (Unanswered request) = request ∷ []
messages_of (Unasked response) = response ∷ []
messages_of (Event event) = event ∷ []

abbrev pub messages_in : {T : Type 0} → List (Paired T) → List (Message T)
messages_in [] = []
messages_in (t ∷ reported) = messages_of t ++ messages_in reported

-- Each message is reported once or waits, whatever is missing and whether there was room.
abbrev pub ReportsEachMessage : Type 0 → Type 0
ReportsEachMessage T =
    (ms : List (Message T × Bool))
    → IsPermutation (messages ms) (messages_in (reported_of ms none_wait) ++ values_of (after_all ms none_wait))

-- ---- one answer

-- What is said of a message is one field, or none.
abbrev pub OneAnswerOfSubject : Type 0
OneAnswerOfSubject =
    (h : Header) (front : List ℕ) (a b : Option WholeField)
    → SaysSubject h front a → SaysSubject h front b → AreSameFrontFields a b
