-- Whole lists of messages of a connection, in the order in which they ended: which requests and responses are exchanges, and which wait.
use Rattle.std.specs.Prelude.{not, ℤ, List, [], ◌∷◌, ◌++◌, find, Option, Some, None, if◌then◌else◌}
use Rattle.std.specs.List.{filter}
use Rattle.cqlp_observer.specs.declared.message.Message.{Message}
use Rattle.cqlp_observer.specs.Messages.{id_of, is_event, is_request, is_under, meets}

-- requests and responses: an event answers nothing
abbrev pub said : {T : Type 0} → List (Message T) → List (Message T)
said ms = filter (λ m. not (is_event m)) ms

-- the latest first, and others behind them
abbrev pub turned : {T : Type 0} → (ms before : List (Message T)) → List (Message T)
turned [] before = before
turned (m ∷ ms) before = turned ms (m ∷ before)

-- ---- under one id, of messages of which the latest come first

abbrev pub last_under : {T : Type 0} → ℤ → (before : List (Message T)) → Option (Message T)
last_under id before = find (is_under id) before

-- a message itself, but if it meets one that waits
abbrev pub unmet : {T : Type 0} → Message T → Option (Message T) → Option (Message T)
unmet m None = Some m
unmet m (Some first) = if meets first m then None else Some m

-- The one that waits: the last that was said, but if it met one that waited.
abbrev pub waits_under : {T : Type 0} → ℤ → (before : List (Message T)) → Option (Message T)
waits_under id [] = None
waits_under id (m ∷ before) = if is_under id m then unmet m (waits_under id before) else waits_under id before

-- ---- exchanges: each a request and its response, whichever came first

abbrev pub as_exchange : {T : Type 0} → (first second : Message T) → Message T × Message T
as_exchange first second = if is_request first then (first, second) else (second, first)

abbrev pub exchange_with : {T : Type 0} → Message T → Option (Message T) → List (Message T × Message T)
exchange_with m None = []
exchange_with m (Some first) = if meets first m then as_exchange first m ∷ [] else []

-- each message with one of those before it, if the two meet
abbrev pub pairs_by : {T : Type 0} → (ℤ → List (Message T) → Option (Message T)) → (before later : List (Message T)) → List (Message T × Message T)
pairs_by under before [] = []
pairs_by under before (m ∷ later) = exchange_with m (under (id_of m) before) ++ pairs_by under (m ∷ before) later

-- A message and the one that waits under its id are an exchange, if they meet.
abbrev pub exchanges : {T : Type 0} → List (Message T) → List (Message T × Message T)
exchanges ms = pairs_by waits_under [] (said ms)

-- A message meets the last before it under its id, whether that waits or not.
abbrev pub meetings : {T : Type 0} → List (Message T) → List (Message T × Message T)
meetings ms = pairs_by last_under [] (said ms)

-- the last that was said under an id
abbrev pub last_said : {T : Type 0} → ℤ → List (Message T) → Option (Message T)
last_said id ms = last_under id (turned (said ms) [])

-- the one that waits under an id: it met none that waited, and nothing has been said under its id since
abbrev pub waits : {T : Type 0} → ℤ → List (Message T) → Option (Message T)
waits id ms = waits_under id (turned (said ms) [])
