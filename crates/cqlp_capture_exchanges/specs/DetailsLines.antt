-- What a line says of the nodes that an ERROR counts, after a space.
use Rattle.std.specs.Prelude.{ℕ, ℤ, List, [], ◌∷◌, codes, Option, Some, None}
use Rattle.std.specs.Fmt.{signed_decimal}
use Rattle.cqlp_capture_exchanges.specs.ErrorDetails.{Details, Unavailable, WriteTimeout, ReadTimeout, ReadFailure, WriteFailure}
use Rattle.cqlp_capture_exchanges.specs.Levels.{consistency_text}
use Rattle.cqlp_capture_exchanges.specs.Times.{joined}

-- how many, of those that were required
abbrev pub alive_of : (alive required : ℤ) → List ℕ
alive_of alive required = joined (codes " alive " ∷ signed_decimal alive ∷ codes " of " ∷ signed_decimal required ∷ [])

abbrev pub received_of : (received required : ℤ) → List ℕ
received_of received required = joined (codes " received " ∷ signed_decimal received ∷ codes " of " ∷ signed_decimal required ∷ [])

abbrev pub failures_text : (failures : ℤ) → List ℕ
failures_text failures = joined (codes " failed " ∷ signed_decimal failures ∷ [])

abbrev pub known_alive : (consistency : Option ℕ) → (required alive : ℤ) → List ℕ
known_alive consistency required alive = joined (consistency_text consistency ∷ alive_of alive required ∷ [])

abbrev pub known_received : (consistency : Option ℕ) → (received required : ℤ) → List ℕ
known_received consistency received required = joined (consistency_text consistency ∷ received_of received required ∷ [])

abbrev pub known_failed : (consistency : Option ℕ) → (received required failures : ℤ) → List ℕ
known_failed consistency received required failures =
    joined (consistency_text consistency ∷ received_of received required ∷ failures_text failures ∷ [])

-- how many nodes were alive, if all is known
abbrev pub alive_text : (consistency : Option ℕ) → (required alive : Option ℤ) → List ℕ
alive_text (Some level) (Some required) (Some alive) = known_alive (Some level) required alive
alive_text consistency required alive = []

-- how many answered
abbrev pub received_text : (consistency : Option ℕ) → (received required : Option ℤ) → List ℕ
received_text (Some level) (Some received) (Some required) = known_received (Some level) received required
received_text consistency received required = []

-- and how many failed
abbrev pub failed_text : (consistency : Option ℕ) → (received required failures : Option ℤ) → List ℕ
failed_text (Some level) (Some received) (Some required) (Some failures) = known_failed (Some level) received required failures
failed_text consistency received required failures = []

abbrev pub details_text : Details → List ℕ
details_text (Unavailable consistency required alive) = alive_text consistency required alive
details_text (WriteTimeout answers write_type) = received_text answers.consistency answers.received answers.required
details_text (ReadTimeout answers data_present) = received_text answers.consistency answers.received answers.required
details_text (ReadFailure answers failures data_present) = failed_text answers.consistency answers.received answers.required failures
details_text (WriteFailure answers failures write_type) = failed_text answers.consistency answers.received answers.required failures
details_text d = []

abbrev pub numbers_text : Option Details → List ℕ
numbers_text None = []
numbers_text (Some d) = details_text d
