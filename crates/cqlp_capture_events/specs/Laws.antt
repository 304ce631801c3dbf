-- Laws: two answers are the same.
use Rattle.std.specs.Prelude.{◌≡◌, ℕ, Option, Ok}
use Rattle.cqlp_text.specs.Outputs.{Output}
use Rattle.cqlp_capture_streams.specs.ConnectionEvents.{ConnectionEvent}
use Rattle.cqlp_capture_events.specs.Listening.{Hears, Listening, new_listening}

abbrev pub OneAnswerOfNew : Type 0
OneAnswerOfNew =
    (asked : Option ℕ) (out : Output) (e f : Listening) → e ≡ new_listening asked out → f ≡ new_listening asked out → f ≡ e

-- where the output does not fail
abbrev pub OneAnswerOfHear : Type 0
OneAnswerOfHear =
    (before e f : Listening) (s : ConnectionEvent) (u v : Unit {0}) → Hears before s (Ok u) e → Hears before s (Ok v) f → f ≡ e
