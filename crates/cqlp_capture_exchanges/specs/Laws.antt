-- Laws: two answers are the same.
use Rattle.std.specs.Prelude.{◌≡◌, ℕ, List, Option, option_map, Ok}
use Rattle.cqlp_note.specs.declared.header.Header.{Header}
use Rattle.cqlp_text.specs.Outputs.{Output}
use Rattle.cqlp_capture_streams.specs.ConnectionEvents.{ConnectionEvent}
use Rattle.cqlp_statement_file.specs.Texts.{Texts}
use Rattle.cqlp_capture_exchanges.specs.declared.pool.ExchangeLimits.{ExchangeLimits}
use Rattle.cqlp_capture_exchanges.specs.declared.filter.ExchangeFilter.{ExchangeFilter}
use Rattle.cqlp_capture_exchanges.specs.declared.form.ExchangeForm.{ExchangeForm}
use Rattle.cqlp_capture_exchanges.specs.declared.statement.Statement.{Statement}
use Rattle.cqlp_capture_exchanges.specs.Statements.{said_of, statement}
use Rattle.cqlp_capture_exchanges.specs.Listening.{Hears, Listening, new_listening}

abbrev pub OneAnswerOfNew : Type 0
OneAnswerOfNew =
    (limits : ExchangeLimits) (given : Texts) (filter : ExchangeFilter) (form : ExchangeForm) (out : Output) (e f : Listening)
    → e ≡ new_listening limits given filter form out → f ≡ new_listening limits given filter form out → f ≡ e

-- where the output does not fail
abbrev pub OneAnswerOfHear : Type 0
OneAnswerOfHear =
    (before e f : Listening) (s : ConnectionEvent) (u v : Unit {0}) → Hears before s (Ok u) e → Hears before s (Ok v) f → f ≡ e

-- wherever the bytes lie
abbrev pub OneAnswerOfStatement : Type 0
OneAnswerOfStatement =
    (h : Header) (body : List ℕ) (x y : Option Statement)
    → option_map said_of x ≡ statement h body → option_map said_of y ≡ statement h body → option_map said_of y ≡ option_map said_of x
