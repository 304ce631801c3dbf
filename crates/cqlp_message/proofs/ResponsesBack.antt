-- Parts that come of the symbols of a response are those of one, but for results.
use Rattle.std.proofs.Common.{◌≡◌, ℕ, true, List, ◌∷◌, Option, refl, sym, subst}
use Rattle.cqlp_note.specs.declared.field.Field.TheVariants as field
use Rattle.cqlp_note.specs.declared.field.Notation.TheVariants as notation
use Rattle.cqlp_note.specs.declared.opcode.Opcode.TheVariants as opcode
use Rattle.cqlp_note.specs.Field as note
use Rattle.cqlp_note.specs.Heading.{beside_number}
use Rattle.cqlp_note.specs.Limits.{Rules}
use Rattle.cqlp_grammar.specs.declared.grammar.Group.TheVariants as group_of
use Rattle.cqlp_grammar.specs.declared.grammar.Role.TheVariants as role
use Rattle.cqlp_message.specs.FrameValues.{Octets, ErrorExtra, Plain, Unavailable, WriteTimeout, ReadTimeout, ReadFailure, FunctionFailure, WriteFailure, AlreadyExists, Unprepared, SchemaOptions, Keyspace, Named, Callable, UnknownTarget, SchemaChange, ServerEvent, Node, Schema, UnknownEvent, Message, Error, Ready, Authenticate, Supported, Event, AuthChallenge, AuthSuccess}
use Rattle.cqlp_grammar.specs.Productions.{Symbol, body, errors, targets, events, or_nothing, by_text, schema_change, plain}
use Rattle.cqlp_message.specs.Bodies.{extra_parts, options_parts, change_parts, event_parts, message_parts}
use Rattle.cqlp_message.specs.Agreement.{bits, extra_agrees, options_agree, change_agrees, event_agrees}
use Rattle.cqlp_message.proofs.Gives.{Back, IsOf, any, by_number, by_name, int_view, text16_view, byte_back, short_back, int_back, text_back, statement_back, bytes_back, inet_back, other_back, none_back, pair_back, led_back, counted_back, texts_back, or_right}

-- ---- errors

-- what an error's code announces is what comes beside it
beside_code : {l : Rules} (code : ℕ) (o : Option (List Symbol)) → beside_number code errors ≡ o → Back l ErrorExtra extra_parts (λ x. extra_agrees code x ≡ true) (or_nothing o) → Back l ErrorExtra extra_parts (λ x. extra_agrees code x ≡ true) (or_nothing (beside_number code errors))
beside_code {l} code o is b = subst (λ o. Back l ErrorExtra extra_parts (λ x. extra_agrees code x ≡ true) (or_nothing o)) (sym is) b

extra_back : {l : Rules} (code : ℕ) → Back l ErrorExtra extra_parts (λ x. extra_agrees code x ≡ true) (or_nothing (beside_number code errors))
extra_back code = by_number code errors (λ o. beside_number code errors ≡ o) _ refl (
  (λ is e. beside_code code _ e (other_back _ _ (λ p. Unavailable p.0 p.1.0 p.1.1) (λ p q. refl) (λ p q. is) (pair_back (short_back field.Consistency) (pair_back (int_back field.Required) (int_back field.Alive))))),
  (
    (λ is e. beside_code code _ e (other_back _ _ (λ p. WriteTimeout p.0 p.1.0 p.1.1.0 p.1.1.1) (λ p q. refl) (λ p q. is) (pair_back (short_back field.Consistency) (pair_back (int_back field.Received) (pair_back (int_back field.BlockFor) (text_back field.WriteType)))))),
    (
      (λ is e. beside_code code _ e (other_back _ _ (λ p. ReadTimeout p.0 p.1.0 p.1.1.0 p.1.1.1) (λ p q. refl) (λ p q. is) (pair_back (short_back field.Consistency) (pair_back (int_back field.Received) (pair_back (int_back field.BlockFor) (byte_back field.DataPresent)))))),
      (
        (λ is e. beside_code code _ e (other_back _ _ (λ p. ReadFailure p.0 p.1.0 p.1.1.0 p.1.1.1.0 p.1.1.1.1) (λ p q. refl) (λ p q. is)
            (pair_back (short_back field.Consistency) (pair_back (int_back field.Received) (pair_back (int_back field.BlockFor) (pair_back (int_back field.Failures) (byte_back field.DataPresent))))))),
        (
          (λ is e. beside_code code _ e (other_back _ _ (λ p. FunctionFailure p.0 p.1.0 p.1.1) (λ p q. refl) (λ p q. is) (pair_back (text_back field.Keyspace) (pair_back (text_back field.Name) (texts_back field.Arguments field.Argument group_of.Arguments refl))))),
          (
            (λ is e. beside_code code _ e (other_back _ _ (λ p. WriteFailure p.0 p.1.0 p.1.1.0 p.1.1.1.0 p.1.1.1.1) (λ p q. refl) (λ p q. is)
                (pair_back (short_back field.Consistency) (pair_back (int_back field.Received) (pair_back (int_back field.BlockFor) (pair_back (int_back field.Failures) (text_back field.WriteType))))))),
            (
              (λ is e. beside_code code _ e (other_back _ _ (λ p. AlreadyExists p.0 p.1) (λ p q. refl) (λ p q. is) (pair_back (text_back field.Keyspace) (text_back field.Table)))),
              (
                (λ is e. beside_code code _ e (other_back _ _ Unprepared (λ p q. refl) (λ p q. is) statement_back)),
                (λ e. beside_code code _ e (none_back _ _ Plain refl (rw e refl))),
              ),
            ),
          ),
        ),
      ),
    ),
  ),
)

pub error_back : {l : Rules} → Back l Message message_parts (IsOf l opcode.Error) (body opcode.Error)
error_back = other_back _ _ (λ p. Error p.0 p.1.0 p.1.1) (λ p q. refl) (λ p q. record { opcode = refl; agrees = q.1; cells = refl; types = tt })
    (led_back notation.Int note.Int int_view field.ErrorCode role.ErrorCode (λ code. plain field.Message notation.Text16 ∷ or_nothing (beside_number (bits code) errors)) (λ code types. refl) (λ described. refl)
    (λ code p q. pair_back (text_back field.Message) (extra_back (bits code))))

-- ---- schema changes

beside_target : {l : Rules} (t : Octets) (ss : List Symbol) → by_text t targets ≡ ss → Back l SchemaOptions options_parts (λ o. options_agree t o ≡ true) ss → Back l SchemaOptions options_parts (λ o. options_agree t o ≡ true) (by_text t targets)
beside_target {l} t ss is b = subst (λ ss. Back l SchemaOptions options_parts (λ o. options_agree t o ≡ true) ss) (sym is) b

options_back : {l : Rules} (t : Octets) → Back l SchemaOptions options_parts (λ o. options_agree t o ≡ true) (by_text t targets)
options_back t = by_name t targets (λ ss. by_text t targets ≡ ss) _ refl (
  (λ is e. beside_target t _ e (other_back _ _ Keyspace (λ p q. refl) (λ p q. is) (text_back field.Keyspace))),
  (
    (λ is e. beside_target t _ e (other_back _ _ (λ p. Named p.0 p.1) (λ p q. refl) (λ p q. rw is refl) (pair_back (text_back field.Keyspace) (text_back field.Name)))),
    (
      (λ is e. beside_target t _ e (other_back _ _ (λ p. Named p.0 p.1) (λ p q. refl) (λ p q. or_right _ _ is) (pair_back (text_back field.Keyspace) (text_back field.Name)))),
      (
        (λ is e. beside_target t _ e (other_back _ _ (λ p. Callable p.0 p.1.0 p.1.1) (λ p q. refl) (λ p q. rw is refl) (pair_back (text_back field.Keyspace) (pair_back (text_back field.Name) (texts_back field.Arguments field.Argument group_of.Arguments refl))))),
        (
          (λ is e. beside_target t _ e (other_back _ _ (λ p. Callable p.0 p.1.0 p.1.1) (λ p q. refl) (λ p q. or_right _ _ is)
              (pair_back (text_back field.Keyspace) (pair_back (text_back field.Name) (texts_back field.Arguments field.Argument group_of.Arguments refl))))),
          (λ e. beside_target t _ e (none_back _ _ UnknownTarget refl (rw e refl))),
        ),
      ),
    ),
  ),
)

pub change_back : {l : Rules} → Back l SchemaChange change_parts (λ c. change_agrees c ≡ true) schema_change
change_back = other_back _ _ (λ p. record { change = p.0; target = p.1.0; options = p.1.1 }) (λ p q. refl) (λ p q. q.1)
    (pair_back (text_back field.Change) (led_back notation.Text16 note.Text text16_view field.Target role.ChangeTarget (λ t. by_text t targets) (λ t types. refl) (λ described. refl) (λ t p q. options_back t)))

-- ---- events

beside_event : {l : Rules} (t : Octets) (ss : List Symbol) → by_text t events ≡ ss → Back l ServerEvent event_parts (λ e. event_agrees t e ≡ true) ss → Back l ServerEvent event_parts (λ e. event_agrees t e ≡ true) (by_text t events)
beside_event {l} t ss is b = subst (λ ss. Back l ServerEvent event_parts (λ e. event_agrees t e ≡ true) ss) (sym is) b

described_back : {l : Rules} (t : Octets) → Back l ServerEvent event_parts (λ e. event_agrees t e ≡ true) (by_text t events)
described_back t = by_name t events (λ ss. by_text t events ≡ ss) _ refl (
  (λ is e. beside_event t _ e (other_back _ _ (λ p. Node p.0 p.1.0 p.1.1) (λ p q. refl) (λ p q. rw is refl) (pair_back (text_back field.Change) (inet_back field.Address)))),
  (
    (λ is e. beside_event t _ e (other_back _ _ (λ p. Node p.0 p.1.0 p.1.1) (λ p q. refl) (λ p q. or_right _ _ is) (pair_back (text_back field.Change) (inet_back field.Address)))),
    (
      (λ is e. beside_event t _ e (other_back _ _ Schema (λ c q. refl) (λ c q. rw is q) change_back)),
      (λ e. beside_event t _ e (none_back _ _ UnknownEvent refl (rw e refl))),
    ),
  ),
)

pub event_back : {l : Rules} → Back l Message message_parts (IsOf l opcode.Event) (body opcode.Event)
event_back = other_back _ _ (λ p. Event p.0 p.1) (λ p q. refl) (λ p q. record { opcode = refl; agrees = q; cells = refl; types = tt })
    (led_back notation.Text16 note.Text text16_view field.EventType role.EventType (λ t. by_text t events) (λ t types. refl) (λ described. refl) (λ t p q. described_back t))

-- ---- other messages

pub ready_back : {l : Rules} → Back l Message message_parts (IsOf l opcode.Ready) (body opcode.Ready)
ready_back = none_back _ _ Ready refl (record { opcode = refl; agrees = refl; cells = refl; types = tt })

pub authenticate_back : {l : Rules} → Back l Message message_parts (IsOf l opcode.Authenticate) (body opcode.Authenticate)
authenticate_back = other_back _ _ Authenticate (λ p q. refl) (λ p q. record { opcode = refl; agrees = refl; cells = refl; types = tt }) (text_back field.Class)

pub supported_back : {l : Rules} → Back l Message message_parts (IsOf l opcode.Supported) (body opcode.Supported)
supported_back = other_back _ _ Supported (λ p q. refl) (λ p q. record { opcode = refl; agrees = refl; cells = refl; types = tt })
    (counted_back any field.Options group_of.OptionLists (other_back _ _ (λ p. p) (λ p q. refl) (λ p q. refl) (pair_back (text_back field.OptionKey) (texts_back field.OptionValues field.OptionValue group_of.OptionValues refl))))

pub auth_challenge_back : {l : Rules} → Back l Message message_parts (IsOf l opcode.AuthChallenge) (body opcode.AuthChallenge)
auth_challenge_back = other_back _ _ AuthChallenge (λ p q. refl) (λ p q. record { opcode = refl; agrees = refl; cells = refl; types = tt }) (bytes_back field.Token)

pub auth_success_back : {l : Rules} → Back l Message message_parts (IsOf l opcode.AuthSuccess) (body opcode.AuthSuccess)
auth_success_back = other_back _ _ AuthSuccess (λ p q. refl) (λ p q. record { opcode = refl; agrees = refl; cells = refl; types = tt }) (bytes_back field.Token)
