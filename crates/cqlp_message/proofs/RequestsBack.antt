-- Parts that come of the symbols of a request are those of one.
use Rattle.std.proofs.Common.{◌≡◌, ℕ, ℤ, Bool, true, false, ◌&&◌, List, [], ◌∷◌, ◌++◌, Option, Some, None, refl, sym, ap, ◌∙◌, append_assoc, arith}
use Rattle.std.specs.Prelude.{IfSome, ◌==◌, nat_lt, not, if◌then◌else◌}
use Rattle.std.specs.List.{list_all}
use Rattle.std.proofs.lemmas.Bool.{eqb-true, eqb-false, ltb-false}
use Rattle.cqlp_note.specs.declared.field.Field.TheVariants as field
use Rattle.cqlp_note.specs.declared.field.Notation.TheVariants as notation
use Rattle.cqlp_note.specs.declared.refusal.Reason.{Reason}
use Rattle.cqlp_note.specs.declared.refusal.Reason.TheVariants.{BadBatchKind, BadBatchFlags}
use Rattle.cqlp_note.specs.Field.{BoundValue}
use Rattle.cqlp_note.specs.Field as note
use Rattle.cqlp_note.specs.Heading.{has}
use Rattle.cqlp_note.specs.Limits.{Rules}
use Rattle.cqlp_note.specs.declared.opcode.Opcode.TheVariants as opcode
use Rattle.cqlp_grammar.specs.declared.grammar.Group.TheVariants as group_of
use Rattle.cqlp_grammar.specs.declared.grammar.Role.TheVariants as role
use Rattle.cqlp_message.specs.FrameValues.{Octets, QueryParams, BatchEntry, Text, Id, Message, Startup, Query, Prepare, Execute, Batch, Register, AuthResponse}
use Rattle.cqlp_message.specs.FrameValues as frame
use Rattle.cqlp_grammar.specs.Productions.{Symbol, group, parameters, query_parts, batch_parts, body, fault_in, plain, counted}
use Rattle.cqlp_grammar.specs.Productions as productions
use Rattle.cqlp_message.specs.Parts.{Part, Field_is}
use Rattle.cqlp_message.specs.Bodies.{value_parts, params_parts, entry_parts, message_parts, text}
use Rattle.cqlp_message.specs.Bodies as bodies
use Rattle.cqlp_message.specs.Agreement.{there_if, are_named, params_agree, batch_agrees}
use Rattle.cqlp_message.proofs.Gives.{Back, IsOf, any, byte_view, byte_back, short_back, int_back, long_back, text_back, query_back, statement_back, bytes_back, bound_back, other_back, none_back, pair_back, led_back, counted_back, texts_back, where_back}

-- ---- values

value_back : {l : Rules} (named : Bool) → Back l (Option Octets × BoundValue) value_parts (λ v. there_if named v.0 ≡ true) (group (group_of.QueryValues named))
value_back true = other_back _ _ (λ p. (Some p.0, p.1)) (λ p q. refl) (λ p q. refl) (pair_back (text_back field.ValueName) bound_back)
value_back false = other_back _ _ (λ v. (None, v)) (λ p q. refl) (λ p q. refl) bound_back

named_where : (named : Bool) (o : Option (List (Option Octets × BoundValue))) → IfSome o (λ vs. list_all (λ v. there_if named v.0) vs ≡ true) → are_named named o ≡ true
named_where named None p = refl
named_where named (Some vs) p = p

-- ---- parameters

abbrev Announced : Type 0
Announced = (((Option (List (Option Octets × BoundValue)) × Option ℤ) × Option (Option Octets)) × Option ℕ) × Option ℤ

abbrev params : ℕ × (ℕ × Announced) → QueryParams
params p = record { consistency = p.0; flags = p.1.0; values = p.1.1.0.0.0.0; page_size = p.1.1.0.0.0.1; paging = p.1.1.0.0.1; serial = p.1.1.0.1; timestamp = p.1.1.1 }

all_agree : (a b c d e f : Bool) → a ≡ true → b ≡ true → c ≡ true → d ≡ true → e ≡ true → f ≡ true → (a && b && c && d && e && f) ≡ true
all_agree a b c d e f p q r s t u = rw (p, q, r, s, t, u) refl

pub params_back : {l : Rules} → Back l QueryParams params_parts (λ q. params_agree q ≡ true) parameters
params_back = other_back _ _ params (λ p q. refl) (λ p q. all_agree _ _ _ _ _ _ q.1.0.0.0.0.0 (named_where _ p.1.1.0.0.0.0 q.1.0.0.0.0.1) q.1.0.0.0.1.0 q.1.0.0.1.0 q.1.0.1.0 q.1.1.0)
    (pair_back (short_back field.Consistency) (led_back notation.Byte note.Byte byte_view field.QueryFlags role.QueryFlags query_parts (λ flags types. refl) (λ described. refl)
    (λ flags p q. pair_back (pair_back (pair_back (pair_back
    (where_back (counted_back (λ v. there_if (has flags 0x40) v.0) field.Values (group_of.QueryValues (has flags 0x40)) (value_back (has flags 0x40))) flags 0x01)
    (where_back (int_back field.PageSize) flags 0x04)) (where_back (bytes_back field.PagingState) flags 0x08)) (where_back (short_back field.SerialConsistency) flags 0x10)) (where_back (long_back field.Timestamp) flags 0x20))))

-- ---- batches

bounds_back : {l : Rules} → Back l (List BoundValue) (bodies.counted field.Values (λ v. bodies.bound v ∷ [])) (λ vs. list_all any vs ≡ true) (counted field.Values group_of.BatchValues ∷ [])
bounds_back = counted_back any field.Values group_of.BatchValues bound_back

-- what comes after an entry's kind
abbrev behind_kind : BatchEntry → List Part
behind_kind (Text t vs) = bodies.query t ∷ bodies.counted field.Values (λ v. bodies.bound v ∷ []) vs
behind_kind (Id i vs) = bodies.statement i ∷ bodies.counted field.Values (λ v. bodies.bound v ∷ []) vs

abbrev kind_of : BatchEntry → ℕ
kind_of (Text t vs) = 0
kind_of (Id i vs) = 1

no_fault : (b : Bool) (why : Reason) → (if b then Some why else None) ≡ None → b ≡ false
no_fault true why e = absurd cc
no_fault false why e = refl

whole_entry : (n : ℕ) (e : BatchEntry) → n ≡ kind_of e → Field_is field.EntryKind notation.Byte (note.Byte n) ∷ behind_kind e ≡ entry_parts e
whole_entry n (Text t vs) is = rw is refl
whole_entry n (Id i vs) is = rw is refl

behind_kind_back : {l : Rules} (n : ℕ) → fault_in role.EntryKind (note.Byte n) ≡ None → (b : Bool) → (n == 0) ≡ b
    → Back l BatchEntry behind_kind (λ e. n ≡ kind_of e) ((if b then plain field.Query notation.Text32 ∷ [] else plain field.StatementId notation.Bytes16 ∷ []) ++ counted field.Values group_of.BatchValues ∷ [])
behind_kind_back n fault true is = other_back _ _ (λ p. Text p.0 p.1) (λ p q. refl) (λ p q. eqb-true n 0 is) (pair_back query_back bounds_back)
behind_kind_back n fault false is =
    let one : n ≡ 1 = omega (arith, eqb-false n 0 is, ltb-false 1 n (no_fault (nat_lt 1 n) BadBatchKind fault)) in
    other_back _ _ (λ p. Id p.0 p.1) (λ p q. refl) (λ p q. one) (pair_back statement_back bounds_back)

entry_back : {l : Rules} → Back l BatchEntry entry_parts (λ e. any e ≡ true) (group group_of.BatchEntries)
entry_back = other_back _ _ (λ p. p.1) (λ p q. whole_entry p.0 p.1 q) (λ p q. refl)
    (led_back notation.Byte note.Byte byte_view field.EntryKind role.EntryKind productions.entry_parts (λ n types. refl) (λ described. refl) (λ n p q. behind_kind_back n p (n == 0) refl))

in_line : (a c d : List Part) (x y : Part) → a ++ (x ∷ y ∷ (c ++ d)) ≡ ((a ++ (x ∷ y ∷ [])) ++ c) ++ d
in_line a c d x y = sym (append_assoc (a ++ (x ∷ y ∷ [])) c d ∙ append_assoc a (x ∷ y ∷ []) (c ++ d))

three_agree : (a b c : Bool) → a ≡ false → b ≡ true → c ≡ true → (not a && b && c) ≡ true
three_agree a b c p q r = rw (p, q, r) refl

ends_back : {l : Rules} (flags : ℕ) → fault_in role.BatchFlags (note.Byte flags) ≡ None → Back l (Option ℕ × Option ℤ) (λ r. bodies.serial_parts r.0 ++ bodies.timestamp_parts r.1) (λ r. batch_agrees flags r.0 r.1 ≡ true) (batch_parts flags)
ends_back flags p = other_back _ _ (λ r. r) (λ r q. refl) (λ r q. three_agree _ _ _ (no_fault (has flags 0x4F) BadBatchFlags p) q.0.0 q.1.0)
    (pair_back (where_back (short_back field.SerialConsistency) flags 0x10) (where_back (long_back field.Timestamp) flags 0x20))

abbrev batch : ℕ × (List BatchEntry × (ℕ × (ℕ × (Option ℕ × Option ℤ)))) → Message
batch p = Batch p.0 p.1.0 p.1.1.0 p.1.1.1.0 p.1.1.1.1.0 p.1.1.1.1.1

pub batch_back : {l : Rules} → Back l Message message_parts (IsOf l opcode.Batch) (body opcode.Batch)
batch_back = other_back _ _ batch (λ p q. ap (λ t. bodies.byte field.BatchType p.0 ∷ t) (in_line (bodies.counted field.Entries entry_parts p.1.0) (bodies.serial_parts p.1.1.1.1.0) (bodies.timestamp_parts p.1.1.1.1.1) (bodies.short field.Consistency p.1.1.0) (bodies.byte field.BatchFlags p.1.1.1.0)))
    (λ p q. record { opcode = refl; agrees = q.1.1.1; cells = refl; types = tt })
    (pair_back (byte_back field.BatchType) (pair_back (counted_back any field.Entries group_of.BatchEntries entry_back) (pair_back (short_back field.Consistency)
    (led_back notation.Byte note.Byte byte_view field.BatchFlags role.BatchFlags batch_parts (λ flags types. refl) (λ described. refl) (λ flags p q. ends_back flags p)))))

-- ---- messages

pub startup_back : {l : Rules} → Back l Message message_parts (IsOf l opcode.Startup) (body opcode.Startup)
startup_back = other_back _ _ Startup (λ p q. refl) (λ p q. record { opcode = refl; agrees = refl; cells = refl; types = tt })
    (counted_back any field.Options group_of.StringPairs (other_back _ _ (λ p. p) (λ p q. refl) (λ p q. refl) (pair_back (text_back field.OptionKey) (text_back field.OptionValue))))

pub options_back : {l : Rules} → Back l Message message_parts (IsOf l opcode.Options) (body opcode.Options)
options_back = none_back _ _ frame.Options refl (record { opcode = refl; agrees = refl; cells = refl; types = tt })

pub query_message_back : {l : Rules} → Back l Message message_parts (IsOf l opcode.Query) (body opcode.Query)
query_message_back = other_back _ _ (λ p. Query p.0 p.1) (λ p q. refl) (λ p q. record { opcode = refl; agrees = q.1; cells = refl; types = tt }) (pair_back query_back params_back)

pub prepare_back : {l : Rules} → Back l Message message_parts (IsOf l opcode.Prepare) (body opcode.Prepare)
prepare_back = other_back _ _ Prepare (λ p q. refl) (λ p q. record { opcode = refl; agrees = refl; cells = refl; types = tt }) query_back

pub execute_back : {l : Rules} → Back l Message message_parts (IsOf l opcode.Execute) (body opcode.Execute)
execute_back = other_back _ _ (λ p. Execute p.0 p.1) (λ p q. refl) (λ p q. record { opcode = refl; agrees = q.1; cells = refl; types = tt }) (pair_back statement_back params_back)

pub register_back : {l : Rules} → Back l Message message_parts (IsOf l opcode.Register) (body opcode.Register)
register_back = other_back _ _ Register (λ p q. refl) (λ p q. record { opcode = refl; agrees = refl; cells = refl; types = tt }) (texts_back field.EventTypes field.EventType group_of.EventTypes refl)

pub auth_response_back : {l : Rules} → Back l Message message_parts (IsOf l opcode.AuthResponse) (body opcode.AuthResponse)
auth_response_back = other_back _ _ AuthResponse (λ p q. refl) (λ p q. record { opcode = refl; agrees = refl; cells = refl; types = tt }) (bytes_back field.Token)
