-- Messages, as the values that are made of their parts.
use Rattle.std.proofs.Common.{◌≡◌, ℕ, ℤ, ◌++◌, ◌&&◌, List, [], ◌∷◌, true, Option, refl, sym, ap, ◌∙◌, append_assoc}
use Rattle.std.specs.Prelude.{not}
use Rattle.std.specs.List.{list_all}
use Rattle.cqlp_note.specs.declared.field.Field.TheVariants as field
use Rattle.cqlp_note.specs.declared.opcode.Opcode.TheVariants as opcode
use Rattle.cqlp_note.specs.Field as note
use Rattle.cqlp_note.specs.Heading.{has}
use Rattle.cqlp_grammar.specs.Events.{Holds}
use Rattle.cqlp_message.specs.Agreement.{bits, event_agrees, extra_agrees, params_agree, there_if}
use Rattle.cqlp_message.specs.FrameValues.{Octets, Message, Startup, Options, Query, Prepare, Execute, Batch, Register, AuthResponse, Error, Ready, Authenticate, Supported, Void, SetKeyspace, Rows, Prepared, Change, UnknownResult, AuthChallenge, AuthSuccess, QueryParams, BatchEntry, Text, Id, ErrorExtra, SchemaChange, ServerEvent}
use Rattle.cqlp_message.specs.FrameValues as value
use Rattle.cqlp_message.specs.Bodies as body
use Rattle.cqlp_build.specs.declared.held.FrameEvents.{FrameEvents}
use Rattle.cqlp_build.specs.FrameEvents.{Builds, any}
use Rattle.cqlp_build.specs.Productions.{BuildsMessage, IsOf}
use Rattle.cqlp_build.specs.Emitted.{emitted}
use Rattle.cqlp_build.proofs.Optional.{all_true}
use Rattle.cqlp_build.proofs.Several.{both, join}
use Rattle.cqlp_build.proofs.Steps.{as_builds, pair_builds, emitted_four, ◌then◌}

-- ---- what a message of an opcode is

pub startup_view : (m : Message) → IsOf opcode.Startup m → (a : List (Octets × Octets)) × (list_all (λ _. true) a ≡ true) × (m ≡ Startup a)
startup_view (Startup os) i = (os, all_true os, refl)
startup_view m i = let o = i.opcode in absurd cc

pub options_only : (m : Message) → IsOf opcode.Options m → m ≡ Options
options_only Options i = refl
options_only m i = let o = i.opcode in absurd cc

pub query_view : (m : Message) → IsOf opcode.Query m → (a : Octets × QueryParams) × ((true ≡ true) × (params_agree a.1 ≡ true)) × (m ≡ Query a.0 a.1)
query_view (Query t q) i = ((t, q), (refl, i.agrees), refl)
query_view m i = let o = i.opcode in absurd cc

pub prepare_view : (m : Message) → IsOf opcode.Prepare m → (a : Octets) × (true ≡ true) × (m ≡ Prepare a)
prepare_view (Prepare t) i = (t, refl, refl)
prepare_view m i = let o = i.opcode in absurd cc

pub execute_view : (m : Message) → IsOf opcode.Execute m → (a : Octets × QueryParams) × ((true ≡ true) × (params_agree a.1 ≡ true)) × (m ≡ Execute a.0 a.1)
execute_view (Execute id q) i = ((id, q), (refl, i.agrees), refl)
execute_view m i = let o = i.opcode in absurd cc

pub register_view : (m : Message) → IsOf opcode.Register m → (a : List Octets) × (list_all (λ _. true) a ≡ true) × (m ≡ Register a)
register_view (Register ts) i = (ts, all_true ts, refl)
register_view m i = let o = i.opcode in absurd cc

pub auth_response_view : (m : Message) → IsOf opcode.AuthResponse m → (a : Option Octets) × (true ≡ true) × (m ≡ AuthResponse a)
auth_response_view (AuthResponse t) i = (t, refl, refl)
auth_response_view m i = let o = i.opcode in absurd cc

pub error_view : (m : Message) → IsOf opcode.Error m → (a : ℤ × (Octets × ErrorExtra)) × ((true ≡ true) × ((true ≡ true) × (extra_agrees (bits a.0) a.1.1 ≡ true))) × (m ≡ Error a.0 a.1.0 a.1.1)
error_view (Error c t x) i = ((c, (t, x)), (refl, (refl, i.agrees)), refl)
error_view m i = let o = i.opcode in absurd cc

pub ready_only : (m : Message) → IsOf opcode.Ready m → m ≡ Ready
ready_only Ready i = refl
ready_only m i = let o = i.opcode in absurd cc

pub authenticate_view : (m : Message) → IsOf opcode.Authenticate m → (a : Octets) × (true ≡ true) × (m ≡ Authenticate a)
authenticate_view (Authenticate c) i = (c, refl, refl)
authenticate_view m i = let o = i.opcode in absurd cc

pub supported_view : (m : Message) → IsOf opcode.Supported m → (a : List (Octets × List Octets)) × (list_all (λ _. true) a ≡ true) × (m ≡ Supported a)
supported_view (Supported os) i = (os, all_true os, refl)
supported_view m i = let o = i.opcode in absurd cc

pub event_view : (m : Message) → IsOf opcode.Event m → (a : Octets × ServerEvent) × ((true ≡ true) × (event_agrees a.0 a.1 ≡ true)) × (m ≡ value.Event a.0 a.1)
event_view (value.Event e d) i = ((e, d), (refl, i.agrees), refl)
event_view m i = let o = i.opcode in absurd cc

pub auth_challenge_view : (m : Message) → IsOf opcode.AuthChallenge m → (a : Option Octets) × (true ≡ true) × (m ≡ AuthChallenge a)
auth_challenge_view (AuthChallenge t) i = (t, refl, refl)
auth_challenge_view m i = let o = i.opcode in absurd cc

pub auth_success_view : (m : Message) → IsOf opcode.AuthSuccess m → (a : Option Octets) × (true ≡ true) × (m ≡ AuthSuccess a)
auth_success_view (AuthSuccess t) i = (t, refl, refl)
auth_success_view m i = let o = i.opcode in absurd cc

-- ---- batches

abbrev pub BatchEnd : Type 0
BatchEnd = ℕ × ((Unit {0} × Option ℕ) × Option ℤ)

abbrev pub AreBatchEnd : ℕ → (Unit {0} × Option ℕ) × Option ℤ → Type 0
AreBatchEnd f r = ((not (has f 0x4F) ≡ true) × (there_if (has f 0x10) r.0.1 ≡ true)) × (there_if (has f 0x20) r.1 ≡ true)

abbrev pub BatchStart : Type 0
BatchStart = (ℕ × List BatchEntry) × ℕ

abbrev pub batch_from : BatchStart × BatchEnd → Message
batch_from p = Batch p.0.0.0 p.0.0.1 p.0.1 p.1.0 p.1.1.0.1 p.1.1.1

pub batch_view : (m : Message) → IsOf opcode.Batch m → (a : BatchStart × BatchEnd) × ((((true ≡ true) × (list_all (λ _. true) a.0.0.1 ≡ true)) × (true ≡ true)) × ((true ≡ true) × AreBatchEnd a.1.0 a.1.1)) × (m ≡ batch_from a)
batch_view (Batch k es c f s t) i =
    let p = both (not (has f 0x4F) && there_if (has f 0x10) s) (there_if (has f 0x20) t) i.agrees in
    let q = both (not (has f 0x4F)) (there_if (has f 0x10) s) p.0 in
    ((((k, es), c), (f, ((tt, s), t))), (((refl, all_true es), refl), (refl, (q, p.1))), refl)
batch_view m i = let o = i.opcode in absurd cc

batch_events : (kind : ℕ) (es : List BatchEntry) (consistency flags : ℕ) (serial : Option ℕ) (timestamp : Option ℤ)
    → emitted (body.message_parts (Batch kind es consistency flags serial timestamp))
    ≡ Holds field.BatchType (note.Byte kind) ∷ ((emitted (body.counted field.Entries body.entry_parts es) ++ Holds field.Consistency (note.Short consistency) ∷ [])
    ++ Holds field.BatchFlags (note.Byte flags) ∷ (emitted (body.serial_parts serial) ++ emitted (body.timestamp_parts timestamp)))
batch_events kind es consistency flags serial timestamp =
    let entries = emitted (body.counted field.Entries body.entry_parts es) in
    let one = Holds field.Consistency (note.Short consistency) in
    let two = Holds field.BatchFlags (note.Byte flags) in
    let s = emitted (body.serial_parts serial) in
    let t = emitted (body.timestamp_parts timestamp) in
    ap (λ r. Holds field.BatchType (note.Byte kind) ∷ r)
    (emitted_four (body.counted field.Entries body.entry_parts es) (body.short field.Consistency consistency ∷ body.byte field.BatchFlags flags ∷ []) (body.serial_parts serial) (body.timestamp_parts timestamp)
    ∙ append_assoc (entries ++ one ∷ two ∷ []) s t
    ∙ append_assoc entries (one ∷ two ∷ []) (s ++ t)
    ∙ sym (append_assoc entries (one ∷ []) (two ∷ (s ++ t))))

pub batch_builds : {kind consistency flags : ℕ} {entries : List BatchEntry} {serial : Option ℕ} {timestamp : Option ℤ} {a b c d e f g h : FrameEvents}
    → Builds (λ n. Holds field.BatchType (note.Byte n) ∷ []) any kind a b
    → Builds (λ es. emitted (body.counted field.Entries body.entry_parts es)) (λ es. list_all (λ _. true) es ≡ true) entries b c
    → Builds (λ n. Holds field.Consistency (note.Short n) ∷ []) any consistency c d
    → Builds (λ n. Holds field.BatchFlags (note.Byte n) ∷ []) any flags d e
    → Builds {A = Unit {0}} (λ _. []) (λ _. not (has flags 0x4F) ≡ true) tt e f
    → Builds (λ o. emitted (body.serial_parts o)) (λ o. there_if (has flags 0x10) o ≡ true) serial f g
    → Builds (λ o. emitted (body.timestamp_parts o)) (λ o. there_if (has flags 0x20) o ≡ true) timestamp g h
    → BuildsMessage opcode.Batch (Batch kind entries consistency flags serial timestamp) a h
batch_builds one two three four five six seven =
    as_builds (λ m. emitted (body.message_parts m)) (IsOf opcode.Batch) batch_from
    (λ p q. batch_events p.0.0.0 p.0.0.1 p.0.1 p.1.0 p.1.1.0.1 p.1.1.1)
    (λ p q. record {
      opcode = refl;
      agrees = join (not (has p.1.0 0x4F) && there_if (has p.1.0 0x10) p.1.1.0.1) (there_if (has p.1.0 0x20) p.1.1.1) (join (not (has p.1.0 0x4F)) (there_if (has p.1.0 0x10) p.1.1.0.1) q.1.1.0.0 q.1.1.0.1) q.1.1.1;
      built = refl;
      cells = refl;
    })
    batch_view
    (one then two then three then pair_builds AreBatchEnd four (five then six then seven))
