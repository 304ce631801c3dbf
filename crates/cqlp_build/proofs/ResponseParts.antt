-- Parts of responses, as the values that are made of their fields.
use Rattle.std.proofs.Common.{◌≡◌, ℕ, ℤ, List, true, refl}
use Rattle.std.specs.List.{list_all}
use Rattle.cqlp_note.specs.declared.prim.Address.{Address}
use Rattle.cqlp_grammar.specs.Codes as error
use Rattle.cqlp_grammar.specs.Events.{Event}
use Rattle.cqlp_message.specs.Agreement.{change_agrees, extra_agrees, options_agree}
use Rattle.cqlp_message.specs.FrameValues.{Octets, ErrorExtra, Unavailable, WriteTimeout, ReadTimeout, ReadFailure, FunctionFailure, WriteFailure, AlreadyExists, Unprepared, SchemaOptions, Named, Callable, SchemaChange, ServerEvent, Node}
use Rattle.cqlp_build.specs.declared.held.FrameEvents.{FrameEvents}
use Rattle.cqlp_build.specs.FrameEvents.{Builds}
use Rattle.cqlp_build.specs.Productions.{is_callable, is_named, is_node}
use Rattle.cqlp_build.proofs.Optional.{all_true}
use Rattle.cqlp_build.proofs.Steps.{as_builds}

-- ---- errors

pub unavailable_view : (x : ErrorExtra) → extra_agrees error.unavailable x ≡ true → (a : (ℕ × ℤ) × ℤ) × (((true ≡ true) × (true ≡ true)) × (true ≡ true)) × (x ≡ Unavailable a.0.0 a.0.1 a.1)
unavailable_view (Unavailable c r a) e = (((c, r), a), ((refl, refl), refl), refl)
unavailable_view x e = absurd cc

pub write_timeout_view : (x : ErrorExtra) → extra_agrees error.write_timeout x ≡ true → (a : ((ℕ × ℤ) × ℤ) × Octets) × ((((true ≡ true) × (true ≡ true)) × (true ≡ true)) × (true ≡ true)) × (x ≡ WriteTimeout a.0.0.0 a.0.0.1 a.0.1 a.1)
write_timeout_view (WriteTimeout c r b w) e = ((((c, r), b), w), (((refl, refl), refl), refl), refl)
write_timeout_view x e = absurd cc

pub read_timeout_view : (x : ErrorExtra) → extra_agrees error.read_timeout x ≡ true → (a : ((ℕ × ℤ) × ℤ) × ℕ) × ((((true ≡ true) × (true ≡ true)) × (true ≡ true)) × (true ≡ true)) × (x ≡ ReadTimeout a.0.0.0 a.0.0.1 a.0.1 a.1)
read_timeout_view (ReadTimeout c r b d) e = ((((c, r), b), d), (((refl, refl), refl), refl), refl)
read_timeout_view x e = absurd cc

pub read_failure_view : (x : ErrorExtra) → extra_agrees error.read_failure x ≡ true → (a : (((ℕ × ℤ) × ℤ) × ℤ) × ℕ) × (((((true ≡ true) × (true ≡ true)) × (true ≡ true)) × (true ≡ true)) × (true ≡ true)) × (x ≡ ReadFailure a.0.0.0.0 a.0.0.0.1 a.0.0.1 a.0.1 a.1)
read_failure_view (ReadFailure c r b f d) e = (((((c, r), b), f), d), ((((refl, refl), refl), refl), refl), refl)
read_failure_view x e = absurd cc

pub function_failure_view : (x : ErrorExtra) → extra_agrees error.function_failure x ≡ true → (a : (Octets × Octets) × List Octets) × (((true ≡ true) × (true ≡ true)) × (list_all (λ _. true) a.1 ≡ true)) × (x ≡ FunctionFailure a.0.0 a.0.1 a.1)
function_failure_view (FunctionFailure k n ts) e = (((k, n), ts), ((refl, refl), all_true ts), refl)
function_failure_view x e = absurd cc

pub write_failure_view : (x : ErrorExtra) → extra_agrees error.write_failure x ≡ true → (a : (((ℕ × ℤ) × ℤ) × ℤ) × Octets) × (((((true ≡ true) × (true ≡ true)) × (true ≡ true)) × (true ≡ true)) × (true ≡ true)) × (x ≡ WriteFailure a.0.0.0.0 a.0.0.0.1 a.0.0.1 a.0.1 a.1)
write_failure_view (WriteFailure c r b f w) e = (((((c, r), b), f), w), ((((refl, refl), refl), refl), refl), refl)
write_failure_view x e = absurd cc

pub already_exists_view : (x : ErrorExtra) → extra_agrees error.already_exists x ≡ true → (a : Octets × Octets) × ((true ≡ true) × (true ≡ true)) × (x ≡ AlreadyExists a.0 a.1)
already_exists_view (AlreadyExists k t) e = ((k, t), (refl, refl), refl)
already_exists_view x e = absurd cc

pub unprepared_view : (x : ErrorExtra) → extra_agrees error.unprepared x ≡ true → (a : Octets) × (true ≡ true) × (x ≡ Unprepared a)
unprepared_view (Unprepared i) e = (i, refl, refl)
unprepared_view x e = absurd cc

-- ---- schemas

pub named_view : (o : SchemaOptions) → is_named o ≡ true → (a : Octets × Octets) × ((true ≡ true) × (true ≡ true)) × (o ≡ Named a.0 a.1)
named_view (Named k n) e = ((k, n), (refl, refl), refl)
named_view o e = absurd cc

pub callable_view : (o : SchemaOptions) → is_callable o ≡ true → (a : (Octets × Octets) × List Octets) × (((true ≡ true) × (true ≡ true)) × (list_all (λ _. true) a.1 ≡ true)) × (o ≡ Callable a.0.0 a.0.1 a.1)
callable_view (Callable k n ts) e = (((k, n), ts), ((refl, refl), all_true ts), refl)
callable_view o e = absurd cc

abbrev pub change_from : Octets × (Octets × SchemaOptions) → SchemaChange
change_from p = record { change = p.0; target = p.1.0; options = p.1.1 }

pub change_view : (c : SchemaChange) → change_agrees c ≡ true → (a : Octets × (Octets × SchemaOptions)) × ((true ≡ true) × ((true ≡ true) × (options_agree a.1.0 a.1.1 ≡ true))) × (c ≡ change_from a)
change_view c e = ((c.change, (c.target, c.options)), (refl, (refl, e)), refl)

-- ---- events

pub node_view : (e : ServerEvent) → is_node e ≡ true → (a : Octets × (Address × ℤ)) × ((true ≡ true) × (true ≡ true)) × (e ≡ Node a.0 a.1.0 a.1.1)
node_view (Node change address port) e = ((change, (address, port)), (refl, refl), refl)
node_view d e = absurd cc

-- a value of which the same is asked in other words
pub asked : {B : Type 0} {g : B → List Event} {P Q : B → Type 0} {b : B} {old new : FrameEvents} → ((x : B) → P x → Q x) → ((x : B) → Q x → P x) → Builds g P b old new → Builds g Q b old new
asked {B} {g} {P} {Q} to fro one = as_builds g Q (λ x. x) (λ x p. refl) to (λ x q. (x, fro x q, refl)) one
