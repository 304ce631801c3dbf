use Rattle.std.proofs.Common.{◌≡◌, ◌+◌, ◌++◌, ℕ, refl, sym, ap, ◌∙◌, arith}
use Rattle.cqlp_note.specs.declared.head.Wanted.{Wanted}
use Rattle.cqlp_note.specs.Reader.{Bad}
use Rattle.cqlp_note.specs.Field.{FieldValue}
use Rattle.cqlp_note.specs.Head.{value_of}
use Rattle.cqlp_note.specs.Partial.{FieldState}
use Rattle.cqlp_type.specs.Table.{Table}
use Rattle.cqlp_grammar.specs.Productions.{fault_in, following}
use Rattle.cqlp_decode.specs.declared.progress.StreamProgress.{StreamProgress}
use Rattle.cqlp_decode.specs.Reading.{types_for}
use Rattle.cqlp_decode.specs.Pages.{given_of}
use Rattle.cqlp_decode.specs.Progress.{parts, parts_state, rest_of}
use Rattle.cqlp_decode.proofs.FieldSteps.{piece_waits, piece_fails, piece_faults, piece_inside, piece_hands, goes_on_lawful, metadata_forest, following_there}
use Rattle.cqlp_decode.proofs.progress.StreamProgress.advance_field.Goals as goal

pub overflow_add-self-in-Got : goal.overflow_add-self-in-Got
overflow_add-self-in-Got g c =
    let inside = piece_inside c.args.self.now c.args.parts.now.partial c.ask.new.partial c.args.want c.args.input.now c.ask.ensures c.advance.new.self c.in-Got.used _ c.in-Got.ensures.0 c.requires.bounded.inside in
    let bound = c.requires.bounded.bound in
    let came = c.came-came.ensures.is in
    omega arith

pub returns-in-More-clause-moves : goal.returns-in-More-clause-moves
returns-in-More-clause-moves g c = piece_waits c.args.self.now c.args.parts.now.partial c.ask.new.partial c.args.parts.now.types c.args.parts.now.cells c.args.parts.now.table c.args.parts.now.given c.args.want c.args.input.now c.requires.here c.ask.ensures c.advance.new.self c.in-More.used c.in-More.ensures

pub returns-in-Refused-clause-moves : goal.returns-in-Refused-clause-moves
returns-in-Refused-clause-moves g c = λ b is.
    let e = c.in-Refused.ensures in
    let at : c.in-Refused.refusal.at ≡ c.args.self.now.offset = e.0 ∙ ap (λ (w : Wanted). w.at) c.ask.ensures.field in
    piece_fails c.args.self.now c.args.parts.now.partial c.ask.new.partial c.args.parts.now.types c.args.parts.now.cells c.args.parts.now.table c.args.parts.now.given c.args.want c.args.input.now c.requires.here c.ask.ensures c.in-Refused.refusal.why e.1 b is ∙ (λ i. Bad (sym at i, c.in-Refused.refusal.why))

pub returns-in-Some-clause-moves : goal.returns-in-Some-clause-moves
returns-in-Some-clause-moves g c = λ b is.
    let fault = ap (λ (v : FieldValue). fault_in c.args.want.role v) (sym c.lend-value.ensures) ∙ sym c.fault_in.ensures ∙ c.in-Some.is in
    piece_faults c.args.self.now c.args.parts.now.partial c.ask.new.partial c.args.parts.now.types c.args.parts.now.cells c.args.parts.now.table c.args.parts.now.given c.args.want c.args.input.now c.requires.here c.ask.ensures c.advance.new.self c.in-Got.used _ c.in-Got.ensures.0 c.in-Some.why fault b is

pub returns-in_default-clause-lawful : goal.returns-in_default-clause-lawful
returns-in_default-clause-lawful g c = λ law.
    let inside = piece_inside c.args.self.now c.args.parts.now.partial c.ask.new.partial c.args.want c.args.input.now c.ask.ensures c.advance.new.self c.in-Got.used _ c.in-Got.ensures.0 c.requires.bounded.inside in
    let came = c.came-came.ensures.is in
    let rest = c.follow.ensures.rest in
    let offset : c.follow.new.self.offset ≡ c.args.self.now.offset + (c.came-came.result + c.in-Got.used) = ap (λ (z : StreamProgress). z.offset) rest in
    let ended = c.in-Got.ensures.0.idle in
    let stage = rw c.requires.here at law.stage in
    goes_on_lawful c.args.self.now c.follow.new.self (parts_state c.args.parts.now) c.advance.new.self c.args.parts.now.types c.args.parts.now.cells c.begin_metadata.new.table (c.came-came.result + c.in-Got.used) law offset (omega (arith, inside))
    (ap (λ (z : StreamProgress). z.stop) rest) (ap (λ (z : StreamProgress). z.limits) rest) (ap (λ (z : StreamProgress). z.header) rest) (ap (λ (z : StreamProgress). z.came) rest ∙ c.requires.wanted.came)
    (ap (λ (z : FieldState). z.room) ended ∙ c.ask.ensures.room) (ap (λ (z : FieldState). z.under_way) ended) refl stage.1 refl stage.2 (ap (λ (z : Table). z.room) c.begin_metadata.ensures)
    (rw c.begin_metadata.ensures (metadata_forest c.args.want.role c.args.parts.now.table.nodes c.args.self.now.limits.depth c.requires.forest)) (c.follow.ensures.goes_on (parts c.advance.new.self c.args.parts.now.types c.args.parts.now.cells c.begin_metadata.new.table c.args.parts.now.given) refl refl).1 (record { types = law.quiet.types; cells = law.quiet.cells })

pub returns-in_default-clause-moves : goal.returns-in_default-clause-moves
returns-in_default-clause-moves g c =
    let rest = c.follow.ensures.rest in
    let came = c.came-came.ensures.is in
    let value = c.lend-value.ensures in
    let fine = ap (λ (v : FieldValue). fault_in c.args.want.role v) (sym value) ∙ sym c.fault_in.ensures ∙ c.in_default.is in
    let role = c.args.want.role in
    let nodes = ap (λ (z : Table). z.nodes) c.begin_metadata.ensures in
    let held = given_of c.args.self.now.given_use c.args.parts.now.given in
    let goes_on = c.follow.ensures.goes_on (parts c.advance.new.self c.args.parts.now.types c.args.parts.now.cells c.begin_metadata.new.table c.args.parts.now.given) refl refl in
    piece_hands c.args.self.now c.args.parts.now.partial c.ask.new.partial c.args.parts.now.types c.args.parts.now.cells c.args.parts.now.table c.args.parts.now.given c.args.want c.args.input.now c.requires.here c.ask.ensures c.advance.new.self c.in-Got.used _ c.in-Got.ensures.0
    c.follow.new.self c.begin_metadata.new.table c.in-Got.item refl c.in-Got.ensures.1 fine c.requires.wanted
    (ap (λ (z : StreamProgress). z.offset) rest ∙ ap (λ (k : ℕ). c.args.self.now.offset + (k + c.in-Got.used)) came)
    (ap (λ (z : StreamProgress). z.stop) rest) (ap (λ (z : StreamProgress). z.frame) rest) (ap (λ (z : StreamProgress). z.came) rest ∙ c.requires.wanted.came) goes_on.1
    nodes
    c.follow.ensures.given
    (goes_on.0
    ∙ following_there role (value_of c.lend-value.result) c.args.self.now.limits.types held c.args.parts.now.table.nodes c.begin_metadata.new.table.nodes (rest_of c.args.self.now.upcoming) nodes
    ∙ ap (λ (v : FieldValue). following (types_for c.args.self.now.limits.types role c.args.parts.now.table.nodes held) role v ++ rest_of c.args.self.now.upcoming) value)
