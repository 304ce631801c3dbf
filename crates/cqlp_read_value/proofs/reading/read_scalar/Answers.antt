use Rattle.std.proofs.Common.{ℕ, List, Some, refl, sym, ◌∙◌, subst}
use Rattle.cqlp_kind.specs.Contents.{value_of}
use Rattle.cqlp_kind.specs.Scalars.{ScalarValue}
use Rattle.cqlp_value.specs.Values.{AreWithin, IsBytes, NoValue, Scalar_and, ValueSpells}
use Rattle.cqlp_read_value.specs.Reading.{whole_rules}
use Rattle.cqlp_read_value.specs.declared.error.ReadError.TheVariants as error
use Rattle.cqlp_read_value.specs.Fronts.{ReadsScalar}
use Rattle.cqlp_read_value.proofs.Contents.{scalar_long, scalar_fails, scalar_reads, scalar_wants}
use Rattle.cqlp_read_value.proofs.Steps.{err_of}
use Rattle.cqlp_read_value.proofs.reading.read_scalar.Goals as goal

pub returns-then-is_too_long : goal.returns-then-is_too_long
returns-then-is_too_long c = rw c.refused.ensures (λ inner. scalar_long (whole_rules c.args.reading.now.limits) refl refl c.args.at c.args.kind c.args.content.now c.requires.scalar inner (sym c.is_too_long.ensures ∙ c.if-is_too_long.true))

pub returns-in_ok-own-in-Ok : goal.returns-in_ok-own-in-Ok
returns-in_ok-own-in-Ok c inner =
    let rules = whole_rules c.args.reading.now.limits in
    let content = c.args.content.now in
    subst (λ (v : ScalarValue). ((front : List ℕ) → IsBytes (Some content) front → ValueSpells c.args.kind inner (Scalar_and v NoValue) front) × AreWithin rules (Scalar_and v NoValue)) (sym c.in_ok-own-in-Ok.ensures.same)
    (scalar_reads rules refl refl c.args.at c.args.kind content c.requires.scalar (value_of c.in-Ok.scalar) c.requires.some (sym c.is_too_long.ensures ∙ c.if-is_too_long.false) c.in-Ok.ensures inner)

pub returns-in-Err : goal.returns-in-Err
returns-in-Err c = rw c.refused-in-Err.ensures (λ inner. scalar_fails (whole_rules c.args.reading.now.limits) refl refl c.args.at c.args.kind c.args.content.now c.requires.scalar inner c.in-Err.why (sym c.is_too_long.ensures ∙ c.if-is_too_long.false) c.in-Err.ensures)

pub returns-in_err-own-in-Ok : goal.returns-in_err-own-in-Ok
returns-in_err-own-in-Ok c =
    let rules = whole_rules c.args.reading.now.limits in
    let content = c.args.content.now in
    err_of _ (λ r. ReadsScalar rules c.args.at c.args.kind content r) c.from_residual.result error.NoMemory c.from_residual.ensures (λ y same. same)
    (λ inner. scalar_wants rules refl c.args.at c.args.kind inner content (value_of c.in-Ok.scalar) c.in_err-own-in-Ok.ensures.fails
    (scalar_reads rules refl refl c.args.at c.args.kind content c.requires.scalar (value_of c.in-Ok.scalar) c.requires.some (sym c.is_too_long.ensures ∙ c.if-is_too_long.false) c.in-Ok.ensures inner))
