use Rattle.std.proofs.Common.{◌≡◌, pos, sym, ap, ◌∙◌, rules, w32}
use Rattle.std.specs.Int.{cast_signed}
use Rattle.std.proofs.lemmas.Int.{to_z-of_z}
use Rattle.cqlp_grammar.specs.Codes as code
use Rattle.cqlp_message.specs.Agreement.{bits}
use Rattle.cqlp_build.proofs.ResultParts.{page_builds, prepared_builds}
use Rattle.cqlp_build.proofs.held.FrameEvents.result.Goals as goal

pub returns-in-4 : goal.returns-in-4
returns-in-4 c =
    let back = to_z-of_z w32 c.int-kind.result (search rules) in
    let emitted : c.cast_unsigned.result ≡ bits c.int-kind.result = c.cast_unsigned.ensures ∙ ap (λ y. bits y) back in
    let is : c.int-kind.result ≡ pos code.prepared = sym back ∙ ap (λ n. cast_signed w32 n) (sym emitted ∙ c.in-4.is) in
    record { is = prepared_builds is c.int-kind.ensures c.prepared.ensures; sized = tt }

pub returns-in-2 : goal.returns-in-2
returns-in-2 c =
    let back = to_z-of_z w32 c.int-kind.result (search rules) in
    let emitted : c.cast_unsigned.result ≡ bits c.int-kind.result = c.cast_unsigned.ensures ∙ ap (λ y. bits y) back in
    let is : c.int-kind.result ≡ pos code.rows = sym back ∙ ap (λ n. cast_signed w32 n) (sym emitted ∙ c.in-2.is) in
    record { is = page_builds is c.int-kind.ensures c.page.ensures.is; sized = c.page.ensures.sized }
