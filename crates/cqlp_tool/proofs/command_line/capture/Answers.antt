use Rattle.std.proofs.Common.{◌∙◌, [], subst}
use Rattle.cqlp_statement_file.specs.Texts.{Texts}
use Rattle.cqlp_statement_types.specs.Types.{Given}
use Rattle.cqlp_options.specs.Ports.{named}
use Rattle.cqlp_render.specs.Streams.{streams}
use Rattle.cqlp_capture_streams.specs.declared.buffering.Buffering.TheVariants.{Line}
use Rattle.cqlp_tool.specs.Capturing.{DoesCaptureTaskKnowing}
use Rattle.cqlp_tool.proofs.command_line.capture.Goals as goal

pub returns-in-Ok-clause-captures : goal.returns-in-Ok-clause-captures
returns-in-Ok-clause-captures g c = λ is.
    let view = streams g.I.Source g.O.Target g.E.Target in
    let none = c.in-Ok.ensures.none (c.asked_statements.ensures ∙ is.2) in
    let o = c.args.options in
    let before = view c.args.input.now c.args.out c.args.err in
    let after = view c.capture_knowing.new.input c.capture_knowing.result.1 c.capture_knowing.result.2 in
    let given = c.in-Ok.given in
    let status = c.capture_knowing.result.0 in
    let does = subst (λ (t : Texts). DoesCaptureTaskKnowing t given.types Line o.limits o.task (named o.ports) before status after) none.0 (c.capture_knowing.ensures.captures is.0 is.1) in
    subst (λ (t : Given). DoesCaptureTaskKnowing [] t Line o.limits o.task (named o.ports) before status after) none.1 does

pub returns-in-Err-clause-captures : goal.returns-in-Err-clause-captures
returns-in-Err-clause-captures g c = λ is. absurd (let no = c.in-Err.ensures.found (c.asked_statements.ensures ∙ is.2) in cc)
