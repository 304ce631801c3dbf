use Rattle.std.proofs.Common.{◌≡◌, Bool, sym, ap, ◌∙◌, subst}
use Rattle.cqlp_note.specs.Limits.{rules_of, with_lenient}
use Rattle.cqlp_render.specs.declared.showing.TheConstants.{TURNS}
use Rattle.cqlp_render.specs.Streams.{unread}
use Rattle.cqlp_render_skip.specs.Reporting.{Outputs, outputs}
use Rattle.cqlp_render_skip.specs.Showing.{Begins, Reads}
use Rattle.cqlp_text.specs.Outputs.{written}
use Rattle.cqlp_text.specs.Written.{Written}
use Rattle.cqlp_render_skip.proofs.Turning.{begun_with}
use Rattle.cqlp_render_skip.proofs.reading.show_stream.Goals as goal

pub returns : goal.returns
returns g c = λ xs left known err.
    let form = c.args.form in
    let rules = with_lenient c.args.lenient (rules_of c.args.limits) in
    let first : Outputs = record { out = written g.O.Target c.args.out; err = written g.E.Target c.args.err } in
    let begins : Begins form rules xs first (g.R.Source.left c.args.input.now) c.in-Some.decoder c.new-report.result = record {
      fresh = c.requires.form;
      known = (known, err);
      here = left;
      after = c.in-Some.ensures.fresh xs;
      unrefused = c.in-Some.ensures.unrefused;
      rules = c.in-Some.ensures.rules;
      begun = c.new-report.ensures ∙ ap (λ (w : Written). begun_with w form (written g.E.Target c.args.err)) c.new.ensures;
    } in
    let e = c.read_stream-ending.result.0 in
    let end = c.read_stream-ending.result.1 in
    let was = unread g.R.Source c.args.input.now in
    let now = unread g.R.Source c.read_stream-ending.new.input in
    let reads = c.read_stream-ending.ensures form rules xs first begins in
    let out = sym c.into_parts-passed_over.ensures.out in
    let errors = sym c.into_parts-passed_over.ensures.err in
    let same : outputs end ≡ record { out = written g.O.Target c.into_parts-passed_over.result.1; err = written g.E.Target c.into_parts-passed_over.result.2 } = λ i. record { out = out i; err = errors i } in
    subst (λ (b : Bool). Reads form rules xs first TURNS e b was now (record { out = written g.O.Target c.into_parts-passed_over.result.1; err = written g.E.Target c.into_parts-passed_over.result.2 })) (sym c.into_parts-passed_over.ensures.passed)
    (subst (λ (o : Outputs). Reads form rules xs first TURNS e end.passed was now o) same reads)
