use Rattle.std.proofs.Common.{List, ℕ, ◌∙◌, sym, subst}
use Rattle.std.proofs.lemmas.Result.{err_from_is_err_and}
use Rattle.cqlp_note.specs.Limits.{rules_of}
use Rattle.cqlp_message.specs.Owned.{frame_of}
use Rattle.cqlp_message.proofs.Tallies.{none_where_measured, some_where_not}
use Rattle.cqlp_round_trip.specs.RoundTrip.{ReadsAll, FailsReading}
use Rattle.cqlp_round_trip.proofs.Back.{comes_back, fails_within, explains}
use Rattle.cqlp_round_trip.proofs.trip.write_and_read.Goals as goal

pub returns-in-Err-clause-refused : goal.returns-in-Err-clause-refused
returns-in-Err-clause-refused g c = some_where_not _ _ _ (sym c.measure.ensures.is ∙ c.in-Err.is)

pub returns-in_err-decoder-clause-refused : goal.returns-in_err-decoder-clause-refused
returns-in_err-decoder-clause-refused g c =
    let fits = none_where_measured _ _ _ (sym c.measure.ensures.is ∙ c.in-Ok.is) in
    let p = err_from_is_err_and c.from_residual.result c.from_residual.ensures.1 in
    rw (p.1, p.2) (explains (frame_of c.args.frame.now) c.args.limits c.in_err-decoder.field-0.0 fits c.in_err-decoder.ensures.refused)

pub returns-in_default-clause-refused : goal.returns-in_default-clause-refused
returns-in_default-clause-refused g c = (none_where_measured _ _ _ (sym c.measure.ensures.is ∙ c.in-Ok.is), c.in_ok-decoder.ensures.allowed)

pub returns-in-Ok-read-clause-written : goal.returns-in-Ok-read-clause-written
returns-in-Ok-read-clause-written g c = ((none_where_measured _ _ _ (sym c.measure.ensures.is ∙ c.in-Ok.is), c.in_ok-decoder.ensures.allowed), c.in-Ok-write.ensures.bytes)

pub returns-in-Ok-read-clause-read : goal.returns-in-Ok-read-clause-read
returns-in-Ok-read-clause-read g c = λ reports.
    let bytes = c.deref.ensures.value ∙ c.in-Ok-write.ensures.bytes in
    subst (λ (z : List ℕ). ReadsAll g.S.Sink.after (rules_of c.args.limits) z c.in-Ok-read.finish (g.S.Sink.view c.args.sink.now) (g.S.Sink.view c.read.new.sink)) bytes
    (c.in-Ok-read.ensures c.args.limits c.in_ok-decoder.ensures.made reports)

pub returns-in-Ok-read-clause-back : goal.returns-in-Ok-read-clause-back
returns-in-Ok-read-clause-back g c = λ reports.
    let fits = none_where_measured _ _ _ (sym c.measure.ensures.is ∙ c.in-Ok.is) in
    let bytes = c.deref.ensures.value ∙ c.in-Ok-write.ensures.bytes in
    comes_back g.S.Sink.after c.args.limits (frame_of c.args.frame.now) fits c.in-Ok.ensures.range (g.S.Sink.view c.args.sink.now) (g.S.Sink.view c.read.new.sink) c.in-Ok-read.finish
    (subst (λ (z : List ℕ). ReadsAll g.S.Sink.after (rules_of c.args.limits) z c.in-Ok-read.finish (g.S.Sink.view c.args.sink.now) (g.S.Sink.view c.read.new.sink)) bytes
    (c.in-Ok-read.ensures c.args.limits c.in_ok-decoder.ensures.made reports))

pub returns-clause-back : goal.returns-clause-back
returns-clause-back g c = λ reports.
    let fits = none_where_measured _ _ _ (sym c.measure.ensures.is ∙ c.in-Ok.is) in
    let bytes = c.deref.ensures.value ∙ c.in-Ok-write.ensures.bytes in
    fails_within g.S.Sink.after c.args.limits (frame_of c.args.frame.now) fits c.in-Ok.ensures.range (g.S.Sink.view c.args.sink.now) (g.S.Sink.view c.read.new.sink) g.S.Sink.faulted
    (subst (λ (z : List ℕ). FailsReading g.S.Sink.after g.S.Sink.faulted (rules_of c.args.limits) z (g.S.Sink.view c.args.sink.now) (g.S.Sink.view c.read.new.sink)) bytes
    (c.in-Err-read.ensures c.args.limits c.in_ok-decoder.ensures.made reports))

pub returns-clause-read : goal.returns-clause-read
returns-clause-read g c = λ reports.
    let bytes = c.deref.ensures.value ∙ c.in-Ok-write.ensures.bytes in
    subst (λ (z : List ℕ). FailsReading g.S.Sink.after g.S.Sink.faulted (rules_of c.args.limits) z (g.S.Sink.view c.args.sink.now) (g.S.Sink.view c.read.new.sink)) bytes
    (c.in-Err-read.ensures c.args.limits c.in_ok-decoder.ensures.made reports)

pub returns-clause-refused : goal.returns-clause-refused
returns-clause-refused g c = (none_where_measured _ _ _ (sym c.measure.ensures.is ∙ c.in-Ok.is), c.in_ok-decoder.ensures.allowed)
