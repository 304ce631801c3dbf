use Rattle.std.proofs.Common.{◌≡◌, ap, ◌∙◌, inl, inr, arith}
use Rattle.std.specs.Ptr.{as_ptr}
use Rattle.cqlp_decode.specs.Streams.{state}
use Rattle.cqlp_c.specs.declared.batch.Batch.{Batch as FromC}
use Rattle.cqlp_c.specs.contracts.columns.BesideSink.TheImpl.{ghosts}
use Rattle.cqlp_c.proofs.ColumnsFilled.{few, moved}
use Rattle.cqlp_c.proofs.columns.fill_columns.Goals.{then-batch-eq1, else-batch-eq1}
use Rattle.cqlp_c.proofs.columns.fill_columns.Goals as goal

pub returns : goal.returns
returns c =
    let f = c.read-filled.result in
    let d = c.read-filled.new.decoder in
    let y = c.read-filled.new.self.other in
    let within = c.read-filled.ensures.within in
    let events = ap (λ (b : FromC). b.events) c.batch_in-batch.ensures in
    elim c.if-batch-eq1.branch [
      | then-batch-eq1 w ↦
          let one : c.batch_in-batch.result.events ≡ 1 = omega (arith, w.if-batch-eq1.true) in
          record {
            filled = f;
            batch = c.batch_in-batch.ensures;
            fills = λ gifts s es a.
                moved ghosts (λ x y at e h. h.1) (λ x y at e h. h.0 tt) gifts (state c.args.decoder.now) d s c.args.input.now c.args.columns c.read-filled.new.self.columns c.new-page.result.other y c.args.event.now c.if-batch-eq1.event (as_ptr c.args.input) f.used within es f.stop
                (λ is. rw w.event-is w.put_beside.ensures) (λ none. absurd (omega (arith, none, one, events)))
                (rw c.new-page.ensures.0 at (c.read-filled.ensures.fills gifts s es a));
            within = within;
            none = λ none. absurd (omega (arith, none, one));
            frame = rw (one, w.event-is, w.frame-is) w.pass_event.ensures;
            rules = c.read-filled.ensures.rules;
          }
      | else-batch-eq1 w ↦
          let none : c.batch_in-batch.result.events ≡ 0 = elim (few f.used f.stop) [
            | inl is ↦ events ∙ is
            | inr is ↦ absurd (omega (arith, w.if-batch-eq1.false, events, is))
          ] in
          record {
            filled = f;
            batch = c.batch_in-batch.ensures;
            fills = λ gifts s es a.
                moved ghosts (λ x y at e h. h.1) (λ x y at e h. h.0 tt) gifts (state c.args.decoder.now) d s c.args.input.now c.args.columns c.read-filled.new.self.columns c.new-page.result.other y c.args.event.now c.if-batch-eq1.event (as_ptr c.args.input) f.used within es f.stop
                (λ is. absurd (omega (arith, is, none, events))) (λ is. w.event-is)
                (rw c.new-page.ensures.0 at (c.read-filled.ensures.fills gifts s es a));
            within = within;
            none = λ is. w.event-is;
            frame = rw none w.frame-is;
            rules = c.read-filled.ensures.rules;
          }
    ]
