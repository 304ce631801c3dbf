use Rattle.std.proofs.Common.{sym, ◌∙◌, arith}
use Rattle.cqlp_note.specs.Reader.{Bad}
use Rattle.cqlp_decode.proofs.Steps.{header_fails, header_hands}
use Rattle.cqlp_decode.proofs.progress.StreamProgress.advance_header.Goals as goal

pub returns-in-Err-clause-moves : goal.returns-in-Err-clause-moves
returns-in-Err-clause-moves c = λ q idle b is.
    let r = rw c.complete_header.ensures at c.in-Err.ensures in
    header_fails c.args.self.now q c.args.input.now c.requires.here c.if-self.false c.requires.bounded.long c.requires.came (omega arith) r.0 r.1 b is ∙ (λ i. Bad (sym r.2 i, sym r.3 i))

pub returns-in-Ok-clause-moves : goal.returns-in-Ok-clause-moves
returns-in-Ok-clause-moves c = λ q idle.
    let r = rw c.complete_header.ensures at c.in-Ok.ensures in
    let e = c.enter.ensures in
    header_hands c.args.self.now q c.args.input.now c.requires.here c.if-self.false c.requires.bounded.long c.requires.came (omega arith) c.enter.new.self c.in-Ok.header r.0 e.offset e.stop (e.symbols q) e.room e.frame.0 e.frame.1 e.given_use idle
