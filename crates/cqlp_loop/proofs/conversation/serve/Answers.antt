use Rattle.std.proofs.Common.{◌≡◌, rules, ◌∷◌, [], w16, SFits, to_z, of_z}
use Rattle.std.proofs.lemmas.Int.{to_z-of_z}
use Rattle.std.specs.Prelude.{Err}
use Rattle.cqlp_note.specs.Outputs.{written}
use Rattle.cqlp_loop.specs.Inboxes.{supply}
use Rattle.cqlp_loop.specs.Script.{Takes, Answers, scene, wires}
use Rattle.cqlp_loop.proofs.Turns.{breaks_first, does_first, ends_at, taken, not_taken, replied}
use Rattle.cqlp_loop.proofs.conversation.serve.Goals as goal

pub returns-in_err-header : goal.returns-in_err-header
returns-in_err-header g c =
    let is : c.from_residual.result ≡ Err c.in_err-header.field-0.0 = search rules in
    let fault = c.in_err-header.field-0.0 in
    let from = supply g.S.Source c.args.server.now.source in
    let left = supply g.S.Source c.accept.new.source in
    let sent = written g.T.Target c.args.server.now.target in
    rw is (λ k e o.
    let a = scene k c.args.host.now [] (wires e (record { source = from; target = sent }) o) in
    let b = scene k c.accept.new.self [] (wires e (record { source = left; target = sent }) o) in
    breaks_first fault Takes (Answers c.args.request ∷ []) a b (not_taken fault k c.args.host.now c.accept.new.self [] from left sent e o c.in_err-header.ensures))

pub returns : goal.returns
returns g c = λ k e o.
    let from = supply g.S.Source c.args.server.now.source in
    let left = supply g.S.Source c.accept.new.source in
    let sent = written g.T.Target c.args.server.now.target in
    let last = written g.T.Target c.answer.new.target in
    let id = c.in_ok-header.header.stream in
    let fits : SFits w16 id = search rules in
    let a = scene k c.args.host.now [] (wires e (record { source = from; target = sent }) o) in
    let b = scene k c.accept.new.self (id ∷ []) (wires e (record { source = left; target = sent }) o) in
    let d = scene k c.answer.new.self [] (wires e (record { source = left; target = last }) o) in
    does_first c.answer.result Takes (Answers c.args.request ∷ []) a b d (taken c.in_ok-header.header k c.args.host.now c.accept.new.self [] from left sent e o c.in_ok-header.ensures)
    (ends_at c.answer.result (Answers c.args.request) b d (replied c.args.request (to_z w16 (of_z w16 id)) id k c.accept.new.self c.answer.new.self [] sent last left e o c.answer.result (to_z-of_z w16 id fits) c.answer.ensures))
