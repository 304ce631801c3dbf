use Rattle.std.proofs.Common.{◌≡◌, rules, ◌∷◌, [], w16, SFits, to_z, of_z}
use Rattle.std.proofs.lemmas.Int.{to_z-of_z}
use Rattle.std.specs.Prelude.{Ok, Err}
use Rattle.cqlp_note.specs.Outputs.{written}
use Rattle.cqlp_loop.specs.declared.request.Request.TheVariants.{Query}
use Rattle.cqlp_loop.specs.Inboxes.{supply}
use Rattle.cqlp_loop.specs.Script.{Takes, Answers, scene, wires}
use Rattle.cqlp_loop.proofs.Turns.{breaks_first, does_first, ends_at, taken, not_taken, replied}
use Rattle.cqlp_loop.proofs.conversation.serve_pair.Goals as goal

pub returns-in_err-first : goal.returns-in_err-first
returns-in_err-first g c =
    let is : c.from_residual.result ≡ Err c.in_err-first.field-0.0 = search rules in
    let fault = c.in_err-first.field-0.0 in
    let from = supply g.S.Source c.args.server.now.source in
    let left = supply g.S.Source c.accept.new.source in
    let sent = written g.T.Target c.args.server.now.target in
    rw is (λ k e o.
    let a = scene k c.args.host.now [] (wires e (record { source = from; target = sent }) o) in
    let b = scene k c.accept.new.self [] (wires e (record { source = left; target = sent }) o) in
    breaks_first fault Takes (Takes ∷ Answers Query ∷ Answers Query ∷ []) a b (not_taken fault k c.args.host.now c.accept.new.self [] from left sent e o c.in_err-first.ensures))

pub returns-in_err-second : goal.returns-in_err-second
returns-in_err-second g c =
    let is : c.from_residual-in_err-second.result ≡ Err c.in_err-second.field-0.0 = search rules in
    let fault = c.in_err-second.field-0.0 in
    let from = supply g.S.Source c.args.server.now.source in
    let mid = supply g.S.Source c.accept.new.source in
    let left = supply g.S.Source c.accept-2.new.source in
    let sent = written g.T.Target c.args.server.now.target in
    let id = c.in_ok-first.first.stream in
    rw is (λ k e o.
    let a = scene k c.args.host.now [] (wires e (record { source = from; target = sent }) o) in
    let b = scene k c.accept.new.self (id ∷ []) (wires e (record { source = mid; target = sent }) o) in
    let d = scene k c.accept-2.new.self (id ∷ []) (wires e (record { source = left; target = sent }) o) in
    does_first (Err fault) Takes (Takes ∷ Answers Query ∷ Answers Query ∷ []) a b d (taken c.in_ok-first.first k c.args.host.now c.accept.new.self [] from mid sent e o c.in_ok-first.ensures)
    (breaks_first fault Takes (Answers Query ∷ Answers Query ∷ []) b d (not_taken fault k c.accept.new.self c.accept-2.new.self (id ∷ []) mid left sent e o c.in_err-second.ensures)))

pub returns-in_err-answer : goal.returns-in_err-answer
returns-in_err-answer g c =
    let is : c.from_residual-in_err-answer.result ≡ Err c.in_err-answer.field-0.0 = search rules in
    let fault = c.in_err-answer.field-0.0 in
    let from = supply g.S.Source c.args.server.now.source in
    let mid = supply g.S.Source c.accept.new.source in
    let left = supply g.S.Source c.accept-2.new.source in
    let sent = written g.T.Target c.args.server.now.target in
    let one = written g.T.Target c.answer.new.target in
    let id = c.in_ok-first.first.stream in
    let id' = c.in_ok-second.second.stream in
    let fits' : SFits w16 id' = search rules in
    rw is (λ k e o.
    let a = scene k c.args.host.now [] (wires e (record { source = from; target = sent }) o) in
    let b = scene k c.accept.new.self (id ∷ []) (wires e (record { source = mid; target = sent }) o) in
    let d = scene k c.accept-2.new.self (id' ∷ id ∷ []) (wires e (record { source = left; target = sent }) o) in
    let f = scene k c.answer.new.self (id ∷ []) (wires e (record { source = left; target = one }) o) in
    does_first (Err fault) Takes (Takes ∷ Answers Query ∷ Answers Query ∷ []) a b f (taken c.in_ok-first.first k c.args.host.now c.accept.new.self [] from mid sent e o c.in_ok-first.ensures)
    (does_first (Err fault) Takes (Answers Query ∷ Answers Query ∷ []) b d f (taken c.in_ok-second.second k c.accept.new.self c.accept-2.new.self (id ∷ []) mid left sent e o c.in_ok-second.ensures)
    (breaks_first fault (Answers Query) (Answers Query ∷ []) d f (replied Query (to_z w16 (of_z w16 id')) id' k c.accept-2.new.self c.answer.new.self (id ∷ []) sent one left e o (Err fault) (to_z-of_z w16 id' fits') c.in_err-answer.ensures))))

pub returns : goal.returns
returns g c = λ k e o.
    let from = supply g.S.Source c.args.server.now.source in
    let mid = supply g.S.Source c.accept.new.source in
    let left = supply g.S.Source c.accept-2.new.source in
    let sent = written g.T.Target c.args.server.now.target in
    let one = written g.T.Target c.answer.new.target in
    let two = written g.T.Target c.answer-2.new.target in
    let id = c.in_ok-first.first.stream in
    let id' = c.in_ok-second.second.stream in
    let fits : SFits w16 id = search rules in
    let fits' : SFits w16 id' = search rules in
    let a = scene k c.args.host.now [] (wires e (record { source = from; target = sent }) o) in
    let b = scene k c.accept.new.self (id ∷ []) (wires e (record { source = mid; target = sent }) o) in
    let d = scene k c.accept-2.new.self (id' ∷ id ∷ []) (wires e (record { source = left; target = sent }) o) in
    let f = scene k c.answer.new.self (id ∷ []) (wires e (record { source = left; target = one }) o) in
    let h = scene k c.answer-2.new.self [] (wires e (record { source = left; target = two }) o) in
    let r = c.answer-2.result in
    does_first r Takes (Takes ∷ Answers Query ∷ Answers Query ∷ []) a b h (taken c.in_ok-first.first k c.args.host.now c.accept.new.self [] from mid sent e o c.in_ok-first.ensures)
    (does_first r Takes (Answers Query ∷ Answers Query ∷ []) b d h (taken c.in_ok-second.second k c.accept.new.self c.accept-2.new.self (id ∷ []) mid left sent e o c.in_ok-second.ensures)
    (does_first r (Answers Query) (Answers Query ∷ []) d f h (replied Query (to_z w16 (of_z w16 id')) id' k c.accept-2.new.self c.answer.new.self (id ∷ []) sent one left e o (Ok tt) (to_z-of_z w16 id' fits') c.in_ok-answer.ensures)
    (ends_at r (Answers Query) f h (replied Query (to_z w16 (of_z w16 id)) id k c.answer.new.self c.answer-2.new.self [] one two left e o r (to_z-of_z w16 id fits) c.answer-2.ensures))))
