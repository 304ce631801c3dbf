use Rattle.std.proofs.Common.{◌≡◌, rules, ◌∷◌, []}
use Rattle.std.specs.Prelude.{Ok, Err}
use Rattle.cqlp_note.specs.Outputs.{written}
use Rattle.cqlp_loop.specs.Inboxes.{supply}
use Rattle.cqlp_loop.specs.Script.{Asks, Takes, Answers, Hears, end_of, scene, wires}
use Rattle.cqlp_loop.proofs.Turns.{breaks_first, breaks_more, does_first, ends_at, ends_then, asked, heard}
use Rattle.cqlp_loop.proofs.conversation.exchange.Goals as goal

pub returns-in_err-ask : goal.returns-in_err-ask
returns-in_err-ask g c =
    let is : c.from_residual.result ≡ Err c.in_err-ask.field-0.0 = search rules in
    let fault = c.in_err-ask.field-0.0 in
    let q = c.args.request in
    let from = supply g.CS.Source c.args.client.now.source in
    let none = written g.CT.Target c.args.client.now.target in
    let sent = written g.CT.Target c.ask.new.target in
    let server = end_of g.SS.Source g.ST.Target c.args.server.now in
    let out = written g.O.Target c.args.out.now in
    let a = scene c.args.caller.now c.args.host.now [] (wires (record { source = from; target = none }) server out) in
    let b = scene c.ask.new.self c.args.host.now [] (wires (record { source = from; target = sent }) server out) in
    rw is (breaks_first fault (Asks q) (Takes ∷ Answers q ∷ Hears ∷ []) a b (asked q c.args.caller.now c.ask.new.self c.args.host.now [] none sent from server out (Err fault) c.in_err-ask.ensures))

pub returns-in_err-serve : goal.returns-in_err-serve
returns-in_err-serve g c =
    let is : c.from_residual-in_err-serve.result ≡ Err c.in_err-serve.field-0.0 = search rules in
    let fault = c.in_err-serve.field-0.0 in
    let q = c.args.request in
    let from = supply g.CS.Source c.args.client.now.source in
    let none = written g.CT.Target c.args.client.now.target in
    let sent = written g.CT.Target c.ask.new.target in
    let server = end_of g.SS.Source g.ST.Target c.args.server.now in
    let server' = end_of g.SS.Source g.ST.Target c.serve.new.server in
    let out = written g.O.Target c.args.out.now in
    let a = scene c.args.caller.now c.args.host.now [] (wires (record { source = from; target = none }) server out) in
    let b = scene c.ask.new.self c.args.host.now [] (wires (record { source = from; target = sent }) server out) in
    let d = scene c.ask.new.self c.serve.new.host [] (wires (record { source = from; target = sent }) server' out) in
    rw is (does_first (Err fault) (Asks q) (Takes ∷ Answers q ∷ Hears ∷ []) a b d (asked q c.args.caller.now c.ask.new.self c.args.host.now [] none sent from server out (Ok tt) c.in_ok-ask.ensures)
    (breaks_more fault (Takes ∷ Answers q ∷ []) (Hears ∷ []) b d.wires (c.in_err-serve.ensures c.ask.new.self (record { source = from; target = sent }) out)))

pub returns : goal.returns
returns g c =
    let r = c.hear.result in
    let q = c.args.request in
    let from = supply g.CS.Source c.args.client.now.source in
    let left = supply g.CS.Source c.hear.new.source in
    let none = written g.CT.Target c.args.client.now.target in
    let sent = written g.CT.Target c.ask.new.target in
    let server = end_of g.SS.Source g.ST.Target c.args.server.now in
    let server' = end_of g.SS.Source g.ST.Target c.serve.new.server in
    let out = written g.O.Target c.args.out.now in
    let out' = written g.O.Target c.hear.new.out in
    let a = scene c.args.caller.now c.args.host.now [] (wires (record { source = from; target = none }) server out) in
    let b = scene c.ask.new.self c.args.host.now [] (wires (record { source = from; target = sent }) server out) in
    let d = scene c.ask.new.self c.serve.new.host [] (wires (record { source = from; target = sent }) server' out) in
    let f = scene c.hear.new.self c.serve.new.host [] (wires (record { source = left; target = sent }) server' out') in
    does_first r (Asks q) (Takes ∷ Answers q ∷ Hears ∷ []) a b f (asked q c.args.caller.now c.ask.new.self c.args.host.now [] none sent from server out (Ok tt) c.in_ok-ask.ensures)
    (ends_then r (Takes ∷ Answers q ∷ []) (Hears ∷ []) b d f (c.in_ok-serve.ensures c.ask.new.self (record { source = from; target = sent }) out)
    (ends_at r Hears d f (heard c.ask.new.self c.hear.new.self c.serve.new.host [] from left sent server' out out' r c.hear.ensures)))
