use Rattle.std.proofs.Common.{◌≡◌, rules, ◌∷◌, []}
use Rattle.std.specs.Prelude.{Ok, Err}
use Rattle.cqlp_note.specs.Outputs.{written}
use Rattle.cqlp_loop.specs.declared.request.Request.TheVariants.{Query}
use Rattle.cqlp_loop.specs.Inboxes.{supply}
use Rattle.cqlp_loop.specs.Script.{Asks, Takes, Answers, Hears, end_of, scene, wires}
use Rattle.cqlp_loop.proofs.Turns.{breaks_first, breaks_more, breaks_then, does_first, ends_at, ends_then, asked, heard}
use Rattle.cqlp_loop.proofs.conversation.exchange_pair.Goals as goal

pub returns-in_err-ask : goal.returns-in_err-ask
returns-in_err-ask g c =
    let is : c.from_residual.result ≡ Err c.in_err-ask.field-0.0 = search rules in
    let fault = c.in_err-ask.field-0.0 in
    let from = supply g.CS.Source c.args.client.now.source in
    let none = written g.CT.Target c.args.client.now.target in
    let one = written g.CT.Target c.ask.new.target in
    let server = end_of g.SS.Source g.ST.Target c.args.server.now in
    let out = written g.O.Target c.args.out.now in
    let a = scene c.args.caller.now c.args.host.now [] (wires (record { source = from; target = none }) server out) in
    let b = scene c.ask.new.self c.args.host.now [] (wires (record { source = from; target = one }) server out) in
    rw is (breaks_first fault (Asks Query) (Asks Query ∷ Takes ∷ Takes ∷ Answers Query ∷ Answers Query ∷ Hears ∷ Hears ∷ []) a b (asked Query c.args.caller.now c.ask.new.self c.args.host.now [] none one from server out (Err fault) c.in_err-ask.ensures))

pub returns-in_err-ask-2 : goal.returns-in_err-ask-2
returns-in_err-ask-2 g c =
    let is : c.from_residual-in_err-ask-2.result ≡ Err c.in_err-ask-2.field-0.0 = search rules in
    let fault = c.in_err-ask-2.field-0.0 in
    let from = supply g.CS.Source c.args.client.now.source in
    let none = written g.CT.Target c.args.client.now.target in
    let one = written g.CT.Target c.ask.new.target in
    let server = end_of g.SS.Source g.ST.Target c.args.server.now in
    let out = written g.O.Target c.args.out.now in
    let a = scene c.args.caller.now c.args.host.now [] (wires (record { source = from; target = none }) server out) in
    let b = scene c.ask.new.self c.args.host.now [] (wires (record { source = from; target = one }) server out) in
    let two = written g.CT.Target c.ask-2.new.target in
    let d = scene c.ask-2.new.self c.args.host.now [] (wires (record { source = from; target = two }) server out) in
    rw is (does_first (Err fault) (Asks Query) (Asks Query ∷ Takes ∷ Takes ∷ Answers Query ∷ Answers Query ∷ Hears ∷ Hears ∷ []) a b d (asked Query c.args.caller.now c.ask.new.self c.args.host.now [] none one from server out (Ok tt) c.in_ok-ask.ensures)
    (breaks_first fault (Asks Query) (Takes ∷ Takes ∷ Answers Query ∷ Answers Query ∷ Hears ∷ Hears ∷ []) b d (asked Query c.ask.new.self c.ask-2.new.self c.args.host.now [] one two from server out (Err fault) c.in_err-ask-2.ensures)))

pub returns-in_err-serve_pair : goal.returns-in_err-serve_pair
returns-in_err-serve_pair g c =
    let is : c.from_residual-in_err-serve_pair.result ≡ Err c.in_err-serve_pair.field-0.0 = search rules in
    let fault = c.in_err-serve_pair.field-0.0 in
    let from = supply g.CS.Source c.args.client.now.source in
    let none = written g.CT.Target c.args.client.now.target in
    let one = written g.CT.Target c.ask.new.target in
    let server = end_of g.SS.Source g.ST.Target c.args.server.now in
    let out = written g.O.Target c.args.out.now in
    let a = scene c.args.caller.now c.args.host.now [] (wires (record { source = from; target = none }) server out) in
    let b = scene c.ask.new.self c.args.host.now [] (wires (record { source = from; target = one }) server out) in
    let two = written g.CT.Target c.ask-2.new.target in
    let d = scene c.ask-2.new.self c.args.host.now [] (wires (record { source = from; target = two }) server out) in
    let server' = end_of g.SS.Source g.ST.Target c.serve_pair.new.server in
    let f = scene c.ask-2.new.self c.serve_pair.new.host [] (wires (record { source = from; target = two }) server' out) in
    rw is (does_first (Err fault) (Asks Query) (Asks Query ∷ Takes ∷ Takes ∷ Answers Query ∷ Answers Query ∷ Hears ∷ Hears ∷ []) a b f (asked Query c.args.caller.now c.ask.new.self c.args.host.now [] none one from server out (Ok tt) c.in_ok-ask.ensures)
    (does_first (Err fault) (Asks Query) (Takes ∷ Takes ∷ Answers Query ∷ Answers Query ∷ Hears ∷ Hears ∷ []) b d f (asked Query c.ask.new.self c.ask-2.new.self c.args.host.now [] one two from server out (Ok tt) c.in_ok-ask-2.ensures)
    (breaks_more fault (Takes ∷ Takes ∷ Answers Query ∷ Answers Query ∷ []) (Hears ∷ Hears ∷ []) d f.wires (c.in_err-serve_pair.ensures c.ask-2.new.self (record { source = from; target = two }) out))))

pub returns-in_err-hear : goal.returns-in_err-hear
returns-in_err-hear g c =
    let is : c.from_residual-in_err-hear.result ≡ Err c.in_err-hear.field-0.0 = search rules in
    let fault = c.in_err-hear.field-0.0 in
    let from = supply g.CS.Source c.args.client.now.source in
    let none = written g.CT.Target c.args.client.now.target in
    let one = written g.CT.Target c.ask.new.target in
    let server = end_of g.SS.Source g.ST.Target c.args.server.now in
    let out = written g.O.Target c.args.out.now in
    let a = scene c.args.caller.now c.args.host.now [] (wires (record { source = from; target = none }) server out) in
    let b = scene c.ask.new.self c.args.host.now [] (wires (record { source = from; target = one }) server out) in
    let two = written g.CT.Target c.ask-2.new.target in
    let d = scene c.ask-2.new.self c.args.host.now [] (wires (record { source = from; target = two }) server out) in
    let server' = end_of g.SS.Source g.ST.Target c.serve_pair.new.server in
    let f = scene c.ask-2.new.self c.serve_pair.new.host [] (wires (record { source = from; target = two }) server' out) in
    let mid = supply g.CS.Source c.hear.new.source in
    let out' = written g.O.Target c.hear.new.out in
    let h = scene c.hear.new.self c.serve_pair.new.host [] (wires (record { source = mid; target = two }) server' out') in
    rw is (does_first (Err fault) (Asks Query) (Asks Query ∷ Takes ∷ Takes ∷ Answers Query ∷ Answers Query ∷ Hears ∷ Hears ∷ []) a b h (asked Query c.args.caller.now c.ask.new.self c.args.host.now [] none one from server out (Ok tt) c.in_ok-ask.ensures)
    (does_first (Err fault) (Asks Query) (Takes ∷ Takes ∷ Answers Query ∷ Answers Query ∷ Hears ∷ Hears ∷ []) b d h (asked Query c.ask.new.self c.ask-2.new.self c.args.host.now [] one two from server out (Ok tt) c.in_ok-ask-2.ensures)
    (breaks_then fault (Takes ∷ Takes ∷ Answers Query ∷ Answers Query ∷ []) (Hears ∷ Hears ∷ []) d f h.wires (c.in_ok-serve_pair.ensures c.ask-2.new.self (record { source = from; target = two }) out)
    (breaks_first fault Hears (Hears ∷ []) f h (heard c.ask-2.new.self c.hear.new.self c.serve_pair.new.host [] from mid two server' out out' (Err fault) c.in_err-hear.ensures)))))

pub returns : goal.returns
returns g c =
    let r = c.hear-2.result in
    let from = supply g.CS.Source c.args.client.now.source in
    let none = written g.CT.Target c.args.client.now.target in
    let one = written g.CT.Target c.ask.new.target in
    let server = end_of g.SS.Source g.ST.Target c.args.server.now in
    let out = written g.O.Target c.args.out.now in
    let a = scene c.args.caller.now c.args.host.now [] (wires (record { source = from; target = none }) server out) in
    let b = scene c.ask.new.self c.args.host.now [] (wires (record { source = from; target = one }) server out) in
    let two = written g.CT.Target c.ask-2.new.target in
    let d = scene c.ask-2.new.self c.args.host.now [] (wires (record { source = from; target = two }) server out) in
    let server' = end_of g.SS.Source g.ST.Target c.serve_pair.new.server in
    let f = scene c.ask-2.new.self c.serve_pair.new.host [] (wires (record { source = from; target = two }) server' out) in
    let mid = supply g.CS.Source c.hear.new.source in
    let out' = written g.O.Target c.hear.new.out in
    let h = scene c.hear.new.self c.serve_pair.new.host [] (wires (record { source = mid; target = two }) server' out') in
    let left = supply g.CS.Source c.hear-2.new.source in
    let out'' = written g.O.Target c.hear-2.new.out in
    let k = scene c.hear-2.new.self c.serve_pair.new.host [] (wires (record { source = left; target = two }) server' out'') in
    does_first r (Asks Query) (Asks Query ∷ Takes ∷ Takes ∷ Answers Query ∷ Answers Query ∷ Hears ∷ Hears ∷ []) a b k (asked Query c.args.caller.now c.ask.new.self c.args.host.now [] none one from server out (Ok tt) c.in_ok-ask.ensures)
    (does_first r (Asks Query) (Takes ∷ Takes ∷ Answers Query ∷ Answers Query ∷ Hears ∷ Hears ∷ []) b d k (asked Query c.ask.new.self c.ask-2.new.self c.args.host.now [] one two from server out (Ok tt) c.in_ok-ask-2.ensures)
    (ends_then r (Takes ∷ Takes ∷ Answers Query ∷ Answers Query ∷ []) (Hears ∷ Hears ∷ []) d f k (c.in_ok-serve_pair.ensures c.ask-2.new.self (record { source = from; target = two }) out)
    (does_first r Hears (Hears ∷ []) f h k (heard c.ask-2.new.self c.hear.new.self c.serve_pair.new.host [] from mid two server' out out' (Ok tt) c.in_ok-hear.ensures)
    (ends_at r Hears h k (heard c.hear.new.self c.hear-2.new.self c.serve_pair.new.host [] mid left two server' out' out'' r c.hear-2.ensures)))))
