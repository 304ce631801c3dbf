use Rattle.std.proofs.Common.{◌≡◌, rules, [], refl}
use Rattle.std.specs.Prelude.{Err}
use Rattle.cqlp_note.specs.Outputs.{written}
use Rattle.cqlp_loop.specs.Script.{IsFresh, end_of, scene, wires, with_out}
use Rattle.cqlp_loop.proofs.Turns.{closed, converses, no_memory, talks, talks_not}
use Rattle.cqlp_loop.proofs.conversation.talk.Goals as goal

pub returns-in_err-caller-clause-talks : goal.returns-in_err-caller-clause-talks
returns-in_err-caller-clause-talks g c =
    let is : c.from_residual.result ≡ Err c.in_err-caller.field-0.0 = search rules in
    let w = wires (end_of g.CS.Source g.CT.Target c.args.client.now) (end_of g.SS.Source g.ST.Target c.args.server.now) (written g.O.Target c.args.out.now) in
    rw is (no_memory c.args.count c.in_err-caller.field-0.0 w c.in_err-caller.ensures.fault)

pub returns-in_err-caller-clause-converses : goal.returns-in_err-caller-clause-converses
returns-in_err-caller-clause-converses g c =
    let is : c.from_residual.result ≡ Err c.in_err-caller.field-0.0 = search rules in
    let w = wires (end_of g.CS.Source g.CT.Target c.args.client.now) (end_of g.SS.Source g.ST.Target c.args.server.now) (written g.O.Target c.args.out.now) in
    rw is (converses c.args.count w w (Err c.in_err-caller.field-0.0) (no_memory c.args.count c.in_err-caller.field-0.0 w c.in_err-caller.ensures.fault))

pub returns-in_err-host-clause-talks : goal.returns-in_err-host-clause-talks
returns-in_err-host-clause-talks g c =
    let is : c.from_residual-in_err-host.result ≡ Err c.in_err-host.field-0.0 = search rules in
    let w = wires (end_of g.CS.Source g.CT.Target c.args.client.now) (end_of g.SS.Source g.ST.Target c.args.server.now) (written g.O.Target c.args.out.now) in
    rw is (no_memory c.args.count c.in_err-host.field-0.0 w c.in_err-host.ensures.fault)

pub returns-in_err-host-clause-converses : goal.returns-in_err-host-clause-converses
returns-in_err-host-clause-converses g c =
    let is : c.from_residual-in_err-host.result ≡ Err c.in_err-host.field-0.0 = search rules in
    let w = wires (end_of g.CS.Source g.CT.Target c.args.client.now) (end_of g.SS.Source g.ST.Target c.args.server.now) (written g.O.Target c.args.out.now) in
    rw is (converses c.args.count w w (Err c.in_err-host.field-0.0) (no_memory c.args.count c.in_err-host.field-0.0 w c.in_err-host.ensures.fault))

pub returns-in-Err-clause-talks : goal.returns-in-Err-clause-talks
returns-in-Err-clause-talks g c =
    let w = wires (end_of g.CS.Source g.CT.Target c.args.client.now) (end_of g.SS.Source g.ST.Target c.args.server.now) (written g.O.Target c.args.out.now) in
    let left = wires (end_of g.CS.Source g.CT.Target c.play.new.client) (end_of g.SS.Source g.ST.Target c.play.new.server) (written g.O.Target c.play.new.out) in
    let a = scene c.in_ok-caller.caller c.in_ok-host.host [] w in
    let fresh : IsFresh a = record { client = c.in_ok-caller.ensures.core; client_inbox = c.in_ok-caller.ensures.inbox; server = c.in_ok-host.ensures.core; server_inbox = c.in_ok-host.ensures.inbox; unanswered = refl } in
    (talks_not c.args.count c.in-Err.fault a left fresh c.in-Err.ensures)

pub returns-in-Err-clause-converses : goal.returns-in-Err-clause-converses
returns-in-Err-clause-converses g c =
    let w = wires (end_of g.CS.Source g.CT.Target c.args.client.now) (end_of g.SS.Source g.ST.Target c.args.server.now) (written g.O.Target c.args.out.now) in
    let left = wires (end_of g.CS.Source g.CT.Target c.play.new.client) (end_of g.SS.Source g.ST.Target c.play.new.server) (written g.O.Target c.play.new.out) in
    let a = scene c.in_ok-caller.caller c.in_ok-host.host [] w in
    let fresh : IsFresh a = record { client = c.in_ok-caller.ensures.core; client_inbox = c.in_ok-caller.ensures.inbox; server = c.in_ok-host.ensures.core; server_inbox = c.in_ok-host.ensures.inbox; unanswered = refl } in
    (converses c.args.count w left (Err c.in-Err.fault) (talks_not c.args.count c.in-Err.fault a left fresh c.in-Err.ensures))

pub returns-clause-talks : goal.returns-clause-talks
returns-clause-talks g c =
    let w = wires (end_of g.CS.Source g.CT.Target c.args.client.now) (end_of g.SS.Source g.ST.Target c.args.server.now) (written g.O.Target c.args.out.now) in
    let left = wires (end_of g.CS.Source g.CT.Target c.play.new.client) (end_of g.SS.Source g.ST.Target c.play.new.server) (written g.O.Target c.play.new.out) in
    let a = scene c.in_ok-caller.caller c.in_ok-host.host [] w in
    let fresh : IsFresh a = record { client = c.in_ok-caller.ensures.core; client_inbox = c.in_ok-caller.ensures.inbox; server = c.in_ok-host.ensures.core; server_inbox = c.in_ok-host.ensures.inbox; unanswered = refl } in
    let b = scene c.play.new.caller c.play.new.host [] left in
    let out = written g.O.Target c.print_done.new.out in
    talks c.args.count c.print_done.result a b (with_out b out) fresh c.in-Ok.ensures (closed c.args.count b out c.print_done.result c.print_done.ensures)

pub returns-clause-converses : goal.returns-clause-converses
returns-clause-converses g c =
    let w = wires (end_of g.CS.Source g.CT.Target c.args.client.now) (end_of g.SS.Source g.ST.Target c.args.server.now) (written g.O.Target c.args.out.now) in
    let left = wires (end_of g.CS.Source g.CT.Target c.play.new.client) (end_of g.SS.Source g.ST.Target c.play.new.server) (written g.O.Target c.play.new.out) in
    let a = scene c.in_ok-caller.caller c.in_ok-host.host [] w in
    let fresh : IsFresh a = record { client = c.in_ok-caller.ensures.core; client_inbox = c.in_ok-caller.ensures.inbox; server = c.in_ok-host.ensures.core; server_inbox = c.in_ok-host.ensures.inbox; unanswered = refl } in
    let b = scene c.play.new.caller c.play.new.host [] left in
    let out = written g.O.Target c.print_done.new.out in
    converses c.args.count w (with_out b out).wires c.print_done.result
    (talks c.args.count c.print_done.result a b (with_out b out) fresh c.in-Ok.ensures (closed c.args.count b out c.print_done.result c.print_done.ensures))
