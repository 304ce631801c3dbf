use Rattle.std.proofs.Common.{◌≡◌, rules}
use Rattle.std.specs.Prelude.{Err}
use Rattle.cqlp_loop.proofs.Pulling.{hears_none, stops_last, used_last, refused_last, filled_last, failed_last}
use Rattle.cqlp_loop.proofs.inbox.Inbox.pull.Goals as goal

pub reads-init : goal.reads-init
reads-init g c = record { heard = λ hs. hears_none _ _ _ }

pub returns-in-Mark : goal.returns-in-Mark
returns-in-Mark g c =
    let e = c.in-Mark.ensures in
    (e.1, stops_last c.args.edge c.args.self.now c.reads.self _ _ c.reads.invariant.heard _ c.find.new.self e.2, λ hs. used_last c.args.edge c.args.self.now c.reads.self _ _ c.reads.invariant.heard c.find.new.self hs _ e.0 (e.3 hs))

pub returns-in-Refused : goal.returns-in-Refused
returns-in-Refused g c =
    let e = c.in-Refused.ensures in
    refused_last c.args.edge c.args.self.now c.reads.self _ _ c.reads.invariant.heard e.1 e.2

pub reads-preserved : goal.reads-preserved
reads-preserved g c =
    let e = c.in-More.ensures in
    record {
      heard = filled_last c.args.edge c.args.self.now c.reads.self _ _ c.reads.invariant.heard c.find.new.self _ _ e.0 e.1 e.2 e.3 c.in_ok-fill-in-More.ensures;
    }

pub returns-in_err-fill-in-More : goal.returns-in_err-fill-in-More
returns-in_err-fill-in-More g c =
    let e = c.in-More.ensures in
    let is : c.from_residual.result ≡ Err c.in_err-fill-in-More.field-0.0 = search rules in
    rw is (failed_last c.args.edge c.args.self.now c.reads.self _ _ c.reads.invariant.heard c.in_err-fill-in-More.field-0.0 c.find.new.self _ _ e.0 e.2 c.in_err-fill-in-More.ensures)
