use Rattle.std.proofs.Common.{refl}
use Rattle.cqlp_text.proofs.Writing.{progress_goes_on, progress_stops}
use Rattle.cqlp_capture_exchanges.proofs.Members.{members_at}
use Rattle.cqlp_capture_exchanges.proofs.member.put_members.Goals as goal

pub returns-in_err-put_str : goal.returns-in_err-put_str
returns-in_err-put_str g c =
    progress_stops _ c.from_residual.result c.from_residual.ensures.0 c.loop-member.invariant (members_at c.args.members.now c.loop-member.member-index _ c.loop-member-test.true) c.in_err-put_str.ensures

pub returns-in_err-put_value : goal.returns-in_err-put_value
returns-in_err-put_value g c =
    let before = progress_goes_on _ c.loop-member.invariant (members_at c.args.members.now c.loop-member.member-index _ c.loop-member-test.true) c.in_ok-put_str.ensures in
    progress_stops _ c.from_residual-in_err-put_value.result c.from_residual-in_err-put_value.ensures.0 before refl c.in_err-put_value.ensures

pub loop-member-preserved : goal.loop-member-preserved
loop-member-preserved g c =
    let before = progress_goes_on _ c.loop-member.invariant (members_at c.args.members.now c.loop-member.member-index _ c.loop-member-test.true) c.in_ok-put_str.ensures in
    progress_goes_on _ before refl c.in_ok-put_value.ensures
