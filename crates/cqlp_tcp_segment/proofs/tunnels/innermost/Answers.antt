use Rattle.std.proofs.Common.{sym, subst, ◌∙◌, arith, rules}
use Rattle.cqlp_tcp_segment.specs.Fields.{Gives}
use Rattle.cqlp_tcp_segment.specs.Ip.{view}
use Rattle.cqlp_tcp_segment.proofs.Innermost.{innermost_none, innermost_refused, innermost_step, innermost_tcp, innermost_unopened}
use Rattle.cqlp_tcp_segment.proofs.Payload.{in_packet_shorter}
use Rattle.cqlp_tcp_segment.proofs.tunnels.innermost.Goals as goal

pub returns-in_err-carried : goal.returns-in_err-carried
returns-in_err-carried c =
    subst (Gives view c.from_residual.result) (sym (innermost_refused c.loop-left.left c.args.beyond (c.loop-left.ip.version, c.loop-left.ip.bytes.now) _ (omega arith) c.in_err-carried.ensures) ∙ c.loop-left.invariant.same) (search rules)

pub returns-in_err-ip : goal.returns-in_err-ip
returns-in_err-ip c =
    subst (Gives view c.from_residual-in_err-ip.result) (sym (innermost_unopened c.loop-left.left c.args.beyond (c.loop-left.ip.version, c.loop-left.ip.bytes.now) _ _ (omega arith) c.in_ok-carried.ensures c.if-carried-eq-TCP.false c.in_err-ip.ensures) ∙ c.loop-left.invariant.same) (search rules)

pub loop-left-preserved : goal.loop-left-preserved
loop-left-preserved c = record {
  same = innermost_step c.loop-left.left c.args.beyond (c.loop-left.ip.version, c.loop-left.ip.bytes.now) _ _ (omega arith) c.in_ok-carried.ensures c.if-carried-eq-TCP.false c.in_ok-ip.ensures ∙ c.loop-left.invariant.same;
  fits = let shorter = in_packet_shorter c.loop-left.ip.version c.args.beyond c.loop-left.ip.bytes.now _ _ c.in_ok-carried.ensures c.in_ok-ip.ensures in omega (arith, shorter, c.loop-left.invariant.fits);
}

pub returns-then-carried-eq-TCP : goal.returns-then-carried-eq-TCP
returns-then-carried-eq-TCP c =
    sym c.loop-left.invariant.same ∙ innermost_tcp c.loop-left.left c.args.beyond (c.loop-left.ip.version, c.loop-left.ip.bytes.now) _ (omega arith) c.in_ok-carried.ensures c.if-carried-eq-TCP.true

pub returns : goal.returns
returns c =
    sym c.loop-left.invariant.same ∙ innermost_none c.loop-left.left c.args.beyond (c.loop-left.ip.version, c.loop-left.ip.bytes.now) c.loop-left-test.false
