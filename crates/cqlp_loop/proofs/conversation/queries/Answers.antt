use Rattle.std.proofs.Common.{◌≡◌, rules, ◌+◌, ◌-◌, ◌/◌, ◌%◌, suc, refl, arith}
use Rattle.std.specs.Prelude.{Err}
use Rattle.std.proofs.lemmas.List.{append-nil}
use Rattle.cqlp_loop.specs.declared.request.Request.TheVariants.{Query}
use Rattle.cqlp_loop.specs.Script.{exchange, pairs, last}
use Rattle.cqlp_loop.proofs.Turns.{ends_then, last_is, last_none, pairs_more, pairs_break}
use Rattle.cqlp_loop.proofs.conversation.queries.Goals as goal

pub loop-pair-init : goal.loop-pair-init
loop-pair-init g c = record { plays = refl }

pub loop-pair-preserved : goal.loop-pair-preserved
loop-pair-preserved g c = record { plays = pairs_more c.loop-pair.pair _ _ _ c.loop-pair.invariant.plays c.in_ok-exchange_pair.ensures }

pub returns-in_err-exchange_pair : goal.returns-in_err-exchange_pair
returns-in_err-exchange_pair g c =
    let is : c.from_residual.result ≡ Err c.in_err-exchange_pair.field-0.0 = search rules in
    let m = c.args.count / 2 - c.loop-pair.pair - 1 in
    let e : c.args.count / 2 ≡ c.loop-pair.pair + suc m = let a = c.loop-pair-test.true in omega arith in
    rw (is, e) (pairs_break c.in_err-exchange_pair.field-0.0 c.loop-pair.pair m (last (c.args.count % 2)) _ _ _ c.loop-pair.invariant.plays c.in_err-exchange_pair.ensures)

pub returns-then-count-eq0 : goal.returns-then-count-eq0
returns-then-count-eq0 g c =
    let e : c.args.count / 2 ≡ c.loop-pair.pair = let a = c.loop-pair-test.false in let b = c.loop-pair.auto.pair-end in omega arith in
    rw (e, last_none _ c.if-count-eq0.true, append-nil (pairs c.loop-pair.pair)) c.loop-pair.invariant.plays

pub returns : goal.returns
returns g c =
    let e : c.args.count / 2 ≡ c.loop-pair.pair = let a = c.loop-pair-test.false in let b = c.loop-pair.auto.pair-end in omega arith in
    rw (e, last_is _ (λ (z : c.args.count % 2 ≡ 0). let f = c.if-count-eq0.false in omega arith)) (ends_then c.exchange.result (pairs c.loop-pair.pair) (exchange Query) _ _ _ c.loop-pair.invariant.plays c.exchange.ensures)
