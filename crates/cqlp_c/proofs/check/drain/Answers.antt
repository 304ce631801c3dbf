use Rattle.std.proofs.Common.{◌≤◌, [], ◌++◌, length, drop, ◌∙◌, arith}
use Rattle.std.proofs.lemmas.List.{length-drop}
use Rattle.cqlp_decode.specs.Streams.{state}
use Rattle.cqlp_decode.proofs.Gets.{rest_is, take_two}
use Rattle.cqlp_c.specs.Batches.{events_of}
use Rattle.cqlp_c.proofs.Checked.{drained_more, drained_refused}
use Rattle.cqlp_c.proofs.check.drain.Goals as goal

pub returns-in-More-clause-drains : goal.returns-in-More-clause-drains
returns-in-More-clause-drains c = λ none fresh.
    let st = c.batches.invariant.conforms fresh in
    let f = rw rest_is at (c.fill-batch.ensures.fills [] _ _ st.1) in
    drained_more (state c.batches.decoder) (state c.fill-batch.new.decoder) c.args.stream.now c.batches.used _ _ _ _ _ st.0 f c.in-More.is

pub returns-in-Refused-clause-drains : goal.returns-in-Refused-clause-drains
returns-in-Refused-clause-drains c = λ none fresh.
    let st = c.batches.invariant.conforms fresh in
    let f = rw rest_is at (c.fill-batch.ensures.fills [] _ _ st.1) in
    drained_refused (state c.batches.decoder) (state c.fill-batch.new.decoder) c.args.stream.now c.batches.used _ _ _ _ _ st.0 f _ c.in-Refused.is (c.batches.invariant.same ∙ none) c.fill-batch.ensures.rules

pub batches-preserved : goal.batches-preserved
batches-preserved c = record {
  within =
      let taken : c.fill-batch.result.used ≤ length (drop c.batches.used c.args.stream.now) = rw rest_is at c.fill-batch.ensures.within.0 in
      let left = length-drop c.batches.used c.args.stream.now in
      let within = c.batches.invariant.within in omega (arith, taken, left, within);
  long = c.fill-batch.ensures.room ∙ c.batches.invariant.long;
  rules = c.fill-batch.ensures.rules ∙ c.batches.invariant.rules;
  same = (c.fill-batch.ensures.goes_on c.in-Full.is).0 ∙ c.batches.invariant.same;
  conforms = λ fresh.
      let st = c.batches.invariant.conforms fresh in
      let f = rw rest_is at (c.fill-batch.ensures.fills [] _ _ st.1) in
      (st.0 ++ events_of f.puts, rw (take_two c.batches.used c.fill-batch.result.used c.args.stream.now) f.after);
}
