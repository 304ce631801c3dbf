use Rattle.std.proofs.Common.{arith, ap, sym, cond, Option}
use Rattle.std.specs.Prelude.{is_none}
use Rattle.std.proofs.lemmas.List.{length-set}
use Rattle.cqlp_session.specs.declared.streams.OpenRequest.{OpenRequest}
use Rattle.cqlp_session.proofs.Marked.{marks_put_through}
use Rattle.cqlp_session.proofs.streams.Streams.put.Goals as goal

pub invariant_of-self : goal.invariant_of-self
invariant_of-self g c =
    let write = rw c.deref_mut.ensures.value at c.clear.ensures in (
      rw length-set c.self.invariant.0,
      marks_put_through _ _ c.in-Some.place 0 c.self.inside.free.len _ c.args.what c.self.invariant.1 write (omega arith) (sym (ap (λ (o : Option OpenRequest). cond (is_none o) 1 0) c.in-Some-what.is)) (omega arith),
      omega arith,
      omega arith,
    )

pub invariant_of-self-in-None : goal.invariant_of-self-in-None
invariant_of-self-in-None g c =
    let write = rw c.deref_mut-in-None.ensures.value at c.set.ensures in (
      rw length-set c.self.invariant.0,
      marks_put_through _ _ c.in-Some.place 1 c.self.inside.free.len _ c.args.what c.self.invariant.1 write (omega arith) (sym (ap (λ (o : Option OpenRequest). cond (is_none o) 1 0) c.in-None.is)) (omega arith),
      omega arith,
      omega arith,
    )
