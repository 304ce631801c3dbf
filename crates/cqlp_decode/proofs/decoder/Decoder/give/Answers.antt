use Rattle.std.proofs.Common.{Some, refl, sym}
use Rattle.cqlp_kind.specs.Types.{types_of}
use Rattle.cqlp_decode.specs.declared.given.GivenUse.TheVariants as uses
use Rattle.cqlp_decode.specs.Reading.{Gives}
use Rattle.cqlp_decode.specs.Progress.{HoldsGiven, parts_state}
use Rattle.cqlp_decode.specs.Streams.{state}
use Rattle.cqlp_decode.proofs.Tables.{free_without, given_lawful, given_state, gives_also}
use Rattle.cqlp_decode.proofs.decoder.Decoder.give.Goals as goal

pub invariant_of-self : goal.invariant_of-self
invariant_of-self g c =
    let free = rw (← c.self.view_is) at (free_without (state c.args.self.now) c.args.table.nodes (sym c.in_default.ensures.is)) in
    let holds : HoldsGiven c.self.inside.progress.limits (Some c.args.table) = rw (← c.self.view_is) at (c.in_default.ensures.fits refl) in
    rw c.replace.ensures.after (given_lawful c.self.inside.progress (parts_state c.self.inside.parts) uses.Waiting (Some c.args.table) c.self.invariant free holds)

pub returns-clause-taken : goal.returns-clause-taken
returns-clause-taken g c = λ none.
    let free = rw (← c.self.view_is) at (free_without (state c.args.self.now) c.args.table.nodes none) in
    rw (← c.self.view_is, c.replace.ensures.after, c.replace.ensures.value) (refl, given_state c.self.inside.progress (parts_state c.self.inside.parts) uses.Waiting (Some c.args.table) c.self.invariant free)

pub returns-clause-after : goal.returns-clause-after
returns-clause-after g c = λ none.
    let free = rw (← c.self.view_is) at (free_without (state c.args.self.now) c.args.table.nodes none) in
    gives_also (Gives (types_of c.args.table.nodes)) (state c.args.self.now) _ (Some c.args.table)
    (rw (← c.self.view_is, c.replace.ensures.after) (given_state c.self.inside.progress (parts_state c.self.inside.parts) uses.Waiting (Some c.args.table) c.self.invariant free))
