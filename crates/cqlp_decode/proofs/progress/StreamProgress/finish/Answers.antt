use Rattle.std.proofs.Common.{◌≡◌, Bool, true, false, refl}
use Rattle.cqlp_decode.specs.Progress.{parts_state}
use Rattle.cqlp_decode.proofs.Steps.{placed}
use Rattle.cqlp_decode.proofs.Ends.{finishes_whole, finishes_cut}
use Rattle.cqlp_decode.proofs.progress.StreamProgress.finish.Goals as goal

pub returns-then-is_between-clause-ends : goal.returns-then-is_between-clause-ends
returns-then-is_between-clause-ends g c = λ gifts bytes es after.
    let between = c.if-is_between.ensures.0 refl in
    let stage = rw between.0 at c.requires.stage in
    finishes_whole c.args.self.now (parts_state c.args.parts.now) gifts bytes es c.args.self.now.refusal c.in_default.is between.0 between.1 stage.2 after

pub returns-clause-ends : goal.returns-clause-ends
returns-clause-ends g c = λ gifts bytes es after.
    finishes_cut c.args.self.now (parts_state c.args.parts.now) gifts bytes es c.args.self.now.refusal c.in_default.is c.bytes_used.result c.bytes_used.ensures (placed c.args.self.now (parts_state c.args.parts.now) c.args.self.now.stage c.requires.stage) c.requires.bounded (λ here none. let shut : ◌≡◌ {A = Bool} false true = c.if-is_between.ensures.1 (here, none) in cc) after
