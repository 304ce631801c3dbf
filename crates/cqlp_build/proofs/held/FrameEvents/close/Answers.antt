use Rattle.std.proofs.Common.{refl, subst, sym}
use Rattle.cqlp_build.specs.Closing.{IsClosedOf}
use Rattle.cqlp_build.specs.FrameEvents.{left}
use Rattle.cqlp_build.proofs.Closing.{closes, closes_not}
use Rattle.cqlp_build.proofs.held.FrameEvents.close.Goals as goal

pub refusal-requires : goal.refusal-requires
refusal-requires c = c.frame-frame.ensures.sized

pub returns-in-None : goal.returns-in-None
returns-in-None c =
    subst (IsClosedOf c.args.header.now (left c.args.self.now)) (sym c.in-None.ensures.same)
    (closes c.args.header.now c.frame-frame.result _ c.frame-frame.new.self refl c.frame-frame.ensures.is c.in-None.ensures.is)

pub returns-in-Some : goal.returns-in-Some
returns-in-Some c =
    closes_not c.args.header.now c.frame-frame.result _ c.frame-frame.new.self refl c.frame-frame.ensures.is c.in-Some.why c.in-Some.ensures.is
