use Rattle.std.proofs.Common.{◌++◌, [], ◌∷◌, refl, sym}
use Rattle.cqlp_message.specs.Owned.{frame_of}
use Rattle.cqlp_grammar.specs.Events.{Frame, End}
use Rattle.cqlp_build.specs.FrameEvents.{left}
use Rattle.cqlp_build.proofs.Finishing.{built_of, finishes_not, rebuilt}
use Rattle.cqlp_build.proofs.held.FrameEvents.finish.Goals as goal

pub verdict-requires : goal.verdict-requires
verdict-requires c = c.frame-frame.ensures.sized

pub returns-in-None : goal.returns-in-None
returns-in-None c =
    let t = c.in-None.ensures.is in
    let b = built_of c.args.header.now c.args.extra (frame_of c.frame-frame.result) _ c.frame-frame.new.self c.frame-frame.ensures.is t.0 (sym t.1) (t.2 (c.frame-frame.ensures.is.made t.0).2) in
    rebuilt (Frame c.args.header.now ∷ left c.args.self.now ++ End c.args.extra ∷ []) (frame_of c.frame-frame.result) c.args.extra (sym c.in-None.ensures.same) refl b

pub returns-in-Some : goal.returns-in-Some
returns-in-Some c = finishes_not c.args.header.now c.args.extra (frame_of c.frame-frame.result) _ c.frame-frame.new.self c.frame-frame.ensures.is refl c.in-Some.why c.in-Some.ensures.is
