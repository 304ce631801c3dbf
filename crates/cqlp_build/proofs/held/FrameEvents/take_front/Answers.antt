use Rattle.std.proofs.Common.{sym, ◌∙◌}
use Rattle.cqlp_build.proofs.Several.{none_of}
use Rattle.cqlp_build.proofs.held.FrameEvents.take_front.Goals as goal

pub whole-requires : goal.whole-requires
whole-requires c = c.requires (none_of c.args.self.now.fault (sym c.is_some.ensures ∙ c.if-is_some.false))
