use Rattle.std.proofs.Common.{◌∙◌, ap, slice_index_or, sym}
use Rattle.cqlp_pattern.specs.Matching.{joined}
use Rattle.cqlp_pattern.proofs.Followers.{followers_more}
use Rattle.cqlp_pattern.proofs.pattern.Pattern.followers.Goals as goal

pub loop-position-preserved : goal.loop-position-preserved
loop-position-preserved c =
    c.joined-next.ensures
    ∙ ap (λ n. joined n c.args.active c.loop-position.position (slice_index_or c.args.self.now.follow c.loop-position.position 0)) c.loop-position.invariant
    ∙ sym (followers_more c.args.self.now.follow c.args.active c.loop-position.position)
