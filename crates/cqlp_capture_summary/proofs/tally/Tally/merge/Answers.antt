use Rattle.std.proofs.Common.{◌∙◌, ap, arith, length, subst, sym}
use Rattle.cqlp_capture_summary.specs.Merging.{IsNoneBut}
use Rattle.cqlp_capture_summary.proofs.Added.{added_long, none_from_added}
use Rattle.cqlp_capture_summary.proofs.tally.Tally.merge.Goals as goal

pub invariant_of-self : goal.invariant_of-self
invariant_of-self c =
    let own = c.self.invariant.0 in
    let other = c.more.invariant.0 in
    let least = c.min-self-inside.ensures in
    let most = c.max-self-inside-2.ensures in
    let a = c.self.invariant.1 in
    let b = c.more.invariant.1 in (
      ap length c.add_buckets.ensures ∙ added_long c.more.inside.buckets c.self.inside.buckets ∙ own,
      omega (arith, a, b, most),
      subst (IsNoneBut c.min-self-inside.result c.max-self-inside-2.result) (sym c.add_buckets.ensures)
          (none_from_added c.self.inside.from c.self.inside.end c.more.inside.from c.more.inside.end c.more.inside.buckets c.self.inside.buckets (omega (arith, own, other))
          c.self.invariant.2 c.more.invariant.2 _ _ (omega (arith, least)) (omega (arith, least)) (omega (arith, most)) (omega (arith, most))),
    )
