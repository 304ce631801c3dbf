use Rattle.cqlp_capture_summary.proofs.Heaviest.{keeps_each_once, keeps_the_heaviest, shows_exactly_since}
use Rattle.cqlp_capture_summary.proofs.laws.keeps_the_heaviest.Goals as goal

pub returns-clause-heaviest : goal.returns-clause-heaviest
returns-clause-heaviest c = keeps_the_heaviest

pub returns-clause-once : goal.returns-clause-once
returns-clause-once c = keeps_each_once

pub returns-clause-exact : goal.returns-clause-exact
returns-clause-exact c = shows_exactly_since
