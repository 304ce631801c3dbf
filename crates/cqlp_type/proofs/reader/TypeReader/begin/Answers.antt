use Rattle.cqlp_note.specs.Limits.{rules_asked}
use Rattle.cqlp_type.specs.Progress.{new_reader}
use Rattle.cqlp_type.proofs.OpenTypes.{reads_begun}
use Rattle.cqlp_type.proofs.reader.TypeReader.begin.Goals as goal

pub returns-clause-reads : goal.returns-clause-reads
returns-clause-reads g c = rw c.clear.ensures (λ p t whole. reads_begun (new_reader (rules_asked c.self.inside.limits)) p t c.args.at c.args.end whole)
