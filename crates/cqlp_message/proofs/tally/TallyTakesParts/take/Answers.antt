use Rattle.cqlp_message.proofs.Tallies.{tally_more}
use Rattle.cqlp_message.proofs.tally.TallyTakesParts.take.Goals as goal

pub returns : goal.returns
returns c = record {
  takes = λ before earlier t. tally_more c.args.self.now c.of.result c.add.new.self earlier _ t c.of.ensures c.add.ensures.counts c.add.ensures.texts c.add.ensures.cells c.add.ensures.size;
}
