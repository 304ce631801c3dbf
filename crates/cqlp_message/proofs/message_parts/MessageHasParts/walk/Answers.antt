use Rattle.cqlp_message.proofs.Walks.{◌then◌}
use Rattle.cqlp_message.proofs.message_parts.MessageHasParts.walk.Goals as goal

pub returns-in-Batch : goal.returns-in-Batch
returns-in-Batch g c =
    rw c.in-Batch.is (c.take.ensures then c.walk_counted-in-Batch.ensures then c.walk_batch_flags.ensures then c.walk_serial.ensures then c.walk_timestamp.ensures)
