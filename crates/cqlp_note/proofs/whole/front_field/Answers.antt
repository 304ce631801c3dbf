use Rattle.cqlp_note.proofs.Wholes.{plain_said}
use Rattle.cqlp_note.proofs.whole.front_field.Goals as goal

pub returns-in-None : goal.returns-in-None
returns-in-None c = plain_said (record { notation = c.args.notation; limit = c.args.limit; at = 0; room = c.args.room }) c.args.input.now c.front_plain.result (rw c.in-None.is at c.read_content_head.ensures) c.front_plain.ensures
