use Rattle.cqlp_note.specs.Outputs.{written}
use Rattle.cqlp_message.specs.Owned.{frame_of}
use Rattle.cqlp_encode.proofs.Calls.{from_none}
use Rattle.cqlp_encode.proofs.FramesTaken.{from_start}
use Rattle.cqlp_encode.proofs.writing.encode.Goals as goal

pub returns-clause-encodes : goal.returns-clause-encodes
returns-clause-encodes g c = from_start (frame_of c.args.frame.now) (written g.W.Target c.args.target.now) (written g.W.Target c.encode_from.new.target) c.encode_from.result c.encode_from.ensures.encodes

pub returns-clause-calls : goal.returns-clause-calls
returns-clause-calls g c = from_none _ _ _ c.encode_from.ensures.calls
