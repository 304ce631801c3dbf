use Rattle.std.proofs.Common.{◌≡◌, take, slice_index}
use Rattle.cqlp_note.proofs.Pieces.{rest_is}
use Rattle.cqlp_note.proofs.head.read_inet.Goals as goal

pub returns-in-4 : goal.returns-in-4
returns-in-4 c = let size : slice_index (take 1 c.args.bytes.now) 0 ≡ 4 = cc in rw size (rw rest_is at c.read_address_and_port.ensures)

pub returns-in-16 : goal.returns-in-16
returns-in-16 c = let size : slice_index (take 1 c.args.bytes.now) 0 ≡ 16 = cc in rw size (rw rest_is at c.read_address_and_port-in-16.ensures)
