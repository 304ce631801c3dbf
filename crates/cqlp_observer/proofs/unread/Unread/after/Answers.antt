use Rattle.std.proofs.lemmas.List.{take_rest}
use Rattle.cqlp_observer.proofs.unread.Unread.after.Goals as goal

pub returns-clause-bytes : goal.returns-clause-bytes
returns-clause-bytes c = take_rest c.args.self.bytes.now c.args.used
