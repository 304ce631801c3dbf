use Rattle.cqlp_loop.proofs.Spelled.{request_spelled, same_frame}
use Rattle.cqlp_loop.proofs.request.Request.write.Goals as goal

pub send-requires : goal.send-requires
send-requires g c = rw (same_frame _ _ _ _ c.plain.ensures c.in-Ok.ensures) (request_spelled c.args.self _)
