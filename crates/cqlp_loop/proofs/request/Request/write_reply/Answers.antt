use Rattle.std.proofs.Common.{w16}
use Rattle.std.proofs.lemmas.Int.{to_z-of_z}
use Rattle.cqlp_loop.proofs.Spelled.{sends_writes, options_frame, startup_frame, query_frame, options_fit, startup_fit, query_fit}
use Rattle.cqlp_loop.proofs.request.Request.write_reply.Goals as goal

pub send-requires : goal.send-requires
send-requires g c = options_fit _ _ _ c.args.self c.plain-frame.ensures c.in-Ok.ensures c.in-Options.is

pub send-requires-in-Startup : goal.send-requires-in-Startup
send-requires-in-Startup g c = startup_fit _ _ _ c.args.self c.plain-frame.ensures c.in-Ok.ensures c.in-Startup.is

pub send_page-requires : goal.send_page-requires
send_page-requires g c = query_fit _ _ _ c.args.self c.plain-frame.ensures c.in-Ok.ensures c.in-Query.is

pub returns-in-Options : goal.returns-in-Options
returns-in-Options g c = rw (to_z-of_z w16 c.args.stream c.ranges.stream) at (sends_writes c.send.result _ _ _ _ (options_frame _ _ _ c.args.self c.plain-frame.ensures c.in-Ok.ensures c.in-Options.is) c.send.ensures)

pub returns-in-Startup : goal.returns-in-Startup
returns-in-Startup g c = rw (to_z-of_z w16 c.args.stream c.ranges.stream) at (sends_writes c.send-in-Startup.result _ _ _ _ (startup_frame _ _ _ c.args.self c.plain-frame.ensures c.in-Ok.ensures c.in-Startup.is) c.send-in-Startup.ensures)

pub returns : goal.returns
returns g c = rw (to_z-of_z w16 c.args.stream c.ranges.stream) at (sends_writes c.send_page.result _ _ _ _ (query_frame _ _ _ c.args.self c.plain-frame.ensures c.in-Ok.ensures c.in-Query.is) c.send_page.ensures)
