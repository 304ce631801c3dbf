use Rattle.std.proofs.Common.{inr}
use Rattle.cqlp_tool.proofs.command_line.read_capture.Goals as goal

pub returns-in-Streams-clause-task : goal.returns-in-Streams-clause-task
returns-in-Streams-clause-task g c =
    rw c.in-Streams.is (inr (rw (c.as_slice-ports.ensures, c.streams_limits_of-limits.ensures.is) at c.split_to_folder.ensures.splits))

pub returns-in-Exchanges-clause-task : goal.returns-in-Exchanges-clause-task
returns-in-Exchanges-clause-task g c =
    rw c.in-Exchanges.is (rw (c.as_slice-ports.ensures, c.streams_limits_of-limits.ensures.is, c.exchange_limits_of.ensures, c.filter_of.ensures, c.form_of.ensures) at c.write_exchanges.ensures.exchanges)

pub returns-in-Events-clause-task : goal.returns-in-Events-clause-task
returns-in-Events-clause-task g c =
    rw c.in-Events.is (rw (c.as_slice-ports.ensures, c.streams_limits_of-limits.ensures.is) at c.write_events.ensures.events)

pub returns-in-Rows-clause-task : goal.returns-in-Rows-clause-task
returns-in-Rows-clause-task g c =
    rw c.in-Rows.is (rw (c.as_slice-ports.ensures, c.streams_limits_of-limits.ensures.is) at c.write_rows.ensures.rows)
