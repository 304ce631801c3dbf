use Rattle.std.proofs.Common.{append_assoc, decimal, string_bytes}
use Rattle.cqlp_capture_streams.specs.Lines.{connection_words}
use Rattle.cqlp_capture_streams.proofs.Written.{said}
use Rattle.cqlp_capture_streams.proofs.lines.connection_line.Goals as goal

pub returns : goal.returns
returns g c =
    let number = decimal c.args.totals.now.number in
    let texts = connection_words number (string_bytes c.in_ok-client.client) (string_bytes c.in_ok-node.node) (string_bytes c.in_ok-requests.requests) (string_bytes c.in_ok-responses.responses) in
    said c.format.result string_bytes texts _ (said c.format.result string_bytes _ texts c.format.ensures.ok (simp append_assoc)) (λ i. connection_words number (c.in_ok-client.ensures i) (c.in_ok-node.ensures i) (c.in_ok-requests.ensures i) (c.in_ok-responses.ensures i))
