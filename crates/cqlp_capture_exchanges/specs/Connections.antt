-- Which connection it is of which something is reported.
use Rattle.std.specs.Prelude.{ℕ, [], ◌∷◌}
use Rattle.cqlp_tcp_segment.specs.declared.addresses.Address.TheVariants.{V4}
use Rattle.cqlp_tcp_segment.specs.declared.addresses.Endpoint.{Endpoint}
use Rattle.cqlp_tcp_connections.specs.declared.delivery.Delivery.{Delivery}
use Rattle.cqlp_tcp_connections.specs.declared.ends.Ends.{Ends}
use Rattle.cqlp_tcp_connections.specs.declared.totals.ConnectionTotals.{ConnectionTotals}
use Rattle.cqlp_capture_exchanges.specs.declared.connection.Connection.{Connection}

abbrev pub connection : ℕ → Ends → Connection
connection n e = record { number = n; ends = e }

abbrev pub of_delivery : Delivery → Connection
of_delivery t = connection t.number t.ends

abbrev pub of_totals : ConnectionTotals → Connection
of_totals t = connection t.number (record { client = t.client; node = t.node })

-- one of which nothing is reported
abbrev pub no_end : Endpoint
no_end = record { address = V4 (0 ∷ 0 ∷ 0 ∷ 0 ∷ []); port = 0 }

abbrev pub unreported : ℕ → Connection
unreported n = connection n (record { client = no_end; node = no_end })
