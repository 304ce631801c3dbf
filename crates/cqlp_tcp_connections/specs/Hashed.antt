-- Equal ends feed a hasher alike.
use Rattle.std.specs.Prelude.{◌≡◌, ◌==◌, ◌&&◌, ◌++◌, ℕ, true, List}
use Rattle.std.proofs.Common.{◌∙◌, ap, sym, true≢false}
use Rattle.std.specs.Cmp.{first_so, second_so, unsigned_Decides}
use Rattle.std.specs.Cmp.Lexicographic.{bytes_decides}
use Rattle.std.specs.Hash.{HashWrites}
use Rattle.cqlp_tcp_segment.specs.declared.addresses.Address.{Address}
use Rattle.cqlp_tcp_segment.specs.declared.addresses.Address.TheVariants.{V4, V6}
use Rattle.cqlp_tcp_segment.specs.declared.addresses.Endpoint.{Endpoint}
use Rattle.cqlp_tcp_segment.specs.contracts.addresses.AddressPartialEq.TheImpl.{eq-value as address-eq}
use Rattle.cqlp_tcp_segment.specs.contracts.addresses.EndpointPartialEq.TheImpl.{eq-value as end-eq}
use Rattle.cqlp_tcp_connections.specs.declared.ends.Ends.{Ends}
use Rattle.cqlp_tcp_connections.specs.Ends.{fed_address, fed_end, fed_ends}

address_alike : (port : ℕ) (a b : Address) → address-eq.it a b ≡ true → fed_address port a ≡ fed_address port b
address_alike port (V4 a) (V4 b) h = ap (λ (o : List ℕ). fed_address port (V4 o)) ((bytes_decides a b).0 h)
address_alike port (V4 a) (V6 b) h = absurd (true≢false (sym h))
address_alike port (V6 a) (V4 b) h = absurd (true≢false (sym h))
address_alike port (V6 a) (V6 b) h = ap (λ (o : List ℕ). fed_address port (V6 o)) ((bytes_decides a b).0 h)

end_alike : (a b : Endpoint) → end-eq.it a b ≡ true → fed_end a ≡ fed_end b
end_alike a b h =
    let same = address-eq.it a.address b.address in
    let ports : a.port ≡ b.port = (unsigned_Decides a.port b.port).0 (second_so same (a.port == b.port) h) in
    address_alike a.port a.address b.address (first_so same (a.port == b.port) h) ∙ ap (λ (n : ℕ). fed_address n b.address) ports

pub ends_alike : (e f : Ends) → (end-eq.it e.client f.client && end-eq.it e.node f.node) ≡ true → fed_ends e ≡ fed_ends f
ends_alike e f h =
    let clients = end-eq.it e.client f.client in
    let nodes = end-eq.it e.node f.node in
    ap (λ (w : HashWrites). w ++ fed_end e.node) (end_alike e.client f.client (first_so clients nodes h))
    ∙ ap (λ (w : HashWrites). fed_end f.client ++ w) (end_alike e.node f.node (second_so clients nodes h))
