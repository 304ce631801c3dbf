-- An end of connections that is asked for: an address (RFC 4291, section 2.2), or that and a port, as the address of a socket is written.
use Rattle.std.specs.Prelude.{◌≡◌, ℕ, List, Option, Some, None}
use Rattle.std.specs.Net.Grammar.{IsIpText, IsSocketText}
use Rattle.std.specs.Net.Socket.{socket_ip, socket_port, socket_scope_id}
use Rattle.std.specs.declared.net.ip_addr.IpAddr.{IpAddr}
use Rattle.std.specs.declared.net.socket_addr.SocketAddr.{SocketAddr}
use Rattle.cqlp_options.specs.declared.end.AskedEnd.{AskedEnd}

-- the text is that of a socket with this address and port, without a scope
pub record IsSocket (text : List ℕ) (address : IpAddr) (port : ℕ) : Type 0 where
  pub socket : SocketAddr
  pub is_text : IsSocketText text socket
  pub address_is : socket_ip socket ≡ address
  pub port_is : socket_port socket ≡ port
  pub no_scope : socket_scope_id socket ≡ 0

abbrev pub Names : (text : List ℕ) → IpAddr → (port : Option ℕ) → Type 0
Names text address None = IsIpText text address
Names text address (Some port) = IsSocket text address port

abbrev pub NamesEnd : (text : List ℕ) → AskedEnd → Type 0
NamesEnd text e = Names text e.address e.port
