-- Tunnels are opened one after the other.
use Rattle.std.proofs.Common.{◌≡◌, ℕ, zero, suc, ◌<◌, ◌-◌, ◌≤◌, List, Ok, Err, refl, arith}
use Rattle.std.proofs.lemmas.Bool.{eq-eqb, ne_eqb}
use Rattle.cqlp_tcp_segment.specs.declared.ether_type.IpVersion.{IpVersion}
use Rattle.cqlp_tcp_segment.specs.declared.reason.NoSegment.{NoSegment}
use Rattle.cqlp_tcp_segment.specs.declared.reason.NoSegment.TheVariants.{TooManyTunnels}
use Rattle.cqlp_tcp_segment.specs.Ip.{Load, carried_by}
use Rattle.cqlp_tcp_segment.specs.Tunnels.{in_packet, innermost}

pub innermost_none : (n beyond : ℕ) (ip : IpVersion × List ℕ) → n ≤ 0 → innermost n beyond ip ≡ Err TooManyTunnels
unfolding innermost
innermost_none zero beyond ip none = refl
innermost_none (suc n) beyond ip none = absurd (omega arith)

pub innermost_refused : (n beyond : ℕ) (ip : IpVersion × List ℕ) (why : NoSegment) → 0 < n → carried_by ip.0 beyond ip.1 ≡ Err why → innermost n beyond ip ≡ Err why
unfolding innermost
innermost_refused zero beyond ip why some outer = absurd (omega arith)
innermost_refused (suc n) beyond ip why some outer = rw outer refl

pub innermost_tcp : (n beyond : ℕ) (ip : IpVersion × List ℕ) (l : Load) → 0 < n → carried_by ip.0 beyond ip.1 ≡ Ok l → l.protocol ≡ 6 → innermost n beyond ip ≡ Ok l
unfolding innermost
innermost_tcp zero beyond ip l some outer tcp = absurd (omega arith)
innermost_tcp (suc n) beyond ip l some outer tcp = rw (outer, eq-eqb l.protocol 6 tcp) refl

pub innermost_unopened : (n beyond : ℕ) (ip : IpVersion × List ℕ) (l : Load) (why : NoSegment) → 0 < n → carried_by ip.0 beyond ip.1 ≡ Ok l → (l.protocol ≡ 6 → ⊥) → in_packet l ≡ Err why → innermost n beyond ip ≡ Err why
unfolding innermost
innermost_unopened zero beyond ip l why some outer other inner = absurd (omega arith)
innermost_unopened (suc n) beyond ip l why some outer other inner = rw (outer, ne_eqb l.protocol 6 other, inner) refl

pub innermost_step : (n beyond : ℕ) (ip : IpVersion × List ℕ) (l : Load) (y : IpVersion × List ℕ) → 0 < n → carried_by ip.0 beyond ip.1 ≡ Ok l → (l.protocol ≡ 6 → ⊥) → in_packet l ≡ Ok y → innermost (n - 1) beyond y ≡ innermost n beyond ip
unfolding innermost
innermost_step zero beyond ip l y some outer other inner = absurd (omega arith)
innermost_step (suc n) beyond ip l y some outer other inner = let e : suc n - 1 ≡ n = omega arith in rw (e, outer, ne_eqb l.protocol 6 other, inner) refl
