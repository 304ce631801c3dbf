use Rattle.std.proofs.Common.{◌≡◌, ℕ, zero, suc, ◌-◌, ◌++◌, List, [], take, refl, ap, ◌∙◌, arith}
use Rattle.std.specs.Prelude.{replicate}
use Rattle.cqlp_tcp_connections.specs.Ports.{no_ports}
use Rattle.cqlp_tcp_connections.proofs.ports.PortCounts.new.Goals as goal

taken_none : (n : ℕ) → take {A = ℕ} n [] ≡ []
taken_none zero = refl
taken_none (suc n) = refl

filled : (n len : ℕ) (old new : List ℕ) → old ≡ [] → len ≡ 0 → new ≡ take n old ++ replicate (n - len) 0 → new ≡ replicate n 0
filled n len old new none nil is =
    is
    ∙ ap (λ (x : List ℕ). take n x ++ replicate (n - len) 0) none
    ∙ ap (λ (x : List ℕ). x ++ replicate (n - len) 0) (taken_none n)
    ∙ ap (λ (m : ℕ). replicate (n - m) 0) nil
    ∙ ap (λ (m : ℕ). replicate m 0) (let e : n - 0 ≡ n = omega arith in e)

pub returns : goal.returns
unfolding no_ports
returns g c =
    filled 65536 _ c.new-counts.result.items c.resize.new.self.items c.new-counts.ensures.items c.new-counts.ensures.len c.in_ok-resize.ensures.items
