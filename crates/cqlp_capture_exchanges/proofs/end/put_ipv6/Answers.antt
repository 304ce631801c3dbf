use Rattle.std.proofs.Common.{◌≡◌, false, [], ◌∷◌, take, bytes_eq, ap, refl, subst, ◌∙◌, arith}
use Rattle.std.proofs.lemmas.Slice.Eq.{bytes_eq-Decides}
use Rattle.std.specs.Net.Addr.{ipv6_segments}
use Rattle.std.specs.Net.Text.{hex_groups_text}
use Rattle.cqlp_text.specs.Written.{Writes}
use Rattle.cqlp_capture_exchanges.proofs.Ends.{mapped_text, other_text}
use Rattle.cqlp_capture_exchanges.proofs.end.put_ipv6.Goals as goal

pub returns-in-Some : goal.returns-in-Some
returns-in-Some g c =
    subst (λ z. Writes c.args.writer.now z c.put_mapped.result c.put_mapped.new.writer)
    (mapped_text (ipv6_segments c.args.address) c.octets.result (c.in-Some.ensures.found.0 refl) (c.octets.ensures ∙ c.in-Some.ensures.value)) c.put_mapped.ensures

pub returns-in-None : goal.returns-in-None
returns-in-None g c =
    let s = ipv6_segments c.args.address in
    let other : bytes_eq (take 6 s) (0 ∷ 0 ∷ 0 ∷ 0 ∷ 0 ∷ 0xffff ∷ []) ≡ false =
    grind (arith, bytes_eq-Decides (take 6 s) (0 ∷ 0 ∷ 0 ∷ 0 ∷ 0 ∷ 0xffff ∷ []), c.in-None.ensures.found) in
    subst (λ z. Writes c.args.writer.now z c.put_segments.result c.put_segments.new.writer) (ap hex_groups_text c.segments-segments.ensures ∙ other_text s other) c.put_segments.ensures
