use Rattle.std.proofs.Common.{ℕ, List, drop, sym, ap, ◌∙◌, arith}
use Rattle.std.proofs.lemmas.List.{take_rest}
use Rattle.cqlp_tcp_segment.specs.EtherType.{untagged}
use Rattle.cqlp_tcp_segment.proofs.Tags.{untagged_cut, untagged_ends, untagged_step}
use Rattle.cqlp_tcp_segment.proofs.ether_type.untagged.Goals as goal

pub returns-then-bytes-lt4 : goal.returns-then-bytes-lt4
returns-then-bytes-lt4 c =
    sym c.loop-bytes.invariant ∙ untagged_cut c.loop-bytes.ether_type c.loop-bytes.bytes.now (sym c.is_tag.ensures ∙ c.loop-bytes-test.true) (omega arith)

pub loop-bytes-preserved : goal.loop-bytes-preserved
loop-bytes-preserved c =
    let b = c.loop-bytes.bytes.now in
    ap (λ (z : List ℕ). untagged c.number_16-ether_type.result z) (take_rest b 4)
    ∙ ap (λ (n : ℕ). untagged n (drop 4 b)) c.number_16-ether_type.ensures
    ∙ untagged_step c.loop-bytes.ether_type b (sym c.is_tag.ensures ∙ c.loop-bytes-test.true) (omega arith)
    ∙ c.loop-bytes.invariant

pub returns : goal.returns
returns c =
    sym c.loop-bytes.invariant ∙ untagged_ends c.loop-bytes.ether_type c.loop-bytes.bytes.now (sym c.is_tag.ensures ∙ c.loop-bytes-test.false)
