use Rattle.std.proofs.Common.{ℕ, ◌+◌, ◌-◌, ◌/◌, ◌^◌, length, ap, ◌∙◌, arith, None, Option}
use Rattle.std.proofs.lemmas.List.{length-replicate}
use Rattle.cqlp_session.specs.declared.streams.OpenRequest.{OpenRequest}
use Rattle.cqlp_session.proofs.Marked.{marks_empty}
use Rattle.cqlp_session.proofs.streams.Streams.new.Goals as goal

pub invariant_of-result : goal.invariant_of-result
invariant_of-result g c =
    let slots = ap length c.in_ok-slots.ensures.slots ∙ length-replicate {A = Option OpenRequest} c.args.len None in
    let words = ap length c.in_ok-free.ensures.words ∙ length-replicate {A = ℕ} ((c.args.len + 63) / 64) (2 ^ 64 - 1) in
    rw (c.in_ok-slots.ensures.slots, c.in_ok-free.ensures.words, length-replicate {A = Option OpenRequest} c.args.len None) (c.requires, marks_empty c.args.len, omega (arith, slots, c.in_ok-slots.ensures.capacity), omega (arith, words, c.in_ok-free.ensures.capacity))
