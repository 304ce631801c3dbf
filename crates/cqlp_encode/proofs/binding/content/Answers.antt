use Rattle.std.proofs.Common.{◌≡◌, ◌-◌, ◌≤◌, ◌^◌, true, length, min, sym, arith}
use Rattle.std.specs.Prelude.{option_map}
use Rattle.cqlp_note.specs.declared.header.TheConstants.Header.{LONGEST_BODY}
use Rattle.cqlp_value.specs.Owned.{fits_type, value_of}
use Rattle.cqlp_value.specs.Values.{values_size}
use Rattle.cqlp_encode.specs.Binding.{IsContent, content_written}
use Rattle.cqlp_encode.proofs.Bindings.{content_size}
use Rattle.cqlp_encode.proofs.Made.{filled, no_memory}
use Rattle.cqlp_encode.proofs.WrittenValues.{can_be_written}
use Rattle.cqlp_encode.proofs.binding.content.Goals as goal

pub returns-in_err-target : goal.returns-in_err-target
returns-in_err-target c =
    let v = c.args.value.now in
    let t = option_map (λ t. t.now) c.args.of in
    let fits : fits_type v (option_map (λ t. t.now) c.args.of) ≡ true = sym (rw c.in-Some.is at c.fitting_size.ensures.fits) in
    let counted : c.in-Some.size ≡ min (values_size (value_of v)) (2 ^ 64 - 1) = rw c.in-Some.is at c.fitting_size.ensures.size in
    let range = rw c.in-Some.is at c.fitting_size.ensures.range in
    let short : values_size (value_of v) ≤ LONGEST_BODY = omega (arith, counted, c.from.ensures, c.if-size-from.false) in
    let can = can_be_written v t fits range short in
    no_memory (λ x. IsContent v x.items) v t _ (c.in-Some.size - 4) c.from_residual.ensures.1 can (omega (arith, counted, short, content_size v)) c.in_err-target.ensures.succeeds

pub returns-then-offer_content-len : goal.returns-then-offer_content-len
returns-then-offer_content-len c =
    let v = c.args.value.now in
    let t = option_map (λ t. t.now) c.args.of in
    let fits : fits_type v (option_map (λ t. t.now) c.args.of) ≡ true = sym (rw c.in-Some.is at c.fitting_size.ensures.fits) in
    let counted : c.in-Some.size ≡ min (values_size (value_of v)) (2 ^ 64 - 1) = rw c.in-Some.is at c.fitting_size.ensures.size in
    let range = rw c.in-Some.is at c.fitting_size.ensures.range in
    let short : values_size (value_of v) ≤ LONGEST_BODY = omega (arith, counted, c.from.ensures, c.if-size-from.false) in
    let can = can_be_written v t fits range short in
    (can, omega (arith, counted, short, content_size v, c.if-offer_content-len.true))

pub returns : goal.returns
returns c =
    let v = c.args.value.now in
    let t = option_map (λ t. t.now) c.args.of in
    let fits : fits_type v (option_map (λ t. t.now) c.args.of) ≡ true = sym (rw c.in-Some.is at c.fitting_size.ensures.fits) in
    let counted : c.in-Some.size ≡ min (values_size (value_of v)) (2 ^ 64 - 1) = rw c.in-Some.is at c.fitting_size.ensures.size in
    let range = rw c.in-Some.is at c.fitting_size.ensures.range in
    let short : values_size (value_of v) ≤ LONGEST_BODY = omega (arith, counted, c.from.ensures, c.if-size-from.false) in
    let can = can_be_written v t fits range short in
    let all : length (content_written (value_of v)) ≤ c.offer_content.result = omega (arith, counted, short, content_size v, c.if-offer_content-len.false) in
    (can, record { is = rw c.into_bytes.ensures (filled _ _ (content_written (value_of v)) c.offer_content.result c.in_ok-target.ensures.empty all c.offer_content.ensures.given); range = range })
