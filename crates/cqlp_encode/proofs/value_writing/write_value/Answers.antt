use Rattle.std.proofs.Common.{◌≡◌, ℕ, ◌≤◌, ◌-◌, ◌^◌, true, min, sym, subst, arith}
use Rattle.std.specs.Prelude.{option_map}
use Rattle.cqlp_note.specs.declared.header.TheConstants.Header.{LONGEST_BODY}
use Rattle.cqlp_note.specs.Outputs.{Offered, written}
use Rattle.cqlp_value.specs.Owned.{fits_type, value_of}
use Rattle.cqlp_value.specs.Values.{values_bytes, values_size}
use Rattle.cqlp_encode.proofs.Calls.{as_many, from_none}
use Rattle.cqlp_encode.proofs.Continuing.{anew}
use Rattle.cqlp_encode.proofs.WrittenValues.{can_be_written}
use Rattle.cqlp_encode.proofs.value_writing.write_value.Goals as goal

pub returns-then-taken-len-clause-writes : goal.returns-then-taken-len-clause-writes
returns-then-taken-len-clause-writes g c =
    let v = c.args.value.now in
    let fits : fits_type v (option_map (λ t. t.now) c.args.of) ≡ true = sym (rw c.in-Some.is at c.fitting_size.ensures.fits) in
    let counted : c.in-Some.size ≡ min (values_size (value_of v)) (2 ^ 64 - 1) = rw c.in-Some.is at c.fitting_size.ensures.size in
    let range = rw c.in-Some.is at c.fitting_size.ensures.range in
    let short : values_size (value_of v) ≤ LONGEST_BODY = omega (arith, counted, c.from.ensures, c.if-size-from.false) in
    let can = can_be_written v (option_map (λ t. t.now) c.args.of) fits range short in
    (can, omega (arith, counted, short, c.if-taken-len.true), anew _ _ _ _ c.offer_value-taken.ensures.continued)

pub returns-else-taken-len-clause-writes : goal.returns-else-taken-len-clause-writes
returns-else-taken-len-clause-writes g c =
    let v = c.args.value.now in
    let fits : fits_type v (option_map (λ t. t.now) c.args.of) ≡ true = sym (rw c.in-Some.is at c.fitting_size.ensures.fits) in
    let counted : c.in-Some.size ≡ min (values_size (value_of v)) (2 ^ 64 - 1) = rw c.in-Some.is at c.fitting_size.ensures.size in
    let range = rw c.in-Some.is at c.fitting_size.ensures.range in
    let short : values_size (value_of v) ≤ LONGEST_BODY = omega (arith, counted, c.from.ensures, c.if-size-from.false) in
    let can = can_be_written v (option_map (λ t. t.now) c.args.of) fits range short in
    let size : c.in-Some.size ≡ values_size (value_of v) = omega (arith, counted, short) in
    let all : c.offer_value-taken.result ≡ c.in-Some.size = omega (arith, c.offer_value-taken.ensures.continued.bound, can.long, size, c.if-taken-len.false) in
    (can, size, subst (λ (n : ℕ). Offered (written g.W.Target c.args.target.now) (values_bytes (value_of v)) n (written g.W.Target c.offer_value-taken.new.target)) all (anew _ _ _ _ c.offer_value-taken.ensures.continued))

pub returns-then-taken-len-clause-calls : goal.returns-then-taken-len-clause-calls
returns-then-taken-len-clause-calls g c = from_none _ _ _ c.offer_value-taken.ensures.calls

pub returns-else-taken-len-clause-calls : goal.returns-else-taken-len-clause-calls
returns-else-taken-len-clause-calls g c =
    let v = c.args.value.now in
    let fits : fits_type v (option_map (λ t. t.now) c.args.of) ≡ true = sym (rw c.in-Some.is at c.fitting_size.ensures.fits) in
    let counted : c.in-Some.size ≡ min (values_size (value_of v)) (2 ^ 64 - 1) = rw c.in-Some.is at c.fitting_size.ensures.size in
    let range = rw c.in-Some.is at c.fitting_size.ensures.range in
    let short : values_size (value_of v) ≤ LONGEST_BODY = omega (arith, counted, c.from.ensures, c.if-size-from.false) in
    let can = can_be_written v (option_map (λ t. t.now) c.args.of) fits range short in
    let size : c.in-Some.size ≡ values_size (value_of v) = omega (arith, counted, short) in
    let all : c.offer_value-taken.result ≡ c.in-Some.size = omega (arith, c.offer_value-taken.ensures.continued.bound, can.long, size, c.if-taken-len.false) in
    as_many _ _ _ _ all (from_none _ _ _ c.offer_value-taken.ensures.calls)
