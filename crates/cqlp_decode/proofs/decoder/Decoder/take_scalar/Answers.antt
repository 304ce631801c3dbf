use Rattle.cqlp_decode.proofs.decoder.Decoder.take_scalar.Goals as goal

pub invariant_of-self : goal.invariant_of-self
invariant_of-self g c = c.take_scalar.ensures.lawful
