use Rattle.cqlp_decode.proofs.decoder.Decoder.take_scalars.Goals as goal

pub returns-clause-drains : goal.returns-clause-drains
returns-clause-drains g c = rw (← c.self.view_is) c.take_cells.ensures.drains
