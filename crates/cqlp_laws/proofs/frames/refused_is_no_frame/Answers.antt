use Rattle.cqlp_laws.proofs.NoFrames.{refused_is_no_frame, refused_with_gifts, decoder_refuses_no_frame, decoder_refuses_with_gifts}
use Rattle.cqlp_laws.proofs.frames.refused_is_no_frame.Goals as goal

pub returns-clause-stream : goal.returns-clause-stream
returns-clause-stream c = refused_is_no_frame

pub returns-clause-stream_with_gifts : goal.returns-clause-stream_with_gifts
returns-clause-stream_with_gifts c = refused_with_gifts

pub returns-clause-decoder : goal.returns-clause-decoder
returns-clause-decoder c = decoder_refuses_no_frame

pub returns-clause-decoder_with_gifts : goal.returns-clause-decoder_with_gifts
returns-clause-decoder_with_gifts c = decoder_refuses_with_gifts
