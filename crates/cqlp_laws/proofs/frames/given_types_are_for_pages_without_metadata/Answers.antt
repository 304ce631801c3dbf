use Rattle.cqlp_laws.proofs.Bare.{given_types_are_for_pages_without_metadata}
use Rattle.cqlp_laws.proofs.frames.given_types_are_for_pages_without_metadata.Goals as goal

pub returns : goal.returns
returns c = given_types_are_for_pages_without_metadata
