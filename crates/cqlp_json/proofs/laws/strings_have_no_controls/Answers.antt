use Rattle.cqlp_json.proofs.Shows.{escape_shows}
use Rattle.cqlp_json.proofs.laws.strings_have_no_controls.Goals as goal

pub returns : goal.returns
returns c = escape_shows
