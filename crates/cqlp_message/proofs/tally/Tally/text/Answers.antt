use Rattle.std.proofs.lemmas.Str.{is_utf8-from_IsUtf8}
use Rattle.cqlp_message.proofs.tally.Tally.text.Goals as goal

pub returns-clause-range : goal.returns-clause-range
returns-clause-range c = is_utf8-from_IsUtf8 _ c.utf8.text
