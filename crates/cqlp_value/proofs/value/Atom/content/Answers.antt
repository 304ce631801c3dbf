use Rattle.std.specs.Prelude.{string_bytes}
use Rattle.std.specs.Str.{IsUtf8}
use Rattle.cqlp_value.proofs.ScalarFits.{text_in_range}
use Rattle.cqlp_value.proofs.value.Atom.content.Goals as goal

pub returns-in-Ascii-clause-range : goal.returns-in-Ascii-clause-range
returns-in-Ascii-clause-range c =
    let text : IsUtf8 (string_bytes c.in-Ascii.text) = rw c.as_str.ensures.value at c.as_str.utf8 in
    text_in_range c.args.self.now c.in-Ascii.text c.in-Ascii.is text
