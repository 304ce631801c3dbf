use Rattle.std.specs.Str.{IsUtf8}
use Rattle.std.proofs.lemmas.Str.{is_utf8-from_IsUtf8}
use Rattle.cqlp_compose.proofs.scalar.scalar_content.Goals as goal

pub returns-in-Ascii-clause-range : goal.returns-in-Ascii-clause-range
returns-in-Ascii-clause-range c =
    let text : IsUtf8 c.in-Ascii.text.now = rw c.as_bytes.ensures.value at c.as_bytes.ensures.utf8 in
    rw c.in-Ascii.is (is_utf8-from_IsUtf8 _ text)

pub returns-in-Varchar-clause-range : goal.returns-in-Varchar-clause-range
returns-in-Varchar-clause-range c =
    let text : IsUtf8 c.in-Varchar.text.now = rw c.as_bytes-in-Varchar.ensures.value at c.as_bytes-in-Varchar.ensures.utf8 in
    rw c.in-Varchar.is (is_utf8-from_IsUtf8 _ text)
