-- The text of a word, wherever its bytes lie.
use Rattle.std.specs.Prelude.{ℕ, List, [], ◌∷◌, decimal}
use Rattle.std.specs.Fmt.{signed_decimal}
use Rattle.hex.specs.Hex.{encode_lower}
use Rattle.uuid.specs.Text.{hyphenated_text, lower}
use Rattle.cqlp_kind.specs.Contents.{value_of}
use Rattle.cqlp_text.specs.declared.word.Word.{Word}
use Rattle.cqlp_text.specs.declared.word.Word.TheVariants as word
use Rattle.cqlp_text.specs.CellText.{cell_text}
use Rattle.cqlp_text.specs.Text.{hex_text, in_one_line, quoted, address_text}

abbrev pub word_text : Word → List ℕ
word_text (word.Name name) = name.now
word_text (word.Foreign text) = in_one_line text.now
word_text (word.Number n) = decimal n
word_text (word.Signed z) = signed_decimal z
word_text (word.Digits byte) = encode_lower (byte ∷ [])
word_text (word.Hex bytes) = hex_text bytes.now
word_text (word.Quoted text) = quoted text.now
word_text (word.Uuid bytes) = hyphenated_text lower bytes
word_text (word.Address a) = address_text a
word_text (word.Cell s) = cell_text (value_of s)
