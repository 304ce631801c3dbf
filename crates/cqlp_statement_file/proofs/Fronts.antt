-- The front of a text that is UTF-8.
use Rattle.std.proofs.Common.{◌≡◌, ◌∙◌, ℕ, List, length, take, sym, ap, arith}
use Rattle.std.proofs.lemmas.Grind.{common_steps}
use Rattle.std.proofs.lemmas.Str.{utf8_valid_len-IsUtf8}
use Rattle.std.specs.Str.{IsUtf8}
use Rattle.cqlp_statement_file.specs.Texts.{text_front}

-- a text is its own longest front that is UTF-8
pub front_of_text : (text b : List ℕ) → text ≡ b → IsUtf8 b → text ≡ text_front b
front_of_text text b same is =
    let all : take (length b) b ≡ b = grind (arith, common_steps) in
    same ∙ sym all ∙ ap (λ n. take n b) (sym (utf8_valid_len-IsUtf8 b is))
