-- Texts in parts.
use Rattle.std.proofs.Common.{◌≡◌, ℕ, List, [], ◌∷◌, ◌++◌, map, codes, decimal, suc, ◌+◌, Bool, true, false, cond, if◌then◌else◌, ◌<◌, ◌≤◌, ◌-◌, length, take, drop, slice_index, refl, sym, ap, ◌∙◌, append-nil, append_assoc, arith}
use Rattle.std.proofs.lemmas.List.{take-append-drop}
use Rattle.cqlp_text.specs.declared.word.Word.{Word}
use Rattle.cqlp_text.specs.Lines.{spaced}
use Rattle.cqlp_text.specs.Words.{word_text}
use Rattle.std.proofs.Math.Seq.{drop-cons}
use Rattle.std.proofs.Common.{get_or, add-one}
use Rattle.std.proofs.lemmas.Grind.{common_steps}
use Rattle.std.specs.List.{join_with_byte, flat_map, prefix_len}
use Rattle.hex.specs.Hex.{encode_lower, encode_with}
use Rattle.cqlp_text.specs.Text.{pairs, is_plain, escaped, printed, in_one_line}

-- the bytes two by two, as four digits after a colon
abbrev pub colon_groups : List ℕ → List ℕ
colon_groups (a ∷ b ∷ rest) = codes ":" ++ encode_lower (a ∷ b ∷ []) ++ colon_groups rest
colon_groups _ = []

-- the numbers, each after a dot
abbrev pub dotted : List ℕ → List ℕ
dotted [] = []
dotted (b ∷ rest) = codes "." ++ decimal b ++ dotted rest

four_decimals : (first : ℕ) (rest : List ℕ) → join_with_byte 46 (map decimal (first ∷ rest)) ≡ decimal first ++ dotted rest
four_decimals first [] = sym (append-nil (decimal first))
four_decimals first (b ∷ rest) = ap (λ t. decimal first ++ 46 ∷ t) (four_decimals b rest)

-- what is after the first n of some bytes
all_after : (xs : List ℕ) (n : ℕ) → n ≡ length xs → take n xs ≡ xs
all_after xs n all = grind (arith, common_steps)

pub dotted_text : (bytes : List ℕ) (k n : ℕ) → length bytes ≡ k + 1 → n ≡ slice_index bytes 0 → join_with_byte 46 (map decimal bytes) ≡ decimal n ++ dotted (take k (drop 1 bytes))
dotted_text [] k n some first = absurd (omega arith)
dotted_text (b ∷ rest) k n some first = rw first (four_decimals b rest ∙ ap (λ t. decimal b ++ dotted t) (sym (all_after rest k (omega arith))))

pub dotted_rest : (bytes : List ℕ) (n : ℕ) → 0 < length bytes → n ≡ slice_index bytes 0 → dotted bytes ≡ codes "." ++ (decimal n ++ dotted (take (length bytes - 1) (drop 1 bytes)))
dotted_rest [] n some first = absurd (omega arith)
dotted_rest (b ∷ rest) n some first = rw first (ap (λ t. 46 ∷ (decimal b ++ dotted t)) (sym (all_after rest (length (b ∷ rest) - 1) (omega arith))))

groups_in_a_row : (a b : ℕ) (rest : List ℕ) → join_with_byte 58 (map encode_lower (pairs (a ∷ b ∷ rest))) ≡ encode_lower (a ∷ b ∷ []) ++ colon_groups rest
groups_in_a_row a b [] = sym (append-nil (encode_lower (a ∷ b ∷ [])))
groups_in_a_row a b (c ∷ []) = sym (append-nil (encode_lower (a ∷ b ∷ [])))
groups_in_a_row a b (c ∷ d ∷ rest) = ap (λ t. encode_lower (a ∷ b ∷ []) ++ 58 ∷ t) (groups_in_a_row c d rest)

pub colons_text : (bytes : List ℕ) (k : ℕ) → length bytes ≡ k + 2 → join_with_byte 58 (map encode_lower (pairs bytes)) ≡ encode_lower (take 2 bytes) ++ colon_groups (take k (drop 2 bytes))
colons_text [] k some = absurd (omega arith)
colons_text (a ∷ []) k some = absurd (omega arith)
colons_text (a ∷ b ∷ rest) k some = groups_in_a_row a b rest ∙ ap (λ t. encode_lower (a ∷ b ∷ []) ++ colon_groups t) (sym (all_after rest k (omega arith)))

pub colons_rest : (bytes : List ℕ) → 2 ≤ length bytes → colon_groups bytes ≡ codes ":" ++ (encode_lower (slice_index bytes 0 ∷ slice_index bytes 1 ∷ []) ++ colon_groups (take (length bytes - 2) (drop 2 bytes)))
colons_rest [] some = absurd (omega arith)
colons_rest (a ∷ []) some = absurd (omega arith)
colons_rest (a ∷ b ∷ rest) some = ap (λ t. 58 ∷ (encode_lower (a ∷ b ∷ []) ++ colon_groups t)) (sym (all_after rest (length (a ∷ b ∷ rest) - 2) (omega arith)))

-- no groups are left where fewer than two bytes are
pub colons_none : (bytes : List ℕ) → length bytes < 2 → colon_groups bytes ≡ []
colons_none [] none = refl
colons_none (a ∷ []) none = refl
colons_none (a ∷ b ∷ rest) none = absurd (omega arith)

pub encode_lower-append : (xs ys : List ℕ) → encode_lower (xs ++ ys) ≡ encode_lower xs ++ encode_lower ys
unfolding encode_with
encode_lower-append [] ys = refl
encode_lower-append (x ∷ xs) ys = ap (λ t. encode_lower (x ∷ []) ++ t) (encode_lower-append xs ys)

-- the digits of the first 64 bytes, and of those behind them
pub hex_block : (rest out block behind : List ℕ) → out ≡ encode_lower block → block ≡ take 64 rest → behind ≡ drop 64 rest → encode_lower rest ≡ out ++ encode_lower behind
hex_block rest out block behind same front left =
    ap encode_lower (sym (take-append-drop 64 rest)) ∙ encode_lower-append (take 64 rest) (drop 64 rest)
    ∙ ap (λ t. t ++ encode_lower (drop 64 rest)) (ap encode_lower (sym front) ∙ sym same) ∙ ap (λ t. out ++ encode_lower t) (sym left)

-- ---- plain bytes

-- how many bytes come before the first that needs an escape
abbrev plain_count : List ℕ → ℕ
plain_count [] = 0
plain_count (b ∷ xs) = if is_plain b then suc (plain_count xs) else 0

count_by : (d : Bool) (p k : ℕ) → p ≡ k → cond d (1 + p) 0 ≡ (if d then suc k else 0)
count_by true p k same = omega arith
count_by false p k same = refl

prefix_is_count : (xs : List ℕ) → prefix_len is_plain xs ≡ plain_count xs
prefix_is_count [] = refl
prefix_is_count (b ∷ xs) = count_by (is_plain b) _ _ (prefix_is_count xs)

plain_step : (b : ℕ) (xs : List ℕ) (k : ℕ) (d : Bool) → is_plain b ≡ d → flat_map escaped xs ≡ take k xs ++ flat_map escaped (drop k xs) → escaped b ++ flat_map escaped xs ≡ take (if d then suc k else 0) (b ∷ xs) ++ flat_map escaped (drop (if d then suc k else 0) (b ∷ xs))
plain_step b xs k true plain later =
    let itself : escaped b ≡ b ∷ [] = rw plain refl in
    ap (λ t. t ++ flat_map escaped xs) itself ∙ ap (λ t. b ∷ t) later
plain_step b xs k false plain later = refl

plain_prefix : (xs : List ℕ) → flat_map escaped xs ≡ take (plain_count xs) xs ++ flat_map escaped (drop (plain_count xs) xs)
plain_prefix [] = refl
plain_prefix (b ∷ xs) = plain_step b xs (plain_count xs) (is_plain b) refl (plain_prefix xs)

-- the bytes before the first that needs an escape are written as they are
pub plain_front : (xs : List ℕ) (n : ℕ) → n ≡ prefix_len is_plain xs → flat_map escaped xs ≡ take n xs ++ flat_map escaped (take (length xs - n) (drop n xs))
plain_front xs n is_n =
    let count : n ≡ plain_count xs = is_n ∙ prefix_is_count xs in
    let later : take (length xs - n) (drop n xs) ≡ drop n xs = grind (arith, common_steps) in
    plain_prefix xs ∙ ap (λ k. take k xs ++ flat_map escaped (drop k xs)) (sym count) ∙ ap (λ t. take n xs ++ flat_map escaped t) (sym later)

-- ---- words

-- the words of a value's place, and those after them
pub place_words : (name row column level : List ℕ) (more : List (List ℕ)) → name ++ (row ++ spaced (column ∷ level ∷ more)) ≡ (name ++ (row ++ spaced (column ∷ level ∷ []))) ++ spaced more
place_words name row column level more =
    ap (λ t. name ++ (row ++ 32 ∷ (column ++ 32 ∷ (t ++ spaced more)))) (sym (append-nil level))
    ∙ ap (λ t. name ++ (row ++ 32 ∷ t)) (sym (append_assoc column (32 ∷ (level ++ [])) (spaced more)))
    ∙ ap (λ t. name ++ t) (sym (append_assoc row (spaced (column ∷ level ∷ [])) (spaced more)))
    ∙ sym (append_assoc name (row ++ spaced (column ∷ level ∷ [])) (spaced more))

pub words_at : (words : List Word) (i : ℕ) (none : Word) → i < length words → spaced (map word_text (drop i words)) ≡ codes " " ++ (word_text (get_or words i none) ++ spaced (map word_text (drop (i + 1) words)))
words_at words i none within = rw (drop-cons words i none within, add-one)

pub bytes_at : (bytes : List ℕ) (i : ℕ) → i < length bytes → in_one_line (drop i bytes) ≡ printed (slice_index bytes i) ++ in_one_line (drop (i + 1) bytes)
bytes_at bytes i within = rw (drop-cons bytes i 0 within, add-one) refl
