-- Items of a page that are put into a buffer, with what comes around them.
use Rattle.std.proofs.Common.{◌≡◌, ℕ, zero, suc, ◌+◌, ◌-◌, ◌<◌, ◌≤◌, List, [], ◌∷◌, ◌++◌, length, take, drop, set, codes, Option, Result, refl, sym, ap, subst, ◌∙◌, append_assoc, append-nil, add-one, length-append, arith}
use Rattle.std.proofs.lemmas.Grind.{common_steps}
use Rattle.cqlp_text.specs.declared.gap.Gap.{Gap}
use Rattle.cqlp_text.specs.declared.gap.Gap.TheVariants.{Nothing, Bar, Colon, Comma}
use Rattle.cqlp_text.specs.PageText.{gap_text}
use Rattle.cqlp_grammar.specs.declared.sink.SinkFault.{SinkFault}
use Rattle.cqlp_text.specs.Written.{Written, Receives, Writes}
use Rattle.cqlp_text.proofs.Placed as placed
use Rattle.std.specs.List.{flat_map, prefix_len}
use Rattle.cqlp_text.specs.Text.{between_quotes, escaped, is_plain, quoted}
use Rattle.cqlp_text.proofs.Texts.{plain_front}
use Rattle.cqlp_text.proofs.Writing.{kept}

pub gap_short : (g : Gap) → length (gap_text g) ≤ 3
gap_short Nothing = omega arith
gap_short Bar = omega arith
gap_short Colon = omega arith
gap_short Comma = omega arith

-- the first of four bytes at the front of a room
pub gap_written : (new padded old text : List ℕ) (n k : ℕ) → n ≡ length text → ((rest : List ℕ) → take (length text) (padded ++ rest) ≡ text) → new ≡ padded ++ drop k old → take n new ≡ text
gap_written new padded old text n k long front put = ap (λ m. take m new) long ∙ ap (take (length text)) put ∙ front (drop k old)

set_taken : (xs : List ℕ) (n x : ℕ) → n < length xs → take (suc n) (set xs n x) ≡ take n xs ++ (x ∷ [])
set_taken [] n x lt = absurd (omega arith)
set_taken (a ∷ xs) zero x lt = refl
set_taken (a ∷ xs) (suc n) x lt = ap (λ t. a ∷ t) (set_taken xs n x (omega arith))

-- a byte behind those that are in use
pub one_more : (xs : List ℕ) (n x : ℕ) → n < length xs → take (n + 1) (set xs n x) ≡ take n xs ++ (x ∷ [])
one_more xs n x lt = ap (λ k. take k (set xs n x)) (add-one n) ∙ set_taken xs n x lt

pub item_len : (g t e : List ℕ) (a b r : ℕ) → a ≡ length g → b ≡ length t → r ≡ a + b + length e → r ≡ length (g ++ (t ++ e))
item_len g t e a b r first second all = omega (arith, length-append g (t ++ e), length-append t e)

pub item_written : (one two three g t e : List ℕ) (a b r : ℕ) → b ≡ length t → a + b ≤ length one → take a one ≡ g → two ≡ placed.placed one a b t → take r three ≡ take (a + b) two ++ e → take r three ≡ g ++ (t ++ e)
item_written one two three g t e a b r long fits front put last =
    last ∙ ap (λ x. x ++ e) (placed.kept one two t a b long fits put ∙ ap (λ x. x ++ t) front) ∙ append_assoc g t e

-- a text between two bytes
pub text_written : (one two three four five g q t e : List ℕ) (a n r : ℕ) → 1 ≡ length q → n ≡ length t → a + n + 3 ≤ length one → length two ≡ length one → length three ≡ length one → take a one ≡ g
    → two ≡ placed.placed one a 1 q → three ≡ placed.placed two (a + 1) n t → four ≡ placed.placed three (a + 1 + n) 1 q → take r five ≡ take (a + 1 + n + 1) four ++ e
    → take r five ≡ g ++ ((q ++ (t ++ q)) ++ e)
text_written one two three four five g q t e a n r single long fits same2 same3 front first second third last =
    let s1 : take (a + 1) two ≡ g ++ q = placed.kept one two q a 1 single (omega arith) first ∙ ap (λ x. x ++ q) front in
    let s2 : take (a + 1 + n) three ≡ (g ++ q) ++ t = placed.kept two three t (a + 1) n long (omega arith) second ∙ ap (λ x. x ++ t) s1 in
    let s3 : take (a + 1 + n + 1) four ≡ ((g ++ q) ++ t) ++ q = placed.kept three four q (a + 1 + n) 1 single (omega arith) third ∙ ap (λ x. x ++ q) s2 in
    let parts : ((g ++ q) ++ t) ++ q ≡ g ++ (q ++ (t ++ q)) = append_assoc (g ++ q) t q ∙ append_assoc g q (t ++ q) in
    last ∙ ap (λ x. x ++ e) (s3 ∙ parts) ∙ append_assoc g (q ++ (t ++ q)) e

pub text_len : (g q t e : List ℕ) (a n r : ℕ) → a ≡ length g → 1 ≡ length q → n ≡ length t → r ≡ a + 1 + n + 1 + length e → r ≡ length (g ++ ((q ++ (t ++ q)) ++ e))
text_len g q t e a n r first single long all = omega (arith, length-append g ((q ++ (t ++ q)) ++ e), length-append (q ++ (t ++ q)) e, length-append q (t ++ q), length-append t q)

past : (xs ys : List ℕ) (r : ℕ) → take (length xs + r) (xs ++ ys) ≡ xs ++ take r ys
past [] ys r = let e : 0 + r ≡ r = omega arith in ap (λ k. take k ys) e
past (x ∷ xs) ys r =
    let e : length (x ∷ xs) + r ≡ suc (length xs + r) = omega arith in
    ap (λ k. take k (x ∷ (xs ++ ys))) e ∙ ap (λ t. x ∷ t) (past xs ys r)

taken : (buffer : List ℕ) (at : ℕ) → at ≤ length buffer → length (take at buffer) ≡ at
taken buffer at within = grind (arith, common_steps)

no_tail : (buffer : List ℕ) (at : ℕ) → drop (length buffer - at) (drop at buffer) ≡ []
no_tail buffer at = grind (arith, common_steps)

-- what was written to the bytes of a buffer from at on
pub in_tail : (buffer tail text : List ℕ) (at r : ℕ) → at ≤ length buffer → take r tail ≡ text → take (at + r) (take at buffer ++ (tail ++ drop (length buffer - at) (drop at buffer))) ≡ take at buffer ++ text
in_tail buffer tail text at r within is =
    let none : take at buffer ++ (tail ++ drop (length buffer - at) (drop at buffer)) ≡ take at buffer ++ tail = ap (λ t. take at buffer ++ (tail ++ t)) (no_tail buffer at) ∙ ap (λ t. take at buffer ++ t) (append-nil tail) in
    ap (take (at + r)) none ∙ ap (λ k. take (k + r) (take at buffer ++ tail)) (sym (taken buffer at within)) ∙ past (take at buffer) tail r ∙ ap (λ t. take at buffer ++ t) is

-- what was written to the first of some bytes
pub in_front : (chunk rest text : List ℕ) (r : ℕ) → r ≡ length text → take r chunk ≡ text → take r (chunk ++ rest) ≡ text
in_front chunk rest text r long is = grind (arith, common_steps)

-- a text was put into a buffer, behind what waits there
pub waits_as : (given : Option (List ℕ)) (f : ℕ) (buffer after text : List ℕ) (len n : ℕ) → take (len + n) after ≡ take len buffer ++ text → Receives (record { given = given; failures = f; waiting = take len buffer; lender = 0 }) text (record { given = given; failures = f; waiting = take (len + n) after; lender = 0 })
waits_as given f buffer after text len n same =
    let old : Written = record { given = given; failures = f; waiting = take len buffer; lender = 0 } in
    rw same (kept old text)

-- a text none of whose bytes needs an escape
pub all_plain : (xs : List ℕ) (n : ℕ) → n ≡ prefix_len is_plain xs → length xs ≤ n → flat_map escaped xs ≡ xs
all_plain xs n is_n whole =
    let none : take (length xs - n) (drop n xs) ≡ [] = grind (arith, common_steps) in
    let all : take n xs ≡ xs = grind (arith, common_steps) in
    plain_front xs n is_n ∙ ap (λ t. take n xs ++ flat_map escaped t) none ∙ append-nil (take n xs) ∙ all

pub quoted_plain : (bytes text : List ℕ) → bytes ≡ text → flat_map escaped bytes ≡ bytes → between_quotes bytes ≡ quoted text
quoted_plain bytes text same plain = ap (λ t. codes "\"" ++ (t ++ codes "\"")) (sym plain) ∙ ap (λ t. codes "\"" ++ (flat_map escaped t ++ codes "\"")) same

-- a text with what comes around it, by other names
pub item_of : (a b : Written) (r : Result (Unit {0}) SinkFault) (x y text g e : List ℕ) → x ≡ g → y ≡ e → Writes a (g ++ (text ++ e)) r b → Writes a (x ++ (text ++ y)) r b
item_of a b r x y text g e first last writes =
    subst (λ (s : List ℕ). Writes a (s ++ (text ++ y)) r b) (sym first) (subst (λ (s : List ℕ). Writes a (g ++ (text ++ s)) r b) (sym last) writes)
