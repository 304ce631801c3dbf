-- The open values of a page, and its text in parts.
use Rattle.std.proofs.Common.{◌≡◌, ◌≢◌, ℕ, zero, suc, ◌+◌, ◌-◌, ◌<◌, ◌≤◌, ◌==◌, Bool, true, false, if◌then◌else◌, List, [], ◌∷◌, ◌++◌, length, drop, set, get_or, Some, Result, refl, sym, ap, ◌∙◌, subst, add-one, length-drop, arith}
use Rattle.std.proofs.lemmas.Bool.Decides.{nat_tests}
use Rattle.std.proofs.lemmas.List.{drop-set}
use Rattle.std.proofs.lemmas.Option.{same_Some}
use Rattle.cqlp_grammar.specs.declared.sink.SinkFault.{SinkFault}
use Rattle.cqlp_kind.specs.declared.kind.Kind.{Kind}
use Rattle.cqlp_text.specs.declared.page_text.WrittenValue.{WrittenValue}
use Rattle.cqlp_text.specs.declared.page_text.Turn.TheVariants.{First}
use Rattle.cqlp_text.specs.PageText.{PagePlace, after, closing, end_part, innermost, turn_after, with_item, with_open, without_open}
use Rattle.cqlp_text.specs.Written.{Written, Writes}
use Rattle.cqlp_text.proofs.Writing.{Progress, progress_writes}

-- the place with these open values
abbrev pub placed : Bool → (columns column : ℕ) → List WrittenValue → PagePlace
placed is_page columns column os = record { is_page = is_page; columns = columns; column = column; open_values = os }

next : (n : ℕ) (xs : List WrittenValue) → drop (suc n) xs ≡ without_open (drop n xs)
next zero [] = refl
next zero (x ∷ xs) = refl
next (suc n) [] = refl
next (suc n) (x ∷ xs) = next n xs

pub drop_next : (n : ℕ) (xs : List WrittenValue) → drop (n + 1) xs ≡ without_open (drop n xs)
drop_next n xs = ap (λ k. drop k xs) (add-one n) ∙ next n xs

-- nothing comes after an item
pub after_item : (columns column n : ℕ) (xs : List WrittenValue) → n < length xs → after columns column (drop n xs) ≡ []
after_item columns column n [] lt = absurd (omega arith)
after_item columns column zero (x ∷ xs) lt = refl
after_item columns column (suc n) (x ∷ xs) lt = after_item columns column n xs (omega arith)

pub item_counted : (n : ℕ) (xs : List WrittenValue) (d o : WrittenValue) → n < length xs
    → o ≡ record (get_or xs n d) { turn = turn_after (get_or xs n d).kind (get_or xs n d).turn } → drop n (set xs n o) ≡ with_item (drop n xs)
item_counted n [] d o lt e = absurd (omega arith)
item_counted zero (x ∷ xs) d o lt e = ap (λ (v : WrittenValue). v ∷ xs) e
item_counted (suc n) (x ∷ xs) d o lt e = item_counted n xs d o (omega arith) e

pub pushed : (n : ℕ) (xs : List WrittenValue) (k : Kind) → n ≢ 0 → n ≤ 64 → length xs ≡ 64 → drop (n - 1) (set xs (n - 1) (record { kind = k; turn = First })) ≡ with_open k (drop n xs)
pushed n xs k some within long =
    let free : (length (drop n xs) == 64) ≡ false = simp length-drop (grind (arith, nat_tests)) in
    let end : (n - 1) + 1 ≡ n = omega arith in
    let o : WrittenValue = record { kind = k; turn = First } in
    drop-set xs (n - 1) o (omega arith) ∙ ap (λ m. o ∷ drop m xs) end ∙ ap (λ (b : Bool). if b then drop n xs else o ∷ drop n xs) (sym free)

-- the end of the innermost open value
pub closed : (columns column : ℕ) (os : List WrittenValue) (o : WrittenValue) → Some o ≡ innermost os → end_part columns column os ≡ closing o.kind ++ after columns column (without_open os)
closed columns column [] o e = cc
closed columns column (x ∷ os) o e = ap (λ (p : WrittenValue). closing p.kind ++ after columns column os) (same_Some x o (sym e))

pub content_starts : (offset : ℕ) (text : List ℕ) → offset ≤ 0 → (if offset == 0 then text else []) ≡ text
content_starts zero text le = refl
content_starts (suc n) text le = absurd (omega arith)

pub nothing_shown : (is_page : Bool) (text : List ℕ) → text ≡ [] → (if is_page then text else []) ≡ []
nothing_shown true text e = e
nothing_shown false text e = refl

-- the last part of a text
pub last_part : {a b : Written} (c : Written) {text left x : List ℕ} (r : Result (Unit {0}) SinkFault) → Progress a text left b → left ≡ x → Writes b x r c → Writes a text r c
last_part {a} {b} c {text} {left} {x} r here same writes = progress_writes c r here (subst (λ (t : List ℕ). Writes b t r c) (sym same) writes)
