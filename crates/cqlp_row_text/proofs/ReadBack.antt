-- A reader of CSV reads the text of a field back.
use Rattle.std.proofs.Common.{◌≡◌, ℕ, ◌==◌, ◌||◌, Bool, true, false, if◌then◌else◌, List, [], ◌∷◌, ◌++◌, Some, refl, ap, ◌∙◌, append_assoc, arith}
use Rattle.std.proofs.lemmas.Bool.Decides.{nat_tests}
use Rattle.cqlp_row_text.specs.Quotes.{doubled, is_mark}
use Rattle.cqlp_row_text.specs.Reading.{after, begins_with_quote, read_field}

end_read : (rest : List ℕ) → begins_with_quote rest ≡ false → read_field (34 ∷ rest) ≡ Some ([], rest)
end_read [] other = refl
end_read (y ∷ rest) other = rw other refl

-- a byte that is no quote, before what is not empty
plain_read : (x y : ℕ) (more : List ℕ) → (x == 34) ≡ false → read_field (x ∷ y ∷ more) ≡ after (x ∷ []) (read_field (y ∷ more))
plain_read x y more other = rw other refl

-- what comes after a byte is never empty
step : (x : ℕ) (later : List ℕ) (text rest : List ℕ) (d : Bool) → (x == 34) ≡ d → read_field later ≡ Some (text, rest) → read_field ((if d || d then x ∷ x ∷ [] else x ∷ []) ++ later) ≡ Some (x ∷ text, rest)
step x later text rest true e more =
    let same : x ≡ 34 = grind (arith, nat_tests) in
    rw same (ap (after (34 ∷ [])) more)
step x [] text rest false e more = cc
step x (y ∷ later) text rest false e more = plain_read x y later e ∙ ap (after (x ∷ [])) more

pub reads_back : (text rest : List ℕ) → begins_with_quote rest ≡ false → read_field (doubled 34 34 text ++ 34 ∷ rest) ≡ Some (text, rest)
reads_back [] rest other = end_read rest other
reads_back (x ∷ text) rest other =
    ap read_field (append_assoc (if is_mark 34 34 x then x ∷ x ∷ [] else x ∷ []) (doubled 34 34 text) (34 ∷ rest))
    ∙ step x (doubled 34 34 text ++ 34 ∷ rest) text rest (x == 34) refl (reads_back text rest other)
