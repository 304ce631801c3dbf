-- Values that are kept among the bytes that wait.
use Rattle.std.proofs.Common.{◌≡◌, ℕ, ◌+◌, ◌<◌, Bool, true, List, [], ◌∷◌, ◌++◌, get_or, length, take, refl, sym, ap, subst, ◌∙◌, append-nil}
use Rattle.std.proofs.lemmas.List.{take_more}
use Rattle.std.specs.Int.{w32, w64, to_be_bytes}
use Rattle.cqlp_kind.specs.declared.kind.Kind.{Kind}
use Rattle.cqlp_value.specs.declared.value.Value.{Value}
use Rattle.cqlp_value.specs.Values.{Values, NoValue, Counted_and, Fields_and, values_bytes}
use Rattle.cqlp_value.specs.Owned.{value_of}
use Rattle.cqlp_value.specs.Measures.{listed_values, listed_pairs}
use Rattle.cqlp_encode.specs.Progress.{Flushes, Progress, Keeps, Puts, PutsWithin, with_length}
use Rattle.cqlp_encode.proofs.Contents.{many_bytes, many_pair_bytes, whole}
use Rattle.cqlp_encode.proofs.Taking.{flushed_many, keeps, puts_then}
use Rattle.cqlp_encode.proofs.Kept.{kept_then, kept_with_length}

same_kept : (a b : Progress) (whole : Bool) (x y : List ℕ) → x ≡ y → Keeps a whole x b → Keeps a whole y b
same_kept a b whole x y e s = subst (λ (t : List ℕ). Keeps a whole t b) e s

-- ---- one value

-- a list, a set or a map
pub counted_kept : (w items : Values) (k : Kind) (n : ℕ) (a b : Progress) (whole : Bool) → w ≡ Counted_and k n items NoValue
    → Keeps a whole (to_be_bytes w32 (length (to_be_bytes w32 n ++ values_bytes items)) ++ (to_be_bytes w32 n ++ values_bytes items)) b → Keeps a whole (values_bytes w) b
counted_kept w items k n a b whole is s = same_kept a b whole _ _ (sym (ap values_bytes is ∙ append-nil _)) s

-- a tuple or a user-defined value
pub fields_kept : (w items : Values) (k : Kind) (a b : Progress) (whole : Bool) → w ≡ Fields_and k items NoValue
    → Keeps a whole (to_be_bytes w32 (length (values_bytes items)) ++ values_bytes items) b → Keeps a whole (values_bytes w) b
fields_kept w items k a b whole is s = same_kept a b whole _ _ (sym (ap values_bytes is ∙ append-nil _)) s

-- the number of eight bytes leaves room for the length, and has the count after it
pub counted_with_length : (a b c d : Progress) (n start : ℕ) (x : List ℕ) → start ≡ length a.waiting → Keeps a true (to_be_bytes w64 n) b → Keeps b true x c
    → d ≡ record c { waiting = with_length start c.waiting } → Keeps a true (to_be_bytes w32 (length (to_be_bytes w32 n ++ x)) ++ (to_be_bytes w32 n ++ x)) d
counted_with_length a b c d n start x from s t e =
    let both : Keeps a true (to_be_bytes w64 n ++ x) c = kept_then a b c true _ _ s t in
    kept_with_length a c d (take 4 (to_be_bytes w64 n)) (to_be_bytes w32 n ++ x) start from refl both e

pub fields_with_length : (a b c d : Progress) (start : ℕ) (z x : List ℕ) → length z ≡ 4 → start ≡ length a.waiting → Keeps a true z b → Keeps b true x c
    → d ≡ record c { waiting = with_length start c.waiting } → Keeps a true (to_be_bytes w32 (length x) ++ x) d
fields_with_length a b c d start z x four from s t e = kept_with_length a c d z x start from four (kept_then a b c true _ _ s t) e

-- ---- several values

-- one value more
pub value_kept : (vs : List Value) (i : ℕ) (v : Value) (a b c : Progress) → v ≡ get_or vs i v → i < length vs
    → Keeps a true (values_bytes (listed_values (take i vs))) b → Keeps b true (values_bytes (value_of v)) c
    → Keeps a true (values_bytes (listed_values (take (i + 1) vs))) c
value_kept vs i v a b c e l s t =
    let more : take i vs ++ v ∷ [] ≡ take (i + 1) vs = sym (take_more vs i v l ∙ ap (λ (y : Value). take i vs ++ y ∷ []) (sym e)) in
    same_kept a c true _ _ (sym (many_bytes (take i vs) v) ∙ ap (λ (y : List Value). values_bytes (listed_values y)) more) (kept_then a b c true _ _ s t)

pub pair_kept : (xs : List (Value × Value)) (i : ℕ) (x : Value × Value) (a b c d : Progress) → x ≡ get_or xs i x → i < length xs
    → Keeps a true (values_bytes (listed_pairs (take i xs))) b → Keeps b true (values_bytes (value_of x.0)) c → Keeps c true (values_bytes (value_of x.1)) d
    → Keeps a true (values_bytes (listed_pairs (take (i + 1) xs))) d
pair_kept xs i x a b c d e l s t u =
    let more : take i xs ++ x ∷ [] ≡ take (i + 1) xs = sym (take_more xs i x l ∙ ap (λ (y : Value × Value). take i xs ++ y ∷ []) (sym e)) in
    same_kept a d true _ _ (sym (many_pair_bytes (take i xs) x) ∙ ap (λ (y : List (Value × Value)). values_bytes (listed_pairs y)) more)
    (kept_then a b d true _ _ s (kept_then b c d true _ _ t u))

-- ---- as a whole or not at all

pub whole_put : (n : ℕ) (x : List ℕ) (a b : Progress) → b ≡ record a { waiting = a.waiting ++ x } → PutsWithin n a x b
whole_put n x a b e = rw e (whole n x a (record a { waiting = a.waiting ++ x }) (keeps a x))

-- all that waited, which is more than 256 bytes, was passed on first
pub flushed_put : (n : ℕ) (x : List ℕ) (a b c d : Progress) → b ≡ a → 256 < length b.waiting → Flushes b c → PutsWithin n c x d → PutsWithin n a x d
flushed_put n x a b c d same many s t =
    let first : Puts a [] c = rw (← same) (flushed_many b c s many) in
    record { puts = λ le. puts_then a c d [] x first (t.puts le); lender = t.lender ∙ first.lender }
