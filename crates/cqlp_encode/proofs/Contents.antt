-- The bytes of a caller's values.
use Rattle.std.proofs.Common.{◌≡◌, ℕ, ◌+◌, ◌-◌, ◌^◌, ◌<◌, List, [], ◌∷◌, ◌++◌, get_or, length, take, min, refl, sym, ap, subst, ◌∙◌, append_assoc, append-nil, arith}
use Rattle.std.proofs.lemmas.List.{take_more}
use Rattle.std.specs.Int.{w32, to_be_bytes}
use Rattle.cqlp_value.specs.declared.value.Value.{Value, Null, Empty, Leaf, List', Map', Set', Tuple', Udt'}
use Rattle.cqlp_kind.specs.declared.kind.Kind.{Kind}
use Rattle.cqlp_value.specs.Values.{Values, NoValue, Counted_and, Fields_and, values_size, values_bytes}
use Rattle.cqlp_value.specs.Owned.{value_and, value_of}
use Rattle.cqlp_value.specs.Measures.{listed_values, listed_pairs}
use Rattle.cqlp_value.proofs.ValueSizes.{size_next, pair_next}
use Rattle.cqlp_encode.specs.Progress.{Progress, Puts, PutsWithin}
use Rattle.cqlp_encode.specs.Binding.{content_written}
use Rattle.cqlp_encode.proofs.Taking.{puts_nil, puts_then}
use Rattle.cqlp_encode.proofs.Bindings.{content_size, known_bytes}

-- ---- one after the other

and_bytes : (v : Value) (vs : Values) → values_bytes (value_and v vs) ≡ values_bytes (value_of v) ++ values_bytes vs
and_bytes Null vs = refl
and_bytes Empty vs = refl
and_bytes (Leaf a) vs = simp (append_assoc, append-nil)
and_bytes (List' shape items) vs = simp (append_assoc, append-nil)
and_bytes (Map' shape pairs) vs = simp (append_assoc, append-nil)
and_bytes (Set' shape items) vs = simp (append_assoc, append-nil)
and_bytes (Tuple' shape items) vs = simp (append_assoc, append-nil)
and_bytes (Udt' shape items) vs = simp (append_assoc, append-nil)

pub many_bytes : (vs : List Value) (v : Value) → values_bytes (listed_values (vs ++ v ∷ [])) ≡ values_bytes (listed_values vs) ++ values_bytes (value_of v)
many_bytes [] v = and_bytes v (listed_values []) ∙ append-nil (values_bytes (value_of v))
many_bytes (w ∷ vs) v =
    and_bytes w (listed_values (vs ++ v ∷ [])) ∙ ap (λ (t : List ℕ). values_bytes (value_of w) ++ t) (many_bytes vs v) ∙ sym (append_assoc (values_bytes (value_of w)) (values_bytes (listed_values vs)) (values_bytes (value_of v)))
    ∙ ap (λ (t : List ℕ). t ++ values_bytes (value_of v)) (sym (and_bytes w (listed_values vs)))

abbrev pub pair_bytes : Value × Value → List ℕ
pair_bytes x = values_bytes (value_of x.0) ++ values_bytes (value_of x.1)

pair_and_bytes : (x : Value × Value) (vs : Values) → values_bytes (value_and x.0 (value_and x.1 vs)) ≡ pair_bytes x ++ values_bytes vs
pair_and_bytes x vs =
    and_bytes x.0 (value_and x.1 vs) ∙ ap (λ (t : List ℕ). values_bytes (value_of x.0) ++ t) (and_bytes x.1 vs) ∙ sym (append_assoc (values_bytes (value_of x.0)) (values_bytes (value_of x.1)) (values_bytes vs))

pub many_pair_bytes : (xs : List (Value × Value)) (x : Value × Value) → values_bytes (listed_pairs (xs ++ x ∷ [])) ≡ values_bytes (listed_pairs xs) ++ pair_bytes x
many_pair_bytes [] x = pair_and_bytes x (listed_pairs []) ∙ append-nil (pair_bytes x)
many_pair_bytes (y ∷ xs) x =
    pair_and_bytes y (listed_pairs (xs ++ x ∷ [])) ∙ ap (λ (t : List ℕ). pair_bytes y ++ t) (many_pair_bytes xs x) ∙ sym (append_assoc (pair_bytes y) (values_bytes (listed_pairs xs)) (pair_bytes x))
    ∙ ap (λ (t : List ℕ). t ++ pair_bytes x) (sym (pair_and_bytes y (listed_pairs xs)))

-- ---- puts

within_then : (a b c : Progress) (m n : ℕ) (x y : List ℕ) → PutsWithin m a x b → PutsWithin n b y c → PutsWithin (m + n) a (x ++ y) c
within_then a b c m n x y s t = record {
  puts = λ le. puts_then a b c x y (s.puts (omega arith)) (t.puts (omega arith));
  lender = t.lender ∙ s.lender;
}

-- whatever the size
pub whole : (n : ℕ) (x : List ℕ) (a b : Progress) → Puts a x b → PutsWithin n a x b
whole n x a b s = record { puts = λ le. s; lender = s.lender }

pub within_nil : (a : Progress) → PutsWithin 0 a [] a
within_nil a = record { puts = λ le. puts_nil a; lender = refl }

same_put : (m n : ℕ) (x y : List ℕ) (a b : Progress) → n ≡ m → y ≡ x → PutsWithin m a x b → PutsWithin n a y b
same_put m n x y a b size bytes s = rw (size, bytes) s

-- ---- one value

-- a length, and what follows it
pub known_put : (v : Value) (len : ℕ) (a b c : Progress) → (v ≡ Null → ⊥) → 4 + len ≡ min (values_size (value_of v)) (2 ^ 64 - 1)
    → Puts a (to_be_bytes w32 len) b → PutsWithin (values_size (value_of v)) b (content_written (value_of v)) c → PutsWithin (values_size (value_of v)) a (values_bytes (value_of v)) c
known_put v len a b c some long s t = record {
  puts = λ le.
      let all : len ≡ length (content_written (value_of v)) = omega (arith, long, content_size v) in
      rw (known_bytes v some, ← all) (puts_then a b c _ _ s (t.puts le));
  lender = t.lender ∙ s.lender;
}

-- a count, and the values of a collection
pub counted_inside : (w items : Values) (k : Kind) (n : ℕ) (a b c : Progress) → w ≡ Counted_and k n items NoValue
    → Puts a (to_be_bytes w32 n) b → PutsWithin (values_size items) b (values_bytes items) c → PutsWithin (values_size w) a (content_written w) c
counted_inside w items k n a b c is t u = rw is (record { puts = λ le. puts_then a b c _ _ t (u.puts (omega arith)); lender = u.lender ∙ t.lender })

-- the fields of a tuple or a user-defined type
pub fields_inside : (w items : Values) (k : Kind) (a b : Progress) → w ≡ Fields_and k items NoValue → PutsWithin (values_size items) a (values_bytes items) b → PutsWithin (values_size w) a (content_written w) b
fields_inside w items k a b is u = rw is (record { puts = λ le. u.puts (omega arith); lender = u.lender })

-- ---- several values

-- one value more
pub value_put : (vs : List Value) (i : ℕ) (v : Value) (a b c : Progress) → v ≡ get_or vs i v → i < length vs
    → PutsWithin (values_size (listed_values (take i vs))) a (values_bytes (listed_values (take i vs))) b → PutsWithin (values_size (value_of v)) b (values_bytes (value_of v)) c
    → PutsWithin (values_size (listed_values (take (i + 1) vs))) a (values_bytes (listed_values (take (i + 1) vs))) c
value_put vs i v a b c e l s t =
    let more : take (i + 1) vs ≡ take i vs ++ v ∷ [] = take_more vs i v l ∙ ap (λ (y : Value). take i vs ++ y ∷ []) (sym e) in
    same_put _ _ _ _ a c (size_next vs i v e l) (ap (λ (y : List Value). values_bytes (listed_values y)) more ∙ many_bytes (take i vs) v) (within_then a b c _ _ _ _ s t)

pub pair_put : (xs : List (Value × Value)) (i : ℕ) (x : Value × Value) (a b c d : Progress) → x ≡ get_or xs i x → i < length xs
    → PutsWithin (values_size (listed_pairs (take i xs))) a (values_bytes (listed_pairs (take i xs))) b → PutsWithin (values_size (value_of x.0)) b (values_bytes (value_of x.0)) c
    → PutsWithin (values_size (value_of x.1)) c (values_bytes (value_of x.1)) d
    → PutsWithin (values_size (listed_pairs (take (i + 1) xs))) a (values_bytes (listed_pairs (take (i + 1) xs))) d
pair_put xs i x a b c d e l s t u =
    let more : take (i + 1) xs ≡ take i xs ++ x ∷ [] = take_more xs i x l ∙ ap (λ (y : Value × Value). take i xs ++ y ∷ []) (sym e) in
    same_put _ _ _ _ a d (pair_next xs i x e l ∙ omega arith) (ap (λ (y : List (Value × Value)). values_bytes (listed_pairs y)) more ∙ many_pair_bytes (take i xs) x) (within_then a b d _ _ _ _ s (within_then b c d _ _ _ _ t u))

-- a decimal, after its length
pub decimal_put : (count : ℕ) (scale unscaled : List ℕ) (a b c d : Progress) → count ≡ length (scale ++ unscaled) → Puts a (to_be_bytes w32 count) b → Puts b scale c → Puts c unscaled d
    → Puts a (to_be_bytes w32 (length (scale ++ unscaled)) ++ (scale ++ unscaled)) d
decimal_put count scale unscaled a b c d many s t u =
    subst (λ (n : ℕ). Puts a (to_be_bytes w32 n ++ (scale ++ unscaled)) d) many (puts_then a b d _ _ s (puts_then b c d _ _ t u))
