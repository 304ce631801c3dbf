-- Texts among scalars.
use Rattle.std.proofs.Common.{◌≡◌, ℕ, ◌<◌, Bool, true, false, List, nat_lt, Some, is_some, sym, ◌∙◌, refl, arith, lt-ltb, ltb-true}
use Rattle.std.specs.Bool.{MatchBool}
use Rattle.std.specs.List.{list_all}
use Rattle.std.specs.Str.{IsAscii, IsNotAscii, IsUtf8, is_utf8}
use Rattle.std.proofs.lemmas.Bool.{false_from_ne_true}
use Rattle.std.proofs.lemmas.List.Elements.{All-weaker}
use Rattle.std.proofs.lemmas.List.Sums.{AllPass-from_list_all, list_all-from_AllPass}
use Rattle.std.proofs.lemmas.Str.{IsUtf8-from_ascii, IsUtf8-from_is_utf8, is_utf8-from_IsUtf8}
use Rattle.std.proofs.lemmas.Str.Ascii.{All-from_ascii, IsAscii-from_all}
use Rattle.cqlp_kind.specs.declared.kind.Kind.{Kind}
use Rattle.cqlp_kind.specs.declared.kind.Kind.TheVariants as kind
use Rattle.cqlp_kind.specs.Types.{has_no_items}
use Rattle.cqlp_kind.specs.Scalars.{ScalarValue, Timeuuid, is_version_1, only_if, scalar_of}

pub only_if_some : (b : Bool) (v : ScalarValue) → is_some (only_if b v) ≡ b
only_if_some true v = refl
only_if_some false v = refl

abbrev is_low : ℕ → Bool
is_low b = nat_lt b 128

ascii_from_test : (c : List ℕ) → list_all is_low c ≡ true → IsAscii c
ascii_from_test c t = IsAscii-from_all c (All-weaker (λ b. is_low b ≡ true) (λ b. b < 128) (λ b e. ltb-true b 128 e) c (AllPass-from_list_all is_low c t))

test_from_ascii : (c : List ℕ) → IsAscii c → list_all is_low c ≡ true
test_from_ascii c a = list_all-from_AllPass is_low c (All-weaker (λ b. b < 128) (λ b. is_low b ≡ true) (λ b h. lt-ltb b 128 h) c (All-from_ascii c a))

ascii_test : (c : List ℕ) (b : Bool) → MatchBool b (IsAscii c) (IsNotAscii c) → b ≡ list_all is_low c
ascii_test c true a = sym (test_from_ascii c a)
ascii_test c false n = sym (false_from_ne_true _ (λ t. omega (arith, ascii_from_test c t n.0, n.1)))

pub ascii_decided : (c : List ℕ) (b : Bool) → MatchBool b (IsAscii c) (IsNotAscii c) → b ≡ is_some (scalar_of kind.Ascii c)
unfolding scalar_of
ascii_decided c b m = ascii_test c b m ∙ sym (only_if_some (list_all is_low c) _)

pub ascii_known : (c : List ℕ) → is_some (scalar_of kind.Ascii c) ≡ true → IsUtf8 c
unfolding scalar_of
ascii_known c t = IsUtf8-from_ascii c (ascii_from_test c (sym (only_if_some (list_all is_low c) _) ∙ t))

pub varchar_decided : (c : List ℕ) → IsUtf8 c → is_some (scalar_of kind.Varchar c) ≡ true
unfolding scalar_of
varchar_decided c u = only_if_some (is_utf8 c) _ ∙ is_utf8-from_IsUtf8 c u

pub varchar_known : (c : List ℕ) → is_some (scalar_of kind.Varchar c) ≡ true → IsUtf8 c
unfolding scalar_of
varchar_known c t = IsUtf8-from_is_utf8 c (sym (only_if_some (is_utf8 c) _) ∙ t)

pub timeuuid_decided : (c : List ℕ) → is_version_1 c ≡ is_some (scalar_of kind.Timeuuid c)
unfolding scalar_of
timeuuid_decided c = sym (only_if_some (is_version_1 c) (Timeuuid c))

-- a scalar of any other kind may be any bytes
pub others_accepted : (k : Kind) (c : List ℕ) → has_no_items k ≡ true → (k ≡ kind.Ascii → ⊥) → (k ≡ kind.Varchar → ⊥) → (k ≡ kind.Time → ⊥) → (k ≡ kind.Timeuuid → ⊥)
    → true ≡ is_some (scalar_of k c)
unfolding scalar_of
others_accepted kind.Ascii c s a v t u = absurd (a refl)
others_accepted kind.Varchar c s a v t u = absurd (v refl)
others_accepted kind.Time c s a v t u = absurd (t refl)
others_accepted kind.Timeuuid c s a v t u = absurd (u refl)
others_accepted kind.List c s a v t u = absurd cc
others_accepted kind.Map c s a v t u = absurd cc
others_accepted kind.Set c s a v t u = absurd cc
others_accepted kind.Udt c s a v t u = absurd cc
others_accepted kind.Tuple c s a v t u = absurd cc
others_accepted k c s a v t u = refl

only_if_known : (b : Bool) (v : ScalarValue) → is_some (only_if b v) ≡ true → only_if b v ≡ Some v
only_if_known true v t = refl
only_if_known false v t = absurd cc

pub timeuuid_known : (c : List ℕ) → is_some (scalar_of kind.Timeuuid c) ≡ true → scalar_of kind.Timeuuid c ≡ Some (Timeuuid c)
unfolding scalar_of
timeuuid_known c t = only_if_known (is_version_1 c) (Timeuuid c) t
