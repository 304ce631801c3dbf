-- Names of statements.
use Rattle.std.specs.Prelude.{◌≡◌, ℕ, ◌<◌, Bool, true, false, ◌&&◌, nat_le, List, [], length, slice_index_or, take}
use Rattle.std.specs.Hash.DefaultHasher as sip
use Rattle.std.specs.Str.{bytes_eq}

-- the first bytes of a name, and whether they are all of it
pub record Name : Type 0 where
  pub bytes : List ℕ
  pub is_whole : Bool

abbrev pub name : List ℕ → Bool → Name
name bytes is_whole = record { bytes = bytes; is_whole = is_whole }

-- At most 256 bytes are kept.
abbrev pub name_of : List ℕ → (is_whole : Bool) → Name
name_of bytes is_whole = name (take 256 bytes) (is_whole && nat_le (length bytes) 256)

abbrev pub is_equal : Bool → Bool → Bool
is_equal true b = b
is_equal false true = false
is_equal false false = true

abbrev pub is_same : Name → Name → Bool
is_same n known = is_equal known.is_whole n.is_whole && bytes_eq known.bytes n.bytes

-- ---- a hash of the bytes, which is compared before they are

abbrev pub hash_of : List ℕ → ℕ
hash_of bytes = sip.finish (sip.write sip.initial bytes)

-- no name is there twice
abbrev pub AreApart : List Name → Type 0
AreApart names =
    (i j : ℕ) → i < length names → j < length names → slice_index_or names i (name [] true) ≡ slice_index_or names j (name [] true) → i ≡ j
