-- Bytes that are appended, some after others.
use Rattle.std.proofs.Common.{◌≡◌, ℕ, ◌+◌, ◌<◌, ◌≤◌, get_or, List, [], ◌∷◌, ◌++◌, length, take, Result, Ok, Err, sym, ap, ◌∙◌, append_assoc, append-nil}
use Rattle.std.proofs.lemmas.List.{take_more, take_all}
use Rattle.std.proofs.lemmas.Grind.{flat_map-append}
use Rattle.std.specs.List.{flat_map}
use Rattle.cqlp_note.specs.declared.refusal.NoMemory.{NoMemory}
use Rattle.cqlp_type_tables.specs.Writing.{Appends}

pub then : (old mid new x y : List ℕ) → mid ≡ old ++ x → new ≡ mid ++ y → new ≡ old ++ (x ++ y)
then old mid new x y a b = b ∙ ap (λ z. z ++ y) a ∙ append_assoc old x y

-- the same of what is appended last, if memory is granted
pub last : (old mid new x y : List ℕ) (r : Result Unit NoMemory) → mid ≡ old ++ x → Appends mid y r new → Appends old (x ++ y) r new
last old mid new x y (Ok u) a b = then old mid new x y a b
last old mid new x y (Err e) a b = b

module _ {X : Type 0} (bytes : X → List ℕ) where
  -- one item more
  pub item : (xs : List X) (i : ℕ) (x : X) (old mid new : List ℕ) → x ≡ get_or xs i x → i < length xs → mid ≡ old ++ flat_map bytes (take i xs) → new ≡ mid ++ bytes x → new ≡ old ++ flat_map bytes (take (i + 1) xs)
  item xs i x old mid new e l s t =
      let more : take (i + 1) xs ≡ take i xs ++ x ∷ [] = take_more xs i x l ∙ ap (λ (y : X). take i xs ++ y ∷ []) (sym e) in
      let one : flat_map bytes (x ∷ []) ≡ bytes x = append-nil (bytes x) in
      rw (more, flat_map-append, one) (then old mid new (flat_map bytes (take i xs)) (bytes x) s t)

  pub all : (xs : List X) (i : ℕ) (old new : List ℕ) → length xs ≤ i → new ≡ old ++ flat_map bytes (take i xs) → new ≡ old ++ flat_map bytes xs
  all xs i old new l s = rw take_all at s
