-- The type of one of some items is one of their types.
use Rattle.std.proofs.Common.{◌≡◌, ℕ, ◌<◌, ◌≤◌, get_or, List, length, map, sym, ap, ◌∙◌, arith}
use Rattle.std.proofs.lemmas.List.{length-map, get_or-map}

module _ {X Y : Type 0} (f : X → Y) (xs : List X) (i : ℕ) where
  pub is_there : (x : X) (y : Y) → x ≡ get_or xs i x → i < length xs → y ≡ f x → y ≡ get_or (map f xs) i y
  is_there x y here lt is = is ∙ ap f here ∙ sym (get_or-map f xs i x y lt)

  pub before_end : i < length xs → i < length (map f xs)
  before_end lt = omega (arith, length-map xs f)

  pub at_end : length xs ≤ i → length (map f xs) ≤ i
  at_end le = omega (arith, length-map xs f)
