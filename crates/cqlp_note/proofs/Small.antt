-- Bytes below 256: those of a part of them, and the numbers that they are.
use Rattle.std.proofs.Common.{◌≡◌, ℕ, zero, suc, ◌<◌, ◌^◌, List, [], ◌∷◌, ◌++◌, length, take, drop, get_or, refl, ap, ◌∙◌, subst, arith, lit<}
use Rattle.std.specs.List.{All}
use Rattle.std.specs.Int.{w8, w16, w32, w64, from_be_bytes}
use Rattle.std.proofs.lemmas.List.{take_at, drop_at}
use Rattle.std.proofs.lemmas.List.Elements.{All-take, All-drop}

abbrev pub Small : List ℕ → Type 0
Small b = All (λ x. x < 256) b

pub small_front : (b f c : List ℕ) → b ≡ f ++ c → Small b → Small f
small_front b f c e all = subst Small (ap (take (length f)) e ∙ take_at f c (length f) refl) (All-take (λ x. x < 256) (length f) b all)

pub small_back : (b f c : List ℕ) → b ≡ f ++ c → Small b → Small c
small_back b f c e all = subst Small (ap (drop (length f)) e ∙ drop_at f c (length f) refl) (All-drop (λ x. x < 256) (length f) b all)

pub each_byte : (c : List ℕ) → Small c → (i : ℕ) → get_or c i 0 < 256
each_byte [] all i = lit< tt
each_byte (x ∷ c) all zero = all 0 0 (omega arith)
each_byte (x ∷ c) all (suc i) = each_byte c (λ k d lt. all (suc k) d (omega arith)) i

pub number_8 : (c : List ℕ) → Small c → from_be_bytes w8 c < 2 ^ 8
number_8 c all = omega (arith, each_byte c all 0)

pub number_16 : (c : List ℕ) → Small c → from_be_bytes w16 c < 2 ^ 16
number_16 c all = omega (arith, each_byte c all 0, each_byte c all 1)

pub number_32 : (c : List ℕ) → Small c → from_be_bytes w32 c < 2 ^ 32
number_32 c all = omega (arith, each_byte c all 0, each_byte c all 1, each_byte c all 2, each_byte c all 3)

pub number_64 : (c : List ℕ) → Small c → from_be_bytes w64 c < 2 ^ 64
number_64 c all =
    omega (arith, each_byte c all 0, each_byte c all 1, each_byte c all 2, each_byte c all 3, each_byte c all 4, each_byte c all 5, each_byte c all 6, each_byte c all 7)
