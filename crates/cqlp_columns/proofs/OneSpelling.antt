-- Bytes that spell one number.
use Rattle.std.proofs.Common.{◌≡◌, ◌<◌, ℕ, Bool, List, [], ◌∷◌, length, refl, ap, sym, ◌∙◌, arith}
use Rattle.std.specs.List.{AllByRecursion}
use Rattle.cqlp_columns.specs.Bits.{number_of_bytes, Spells}

same_bytes :
    (front bs : List ℕ) → AllByRecursion (λ b. b < 256) front → AllByRecursion (λ b. b < 256) bs → length front ≡ length bs
    → number_of_bytes front ≡ number_of_bytes bs → front ≡ bs
same_bytes [] [] p q l n = refl
same_bytes [] (b ∷ bs) p q l n = absurd (omega (arith, l))
same_bytes (a ∷ front) [] p q l n = absurd (omega (arith, l))
same_bytes (a ∷ front) (b ∷ bs) p q l n =
    let e : a ≡ b = omega (arith, n, p.0, q.0) in
    let rest : number_of_bytes front ≡ number_of_bytes bs = omega (arith, n, p.0, q.0) in
    let f : front ≡ bs = same_bytes front bs p.1 q.1 (omega (arith, l)) rest in
    ap (λ x. x ∷ front) e ∙ ap (λ x. b ∷ x) f

pub one_spelling :
    (bits : List Bool) (bytes bytes' : List ℕ) → AllByRecursion (λ b. b < 256) bytes → AllByRecursion (λ b. b < 256) bytes'
    → Spells bits bytes → Spells bits bytes' → bytes' ≡ bytes
one_spelling bits bytes bytes' p q s t = same_bytes bytes' bytes q p (t.length ∙ sym s.length) (t.number ∙ sym s.number)
