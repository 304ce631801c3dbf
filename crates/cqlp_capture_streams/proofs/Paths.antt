-- Steps, one after the other.
use Rattle.std.proofs.Common.{List, [], ◌∷◌, ◌++◌, refl, subst}
use Rattle.cqlp_capture_streams.specs.Reportings.{Path}

-- one step more
pub path_more : {S X : Type 0} (Step : S → X → S → Type 0) (s m t : S) (xs : List X) (x : X) → Path Step s xs m → Step m x t → Path Step s (xs ++ x ∷ []) t
path_more Step s m t [] x p q = (t, subst (λ z. Step z x t) p q, refl)
path_more Step s m t (y ∷ ys) x (k, a, p) q = (k, a, path_more Step k m t ys x p q)
