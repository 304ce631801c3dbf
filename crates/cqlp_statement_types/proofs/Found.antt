-- What is found in the entries of a map.
use Rattle.std.proofs.Common.{◌≡◌, ℕ, List, [], ◌∷◌, Some, Vec, Ordering, cond, refl}
use Rattle.std.specs.BTreeMap.{is_at}
use Rattle.std.specs.Cmp.Lexicographic.{slice_cmp}
use Rattle.std.specs.Map.{lookup}
use Rattle.std.specs.Ordering.{nat_cmp}
use Rattle.std.proofs.lemmas.Map.Text.{is_eq-slice_cmp}
use Rattle.cqlp_type.specs.Table.{Table}
use Rattle.cqlp_statement_types.specs.Types.{given_in, table_given}

abbrev pub compare : {A : Type 0} → List ℕ → Vec ℕ A → Ordering
compare id k = slice_cmp nat_cmp id k.items

-- a map finds what the list of its tables has
pub found : {A : Type 0} (es : List (Vec ℕ A × Table)) (id : List ℕ) → lookup (is_at (compare id)) es ≡ table_given (given_in es) id
found [] id = refl
found (e ∷ es) id = λ i. cond (is_eq-slice_cmp id e.0.items i) (Some e.1) (found es id i)
