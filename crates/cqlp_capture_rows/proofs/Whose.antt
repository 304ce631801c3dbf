-- Whose types a page has.
use Rattle.std.proofs.Common.{◌≡◌, ◌≤◌, ℕ, true, List, Option, Some, refl, subst, sym}
use Rattle.std.specs.Str.{bytes_eq}
use Rattle.std.specs.Cmp.Lexicographic.{bytes_decides}
use Rattle.std.proofs.lemmas.Bool.{le-leb}
use Rattle.std.specs.Prelude.{length}
use Rattle.cqlp_kind.specs.declared.node.Node.{Node}
use Rattle.cqlp_capture_prepared.specs.Keeping.{Keeping, prepared, types_of}
use Rattle.cqlp_capture_rows.specs.Others.{prepared_as}
use Rattle.cqlp_capture_rows.specs.Laws.{ElseOfGiven, ElseOfOthers, LatestOfOthers, OwnTypesFirst}

pub own_first : OwnTypesFirst
own_first id r types is = rw is refl

pub else_of_others : ElseOfOthers
else_of_others id r types none is = rw (none, is) refl

pub else_of_given : ElseOfGiven
else_of_given id r none none' = rw (none, none') refl

-- the statement that was prepared last
prepared_last : (id : List ℕ) (k : Keeping) (types : List Node) → length id ≤ 64 → types_of id (prepared id types k) ≡ Some types
prepared_last id k types short =
    let is : bytes_eq id id ≡ true = (bytes_decides id id).1 refl in
    rw (le-leb (length id) 64 short, is) refl

pub latest_of_others : LatestOfOthers
latest_of_others id o types named short =
    subst (λ (n : Option (List ℕ)). types_of id (prepared_as n types o.known) ≡ Some types) (sym named) (prepared_last id o.known types short)
