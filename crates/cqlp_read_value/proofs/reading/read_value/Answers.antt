use Rattle.std.proofs.Common.{◌≡◌, true, sym, ap, ◌∙◌, inl}
use Rattle.cqlp_type.specs.Trees.{are_trees}
use Rattle.cqlp_type.specs.TypeTrees.{tree_of}
use Rattle.cqlp_read_value.specs.Reading.{whole_rules}
use Rattle.cqlp_read_value.proofs.Whole.{typed_value}
use Rattle.cqlp_read_value.proofs.reading.read_value.Goals as goal

pub read_all-requires-then-check_type : goal.read_all-requires-then-check_type
read_all-requires-then-check_type c = inl (sym (ap (λ k. k.formed) c.check_type.ensures) ∙ c.if-check_type.true)

pub returns-then-check_type : goal.returns-then-check_type
returns-then-check_type c =
    let formed : are_trees (tree_of c.in-Some.tree.now) ≡ true = sym (ap (λ k. k.formed) c.check_type.ensures) ∙ c.if-check_type.true in
    rw c.in-Some.is (typed_value (whole_rules c.args.limits.now) c.in-Some.tree.now c.args.bytes.now _ formed c.read_all-then-check_type.ensures)
