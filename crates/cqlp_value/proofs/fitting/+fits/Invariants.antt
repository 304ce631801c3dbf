use Rattle.std.proofs.Common.{◌≡◌, drop}
use Rattle.cqlp_value.specs.Measures.{all_fit, all_pairs_fit, all_fields_fit}
use Rattle.cqlp_value.proofs.fitting.+fits.Given as goal

abbrev pub invariant-each_fits-loop-item : goal.invariant-each_fits-loop-item
invariant-each_fits-loop-item l = all_fit l.tree l.items ≡ all_fit l.tree (drop l.item-index l.items)

abbrev pub invariant-each_pair_fits-loop-key : goal.invariant-each_pair_fits-loop-key
invariant-each_pair_fits-loop-key l = all_pairs_fit l.keys l.values l.pairs ≡ all_pairs_fit l.keys l.values (drop l.key-index l.pairs)

abbrev pub invariant-types_fit-loop-i : goal.invariant-types_fit-loop-i
invariant-types_fit-loop-i l = all_fields_fit (λ t. t) l.items l.types ≡ all_fields_fit (λ t. t) (drop l.i l.items) (drop l.i l.types)

abbrev pub invariant-named_fit-loop-i : goal.invariant-named_fit-loop-i
invariant-named_fit-loop-i l = all_fields_fit (λ x. x.1) l.items l.fields ≡ all_fields_fit (λ x. x.1) (drop l.i l.items) (drop l.i l.fields)
