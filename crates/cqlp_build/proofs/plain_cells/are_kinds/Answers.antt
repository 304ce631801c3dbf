use Rattle.std.proofs.Common.{◌≡◌, arith, map, sym, ap, ◌∙◌, vec_len}
use Rattle.std.specs.Prelude.{option_map}
use Rattle.std.proofs.lemmas.Bool.{eqb-true}
use Rattle.std.proofs.lemmas.List.{nil_from_length}
use Rattle.cqlp_message.specs.Bodies.{types_described}
use Rattle.cqlp_message.specs.Owned.{spec_of}
use Rattle.cqlp_build.specs.Plain.{kind_types}
use Rattle.cqlp_build.proofs.Plain.{raw_kinds}
use Rattle.cqlp_build.proofs.plain_cells.are_kinds.Goals as goal

pub returns-in-None : goal.returns-in-None
returns-in-None c = λ t.
    let columns = c.args.meta.now.columns in
    let zero : vec_len c.args.kinds.now ≡ 0 = eqb-true (vec_len c.args.kinds.now) 0 (sym c.is_empty.ensures ∙ t) in
    let none = nil_from_length c.args.kinds.now.items (omega (arith, zero)) in
    ap (λ o. types_described columns (option_map (λ cs. map spec_of cs.items) o)) c.in-None.is ∙ (raw_kinds 0 columns ∙ ap (λ ks. kind_types ks 0 columns) (sym none))
