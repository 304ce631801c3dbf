use Rattle.std.proofs.Common.{ℕ, List, is_some}
use Rattle.cqlp_value.specs.Measures.{fits_tree}
use Rattle.cqlp_value.specs.Owned.{value_of}
use Rattle.cqlp_value.specs.Values.{Values}
use Rattle.cqlp_encode.specs.PagePlaces.{Represents}
use Rattle.cqlp_encode.specs.PageWriting.{After}
use Rattle.cqlp_encode.proofs.PageSteps.{after_adds, conforms, conforms_as}
use Rattle.cqlp_encode.proofs.page_writer.PageWriter.cell.Goals as goal

pub returns-in-Some-clause-adds : goal.returns-in-Some-clause-adds
returns-in-Some-clause-adds g c n cells a =
    let v = value_of c.args.value.now in
    let spec = c.in-Some.spec.now in
    let s : (n : ℕ) (cells : List Values) → After c.args.self.now n cells → Represents c.args.self.now cells (fits_tree c.args.value.now spec.tree) v v =
    rw (← c.self.view_is) (conforms_as _ c.self.inside.column c.self.inside.specs.now c.self.inside.columns spec v c.self.invariant.0 c.self.invariant.1 c.in-Some.ensures.lookup.1 c.in-Some.ensures.lookup.3.0) in
    c.put_as.ensures.adds cells v (s n cells a)

pub returns-in-Some-clause-after : goal.returns-in-Some-clause-after
returns-in-Some-clause-after g c n cells a = after_adds c.args.self.now n cells _ _ _ _ _ a (returns-in-Some-clause-adds g c n cells a)

pub returns-in-None-clause-adds : goal.returns-in-None-clause-adds
returns-in-None-clause-adds g c n cells a =
    let v = value_of c.args.value.now in
    let s : (n : ℕ) (cells : List Values) → After c.args.self.now n cells → Represents c.args.self.now cells (is_some c.column_size-size.result) v v = rw (← c.self.view_is) (conforms _ c.self.inside.column v _ c.self.invariant.0 c.column_size-size.ensures.fits) in
    c.put.ensures.adds cells v (s n cells a)

pub returns-in-None-clause-after : goal.returns-in-None-clause-after
returns-in-None-clause-after g c n cells a = after_adds c.args.self.now n cells _ _ _ _ _ a (returns-in-None-clause-adds g c n cells a)
