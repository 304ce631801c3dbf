use Rattle.std.proofs.Common.{ap, sym, subst, ◌∙◌, ◌<◌, ℕ, Result, IfOk, IfErr, arith}
use Rattle.cqlp_observer.specs.Pairings.{IsGap, IsPlace, Waiting, under}
use Rattle.cqlp_observer.proofs.Places.{got_place, under_gap}
use Rattle.cqlp_observer.proofs.pairing.Pairing.at.Goals as goal

pub returns-in-Ok : goal.returns-in-Ok
returns-in-Ok g c id placed =
    let xs = c.self.inside.waiting.items in
    let p : IsPlace id xs c.in-Ok.at = subst (λ (r : Result ℕ ℕ). IfOk r (IsPlace id xs)) c.in-Ok.is (placed xs (sym c.self.view_is)).0 in
    let lt : c.in-Ok.at < c.self.inside.waiting.len = omega (arith, p.within) in
    got_place xs id c.in-Ok.at c.get.result c.self.invariant p (c.get.ensures.variant.1 lt) c.get.ensures.lookup
    ∙ ap (λ (w : Waiting g.row.T.Denot). under id w) c.self.view_is

pub returns-in-Err : goal.returns-in-Err
returns-in-Err g c id placed =
    let xs = c.self.inside.waiting.items in
    let gap : IsGap id xs c.in-Err.field-0 = subst (λ (r : Result ℕ ℕ). IfErr r (IsGap id xs)) c.in-Err.is (placed xs (sym c.self.view_is)).1 in
    sym (under_gap xs id c.in-Err.field-0 gap) ∙ ap (λ (w : Waiting g.row.T.Denot). under id w) c.self.view_is
