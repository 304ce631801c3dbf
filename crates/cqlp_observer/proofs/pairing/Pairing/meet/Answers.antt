use Rattle.std.proofs.Common.{ap, sym, subst, ◌∙◌, ◌≡◌, true, false, List, Option, Some}
use Rattle.std.specs.Prelude.{slice_set}
use Rattle.std.proofs.lemmas.List.{get_or_default}
use Rattle.cqlp_observer.specs.declared.message.Message.{Message}
use Rattle.cqlp_observer.specs.declared.paired.Paired.{Paired}
use Rattle.cqlp_observer.specs.Messages.{id_of, meets}
use Rattle.cqlp_observer.specs.Pairings.{IsPlace, Waiting, alone, by_id, exchange, paired, under, with_message, without}
use Rattle.cqlp_observer.proofs.Places.{IsOrdered, instead_of_place, ordered_remove, ordered_set, under_place, without_place}
use Rattle.cqlp_observer.proofs.Takes.{met_apart, met_together}
use Rattle.cqlp_observer.proofs.pairing.Pairing.meet.Goals as goal

pub invariant_of-self-then-meets : goal.invariant_of-self-then-meets
invariant_of-self-then-meets g c =
    let xs = c.self.inside.waiting.items in
    let p : IsPlace (id_of c.args.second) xs c.args.at = (c.requires xs (sym c.self.view_is)).0 in
    subst (λ (ys : List (Message g.row.T.Denot)). IsOrdered ys) (sym c.in-Some.ensures.items) (ordered_remove xs (id_of c.args.second) c.args.at c.self.invariant p)

pub invariant_of-self-else-meets : goal.invariant_of-self-else-meets
invariant_of-self-else-meets g c =
    let xs = c.self.inside.waiting.items in
    let m = c.new.result in
    let p : IsPlace (id_of c.args.second) xs c.args.at = (c.requires xs (sym c.self.view_is)).0 in
    let own : IsPlace (id_of m) xs c.args.at = subst (λ (x : Message g.row.T.Denot). IsPlace (id_of x) xs c.args.at) (sym c.new.ensures) p in
    subst (λ (x : Message g.row.T.Denot). IsOrdered (slice_set xs c.args.at x)) (sym c.replace-first.ensures.after) (ordered_set xs c.args.at m c.self.invariant own)

pub returns-in-Some : goal.returns-in-Some
returns-in-Some g c has_room =
    let xs = c.self.inside.waiting.items in
    let p : IsPlace (id_of c.args.second) xs c.args.at = (c.requires xs (sym c.self.view_is)).0 in
    let first = c.in-Some.first in
    let at : c.index.result.now ≡ first = c.index.ensures ∙ get_or_default xs c.args.at c.index.result.now first p.within ∙ sym c.in-Some.ensures.value in
    let meet : meets first c.args.second ≡ true = ap (λ (x : Message g.row.T.Denot). meets x c.args.second) (sym at) ∙ sym c.meets.ensures ∙ c.if-meets.true in
    let some : under (id_of c.args.second) c.args.self.now ≡ Some first =
    ap (λ (w : Waiting g.row.T.Denot). under (id_of c.args.second) w) (sym c.self.view_is) ∙ under_place xs (id_of c.args.second) c.args.at first c.self.invariant p c.in-Some.ensures.value in
    let others =
    c.shrink.ensures ∙ ap (λ (ys : List (Message g.row.T.Denot)). by_id ys) c.in-Some.ensures.items
    ∙ without_place xs (id_of c.args.second) c.args.at c.self.invariant p ∙ ap (λ (w : Waiting g.row.T.Denot). without (id_of c.args.second) w) c.self.view_is in
    let both = c.report_exchange.ensures ∙ ap (λ (x : Message g.row.T.Denot). Some (exchange x c.args.second)) c.into_message.ensures in
    ap (λ (t : Option (Paired g.row.T.Denot)). paired t c.shrink.new.self) both ∙ ap (λ (w : Waiting g.row.T.Denot). paired (Some (exchange first c.args.second)) w) others
    ∙ sym (met_together c.args.second first has_room c.args.self.now some meet)

pub returns-else-meets : goal.returns-else-meets
returns-else-meets g c has_room =
    let xs = c.self.inside.waiting.items in
    let p : IsPlace (id_of c.args.second) xs c.args.at = (c.requires xs (sym c.self.view_is)).0 in
    let first = c.index_mut.result.now in
    let at : c.index.result.now ≡ first = c.index.ensures ∙ get_or_default xs c.args.at c.index.result.now first p.within ∙ sym c.index_mut.ensures.value in
    let apart : meets first c.args.second ≡ false = ap (λ (x : Message g.row.T.Denot). meets x c.args.second) (sym at) ∙ sym c.meets.ensures ∙ c.if-meets.false in
    let some : under (id_of c.args.second) c.args.self.now ≡ Some first =
    ap (λ (w : Waiting g.row.T.Denot). under (id_of c.args.second) w) (sym c.self.view_is) ∙ under_place xs (id_of c.args.second) c.args.at first c.self.invariant p c.index_mut.ensures.value in
    let new = c.replace-first.ensures.after ∙ c.new.ensures in
    let waits =
    ap (λ (x : Message g.row.T.Denot). by_id (slice_set xs c.args.at x)) new ∙ instead_of_place xs c.args.at c.args.second c.self.invariant p
    ∙ ap (λ (w : Waiting g.row.T.Denot). with_message c.args.second (without (id_of c.args.second) w)) c.self.view_is in
    let one = c.report_alone.ensures ∙ ap (λ (x : Message g.row.T.Denot). Some (alone x)) (c.into_message-else-meets.ensures ∙ c.replace-first.ensures.value) in
    ap (λ (t : Option (Paired g.row.T.Denot)). paired t (by_id (slice_set xs c.args.at c.replace-first.new.dest))) one
    ∙ ap (λ (w : Waiting g.row.T.Denot). paired (Some (alone first)) w) waits
    ∙ sym (met_apart c.args.second first has_room c.args.self.now some apart)
