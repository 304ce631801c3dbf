use Rattle.std.proofs.Common.{ap, sym, subst, ◌∙◌, ◌≡◌, ℕ, false, refl, List, None, Result, IfErr}
use Rattle.cqlp_observer.specs.declared.message.Message.{Message}
use Rattle.cqlp_observer.specs.Messages.{id_of, is_event}
use Rattle.cqlp_observer.specs.Pairings.{IsGap, Waiting, by_id, under, with_message}
use Rattle.cqlp_observer.proofs.Places.{IsOrdered, ordered_insert, under_gap, with_gap}
use Rattle.cqlp_observer.proofs.Takes.{taken_gap}
use Rattle.cqlp_observer.proofs.pairing.Pairing.take_at.Goals as goal

pub invariant_of-self-then-has_room : goal.invariant_of-self-then-has_room
invariant_of-self-then-has_room g c =
    let xs = c.self.inside.waiting.items in
    let m = c.new.result in
    let gap : IsGap (id_of c.args.message) xs c.in-Err.at = subst (λ (r : Result ℕ ℕ). IfErr r (IsGap (id_of c.args.message) xs)) c.in-Err.is (c.requires.placed xs (sym c.self.view_is)).1 in
    let own : IsGap (id_of m) xs c.in-Err.at = subst (λ (x : Message g.row.T.Denot). IsGap (id_of x) xs c.in-Err.at) (sym c.new.ensures) gap in
    subst (λ (ys : List (Message g.row.T.Denot)). IsOrdered ys) (sym c.in_ok-insert-in-Err.ensures.items) (ordered_insert xs c.in-Err.at m c.self.invariant own)

pub returns-in_ok-insert-in-Err : goal.returns-in_ok-insert-in-Err
returns-in_ok-insert-in-Err g c =
    let xs = c.self.inside.waiting.items in
    let m = c.new.result in
    let isnt : is_event c.args.message ≡ false = sym c.is_event.ensures ∙ c.if-is_event.false in
    let gap : IsGap (id_of c.args.message) xs c.in-Err.at = subst (λ (r : Result ℕ ℕ). IfErr r (IsGap (id_of c.args.message) xs)) c.in-Err.is (c.requires.placed xs (sym c.self.view_is)).1 in
    let own : IsGap (id_of m) xs c.in-Err.at = subst (λ (x : Message g.row.T.Denot). IsGap (id_of x) xs c.in-Err.at) (sym c.new.ensures) gap in
    let none : under (id_of c.args.message) c.args.self.now ≡ None =
    ap (λ (w : Waiting g.row.T.Denot). under (id_of c.args.message) w) (sym c.self.view_is) ∙ under_gap xs (id_of c.args.message) c.in-Err.at gap in
    let waits =
    ap (λ (ys : List (Message g.row.T.Denot)). by_id ys) c.in_ok-insert-in-Err.ensures.items
    ∙ with_gap xs c.in-Err.at m own ∙ ap (λ (x : Message g.row.T.Denot). with_message x (by_id xs)) c.new.ensures
    ∙ ap (λ (w : Waiting g.row.T.Denot). with_message c.args.message w) c.self.view_is in
    rw (taken_gap c.args.message c.args.has_room c.args.self.now isnt none, c.if-has_room.true, waits, c.requires.none) refl

pub returns-in-Err-2 : goal.returns-in-Err-2
returns-in-Err-2 g c =
    let xs = c.self.inside.waiting.items in
    let isnt : is_event c.args.message ≡ false = sym c.is_event.ensures ∙ c.if-is_event.false in
    let gap : IsGap (id_of c.args.message) xs c.in-Err-2.field-0 = subst (λ (r : Result ℕ ℕ). IfErr r (IsGap (id_of c.args.message) xs)) c.in-Err-2.is (c.requires.placed xs (sym c.self.view_is)).1 in
    let none : under (id_of c.args.message) c.args.self.now ≡ None =
    ap (λ (w : Waiting g.row.T.Denot). under (id_of c.args.message) w) (sym c.self.view_is) ∙ under_gap xs (id_of c.args.message) c.in-Err-2.field-0 gap in
    rw (taken_gap c.args.message c.args.has_room c.args.self.now isnt none, c.if-has_room.false, c.report_alone.ensures) refl
