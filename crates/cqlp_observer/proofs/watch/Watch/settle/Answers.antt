use Rattle.std.proofs.Common.{ap, sym, ◌∙◌, ◌≡◌, subst}
use Rattle.std.specs.Prelude.{IfOk}
use Rattle.std.specs.Option.{option_copied}
use Rattle.cqlp_observer.specs.Messages.{id_of}
use Rattle.cqlp_observer.specs.Pairings.{IsPlaced}
use Rattle.cqlp_observer.specs.Watches.{Fits, Watched, bare_if, fitted, fitting, settled, watched}
use Rattle.cqlp_observer.proofs.Settled.{settled_meets, settled_overtaken, settled_waits}
use Rattle.cqlp_observer.proofs.watch.Watch.settle.Goals as goal

pub returns-in-Meets : goal.returns-in-Meets
returns-in-Meets g c =
    let placed = subst (λ (v : Watched). IsPlaced (id_of c.args.message.now) v.waiting c.args.place) (sym c.self.view_is) c.requires in
    let found = c.at-first.ensures (id_of c.args.message.now) placed in
    let w = watched c.self.inside.requests c.self.inside.responses c.self.inside.pairing c.self.inside.text c.self.inside.missed in
    settled_meets c.args.message.now c.args.has_room c.args.room w (option_copied c.at-first.result) c.text_in.result c.saturating_sub-beside.result found c.text_in.ensures c.saturating_sub-beside.ensures c.in-Meets.ensures
    ∙ ap (λ (v : Watched). settled c.args.message.now c.args.has_room c.args.room v) c.self.view_is

pub returns-in-Waits : goal.returns-in-Waits
returns-in-Waits g c =
    let placed = subst (λ (v : Watched). IsPlaced (id_of c.args.message.now) v.waiting c.args.place) (sym c.self.view_is) c.requires in
    let found = c.at-first.ensures (id_of c.args.message.now) placed in
    let w = watched c.self.inside.requests c.self.inside.responses c.self.inside.pairing c.self.inside.text c.self.inside.missed in
    let same =
    ap (λ (v : Watched). fitted c.args.message.now c.saturating_sub-beside.result c.args.room v) (sym c.self.view_is)
    ∙ settled_waits c.args.message.now c.args.has_room c.args.room w (option_copied c.at-first.result) c.text_in.result c.saturating_sub-beside.result found c.text_in.ensures c.saturating_sub-beside.ensures c.in-Waits.ensures
    ∙ ap (λ (v : Watched). settled c.args.message.now c.args.has_room c.args.room v) c.self.view_is in
    subst (λ (x : Fits). IfOk c.fit.result (λ is_bare. fitting (bare_if is_bare c.args.message.now) c.fit.new.self ≡ x)) same c.fit.ensures

pub returns-in_ok-count_overtaken-in-IsOvertaken : goal.returns-in_ok-count_overtaken-in-IsOvertaken
returns-in_ok-count_overtaken-in-IsOvertaken g c =
    let placed = subst (λ (v : Watched). IsPlaced (id_of c.args.message.now) v.waiting c.args.place) (sym c.self.view_is) c.requires in
    let found = c.at-first.ensures (id_of c.args.message.now) placed in
    let w = watched c.self.inside.requests c.self.inside.responses c.self.inside.pairing c.self.inside.text c.self.inside.missed in
    rw c.in_ok-count_overtaken-in-IsOvertaken.ensures (settled_overtaken c.args.message.now c.args.has_room c.args.room w (option_copied c.at-first.result) found c.in-IsOvertaken.ensures
    ∙ ap (λ (v : Watched). settled c.args.message.now c.args.has_room c.args.room v) c.self.view_is)
