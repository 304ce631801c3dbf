use Rattle.std.proofs.Common.{ap, subst, ◌∙◌, ◌≡◌, ℕ, nat_lt, length, rules, w16, SFits}
use Rattle.std.proofs.lemmas.Int.{to_z-of_z}
use Rattle.cqlp_observer.specs.declared.message.Message.{Message}
use Rattle.cqlp_observer.specs.Keeping.{Kept}
use Rattle.cqlp_observer.specs.Messages.{id_of}
use Rattle.cqlp_observer.specs.Pairings.{IsPlaced}
use Rattle.cqlp_observer.specs.Watches.{Watched, bare_if, fitting, has_room, watched}
use Rattle.cqlp_observer.proofs.Settled.{paired_settled, placed_settled}
use Rattle.cqlp_observer.proofs.watch.Watch.pair_one.Goals as goal

pub returns : goal.returns
returns g c =
    let hr = nat_lt c.len.result c.args.room.messages in
    let same : hr ≡ has_room c.args.room c.args.self.now =
    ap (λ (n : ℕ). nat_lt n c.args.room.messages) (c.len.ensures.is ∙ ap (λ (v : Watched). length v.waiting) c.self.view_is) in
    let i = c.self-2.inside in
    let w = watched i.requests i.responses i.pairing i.text i.missed in
    let settles =
    ap (λ (m : Message Kept). fitting m w) c.bare_if.ensures ∙ ap (λ (v : Watched). fitting (bare_if c.in_ok-is_bare.is_bare c.args.message) v) c.self-2.view_is
    ∙ c.in_ok-is_bare.ensures in
    paired_settled c.take_at.result c.take_at.new.reported c.take_at.new.self hr (has_room c.args.room c.args.self.now) c.args.message c.bare_if.result c.args.room c.args.self.now w same settles c.take_at.ensures

pub take_at-requires : goal.take_at-requires
take_at-requires g c =
    let fits : SFits w16 c.stream.result = search rules in
    let placed = rw (to_z-of_z w16 c.stream.result fits, c.stream.ensures) at c.place-place.ensures in
    let known = subst (λ (v : Watched). IsPlaced (id_of c.args.message) v.waiting c.place-place.result) c.self.view_is placed in
    let i = c.self-2.inside in
    let w = watched i.requests i.responses i.pairing i.text i.missed in
    let settles =
    ap (λ (m : Message Kept). fitting m w) c.bare_if.ensures ∙ ap (λ (v : Watched). fitting (bare_if c.in_ok-is_bare.is_bare c.args.message) v) c.self-2.view_is
    ∙ c.in_ok-is_bare.ensures in
    let held = placed_settled c.args.message c.bare_if.result (nat_lt c.len.result c.args.room.messages) c.args.room c.args.self.now w c.place-place.result settles known in
    record { placed = held; none = c.requires }
