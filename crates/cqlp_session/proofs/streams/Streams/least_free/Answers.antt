use Rattle.std.proofs.Common.{arith, ap, sym, ◌∙◌, pos, option_map, Some, w16, ◌<◌, length}
use Rattle.std.proofs.lemmas.Int.{to_z_pos}
use Rattle.cqlp_session.specs.Slots.{least_free}
use Rattle.cqlp_session.proofs.Marked.{least_is, none_least}
use Rattle.cqlp_session.proofs.streams.Streams.least_free.Goals as goal

pub returns-in_err-place : goal.returns-in_err-place
returns-in_err-place g c =
    let zeros = rw c.deref.ensures.value at c.in_err-place.ensures.none in
    let none = none_least _ c.self.inside.slots.items c.self.invariant.1 (λ i lt. zeros i (omega (arith, c.self.invariant.1.size))) in
    c.from_residual.ensures ∙ ap (option_map pos) (sym none ∙ ap least_free c.self.view_is)

pub returns-then-place-len : goal.returns-then-place-len
returns-then-place-len g c =
    let first = rw c.deref.ensures.value at c.in_ok-place.ensures.some in
    let within : c.in_ok-place.place < length c.self.inside.slots.items = omega arith in
    let least = least_is _ c.self.inside.slots.items _ c.self.invariant.1 first within in
    ap Some (to_z_pos w16 c.in_ok-place.place (omega arith)) ∙ ap (option_map pos) (sym least ∙ ap least_free c.self.view_is)

pub returns-else-place-len : goal.returns-else-place-len
returns-else-place-len g c =
    let first = rw c.deref.ensures.value at c.in_ok-place.ensures.some in
    let none = none_least _ c.self.inside.slots.items c.self.invariant.1 (λ i lt. first.below i (omega arith)) in
    ap (option_map pos) (sym none ∙ ap least_free c.self.view_is)
