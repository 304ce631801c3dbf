use Rattle.std.proofs.Common.{◌≡◌, ◌++◌, ◌∙◌, List, ap, arith, drop, length, map, subst, sym, take}
use Rattle.std.proofs.lemmas.List.{length-map}
use Rattle.cqlp_columns.specs.Arrays.{Column}
use Rattle.cqlp_columns.specs.Batches.{batch, cleared}
use Rattle.cqlp_columns.specs.Turns.{AreEven, are_light, next_in, turn_to}
use Rattle.cqlp_columns.proofs.Ready.{cleared_ready, written_back}
use Rattle.cqlp_columns.proofs.Taking.{batch_cleared}
use Rattle.cqlp_columns.proofs.Turns.{even_cleared, first_next, kept_first, light_cleared}
use Rattle.cqlp_columns.proofs.columns.Columns.clear.Goals as goal

pub first_turn-self-inside-requires-clause-light : goal.first_turn-self-inside-requires-clause-light
first_turn-self-inside-requires-clause-light g c =
    let inside = c.self.inside in
    let new = c.clear_all.new.columns in
    let back = written_back new inside.columns.items inside.columns.len (omega (arith, c.as_mut_slice.ensures.len, c.clear_all.auto.columns)) in
    let e : new ≡ map cleared inside.columns.items = c.clear_all.ensures ∙ ap (λ (x : List Column). map cleared x) c.as_mut_slice.ensures.value in
    light_cleared inside.limits inside.columns.items ∙ sym (ap (λ (x : List Column). are_light inside.limits x) (c.deref.ensures.value ∙ back ∙ e))

pub first_turn-self-inside-requires-clause-even : goal.first_turn-self-inside-requires-clause-even
first_turn-self-inside-requires-clause-even g c =
    let inside = c.self.inside in
    let new = c.clear_all.new.columns in
    let back = written_back new inside.columns.items inside.columns.len (omega (arith, c.as_mut_slice.ensures.len, c.clear_all.auto.columns)) in
    let e : new ≡ map cleared inside.columns.items = c.clear_all.ensures ∙ ap (λ (x : List Column). map cleared x) c.as_mut_slice.ensures.value in
    subst (λ (x : List Column). AreEven 0 x) (sym (c.deref.ensures.value ∙ back ∙ e)) (even_cleared inside.columns.items)

pub invariant_of-self : goal.invariant_of-self
invariant_of-self g c =
    let inside = c.self.inside in
    let items = inside.columns.items in
    let new = c.clear_all.new.columns in
    let back = written_back new items inside.columns.len (omega (arith, c.as_mut_slice.ensures.len, c.clear_all.auto.columns)) in
    let e : new ≡ map cleared items = c.clear_all.ensures ∙ ap (λ (x : List Column). map cleared x) c.as_mut_slice.ensures.value in
    let due = c.first_turn-self-inside.ensures ∙ ap (λ (x : List Column). turn_to (batch inside.limits x 0)) (c.deref.ensures.value ∙ back ∙ e) in
    let ready = cleared_ready inside.limits items (next_in inside.turn) c.self.invariant.0.ready in
    let kept = (kept_first inside.limits (map cleared items) c.first_turn-self-inside.result ready (even_cleared items) (light_cleared inside.limits items) due).0 in
    rw (back, e) (kept, c.self.invariant.1 ∙ sym (length-map items cleared))

pub returns : goal.returns
returns g c =
    let inside = c.self.inside in
    let items = inside.columns.items in
    let new = c.clear_all.new.columns in
    let back = written_back new items inside.columns.len (omega (arith, c.as_mut_slice.ensures.len, c.clear_all.auto.columns)) in
    let e : new ≡ map cleared items = c.clear_all.ensures ∙ ap (λ (x : List Column). map cleared x) c.as_mut_slice.ensures.value in
    let due = c.first_turn-self-inside.ensures ∙ ap (λ (x : List Column). turn_to (batch inside.limits x 0)) (c.deref.ensures.value ∙ back ∙ e) in
    let left : List Column = take inside.columns.len (new ++ drop (length new) items) in
    let next = first_next inside.limits (map cleared items) c.first_turn-self-inside.result due in
    rw (← c.self.view_is) (λ kinds es h. batch_cleared inside.limits kinds es _ _
    (ap (λ n. batch inside.limits left n) next ∙ ap (λ (x : List Column). batch inside.limits x 0) (back ∙ e)) h)
