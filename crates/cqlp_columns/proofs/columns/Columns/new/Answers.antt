use Rattle.std.proofs.Common.{◌≡◌, ◌∙◌, List, ap, length, subst, sym}
use Rattle.std.proofs.lemmas.List.{length-map}
use Rattle.cqlp_columns.specs.Arrays.{Column}
use Rattle.cqlp_kind.specs.declared.kind.Kind.{Kind}
use Rattle.cqlp_columns.specs.Batches.{IsReady, batch, kind_in, sites_in}
use Rattle.cqlp_columns.specs.Turns.{turn_to}
use Rattle.cqlp_columns.proofs.Ready.{new_ready}
use Rattle.cqlp_columns.proofs.Taking.{batch_new}
use Rattle.cqlp_columns.proofs.Turns.{even_none, first_next, kept_first, light_none}
use Rattle.cqlp_columns.proofs.columns.Columns.new.Goals as goal

pub first_turn-turn-requires-clause-light : goal.first_turn-turn-requires-clause-light
first_turn-turn-requires-clause-light g c = light_none c.args.limits (sites_in c.in-Ok.columns.items) c.deref.result.now (c.deref.ensures.value ∙ c.in-Ok.ensures.items)

pub first_turn-turn-requires-clause-even : goal.first_turn-turn-requires-clause-even
first_turn-turn-requires-clause-even g c = even_none c.args.limits (sites_in c.in-Ok.columns.items) c.deref.result.now (c.deref.ensures.value ∙ c.in-Ok.ensures.items)

pub invariant_of-result : goal.invariant_of-result
invariant_of-result g c =
    let l = c.args.limits in
    let items = c.in-Ok.columns.items in
    let ks = sites_in items in
    let ready : IsReady l items 0 = subst (λ (x : List Column). IsReady l x 0) (sym c.in-Ok.ensures.items) (new_ready l ks) in
    let due = c.first_turn-turn.ensures ∙ ap (λ (x : List Column). turn_to (batch l x 0)) c.deref.ensures.value in
    let long : length c.args.kinds.now ≡ length items = ap (λ (x : List Kind). length x) (sym c.in-Ok.ensures.kinds) ∙ length-map items kind_in in
    ((kept_first l items c.first_turn-turn.result ready (even_none l ks items c.in-Ok.ensures.items) (light_none l ks items c.in-Ok.ensures.items) due).0, c.in-Ok.ensures.capacity ∙ long)

pub returns-in-Ok-clause-made : goal.returns-in-Ok-clause-made
returns-in-Ok-clause-made g c =
    let l = c.args.limits in
    let items = c.in-Ok.columns.items in
    let due = c.first_turn-turn.ensures ∙ ap (λ (x : List Column). turn_to (batch l x 0)) c.deref.ensures.value in (
      c.in-Ok.ensures.kinds,
      ap (λ n. batch l items n) (first_next l items c.first_turn-turn.result due)
          ∙ ap (λ (x : List Column). batch l x 0) c.in-Ok.ensures.items ∙ batch_new l (sites_in items),
    )
