use Rattle.std.proofs.Common.{◌≡◌, ◌+◌, ◌++◌, ◌∙◌, ◌<◌, ◌^◌, ℕ, List, None, ap, arith, drop, length, subst, sym, take}
use Rattle.cqlp_columns.specs.Arrays.{Column}
use Rattle.cqlp_columns.specs.Batches.{Batch, batch, fault_at, next_after, refusal_among, with_cell_at, with_cell_in}
use Rattle.cqlp_columns.specs.Cells.{cell_in}
use Rattle.cqlp_columns.specs.Turns.{AreEven, are_light, is_light_at, next_in, turn_to}
use Rattle.cqlp_columns.proofs.Ready.{none_among, ready_takes, there, written_back}
use Rattle.cqlp_columns.proofs.Turns.{as_long, even_put, kept_more, light_put}
use Rattle.cqlp_columns.proofs.columns.Columns.put.Goals as goal

pub put_in-light-requires-clause-there : goal.put_in-light-requires-clause-there
put_in-light-requires-clause-there g c =
    let inside = c.self.inside in
    let items = inside.columns.items in
    let k = c.args.column in
    let b = batch inside.limits items (next_in inside.turn) in
    let cell = cell_in c.args.cell in
    let none : fault_at k cell b ≡ None = ap (λ (x : Batch). fault_at k cell x) c.self.view_is ∙ sym c.in-None.ensures in
    subst (λ (x : List Column). k < length x) (sym c.as_mut_slice.ensures.value) (there inside.limits k cell items (none_among k cell b none))

pub put_in-light-requires-clause-takes : goal.put_in-light-requires-clause-takes
put_in-light-requires-clause-takes g c =
    let inside = c.self.inside in
    let items = inside.columns.items in
    let k = c.args.column in
    let b = batch inside.limits items (next_in inside.turn) in
    let cell = cell_in c.args.cell in
    let none : fault_at k cell b ≡ None = ap (λ (x : Batch). fault_at k cell x) c.self.view_is ∙ sym c.in-None.ensures in
    ap (λ (x : List Column). refusal_among k cell x) c.as_mut_slice.ensures.value
    ∙ ready_takes inside.limits items (next_in inside.turn) k cell c.self.invariant.0.ready none

pub turn_after-self-inside-requires-clause-there : goal.turn_after-self-inside-requires-clause-there
turn_after-self-inside-requires-clause-there g c =
    let inside = c.self.inside in
    let items = inside.columns.items in
    let k = c.args.column in
    let b = batch inside.limits items (next_in inside.turn) in
    let cell = cell_in c.args.cell in
    let none : fault_at k cell b ≡ None = ap (λ (x : Batch). fault_at k cell x) c.self.view_is ∙ sym c.in-None.ensures in
    let new = c.put_in-light.new.columns in
    let back = written_back new items inside.columns.len (omega (arith, c.as_mut_slice.ensures.len, c.put_in-light.auto.columns)) in
    let more : new ≡ with_cell_in k cell items = c.put_in-light.ensures.more ∙ ap (λ (x : List Column). with_cell_in k cell x) c.as_mut_slice.ensures.value in
    let d : c.deref.result.now ≡ with_cell_in k cell items = c.deref.ensures.value ∙ back ∙ more in
    subst (λ (n : ℕ). k < n) (sym (ap (λ (x : List Column). length x) d ∙ as_long k cell items)) (there inside.limits k cell items (none_among k cell b none))

pub turn_after-self-inside-requires-clause-light : goal.turn_after-self-inside-requires-clause-light
turn_after-self-inside-requires-clause-light g c =
    let inside = c.self.inside in
    let items = inside.columns.items in
    let k = c.args.column in
    let b = batch inside.limits items (next_in inside.turn) in
    let cell = cell_in c.args.cell in
    let none : fault_at k cell b ≡ None = ap (λ (x : Batch). fault_at k cell x) c.self.view_is ∙ sym c.in-None.ensures in
    let new = c.put_in-light.new.columns in
    let back = written_back new items inside.columns.len (omega (arith, c.as_mut_slice.ensures.len, c.put_in-light.auto.columns)) in
    let more : new ≡ with_cell_in k cell items = c.put_in-light.ensures.more ∙ ap (λ (x : List Column). with_cell_in k cell x) c.as_mut_slice.ensures.value in
    let d : c.deref.result.now ≡ with_cell_in k cell items = c.deref.ensures.value ∙ back ∙ more in
    let it : c.put_in-light.result ≡ is_light_at inside.limits k (with_cell_in k cell items) = c.put_in-light.ensures.light ∙ ap (λ (x : List Column). is_light_at inside.limits k x) more in
    let weight : c.keep.new.light ≡ are_light inside.limits (with_cell_in k cell items) = c.keep.ensures ∙ light_put inside.limits items inside.light c.put_in-light.result k cell c.self.invariant.0.weight it in
    weight ∙ sym (ap (λ (x : List Column). are_light inside.limits x) d)

pub turn_after-self-inside-requires-clause-even : goal.turn_after-self-inside-requires-clause-even
turn_after-self-inside-requires-clause-even g c =
    let inside = c.self.inside in
    let items = inside.columns.items in
    let k = c.args.column in
    let b = batch inside.limits items (next_in inside.turn) in
    let cell = cell_in c.args.cell in
    let none : fault_at k cell b ≡ None = ap (λ (x : Batch). fault_at k cell x) c.self.view_is ∙ sym c.in-None.ensures in
    let new = c.put_in-light.new.columns in
    let back = written_back new items inside.columns.len (omega (arith, c.as_mut_slice.ensures.len, c.put_in-light.auto.columns)) in
    let more : new ≡ with_cell_in k cell items = c.put_in-light.ensures.more ∙ ap (λ (x : List Column). with_cell_in k cell x) c.as_mut_slice.ensures.value in
    let d : c.deref.result.now ≡ with_cell_in k cell items = c.deref.ensures.value ∙ back ∙ more in
    subst (λ (x : List Column). AreEven (k + 1) x) (sym d) (even_put inside.limits items inside.turn inside.light k cell c.self.invariant.0 none)

pub invariant_of-self : goal.invariant_of-self
invariant_of-self g c =
    let inside = c.self.inside in
    let items = inside.columns.items in
    let k = c.args.column in
    let b = batch inside.limits items (next_in inside.turn) in
    let cell = cell_in c.args.cell in
    let none : fault_at k cell b ≡ None = ap (λ (x : Batch). fault_at k cell x) c.self.view_is ∙ sym c.in-None.ensures in
    let new = c.put_in-light.new.columns in
    let back = written_back new items inside.columns.len (omega (arith, c.as_mut_slice.ensures.len, c.put_in-light.auto.columns)) in
    let more : new ≡ with_cell_in k cell items = c.put_in-light.ensures.more ∙ ap (λ (x : List Column). with_cell_in k cell x) c.as_mut_slice.ensures.value in
    let d : c.deref.result.now ≡ with_cell_in k cell items = c.deref.ensures.value ∙ back ∙ more in
    let it : c.put_in-light.result ≡ is_light_at inside.limits k (with_cell_in k cell items) = c.put_in-light.ensures.light ∙ ap (λ (x : List Column). is_light_at inside.limits k x) more in
    let weight : c.keep.new.light ≡ are_light inside.limits (with_cell_in k cell items) = c.keep.ensures ∙ light_put inside.limits items inside.light c.put_in-light.result k cell c.self.invariant.0.weight it in
    let count : length c.deref.result.now ≡ length items = ap (λ (x : List Column). length x) d ∙ as_long k cell items in
    let low : length c.deref.result.now < 2 ^ 64 = omega (arith, count, inside.columns.small, inside.columns.ok) in
    let due = c.turn_after-self-inside.ensures ∙ ap (λ (x : List Column). turn_to (batch inside.limits x (next_after k (length c.deref.result.now)))) d in
    let kept = kept_more inside.limits items inside.turn inside.light k cell (length c.deref.result.now) c.turn_after-self-inside.result c.keep.new.light c.self.invariant.0 none count low due weight in
    rw (back, more) (kept.0, c.self.invariant.1 ∙ sym (as_long k cell items))

pub returns-in-None-clause-taken : goal.returns-in-None-clause-taken
returns-in-None-clause-taken g c =
    let inside = c.self.inside in
    let items = inside.columns.items in
    let k = c.args.column in
    let b = batch inside.limits items (next_in inside.turn) in
    let cell = cell_in c.args.cell in
    let none : fault_at k cell b ≡ None = ap (λ (x : Batch). fault_at k cell x) c.self.view_is ∙ sym c.in-None.ensures in
    let new = c.put_in-light.new.columns in
    let back = written_back new items inside.columns.len (omega (arith, c.as_mut_slice.ensures.len, c.put_in-light.auto.columns)) in
    let more : new ≡ with_cell_in k cell items = c.put_in-light.ensures.more ∙ ap (λ (x : List Column). with_cell_in k cell x) c.as_mut_slice.ensures.value in
    let d : c.deref.result.now ≡ with_cell_in k cell items = c.deref.ensures.value ∙ back ∙ more in
    let it : c.put_in-light.result ≡ is_light_at inside.limits k (with_cell_in k cell items) = c.put_in-light.ensures.light ∙ ap (λ (x : List Column). is_light_at inside.limits k x) more in
    let weight : c.keep.new.light ≡ are_light inside.limits (with_cell_in k cell items) = c.keep.ensures ∙ light_put inside.limits items inside.light c.put_in-light.result k cell c.self.invariant.0.weight it in
    let count : length c.deref.result.now ≡ length items = ap (λ (x : List Column). length x) d ∙ as_long k cell items in
    let low : length c.deref.result.now < 2 ^ 64 = omega (arith, count, inside.columns.small, inside.columns.ok) in
    let due = c.turn_after-self-inside.ensures ∙ ap (λ (x : List Column). turn_to (batch inside.limits x (next_after k (length c.deref.result.now)))) d in
    let kept = kept_more inside.limits items inside.turn inside.light k cell (length c.deref.result.now) c.turn_after-self-inside.result c.keep.new.light c.self.invariant.0 none count low due weight in
    let left : List Column = take inside.columns.len (new ++ drop (length new) items) in
    λ ok. ap (λ (n : ℕ). batch inside.limits left n) kept.1 ∙ ap (λ (x : List Column). batch inside.limits x (next_after k (length items))) (back ∙ more)
    ∙ ap (λ (x : Batch). with_cell_at k cell x) c.self.view_is
