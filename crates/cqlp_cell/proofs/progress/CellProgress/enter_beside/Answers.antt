use Rattle.std.proofs.Common.{◌≡◌, ◌∙◌, ◌+◌, ◌-◌, ap, sym, subst, refl, take, drop, length, List, ℕ, Some, arith}
use Rattle.std.specs.Int.{w32, from_be_bytes}
use Rattle.cqlp_kind.specs.declared.kind.Kind.{Kind}
use Rattle.cqlp_cell.specs.declared.advance.CellOutline.TheVariants as outline
use Rattle.cqlp_cell.specs.declared.level.Level.{Level}
use Rattle.cqlp_cell.specs.declared.progress.DueValue.{DueValue}
use Rattle.cqlp_cell.specs.Levels.{level_of, with_level}
use Rattle.cqlp_cell.specs.Progress.{Conforms, due_value, state_after, state_of}
use Rattle.cqlp_cell.specs.Reading.{EntersCounted, counted_open}
use Rattle.cqlp_cell.specs.Whole.{IsWhole, next_begun}
use Rattle.cqlp_cell.proofs.Beside.{beside_is}
use Rattle.cqlp_cell.proofs.Entering.{counted_keys, counted_conforms}
use Rattle.cqlp_cell.proofs.Levels.{level_entered}
use Rattle.cqlp_cell.proofs.WholeItems.{counted_whole, rest_all}
use Rattle.cqlp_cell.proofs.progress.CellProgress.enter_beside.Goals as goal

pub inner_order-order-requires : goal.inner_order-order-requires
inner_order-order-requires g c =
    let r = c.requires in
    rw r.value (counted_keys c.args.table.now.nodes (next_begun (state_of c.args.self.now) c.args.level c.args.node) c.args.len c.from_be_bytes-count.result r.conforms refl r.decided)

pub returns : goal.returns
returns g c =
    let r = c.requires in
    let nodes = c.args.table.now.nodes in
    let d = state_of c.args.self.now in
    let l = c.args.level in
    let b = next_begun d l c.args.node in
    let input = c.args.input.now in
    let count = c.from_be_bytes-count.result in
    let some : count ≡ from_be_bytes w32 (take 4 (take (length input - 4) (drop 4 input))) = c.from_be_bytes-count.ensures ∙ ap (λ (b : List ℕ). from_be_bytes w32 b) c.read_array.ensures in
    let is : count ≡ from_be_bytes w32 (take 4 (drop 4 input)) = some ∙ ap (λ (b : List ℕ). from_be_bytes w32 (take 4 b)) (rest_all 4 input) in
    let inside = counted_open nodes (due_value nodes b) (l.offset + 4 + c.args.len) count in
    let same = beside_is nodes d l c.args.node r.inside r.alone inside in
    let enters : EntersCounted nodes b c.args.len count (with_level d (record { value = inside; level = 1; offset = l.offset + 8 })) = (same, subst (Conforms nodes) (sym same) (counted_conforms nodes b c.args.len count r.conforms refl r.decided (omega (arith, c.if-len-lt4.false)))) in
    let whole = counted_whole nodes b (with_level d (record { value = inside; level = 1; offset = l.offset + 8 })) c.args.len input r.conforms refl refl r.room (omega (arith, r.within)) r.length count r.decided (omega (arith, c.if-len-lt4.false)) r.within is (omega (arith, c.if-count.false)) enters in
    let level : Level = record { value = inside; level = 1; offset = l.offset + 8 } in
    let conforms_in : level_of (with_level d level) ≡ Some level = ap level_of same ∙ level_entered (state_after nodes b 8) inside refl refl in
    let v = c.args.value in
    let order = c.inner_order-order.result in
    let made : Level = record { value = record { order = order.0; node = v.inner; other = order.1; left = count; items = count; stop = l.offset + 4 + c.from.result }; level = 1; offset = l.offset + 8 } in
    let is_made : level ≡ made = rw (c.inner_order-order.ensures, c.from.ensures, r.value) refl in
    subst (λ (k : Kind). IsWhole nodes b input l.offset 8 (outline.Enter 0 k count) (with_level d made) × (level_of (with_level d made) ≡ Some made)) (sym (ap (λ (x : DueValue). x.kind) r.value))
    (subst (λ (m : Level). IsWhole nodes b input l.offset 8 (outline.Enter 0 (due_value nodes b).kind count) (with_level d m) × (level_of (with_level d m) ≡ Some m)) is_made (whole, conforms_in))
