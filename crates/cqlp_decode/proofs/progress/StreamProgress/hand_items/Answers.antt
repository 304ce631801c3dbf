use Rattle.std.proofs.Common.{◌≡◌, Ok, sym, ap, subst}
use Rattle.cqlp_cell.specs.Progress.{CellState}
use Rattle.cqlp_cell.proofs.Levels.{level_own}
use Rattle.cqlp_cell.specs.Levels.{with_level}
use Rattle.cqlp_decode.specs.Cells.{DrainsItems, UsesWithin}
use Rattle.cqlp_decode.specs.Items.{at_level}
use Rattle.cqlp_decode.specs.Progress.{IsConsistent, PartsState, parts, parts_state, state_of}
use Rattle.cqlp_decode.specs.Sinks.{Gets, Fails}
use Rattle.cqlp_decode.proofs.progress.StreamProgress.hand_items.Goals as goal

pub hand_inside-handed-requires : goal.hand_inside-handed-requires
hand_inside-handed-requires g c =
    let s = c.args.self.now in
    let q = parts_state c.args.parts.now in
    let own = level_own q.cells c.in-Some.first (sym c.in-Some.ensures) in
    let back : q ≡ at_level q c.in-Some.first = ap (λ (z : CellState). parts q.partial q.types z q.table q.given) (sym own.1) in
    record {
      ready = record {
        lawful = subst (λ (z : PartsState). IsConsistent s z) back c.requires.lawful;
        inside = own.0;
        here = c.requires.here;
        unrefused = c.requires.unrefused;
        empty = c.requires.empty;
      };
    }

pub returns-clause-within : goal.returns-clause-within
returns-clause-within g c =
    let s = c.args.self.now in
    let q = parts_state c.args.parts.now in
    let own = level_own q.cells c.in-Some.first (sym c.in-Some.ensures) in
    let back : q ≡ at_level q c.in-Some.first = ap (λ (z : CellState). parts q.partial q.types z q.table q.given) (sym own.1) in
    let m = c.hand_inside-handed in
    let P : PartsState → CellState → Type 0 = λ z y. UsesWithin (state_of s z) c.args.input.now (Ok m.result.used) (state_of s (parts q.partial q.types y q.table q.given)) in
    subst (λ (y : CellState). P q y) (sym c.set_level.ensures) (subst (λ (z : PartsState). P z (with_level q.cells m.new.level)) (sym back) m.ensures.handed.within)

pub returns-clause-drains : goal.returns-clause-drains
returns-clause-drains g c =
    let s = c.args.self.now in
    let q = parts_state c.args.parts.now in
    let own = level_own q.cells c.in-Some.first (sym c.in-Some.ensures) in
    let back : q ≡ at_level q c.in-Some.first = ap (λ (z : CellState). parts q.partial q.types z q.table q.given) (sym own.1) in
    let m = c.hand_inside-handed in
    let P : PartsState → CellState → Type 0 = λ z y.
    DrainsItems (Gets g.S.Sink) (Fails g.S.Sink) (state_of s z) c.args.input.now m.result (state_of s (parts q.partial q.types y q.table q.given)) c.args.sink.now m.new.sink in
    subst (λ (y : CellState). P q y) (sym c.set_level.ensures) (subst (λ (z : PartsState). P z (with_level q.cells m.new.level)) (sym back) m.ensures.handed.drains)
