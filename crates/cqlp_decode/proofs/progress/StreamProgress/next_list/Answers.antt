use Rattle.std.proofs.Common.{refl, sym, subst}
use Rattle.cqlp_decode.specs.declared.progress.StreamStage.{StreamStage}
use Rattle.cqlp_decode.specs.Items.{at_level}
use Rattle.cqlp_decode.specs.Progress.{StageHolds, parts_state, state_of}
use Rattle.cqlp_decode.proofs.Onward.{after, after_takes, idle, next_inside, next_lawful, next_conforms, next_takes}
use Rattle.cqlp_decode.proofs.progress.StreamProgress.next_list.Goals as goal

pub enter_next-requires-clause-conforms : goal.enter_next-requires-clause-conforms
enter_next-requires-clause-conforms g c =
    let s = c.args.self.now in
    let q = parts_state c.args.parts.now in
    let p = c.args.page in
    let r = c.requires.ready in
    let page = (subst (λ (t : StreamStage). StageHolds s (at_level q c.args.level) t) r.here r.lawful.stage).0.page in
    let turns = (rw c.page_table-table.ensures at c.in-Some.ensures) s.limits.depth page in
    rw (c.page_table-table.ensures, sym turns.2) (next_conforms s q p r.here c.args.level r.lawful r.empty r.unrefused c.args.end c.requires.ends c.in-Some.following turns c.in-Some-node.node (sym c.in-Some-node.ensures))

pub returns : goal.returns
returns g c =
    let s = c.args.self.now in
    let q = parts_state c.args.parts.now in
    let p = c.args.page in
    let l = c.args.level in
    let r = c.requires.ready in
    let page = (subst (λ (t : StreamStage). StageHolds s (at_level q l) t) r.here r.lawful.stage).0.page in
    let turns = (rw c.page_table-table.ensures at c.in-Some.ensures) s.limits.depth page in
    let f = c.in-Some.following in
    let node = c.in-Some-node.node in
    let column = sym c.in-Some-node.ensures in
    let t = c.in-Some-enter_next.entered in
    let enters = rw (c.page_table-table.ensures, sym turns.2) at c.in-Some-enter_next.ensures in
    let input = c.args.input.now in
    record {
      goes = (
        state_of (after s q p r.here l r.lawful r.empty r.unrefused c.args.end c.requires.ends f turns) (idle s q p r.here l r.lawful r.empty r.unrefused c.args.end c.requires.ends f turns),
        after_takes s q p r.here l r.lawful r.empty r.unrefused c.args.end c.requires.ends f turns,
        next_takes s q p r.here l r.lawful r.empty r.unrefused c.args.end c.requires.ends f turns node column input t enters,
        next_lawful s q p r.here l r.lawful r.empty r.unrefused c.args.end c.requires.ends f turns node column input t enters,
        next_inside s q p r.here l r.lawful r.empty r.unrefused c.args.end c.requires.ends f turns node column input t enters r.inside,
        refl,
        refl,
      );
    }
