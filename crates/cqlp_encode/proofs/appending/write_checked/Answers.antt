use Rattle.std.proofs.Common.{[], ◌∙◌, refl, sym, arith}
use Rattle.cqlp_note.specs.Outputs.{written}
use Rattle.cqlp_message.specs.Owned.{frame_of}
use Rattle.cqlp_encode.proofs.Checking.{before, few_taken, none_checked, not_whole, whole_frame}
use Rattle.cqlp_encode.proofs.appending.write_checked.Goals as goal

pub returns-then-not-is_whole : goal.returns-then-not-is_whole
returns-then-not-is_whole g c =
    let o = written g.W.Target in
    let w = g.W.Target.writes in
    let f = frame_of c.args.frame.now in
    let first = c.args.target.now in
    let nine = rw c.new.ensures at c.put.ensures in
    let h = c.walk.ensures.takes (before o w first f _) [] (none_checked o w first f _ _ _ nine c.new-2.ensures) in
    let part = sym c.is_whole.ensures ∙ c.if-not-is_whole.true in
    not_whole o w first f _ _ _ _ c.into_inner.result.now _ h c.flush.ensures c.into_inner.ensures.output (λ e. grind arith) (λ e. let both = sym part ∙ e in absurd cc)

pub returns-then-taken-tally : goal.returns-then-taken-tally
returns-then-taken-tally g c =
    let o = written g.W.Target in
    let w = g.W.Target.writes in
    let f = frame_of c.args.frame.now in
    let first = c.args.target.now in
    let nine = rw c.new.ensures at c.put.ensures in
    let h = c.walk.ensures.takes (before o w first f _) [] (none_checked o w first f _ _ _ nine c.new-2.ensures) in
    not_whole o w first f _ _ _ _ c.into_inner.result.now _ h c.flush.ensures c.into_inner.ensures.output (λ e. grind arith) (λ e. omega (arith, c.taken-taken.ensures, c.if-taken-tally.true))

pub returns : goal.returns
returns g c =
    let o = written g.W.Target in
    let w = g.W.Target.writes in
    let f = frame_of c.args.frame.now in
    let first = c.args.target.now in
    let nine = rw c.new.ensures at c.put.ensures in
    let h = c.walk.ensures.takes (before o w first f _) [] (none_checked o w first f _ _ _ nine c.new-2.ensures) in
    let yes = sym c.is_whole.ensures ∙ c.if-not-is_whole.false in
    rw c.taken-taken.ensures (whole_frame o w first f _ _ _ _ c.into_inner.result.now _ h c.flush.ensures c.into_inner.ensures.output (λ e. grind arith) yes (omega (arith, c.taken-taken.ensures, c.if-taken-tally.false)))

pub overflow_cast-result : goal.overflow_cast-result
overflow_cast-result g c =
    let o = written g.W.Target in
    let w = g.W.Target.writes in
    let f = frame_of c.args.frame.now in
    let first = c.args.target.now in
    let nine = rw c.new.ensures at c.put.ensures in
    let h = c.walk.ensures.takes (before o w first f _) [] (none_checked o w first f _ _ _ nine c.new-2.ensures) in
    let few = few_taken o w first f _ _ _ _ c.into_inner.result.now c.into_inner.result.now h c.flush.ensures c.into_inner.ensures.output (λ e. refl) in
    omega (arith, few, c.taken-taken.ensures)
