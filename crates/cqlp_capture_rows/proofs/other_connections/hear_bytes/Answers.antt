use Rattle.std.proofs.Common.{◌∙◌, ◌-◌, ◌&&◌, ◌==◌, drop, sym, take}
use Rattle.cqlp_capture_rows.specs.OtherConnections.{all_heard, heard_as, learning, place}
use Rattle.cqlp_capture_rows.proofs.Overheard.{heard_next, next_is_done, next_goes_on}
use Rattle.cqlp_capture_rows.proofs.other_connections.hear_bytes.Goals as goal

pub returns-then-is_done : goal.returns-then-is_done
returns-then-is_done g c =
    let l = c.loop-unread in
    let n = c.args.number in
    let x = c.take-used.result in
    let v = c.take-used.new.self in
    let known = learning l.frames l.others in
    let t = heard_as n (take x.used l.unread.bytes.now) x.heard known in
    let k = all_heard (l.unread.steps - 1) n (l.unread.begins && x.used == 0) (drop x.used l.unread.bytes.now) v t in
    (λ i. place v (c.in_ok-take_heard.ensures i)) ∙ sym (next_is_done x.heard (place v t) k (sym c.is_done.ensures ∙ c.if-is_done.true)) ∙ sym (heard_next l.unread.steps n l.unread.begins l.unread.bytes.now l.heads known x v c.loop-unread-test.true c.take-used.ensures.reported) ∙ l.invariant

pub loop-unread-preserved : goal.loop-unread-preserved
loop-unread-preserved g c =
    let l = c.loop-unread in
    let n = c.args.number in
    let x = c.take-used.result in
    let v = c.take-used.new.self in
    let known = learning l.frames l.others in
    let t = heard_as n (take x.used l.unread.bytes.now) x.heard known in
    let k = all_heard (l.unread.steps - 1) n (l.unread.begins && x.used == 0) (drop x.used l.unread.bytes.now) v t in
    (λ i. all_heard (c.after-unread.ensures.steps i) n (c.after-unread.ensures.begins i) (c.after-unread.ensures.bytes i) v (c.in_ok-take_heard.ensures i))
    ∙ sym (next_goes_on x.heard (place v t) k (sym c.is_done.ensures ∙ c.if-is_done.false)) ∙ sym (heard_next l.unread.steps n l.unread.begins l.unread.bytes.now l.heads known x v c.loop-unread-test.true c.take-used.ensures.reported) ∙ l.invariant
