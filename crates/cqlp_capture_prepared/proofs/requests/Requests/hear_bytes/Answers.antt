use Rattle.std.proofs.Common.{◌∙◌, ◌-◌, ◌&&◌, ◌==◌, drop, sym, take}
use Rattle.cqlp_capture_prepared.specs.Requests.{all_asked, asked, heard_as, with_heads}
use Rattle.cqlp_capture_prepared.proofs.Asked.{asked_next, next_is_done, next_goes_on}
use Rattle.cqlp_capture_prepared.proofs.requests.Requests.hear_bytes.Goals as goal

pub returns-then-is_done : goal.returns-then-is_done
returns-then-is_done g c =
    let l = c.loop-unread in
    let x = c.take-used.result in
    let v = c.take-used.new.self in
    let a = asked l.self l.known in
    let t = heard_as (take x.used l.unread.bytes.now) x.heard (with_heads v a) in
    let k = all_asked (l.unread.steps - 1) (l.unread.begins && x.used == 0) (drop x.used l.unread.bytes.now) t in
    c.take_heard.ensures ∙ sym (next_is_done x.heard t k (sym c.is_done.ensures ∙ c.if-is_done.true)) ∙ sym (asked_next l.unread.steps l.unread.begins l.unread.bytes.now a x v c.loop-unread-test.true c.take-used.ensures.reported) ∙ l.invariant

pub loop-unread-preserved : goal.loop-unread-preserved
loop-unread-preserved g c =
    let l = c.loop-unread in
    let x = c.take-used.result in
    let v = c.take-used.new.self in
    let a = asked l.self l.known in
    let t = heard_as (take x.used l.unread.bytes.now) x.heard (with_heads v a) in
    let k = all_asked (l.unread.steps - 1) (l.unread.begins && x.used == 0) (drop x.used l.unread.bytes.now) t in
    (λ i. all_asked (c.after-unread.ensures.steps i) (c.after-unread.ensures.begins i) (c.after-unread.ensures.bytes i) (c.take_heard.ensures i))
    ∙ sym (next_goes_on x.heard t k (sym c.is_done.ensures ∙ c.if-is_done.false)) ∙ sym (asked_next l.unread.steps l.unread.begins l.unread.bytes.now a x v c.loop-unread-test.true c.take-used.ensures.reported) ∙ l.invariant
