use Rattle.std.proofs.Common.{◌≡◌, ◌+◌, ◌++◌, true, rules, List, ℕ, take, arith, ap, ◌∙◌}
use Rattle.cqlp_text.specs.PageText.{item_text}
use Rattle.cqlp_text.proofs.Writing.{front_of}
use Rattle.cqlp_text.proofs.ItemText.{quoted_plain, waits_as}
use Rattle.cqlp_text.proofs.buffered.BufferedPen.takes_text.Goals as goal

pub place_text-len-requires : goal.place_text-len-requires
place_text-len-requires g c = omega (arith, c.len.ensures, c.deref_mut.ensures.len, c.self.invariant)

pub returns-clause-taken : goal.returns-clause-taken
returns-clause-taken g c = λ _.
    let plain : c.is_plain_text.result ≡ true = search rules in
    let quotes = quoted_plain _ c.args.text.now c.as_bytes-bytes.ensures.value (c.is_plain_text.ensures plain) in
    let before = take c.self.inside.len c.self.inside.buffer.items in
    rw (← c.self.view_is) (waits_as _ _ c.self.inside.buffer.items _ _ c.self.inside.len c.place_text-len.result
    (ap (take (c.self.inside.len + c.place_text-len.result)) (front_of c.place_text-len.new.buffer _ c.self.inside.buffer.len (c.place_text-len.auto.buffer ∙ c.deref_mut.ensures.len)) ∙ rw c.deref_mut.ensures.value at c.place_text-len.ensures.placed
    ∙ ap (λ (t : List ℕ). before ++ item_text c.args.gap t c.args.ends_line) quotes))
