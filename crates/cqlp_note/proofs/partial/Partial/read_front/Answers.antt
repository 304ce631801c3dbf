use Rattle.std.proofs.Common.{◌≡◌, ◌++◌, ◌≤◌, length, [], refl, arith}
use Rattle.std.proofs.lemmas.List.{length-append, append-nil}
use Rattle.cqlp_note.specs.Head.{front_of}
use Rattle.cqlp_note.specs.Partial.{seen_of}
use Rattle.cqlp_note.proofs.Pieces.{whole_beyond, whole_now, no_content, seen_is_front, content_front}
use Rattle.cqlp_note.proofs.partial.Partial.read_front.Goals as goal

pub overflow_sub-used : goal.overflow_sub-used
overflow_sub-used g c =
    let inside = c.self.inside in
    let empty : inside.content.items ≡ [] = rw (← c.self.view_is) at c.requires.empty in
    let seen : seen_of inside.stage inside.front inside.content.items ≡ inside.front = seen_is_front inside.stage inside.front inside.content.items (rw (← c.self.view_is) at c.requires.under_way) empty in
    let more = rw seen at (rw (← c.self.view_is) at c.requires.more) in
    let determines = rw c.in-Ok-Whole.field-0-is at c.in-Ok-Whole.ensures in
    rw c.len.ensures (whole_beyond inside.wanted inside.front c.args.input.now _ _ more determines.1)

pub returns-in-Ok-Whole : goal.returns-in-Ok-Whole
returns-in-Ok-Whole g c =
    let inside = c.self.inside in
    let empty : inside.content.items ≡ [] = rw (← c.self.view_is) at c.requires.empty in
    let seen : seen_of inside.stage inside.front inside.content.items ≡ inside.front = seen_is_front inside.stage inside.front inside.content.items (rw (← c.self.view_is) at c.requires.under_way) empty in
    let more = rw seen at (rw (← c.self.view_is) at c.requires.more) in
    let old : c.args.self.now.seen ≡ inside.front = rw (← c.self.view_is) seen in
    let determines = rw c.in-Ok-Whole.field-0-is at c.in-Ok-Whole.ensures in
    let beyond = whole_beyond inside.wanted inside.front c.args.input.now _ _ more determines.1 in
    rw c.len.ensures (
      record {
        within = omega (arith, determines.0, length-append inside.front c.args.input.now);
        is = rw (← c.self.view_is, seen) (whole_now inside.wanted inside.front c.args.input.now _ _ beyond determines.1);
        idle = rw (← c.self.view_is) refl;
        lent = λ _. empty;
        kept = λ lt. absurd (omega (arith, lt, no_content _ determines.2));
        fits = rw (← c.self.view_is) c.self.invariant.0;
      },
      tt,
    )

pub take_content-requires-clause-comes : goal.take_content-requires-clause-comes
take_content-requires-clause-comes g c =
    let inside = c.self.inside in
    let empty : inside.content.items ≡ [] = rw (← c.self.view_is) at c.requires.empty in
    let seen : seen_of inside.stage inside.front inside.content.items ≡ inside.front = seen_is_front inside.stage inside.front inside.content.items (rw (← c.self.view_is) at c.requires.under_way) empty in
    let determines = rw c.in-Ok-Content.field-0-is at c.in-Ok-Content.ensures in
    let front : length inside.front ≤ front_of inside.wanted.notation = rw seen at (rw (← c.self.view_is) at c.requires.front) in
    let short : length inside.front ≤ c.in-Ok-Content.after = rw determines.0 front in
    rw (← c.self.view_is, seen, c.len-in-Ok-Content.ensures) (content_front inside.wanted inside.front c.args.input.now c.in-Ok-Content.after c.in-Ok-Content.len c.in-Ok-Content.form short determines.4)

pub returns-in-Err-Refused : goal.returns-in-Err-Refused
returns-in-Err-Refused g c =
    let inside = c.self.inside in
    let empty : inside.content.items ≡ [] = rw (← c.self.view_is) at c.requires.empty in
    let seen : seen_of inside.stage inside.front inside.content.items ≡ inside.front = seen_is_front inside.stage inside.front inside.content.items (rw (← c.self.view_is) at c.requires.under_way) empty in
    let determines = rw c.in-Err-Refused.field-0-is at c.in-Err-Refused.ensures in
    let now = rw (append-nil (inside.front ++ c.args.input.now)) at (determines []) in
    rw c.refuse.ensures.answer (refl, rw (← c.self.view_is, seen) now, c.refuse.ensures.idle)
