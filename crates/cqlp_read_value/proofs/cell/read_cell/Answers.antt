use Rattle.std.proofs.Common.{◌≡◌, ◌+◌, ◌-◌, ◌≤◌, ◌<◌, ◌^◌, ℕ, List, length, take, drop, refl, sym, ap, ◌∙◌, arith}
use Rattle.std.proofs.lemmas.List.{length-drop, length-take-le}
use Rattle.cqlp_kind.specs.Contents.{value_of}
use Rattle.cqlp_read_value.specs.Reading.{whole_rules}
use Rattle.cqlp_read_value.proofs.Cells.{has_none, has_some, says_bad, says_content, says_empty, says_long, says_null, says_past, says_scalar, says_short}
use Rattle.cqlp_read_value.proofs.cell.read_cell.Goals as goal

pub returns-then-bytes-lt4 : goal.returns-then-bytes-lt4
returns-then-bytes-lt4 c = (tt, λ inner at level rest. says_short (whole_rules c.args.limits.now) refl refl c.args.kind inner c.args.bytes.now at level rest (omega (arith, c.if-bytes-lt4.true)))

pub returns-then-len : goal.returns-then-len
returns-then-len c =
    let first : 4 ≤ length c.args.bytes.now = omega (arith, c.if-bytes-lt4.false) in
    ((first, tt), λ inner at level rest. says_null (whole_rules c.args.limits.now) refl refl c.args.kind inner c.args.bytes.now at level rest c.front_number-len.result c.front_number-len.ensures first (omega (arith, c.if-len.true)))

pub returns-then-len-eq0 : goal.returns-then-len-eq0
returns-then-len-eq0 c =
    let first : 4 ≤ length c.args.bytes.now = omega (arith, c.if-bytes-lt4.false) in
    ((first, tt), λ inner at level rest. says_empty (whole_rules c.args.limits.now) refl refl c.args.kind inner c.args.bytes.now at level rest c.front_number-len.result c.front_number-len.ensures first c.if-len-eq0.true)

pub returns-then-bytes-len : goal.returns-then-bytes-len
returns-then-bytes-len c =
    let first : 4 ≤ length c.args.bytes.now = omega (arith, c.if-bytes-lt4.false) in
    (tt, λ inner at level rest. says_past (whole_rules c.args.limits.now) refl refl c.args.kind inner c.args.bytes.now at level rest c.front_number-len.result c.front_number-len.ensures first (omega (arith, c.if-len.false)) c.if-len-eq0.false (omega (arith, c.if-bytes-len.true, first)))

pub returns-then-has_items : goal.returns-then-has_items
returns-then-has_items c =
    let b = c.args.bytes.now in
    let n = c.front_number-len.result in
    let first : 4 ≤ length b = omega (arith, c.if-bytes-lt4.false) in
    let there : 4 + n ≤ length b = omega (arith, c.if-bytes-len.false, first) in
    let size : 4 + n - 4 ≡ n = omega arith in
    let low : n < 2 ^ 31 = omega (arith, c.if-len.false) in
    let long : length (take n (drop 4 b)) ≡ n = length-take-le n (drop 4 b) (omega (arith, there, length-drop 4 b)) in
    rw (size, long) ((there, (has_some c.args.kind (sym c.has_items.ensures ∙ c.if-has_items.true), (λ none. c.if-len-eq0.false (sym long ∙ ap length none)), refl, c.front_number-len.ensures, refl)), λ inner at level rest. says_content (whole_rules c.args.limits.now) refl refl c.args.kind inner b at level rest n c.front_number-len.ensures first low c.if-len-eq0.false there)

pub returns-then-is_too_long : goal.returns-then-is_too_long
returns-then-is_too_long c =
    let b = c.args.bytes.now in
    let n = c.front_number-len.result in
    let first : 4 ≤ length b = omega (arith, c.if-bytes-lt4.false) in
    (tt, λ inner at level rest. says_long (whole_rules c.args.limits.now) refl refl c.args.kind inner b at level rest n c.front_number-len.ensures first (omega (arith, c.if-len.false)) c.if-len-eq0.false (omega (arith, c.if-bytes-len.false, first)) (has_none c.args.kind (sym c.has_items.ensures ∙ c.if-has_items.false)) (sym c.is_too_long.ensures ∙ c.if-is_too_long.true))

pub returns-in-Ok : goal.returns-in-Ok
returns-in-Ok c =
    let b = c.args.bytes.now in
    let n = c.front_number-len.result in
    let first : 4 ≤ length b = omega (arith, c.if-bytes-lt4.false) in
    let there : 4 + n ≤ length b = omega (arith, c.if-bytes-len.false, first) in
    let size : 4 + n - 4 ≡ n = omega arith in
    ((there, tt), λ inner at level rest. says_scalar (whole_rules c.args.limits.now) refl refl c.args.kind inner b at level rest n c.front_number-len.ensures first (omega (arith, c.if-len.false)) c.if-len-eq0.false there (has_none c.args.kind (sym c.has_items.ensures ∙ c.if-has_items.false)) (sym c.is_too_long.ensures ∙ c.if-is_too_long.false) (value_of c.in-Ok.scalar) (rw size at c.in-Ok.ensures))

pub returns-in-Err : goal.returns-in-Err
returns-in-Err c =
    let b = c.args.bytes.now in
    let n = c.front_number-len.result in
    let first : 4 ≤ length b = omega (arith, c.if-bytes-lt4.false) in
    let size : 4 + n - 4 ≡ n = omega arith in
    (tt, λ inner at level rest. says_bad (whole_rules c.args.limits.now) refl refl c.args.kind inner b at level rest n c.front_number-len.ensures first (omega (arith, c.if-len.false)) c.if-len-eq0.false (omega (arith, c.if-bytes-len.false, first)) (has_none c.args.kind (sym c.has_items.ensures ∙ c.if-has_items.false)) (sym c.is_too_long.ensures ∙ c.if-is_too_long.false) c.in-Err.why (rw size at c.in-Err.ensures))
