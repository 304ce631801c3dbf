use Rattle.std.proofs.Common.{◌≡◌, Bool, true, false, ◌+◌, ◌-◌, ◌≤◌, ℕ, List, length, take, drop, refl, sym, ap, ◌∙◌, arith}
use Rattle.std.specs.Int.{w32, from_be_bytes}
use Rattle.std.proofs.lemmas.List.{length-drop, length-take-le}
use Rattle.std.specs.Prelude.{Some}
use Rattle.cqlp_note.specs.Limits.{rules_asked, with_lenient}
use Rattle.cqlp_kind.specs.Scalars.{allows_size, scalar_of}
use Rattle.cqlp_cell.proofs.Contents.{allowed_taken, spelled_taken}
use Rattle.cqlp_kind.specs.Contents.{value_of}
use Rattle.cqlp_cell.proofs.Fronts.{scalar_is, says_scalar, front_there, never_refused}
use Rattle.cqlp_cell.proofs.front.front_scalar.Goals as goal
use Rattle.cqlp_cell.proofs.front.front_scalar.Goals.{then-len-eq0-via-then-len-eq0, then-len-eq0-via-else-len-eq0+then-len, then-len-eq0-via-else-len-eq0+else-len+then-len-limits, then-len-eq0-via-else-len-eq0+else-len+else-len-limits+then-from-room}

pub returns-in-Ok : goal.returns-in-Ok
returns-in-Ok c =
    let n = c.from_be_bytes-len.result in
    let input = c.args.input.now in
    let there : 4 + n ≤ length input = omega (arith, c.if-input-used.false) in
    let left : n ≤ length (drop 4 input) = omega (arith, there, length-drop 4 input) in
    let e : 4 + n - 4 ≡ n = omega arith in
    let s = scalar_is c.args.kind (take (4 + n - 4) (drop 4 input)) (value_of c.in-Ok.scalar) c.in-Ok.ensures in
    let content : List ℕ = take n (drop 4 input) in
    let allows : allows_size c.args.kind n ≡ true = rw (e, length-take-le n (drop 4 input) left) at s.0 in
    let sized : allows_size c.args.kind (length content) ≡ true = rw e at s.0 in
    let is : scalar_of c.args.kind content ≡ Some (value_of c.in-Ok.scalar) = rw e at s.1 in
    let each = λ (lenient : Bool).
    says_scalar (with_lenient lenient (rules_asked c.args.limits.now)) c.args.kind c.args.room n input (value_of c.in-Ok.scalar) refl (c.from_be_bytes-len.ensures ∙ ap (λ (b : List ℕ). from_be_bytes w32 b) c.read_array.ensures) c.if-len-eq0.false (omega (arith, c.if-len.false)) (omega (arith, c.if-len-limits.false))
    (omega (arith, c.if-from-room.false, c.from.ensures)) there (sym c.if-not-is_scalar.ensures) (allowed_taken lenient c.args.kind n allows) (spelled_taken lenient c.args.kind content (value_of c.in-Ok.scalar) sized is) in
    (each c.args.limits.now.lenient, each false)

pub returns-then-input-lt4 : goal.returns-then-input-lt4
returns-then-input-lt4 c = λ used v h.
    let t = front_there (with_lenient false (rules_asked c.args.limits.now)) c.args.kind c.args.room used c.args.input.now v h in
    omega (arith, t.first, c.if-input-lt4.true)

pub returns-then-len-eq0 : goal.returns-then-len-eq0
returns-then-len-eq0 c = λ used v h.
    let t = front_there (with_lenient false (rules_asked c.args.limits.now)) c.args.kind c.args.room used c.args.input.now v h in
    let n : c.from_be_bytes-len.result ≡ from_be_bytes w32 (take 4 c.args.input.now) = c.from_be_bytes-len.ensures ∙ ap (λ (b : List ℕ). from_be_bytes w32 b) c.read_array.ensures in
    elim c.then-len-eq0.branch [
      | then-len-eq0-via-then-len-eq0 w ↦ t.some (sym n ∙ w.if-len-eq0.true)
      | then-len-eq0-via-else-len-eq0+then-len w ↦ omega (arith, t.low, n, w.if-len.true)
      | then-len-eq0-via-else-len-eq0+else-len+then-len-limits w ↦ omega (arith, t.short, n, w.if-len-limits.true)
      | then-len-eq0-via-else-len-eq0+else-len+else-len-limits+then-from-room w ↦ omega (arith, t.enough, n, w.from.ensures, w.if-from-room.true)
    ]

pub returns-then-input-used : goal.returns-then-input-used
returns-then-input-used c = λ used v h.
    let t = front_there (with_lenient false (rules_asked c.args.limits.now)) c.args.kind c.args.room used c.args.input.now v h in
    let n : c.from_be_bytes-len.result ≡ from_be_bytes w32 (take 4 c.args.input.now) = c.from_be_bytes-len.ensures ∙ ap (λ (b : List ℕ). from_be_bytes w32 b) c.read_array.ensures in
    omega (arith, t.there, n, c.if-input-used.true)

pub returns-then-not-is_scalar : goal.returns-then-not-is_scalar
returns-then-not-is_scalar c = λ used v h.
    let t = front_there (with_lenient false (rules_asked c.args.limits.now)) c.args.kind c.args.room used c.args.input.now v h in
    let no : ◌≡◌ {A = Bool} true false = sym t.kind ∙ sym c.if-not-is_scalar.ensures in
    absurd cc

pub returns-in-Err : goal.returns-in-Err
returns-in-Err c = λ used v h.
    let t = front_there (with_lenient false (rules_asked c.args.limits.now)) c.args.kind c.args.room used c.args.input.now v h in
    let n : c.from_be_bytes-len.result ≡ from_be_bytes w32 (take 4 c.args.input.now) = c.from_be_bytes-len.ensures ∙ ap (λ (b : List ℕ). from_be_bytes w32 b) c.read_array.ensures in
    let e : 4 + c.from_be_bytes-len.result - 4 ≡ from_be_bytes w32 (take 4 c.args.input.now) = omega (arith, n) in
    let left : from_be_bytes w32 (take 4 c.args.input.now) ≤ length (drop 4 c.args.input.now) = omega (arith, t.there, length-drop 4 c.args.input.now) in
    let long = length-take-le (from_be_bytes w32 (take 4 c.args.input.now)) (drop 4 c.args.input.now) left in
    never_refused c.args.kind (take (from_be_bytes w32 (take 4 c.args.input.now)) (drop 4 c.args.input.now)) c.in-Err.field-0 (rw long t.allows) t.is (rw e at c.in-Err.ensures)
