use Rattle.std.proofs.Common.{◌≡◌, ◌+◌, ◌-◌, List, ℕ, true, false, Bool, take, drop, sym, ap, ◌∙◌, arith}
use Rattle.cqlp_note.specs.Partial.{accepts, content_value}
use Rattle.cqlp_note.proofs.Pieces.{content_is}
use Rattle.cqlp_note.proofs.Wholes.{got_content}
use Rattle.cqlp_note.proofs.whole.front_content.Goals as goal
use Rattle.cqlp_note.proofs.whole.front_content.Goals.{then-len-wanted-via-then-len-wanted, then-len-wanted-via-else-len-wanted+then-used-wanted, then-len-wanted-via-else-len-wanted+else-used-wanted+then-used-input}

pub returns : goal.returns
returns c =
    let w = c.args.wanted in
    let input = c.args.input.now in
    let start = c.args.start in
    let len = c.args.len in
    let form = c.args.form in
    let count : start + len - start ≡ len = omega arith in
    let same : take (start + len - start) (drop start input) ≡ take len (drop start input) = ap (λ (k : ℕ). take k (drop start input)) count in
    let there : accepts form (take len (drop start input)) ≡ true = ap (λ (b : List ℕ). accepts form b) (sym same) ∙ sym c.accepts.ensures ∙ c.if-not-accepts.false in
    let is = content_is w input start len form c.requires (omega (arith, c.if-len-wanted.false), omega (arith, c.if-used-wanted.false), omega (arith, c.if-used-input.false), there) in
    let value = c.prim.ensures ∙ ap (λ (b : List ℕ). content_value form b) same in
    record { is = rw value is; within = omega (arith, c.if-used-input.false) }

pub returns-then-len-wanted : goal.returns-then-len-wanted
returns-then-len-wanted c whole used v said =
    let has = got_content c.args.wanted c.args.input.now c.args.start c.args.len c.args.form used v c.requires said in
    elim c.then-len-wanted.branch [
      | then-len-wanted-via-then-len-wanted w ↦ absurd (omega (arith, w.if-len-wanted, has.0))
      | then-len-wanted-via-else-len-wanted+then-used-wanted w ↦ absurd (omega (arith, w.if-used-wanted, has.1))
      | then-len-wanted-via-else-len-wanted+else-used-wanted+then-used-input w ↦ absurd (omega (arith, w.if-used-input, has.2))
    ]

pub returns-then-not-accepts : goal.returns-then-not-accepts
returns-then-not-accepts c whole used v said =
    let start = c.args.start in
    let len = c.args.len in
    let input = c.args.input.now in
    let has = got_content c.args.wanted input start len c.args.form used v c.requires said in
    let count : start + len - start ≡ len = omega arith in
    let same : take (start + len - start) (drop start input) ≡ take len (drop start input) = ap (λ (k : ℕ). take k (drop start input)) count in
    let refused : accepts c.args.form (take len (drop start input)) ≡ false = ap (λ (b : List ℕ). accepts c.args.form b) (sym same) ∙ sym c.accepts.ensures ∙ c.if-not-accepts.true in
    let both : ◌≡◌ {A = Bool} true false = sym has.3 ∙ refused in
    absurd cc
