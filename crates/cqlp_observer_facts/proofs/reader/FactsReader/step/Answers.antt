use Rattle.std.proofs.Common.{◌≡◌, ℕ, List, length, take, cond, sym, ap, ◌∙◌, arith}
use Rattle.std.proofs.lemmas.List.{length-take-le}
use Rattle.std.proofs.Math.Seq.{take-length}
use Rattle.cqlp_observer_facts.specs.Reading.{before, is_before, passed, read}
use Rattle.cqlp_observer_facts.proofs.Pieces.{before_content, before_idle, read_idle, read_passing}
use Rattle.cqlp_observer_facts.proofs.reader.FactsReader.step.Goals as goal

pub returns-then-self-gt0-clause-after : goal.returns-then-self-gt0-clause-after
returns-then-self-gt0-clause-after c =
    let long : length (take c.min-used.result c.args.rest.now) ≡ c.min-used.result = length-take-le c.min-used.result c.args.rest.now (omega arith) in
    c.pass.ensures ∙ ap (λ (n : ℕ). passed n c.args.self.now) (sym long)
    ∙ sym (read_passing (take c.min-used.result c.args.rest.now) c.args.self.now (omega (arith, long)))

pub returns-then-self-gt0-clause-before : goal.returns-then-self-gt0-clause-before
returns-then-self-gt0-clause-before c =
    let long : length (take c.min-used.result c.args.rest.now) ≡ c.min-used.result = length-take-le c.min-used.result c.args.rest.now (omega arith) in
    before_content (take c.min-used.result c.args.rest.now) c.args.self.now (omega (arith, long)) (omega arith)
    ∙ ap (λ (n : ℕ). cond (is_before c.args.self.now) n 0) long

pub returns-then-is_idle-clause-after : goal.returns-then-is_idle-clause-after
returns-then-is_idle-clause-after c =
    let b = c.args.rest.now in
    let all : take (length b) b ≡ b = take-length b in
    sym (ap (λ (r : List ℕ). read r c.args.self.now) all ∙ read_idle b c.args.self.now (omega arith) (sym c.is_idle.ensures ∙ c.if-is_idle.true))

pub returns-then-is_idle-clause-before : goal.returns-then-is_idle-clause-before
returns-then-is_idle-clause-before c =
    let b = c.args.rest.now in
    let all : take (length b) b ≡ b = take-length b in
    ap (λ (r : List ℕ). before r c.args.self.now) all ∙ before_idle b c.args.self.now (omega arith) (sym c.is_idle.ensures ∙ c.if-is_idle.true)
