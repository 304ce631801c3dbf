use Rattle.std.proofs.Common.{◌≡◌, ℕ, length, take, cond, sym, ap, ◌∙◌, arith}
use Rattle.std.proofs.lemmas.Bool.Decides.{nat_tests}
use Rattle.cqlp_observer_facts.specs.Bodies.{width}
use Rattle.cqlp_observer_facts.specs.Reading.{before, gone_on, is_before, read}
use Rattle.cqlp_observer_facts.proofs.Fields.{before_field, read_field}
use Rattle.cqlp_observer_facts.proofs.Pieces.{read_one}
use Rattle.cqlp_observer_facts.proofs.reader.FactsReader.take_field.Goals as goal

pub returns-then-width-rest-clause-after : goal.returns-then-width-rest-clause-after
returns-then-width-rest-clause-after c =
    let s = c.args.self.now in
    let b = c.args.rest.now in
    let w : c.width-width.result ≡ width s.due = c.width-width.ensures in
    let nothing : length s.front ≡ 0 = grind (arith, nat_tests, c.is_empty.ensures, c.if-is_empty.true) in
    c.pass_field.ensures ∙ ap (λ (n : ℕ). gone_on (take n b) s) w
    ∙ sym (read_field b s c.requires.none_passing c.requires.busy nothing (omega (arith, w, c.if-width-rest.true)))
    ∙ ap (λ (n : ℕ). read (take n b) s) (sym w)

pub returns-then-width-rest-clause-before : goal.returns-then-width-rest-clause-before
returns-then-width-rest-clause-before c =
    let s = c.args.self.now in
    let b = c.args.rest.now in
    let w : c.width-width.result ≡ width s.due = c.width-width.ensures in
    let nothing : length s.front ≡ 0 = grind (arith, nat_tests, c.is_empty.ensures, c.if-is_empty.true) in
    ap (λ (n : ℕ). before (take n b) s) w
    ∙ before_field b s c.requires.none_passing c.requires.busy nothing (omega (arith, w, c.if-width-rest.true))
    ∙ ap (λ (n : ℕ). cond (is_before s) n 0) (sym w)

pub returns-clause-after : goal.returns-clause-after
returns-clause-after c =
    c.take.ensures ∙ sym (read_one c.args.rest.now c.args.self.now c.requires.some c.requires.none_passing c.requires.busy)
