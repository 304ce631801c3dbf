use Rattle.std.proofs.Common.{◌≡◌, ℕ, ◌+◌, ◌-◌, true, List, length, take, drop, cond, sym, ap, ◌∙◌, arith, Bool}
use Rattle.std.proofs.lemmas.Bool.Decides.{nat_tests}
use Rattle.std.proofs.lemmas.List.{length-drop, take_rest}
use Rattle.cqlp_observer_facts.specs.declared.reader.FactsReader.{FactsReader}
use Rattle.cqlp_observer_facts.specs.Reading.{before, is_before, read}
use Rattle.cqlp_observer_facts.proofs.Fields.{nothing_in}
use Rattle.cqlp_observer_facts.proofs.Message.{none_before}
use Rattle.cqlp_observer_facts.proofs.Pieces.{before_rest, read_rest}
use Rattle.cqlp_observer_facts.proofs.reader.FactsReader.read.Goals as goal
use Rattle.cqlp_observer_facts.proofs.reader.FactsReader.read.Goals.{then-loop-self-test+else-is_before, else-loop-self-test}

pub loop-self-preserved : goal.loop-self-preserved
loop-self-preserved c =
    let b = c.loop-self.rest.now in
    let s = c.loop-self.self in
    let t = c.step_before-used.new.self in
    let n = c.step_before-used.result in
    let known = c.loop-self.invariant in
    let left : take (length b - n) (drop n b) ≡ drop n b = take_rest b n in
    let on : read (drop n b) t ≡ read b s =
    ap (λ (u : FactsReader). read (drop n b) u) c.step_before-used.ensures.after ∙ read_rest n b s in
    let count : before (take n b) s + before (drop n b) t ≡ before b s =
    ap (λ (u : FactsReader). before (take n b) s + before (drop n b) u) c.step_before-used.ensures.after ∙ before_rest n b s in
    let is : is_before s ≡ true = sym c.is_before.ensures ∙ c.if-is_before.true in
    let all : before (take n b) s ≡ n = c.step_before-used.ensures.before ∙ ap (λ (f : Bool). cond f n 0) is in (
      ap (λ (r : List ℕ). read r t) left ∙ on ∙ known.0,
      ap (λ (r : List ℕ). c.loop-self.before + n + before r t) left ∙ omega (arith, count, all, known.1),
      omega (arith, ap (λ (r : List ℕ). length r) left, length-drop n b, known.2),
    )

pub loop-rest-init : goal.loop-rest-init
loop-rest-init c =
    let b = c.loop-self.rest.now in
    let s = c.loop-self.self in
    let known = c.loop-self.invariant in
    let none : before b s ≡ 0 = elim c.loop-self-test.branch [
      | then-loop-self-test+else-is_before w ↦ none_before b s (sym w.is_before.ensures ∙ w.if-is_before.false)
      | else-loop-self-test w ↦ ap (λ (r : List ℕ). before r s) (nothing_in b (grind (arith, nat_tests, c.is_empty.ensures, w.loop-self-test)))
    ] in (
      known.0,
      omega (arith, none, known.1),
      omega (arith, known.2),
    )

pub loop-rest-preserved : goal.loop-rest-preserved
loop-rest-preserved c =
    let b = c.loop-rest.rest.now in
    let s = c.loop-rest.self in
    let t = c.step-used.new.self in
    let n = c.step-used.result in
    let known = c.loop-rest.invariant in
    let left : take (length b - n) (drop n b) ≡ drop n b = take_rest b n in
    let on : read (drop n b) t ≡ read b s =
    ap (λ (u : FactsReader). read (drop n b) u) c.step-used.ensures.after ∙ read_rest n b s in (
      ap (λ (r : List ℕ). read r t) left ∙ on ∙ known.0,
      known.1,
      known.2,
    )
