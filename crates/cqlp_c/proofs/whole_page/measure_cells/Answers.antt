use Rattle.std.proofs.Common.{◌≡◌, ◌*◌, ◌/◌, ◌∙◌, ℕ, List, [], arith, length, subst}
use Rattle.cqlp_c.specs.WholePages.{IsRun}
use Rattle.cqlp_c.proofs.CellWriting.{split_in_four}
use Rattle.cqlp_c.proofs.Encoded.{all_used}
use Rattle.cqlp_c.proofs.whole_page.measure_cells.Goals as goal

pub returns-then-events-cells_wanted : goal.returns-then-events-cells_wanted
returns-then-events-cells_wanted c =
    let n = length c.args.events.now / 4 in
    let f = c.args.page.now.frame in
    let none : c.in_ok-last.rest.now ≡ [] = all_used c.in_ok-last.rest.now c.is_empty.result c.is_empty.ensures c.if-is_empty.true in
    record {
      len = n;
      one = c.split_at.result.0.now;
      two = c.split_at-2.result.0.now;
      three = c.split_at-3.result.0.now;
      four = c.split_at-3.result.1.now;
      after_one = c.in_ok-first.rest.now;
      after_two = c.in_ok-second.rest.now;
      after_three = c.in_ok-third.rest.now;
      all = split_in_four n c.args.events.now c.split_at.result.1.now c.split_at-2.result.1.now c.split_at.result.0.now c.split_at-2.result.0.now c.split_at-3.result.0.now c.split_at-3.result.1.now
          c.split_at.ensures.front c.split_at.ensures.back c.split_at-2.ensures.front c.split_at-2.ensures.back c.split_at-3.ensures.front c.split_at-3.ensures.back;
      first = c.in_ok-first.ensures;
      second = c.in_ok-second.ensures;
      third = c.in_ok-third.ensures;
      last = subst (λ (rest : List ℕ). IsRun f (3 * n) c.in_ok-third.rest.now c.split_at-3.result.1.now c.in_ok-last.last rest) none c.in_ok-last.ensures;
      long_one = c.split_at.ensures.front_len;
      long_two = c.split_at-2.ensures.front_len;
      long_three = c.split_at-3.ensures.front_len;
      long_four = omega (arith, c.split_at.ensures.back_len, c.split_at-2.ensures.back_len, c.split_at-3.ensures.back_len);
      come = c.if-events-cells_wanted.true ∙ c.cells_wanted.ensures;
    }
