use Rattle.std.proofs.Common.{◌≡◌, ◌+◌, ◌-◌, ◌≤◌, ◌++◌, length, drop}
use Rattle.cqlp_grammar.specs.Upcoming.{symbols_in, wants}
use Rattle.cqlp_grammar.proofs.upcoming.Upcoming.push_fields.Given as goal

-- the fields from number `left` on are before all else
abbrev pub invariant-loop-left : goal.invariant-loop-left
invariant-loop-left l = record {
  within : l.left ≤ length l.fields;
  symbols : symbols_in l.self ≡ wants (drop l.left l.fields) ++ symbols_in l.fn.self;
  height : length l.self ≡ length l.fn.self + (length l.fields - l.left);
}

abbrev pub decreases-loop-left : goal.decreases-loop-left
decreases-loop-left l = l.left
