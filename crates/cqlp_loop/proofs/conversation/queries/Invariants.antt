use Rattle.std.proofs.Common.{[]}
use Rattle.cqlp_note.specs.Outputs.{written}
use Rattle.cqlp_loop.specs.Script.{Plays, end_of, pairs, scene, wires}
use Rattle.cqlp_loop.proofs.conversation.queries.Given as goal

-- the pairs so far
abbrev pub invariant-loop-pair : goal.invariant-loop-pair
invariant-loop-pair g l = record {
  plays : Plays (pairs l.pair)
      (scene l.fn.caller l.fn.host [] (wires (end_of g.CS.Source g.CT.Target l.fn.client) (end_of g.SS.Source g.ST.Target l.fn.server) (written g.O.Target l.fn.out)))
      (scene l.caller l.host [] (wires (end_of g.CS.Source g.CT.Target l.client) (end_of g.SS.Source g.ST.Target l.server) (written g.O.Target l.out)));
}
