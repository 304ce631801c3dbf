use Rattle.std.proofs.Common.{false, map, arith}
use Rattle.cqlp_type.specs.TypeLists.{listed_types}
use Rattle.cqlp_type_tables.proofs.Fitting.{nodes_few}
use Rattle.cqlp_type_tables.proofs.making.make.Goals as goal

pub overflow_cast-found-2 : goal.overflow_cast-found-2
overflow_cast-found-2 g c =
    let few = nodes_few false (listed_types (map g.T.HasType.type_of c.args.items.now)) in
    let size = c.find-found.ensures.size in
    let nodes = c.find-found.ensures.nodes in
    let short = c.if-found.false in
    omega arith

pub read_types-requires-clause-nodes : goal.read_types-requires-clause-nodes
read_types-requires-clause-nodes g c =
    let few = nodes_few false (listed_types (map g.T.HasType.type_of c.args.items.now)) in
    let size = c.find-found.ensures.size in
    let nodes = c.find-found.ensures.nodes in
    let short = c.if-found.false in
    omega arith
