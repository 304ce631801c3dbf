use Rattle.std.proofs.Common.{length}
use Rattle.cqlp_grammar.specs.Upcoming.{opened}
use Rattle.cqlp_grammar.proofs.Stack.{others_have_room}
use Rattle.cqlp_grammar.proofs.upcoming.Upcoming.push_others.Goals as goal

pub returns-clause-room : goal.returns-clause-room
returns-clause-room c = λ w first.
    let fields = c.group_fields.ensures in
    rw c.push_fields.ensures.height (others_have_room c.group_fields.result.now (opened c.args.group) (length c.args.self.now) w fields.some fields.first c.requires (rw (← fields.fields) at first))
