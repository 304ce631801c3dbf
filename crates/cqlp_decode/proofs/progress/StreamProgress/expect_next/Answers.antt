use Rattle.std.specs.Prelude.{Some, None}
use Rattle.cqlp_grammar.specs.declared.productions.Expected.TheVariants as due
use Rattle.cqlp_grammar.specs.Upcoming.{IsDue}
use Rattle.cqlp_decode.proofs.Steps.{passed_symbols, passed_room}
use Rattle.cqlp_decode.proofs.progress.StreamProgress.expect_next.Goals as goal
use Rattle.cqlp_decode.proofs.progress.StreamProgress.expect_next.Goals.{in-Some-Field, in-Some-Option, in-None}

pub returns-clause-symbols : goal.returns-clause-symbols
returns-clause-symbols c = λ q. elim c.match-due.branch [
  | in-Some-Field w ↦
      let found : IsDue c.args.self.now.upcoming (Some w.in-Some-Field.field-0.now) = rw w.in-Some-Field.is at c.due.ensures in
      passed_symbols c.args.self.now c.match-due.self c.pass.new.self (Some (due.Field w.in-Some-Field.want)) w.self-is (rw w.in-Some-Field.field-0-is at found) c.pass.ensures q
  | in-Some-Option w ↦
      let found : IsDue c.args.self.now.upcoming (Some w.in-Some-Option.field-0.now) = rw w.in-Some-Option.is at c.due.ensures in
      passed_symbols c.args.self.now c.match-due.self c.pass.new.self (Some due.Option) w.self-is (rw w.in-Some-Option.field-0-is at found) c.pass.ensures q
  | in-None w ↦ passed_symbols c.args.self.now c.match-due.self c.pass.new.self None w.self-is (rw w.in-None.is at c.due.ensures) c.pass.ensures q
]

pub returns-clause-room : goal.returns-clause-room
returns-clause-room c = elim c.match-due.branch [
  | in-Some-Field w ↦
      let found : IsDue c.args.self.now.upcoming (Some w.in-Some-Field.field-0.now) = rw w.in-Some-Field.is at c.due.ensures in
      passed_room c.args.self.now c.match-due.self c.pass.new.self (Some (due.Field w.in-Some-Field.want)) w.self-is (rw w.in-Some-Field.field-0-is at found) c.pass.ensures
  | in-Some-Option w ↦
      let found : IsDue c.args.self.now.upcoming (Some w.in-Some-Option.field-0.now) = rw w.in-Some-Option.is at c.due.ensures in
      passed_room c.args.self.now c.match-due.self c.pass.new.self (Some due.Option) w.self-is (rw w.in-Some-Option.field-0-is at found) c.pass.ensures
  | in-None w ↦ passed_room c.args.self.now c.match-due.self c.pass.new.self None w.self-is (rw w.in-None.is at c.due.ensures) c.pass.ensures
]
