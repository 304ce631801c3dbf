use Rattle.std.proofs.Common.{map}
use Rattle.clap.specs.Words.{app_of}
use Rattle.cqlp_options.proofs.Lines.{line_asked}
use Rattle.cqlp_options.proofs.command_line.parsed.Goals as goal

pub returns-in-Ok-clause-words : goal.returns-in-Ok-clause-words
returns-in-Ok-clause-words g c =
    line_asked (app_of c.in_ok-program.program) (map g.S.AsStr.text c.args.words.now) c.in_ok-matches.matches c.in-Ok.line c.in_ok-program.ensures
    c.in_ok-matches.ensures.ok.2 c.in-Ok.ensures.words
