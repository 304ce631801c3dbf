-- From what the parser met to what a command line asks for.
use Rattle.std.proofs.Common.{◌≡◌, true, List, Option, Some, None, Box, refl, ap, subst, option_map, is_some, unwrap_or, ◌∙◌}
use Rattle.std.proofs.lemmas.Bool.{true≢false}
use Rattle.std.specs.Box.{box_value}
use Rattle.clap.proofs.OnLiterals.{clap_on_literals}
use Rattle.clap.specs.Simple.{subcommand_rows}
use Rattle.clap.specs.Words.{App, HasMatchesOf, Row, Text, is_simple, subcommand_name_of, subcommand_of, subcommand_rows_of}
use Rattle.clap.specs.declared.parser.matches.ArgMatches.{ArgMatches}
use Rattle.clap.specs.declared.parser.matches.ArgMatches.TheViews.{out-ArgMatches, out-SubCommand}
use Rattle.clap.specs.declared.parser.matches.SubCommand.{SubCommand}
use Rattle.cqlp_options.specs.Matched.{AskFor, IsLine, IsLineOf}
use Rattle.cqlp_options.specs.Program.{program}
use Rattle.cqlp_options.specs.declared.command_line.CommandLine.{CommandLine}

names : {Z : Type 0} (o : Option (Box SubCommand Z))
    → option_map (λ b. (out-SubCommand (box_value b)).name.now) o ≡ option_map (λ p. p.0) (subcommand_rows o)
names None = refl
names (Some b) = refl

at_pair : (o : Option (Text × List Row)) (name : Text) (rows : List Row) (line : CommandLine)
    → Some name ≡ option_map (λ p. p.0) o → Some rows ≡ option_map (λ p. p.1) o → IsLine name rows line → IsLineOf o line
at_pair None name rows line is_name is_rows h = absurd (true≢false (ap is_some is_name))
at_pair (Some p) name rows line is_name is_rows h =
    subst (λ (t : Text). IsLine t p.1 line) (ap (λ o. unwrap_or o name) is_name)
    (subst (λ (r : List Row). IsLine name r line) (ap (λ o. unwrap_or o rows) is_rows) h)

-- the subcommand that was met, with its rows
pub line_met : (m : ArgMatches) (name : Text) (rows : List Row) (line : CommandLine)
    → Some name ≡ subcommand_name_of m → Some rows ≡ option_map (λ p. p.1) (subcommand_rows (out-ArgMatches m).subcommand)
    → IsLine name rows line → IsLineOf (subcommand_rows_of m) line
line_met m name rows line is_name is_rows h =
    at_pair (subcommand_rows_of m) name rows line (is_name ∙ names (out-ArgMatches m).subcommand) is_rows h

program_simple : is_simple program ≡ true
unfolding clap_on_literals
program_simple = refl

-- what was met in the words is what they ask for
pub line_asked : (a : App) (words : List Text) (m : ArgMatches) (line : CommandLine)
    → a ≡ program → HasMatchesOf a words m → IsLineOf (subcommand_rows_of m) line → AskFor words line
line_asked a words m line is_program has h =
    subst (λ (o : Option (Text × List Row)). IsLineOf o line)
    ((has (ap is_simple is_program ∙ program_simple)).1 ∙ ap (λ (b : App). subcommand_of b words) is_program) h
