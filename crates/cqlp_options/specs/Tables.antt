-- What the program's own tables of tasks and words say to the parser.
use Rattle.std.specs.Prelude.{◌&&◌, ◌==◌, List, [], ◌∷◌, length, map, pos}
use Rattle.std.specs.List.{flat_map}
use Rattle.clap.specs.Words.{App, Rule, Shape, Text, with_rule, with_subcommand}
use Rattle.clap.specs.declared.builder.value_parser.ValueParser.{ValueParser}
use Rattle.clap.specs.declared.builder.value_parser.ValueParser.TheVariants as parser
use Rattle.cqlp_note.specs.declared.limits.LimitRange.{LimitRange}
use Rattle.cqlp_options.specs.Program as model
use Rattle.cqlp_options.specs.declared.program.Form.{Form}
use Rattle.cqlp_options.specs.declared.program.Form.TheVariants as form
use Rattle.cqlp_options.specs.declared.program.Task.{Task}
use Rattle.cqlp_options.specs.declared.program.Word.{Word}

abbrev pub parser_in : LimitRange → ValueParser
parser_in range = parser.Signed (pos range.least) (pos range.greatest)

-- a word of this name, given in this form
abbrev pub rule_in : Text → Form → Rule
rule_in name form.File = model.path name
rule_in name form.Files = model.paths name
rule_in name (form.Count range) = model.in_range range.least range.greatest (model.path name)
rule_in name form.Flag = model.flag name
rule_in name (form.Text value) = model.named name
rule_in name (form.Number value range) = model.in_range range.least range.greatest (model.named name)
rule_in name (form.Numbers range default) = model.repeated default.now (model.in_range range.least range.greatest (model.named name))
rule_in name form.Place = model.from_one (model.named name)

abbrev pub rule_for : Word → Rule
rule_for w = record (rule_in w.name.now w.form) { is_free = (length w.without.now == 0) && (length w.«with».now == 0) }

abbrev pub rules_for : Task → List Rule
rules_for t = flat_map (λ words. map rule_for words.now) t.words.now

abbrev pub shape_for : Task → Shape
shape_for t = model.task t.name.now (rules_for t)

-- with each of the rules in turn
abbrev pub with_rules : App → List Rule → App
with_rules a [] = a
with_rules a (r ∷ rs) = with_rules (with_rule a r) rs

-- with each of the tasks in turn
abbrev pub with_tasks : App → List Task → App
with_tasks a [] = a
with_tasks a (t ∷ ts) = with_tasks (with_subcommand a (shape_for t)) ts
