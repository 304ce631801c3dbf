-- The program's command line as its parser is given it: the words of each task, and how each is given.
use Rattle.std.specs.Prelude.{ℕ, true, false, List, [], ◌∷◌, ◌++◌, Some, codes, pos}
use Rattle.clap.specs.Simple.{new_shape}
use Rattle.clap.specs.Words.{App, Rule, Shape, Text, new_rule}
use Rattle.clap.specs.declared.builder.action.ArgAction.TheVariants.{Append, SetTrue}
use Rattle.clap.specs.declared.builder.value_parser.ValueParser.TheVariants as parser

-- ---- how a word is given

-- a path in its place
abbrev pub path : Text → Rule
path name = record (new_rule name) { value_names = 1; required = true }

-- one or more paths in their place
abbrev pub paths : Text → Rule
paths name = record (path name) { action = Some Append }

-- by its name alone
abbrev pub flag : Text → Rule
flag name = record (new_rule name) { long = Some name; action = Some SetTrue }

-- by its name and a text
abbrev pub named : Text → Rule
named name = record (new_rule name) { long = Some name; value_names = 1 }

-- with a number from the least to the greatest
abbrev pub in_range : (least greatest : ℕ) → Rule → Rule
in_range least greatest word = record word { parser = Some (parser.Signed (pos least) (pos greatest)) }

-- with a number from 1
abbrev pub from_one : Rule → Rule
from_one word = record word { parser = Some (parser.Unsigned 1 18446744073709551615) }

-- once or more often, and as this text where it is not given
abbrev pub repeated : (default : Text) → Rule → Rule
repeated default word = record word { action = Some Append; defaults = default ∷ [] }

-- with others that it needs or does not go with
abbrev pub bound : Rule → Rule
bound word = record word { is_free = false }

-- ---- the words of each task

abbrev pub reading : List Rule
reading =
    path (codes "file")
    ∷ in_range 32 16777216 (named (codes "text"))
    ∷ in_range 32 16777216 (named (codes "cell"))
    ∷ in_range 1 65536 (named (codes "entries"))
    ∷ in_range 1 64 (named (codes "depth"))
    ∷ flag (codes "raw")
    ∷ flag (codes "parts")
    ∷ flag (codes "lenient")
    ∷ flag (codes "skip")
    ∷ []

abbrev pub capture : List Rule
capture =
    paths (codes "file")
    ∷ flag (codes "follow")
    ∷ repeated (codes "9042") (in_range 1 65535 (named (codes "port")))
    ∷ in_range 0 4294967295 (named (codes "slow"))
    ∷ flag (codes "errors")
    ∷ named (codes "opcode")
    ∷ named (codes "kind")
    ∷ named (codes "client")
    ∷ named (codes "node")
    ∷ named (codes "from")
    ∷ named (codes "to")
    ∷ named (codes "statement")
    ∷ named (codes "statement-regex")
    ∷ bound (named (codes "statements"))
    ∷ from_one (named (codes "connection"))
    ∷ bound (named (codes "streams"))
    ∷ bound (flag (codes "json"))
    ∷ bound (flag (codes "csv"))
    ∷ bound (flag (codes "values"))
    ∷ bound (flag (codes "utc"))
    ∷ bound (flag (codes "ends"))
    ∷ bound (flag (codes "summary"))
    ∷ bound (named (codes "by"))
    ∷ bound (flag (codes "literal"))
    ∷ bound (in_range 1 86400 (named (codes "every")))
    ∷ bound (flag (codes "histogram"))
    ∷ bound (flag (codes "events"))
    ∷ bound (flag (codes "rows"))
    ∷ in_range 1 1048576 (named (codes "connections"))
    ∷ in_range 1 16777216 (named (codes "open"))
    ∷ in_range 1 4096 (named (codes "early"))
    ∷ in_range 1 4096 (named (codes "text"))
    ∷ in_range 0 65536 (named (codes "order"))
    ∷ []

abbrev pub merge : List Rule
merge = paths (codes "file") ∷ flag (codes "json") ∷ []

abbrev pub task : (name : Text) → List Rule → Shape
task name words = record (new_shape name) { rules = words }

abbrev pub tasks : List Shape
tasks =
    task (codes "show") (reading ++ flag (codes "json") ∷ [])
    ∷ task (codes "rows") (reading ++ bound (flag (codes "json")) ∷ flag (codes "csv") ∷ [])
    ∷ task (codes "check") reading
    ∷ task (codes "loop") (in_range 1 1000 (path (codes "queries")) ∷ [])
    ∷ task (codes "capture") capture
    ∷ task (codes "merge") merge
    ∷ []

-- the program itself, to which one of its tasks is given
abbrev pub without_tasks : App
without_tasks = record {
  top = record (new_shape (codes "cqlp")) {
    no_binary_name = true;
    has_version = true;
    subcommand_required = true;
  };
  subs = [];
}

abbrev pub program : App
program = record { top = record without_tasks.top { is_leaf = false }; subs = tasks }
