use Rattle.std.proofs.Common.{◌≡◌, ◌++◌, length, drop}
use Rattle.std.specs.Prelude.{string_bytes}
use Rattle.std.specs.List.{flat_map}
use Rattle.std.specs.Str.{chars}
use Rattle.cqlp_options.specs.Reported.{reported, reported_char}
use Rattle.cqlp_options.proofs.reported.report.Given as goal

abbrev pub invariant-loop-c : goal.invariant-loop-c
invariant-loop-c l = string_bytes l.text ++ flat_map reported_char (drop (length l.yielded) (chars l.word)) ≡ reported l.word
