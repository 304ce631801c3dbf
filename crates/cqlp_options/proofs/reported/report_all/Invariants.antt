use Rattle.std.proofs.Common.{◌≡◌, map, take, string_bytes}
use Rattle.cqlp_options.specs.Reported.{reported}
use Rattle.cqlp_options.proofs.reported.report_all.Given as goal

abbrev pub invariant-loop-word : goal.invariant-loop-word
invariant-loop-word l = map string_bytes l.texts.items ≡ map (λ w. reported w.now) (take l.word-index l.words)
