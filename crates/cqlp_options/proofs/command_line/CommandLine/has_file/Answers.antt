use Rattle.std.proofs.Common.{ap, ◌∙◌}
use Rattle.std.specs.List.{list_any}
use Rattle.std.specs.Str.{bytes_eq}
use Rattle.cqlp_options.proofs.Files.{other_file}
use Rattle.cqlp_options.proofs.command_line.CommandLine.has_file.Goals as goal

pub returns-else-eq : goal.returns-else-eq
returns-else-eq c =
    let options = c.in-Capture.options in
    let among = c.contains.ensures.value ∙ ap (list_any (λ x. bytes_eq x.now c.args.path.now)) c.deref.ensures.value in
    rw c.in-Capture.is (other_file options.file.now c.args.path.now options.more.items c.eq-in-Capture.result c.contains.result
    c.eq-in-Capture.ensures c.if-eq.false among)

pub returns-else-eq-2 : goal.returns-else-eq-2
returns-else-eq-2 c =
    let options = c.in-Merge.options in
    let among = c.contains-else-eq-2.ensures.value ∙ ap (list_any (λ x. bytes_eq x.now c.args.path.now)) c.deref-else-eq-2.ensures.value in
    rw c.in-Merge.is (other_file options.file.now c.args.path.now options.more.items c.eq-in-Merge.result c.contains-else-eq-2.result
    c.eq-in-Merge.ensures c.if-eq-2.false among)
