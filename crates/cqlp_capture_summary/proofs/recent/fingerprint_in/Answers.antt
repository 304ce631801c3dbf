use Rattle.std.proofs.Common.{◌∙◌, ◌≤◌, ap, arith, length}
use Rattle.cqlp_capture_summary.specs.Named.{fingerprint_of_name}
use Rattle.cqlp_capture_summary.proofs.Names.{short_kept}
use Rattle.cqlp_capture_summary.proofs.recent.fingerprint_in.Goals as goal

pub returns-in-Some : goal.returns-in-Some
returns-in-Some c =
    let few : length c.args.name.now ≤ 256 = omega (arith, c.if-name-gt-MOST.false) in
    c.fingerprint_at.ensures ∙ ap fingerprint_of_name (c.new-kept.ensures ∙ short_kept c.args.name.now c.args.is_whole few)
