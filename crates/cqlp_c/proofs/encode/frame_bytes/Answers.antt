use Rattle.std.proofs.Common.{◌≡◌, Ok, ap, subst, ◌∙◌}
use Rattle.cqlp_compose.specs.Composing.{ComposerState, composed, start}
use Rattle.cqlp_c.specs.Encoding.{after_all}
use Rattle.cqlp_c.proofs.Encoded.{all_used, encoded_by}
use Rattle.cqlp_c.proofs.encode.frame_bytes.Goals as goal

pub returns-in-Ok-write : goal.returns-in-Ok-write
returns-in-Ok-write c =
    let cs = c.args.events.now in
    let contents = c.args.contents.now in
    let s = composed c.take_all.new.composer in
    let all = subst (λ (k : ComposerState). after_all 0 (k, contents) cs ≡ Ok (s, c.in-Ok.rest.now)) (c.new-composer.ensures ∙ ap start c.longest.ensures) c.in-Ok.ensures in
    let none = all_used c.in-Ok.rest.now c.is_empty.result c.is_empty.ensures c.if-not-is_empty.false in
    encoded_by cs contents s c.in-Ok.rest.now all c.in-Ok-write.bytes.items none c.in-Ok-write.ensures
