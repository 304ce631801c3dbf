use Rattle.std.proofs.Common.{◌≡◌, ◌∙◌, ◌++◌, [], ◌∷◌, ap, arith, length, min}
use Rattle.std.proofs.lemmas.List.{length-take}
use Rattle.cqlp_capture_exchanges.specs.Labels.{Label}
use Rattle.cqlp_capture_exchanges.proofs.batch_name.batch_name.Goals as goal

pub add-requires-2 : goal.add-requires-2
add-requires-2 c =
    let word : length c.add.new.self.text ≡ 6 = ap (λ (l : Label). length l.text) c.add.ensures ∙ ap (λ (l : Label). length (l.text ++ (66 ∷ 65 ∷ 84 ∷ 67 ∷ 72 ∷ 32 ∷ []))) c.new-name.ensures in
    let front : length c.front_of.result.now ≡ min 250 (length c.args.text.now) = ap length c.front_of.ensures ∙ length-take 250 c.args.text.now in
    omega (arith, word, front)
