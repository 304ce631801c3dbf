use Rattle.std.proofs.Common.{◌≡◌, ◌≢◌, ◌+◌, ◌-◌, ◌/◌, ◌%◌, ◌∷◌, [], ◌++◌, drop, sym, ap, ◌∙◌, append_assoc, length-set, arith}
use Rattle.std.proofs.lemmas.List.{drop-set}
use Rattle.cqlp_text.specs.CellText.{digits}
use Rattle.cqlp_text.proofs.CellTexts.{digits_last}
use Rattle.cqlp_text.proofs.digits.fill_with_digits.Goals as goal

pub loop-at-preserved : goal.loop-at-preserved
loop-at-preserved c =
    let l = c.loop-at in
    let d = 48 + l.left % 10 in
    let some : l.at ≢ 0 = λ z. omega (arith, z) in
    let same : l.at - 1 + 1 ≡ l.at = omega arith in
    let first = digits (l.at - 1) (l.left / 10) in (
      omega (arith, length-set l.room (l.at - 1) d),
      ap (λ t. first ++ t) (drop-set l.room (l.at - 1) d (omega arith) ∙ ap (λ k. d ∷ drop k l.room) same)
          ∙ sym (append_assoc first (d ∷ []) (drop l.at l.room)) ∙ ap (λ t. t ++ drop l.at l.room) (sym (digits_last l.at l.left some)) ∙ l.invariant.1,
    )
