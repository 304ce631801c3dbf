use Rattle.std.proofs.Common.{◌≡◌, ◌+◌, ◌-◌, ◌++◌, ◌∷◌, [], length, refl, arith}
use Rattle.std.proofs.lemmas.List.{length-append}
use Rattle.cqlp_type.specs.declared.open_options.OpenOption.{OpenOption}
use Rattle.cqlp_type.proofs.Nesting.{last_whole, last_inner}
use Rattle.cqlp_type.proofs.open_options.OpenOptions.next.Goals as goal

pub returns-then-option-eq0 : goal.returns-then-option-eq0
returns-then-option-eq0 g c =
    let items = c.pop.new.self.items in
    let option = c.in-Some.option in
    let old = c.in-Some.ensures.items in
    let size : length (items ++ option ∷ []) ≡ length items + 1 = length-append items (option ∷ []) in
    rw (← c.self.view_is, old) (last_whole items option c.if-option-eq0.true, size, refl)

pub returns : goal.returns
returns g c =
    let items = c.pop.new.self.items in
    let option = c.in-Some.option in
    let old = c.in-Some.ensures.items in
    let next : OpenOption = record option { left = option.left - 1 } in
    let size : length (items ++ option ∷ []) ≡ length items + 1 = length-append items (option ∷ []) in
    let same : length (items ++ next ∷ []) ≡ length items + 1 = length-append items (next ∷ []) in
    rw (← c.self.view_is, old, c.push_reserved.ensures.items) (last_inner items option (omega arith), omega arith, refl)
