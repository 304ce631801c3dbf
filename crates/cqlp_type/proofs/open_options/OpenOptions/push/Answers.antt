use Rattle.std.proofs.Common.{◌≡◌, ◌+◌, ◌++◌, ◌∷◌, [], List, length, ap}
use Rattle.std.proofs.lemmas.List.{length-append}
use Rattle.cqlp_type.specs.declared.open_options.OpenOption.{OpenOption}
use Rattle.cqlp_kind.specs.TypeStep.{TypeSymbol}
use Rattle.cqlp_type.proofs.Nesting.{pushed}
use Rattle.cqlp_type.proofs.open_options.OpenOptions.push.Goals as goal

pub returns : goal.returns
returns g c =
    let items = c.self.inside.options.items in
    let option : OpenOption = record { node = c.args.node; named = c.args.named; left = c.args.left } in
    let size : length (items ++ option ∷ []) ≡ length items + 1 = length-append items (option ∷ []) in
    rw (c.push_reserved.ensures.items, ← c.self.view_is, size) (ap (λ (x : List TypeSymbol). record { symbols = x; height = length items + 1; room = c.self.inside.room }) (pushed items option))
