use Rattle.std.proofs.Common.{◌≡◌, List, [], ◌∷◌, ◌++◌, refl, sym, ap, ◌∙◌, append_assoc}
use Rattle.cqlp_note.specs.Head.{value_of}
use Rattle.cqlp_kind.specs.Types.{NoMore}
use Rattle.cqlp_grammar.specs.Productions.{Symbol, Extra, following}
use Rattle.cqlp_grammar.specs.Upcoming.{symbols_in}
use Rattle.cqlp_decode.specs.Reading.{serves_after}
use Rattle.cqlp_decode.specs.Pages.{HoldsForest, given_of}
use Rattle.cqlp_decode.specs.declared.progress.StreamProgress.{StreamProgress}
use Rattle.cqlp_decode.specs.Progress.{rest_of}
use Rattle.cqlp_decode.proofs.Columns.{given_forest, use_given}
use Rattle.cqlp_decode.proofs.Steps.{starts_bare}
use Rattle.cqlp_decode.proofs.progress.StreamProgress.follow.Goals as goal

pub returns-in-Some-clause-goes_on : goal.returns-in-Some-clause-goes_on
returns-in-Some-clause-goes_on g c = λ q nodes given.
    let depth = c.args.self.now.limits.depth in
    let u = c.args.self.now.given_use in
    let held : HoldsForest depth c.args.given.now = given_forest c.args.self.now.limits c.args.given.now c.requires.given in
    let served : c.serves-served.result ≡ serves_after c.args.role (given_of u c.args.given.now) = c.serves-served.ensures depth held in
    let follows = c.in-Some.ensures u served depth c.requires.forest held in
    rw (nodes, given) (
      ap (λ (z : List Symbol). z ++ rest_of c.args.self.now.upcoming) (sym follows.0),
      (follows.1, λ typed. rw (c.with_page-self.ensures, use_given c.serves-served.result u c.args.given.now c.args.role served, follows.2 typed) refl),
    )

pub returns-in-Some-clause-given : goal.returns-in-Some-clause-given
returns-in-Some-clause-given g c =
    let served = c.serves-served.ensures c.args.self.now.limits.depth (given_forest c.args.self.now.limits c.args.given.now c.requires.given) in
    rw c.with_page-self.ensures (use_given c.serves-served.result c.args.self.now.given_use c.args.given.now c.args.role served)

pub returns-clause-goes_on : goal.returns-clause-goes_on
returns-clause-goes_on g c = λ q nodes given.
    let depth = c.args.self.now.limits.depth in
    let u = c.args.self.now.given_use in
    let held : HoldsForest depth c.args.given.now = given_forest c.args.self.now.limits c.args.given.now c.requires.given in
    let served : c.serves-served.result ≡ serves_after c.args.role (given_of u c.args.given.now) = c.serves-served.ensures depth held in
    let follows = c.in_default.ensures u served depth c.requires.forest held in (
      c.expect_next.ensures.symbols q ∙ ap (λ (z : List Symbol). z ++ Extra ∷ []) c.follow.ensures
          ∙ append_assoc (following NoMore c.args.role (value_of c.args.value)) (symbols_in c.args.self.now.upcoming) (Extra ∷ [])
          ∙ ap (λ (z : List Symbol). z ++ rest_of c.args.self.now.upcoming) (sym follows),
      starts_bare c.expect_next.new.self q c.expect_next.new.self.stage c.expect_next.ensures.room,
    )

pub returns-clause-given : goal.returns-clause-given
returns-clause-given g c =
    let served = c.serves-served.ensures c.args.self.now.limits.depth (given_forest c.args.self.now.limits c.args.given.now c.requires.given) in
    rw (ap (λ (z : StreamProgress). z.given_use) c.expect_next.ensures.rest, c.with_page-self.ensures) (use_given c.serves-served.result c.args.self.now.given_use c.args.given.now c.args.role served)
