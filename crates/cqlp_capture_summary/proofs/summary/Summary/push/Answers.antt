use Rattle.std.proofs.Common.{◌≡◌, ◌∙◌, [], ◌∷◌, ◌++◌, None, sym, ap, subst, rules}
use Rattle.std.specs.List.{position}
use Rattle.cqlp_capture_summary.specs.Names.{AreApart, is_same}
use Rattle.cqlp_capture_summary.proofs.Apart.{apart_push}
use Rattle.cqlp_capture_summary.proofs.summary.Summary.push.Goals as goal

pub invariant_of-self : goal.invariant_of-self
invariant_of-self g c =
    let absent : position (is_same c.args.name) c.self.inside.names.items ≡ None = ap (λ v. position (is_same c.args.name) v.names) c.self.view_is ∙ c.requires.absent in
    let items : c.push_reserved.new.self.items ≡ c.self.inside.names.items ++ c.args.name ∷ [] = c.push_reserved.ensures.items in (
      search rules,
      search rules,
      search rules,
      search rules,
      search rules,
      search rules,
      search rules,
      search rules,
      search rules,
      subst AreApart (sym items) (apart_push c.args.name c.self.inside.names.items absent c.self.invariant.9),
    )
