use Rattle.std.proofs.Common.{◌≡◌, ℕ, length, rules, subst, arith, w16, SFits, to_z, of_z}
use Rattle.std.proofs.lemmas.Int.{to_z-of_z}
use Rattle.std.specs.List.Sorted.{IsSearchInRange}
use Rattle.std.proofs.lemmas.List.Sorted.{answers_always}
use Rattle.cqlp_observer.specs.Messages.{id_of}
use Rattle.cqlp_observer.proofs.Places.{searched}
use Rattle.cqlp_observer.proofs.pairing.place_in.Goals as goal

-- the closure gives a message's id
pub returns : goal.returns
returns g c =
    let facts = c.binary_search_by_key.ensures in
    let by_key = facts.position (λ m. id_of m) (answers_always _ _ _ (λ f a r g called. search rules)) in
    let same : c.args.waiting.now.len ≡ length c.args.waiting.now.items = omega arith in
    let fits : SFits w16 c.args.id = search rules in
    let said = searched c.args.waiting.now.items (to_z w16 (of_z w16 c.args.id)) c.binary_search_by_key.result c.requires (subst (λ (n : ℕ). IsSearchInRange c.binary_search_by_key.result n) same facts.bound) by_key in
    let own = rw (to_z-of_z w16 c.args.id fits) at said in
    record { found = own.0; none = own.1 }
