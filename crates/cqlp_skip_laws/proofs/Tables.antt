-- Tables that are given and taken back have one answer.
use Rattle.std.proofs.Common.{◌≡◌, refl, sym, ap, ◌∙◌}
use Rattle.std.specs.Prelude.{Option, Some, None}
use Rattle.cqlp_type.specs.Table.{Table}
use Rattle.cqlp_decode.specs.declared.given.GiveReason.{GiveReason}
use Rattle.cqlp_decode.specs.Giving.{after_taking, reason_against}
use Rattle.cqlp_skip.specs.Skipping.{Skipping, stream}
use Rattle.cqlp_skip_laws.specs.Laws.{Back, Given_to, IsOneAnswerOfGive, IsOneAnswerOfTaking, LookAlike}

module _ (old new new' : Skipping) (at : new ≡ record old { decoder = new.decoder }) (at' : new' ≡ record old { decoder = new'.decoder }) where
  alike : stream new' ≡ stream new → LookAlike new new'
  alike same = (
    same,
    ap (λ (z : Skipping). z.base) at' ∙ sym (ap (λ (z : Skipping). z.base) at),
    ap (λ (z : Skipping). z.used) at' ∙ sym (ap (λ (z : Skipping). z.used) at),
    ap (λ (z : Skipping). z.frame) at' ∙ sym (ap (λ (z : Skipping). z.frame) at),
    ap (λ (z : Skipping). z.last) at' ∙ sym (ap (λ (z : Skipping). z.last) at),
  )

module _ (old new new' : Skipping) (table : Table) (back back' : Back) (x : Given_to old new table back) (y : Given_to old new' table back') where
  by_reason : (o : Option GiveReason) → reason_against (stream old) table.nodes ≡ o → (back' ≡ back) × LookAlike new new'
  by_reason None is =
      let a = x.taken is in
      let b = y.taken is in
      (b.0 ∙ sym a.0, alike old new new' x.place y.place (b.1 ∙ sym a.1))
  by_reason (Some w) is =
      let a = x.refused w is in
      let b = y.refused w is in
      (b.0 ∙ sym a.0, alike old new new' x.place y.place (ap stream (b.1 ∙ sym a.1)))

pub one_giving : IsOneAnswerOfGive
one_giving old new new' table back back' x y = by_reason old new new' table back back' x y (reason_against (stream old) table.nodes) refl

pub one_taking : IsOneAnswerOfTaking
one_taking old new new' back back' x y =
    let same : back' ≡ back = y.given ∙ sym x.given in
    (same, alike old new new' x.place y.place (y.left ∙ ap (λ (o : Option Table). after_taking o (stream old)) same ∙ sym x.left))
