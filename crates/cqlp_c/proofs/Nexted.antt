-- What a call that puts events answers.
use Rattle.std.proofs.Common.{◌≡◌, ℕ, List, Option, Some, None, refl, subst}
use Rattle.std.specs.Borrow.{Bor}
use Rattle.std.specs.Ptr.{Ptr}
use Rattle.cqlp_decode.specs.Streams.{Decoding}
use Rattle.cqlp_c.specs.declared.batch.Batch.{Batch}
use Rattle.cqlp_c.specs.declared.course.CqlpCourse.{CqlpCourse}
use Rattle.cqlp_c.specs.declared.event.CqlpEvent.{CqlpEvent}
use Rattle.cqlp_c.specs.declared.shown.CqlpBatch.{CqlpBatch}
use Rattle.cqlp_c.specs.declared.numbers.TheConstants as numbers
use Rattle.cqlp_c.specs.Batches.{BeginsAt}
use Rattle.cqlp_c.specs.Handle.{Nexts, PutsOn}
use Rattle.cqlp_c.specs.Shown.{batch_of}

pub nexts : (o new : Option Decoding) (d e : Decoding) (from to : CqlpCourse) → o ≡ Some d → new ≡ Some e → (input : Bor (List ℕ)) (bytes : List ℕ) → bytes ≡ input.now → (before after : List CqlpEvent) (was written : CqlpBatch) (b : Batch) → written ≡ batch_of b
    → (begins : Ptr) → BeginsAt input begins → PutsOn d e from to bytes begins b before after → Nexts o from input numbers.DONE new to before after was written
nexts None new d e from to is new_is input bytes same before after was written b shown begins there puts = absurd cc
nexts (Some x) new d e from to is new_is input bytes same before after was written b shown begins there puts =
    let first : d ≡ x = cc in
    (refl, e, new_is, b, shown, begins, there, subst (λ (z : List ℕ). PutsOn x e from to z begins b before after) same (subst (λ (z : Decoding). PutsOn z e from to bytes begins b before after) first puts))
