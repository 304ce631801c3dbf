-- One run after another.
use Rattle.std.proofs.Common.{◌≡◌, ◌≢◌, ℕ, ◌+◌, ◌≤◌, List, ◌++◌, length, Option, None, refl, sym, ap, ◌∙◌, append_assoc, arith}
use Rattle.std.proofs.lemmas.List.{length-append}
use Rattle.cqlp_decode.specs.declared.running.Outcome.{Outcome}
use Rattle.cqlp_decode.specs.declared.running.Outcome.TheVariants as outcome
use Rattle.cqlp_decode.specs.Reading.{Event}
use Rattle.cqlp_decode.specs.Progress.{StreamState}
use Rattle.cqlp_decode.specs.Draining.{Calls, Feeds, FeedsInto, HasAll, InReads, MakesReads, RunsTo, idle_reads}
use Rattle.cqlp_decode.proofs.Asking.{asks_then}
use Rattle.cqlp_decode.proofs.Gets.{drains_then, fails_then}

module _ {V : Type 0} (f : V → ℕ → Event → V) (old mid new : StreamState) (xs : List ℕ) (u v w : V) (d : Feeds f old mid xs u v) where
  parts_on : (bytes rest : List ℕ) → d.rest ≡ bytes ++ rest → xs ≡ (d.bytes ++ bytes) ++ rest
  parts_on bytes rest parts = d.parts ∙ ap (λ z. d.bytes ++ z) parts ∙ sym (append_assoc d.bytes bytes rest)

  abbrev feeds_on : Feeds f mid new d.rest v w → Feeds f old new xs u w
  feeds_on e = record {
    bytes = d.bytes ++ e.bytes;
    rest = e.rest;
    parts = parts_on e.bytes e.rest e.parts;
    drained = λ gifts s es a. let p = d.drained gifts s es a in drains_then f gifts mid new s d.bytes e.bytes es u v w p (e.drained gifts (s ++ d.bytes) (es ++ p.more) p.conforms);
  }

  has_all_on : (clear : old.refusal ≡ None → mid.refusal ≡ None) (left : Option (List ℕ)) (e : Feeds f mid new d.rest v w) → HasAll f mid new d.rest left v w e → HasAll f old new xs left u w (feeds_on e)
  has_all_on clear left e all = record {
    looked = all.looked;
    unread = all.unread;
    parts = all.parts;
    others = all.others;
    none = all.none;
    few = all.few;
    says = λ free gifts s es a.
        let p = d.drained gifts s es a in
        rw (← (append_assoc s d.bytes e.bytes), ← (append_assoc es p.more (e.drained gifts (s ++ d.bytes) (es ++ p.more) p.conforms).more)) (all.says (clear free) gifts (s ++ d.bytes) (es ++ p.more) p.conforms);
  }

  module _ (faulted : V → ℕ → Event → V → Type 0) where
    feeds_into_on : (left : Option (List ℕ)) → FeedsInto f faulted mid new d.rest left v w → FeedsInto f faulted old new xs left u w
    feeds_into_on left e = record {
      bytes = d.bytes ++ e.bytes;
      rest = e.rest;
      parts = parts_on e.bytes e.rest e.parts;
      lost = e.lost;
      unread = e.unread;
      split = e.split;
      few = e.few;
      others = e.others;
      failed = λ gifts s es a. let p = d.drained gifts s es a in fails_then f faulted gifts mid new s d.bytes e.bytes es u v w p (e.failed gifts (s ++ d.bytes) (es ++ p.more) p.conforms);
    }

    -- a run from where another stopped after its turns
    pub runs_on : (clear : old.refusal ≡ None → mid.refusal ≡ None) (turns more : ℕ) (o : Outcome) (left : Option (List ℕ)) → turns ≤ length d.bytes → RunsTo f faulted more o mid new d.rest left v w → RunsTo f faulted (turns + more) o old new xs left u w
    runs_on clear turns more (outcome.Finished end) left long ran = (feeds_on ran.0, ran.1, ran.2, has_all_on clear left ran.0 ran.3)
    runs_on clear turns more outcome.ReadFault left long ran = (feeds_on ran.0, ran.1, has_all_on clear left ran.0 ran.2)
    runs_on clear turns more outcome.Turns left long ran = (feeds_on ran.0, ran.1, omega (arith, long, ran.2, length-append d.bytes ran.0.bytes), has_all_on clear left ran.0 ran.3)
    runs_on clear turns more outcome.SinkFault left long ran = feeds_into_on left ran

-- ---- how often the reader is called

joined : (m n : ℕ) (xs : List ℕ) (mid left : Option (List ℕ)) (d : InReads m xs mid) → InReads n d.rest left → InReads (m + n) xs left
joined m n xs mid left d e = record {
  read = d.read ++ e.read;
  rest = e.rest;
  parts = d.parts ∙ ap (λ (z : List ℕ). d.read ++ z) e.parts ∙ sym (append_assoc d.read e.read e.rest);
  some = omega (arith, d.some, e.some, length-append d.read e.read);
  few = omega (arith, d.few, e.few, length-append d.read e.read);
  others = e.others;
}

module _ (turn : ℕ) (a b : Calls) (was mid : Option (List ℕ)) where
  -- one more turn
  pub reads_on : (o : Outcome) (c : Calls) (left : Option (List ℕ)) → MakesReads turn outcome.Turns a b was mid → MakesReads 1 o b c mid left → MakesReads (turn + 1) o a c was left
  reads_on o c left m n =
      let every = m.all refl in
      let within = n.within in
      record {
        giving = m.giving + n.giving;
        counted = λ fits. let first = m.counted (omega arith) in let second = n.counted (omega arith) in omega arith;
        asked = asks_then m.giving n.giving (idle_reads o) a.asked b.asked c.asked m.asked n.asked;
        within = omega arith;
        all = λ is. let one = n.all is in omega arith;
        gives = λ xs is. let d = m.gives xs is in joined m.giving n.giving xs mid left d (n.gives d.rest d.others);
      }

  -- no more turns, though there may be some
  pub reads_early : (turns : ℕ) (o : Outcome) → turn ≤ turns → o ≢ outcome.Turns → MakesReads turn o a b was mid → MakesReads turns o a b was mid
  reads_early turns o few early m = let within = m.within in record { giving = m.giving; counted = m.counted; asked = m.asked; within = omega arith; all = λ is. absurd (early is); gives = m.gives }

  pub reads_flushed : (turns : ℕ) → turn ≤ turns → MakesReads turn outcome.Turns a b was mid → MakesReads turns outcome.SinkFault a b was mid
  reads_flushed turns few m = let within = m.within in record { giving = m.giving; counted = m.counted; asked = m.asked; within = omega arith; all = λ is. absurd (let e = is in cc); gives = m.gives }
