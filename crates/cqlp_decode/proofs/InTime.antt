-- The last read of a run.
use Rattle.std.proofs.Common.{◌≡◌, ℕ, ◌+◌, ◌-◌, ◌≤◌, List, length, refl, inr, subst}
use Rattle.std.specs.Prelude.{Option, Some, None}
use Rattle.cqlp_note.specs.Streams.{CountsUp}
use Rattle.cqlp_decode.specs.declared.running.Outcome.{Outcome}
use Rattle.cqlp_decode.specs.Reading.{Event}
use Rattle.cqlp_decode.specs.Progress.{StreamState}
use Rattle.cqlp_decode.specs.Draining.{Feeds, HasAll, InReads, GoesOnTo, ReadsInTime, idle_reads}
use Rattle.cqlp_decode.proofs.Gets.{has_all_still}

module _ {V : Type 0} (f : V → ℕ → Event → V) (faulted : V → ℕ → Event → V → Type 0) (turns earlier was now : ℕ) (old mid new : StreamState) (xs : List ℕ) (left left' : Option (List ℕ)) (before seen after : V) where
  module _ (fed : (d : Feeds f old mid xs before seen) × (left ≡ Some d.rest) × (earlier ≤ length d.bytes) × HasAll f old mid xs left before seen d) (gave : InReads earlier xs left) (free : mid.refusal ≡ None) (rules : mid.rules ≡ old.rules) where
    pub last_read : (o : Outcome) → CountsUp (earlier + 1) was now → earlier + 1 ≤ turns → GoesOnTo f faulted o mid new fed.0.rest left' seen after → InReads (1 - idle_reads o) fed.0.rest left' → ReadsInTime f faulted turns o old new xs was now left' before after
    last_read o counted within onward gives = inr (record {
      earlier = earlier;
      counted = counted;
      within = within;
      mid = mid;
      rest = fed.0.rest;
      seen = seen;
      ran = (fed.0, refl, fed.2, has_all_still f old mid xs left (Some fed.0.rest) before seen fed.0 fed.1 fed.3);
      gave = subst (λ (l : Option (List ℕ)). InReads earlier xs l) fed.1 gave;
      free = free;
      rules = rules;
      onward = onward;
      gives = gives;
    })
