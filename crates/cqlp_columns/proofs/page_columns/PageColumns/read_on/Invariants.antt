use Rattle.std.proofs.Common.{◌≡◌, ◌+◌, ◌-◌, ◌*◌, ◌≤◌, List, ℕ, length, false}
use Rattle.std.specs.Prelude.{Some}
use Rattle.cqlp_note.specs.declared.refusal.Refusal.{Refusal}
use Rattle.cqlp_decode.specs.Reading.{Event, Gifts}
use Rattle.cqlp_decode.specs.Progress.{ends_due}
use Rattle.cqlp_decode.specs.Streams.{AfterGifts, state}
use Rattle.cqlp_columns.specs.Batches.{is_full}
use Rattle.cqlp_columns.specs.declared.page_columns.Went.TheVariants as went
use Rattle.cqlp_columns.proofs.SoFar.{IsSoFar}
use Rattle.cqlp_columns.proofs.page_columns.PageColumns.read_on.Given as goal

-- what is used are cells, which the columns took, and they are not full
abbrev pub invariant-events : goal.invariant-events
invariant-events g l = record {
  within : l.used ≤ length l.input;
  rules : (state l.decoder).rules ≡ (state l.fn.decoder).rules;
  same : (state l.decoder).refusal ≡ (state l.fn.decoder).refusal;
  given : (state l.decoder).given ≡ (state l.fn.decoder).given;
  went : l.self.went ≡ went.Cell;
  again : (r : Refusal) → (state l.fn.decoder).refusal ≡ Some r → (l.used ≡ 0) × (state l.decoder ≡ state l.fn.decoder) × (l.self.columns ≡ l.fn.self.columns) × (l.self.other ≡ l.fn.self.other);
  free : is_full l.self.columns ≡ false;
  other : l.self.other ≡ l.fn.self.other;
  read : (gifts : Gifts) (s : List ℕ) (es : List (ℕ × Event)) → AfterGifts gifts (state l.fn.decoder) s es → IsSoFar gifts (state l.decoder) s l.input es l.fn.self.columns l.self.columns l.used;
}

-- an event takes some byte, or is the end of the frame or of a value that is open
abbrev pub decreases-events : goal.decreases-events
decreases-events g l = ends_due (state l.decoder).place.symbols + (state l.decoder).open_values + 2 * (length l.input - l.used)
