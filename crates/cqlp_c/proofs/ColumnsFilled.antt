-- What a call reads into columns, as C sees it.
use Rattle.std.proofs.Common.{◌≡◌, ℕ, zero, suc, ◌≤◌, List, length, take, refl, subst, inl, inr, arith}
use Rattle.std.specs.Prelude.{◌⊎◌}
use Rattle.std.specs.Ptr.{Ptr}
use Rattle.std.proofs.lemmas.List.{length-take-le}
use Rattle.cqlp_grammar.specs.declared.sink.Sink as sink
use Rattle.cqlp_decode.specs.Reading.{Event, Gifts}
use Rattle.cqlp_decode.specs.Progress.{StreamState}
use Rattle.cqlp_decode.specs.Sinks.{Gets, Fails}
use Rattle.cqlp_decode.specs.Streams.{Decoding, state}
use Rattle.cqlp_columns.specs.Batches.{Batch}
use Rattle.cqlp_columns.specs.declared.filled.Stop.{Stop}
use Rattle.cqlp_columns.specs.declared.filled.Stop.TheVariants as why
use Rattle.cqlp_columns.specs.Filling.{Fills, StopsBy}
use Rattle.cqlp_c.specs.declared.columns.Beside.{Beside}
use Rattle.cqlp_c.specs.declared.event.CqlpEvent.{CqlpEvent}
use Rattle.cqlp_c.specs.Batches.{WritesPut, buffer_in, put_of}
use Rattle.cqlp_c.specs.declared.batch.Batch.{Batch as FromC}
use Rattle.cqlp_c.specs.Course.{batch_from}
use Rattle.cqlp_c.specs.Columns.{PutsBeside, PutsOther, WritesBeside, batch_at}

-- at most one event
pub few : (used : ℕ) (w : Stop) → ((batch_at used w).events ≡ 0) ⊎ ((batch_at used w).events ≡ 1)
few used why.More = inl refl
few used why.Full = inl refl
few used why.Other = inr refl
few used why.Failed = inr refl
few used (why.Refused r) = inl refl

module _ (m : sink.Ghosts Beside) (got : (x y : Beside) (at : ℕ) (e : Event) → Gets m x at e y → WritesBeside y.written y.lends at e) (failed : (x y : Beside) (at : ℕ) (e : Event) → Fails m x at e y → ⊥)
    (gifts : Gifts) (old : StreamState) (d : Decoding) (s input : List ℕ) (a b : Batch) (x y : Beside) (was written : CqlpEvent) (begins : Ptr) (used : ℕ) (within : used ≤ length input) where
  moved_by : (es : List (ℕ × Event)) (w : Stop) → ((batch_at used w).events ≡ 1 → PutsBeside y.written y.lends begins (buffer_in d) (take used input) written) → ((batch_at used w).events ≡ 0 → written ≡ was)
      → StopsBy (Gets m) (Fails m) gifts old (state d) s input (take used input) es b x y w → StopsBy (PutsOther begins (buffer_in d) used) (λ (p : CqlpEvent) (at : ℕ) (e : Event) (q : CqlpEvent). ⊥) gifts old (state d) s input (take used input) es b was written w
  moved_by es why.More put none h = (h.0, h.1, none refl, h.3, h.4, h.5)
  moved_by es why.Full put none h = (h.0, none refl, h.2, h.3)
  moved_by es why.Other put none h = (
    h.0,
    record {
      at = h.1.at;
      event = h.1.event;
      apart = h.1.apart;
      after = h.1.after;
      ends = h.1.ends;
      held = h.1.held;
      holds = subst (λ (n : ℕ). WritesPut begins (buffer_in d) written (put_of h.1.at h.1.event n n)) (length-take-le used input within) (put refl h.1.at h.1.event (got x y h.1.at h.1.event h.1.holds) h.1.held);
    },
  )
  moved_by es why.Failed put none h = absurd (failed x y h.1.at h.1.event h.1.holds)
  moved_by es (why.Refused r) put none h = (h.0, none refl, h.2, h.3, h.4, h.5)

  pub moved : (es : List (ℕ × Event)) (w : Stop) → ((batch_at used w).events ≡ 1 → PutsBeside y.written y.lends begins (buffer_in d) (take used input) written) → ((batch_at used w).events ≡ 0 → written ≡ was)
      → Fills (Gets m) (Fails m) gifts old (state d) s input es a b x y (record { used = used; stop = w }) → Fills (PutsOther begins (buffer_in d) used) (λ (p : CqlpEvent) (at : ℕ) (e : Event) (q : CqlpEvent). ⊥) gifts old (state d) s input es a b was written (record { used = used; stop = w })
  moved es w put none f = record { cells = f.cells; taken = f.taken; stops = moved_by _ w put none f.stops }

-- a batch of the first stretch is there already
pub batch_first : (base passed : ℕ) (b : FromC) → base ≡ 0 → b ≡ batch_from base passed b
batch_first zero passed b none = refl
batch_first (suc n) passed b none = absurd (omega (arith, none))
