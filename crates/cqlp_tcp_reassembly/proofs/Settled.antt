-- Where nothing is settled, the stream is as before.
use Rattle.std.proofs.Common.{◌≡◌, ℕ, Bool, true, false, refl, ap, subst, inl, inr}
use Rattle.std.proofs.lemmas.Bool.{cases_lt, lt-ltb, le-ltb}
use Rattle.std.specs.Prelude.{Option, Some, None, min, nat_le, if◌then◌else◌}
use Rattle.cqlp_tcp_reassembly.specs.declared.run.Part.{Part}
use Rattle.cqlp_tcp_reassembly.specs.declared.run.RunSummary.{RunSummary}
use Rattle.cqlp_tcp_reassembly.specs.declared.segment.Place.{Place}
use Rattle.cqlp_tcp_reassembly.specs.declared.step.StreamStep.{StreamStep}
use Rattle.cqlp_tcp_reassembly.specs.declared.step.StreamStep.TheVariants.{Ended}
use Rattle.cqlp_tcp_reassembly.specs.Segments.{Segment}
use Rattle.cqlp_tcp_reassembly.specs.Runs.{first_free, summary_at}
use Rattle.cqlp_tcp_reassembly.specs.Streams.{Settling, StreamState, Delivery, ended, or_step, place_in, placed, received, settled, settled_by, settling}
use Rattle.cqlp_tcp_reassembly.specs.Streams.{stop, with_end}

none_by : (r : Option RunSummary) (s t : StreamState) → settling None t ≡ settled_by r s → t ≡ s
none_by None s t e = ap (λ (z : Settling). z.state) e
none_by (Some r) s t e = elim (cases_lt 0 r.length) [
  | inl lt ↦ let f = rw (lt-ltb 0 r.length lt) at e in absurd (cc (ap (λ (z : Settling). z.step) f))
  | inr le ↦ let f = rw (le-ltb 0 r.length le) at e in absurd (cc (ap (λ (z : Settling). z.step) f))
]

none_if : (b : Bool) (x y : Settling) (s t : StreamState) → (settling None t ≡ x → ⊥) → (settling None t ≡ y → t ≡ s)
    → settling None t ≡ (if b then x else y) → t ≡ s
none_if true x y s t never always e = absurd (never e)
none_if false x y s t never always e = always e

some_no : (u : StreamStep) (s t : StreamState) → settling None t ≡ settling (Some u) s → ⊥
some_no u s t e = cc (ap (λ (z : Settling). z.step) e)

pub settled_none : (s t : StreamState) → settling None t ≡ settled s → t ≡ s
settled_none s t e =
    none_if (nat_le (stop s) s.position) (settling (Some Ended) (ended s)) (settled_by (summary_at s.position s.runs) s) s t
    (some_no Ended (ended s) t) (none_by (summary_at s.position s.runs) s t) e

step_none : (z : Settling) (t : StreamState) (otherwise : Delivery) → settling None t ≡ z → or_step z.step z.state otherwise ≡ otherwise
step_none z t otherwise e = subst (λ (x : Settling). or_step x.step x.state otherwise ≡ otherwise) e refl

-- So a segment of which the place and the first free part are known is put there.
pub received_placed : (old s t : StreamState) (g : Segment) (l : Place) (p : Part) (o : Option StreamStep) (end room : ℕ)
    → l ≡ place_in old g → s ≡ with_end g.control.fin l.to old → settling o t ≡ settled s → o ≡ None → end ≡ stop t
    → p ≡ first_free l.at (min l.to end) t.runs
    → placed t g l p room ≡ received old g room
received_placed old s t g l p o end room lies ends says none stops parts =
    let e : settling None t ≡ settled s = cc in
    let same = settled_none s t e in
    let f = step_none (settled s) t (placed s g l (first_free l.at (min l.to (stop s)) s.runs) room) e in
    cc
