-- Tallies of places that are taken, and of those that are free behind them.
use Rattle.std.proofs.Common.{length-append, ◌≡◌, ◌∙◌, ◌+◌, ◌-◌, ◌<◌, ℕ, suc, List, [], ◌∷◌, ◌++◌, length, replicate, take, sym, ap, arith, slice_index_or, slice_set}
use Rattle.std.proofs.Math.Seq.{take-append_seam}
use Rattle.std.proofs.lemmas.List.{append_assoc, get_or_append_left, length-set, set-append_left}
use Rattle.cqlp_capture_summary.specs.Adding.{raised, with_counts_at}
use Rattle.cqlp_capture_summary.specs.Counts.{Request, Tally}
use Rattle.cqlp_capture_summary.specs.Merging.{merged}
use Rattle.cqlp_capture_summary.specs.Names.{Name}
use Rattle.cqlp_capture_summary.specs.Summaries.{Summary, padded, summary, with_in_place_of, with_request_at}
use Rattle.cqlp_capture_summary.specs.Tallies.{counted, none_counted, tallied_request, time_of}

-- One more place is taken, of which nothing is counted yet.
pub padded_push : (n : ℕ) (ts : List Tally) → length ts < n → padded n (ts ++ none_counted ∷ []) ≡ padded n ts
padded_push n ts room =
    let long : length (ts ++ none_counted ∷ []) ≡ length ts + 1 = length-append ts (none_counted ∷ []) in
    let more : suc (n - (length ts + 1)) ≡ n - length ts = omega (arith, room) in
    append_assoc ts (none_counted ∷ []) (replicate (n - length (ts ++ none_counted ∷ [])) none_counted)
    ∙ ap (λ (k : ℕ). ts ++ none_counted ∷ replicate (n - k) none_counted) long
    ∙ ap (λ (k : ℕ). ts ++ replicate k none_counted) more

-- what is counted at a place that is taken
pub padded_at : (n : ℕ) (ts : List Tally) (at : ℕ) → at < length ts → slice_index_or (padded n ts) at none_counted ≡ slice_index_or ts at none_counted
padded_at n ts at inside = get_or_append_left ts (replicate (n - length ts) none_counted) none_counted at inside

pub padded_set : (n : ℕ) (ts : List Tally) (at : ℕ) (t : Tally) → at < length ts → padded n (slice_set ts at t) ≡ slice_set (padded n ts) at t
padded_set n ts at t inside =
    ap (λ (k : ℕ). slice_set ts at t ++ replicate (n - k) none_counted) (length-set ts at t)
    ∙ sym (set-append_left ts (replicate (n - length ts) none_counted) at t inside)

pub padded_taken : (n : ℕ) (ts : List Tally) → take (length ts) (padded n ts) ≡ ts
padded_taken n ts = take-append_seam ts (replicate (n - length ts) none_counted)

-- a request is counted at a place that is taken
pub request_padded : (n at : ℕ) (ns : List Name) (ws : List ℕ) (ts : List Tally) (o : Tally) (r : Request) → at < length ts
    → summary n ns (slice_set ws at (counted (slice_index_or ws at 0) (time_of r.entry.took))) (padded n (slice_set ts at (tallied_request r (slice_index_or ts at none_counted)))) o
    ≡ with_request_at at r (summary n ns ws (padded n ts) o)
request_padded n at ns ws ts o r inside =
    let with : List Tally → Summary = λ us. summary n ns (slice_set ws at (counted (slice_index_or ws at 0) (time_of r.entry.took))) us o in
    ap with (padded_set n ts at (tallied_request r (slice_index_or ts at none_counted)) inside)
    ∙ ap (λ (t : Tally). with (slice_set (padded n ts) at (tallied_request r t))) (sym (padded_at n ts at inside))

-- counts from elsewhere are added there
pub counts_padded : (n at : ℕ) (ns : List Name) (ws : List ℕ) (ts : List Tally) (o c : Tally) (most before : ℕ) → at < length ts
    → summary n ns (slice_set ws at (raised before most (slice_index_or ws at 0))) (padded n (slice_set ts at (merged c (slice_index_or ts at none_counted)))) o
    ≡ with_counts_at at c most before (summary n ns ws (padded n ts) o)
counts_padded n at ns ws ts o c most before inside =
    let with : List Tally → Summary = λ us. summary n ns (slice_set ws at (raised before most (slice_index_or ws at 0))) us o in
    ap with (padded_set n ts at (merged c (slice_index_or ts at none_counted)) inside)
    ∙ ap (λ (t : Tally). with (slice_set (padded n ts) at (merged c t))) (sym (padded_at n ts at inside))

-- another statement takes that place
pub place_padded : (n at : ℕ) (x : Name) (ns : List Name) (ws : List ℕ) (ts : List Tally) (o : Tally) → at < length ts
    → summary n (slice_set ns at x) ws (padded n (slice_set ts at none_counted)) (merged (slice_index_or ts at none_counted) o)
    ≡ with_in_place_of at x (summary n ns ws (padded n ts) o)
place_padded n at x ns ws ts o inside =
    ap (λ (us : List Tally). summary n (slice_set ns at x) ws us (merged (slice_index_or ts at none_counted) o)) (padded_set n ts at none_counted inside)
    ∙ ap (λ (t : Tally). summary n (slice_set ns at x) ws (slice_set (padded n ts) at none_counted) (merged t o)) (sym (padded_at n ts at inside))
