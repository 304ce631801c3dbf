use Rattle.std.proofs.Common.{◌≡◌, ◌∙◌, ◌+◌, ◌<◌, ℕ, List, length, inl, inr, sym, ap, arith, slice_index_or, slice_set}
use Rattle.std.proofs.lemmas.Bool.{cases_eq}
use Rattle.std.proofs.lemmas.List.{get_or-set_other, get_or-set_same, length-set}
use Rattle.cqlp_capture_summary.specs.Counts.{Tally}
use Rattle.cqlp_capture_summary.specs.Order.{rank_of}
use Rattle.cqlp_capture_summary.proofs.order.ranks_of.Goals as goal

next : (ranks : List ℕ) (i v : ℕ) (ts : List Tally) → i < length ranks → v ≡ rank_of i ts → ((k : ℕ) → k < i → slice_index_or ranks k 0 ≡ rank_of k ts) → (k : ℕ) → k < i + 1 → slice_index_or (slice_set ranks i v) k 0 ≡ rank_of k ts
next ranks i v ts inside is done k less = elim (cases_eq k i) [
  | inl same ↦ ap (λ j. slice_index_or (slice_set ranks i v) j 0) same ∙ get_or-set_same ranks i v 0 inside ∙ is ∙ ap (λ j. rank_of j ts) (sym same)
  | inr ne ↦ get_or-set_other ranks i k v 0 ne ∙ done k (omega arith)
]

pub loop-place-preserved : goal.loop-place-preserved
loop-place-preserved c =
    let i = c.loop-place.place in
    let long = c.loop-place.invariant.0 in
    let end = c.min-place-end.ensures in
    let inside : i < length c.loop-place.ranks = omega (arith, long, end) in
    (length-set c.loop-place.ranks i c.rank_of.result ∙ long, next c.loop-place.ranks i c.rank_of.result c.args.tallies.now inside c.rank_of.ensures c.loop-place.invariant.1)

pub returns : goal.returns
returns c = λ k within less.
    let long = c.loop-place.invariant.0 in
    let end = c.min-place-end.ensures in
    c.loop-place.invariant.1 k (omega (arith, long, end))
