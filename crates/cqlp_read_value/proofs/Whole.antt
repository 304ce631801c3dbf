-- A value that bytes are to be, all of them.
use Rattle.std.proofs.Common.{◌≡◌, ℕ, ◌+◌, ◌<◌, ◌≤◌, List, [], ◌∷◌, length, take, drop, true, Some, None, Result, Ok, Err, refl, ap, subst, arith}
use Rattle.std.proofs.lemmas.Bool.{lt-ltb}
use Rattle.std.proofs.lemmas.List.{length-take-le, take-append-drop, take_all}
use Rattle.cqlp_note.specs.declared.refusal.Reason.TheVariants.{ExtraInValue}
use Rattle.cqlp_note.specs.Limits.{Rules}
use Rattle.cqlp_note.proofs.Runs.{runs_stay}
use Rattle.cqlp_kind.specs.declared.kind.Kind.{Kind}
use Rattle.cqlp_kind.specs.Types.{Types, NoMore, Type_and}
use Rattle.cqlp_kind.specs.CellStep.{CellPlace, CellSymbol, Close_of, Value_of, cell_step}
use Rattle.cqlp_type.specs.declared.tree.TypeTree.{TypeTree}
use Rattle.cqlp_type.specs.Trees.{are_trees, types_in}
use Rattle.cqlp_type.specs.TypeTrees.{tree_of}
use Rattle.cqlp_value.specs.declared.value.Value.{Value}
use Rattle.cqlp_value.specs.Owned.{cell_type}
use Rattle.cqlp_value.specs.Values.{AreWithin, ValueSpells, Values}
use Rattle.cqlp_value.proofs.SpelledRead.{all_read}
use Rattle.cqlp_read_value.specs.declared.error.ReadError.{ReadError}
use Rattle.cqlp_read_value.specs.declared.error.ReadError.TheVariants as error
use Rattle.cqlp_read_value.specs.Fronts.{Fails, FrontStops}
use Rattle.cqlp_read_value.specs.Reading.{IsStopped, Reads, ReadsAll, whole_value}
use Rattle.cqlp_read_value.proofs.Refusals.{refusal, refused_now, refused_then}
use Rattle.cqlp_read_value.proofs.Contents.{runs_at}
use Rattle.cqlp_read_value.proofs.Steps.{fails_as}

module _ (l : Rules) (k : Kind) (inner : Types) (b : List ℕ) where
  abbrev pub one : Types
  one = Type_and k inner NoMore

  abbrev pub Refused : ReadError → Type 0
  Refused r = IsStopped l (whole_value one (length b)) b r

  -- what is refused at the front of all bytes
  pub front_refused : (e : ReadError) → Fails (FrontStops l 0 k inner b) e → Fails Refused e
  front_refused e h = fails_as (FrontStops l 0 k inner b) Refused (λ r f.
      let stop : 0 + length b ≡ length b = omega arith in
      subst (λ (n : ℕ). IsStopped l (record { offset = 0; symbols = Value_of k inner 0 n ∷ (Close_of 0 (length b) 1 ∷ []) }) b r) stop (f 0 (Close_of 0 (length b) 1 ∷ []))) e h

  -- bytes that are left after the value
  pub more_refused : (v : Values) (used : ℕ) → ValueSpells k inner v (take used b) → AreWithin l v → used < length b → Refused (refusal used ExtraInValue)
  more_refused v used spelled within lt =
      let close : List CellSymbol = Close_of 0 (length b) 1 ∷ [] in
      let size : length (take used b) ≡ used = length-take-le used b (omega arith) in
      let start = whole_value one (length b) in
      let read = (all_read l v within).values one (take used b) spelled 0 0 (length b) close (omega (arith, size)) in
      let stays = runs_stay (cell_step l) start (take used b) (drop used b) _ _ [] read in
      let q : CellPlace = record { offset = used; symbols = close } in
      let far : 0 + length (take used b) ≡ used = omega (arith, size) in
      let there = ap (λ (n : ℕ). let p : CellPlace = record { offset = n; symbols = close } in p) far in
      let runs = runs_at l start _ q _ b _ (drop used b) _ (take-append-drop used b) there refl stays in
      refused_then l start q b (drop used b) _ (refusal used ExtraInValue) runs
      (refused_now l q (drop used b) used ExtraInValue (rw (lt-ltb used (length b) lt) refl))

  pub whole_spells : (v : Values) (used : ℕ) → used ≤ length b → length b ≤ used → ValueSpells k inner v (take used b) → ValueSpells k inner v b
  whole_spells v used le all spelled = subst (λ (x : List ℕ). ValueSpells k inner v x) (take_all used b all) spelled

  pub reads_fails : (e : ReadError) → Fails (FrontStops l 0 k inner b) e → ReadsAll l one b (Err e)
  reads_fails (error.Refused r) h = front_refused (error.Refused r) h
  reads_fails error.NoMemory h = front_refused error.NoMemory h
  reads_fails error.Unformed h = absurd h

pub raw_value : (l : Rules) (b : List ℕ) (r : Result Value ReadError) → ReadsAll l (cell_type None) b r → Reads l None b r
raw_value l b (Ok v) h = (refl, h)
raw_value l b (Err (error.Refused r)) h = (refl, h)
raw_value l b (Err error.NoMemory) h = (refl, h)
raw_value l b (Err error.Unformed) h = absurd h

pub typed_value : (l : Rules) (t : TypeTree) (b : List ℕ) (r : Result Value ReadError) → are_trees (tree_of t) ≡ true → ReadsAll l (types_in (tree_of t)) b r → Reads l (Some t) b r
typed_value l t b (Ok v) formed h = (formed, h)
typed_value l t b (Err (error.Refused r)) formed h = (formed, h)
typed_value l t b (Err error.NoMemory) formed h = (formed, h)
typed_value l t b (Err error.Unformed) formed h = absurd h
