-- A content that goes on, after bytes that were read straight into the buffer.
use Rattle.std.proofs.Common.{◌≡◌, ℕ, ◌+◌, ◌≤◌, true, false, Bool, List, [], ◌∷◌, ◌++◌, length, take, Result, Ok, Err, refl, sym, ap, subst, ◌∙◌, arith, length-append}
use Rattle.std.specs.Prelude.{◌-◌, Option, Some, None}
use Rattle.std.proofs.lemmas.List.{length-take-le}
use Rattle.cqlp_note.specs.declared.refusal.Refusal.{Refusal}
use Rattle.cqlp_note.specs.declared.streams.IoFault.{IoFault}
use Rattle.cqlp_note.specs.Partial.{FieldState, GathersMore}
use Rattle.cqlp_note.specs.Partial as field
use Rattle.cqlp_note.specs.Streams.{BecameOf}
use Rattle.cqlp_kind.specs.declared.node.Node.{Node}
use Rattle.cqlp_cell.specs.declared.advance.CellAdvance.TheVariants as cell_advance
use Rattle.cqlp_cell.specs.declared.progress.NextInCell.{NextInCell}
use Rattle.cqlp_cell.specs.declared.progress.NextInCell.TheVariants as next
use Rattle.cqlp_cell.specs.declared.progress.Arrived.{Arrived}
use Rattle.cqlp_cell.specs.declared.progress.Arrived.TheVariants as arrived
use Rattle.cqlp_cell.specs.Coming.{room_of}
use Rattle.cqlp_cell.specs.Numbers.{int_wanted}
use Rattle.cqlp_cell.specs.Progress.{CellState, Conforms}
use Rattle.cqlp_cell.specs.declared.open_values.OpenValue.{OpenValue}
use Rattle.cqlp_cell.specs.OpenValues.{last_open}
use Rattle.cqlp_cell.specs.Reading.{FurtherUnder, HaveCome, Joined, Moves, PartUnder, Settles, UnderBy, part_size, step_says}
use Rattle.cqlp_cell.proofs.Closing.{resumed}
use Rattle.cqlp_cell.proofs.Further.{further_settles, part_conforms}
use Rattle.cqlp_cell.proofs.Gathered.{more_wanted}
use Rattle.cqlp_cell.proofs.Handing.{scalar_waits}
use Rattle.cqlp_cell.proofs.Numbered.{int_waits}
use Rattle.cqlp_cell.proofs.Parting.{first_waits, later_waits}
use Rattle.cqlp_grammar.specs.declared.productions.Want.{Want}
use Rattle.cqlp_decode.specs.declared.page.CellCursor.{CellCursor}
use Rattle.cqlp_decode.specs.declared.progress.StreamStage.{StreamStage}
use Rattle.cqlp_decode.specs.declared.progress.StreamStage.TheVariants as stage
use Rattle.cqlp_decode.specs.declared.progress.StreamProgress.{StreamProgress}
use Rattle.cqlp_decode.specs.declared.advance.EventAdvance.TheVariants as advance
use Rattle.cqlp_decode.specs.declared.step.Step.TheVariants as steps
use Rattle.cqlp_decode.specs.Progress.{AdvancesFrom, IsAsked, IsConsistent, PartsState, StageHolds, Waits, nodes_of, parts, state_of}
use Rattle.cqlp_decode.specs.Streams.{AfterBy, Answers, Decoding}
use Rattle.cqlp_decode.specs.Gathering.{HoldsContent}
use Rattle.cqlp_decode.proofs.FieldSteps.{piece_waits}
use Rattle.cqlp_decode.proofs.CellSteps.{cell_waits, cell_more_lawful}
use Rattle.cqlp_decode.proofs.Leads.{more_leads, unrefused}

-- ---- a content of a cell

module _ (nodes : List Node) (d : CellState) (same : d.rules.part ≡ d.rules.cell) (conforms : Conforms nodes d) (p q : FieldState) (piece : List ℕ) (joined : Joined nodes d p) (more : GathersMore 4096 p) (waits : field.Waits p piece (length piece) q) where
  abbrev Goes : CellState → Type 0
  Goes e = Moves nodes d p piece (cell_advance.More (length piece)) e q

  same_goes : (u : Arrived) → d.arrived ≡ u → Goes (record d { arrived = u }) → Goes d
  same_goes u is m = subst Goes (ap (λ (z : Arrived). record d { arrived = z }) (sym is)) m

  -- an [int] is whole after four bytes more
  no_int : (at room : ℕ) → 4 ≤ room → p.field ≡ int_wanted at room → ⊥
  no_int at room enough is =
      let x : List ℕ = 0 ∷ 0 ∷ 0 ∷ 0 ∷ [] in
      let few = int_waits at room (p.seen ++ x) enough (rw is at (more.waits x (omega arith))) in
      omega (arith, few, length-append p.seen x)

  -- the bytes after the last field of the innermost value
  further_goes : (o : Option OpenValue) → d.next ≡ next.Items → d.arrived ≡ arrived.Later → FurtherUnder nodes d p o → Goes d
  further_goes None here is under = absurd under
  further_goes (Some o) here is under =
      let left = o.stop - d.offset in
      let e = record d { next = next.Part 0 left } in
      let wants = more_wanted (part_size d 0 left) d.offset p q piece (length piece) under.2.1 waits in
      let s = later_waits nodes e same 0 left refl (part_conforms nodes d o conforms under.0 under.1 same) p q piece (p.seen ++ piece) joined.longest wants in
      let back = further_settles nodes d o conforms under.0 under.1 p q piece (p.seen ++ piece) (length p.seen) (cell_advance.More (length piece)) (record e { arrived = arrived.Later }) s in
      let as_it_was : record d { next = next.Items; arrived = arrived.Later } ≡ record d { arrived = arrived.Later } = ap (λ (n : NextInCell). record d { next = n; arrived = arrived.Later }) (sym here) in
      let all_of_it = subst (λ (z : CellState). Settles nodes d p piece (step_says nodes d (p.seen ++ piece)) (length p.seen) (HaveCome (p.seen ++ piece)) (cell_advance.More (length piece)) z q) as_it_was back in
      same_goes arrived.Later is (λ b come. let all : b ≡ p.seen = rw is at come in rw all all_of_it)

  part_goes : (n : NextInCell) → d.next ≡ n → d.arrived ≡ arrived.Later → PartUnder nodes d p n → Goes d
  part_goes next.Nothing here is under = absurd under
  part_goes (next.Cell i) here is under = absurd under
  part_goes next.Items here is under = further_goes (last_open d.open_values) here is under
  part_goes (next.Part offset total) here is under =
      let wants = more_wanted (part_size d offset total) d.offset p q piece (length piece) under.1 waits in
      let s = later_waits nodes d same offset total here conforms p q piece (p.seen ++ piece) joined.longest wants in
      same_goes arrived.Later is (λ b come. let all : b ≡ p.seen = rw is at come in rw all s)

  goes_by : (u : Arrived) → d.arrived ≡ u → UnderBy nodes d p u → Goes d
  goes_by arrived.Nothing is under = absurd (let no : ◌≡◌ {A = Bool} true false = sym more.under_way ∙ under in cc)
  goes_by arrived.Length is under = absurd (no_int d.offset (room_of nodes d) under.1.2 under.1.1)
  goes_by (arrived.Counted n) is under = absurd (no_int (d.offset + 4) n under.1.2 under.1.1)
  goes_by (arrived.Scalar n) is under =
      let wants = more_wanted n (d.offset + 4) p q piece (length piece) under.1.1 waits in
      let s = scalar_waits nodes d n p q piece (p.seen ++ piece) under.0 under.2 joined.longest wants in
      same_goes (arrived.Scalar n) is (λ b come. resumed nodes d p piece n conforms under.0 (omega (arith, under.2.fits.0)) b (cell_advance.More (length piece)) (record d { arrived = arrived.Scalar n }) q (rw is at come) s)
  goes_by (arrived.First n) is under =
      let wants = more_wanted d.rules.cell (d.offset + 4) p q piece (length piece) under.1.1 waits in
      let s = first_waits nodes d same n under.2 p q piece (p.seen ++ piece) under.0 joined.longest wants in
      same_goes (arrived.First n) is (λ b come. resumed nodes d p piece n conforms under.0 (omega (arith, under.2.fits.0)) b (cell_advance.More (length piece)) (record d { arrived = arrived.First n }) q (rw is at come) s)
  goes_by arrived.Later is under = part_goes d.next refl is under

  pub content_goes : Goes d
  content_goes = goes_by d.arrived refl joined.under_way

-- ---- what a decoder makes of it

module _ (s : StreamProgress) (q : PartsState) (law : IsConsistent s q) (more : GathersMore 4096 q.partial) (p : FieldState) where
  abbrev onward : PartsState
  onward = parts p q.types q.cells q.table q.given

  -- it waits, as it does for which these bytes are handed in
  abbrev GoesOn : List ℕ → Type 0
  GoesOn piece = IsConsistent s onward × Waits (state_of s q) piece (length piece) (state_of s onward)

  module _ (piece : List ℕ) (few : length piece ≤ 4096) (waits : field.Waits q.partial piece (length piece) p) where
    in_cell : (c : CellCursor) → s.stage ≡ stage.InCell c → GoesOn piece
    in_cell c here =
        let held = (subst (λ (t : StreamStage). StageHolds s q t) here law.stage).0 in
        let moves = content_goes (nodes_of q c.columns) q.cells (rw law.parts.cells refl) held.conforms q.partial p piece held.joined more waits in
        (cell_more_lawful s q c here held law.parts.cells piece (length piece) q.cells p moves law, cell_waits s q c here held law.parts.cells piece (length piece) q.cells p moves)

    in_field : (w : Want) → s.stage ≡ stage.Field w → GoesOn piece
    in_field w here =
        let held = subst (λ (t : StreamStage). StageHolds s q t) here law.stage in
        let asked : IsAsked s q.partial q.partial w = record { under_way = more.under_way; field = held.0.field more.under_way; seen = rw more.under_way refl; room = refl } in
        let same : p.field ≡ q.partial.field = ap (λ (z : FieldState). z.field) waits.under_way in (
          record {
            bounded = law.bounded;
            parts = record { room = ap (λ (z : FieldState). z.room) waits.under_way ∙ law.parts.room; rules = law.parts.rules; cells = law.parts.cells; table = law.parts.table; few = law.parts.few };
            stage = rw here (
              record {
                room = held.0.room;
                read = held.0.read;
                field = λ _. same ∙ held.0.field more.under_way;
                waits = λ _. rw waits.under_way (rw (held.0.field more.under_way) at (more.waits piece few));
                came = held.0.came;
              },
              held.1,
              held.2,
            );
            quiet = record { types = law.quiet.types; cells = law.quiet.cells };
            table = λ none. rw here (rw here at (law.table none));
            given = law.given;
            uses = rw here tt;
          },
          piece_waits s q.partial q.partial q.types q.cells q.table q.given w piece here asked p (length piece) waits,
        )

    goes_on_at : (t : StreamStage) → s.stage ≡ t → HoldsContent t → GoesOn piece
    goes_on_at (stage.Field w) here g = in_field w here
    goes_on_at (stage.InCell c) here g = in_cell c here
    goes_on_at stage.Header here g = absurd g
    goes_on_at stage.BeforeType here g = absurd g
    goes_on_at stage.InType here g = absurd g
    goes_on_at (stage.BeforeCell c) here g = absurd g
    goes_on_at stage.Extra here g = absurd g

  module _ (holds : HoldsContent s.stage) (buffer : List ℕ) (long : length buffer ≡ 4096) where
    goes_on : (n : ℕ) → n ≤ length buffer → field.Waits q.partial (take n buffer) (length (take n buffer)) p → GoesOn (take n buffer)
    goes_on n bound waits = goes_on_at (take n buffer) (omega (arith, length-take-le n buffer bound, bound, long)) waits s.stage refl holds

    -- what a read into the buffer leaves
    abbrev Read : Result ℕ IoFault → Type 0
    Read r = BecameOf r buffer (p ≡ q.partial) (λ (piece : List ℕ). field.Waits q.partial piece (length piece) p)

    pub lawful_still : (r : Result ℕ IoFault) → Read r → IsConsistent s onward
    lawful_still (Ok n) b = (goes_on n b.0 b.1).0
    lawful_still (Err e) b = rw b law

    pub answers_still : s.refusal ≡ None → (r : Result ℕ IoFault) → Read r
        → BecameOf r buffer (◌≡◌ {A = Decoding} (record { progress = s; parts = onward }) (record { progress = s; parts = q })) (λ (piece : List ℕ). Answers (state_of s q) piece (steps.More (length piece)) (state_of s onward))
    answers_still free (Ok n) b =
        let piece = take n buffer in
        let old = state_of s q in
        let new = state_of s onward in
        let a : AdvancesFrom None old piece (advance.More (length piece)) new = ((goes_on n b.0 b.1).1, free, refl, refl, tt) in (
          b.0,
          (
            (refl, free, refl),
            λ gifts t es after. more_leads old new piece t es gifts None (length piece) a (subst (λ (o : Option Refusal). AfterBy o gifts old t es) free after),
            unrefused old new (steps.More (length piece)) s.refusal free,
          ),
        )
    answers_still free (Err e) b = ap (λ (z : FieldState). record { progress = s; parts = parts z q.types q.cells q.table q.given }) b
