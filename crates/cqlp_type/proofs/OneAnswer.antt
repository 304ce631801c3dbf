-- What a call says of an option, and what it leaves, are decided by what the step says of the bytes of the item.
use Rattle.std.proofs.Common.{◌≡◌, ℕ, ◌+◌, ◌-◌, ◌≤◌, Bool, true, false, List, [], ◌∷◌, ◌++◌, length, take, drop, refl, sym, ap, ◌∙◌, append_assoc, arith}
use Rattle.std.proofs.lemmas.List.{length-append, length-drop, take-append-drop}
use Rattle.cqlp_note.specs.declared.refusal.Reason.{Reason}
use Rattle.cqlp_note.specs.declared.refusal.Refusal.{Refusal}
use Rattle.cqlp_note.specs.Reader.{Said, Got, Bad, says}
use Rattle.cqlp_note.specs.Reader as reader
use Rattle.cqlp_note.specs.Step.{Emitted, Step, Runs}
use Rattle.cqlp_note.specs.Limits.{Rules}
use Rattle.cqlp_note.specs.Partial.{FieldState}
use Rattle.cqlp_note.proofs.Readers.{says_stays}
use Rattle.cqlp_note.proofs.Runs.{stays_got, same_got, runs_stay}
use Rattle.cqlp_type.specs.declared.item.TypePush.{TypePush}
use Rattle.cqlp_type.specs.declared.item.TypePush.TheVariants as push
use Rattle.cqlp_type.specs.declared.advance.TypeAdvance.{TypeAdvance}
use Rattle.cqlp_type.specs.declared.advance.TypeAdvance.TheVariants as advance
use Rattle.cqlp_kind.specs.TypeStep.{TypeSymbol, Option_at, TypeEvent, TypePlace, type_step}
use Rattle.cqlp_type.specs.Table.{Table}
use Rattle.cqlp_type.specs.Progress.{TypeState, place_of, pending, step_says, stopped, Advances}
use Rattle.cqlp_type.specs.Pushing.{After, Uses, Continues, Fills, Pushes, event_of}
use Rattle.cqlp_type.specs.Laws.{Answer, More, FieldOutline, Done, Refused, push_answer, advance_answer, Call, IsPush, IsAdvance, AreAlike, LeaveAlike}
use Rattle.cqlp_type.proofs.Pushes.{waits_some, emitted_some}

-- ---- runs with the same items

module _ {E P : Type 0} (step : P → Step E P) where
  -- they end at the same place, before the same bytes
  run_same : (p q q' : P) (bytes rest rest' : List ℕ) (es : List (ℕ × E)) → Runs step p bytes es q rest → Runs step p bytes es q' rest' → (q' ≡ q) × (rest' ≡ rest)
  run_same p q q' bytes rest rest' [] a b = (b.0 ∙ sym a.0, b.1 ∙ sym a.1)
  run_same p q q' bytes rest rest' (e ∷ es) a b =
      let same = same_got _ _ _ _ (sym b.2 ∙ a.2) in
      let mid : b.1 ≡ a.1 = ap (λ (x : Emitted E P). x.after) same.0 in
      run_same (a.1 a.0) q q' (drop a.0 bytes) rest rest' es a.3 (rw (same.1, mid) at b.3)

  -- one with another item goes on where the first ends
  run_next : (p q q' : P) (bytes rest rest' : List ℕ) (es : List (ℕ × E)) (f : ℕ × E) → Runs step p bytes es q rest → Runs step p bytes (es ++ f ∷ []) q' rest' → Runs step q rest (f ∷ []) q' rest'
  run_next p q q' bytes rest rest' [] f a b = rw (a.0, a.1) b
  run_next p q q' bytes rest rest' (e ∷ es) f a b =
      let same = same_got _ _ _ _ (sym b.2 ∙ a.2) in
      let mid : b.1 ≡ a.1 = ap (λ (x : Emitted E P). x.after) same.0 in
      run_next (a.1 a.0) q q' (drop a.0 bytes) rest rest' es f a.3 (rw (same.1, mid) at b.3)

-- ---- what is decided

pub record Outcome : Type 0 where
  pub answer : Answer
  pub under_way : Bool
  pub place : TypePlace
  pub pending : List ℕ
  pub field : Bool

-- the same place, with nothing left
abbrev ended_at : TypePlace → TypePlace
ended_at p = record { offset = p.offset; stop = p.stop; symbols = []; nodes = p.nodes }

abbrev decided_by : List TypeSymbol → Said (Emitted TypeEvent TypePlace) (ℕ × Reason) → TypePlace → (came input : List ℕ) → Outcome
decided_by [] d p came input = record { answer = Done; under_way = false; place = ended_at p; pending = []; field = false }
decided_by (s ∷ ss) reader.More p came input = record { answer = More (length input); under_way = true; place = p; pending = came ++ input; field = true }
decided_by (s ∷ ss) (Bad f) p came input = record { answer = Refused (record { at = f.0; why = f.1 }); under_way = false; place = ended_at p; pending = []; field = false }
decided_by (s ∷ ss) (Got x k) p came input = record { answer = FieldOutline x.at (k - length came) x.event; under_way = true; place = x.after k; pending = []; field = false }

abbrev decided : Rules → TypePlace → (came input : List ℕ) → Outcome
decided l p came input = decided_by p.symbols (says (type_step l p) 0 (came ++ input)) p came input

abbrev outcome : Answer → TypeState → FieldState → Table → Outcome
outcome a r p t = record { answer = a; under_way = r.under_way; place = place_of r t.nodes; pending = pending r p; field = p.under_way }

waits_decided : (ss : List TypeSymbol) (d : Said (Emitted TypeEvent TypePlace) (ℕ × Reason)) (p : TypePlace) (came input : List ℕ) → (ss ≡ [] → ⊥) → d ≡ reader.More → decided_by ss d p came input ≡ record { answer = More (length input); under_way = true; place = p; pending = came ++ input; field = true }
waits_decided [] d p came input some e = absurd (some refl)
waits_decided (s ∷ ss) d p came input some e = rw e refl

fails_decided : (ss : List TypeSymbol) (d : Said (Emitted TypeEvent TypePlace) (ℕ × Reason)) (p : TypePlace) (came input : List ℕ) (r : Refusal) → (ss ≡ [] → ⊥) → d ≡ Bad (r.at, r.why) → decided_by ss d p came input ≡ record { answer = Refused r; under_way = false; place = ended_at p; pending = []; field = false }
fails_decided [] d p came input r some e = absurd (some refl)
fails_decided (s ∷ ss) d p came input r some e = rw e refl

gives_decided : (ss : List TypeSymbol) (d : Said (Emitted TypeEvent TypePlace) (ℕ × Reason)) (p : TypePlace) (came input : List ℕ) (x : Emitted TypeEvent TypePlace) (used : ℕ) → (ss ≡ [] → ⊥) → d ≡ Got x (length came + used)
    → decided_by ss d p came input ≡ record { answer = FieldOutline x.at used x.event; under_way = true; place = x.after (length came + used); pending = []; field = false }
gives_decided [] d p came input x used some e = absurd (some refl)
gives_decided (s ∷ ss) d p came input x used some e =
    let less : (length came + used) - length came ≡ used = omega arith in
    rw (e, less) refl

over_decided : (ss : List TypeSymbol) (d : Said (Emitted TypeEvent TypePlace) (ℕ × Reason)) (p : TypePlace) (came input : List ℕ) → ss ≡ [] → decided_by ss d p came input ≡ record { answer = Done; under_way = false; place = ended_at p; pending = []; field = false }
over_decided ss d p came input none = rw none refl

-- ---- what a push says and leaves

module _ (start : TypePlace) (old : TypeState) (p : FieldState) (t : Table) (s : List ℕ) (es : List (ℕ × TypeEvent)) (run : After start old p t s es) (input : List ℕ) (new : TypeState) (p' : FieldState) (t' : Table) where
  abbrev here : TypePlace
  here = place_of old t.nodes

  abbrev came : List ℕ
  came = pending old p

  abbrev all : List ℕ
  all = came ++ input

  abbrev result : Outcome
  result = decided old.rules here came input

  stays : Runs (type_step old.rules) start (s ++ input) es here all
  stays = runs_stay (type_step old.rules) start s input es here came run

  ends_alike : new ≡ stopped old → t' ≡ t → p'.under_way ≡ false → (a : Answer) → outcome a new p' t' ≡ record { answer = a; under_way = false; place = ended_at here; pending = []; field = false }
  ends_alike r e f a = rw (r, e, f) refl

  more_decided : new.rules ≡ old.rules → new.under_way ≡ true → p'.under_way ≡ true → After start new p' t' (s ++ input) es → step_says new t'.nodes (pending new p') ≡ reader.More → (old.symbols ≡ [] → ⊥)
      → outcome (More (length input)) new p' t' ≡ result
  more_decided rules under field later said some =
      let same = run_same (type_step old.rules) start here (place_of new t'.nodes) (s ++ input) all (pending new p') es stays (rw rules at later) in
      let emitted_here : step_says old t.nodes all ≡ reader.More = (λ i. says (type_step (sym rules i) (sym same.0 i)) 0 (sym same.1 i)) ∙ said in
      (λ i. record { answer = More (length input); under_way = under i; place = same.0 i; pending = same.1 i; field = field i }) ∙ sym (waits_decided old.symbols (step_says old t.nodes all) here came input some emitted_here)

  item_decided : (at used : ℕ) (e : TypeEvent) → new.rules ≡ old.rules → new.under_way ≡ true → p'.under_way ≡ false → used ≤ length input → pending new p' ≡ [] → After start new p' t' (s ++ take used input) (es ++ (at, e) ∷ []) → (old.symbols ≡ [] → ⊥)
      → outcome (FieldOutline at used e) new p' t' ≡ result
  item_decided at used e rules under field within none later some =
      let rest = drop used input in
      let whole : (s ++ take used input) ++ rest ≡ s ++ input = rw (append_assoc s (take used input) rest, take-append-drop used input) refl in
      let goes : Runs (type_step old.rules) start ((s ++ take used input) ++ rest) (es ++ (at, e) ∷ []) (place_of new t'.nodes) rest = runs_stay (type_step old.rules) start (s ++ take used input) rest (es ++ (at, e) ∷ []) (place_of new t'.nodes) [] (rw (rules, none) at later) in
      let n = run_next (type_step old.rules) start here (place_of new t'.nodes) (s ++ input) all rest es (at, e) stays (rw whole at goes) in
      let x : Emitted TypeEvent TypePlace = record { at = at; event = e; after = n.1 } in
      let inside = (stays_got x n.0 (says_stays (type_step old.rules here) 0 all []) n.2).1 in
      let left : length rest ≡ length (drop n.0 all) = ap (length {A = ℕ}) n.3.1 in
      let taken : n.0 ≡ length came + used = omega (arith, inside, left, within, length-append came input, length-drop used input, length-drop n.0 all) in
      let said : step_says old t.nodes all ≡ Got x (length came + used) = rw taken at n.2 in
      let there : place_of new t'.nodes ≡ n.1 (length came + used) = n.3.0 ∙ ap n.1 taken in
      (λ i. record { answer = FieldOutline at used e; under_way = under i; place = there i; pending = none i; field = field i }) ∙ sym (gives_decided old.symbols (step_says old t.nodes all) here came input x used some said)

  pub push_decided : (depth : ℕ) (x : TypePush) → start.symbols ≡ Option_at depth ∷ [] → old.under_way ≡ true → Uses old input x → Continues old x new → Fills old t x t' → Pushes old p t input x new p' t'
      → (outcome (push_answer x) new p' t' ≡ result) × (new.rules ≡ old.rules) × (t'.room ≡ t.room)
  push_decided depth (push.More used) first under uses goes fills next =
      let l = next.leads start depth first s es run in
      (ap (λ (n : ℕ). outcome (More n) new p' t') uses.0 ∙ more_decided goes.1 goes.0 next.serves.1 l.0 l.1 uses.1, goes.1, rw fills refl)
  push_decided depth (push.Item at used e) first under uses goes fills next =
      let l = next.leads start depth first s es run in
      (item_decided at used (event_of e) goes.1 goes.0 next.serves.1 uses.0 l.0 l.1 uses.1, goes.1, fills.0)
  push_decided depth push.Done first under uses goes fills next =
      (ends_alike goes fills next.serves.1 Done ∙ sym (over_decided old.symbols (step_says old t.nodes all) here came input uses), rw goes refl, rw fills refl)
  push_decided depth (push.Refused r) first under uses goes fills next =
      let l = next.leads start depth first s es run in
      let same = run_same (type_step old.rules) start here here (s ++ input) all all es stays l.0 in
      (ends_alike goes fills next.serves.0 (Refused r) ∙ sym (fails_decided old.symbols (step_says old t.nodes all) here came input r uses l.1), rw goes refl, rw fills refl)

-- ---- what `advance` says and leaves

module _ (old : TypeState) (p : FieldState) (t : Table) (input : List ℕ) (new : TypeState) (p' : FieldState) (t' : Table) where
  pub advance_decided : (x : TypeAdvance) → old.under_way ≡ true → Advances old p t input x new p' t'
      → (outcome (advance_answer input p'.content x) new p' t' ≡ decided old.rules (place_of old t.nodes) (pending old p) input) × (new.rules ≡ old.rules) × (t'.room ≡ t.room)
  advance_decided (advance.More used) under w =
      let place : place_of new t'.nodes ≡ place_of old t.nodes = rw (w.reader, w.table) refl in
      let goes : new.under_way ≡ true = ap (λ (z : TypeState). z.under_way) w.reader ∙ under in
      let field : p'.under_way ≡ true = w.shared.same ∙ ap (λ (z : TypeState). z.begun) w.reader in (
        (λ i. record { answer = More (w.all i); under_way = goes i; place = place i; pending = w.pending i; field = field i })
            ∙ sym (waits_decided old.symbols (step_says old t.nodes (pending old p ++ input)) (place_of old t.nodes) (pending old p) input (waits_some old p t input new p' t' used w) w.is),
        ap (λ (z : TypeState). z.rules) w.reader,
        rw w.table refl,
      )
  advance_decided (advance.Item at used q) under w =
      let goes : new.under_way ≡ true = ap (λ (z : TypeState). z.under_way) w.reader in
      let begun : new.begun ≡ false = ap (λ (z : TypeState). z.begun) w.reader in
      let field : p'.under_way ≡ false = w.shared.same ∙ begun in
      let none : pending new p' ≡ [] = rw begun refl in
      let some = emitted_some old p t input new p' t' (pending old p ++ input) (λ more. let no = sym more ∙ w.is in absurd cc) in (
        (λ i. record { answer = FieldOutline (sym w.place i) used (sym w.event i); under_way = goes i; place = sym w.after i; pending = none i; field = field i })
            ∙ sym (gives_decided old.symbols (step_says old t.nodes (pending old p ++ input)) (place_of old t.nodes) (pending old p) input w.step used some w.is),
        ap (λ (z : TypeState). z.rules) w.reader,
        w.table,
      )
  advance_decided advance.Done under d =
      let idle : p'.under_way ≡ false = rw d.2 d.3 in (
        (λ i. outcome Done (d.1 i) p' (d.4 i)) ∙ (λ i. record { answer = Done; under_way = false; place = ended_at (place_of old t.nodes); pending = []; field = idle i })
            ∙ sym (over_decided old.symbols (step_says old t.nodes (pending old p ++ input)) (place_of old t.nodes) (pending old p) input d.0),
        rw d.1 refl,
        rw d.4 refl,
      )
  advance_decided (advance.Refused r) under d =
      let some = emitted_some old p t input new p' t' (pending old p ++ input) (λ more. let no = sym more ∙ d.0 in absurd cc) in (
        (λ i. outcome (Refused r) (d.1 i) p' (d.5 i)) ∙ (λ i. record { answer = Refused r; under_way = false; place = ended_at (place_of old t.nodes); pending = []; field = d.2 i })
            ∙ sym (fails_decided old.symbols (step_says old t.nodes (pending old p ++ input)) (place_of old t.nodes) (pending old p) input r some d.0),
        rw d.1 refl,
        rw d.5 refl,
      )

-- ---- two calls

-- after the same bytes and items, the same is decided
alike_decided : {X : Type 0} (start : TypePlace) (s : List ℕ) (es : List (ℕ × TypeEvent)) (input : List ℕ) (c d : Call X) → AreAlike start s es c d
    → decided c.reader.rules (place_of c.reader c.table.nodes) (pending c.reader c.partial) input ≡ decided d.reader.rules (place_of d.reader d.table.nodes) (pending d.reader d.partial) input
alike_decided start s es input c d a =
    let same = run_same (type_step d.reader.rules) start (place_of d.reader d.table.nodes) (place_of c.reader c.table.nodes) s (pending d.reader d.partial) (pending c.reader c.partial) es a.3 (rw a.0 at a.2) in
    λ i. decided (a.0 i) (same.0 i) (same.1 i) input

one_of : {X : Type 0} (start : TypePlace) (s : List ℕ) (es : List (ℕ × TypeEvent)) (input : List ℕ) (c d : Call X) (x y : Answer) → AreAlike start s es c d
    → (outcome x c.reader' c.partial' c.table' ≡ decided c.reader.rules (place_of c.reader c.table.nodes) (pending c.reader c.partial) input) × (c.reader'.rules ≡ c.reader.rules) × (c.table'.room ≡ c.table.room)
    → (outcome y d.reader' d.partial' d.table' ≡ decided d.reader.rules (place_of d.reader d.table.nodes) (pending d.reader d.partial) input) × (d.reader'.rules ≡ d.reader.rules) × (d.table'.room ≡ d.table.room)
    → (x ≡ y) × LeaveAlike c d
one_of start s es input c d x y a e f =
    let both : outcome x c.reader' c.partial' c.table' ≡ outcome y d.reader' d.partial' d.table' = e.0 ∙ alike_decided start s es input c d a ∙ sym f.0 in
    let rules : c.reader'.rules ≡ d.reader'.rules = e.1 ∙ a.0 ∙ sym f.1 in
    let room : c.table'.room ≡ d.table'.room = e.2 ∙ a.1 ∙ sym f.2 in
    (ap (λ (z : Outcome). z.answer) both, λ i. record { rules = rules i; under_way = (both i).under_way; place = (both i).place; pending = (both i).pending; field = (both i).field; room = room i })

pub one_push : (start : TypePlace) (depth : ℕ) → start.symbols ≡ Option_at depth ∷ [] → (s : List ℕ) (es : List (ℕ × TypeEvent)) (input : List ℕ) (c d : Call TypePush) → AreAlike start s es c d → IsPush input c → IsPush input d
    → (push_answer c.answer ≡ push_answer d.answer) × LeaveAlike c d
one_push start depth first s es input c d a x y =
    one_of start s es input c d (push_answer c.answer) (push_answer d.answer) a
    (push_decided start c.reader c.partial c.table s es a.2 input c.reader' c.partial' c.table' depth c.answer first x.0 x.4 x.5 x.6 x.7)
    (push_decided start d.reader d.partial d.table s es a.3 input d.reader' d.partial' d.table' depth d.answer first y.0 y.4 y.5 y.6 y.7)

pub one_advance : (start : TypePlace) (s : List ℕ) (es : List (ℕ × TypeEvent)) (input : List ℕ) (c d : Call TypeAdvance) → AreAlike start s es c d → IsAdvance input c → IsAdvance input d
    → (advance_answer input c.partial'.content c.answer ≡ advance_answer input d.partial'.content d.answer) × LeaveAlike c d
one_advance start s es input c d a x y =
    one_of start s es input c d (advance_answer input c.partial'.content c.answer) (advance_answer input d.partial'.content d.answer) a
    (advance_decided c.reader c.partial c.table input c.reader' c.partial' c.table' c.answer x.0 x.4)
    (advance_decided d.reader d.partial d.table input d.reader' d.partial' d.table' d.answer y.0 y.4)
