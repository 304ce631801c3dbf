-- What was read of an option after each call, and what a push leads to.
use Rattle.std.proofs.Common.{◌≡◌, ℕ, ◌+◌, ◌≤◌, Bool, true, false, List, [], ◌∷◌, ◌++◌, length, take, drop, refl, sym, ap, ◌∙◌, arith}
use Rattle.std.proofs.lemmas.List.{length-append, length-take-le, drop_all}
use Rattle.cqlp_note.specs.declared.head.Wanted.{Wanted}
use Rattle.cqlp_note.specs.declared.refusal.Reason.{Reason}
use Rattle.cqlp_note.specs.declared.refusal.Refusal.{Refusal}
use Rattle.cqlp_note.specs.Reader.{Said, More, Got, says}
use Rattle.cqlp_note.specs.Step.{Emitted, Runs}
use Rattle.cqlp_note.specs.Limits.{Rules}
use Rattle.cqlp_note.specs.Partial.{FieldState}
use Rattle.cqlp_note.proofs.Runs.{runs_then, runs_stay}
use Rattle.cqlp_note.proofs.Yields.{says_exact, emitted_is}
use Rattle.cqlp_type.specs.declared.advance.TypeOutline.{TypeOutline}
use Rattle.cqlp_type.specs.declared.item.TypeItem.{TypeItem}
use Rattle.cqlp_type.specs.declared.advance.TypeAdvance.TheVariants as advance
use Rattle.cqlp_type.specs.declared.item.TypePush.TheVariants as push
use Rattle.cqlp_kind.specs.Types.{IsPreorder}
use Rattle.cqlp_kind.specs.TypeStep.{TypeSymbol, Option_at, TypeEvent, TypePlace, type_step}
use Rattle.cqlp_type.specs.Table.{Table}
use Rattle.cqlp_type.specs.Remaining.{event_at}
use Rattle.cqlp_type.specs.Progress.{TypeState, IsShared, IsFor, place_of, pending, step_says, started, stopped, Waits, Ends, Advances}
use Rattle.cqlp_type.specs.Pushing.{After, ReadsInto, IsWhole, Pushes, event_of}
use Rattle.cqlp_type.proofs.ReadBack.{option_read}

-- one more step of a run
pub run_more : (l : Rules) (start p q : TypePlace) (s b t : List ℕ) (es : List (ℕ × TypeEvent)) (at : ℕ) (e : TypeEvent) (x : Emitted TypeEvent TypePlace) → Runs (type_step l) start s es p b
    → says (type_step l p) 0 (b ++ t) ≡ Got x (length b + length t) → x.at ≡ at → x.event ≡ e → x.after (length b + length t) ≡ q → Runs (type_step l) start (s ++ t) (es ++ (at, e) ∷ []) q []
run_more l start p q s b t es at e x run said a w after =
    let k = length b + length t in
    let none : drop k (b ++ t) ≡ [] = drop_all k (b ++ t) (omega (arith, length-append b t)) in
    runs_then (type_step l) start p q (s ++ t) (b ++ t) [] es ((at, e) ∷ []) (runs_stay (type_step l) start s t es p b run) (k, x.after, said ∙ ap (λ (z : Emitted TypeEvent TypePlace). Got z k) (emitted_is x at e a w), (sym after, sym none))

-- what a step says of these bytes, as a function of all that it depends on
abbrev emitted_by : Rules → TypePlace → List ℕ → Said (Emitted TypeEvent TypePlace) (ℕ × Reason)
emitted_by l q b = says (type_step l q) 0 b

-- ---- what was read since an option began

pub option_begun : (r : TypeState) (p : FieldState) (t : Table) (at stop : ℕ) → After (record { offset = at; stop = stop; symbols = Option_at 1 ∷ []; nodes = t.nodes }) (started r at stop) p t [] []
option_begun r p t at stop = (refl, refl)

not_begun : (l : Rules) (offset stop : ℕ) (w : Wanted) (b : Bool) (ss : List TypeSymbol) → ss ≡ [] → (b ≡ true → IsFor l offset stop ss w) → b ≡ false
not_begun l offset stop w true ss none f = absurd (rw none at (f refl))
not_begun l offset stop w false ss none f = refl

-- where nothing is left to be read, no item has begun
pub nothing_begun : (r : TypeState) (p : FieldState) → IsShared r p → r.symbols ≡ [] → r.begun ≡ false
nothing_begun r p shared none = not_begun r.rules r.offset r.stop p.field r.begun r.symbols none shared.item

pub option_over : (start : TypePlace) (depth : ℕ) (r : TypeState) (p : FieldState) (t : Table) (s : List ℕ) (es : List (ℕ × TypeEvent)) → start.symbols ≡ Option_at depth ∷ [] → After start r p t s es → r.symbols ≡ [] → r.begun ≡ false
    → IsWhole r.rules depth start.offset start.nodes s es t.nodes
option_over start depth r p t s es first run done idle =
    let none : pending r p ≡ [] = rw idle refl in
    option_read r.rules depth start (place_of r t.nodes) s es first done (rw none at run)

module _ (old : TypeState) (p : FieldState) (t : Table) (input : List ℕ) (new : TypeState) (p' : FieldState) (t' : Table) where
  pub option_waited : (used : ℕ) → Waits old p t input used new p' t' → (start : TypePlace) (s : List ℕ) (es : List (ℕ × TypeEvent)) → After start old p t s es → After start new p' t' (s ++ input) es
  option_waited used w start s es run =
      let place : place_of new t'.nodes ≡ place_of old t.nodes = rw (w.reader, w.table) refl in
      let rules : new.rules ≡ old.rules = ap (λ (z : TypeState). z.rules) w.reader in
      rw (rules, place, w.pending) (runs_stay (type_step old.rules) start s input es (place_of old t.nodes) (pending old p) run)

  pub option_handed : (at used : ℕ) (q : TypeOutline) → Ends old p t input at used q new p' t' → (start : TypePlace) (s : List ℕ) (es : List (ℕ × TypeEvent)) → After start old p t s es
      → After start new p' t' (s ++ take used input) (es ++ (at, event_at q input p'.content) ∷ [])
  option_handed at used q w start s es run =
      let rules : new.rules ≡ old.rules = ap (λ (z : TypeState). z.rules) w.reader in
      let begun : new.begun ≡ false = ap (λ (z : TypeState). z.begun) w.reader in
      let none : pending new p' ≡ [] = rw begun refl in
      let bytes = take used input in
      let long : length bytes ≡ used = length-take-le used input w.within in
      let exact = says_exact (type_step old.rules (place_of old t.nodes)) (pending old p) input w.step used w.is in
      rw (rules, none) (run_more old.rules start (place_of old t.nodes) (place_of new t'.nodes) s (pending old p) bytes es at (event_at q input p'.content) w.step run (rw long exact) w.place w.event (rw long w.after))

  -- ---- what a push leads to

  pub waits_some : (used : ℕ) → Waits old p t input used new p' t' → old.symbols ≡ [] → ⊥
  waits_some used w none =
      let same : new.symbols ≡ [] = ap (λ (z : TypeState). z.symbols) w.reader ∙ none in
      let begun : new.begun ≡ true = ap (λ (z : TypeState). z.begun) w.reader in
      let over : new.begun ≡ false = nothing_begun new p' w.shared same in
      absurd cc

  pub emitted_some : (bytes : List ℕ) → (step_says old t.nodes bytes ≡ More → ⊥) → old.symbols ≡ [] → ⊥
  emitted_some bytes said none = said (rw none refl)

  pub waits_pushes : (used : ℕ) → old.under_way ≡ true → ReadsInto new p' t' → Waits old p t input used new p' t'
      → Pushes old p t input (push.More used) new p' t' × ((used ≡ length input) × (old.symbols ≡ [] → ⊥)) × ((new.under_way ≡ true) × (new.rules ≡ old.rules)) × (t' ≡ t)
  waits_pushes used under reads w =
      let place : place_of new t'.nodes ≡ place_of old t.nodes = rw (w.reader, w.table) refl in
      let rules : new.rules ≡ old.rules = ap (λ (z : TypeState). z.rules) w.reader in (
        record {
          leads = λ start depth first s es run. (option_waited used w start s es run, (λ i. emitted_by (rules i) (place i) (w.pending i)) ∙ w.is);
          serves = (w.shared, w.shared.same ∙ ap (λ (z : TypeState). z.begun) w.reader);
          room = w.room;
          table = reads;
        },
        (w.all, waits_some used w),
        (ap (λ (z : TypeState). z.under_way) w.reader ∙ under, rules),
        w.table,
      )

  pub item_pushes : (at used : ℕ) (q : TypeOutline) (e : TypeItem) → event_of e ≡ event_at q input p'.content → ReadsInto new p' t' → Ends old p t input at used q new p' t'
      → Pushes old p t input (push.Item at used e) new p' t' × ((used ≤ length input) × (old.symbols ≡ [] → ⊥)) × ((new.under_way ≡ true) × (new.rules ≡ old.rules)) × ((t'.room ≡ t.room) × (length t.nodes ≤ old.rules.entries → length t'.nodes ≤ old.rules.entries))
  item_pushes at used q e is reads w =
      let rules : new.rules ≡ old.rules = ap (λ (z : TypeState). z.rules) w.reader in
      let begun : new.begun ≡ false = ap (λ (z : TypeState). z.begun) w.reader in (
        record {
          leads = λ start depth first s es run. (rw begun refl, rw is (option_handed at used q w start s es run));
          serves = (w.shared, w.shared.same ∙ begun, λ short. w.lent (rw is at short));
          room = w.room;
          table = reads;
        },
        (w.within, emitted_some (pending old p ++ input) (λ more. let no = sym more ∙ w.is in absurd cc)),
        (ap (λ (z : TypeState). z.under_way) w.reader, rules),
        (w.table, w.entries),
      )

  pub done_pushes : IsShared old p → IsPreorder t'.nodes → Advances old p t input advance.Done new p' t' → Pushes old p t input push.Done new p' t' × (old.symbols ≡ []) × (new ≡ stopped old) × (t' ≡ t)
  done_pushes shared whole d = (
    record {
      leads = λ start depth first s es run. rw d.4 (option_over start depth old p t s es first run d.0 (nothing_begun old p shared d.0));
      serves = (d.2, rw d.2 d.3);
      room = rw d.2 refl;
      table = whole;
    },
    d.0,
    d.1,
    d.4,
  )

  pub refused_pushes : (r : Refusal) → Advances old p t input (advance.Refused r) new p' t' → Pushes old p t input (push.Refused r) new p' t' × (old.symbols ≡ [] → ⊥) × (new ≡ stopped old) × (t' ≡ t)
  refused_pushes r d = (
    record {
      leads = λ start depth first s es run. (runs_stay (type_step old.rules) start s input es (place_of old t.nodes) (pending old p) run, d.0);
      serves = (d.2, d.3);
      room = d.4;
      table = tt;
    },
    emitted_some (pending old p ++ input) (λ more. let no = sym more ∙ d.0 in absurd cc),
    d.1,
    d.5,
  )
