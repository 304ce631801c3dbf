-- How an option is read that comes to an end.
use Rattle.std.proofs.Common.{◌≡◌, ℕ, ◌+◌, ◌-◌, ◌<◌, ◌≤◌, Bool, true, false, List, [], ◌∷◌, ◌++◌, length, take, drop, sym, ap, subst, ◌∙◌, arith}
use Rattle.std.proofs.lemmas.List.{drop-drop, length-drop, take_all}
use Rattle.cqlp_note.specs.declared.refusal.Reason.{Reason}
use Rattle.cqlp_note.specs.Reader.{Said, More, Bad, Got, says}
use Rattle.cqlp_note.specs.Step.{Emitted, Runs}
use Rattle.cqlp_note.specs.Limits.{Rules}
use Rattle.cqlp_note.specs.Partial.{FieldState}
use Rattle.cqlp_note.proofs.Readers.{says_always}
use Rattle.cqlp_kind.specs.declared.node.Node.{Node}
use Rattle.cqlp_kind.specs.Types.{preorder}
use Rattle.cqlp_kind.specs.TypeStep.{TypeSymbol, Option_at, TypeEvent, TypePlace, type_step, type_step_at}
use Rattle.cqlp_type.specs.declared.advance.TypeOutline.{TypeOutline}
use Rattle.cqlp_type.specs.Table.{Table}
use Rattle.cqlp_type.specs.Trees.{Trees, types_in, trees_items, placed, tree_bytes}
use Rattle.cqlp_type.specs.Progress.{TypeState, IsShared, place_of, started, stopped, step_says, pending, Waits, Ends}
use Rattle.cqlp_type.specs.Pushing.{ReadsInto}
use Rattle.cqlp_type.proofs.SpelledRead.{tree_read}
use Rattle.cqlp_type.proofs.ReadBack.{Came, step_came}
use Rattle.cqlp_type_tables.specs.Reading.{IsReadAs, IsIdle}

-- where the reading of a type's option ends that begins at 0 after these nodes
abbrev pub end_of : List Node → Trees → TypePlace
end_of ns t = record { offset = 0 + length (tree_bytes t); stop = length (tree_bytes t); symbols = []; nodes = ns ++ preorder (types_in t) }

not_both : (b : Bool) → b ≡ false → b ≡ true → ⊥
not_both false e f = absurd cc
not_both true e f = absurd cc

-- nothing more is said where nothing is left
idles : (l : Rules) (p : TypePlace) (bytes : List ℕ) → p.symbols ≡ [] → says (type_step l p) 0 bytes ≡ More
idles l p bytes none = ap (λ (ss : List TypeSymbol). says (type_step_at l p ss) 0 bytes) none

module _ (l : Rules) (p q : TypePlace) (bytes : List ℕ) (over : q.symbols ≡ []) where
  abbrev To_end : List (ℕ × TypeEvent) → Type 0
  To_end items = Runs (type_step l) p bytes items q []

  next : (items : List (ℕ × TypeEvent)) (x : Emitted TypeEvent TypePlace) (k : ℕ) → To_end items → says (type_step l p) 0 bytes ≡ Got x k → (more : List (ℕ × TypeEvent)) × Runs (type_step l) (x.after k) (drop k bytes) more q []
  next [] x k r s =
      let none : p.symbols ≡ [] = ap (λ (y : TypePlace). y.symbols) (sym r.0) ∙ over in
      let other = sym (idles l p bytes none) ∙ s in
      absurd cc
  next (e ∷ es) x k r s =
      let y : Emitted TypeEvent TypePlace = record { at = e.0; event = e.1; after = r.1 } in
      let same : Got y r.0 ≡ Got x k = sym r.2 ∙ s in
      let used : r.0 ≡ k = cc in
      let step : y ≡ x = cc in
      let after : r.1 ≡ x.after = ap (λ (z : Emitted TypeEvent TypePlace). z.after) step in
      (es, rw (used, after) at r.3)

  not_bad : (items : List (ℕ × TypeEvent)) (f : ℕ × Reason) → To_end items → says (type_step l p) 0 bytes ≡ Bad f → ⊥
  not_bad [] f r s =
      let none : p.symbols ≡ [] = ap (λ (y : TypePlace). y.symbols) (sym r.0) ∙ over in
      let other = sym (idles l p bytes none) ∙ s in
      absurd cc
  not_bad (e ∷ es) f r s = let other = sym r.2 ∙ s in absurd cc

  not_more : (items : List (ℕ × TypeEvent)) → To_end items → (p.symbols ≡ [] → ⊥) → says (type_step l p) 0 bytes ≡ More → ⊥
  not_more [] r some s = some (ap (λ (y : TypePlace). y.symbols) (sym r.0) ∙ over)
  not_more (e ∷ es) r some s = let other = sym r.2 ∙ s in absurd cc

  at_end : (items : List (ℕ × TypeEvent)) → To_end items → p.symbols ≡ [] → p ≡ q
  at_end [] r none = sym r.0
  at_end (e ∷ es) r none = let other = sym (idles l p bytes none) ∙ r.2 in absurd cc

-- An option is under way of which no item is, and the bytes that are left lead to its end.
pub record Leads (l : Rules) (q : TypePlace) (rest : List ℕ) (r : TypeState) (p : FieldState) (t : Table) : Type 0 where
  pub under_way : r.under_way ≡ true
  pub fresh : r.begun ≡ false
  pub shared : IsShared r p
  pub rules : r.rules ≡ l
  pub into : ReadsInto r p t
  pub items : List (ℕ × TypeEvent)
  pub run : Runs (type_step l) (place_of r t.nodes) rest items q []

pub option_runs : (l : Rules) (ns : List Node) (t : Trees) → IsReadAs l ns t → Runs (type_step l) (record { offset = 0; stop = length (tree_bytes t); symbols = Option_at 1 ∷ []; nodes = ns }) (tree_bytes t) (placed 0 (trees_items false t)) (end_of ns t) []
option_runs l ns t is = tree_read l t 1 0 (length (tree_bytes t)) ns (tree_bytes t) is.one is.are is.shallow is.short is.room is.spelled (omega arith)

module _ (l : Rules) (q : TypePlace) (rest : List ℕ) (old : TypeState) (p : FieldState) (t : Table) (over : q.symbols ≡ []) (leads : Leads l q rest old p t) where
  -- what is said of the bytes that are left
  said : (x : Said (Emitted TypeEvent TypePlace) (ℕ × Reason)) → step_says old t.nodes (pending old p ++ rest) ≡ x → says (type_step l (place_of old t.nodes)) 0 rest ≡ x
  said x s = rw (leads.fresh, leads.rules) at s

  symbols_wanted : (new : TypeState) (p' : FieldState) → new.begun ≡ true → IsShared new p' → new.symbols ≡ [] → ⊥
  symbols_wanted new p' begun shared none = rw none at (shared.item begun)

  pub item_leads : (new : TypeState) (p' : FieldState) (t' : Table) (at used : ℕ) (o : TypeOutline) → Ends old p t rest at used o new p' t' → ReadsInto new p' t' → Leads l q (drop used rest) new p' t' × (0 < used)
  item_leads new p' t' at used o e into =
      let count : length (pending old p) + used ≡ used = rw leads.fresh (omega arith) in
      let got : says (type_step l (place_of old t.nodes)) 0 rest ≡ Got e.step used = said (Got e.step used) (e.is ∙ ap (Got e.step) count) in
      let place : e.step.after used ≡ place_of new t'.nodes = ap e.step.after (sym count) ∙ e.after in
      let n = next l (place_of old t.nodes) q rest over leads.items e.step used leads.run got in
      let came = (says_always (Came l (place_of old t.nodes) old.symbols) (type_step l (place_of old t.nodes)) [] rest e.step used (step_came l (place_of old t.nodes) old.symbols) got).1 in
      let onward : new.offset ≡ old.offset + used = ap (λ (y : TypePlace). y.offset) (sym place) ∙ came.onward used in
      let reader = e.reader in (
        record {
          under_way = ap (λ (y : TypeState). y.under_way) reader;
          fresh = ap (λ (y : TypeState). y.begun) reader;
          shared = e.shared;
          rules = ap (λ (y : TypeState). y.rules) reader ∙ leads.rules;
          into = into;
          items = n.0;
          run = rw place at n.1;
        },
        omega (arith, e.forward, onward),
      )

  pub never_waits : (input : List ℕ) → input ≡ rest → (new : TypeState) (p' : FieldState) (t' : Table) (used : ℕ) → Waits old p t input used new p' t' → ⊥
  never_waits input is new p' t' used w =
      let begun : new.begun ≡ true = ap (λ (y : TypeState). y.begun) w.reader in
      let same : new.symbols ≡ old.symbols = ap (λ (y : TypeState). y.symbols) w.reader in
      let more = said More (subst (λ (x : List ℕ). step_says old t.nodes (pending old p ++ x) ≡ More) is w.is) in
      not_more l (place_of old t.nodes) q rest over leads.items leads.run (λ none. symbols_wanted new p' begun w.shared (same ∙ none)) more

  pub never_refused : (input : List ℕ) → input ≡ rest → (f : ℕ × Reason) → step_says old t.nodes (pending old p ++ input) ≡ Bad f → ⊥
  never_refused input is f s = not_bad l (place_of old t.nodes) q rest over leads.items f leads.run (said (Bad f) (subst (λ (x : List ℕ). step_says old t.nodes (pending old p ++ x) ≡ Bad f) is s))

  pub whole_nodes : old.symbols ≡ [] → t.nodes ≡ q.nodes
  whole_nodes none = ap (λ (y : TypePlace). y.nodes) (at_end l (place_of old t.nodes) q rest over leads.items leads.run none)

  pub idle_again : (new : TypeState) (p' : FieldState) → new ≡ stopped old → p' ≡ p → p.under_way ≡ false → IsIdle new p'
  idle_again new p' reader field none =
      let rules : new.rules ≡ old.rules = ap (λ (y : TypeState). y.rules) reader in
      record { option = ap (λ (y : TypeState). y.under_way) reader; field = ap (λ (y : FieldState). y.under_way) field ∙ none; room = rw (rules, field) leads.shared.room }

-- The input of a call is what is left after the bytes before it.
pub rest_is : (xs ys : List ℕ) (i : ℕ) → xs ≡ ys → take (length xs - i) (drop i xs) ≡ drop i ys
rest_is xs ys i e =
    let long : length (drop i xs) ≡ length xs - i = length-drop i xs in
    take_all (length xs - i) (drop i xs) (omega (arith, long)) ∙ ap (λ (zs : List ℕ). drop i zs) e

pub begins : (old new : TypeState) (p : FieldState) (t : Table) (tree : Trees) (bytes : List ℕ) (stop : ℕ) → bytes ≡ tree_bytes tree → stop ≡ length bytes → new ≡ started old 0 stop → IsIdle old p → ReadsInto new p t → IsReadAs old.rules t.nodes tree
    → Leads old.rules (end_of t.nodes tree) (drop 0 bytes) new p t
begins old new p t tree bytes stop are long is idle into read =
    let begun : new.begun ≡ false = ap (λ (y : TypeState). y.begun) is in
    let rules : new.rules ≡ old.rules = ap (λ (y : TypeState). y.rules) is in
    let ends : stop ≡ length (tree_bytes tree) = long ∙ ap (length {A = ℕ}) are in
    let place : place_of new t.nodes ≡ record { offset = 0; stop = length (tree_bytes tree); symbols = Option_at 1 ∷ []; nodes = t.nodes } = ap (λ (y : TypeState). place_of y t.nodes) is ∙ ap (λ (n : ℕ). place_of (started old 0 n) t.nodes) ends in
    record {
      under_way = ap (λ (y : TypeState). y.under_way) is;
      fresh = begun;
      shared = record { room = rw rules idle.room; same = idle.field ∙ sym begun; item = λ e. absurd (not_both _ begun e); taken = λ e. absurd (not_both _ begun e) };
      rules = rules;
      into = into;
      items = placed 0 (trees_items false tree);
      run = rw (place, are) (option_runs old.rules t.nodes tree read);
    }

pub goes_on : (l : Rules) (q : TypePlace) (bytes input : List ℕ) (start : ℕ) (old : TypeState) (p : FieldState) (t : Table) → q.symbols ≡ [] → Leads l q (drop start bytes) old p t → input ≡ drop start bytes → start ≤ length bytes
    → (new : TypeState) (p' : FieldState) (t' : Table) (at used : ℕ) (o : TypeOutline) → Ends old p t input at used o new p' t' → ReadsInto new p' t' → Leads l q (drop (start + used) bytes) new p' t' × (0 < used) × (start + used ≤ length bytes)
goes_on l q bytes input start old p t over leads is le new p' t' at used o e into =
    let ends : Ends old p t (drop start bytes) at used o new p' t' = subst (λ (x : List ℕ). Ends old p t x at used o new p' t') is e in
    let next = item_leads l q (drop start bytes) old p t over leads new p' t' at used o ends into in
    let twice : drop used (drop start bytes) ≡ drop (start + used) bytes = drop-drop used start bytes in
    let long : length (drop start bytes) ≡ length bytes - start = length-drop start bytes in
    (rw twice at next.0, next.1, omega (arith, ends.within, long))
