-- An event of a cell has one answer.
use Rattle.std.proofs.Common.{◌≡◌, ◌⊎◌, Bool, true, false, nat_lt, Result, Ok, Err, refl, sym, ap, ◌∙◌, subst, inl, inr}
use Rattle.std.proofs.lemmas.Bool.{lt-ltb, le-ltb}
use Rattle.cqlp_grammar.specs.Events.{Event}
use Rattle.cqlp_value.specs.Owned.{value_of}
use Rattle.cqlp_value.specs.Values.{Values, values_size}
use Rattle.cqlp_value.specs.declared.value.Value.{Value}
use Rattle.cqlp_build_cells.specs.declared.error.CellError.{CellError}
use Rattle.cqlp_build_cells.specs.declared.error.CellError.TheVariants as cell_error
use Rattle.cqlp_build_cells.specs.declared.builder.CellLimits.{CellLimits}
use Rattle.cqlp_build_cells.specs.Building.{CellState, TakesEvent, empty, ends_cell}
use Rattle.cqlp_build_cells.specs.Laws.{AreSame}
use Rattle.cqlp_build_cells.proofs.OneAnswers.{one_answer as one_event, one_answer_of_finish as one_value}
use Rattle.cqlp_compose.specs.declared.error.PageCellError.TheVariants as error
use Rattle.cqlp_compose.specs.Cells.{CellsState, Ends, GoesOn, IsOfColumn, NotTaken, Takes, TakesNext, is_next, next_column, room, with_cell, within, without_cell}
use Rattle.cqlp_compose.specs.Places.{described_type}
use Rattle.cqlp_compose.specs.PageLaws.{Answer, OneAnswer}

abbrev no_memory : Answer
no_memory = Err (error.Cell cell_error.NoMemory)

-- the same answer and state, or memory was refused to one of them, which left this
abbrev Alike : (Left : CellsState → Type 0) → (a b : Answer) (x y : CellsState) → Type 0
Alike Left a b x y = ((a ≡ b) × (x ≡ y)) ⊎ (((a ≡ no_memory) × Left x) ⊎ ((b ≡ no_memory) × Left y))

weaken : (Left More : CellsState → Type 0) → ((x : CellsState) → Left x → More x) → (a b : Answer) (x y : CellsState) → Alike Left a b x y → Alike More a b x y
weaken Left More on a b x y (inl s) = inl s
weaken Left More on a b x y (inr (inl n)) = inr (inl (n.0, on x n.1))
weaken Left More on a b x y (inr (inr n)) = inr (inr (n.0, on y n.1))

-- without the cell that ends
abbrev Forgets : CellsState → CellsState → Type 0
Forgets s x = x ≡ without_cell s

-- ---- the end of a cell

-- what is answered where this is made of the events, and what the state is then
abbrev answer_if : (long : Bool) → Answer
answer_if true = Err error.PastLength
answer_if false = Ok tt

abbrev after_if : (long : Bool) → CellsState → Values → CellsState
after_if true s v = without_cell s
after_if false s v = with_cell s v

abbrev answer_of : CellsState → Result Values CellError → Answer
answer_of s (Ok v) = answer_if (nat_lt (room s) (values_size v))
answer_of s (Err why) = Err (error.Cell why)

abbrev after_of : CellsState → Result Values CellError → CellsState
after_of s (Ok v) = after_if (nat_lt (room s) (values_size v)) s v
after_of s (Err why) = without_cell s

abbrev seen : Result Value CellError → Result Values CellError
seen (Ok v) = Ok (value_of v)
seen (Err why) = Err why

record IsEnd (s : CellsState) (r : Answer) (new : CellsState) : Type 0 where
  made : Result Value CellError
  is : IsOfColumn s made
  answer : r ≡ answer_of s (seen made)
  after : new ≡ after_of s (seen made)

refused : (s : CellsState) (why : CellError) (new : CellsState) → IsOfColumn s (Err why) → new ≡ without_cell s → IsEnd s (Err (error.Cell why)) new
refused s why new is after = record { made = Err why; is = is; answer = refl; after = after }

end_is : (s : CellsState) (r : Answer) (new : CellsState) → Ends s r new → IsEnd s r new ⊎ ((r ≡ no_memory) × Forgets s new)
end_is s (Ok u) new e =
    let short = le-ltb (room s) (values_size (value_of e.0)) e.2 in
    inl (record {
      made = Ok e.0;
      is = e.1;
      answer = ap answer_if (sym short);
      after = e.3 ∙ ap (λ (b : Bool). after_if b s (value_of e.0)) (sym short);
    })
end_is s (Err error.PastLength) new e =
    let long = lt-ltb (room s) (values_size (value_of e.0)) e.2 in
    inl (record {
      made = Ok e.0;
      is = e.1;
      answer = ap answer_if (sym long);
      after = e.3 ∙ ap (λ (b : Bool). after_if b s (value_of e.0)) (sym long);
    })
end_is s (Err error.NotEnded) new e = absurd e
end_is s (Err (error.Cell cell_error.NoMemory)) new e = inr (refl, e.1)
end_is s (Err (error.Cell cell_error.Misplaced)) new e = inl (refused s cell_error.Misplaced new e.0 e.1)
end_is s (Err (error.Cell cell_error.InParts)) new e = inl (refused s cell_error.InParts new e.0 e.1)
end_is s (Err (error.Cell cell_error.TooManyEvents)) new e = inl (refused s cell_error.TooManyEvents new e.0 e.1)
end_is s (Err (error.Cell cell_error.TooManyBytes)) new e = inl (refused s cell_error.TooManyBytes new e.0 e.1)
end_is s (Err (error.Cell cell_error.Unformed)) new e = inl (refused s cell_error.Unformed new e.0 e.1)
end_is s (Err (error.Cell cell_error.NoValue)) new e = inl (refused s cell_error.NoValue new e.0 e.1)

-- the same is made, or memory was refused
same_made : (a b : Result Value CellError) → AreSame a b → (seen a ≡ seen b) ⊎ ((a ≡ Err cell_error.NoMemory) ⊎ (b ≡ Err cell_error.NoMemory))
same_made (Ok v) (Ok w) s = inl (ap (λ (x : Values). Ok x) s)
same_made (Ok v) (Err cell_error.NoMemory) s = inr (inr refl)
same_made (Ok v) (Err e) s = absurd s
same_made (Err cell_error.NoMemory) b s = inr (inl refl)
same_made (Err e) (Ok w) s = absurd s
same_made (Err e) (Err cell_error.NoMemory) s = inr (inr refl)
same_made (Err e) (Err d) s = inl (ap (λ (x : CellError). Err x) s)

both_made : (s : CellsState) (a b : Answer) (x y : CellsState) (m : IsEnd s a x) (k : IsEnd s b y) → (seen m.made ≡ seen k.made) ⊎ ((m.made ≡ Err cell_error.NoMemory) ⊎ (k.made ≡ Err cell_error.NoMemory)) → Alike (Forgets s) a b x y
both_made s a b x y m k (inl same) = inl (m.answer ∙ ap (answer_of s) same ∙ sym k.answer, m.after ∙ ap (after_of s) same ∙ sym k.after)
both_made s a b x y m k (inr (inl e)) = inr (inl (m.answer ∙ ap (λ (r : Result Value CellError). answer_of s (seen r)) e, m.after ∙ ap (λ (r : Result Value CellError). after_of s (seen r)) e))
both_made s a b x y m k (inr (inr e)) = inr (inr (k.answer ∙ ap (λ (r : Result Value CellError). answer_of s (seen r)) e, k.after ∙ ap (λ (r : Result Value CellError). after_of s (seen r)) e))

both_ends : (s : CellsState) (a b : Answer) (x y : CellsState) → IsEnd s a x ⊎ ((a ≡ no_memory) × Forgets s x) → IsEnd s b y ⊎ ((b ≡ no_memory) × Forgets s y) → Alike (Forgets s) a b x y
both_ends s a b x y (inr e) k = inr (inl e)
both_ends s a b x y (inl m) (inr e) = inr (inr e)
both_ends s a b x y (inl m) (inl k) =
    both_made s a b x y m k (same_made m.made k.made (one_value s.under.events (described_type s.frame (next_column s)) m.made k.made m.is k.is))

one_end : (s : CellsState) (a b : Answer) (x y : CellsState) → Ends s a x → Ends s b y → Alike (Forgets s) a b x y
one_end s a b x y p q = both_ends s a b x y (end_is s a x p) (end_is s b y q)

one_way : (ends : Bool) (s : CellsState) (a b : Answer) (x y : CellsState) → GoesOn ends s a x → GoesOn ends s b y → Alike (λ z. (ends ≡ true) × Forgets s z) a b x y
one_way true s a b x y p q = weaken (Forgets s) (λ z. (true ≡ true) × Forgets s z) (λ z left. (refl, left)) a b x y (one_end s a b x y p q)
one_way false s (Ok u) (Ok w) x y p q = inl (refl, p ∙ sym q)
one_way false s (Ok u) (Err e) x y p q = absurd q
one_way false s (Err e) b x y p q = absurd p

-- ---- one event

-- it is of another place
abbrev Elsewhere : CellsState → Event → Answer → CellsState → Type 0
Elsewhere old e r new = (is_next old e ≡ false) × (r ≡ Err (error.Cell cell_error.Misplaced)) × (new ≡ old)

-- it is not taken
abbrev Refused : CellsState → Event → Answer → CellsState → Type 0
Refused old e r new = (why : CellError) × NotTaken old e why new × (r ≡ Err (error.Cell why))

abbrev View : CellsState → Event → Answer → CellsState → Type 0
View old e r new = Elsewhere old e r new ⊎ (Refused old e r new ⊎ TakesNext old e r new)

either : (old : CellsState) (e : Event) (why : CellError) (new : CellsState) → NotTaken old e why new ⊎ TakesNext old e (Err (error.Cell why)) new → View old e (Err (error.Cell why)) new
either old e why new (inl n) = inr (inl (why, n, refl))
either old e why new (inr t) = inr (inr t)

view : (old : CellsState) (e : Event) (r : Answer) (new : CellsState) → Takes old e r new → View old e r new
view old e (Ok u) new t = inr (inr t)
view old e (Err error.PastLength) new t = inr (inr t)
view old e (Err error.NotEnded) new t = inr (inr t)
view old e (Err (error.Cell cell_error.Misplaced)) new (inl t) = inl (t.0, refl, t.1)
view old e (Err (error.Cell cell_error.Misplaced)) new (inr t) = inr (inl (cell_error.Misplaced, t, refl))
view old e (Err (error.Cell cell_error.InParts)) new t = either old e cell_error.InParts new t
view old e (Err (error.Cell cell_error.TooManyEvents)) new t = either old e cell_error.TooManyEvents new t
view old e (Err (error.Cell cell_error.TooManyBytes)) new t = either old e cell_error.TooManyBytes new t
view old e (Err (error.Cell cell_error.Unformed)) new t = either old e cell_error.Unformed new t
view old e (Err (error.Cell cell_error.NoValue)) new t = either old e cell_error.NoValue new t
view old e (Err (error.Cell cell_error.NoMemory)) new t = either old e cell_error.NoMemory new t

not_both : {A : Type 0} (b : Bool) → b ≡ true → b ≡ false → A
not_both true p q = absurd cc
not_both false p q = absurd cc

flipped : (Left : CellsState → Type 0) → (a b : Answer) (x y : CellsState) → Alike Left a b x y → Alike Left b a y x
flipped Left a b x y (inl s) = inl (sym s.0, sym s.1)
flipped Left a b x y (inr (inl e)) = inr (inr e)
flipped Left a b x y (inr (inr e)) = inr (inl e)

-- what is left where memory was refused
abbrev IsLeft : CellsState → Event → CellsState → Type 0
IsLeft old e after = (after ≡ old) ⊎ ((ends_cell e ≡ true) × (after ≡ without_cell old))

-- an event leaves the limits
same_limits : (old new : CellState) (e : Event) → TakesEvent old e (Ok tt) new → new.limits ≡ old.limits
same_limits old new e t = ap (λ (u : CellState). u.limits) t.2.4

forgotten : (old : CellsState) (u : CellState) → u.limits ≡ old.under.limits → without_cell (within old u) ≡ without_cell old
forgotten old u same = ap (λ (l : CellLimits). record old { under = empty l; cut = false }) same

abbrev Same : {A : Type 0} → (a b : A) (x y : CellState) → (none : A) → Type 0
Same a b x y none = ((a ≡ b) × (x ≡ y)) ⊎ ((a ≡ none) ⊎ (b ≡ none))

abbrev as_cell : (CellError) → Answer
as_cell why = Err (error.Cell why)

abbrev none_there : Result (Unit {0}) CellError
none_there = Err cell_error.NoMemory

why_same : (a b : CellError) → ◌≡◌ {A = Result (Unit {0}) CellError} (Err a) (Err b) → a ≡ b
why_same a b e = cc

refused_next : (old : CellsState) (e : Event) (a b : Answer) (x y : CellsState) (u : CellState) (why : CellError) → a ≡ as_cell why → x ≡ old → Same {A = Result (Unit {0}) CellError} (Err why) (Ok tt) old.under u none_there → Alike (IsLeft old e) a b x y
refused_next old e a b x y u why is after (inl s) = let d = s.0 in absurd cc
refused_next old e a b x y u why is after (inr (inl n)) = inr (inl (is ∙ ap as_cell (why_same why cell_error.NoMemory n), inl after))
refused_next old e a b x y u why is after (inr (inr n)) = absurd cc

refused_both : (old : CellsState) (e : Event) (a b : Answer) (x y : CellsState) (why other : CellError) → a ≡ as_cell why → b ≡ as_cell other → x ≡ old → y ≡ old → Same {A = Result (Unit {0}) CellError} (Err why) (Err other) old.under old.under none_there → Alike (IsLeft old e) a b x y
refused_both old e a b x y why other is also after then (inl s) = inl (is ∙ ap as_cell (why_same why other s.0) ∙ sym also, after ∙ sym then)
refused_both old e a b x y why other is also after then (inr (inl n)) = inr (inl (is ∙ ap as_cell (why_same why cell_error.NoMemory n), inl after))
refused_both old e a b x y why other is also after then (inr (inr n)) = inr (inr (also ∙ ap as_cell (why_same other cell_error.NoMemory n), inl then))

next_both : (old : CellsState) (e : Event) (a b : Answer) (x y : CellsState) (p : TakesNext old e a x) (q : TakesNext old e b y) → Same {A = Result (Unit {0}) CellError} (Ok tt) (Ok tt) p.1 q.1 none_there → Alike (IsLeft old e) a b x y
next_both old e a b x y p q (inl s) =
    weaken (λ z. (ends_cell e ≡ true) × Forgets (within old q.1) z) (IsLeft old e) (λ z left. inr (left.0, left.1 ∙ forgotten old q.1 (same_limits old.under q.1 e q.2))) a b x y
    (one_way (ends_cell e) (within old q.1) a b x y (subst (λ (u : CellState). GoesOn (ends_cell e) (within old u) a x) s.1 p.3) q.3)
next_both old e a b x y p q (inr (inl n)) = absurd cc
next_both old e a b x y p q (inr (inr n)) = absurd cc

by_views : (old : CellsState) (e : Event) (a b : Answer) (x y : CellsState) → View old e a x → View old e b y → Alike (IsLeft old e) a b x y
by_views old e a b x y (inl s) (inl t) = inl (s.1 ∙ sym t.1, s.2 ∙ sym t.2)
by_views old e a b x y (inl s) (inr (inl t)) = not_both (is_next old e) t.1.0 s.0
by_views old e a b x y (inl s) (inr (inr t)) = not_both (is_next old e) t.0 s.0
by_views old e a b x y (inr (inl s)) (inl t) = not_both (is_next old e) s.1.0 t.0
by_views old e a b x y (inr (inl s)) (inr (inl t)) =
    refused_both old e a b x y s.0 t.0 s.2 t.2 s.1.2 t.1.2 (one_event old.under e (Err s.0) (Err t.0) old.under old.under s.1.1 t.1.1)
by_views old e a b x y (inr (inl s)) (inr (inr t)) =
    refused_next old e a b x y t.1 s.0 s.2 s.1.2 (one_event old.under e (Err s.0) (Ok tt) old.under t.1 s.1.1 t.2)
by_views old e a b x y (inr (inr s)) (inl t) = not_both (is_next old e) s.0 t.0
by_views old e a b x y (inr (inr s)) (inr (inl t)) =
    flipped (IsLeft old e) b a y x (refused_next old e b a y x s.1 t.0 t.2 t.1.2 (one_event old.under e (Err t.0) (Ok tt) old.under s.1 t.1.1 s.2))
by_views old e a b x y (inr (inr s)) (inr (inr t)) = next_both old e a b x y s t (one_event old.under e (Ok tt) (Ok tt) s.1 t.1 s.2 t.2)

pub one_answer : OneAnswer
one_answer old e a b x y p q = by_views old e a b x y (view old e a x p) (view old e b y q)
