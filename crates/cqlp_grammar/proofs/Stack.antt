-- The slots in order, one more and one less.
use Rattle.std.proofs.Common.{◌≡◌, ℕ, zero, suc, drop, drop-cons, add-one, ◌+◌, ◌-◌, ◌<◌, ◌≤◌, List, [], ◌∷◌, ◌++◌, length, take, refl, sym, ap, ◌∙◌, append_assoc, arith, get_or}
use Rattle.std.proofs.Math.ListN.{set}
use Rattle.std.proofs.lemmas.List.{append-nil, length-append, take_more, take_more_set, length-take, length-take-le, drop_all}
use Rattle.std.specs.Prelude.{max}
use Rattle.cqlp_kind.specs.Types.{NoMore}
use Rattle.cqlp_grammar.specs.Productions.{Symbol, In, Extra, copies, group, rows_from}
use Rattle.cqlp_grammar.specs.declared.grammar.Group.{Group}
use Rattle.cqlp_grammar.specs.declared.grammar.Group.TheVariants as groups
use Rattle.std.specs.Prelude.{true, false}
use Rattle.std.specs.Prelude.{Option, Some, None}
use Rattle.cqlp_grammar.specs.declared.productions.Expected.{Expected}
use Rattle.cqlp_grammar.specs.declared.productions.Expected.TheVariants as due
use Rattle.cqlp_grammar.specs.declared.upcoming.Slot.{Slot}
use Rattle.cqlp_grammar.specs.declared.upcoming.Slot.TheVariants.{One, Many}
use Rattle.cqlp_grammar.specs.Upcoming.{symbols_of, symbols_in, need, room_after, room_after_due, room_for, wanted, wants, FirstFits, IsDue, IsFirst, IsSlot, IsRead, AreRead, Fits, Popped, Pops}
use Rattle.cqlp_grammar.specs.Opening.{Opens}

pub symbols_pushed : (ss : List Slot) (s : Slot) → symbols_in (ss ++ s ∷ []) ≡ symbols_of s ++ symbols_in ss
symbols_pushed [] s = sym (append-nil (symbols_of s))
symbols_pushed (t ∷ ss) s = rw (symbols_pushed ss s) (append_assoc (symbols_of s) (symbols_in ss) (symbols_of t))

fits-push : (k : ℕ) (ss : List Slot) (s : Slot) → Fits k ss → IsSlot s → k + length ss + need s ≤ 16 → Fits k (ss ++ s ∷ [])
fits-push k [] s f law le = (law, omega arith, tt)
fits-push k (t ∷ ss) s f law le = (f.0, f.1, fits-push (k + 1) ss s f.2 law (omega arith))

fits-pop : (k : ℕ) (ss : List Slot) (s : Slot) → Fits k (ss ++ s ∷ []) → Fits k ss × IsSlot s × (k + length ss + need s ≤ 16)
fits-pop k [] s f = (tt, f.0, omega (arith, f.1))
fits-pop k (t ∷ ss) s f = let r = fits-pop (k + 1) ss s f.2 in ((f.0, f.1, r.0), r.1, omega (arith, r.2))

pub one_needed : (s : Slot) → 1 ≤ need s
one_needed (One w) = omega arith
one_needed (Many g n) = omega arith

-- slot n is written over the first n
module _ (slots : List Slot) (n : ℕ) (s : Slot) (within : n < length slots) where
  pub pushed-is : take (n + 1) (set slots n s) ≡ take n slots ++ s ∷ []
  pushed-is = take_more_set slots n s within

  pub pushed-fits : Fits 0 (take n slots) → IsSlot s → n + need s ≤ 16 → Fits 0 (take (n + 1) (set slots n s))
  pushed-fits f law le = rw pushed-is (fits-push 0 (take n slots) s f law (omega (arith, length-take-le n slots (omega arith))))

-- one of several groups is opened
pub opens_many : (old mid : List Slot) (g : Group) (n : ℕ) → Popped old (Some (Many g n)) mid → 1 < n → Opens old (Some g) (mid ++ Many g (n - 1) ∷ [])
opens_many old mid g n p many =
    let more : n ≡ suc (n - 1) = omega (arith, p.2) in (
      ap symbols_in p.0 ∙ symbols_pushed mid (Many g n) ∙ ap (λ (k : ℕ). copies k (group g) ++ symbols_in mid) more
          ∙ append_assoc (group g) (copies (n - 1) (group g)) (symbols_in mid) ∙ ap (λ (x : List Symbol). group g ++ x) (sym (symbols_pushed mid (Many g (n - 1)))),
      omega (arith, p.1, length-append mid (Many g (n - 1) ∷ [])),
    )

-- the last of n slots is read
module _ (slots : List Slot) (n : ℕ) (d : Slot) (some : 0 < n) (within : n ≤ length slots) where
  pub popped-is : take n slots ≡ take (n - 1) slots ++ get_or slots (n - 1) d ∷ []
  popped-is = let e : n ≡ (n - 1) + 1 = omega arith in ap (λ (k : ℕ). take k slots) e ∙ take_more slots (n - 1) d (omega arith)

  pub popped-fits : Fits 0 (take n slots) → Fits 0 (take (n - 1) slots) × IsSlot (get_or slots (n - 1) d) × (length (take (n - 1) slots) + need (get_or slots (n - 1) d) ≤ 16)
  popped-fits f =
      let r = fits-pop 0 (take (n - 1) slots) (get_or slots (n - 1) d) (rw popped-is at f) in
      (r.0, r.1, omega (arith, r.2))

  pub popped_last : (s : Slot) → get_or slots (n - 1) d ≡ s → Fits 0 (take n slots) → Popped (take n slots) (Some s) (take (n - 1) slots)
  popped_last s is f =
      let p : Popped (take n slots) (Some (get_or slots (n - 1) d)) (take (n - 1) slots) = (popped-is, (popped-fits f).2, (popped-fits f).1) in
      rw is at p

  -- of several groups there is one fewer
  module _ (g : Group) (k : ℕ) (s : Slot) (less : s ≡ Many g (k - 1)) (is : get_or slots (n - 1) d ≡ Many g k) (many : 1 < k) (f : Fits 0 (take n slots)) where
    last : Popped (take n slots) (Some (Many g k)) (take (n - 1) slots)
    last = popped_last (Many g k) is f

    fewer-is : take n (set slots (n - 1) s) ≡ take (n - 1) slots ++ Many g (k - 1) ∷ []
    fewer-is =
        let e : n ≡ (n - 1) + 1 = omega arith in
        ap (λ (i : ℕ). take i (set slots (n - 1) s)) e ∙ take_more_set slots (n - 1) s (omega arith) ∙ ap (λ (t : Slot). take (n - 1) slots ++ t ∷ []) less

    pub fewer-fits : Fits 0 (take n (set slots (n - 1) s))
    fewer-fits = rw fewer-is (fits-push 0 (take (n - 1) slots) (Many g (k - 1)) (popped-fits f).0 (omega arith) (omega (arith, last.1)))

    pub fewer-opens : Opens (take n slots) (Some g) (take n (set slots (n - 1) s))
    fewer-opens = rw fewer-is (opens_many (take n slots) (take (n - 1) slots) g k last many)

-- ---- several fields

pub read_at : (ws : List Expected) (k : ℕ) (d : Expected) → AreRead ws → k < length ws → IsRead (get_or ws k d)
read_at [] k d f lt = absurd (omega arith)
read_at (w ∷ ws) zero d f lt = f.0
read_at (w ∷ ws) (suc k) d f lt = read_at ws k d f.1 (omega arith)

pub room_at : (ws : List Expected) (k : ℕ) (d : Expected) → k < length ws → (length ws - (k + 1)) + max 1 (room_after_due (get_or ws k d)) ≤ room_for ws
room_at [] k d lt = absurd (omega arith)
room_at (w ∷ ws) zero d lt = omega arith
room_at (w ∷ ws) (suc k) d lt = omega (arith, room_at ws k d (omega arith))

pub fields_pushed : (ws : List Expected) (k n : ℕ) (d : Expected) (ss old : List Slot) → k < length ws → n ≡ k + 1 → symbols_in ss ≡ wants (drop n ws) ++ symbols_in old
    → symbols_in (ss ++ One (get_or ws k d) ∷ []) ≡ wants (drop k ws) ++ symbols_in old
fields_pushed ws k n d ss old lt is e =
    let next : symbols_in ss ≡ wants (drop (suc k) ws) ++ symbols_in old = rw (is, add-one k) at e in
    rw (symbols_pushed ss (One (get_or ws k d)), drop-cons ws k d) (ap (λ (x : List Symbol). wanted (get_or ws k d) ∷ x) next)

pub fields_none : (ws : List Expected) (old : List Slot) → wants (drop (length ws) ws) ++ symbols_in old ≡ symbols_in old
fields_none ws old = rw (drop_all (length ws) ws (omega arith)) refl

-- ---- what is due next

abbrev first_symbol : List Symbol → Symbol
first_symbol [] = Extra
first_symbol (s ∷ symbols) = s

abbrev room_of : Symbol → ℕ
room_of (In f n r) = room_after r
room_of s = 0

room_wanted : (w : Expected) → room_of (wanted w) ≡ room_after_due w
room_wanted (due.Field w) = refl
room_wanted due.Option = refl

-- what is due asks for the room that its symbol has
same_room : (v w : Expected) → wanted v ≡ wanted w → room_after_due w ≡ room_after_due v
same_room v w e = sym (room_wanted w) ∙ ap room_of (sym e) ∙ room_wanted v

first_wanted : (symbols rest : List Symbol) (v w : Expected) → symbols ≡ wanted v ∷ rest → IsFirst (wanted w) symbols → room_after_due w ≡ room_after_due v
first_wanted symbols rest v w is first = same_room v w (ap first_symbol (sym is ∙ first))

not_empty : (old new : List Slot) (s : Slot) → old ≡ new ++ s ∷ [] → old ≡ [] → ⊥
not_empty old new s is none = omega (arith, ap length (sym none ∙ is), length-append new (s ∷ []))

pub due_many : (old mid : List Slot) (g : Group) (n : ℕ) (ws : List Expected) (d : Expected) → Popped old (Some (Many g n)) mid → wants ws ≡ group g → 0 < length ws → AreRead ws → IsDue old (Some (get_or ws 0 d))
due_many old mid g n [] d p fields some read = absurd (omega arith)
due_many old mid g n (w ∷ ws) d p fields some read =
    let more : n ≡ suc (n - 1) = omega (arith, p.2) in
    let is : symbols_in old ≡ wanted w ∷ ((wants ws ++ copies (n - 1) (group g)) ++ symbols_in mid) =
    ap symbols_in p.0 ∙ symbols_pushed mid (Many g n) ∙ ap (λ (k : ℕ). copies k (group g) ++ symbols_in mid) more
    ∙ ap (λ (x : List Symbol). (x ++ copies (n - 1) (group g)) ++ symbols_in mid) (sym fields) in
    (is ∙ ap (λ (x : List Symbol). wanted w ∷ drop 1 x) (sym is), read.0)

pub due_one : (old mid : List Slot) (w : Expected) → Popped old (Some (One w)) mid → IsDue old (Some w)
due_one old mid w p =
    let is : symbols_in old ≡ wanted w ∷ symbols_in mid = ap symbols_in p.0 ∙ symbols_pushed mid (One w) in
    (is ∙ ap (λ (x : List Symbol). wanted w ∷ drop 1 x) (sym is), p.2)

pub others_wanted : (ws : List Expected) → wants (drop 1 ws) ≡ drop 1 (wants ws)
others_wanted [] = refl
others_wanted (w ∷ ws) = refl

pub others_have_room : (ws : List Expected) (most height : ℕ) (w : Expected) → 0 < length ws → FirstFits ws most → height + most ≤ 16 → IsFirst (wanted w) (wants ws) → (height + length (take (length ws - 1) (drop 1 ws))) + room_after_due w ≤ 16
others_have_room [] most height w some fits le first = absurd (omega arith)
others_have_room (v ∷ ws) most height w some fits le first = omega (arith, fits v, length-take (length (v ∷ ws) - 1) ws, first_wanted (wants (v ∷ ws)) (wants ws) v w refl first)

pub passes_one : (old new : List Slot) (v : Expected) → Popped old (Some (One v)) new → (o : Option Expected) → IsDue old o → Pops old o new
passes_one old new v p None d = absurd (not_empty old new (One v) p.0 d)
passes_one old new v p (Some w) d =
    let is : symbols_in old ≡ wanted v ∷ symbols_in new = ap symbols_in p.0 ∙ symbols_pushed new (One v) in
    (d.0 ∙ ap (λ (x : List Symbol). wanted w ∷ drop 1 x) is, omega (arith, p.1, first_wanted (symbols_in old) (symbols_in new) v w is d.0), d.1)

group_some : (g : Group) → 0 < length (group g)
group_some groups.Warnings = omega arith
group_some groups.PayloadItems = omega arith
group_some groups.StringPairs = omega arith
group_some groups.OptionLists = omega arith
group_some groups.OptionValues = omega arith
group_some groups.EventTypes = omega arith
group_some (groups.QueryValues true) = omega arith
group_some (groups.QueryValues false) = omega arith
group_some groups.BatchValues = omega arith
group_some groups.BatchEntries = omega arith
group_some groups.Arguments = omega arith
group_some groups.KeyIndexes = omega arith
group_some (groups.Columns true) = omega arith
group_some (groups.Columns false) = omega arith

first_of : (s : Symbol) (xs ys : List Symbol) → 0 < length xs → IsFirst s (xs ++ ys) → IsFirst s xs
first_of s [] ys some first = absurd (omega arith)
first_of s (x ∷ xs) ys some first = ap (λ (z : Symbol). z ∷ xs) (ap first_symbol first)

drop_first : (xs ys : List Symbol) → 0 < length xs → drop 1 (xs ++ ys) ≡ drop 1 xs ++ ys
drop_first [] ys some = absurd (omega arith)
drop_first (x ∷ xs) ys some = refl

not_none : (old new : List Slot) (g : Group) → symbols_in old ≡ group g ++ symbols_in new → old ≡ [] → ⊥
not_none old new g is none = omega (arith, group_some g, length-append (group g) (symbols_in new), ap length (sym is ∙ ap symbols_in none))

pub passes_group : (old rest new : List Slot) (g : Group) → Opens old (Some g) rest → symbols_in new ≡ drop 1 (group g) ++ symbols_in rest
    → ((w : Expected) → IsFirst (wanted w) (group g) → length new + room_after_due w ≤ 16) → (o : Option Expected) → IsDue old o → Pops old o new
passes_group old rest new g opens next room None d = absurd (not_none old rest g opens.0 d)
passes_group old rest new g opens next room (Some w) d =
    let after : drop 1 (symbols_in old) ≡ symbols_in new =
    ap (λ (x : List Symbol). drop 1 x) opens.0 ∙ drop_first (group g) (symbols_in rest) (group_some g) ∙ sym next in
    (d.0 ∙ ap (λ (x : List Symbol). wanted w ∷ x) after, room w (first_of (wanted w) (group g) (symbols_in rest) (group_some g) (rw opens.0 at d.0)), d.1)

-- a group is opened that is the last
pub opens_one : (old new : List Slot) (g : Group) (n : ℕ) → Popped old (Some (Many g n)) new → n ≤ 1 → Opens old (Some g) new
opens_one old new g n p few =
    let one : n ≡ 1 = omega (arith, p.2) in
    (ap symbols_in p.0 ∙ symbols_pushed new (Many g n) ∙ ap (λ (k : ℕ). copies k (group g) ++ symbols_in new) one ∙ ap (λ (x : List Symbol). x ++ symbols_in new) (append-nil (group g)), omega (arith, p.1))

-- ---- pages

-- rows without columns are nothing
pub rows_none : (row n : ℕ) → rows_from row NoMore n ≡ []
rows_none row zero = refl
rows_none row (suc n) = rows_none (row + 1) n
