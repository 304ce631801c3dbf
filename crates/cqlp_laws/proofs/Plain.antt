-- The reading of a stream over which types were given goes on as if nothing was, where none of them come into use.
use Rattle.std.proofs.Common.{◌≡◌, ℕ, ◌+◌, ◌-◌, ◌^◌, length, take, max, Bool, true, false, cond, ltb, List, [], ◌∷◌, ◌++◌, drop, Option, Some, None, Ok, Err, refl, ap, ◌∙◌, inl, inr, arith}
use Rattle.std.specs.Prelude.{◌⊎◌}
use Rattle.cqlp_note.specs.declared.field.Field.{Field}
use Rattle.cqlp_note.specs.declared.refusal.Reason.{Reason}
use Rattle.cqlp_note.specs.declared.refusal.Reason.TheVariants.{StreamTooLong}
use Rattle.cqlp_note.specs.Reader.{Said, More, Bad, Got, Gives, Refuses, Takes, Idles, says}
use Rattle.cqlp_note.specs.Field.{FieldValue, FieldReader, field_of}
use Rattle.cqlp_note.specs.Heading.{Heading, heading}
use Rattle.cqlp_note.specs.Limits.{Rules, limit_of}
use Rattle.cqlp_note.specs.Step.{Emitted, Step, after_field, map_step}
use Rattle.cqlp_kind.specs.declared.node.Node.{Node}
use Rattle.cqlp_kind.specs.Types.{Types}
use Rattle.cqlp_kind.specs.TypeStep.{TypeSymbol, type_step}
use Rattle.cqlp_kind.specs.CellStep.{CellSymbol, Value_of, cell_step}
use Rattle.cqlp_grammar.specs.declared.grammar.Role.{Role}
use Rattle.cqlp_grammar.specs.declared.grammar.Role.TheVariants as role
use Rattle.cqlp_grammar.specs.Productions.{Symbol, Stream, In, In_type, Cell_due, In_cell, Extra, following, fault_in}
use Rattle.cqlp_decode.specs.Reading.{Event, Place, Given, Nothing, InUse, type_event, cell_event, settled, serves, serves_after, given_types, is_in_use, types_for, page_types, nodes_after, place_of_types, place_of_cells, place_after, header_step, value_step, step_at, step}
use Rattle.cqlp_laws.proofs.FreePlaces.{deepest, deepest-append, role_depth, message_most, following_most, cells_depth}

-- ---- places

-- the place with these nodes, where nothing was given
abbrev pub plain : List Node → Place → Place
plain ns p = record p { nodes = ns; given = Nothing; gifts = [] }

-- These are the nodes there, or none are needed: no type option is due before metadata begins.
abbrev pub HasNodes : List Node → Place → Type 0
HasNodes ns p = (ns ≡ p.nodes) ⊎ (deepest p.symbols ≡ 0)

-- q is the place p but for what is given
pub record IsLike (p q : Place) : Type 0 where
  pub nodes : List Node
  pub is : q ≡ plain nodes p
  pub same : HasNodes nodes p

-- the same where no given types are in use
abbrev pub Follows : (p q : Place) → Type 0
Follows p q = is_in_use p.given ≡ false → IsLike p q

-- ---- steps

-- the same event at the same offset, and places alike after it
abbrev pub Both : (x y : Emitted Event Place) → Type 0
Both x y = (x.at ≡ y.at) × (x.event ≡ y.event) × ((u : ℕ) → Follows (x.after u) (y.after u))

abbrev pub Alike : (r s : Step Event Place) → Type 0
Alike (Gives x) (Gives y) = Both x y
Alike (Refuses a) (Refuses b) = a ≡ b
Alike Idles Idles = Unit {0}
Alike (Takes n f) (Takes m g) = (n ≡ m) × ((c : List ℕ) → Alike (f c) (g c))
Alike r s = ⊥

abbrev pub SaidAlike : (d e : Said (Emitted Event Place) (ℕ × Reason)) → Type 0
SaidAlike More More = Unit {0}
SaidAlike (Bad a) (Bad b) = a ≡ b
SaidAlike (Got x k) (Got y j) = (k ≡ j) × Both x y
SaidAlike d e = ⊥

either_alike : (t : Bool) (r s : Step Event Place) (taken : ℕ) (bytes : List ℕ) → SaidAlike (says r taken bytes) (says s taken bytes) → SaidAlike (cond t More (says r taken bytes)) (cond t More (says s taken bytes))
either_alike true r s taken bytes a = tt
either_alike false r s taken bytes a = a

pub says_alike : (r s : Step Event Place) (taken : ℕ) (bytes : List ℕ) → Alike r s → SaidAlike (says r taken bytes) (says s taken bytes)
says_alike (Gives x) (Gives y) taken bytes a = (refl, a)
says_alike (Refuses x) (Refuses y) taken bytes a = a
says_alike Idles Idles taken bytes a = tt
says_alike (Takes n f) (Takes m g) taken bytes a =
    rw (← a.0) (either_alike (ltb (length bytes) n) (f (take n bytes)) (g (take n bytes)) (taken + n) (drop n bytes) (says_alike (f (take n bytes)) (g (take n bytes)) (taken + n) (drop n bytes) (a.1 (take n bytes))))
says_alike (Gives x) s taken bytes a = absurd a
says_alike (Refuses x) s taken bytes a = absurd a
says_alike Idles s taken bytes a = absurd a
says_alike (Takes n f) s taken bytes a = absurd a

after_alike : (at : ℕ) (r : FieldReader) (next later : FieldValue → Step Event Place) → ((v : FieldValue) → Alike (next v) (later v)) → Alike (after_field at r next) (after_field at r later)
after_alike at (Gives v) next later a = a v
after_alike at (Refuses why) next later a = refl
after_alike at Idles next later a = tt
after_alike at (Takes n f) next later a = (refl, λ c. after_alike at (f c) next later a)

map_alike : {E P : Type 0} (f : E → Event) (g h : P → Place) (r : Step E P) → ((q : P) → Follows (g q) (h q)) → Alike (map_step f g r) (map_step f h r)
map_alike f g h (Gives x) a = (refl, refl, λ u. a (x.after u))
map_alike f g h (Refuses why) a = refl
map_alike f g h Idles a = tt
map_alike f g h (Takes n next) a = (refl, λ c. map_alike f g h (next c) a)

-- ---- fields

-- where no given types are in use after a field, none were put into use by it
none_served : (t : Bool) (r : Role) (g : Given) → is_in_use (cond t (InUse (given_types g)) g) ≡ false → t ≡ false
none_served true r g free = absurd cc
none_served false r g free = refl

page_plain : (types : Bool) (flags columns : ℕ) (ns : List Node) (g : Given) → serves flags columns g ≡ false → page_types types flags columns ns Nothing ≡ page_types types flags columns ns g
page_plain types flags columns ns g none = rw none refl

-- the types of a page's cells are the same
types_plain : (types : Bool) (r : Role) (rest : List Symbol) (ns ms : List Node) (g : Given) → (ns ≡ ms) ⊎ (max (role_depth r) (deepest rest) ≡ 0) → serves_after r g ≡ false → types_for types r ns Nothing ≡ types_for types r ms g
types_plain types (role.PageRows flags columns) rest ns ms g (inl is) none = ap (λ (xs : List Node). page_types types flags columns xs Nothing) is ∙ page_plain types flags columns ms g none
types_plain types (role.PageRows flags columns) rest ns ms g (inr zero) none = absurd (omega (arith, zero))
types_plain types r rest ns ms g h none = refl

given_plain : (t : Bool) (g : Given) → t ≡ false → cond t (InUse (given_types g)) g ≡ g
given_plain t g none = rw none refl

-- metadata begins without nodes, wherever it begins
nodes_plain : (types : Types) (r : Role) (v : FieldValue) (rest : List Symbol) (ns ms : List Node) → (ns ≡ ms) ⊎ (max (role_depth r) (deepest rest) ≡ 0) → (nodes_after r ns ≡ nodes_after r ms) ⊎ (deepest (following types r v ++ rest) ≡ 0)
nodes_plain types (role.MetaFlags rows) v rest ns ms h = inl refl
nodes_plain types role.PreparedFlags v rest ns ms h = inl refl
nodes_plain types r v rest ns ms (inl is) = inl (ap (nodes_after r) is)
nodes_plain types r v rest ns ms (inr none) = inr (omega (arith, none, following_most types r v, deepest-append (following types r v) rest))

never_served : (r : Role) → serves_after r Nothing ≡ false
never_served (role.PageRows flags columns) = refl
never_served r = refl

module _ (types : Bool) (p : Place) (ns : List Node) (r : Role) (rest : List Symbol) (h : (ns ≡ p.nodes) ⊎ (max (role_depth r) (deepest rest) ≡ 0)) where
  field_plain : (v : FieldValue) (u : ℕ) → Follows (place_after types p r rest v u) (place_after types (plain ns p) r rest v u)
  field_plain v u free =
      let none : serves_after r p.given ≡ false = none_served (serves_after r p.given) r p.given free in
      let same = types_plain types r rest ns p.nodes p.given h none in
      record {
        nodes = nodes_after r ns;
        is = λ i. record { offset = p.offset + u; stop = p.stop; symbols = following (same i) r v ++ rest; nodes = nodes_after r ns; given = given_plain (serves_after r Nothing) Nothing (never_served r) i; gifts = [] };
        same = nodes_plain (types_for types r p.nodes p.given) r v rest ns p.nodes h;
      }

  value_plain : (f : Field) (v : FieldValue) (o : Option Reason) → Alike (value_step types p f r rest v o) (value_step types (plain ns p) f r rest v o)
  value_plain f v None = (refl, refl, field_plain v)
  value_plain f v (Some why) = refl

-- ---- steps

header_plain : (p : Place) (ns : List Node) (h : Heading) → Alike (header_step p h) (header_step (plain ns p) h)
header_plain p ns (Err e) = refl
header_plain p ns (Ok h) = (refl, refl, λ u free. record { nodes = ns; is = refl; same = inr (omega (arith, message_most h)) })

early_plain : (p : Place) (ns : List Node) (t : Bool) → Alike (cond t (Refuses (p.offset, StreamTooLong)) (Takes 9 (λ b. header_step p (heading b)))) (cond t (Refuses (p.offset, StreamTooLong)) (Takes 9 (λ b. header_step (plain ns p) (heading b))))
early_plain p ns true = refl
early_plain p ns false = (refl, λ b. header_plain p ns (heading b))

module _ (l : Rules) (p : Place) (ns : List Node) where
  option_plain : (ts : List TypeSymbol) (rest : List Symbol) → ns ≡ p.nodes
      → Alike (map_step type_event (place_of_types p rest) (type_step l (record { offset = p.offset; stop = p.stop; symbols = ts; nodes = p.nodes }))) (map_step type_event (place_of_types (plain ns p) rest) (type_step l (record { offset = p.offset; stop = p.stop; symbols = ts; nodes = ns })))
  option_plain ts rest is =
      let one = type_step l (record { offset = p.offset; stop = p.stop; symbols = ts; nodes = p.nodes }) in
      rw is (map_alike type_event (place_of_types p rest) (place_of_types (plain p.nodes p) rest) one (λ q free. record { nodes = q.nodes; is = refl; same = inl refl }))

  cell_plain : (row column : ℕ) (cs : List CellSymbol) (rest : List Symbol) → (ns ≡ p.nodes) ⊎ (deepest rest ≡ 0)
      → Alike (map_step (cell_event row column) (place_of_cells row column p rest) (cell_step l (record { offset = p.offset; symbols = cs }))) (map_step (cell_event row column) (place_of_cells row column (plain ns p) rest) (cell_step l (record { offset = p.offset; symbols = cs })))
  cell_plain row column cs rest h = map_alike (cell_event row column) (place_of_cells row column p rest) (place_of_cells row column (plain ns p) rest) (cell_step l (record { offset = p.offset; symbols = cs })) (λ q free. record {
    nodes = ns;
    is = refl;
    same = elim h [
      | inl is ↦ inl is
      | inr none ↦ inr (cells_depth row column q.symbols rest ∙ none)
    ];
  })

  behind_cell : (rest : List Symbol) → (ns ≡ p.nodes) ⊎ (max 0 (deepest rest) ≡ 0) → (ns ≡ p.nodes) ⊎ (deepest rest ≡ 0)
  behind_cell rest (inl is) = inl is
  behind_cell rest (inr none) = inr (omega (arith, none))

  behind_option : (x y : ℕ) → (ns ≡ p.nodes) ⊎ (max (max 1 x) y ≡ 0) → ns ≡ p.nodes
  behind_option x y (inl is) = is
  behind_option x y (inr none) = absurd (omega (arith, none))

  -- Where no given types come into use, a step is that with nothing given.
  step_at_plain : (ss : List Symbol) → (ns ≡ p.nodes) ⊎ (deepest ss ≡ 0) → Alike (step_at l p ss) (step_at l (plain ns p) ss)
  step_at_plain [] h = tt
  step_at_plain (Stream ∷ rest) h = early_plain p ns (ltb (2 ^ 63) p.offset)
  step_at_plain (In f n r ∷ rest) h = after_alike p.offset (field_of n (limit_of l n) (p.stop - p.offset)) (λ v. value_step l.types p f r rest v (fault_in r v)) (λ v. value_step l.types (plain ns p) f r rest v (fault_in r v)) (λ v. value_plain l.types p ns r rest h f v (fault_in r v))
  step_at_plain (In_type ts ∷ rest) h = option_plain ts rest (behind_option _ _ h)
  step_at_plain (Cell_due row column k inner ∷ rest) h = cell_plain row column (Value_of k inner 0 p.stop ∷ []) rest (behind_cell rest h)
  step_at_plain (In_cell row column cs ∷ rest) h = cell_plain row column cs rest (behind_cell rest h)
  step_at_plain (Extra ∷ rest) h = (refl, λ c. (refl, refl, λ u free. record { nodes = ns; is = refl; same = inr refl }))

pub step_plain : (l : Rules) (p q : Place) (bytes : List ℕ) → IsLike p q → SaidAlike (says (step l p) 0 bytes) (says (step l q) 0 bytes)
step_plain l p q bytes a = rw a.is (says_alike (step l p) (step l (plain a.nodes p)) 0 bytes (step_at_plain l (settled p) a.nodes p.symbols a.same))
