-- Open values, one in the other.
use Rattle.std.proofs.Common.{◌≡◌, ℕ, zero, suc, ◌+◌, ◌-◌, ◌<◌, ◌≤◌, Bool, true, false, ◌||◌, eqb, leb, List, [], ◌∷◌, ◌++◌, length, Option, Some, None, refl, sym, ap, subst, ◌∙◌, append_assoc, inl, inr, arith}
use Rattle.std.specs.Prelude.{slice_get, IsSome}
use Rattle.std.proofs.lemmas.Bool.{eqb-false}
use Rattle.std.proofs.lemmas.List.{append-nil}
use Rattle.cqlp_note.specs.Limits.{Rules}
use Rattle.cqlp_kind.specs.declared.node.Node.{Node}
use Rattle.cqlp_cell.specs.declared.open_values.OpenValue.{OpenValue}
use Rattle.cqlp_cell.specs.declared.open_values.Order.{Order}
use Rattle.cqlp_cell.specs.declared.open_values.Order.TheVariants as order
use Rattle.cqlp_cell.specs.declared.progress.NextInCell.TheVariants as next
use Rattle.cqlp_cell.specs.declared.progress.CellDue.{CellDue}
use Rattle.cqlp_cell.specs.declared.progress.CellDue.TheVariants as due
use Rattle.cqlp_cell.specs.OpenValues.{last_open}
use Rattle.cqlp_type.specs.Forests.{node_at, Conform}
use Rattle.cqlp_cell.specs.Progress.{CellState, open_symbols, all_open_symbols, is_over, over_by, close_if, due_of, TypesConform, AreOpen, last_stop, CellConforms, CellThere, Conforms, HasNext}
use Rattle.cqlp_cell.proofs.Nesting.{last_is, cases_open}
use Rattle.cqlp_type.proofs.Inside.{First, first_conforms}

pub last_stop_is : (stop : ℕ) (os : List OpenValue) (o : OpenValue) → last_stop stop (os ++ o ∷ []) ≡ o.stop
last_stop_is stop [] o = refl
last_stop_is stop (x ∷ os) o = last_stop_is x.stop os o

pub levels_symbols_is : (nodes : List Node) (level : ℕ) (os : List OpenValue) (o : OpenValue) → all_open_symbols nodes level (os ++ o ∷ []) ≡ open_symbols nodes (level + length os) o ++ all_open_symbols nodes level os
levels_symbols_is nodes level [] o = let e : level + 0 ≡ level = omega arith in rw e (sym (append-nil (open_symbols nodes level o)))
levels_symbols_is nodes level (x ∷ os) o =
    let e : (level + 1) + length os ≡ level + suc (length os) = omega arith in
    rw (levels_symbols_is nodes (level + 1) os o, e) (append_assoc (open_symbols nodes (level + suc (length os)) o) (all_open_symbols nodes (level + 1) os) (open_symbols nodes level x))

module _ (nodes : List Node) (l : Rules) where
  -- the innermost of open values
  pub record Innermost (level stop : ℕ) (os : List OpenValue) (o : OpenValue) : Type 0 where
    pub around : AreOpen nodes l level stop os
    pub within : o.stop ≤ last_stop stop os
    pub deep : level + length os < l.depth
    pub types : TypesConform nodes l (level + length os) o o.order

  pub open_split : (level stop : ℕ) (os : List OpenValue) (o : OpenValue) → AreOpen nodes l level stop (os ++ o ∷ []) → Innermost level stop os o
  open_split level stop [] o h = let e : level + 0 ≡ level = omega arith in record { around = tt; within = h.0; deep = omega (arith, h.1); types = rw e h.2 }
  open_split level stop (x ∷ os) o h =
      let e : (level + 1) + length os ≡ level + suc (length os) = omega arith in
      let r = open_split (level + 1) x.stop os o h.3 in
      record { around = (h.0, h.1, h.2, r.around); within = r.within; deep = omega (arith, r.deep); types = rw e at r.types }

  pub open_join : (level stop : ℕ) (os : List OpenValue) (o : OpenValue) → Innermost level stop os o → AreOpen nodes l level stop (os ++ o ∷ [])
  open_join level stop [] o h = let e : level + 0 ≡ level = omega arith in (h.within, omega (arith, h.deep), rw e at h.types, tt)
  open_join level stop (x ∷ os) o h =
      let e : (level + 1) + length os ≡ level + suc (length os) = omega arith in
      let a = h.around in
      (a.0, a.1, a.2, open_join (level + 1) x.stop os o (record { around = a.3; within = h.within; deep = omega (arith, h.deep); types = rw e h.types }))

pub last_stop_le : (nodes : List Node) (l : Rules) (level stop : ℕ) (os : List OpenValue) → AreOpen nodes l level stop os → last_stop stop os ≤ stop
last_stop_le nodes l level stop [] h = omega arith
last_stop_le nodes l level stop (o ∷ os) h = omega (arith, h.0, last_stop_le nodes l (level + 1) o.stop os h.3)

-- ---- what comes next

is_value : (b : Bool) (o : OpenValue) → close_if b o ≡ due.Value → b ≡ false
is_value true o e = absurd cc
is_value false o e = refl

is_close : (b : Bool) (o p : OpenValue) → close_if b o ≡ due.Close p → (b ≡ true) × (o ≡ p)
is_close true o p e = (refl, cc)
is_close false o p e = absurd cc

-- the innermost of the open values, where one is open
pub record Inmost (nodes : List Node) (d : CellState) (o : OpenValue) : Type 0 where
  pub front : List OpenValue
  pub is : d.open_values ≡ front ++ o ∷ []
  pub innermost : Innermost nodes d.rules 0 d.stop front o
  pub inside : d.offset + 0 ≤ o.stop

module _ (nodes : List Node) (d : CellState) (conforms : Conforms nodes d) (items : d.next ≡ next.Items) where
  inmost : (front : List OpenValue) (o : OpenValue) → d.open_values ≡ front ++ o ∷ [] → Inmost nodes d o
  inmost front o is = record {
    front = front;
    is = is;
    innermost = open_split nodes d.rules 0 d.stop front o (rw is at conforms.open_conform);
    inside = rw (items, is, last_stop_is d.stop front o) at conforms.within;
  }

  due_is : (front : List OpenValue) (o : OpenValue) → d.open_values ≡ front ++ o ∷ [] → due_of d ≡ close_if (is_over o d.offset) o
  due_is front o is = rw (items, is, last_is front o) refl

  -- a value comes next, and is an item of the innermost one
  pub value_next : due_of d ≡ due.Value → (o : OpenValue) × Inmost nodes d o × (is_over o d.offset ≡ false)
  value_next v = elim (cases_open d.open_values) [
    | inl none ↦ let no : ◌≡◌ {A = CellDue} due.Nothing due.Value = rw (items, none) at v in absurd cc
    | inr some ↦ (some.1, inmost some.0 some.1 some.2, is_value (is_over some.1 d.offset) some.1 (sym (due_is some.0 some.1 some.2) ∙ v))
  ]

  pub value_last : (o : OpenValue) → last_open d.open_values ≡ Some o → due_of d ≡ due.Value → Inmost nodes d o × (is_over o d.offset ≡ false)
  value_last o last v =
      let next = value_next v in
      let P : OpenValue → Type 0 = λ p. Inmost nodes d p × (is_over p d.offset ≡ false) in
      let is : last_open d.open_values ≡ Some next.0 = ap last_open next.1.is ∙ last_is next.1.front next.0 in
      let same : next.0 ≡ o = cc (sym is ∙ last) in
      subst P same (next.1, next.2)

  pub close_next : (o : OpenValue) → due_of d ≡ due.Close o → Inmost nodes d o × (is_over o d.offset ≡ true)
  close_next o v = elim (cases_open d.open_values) [
    | inl none ↦ let no : ◌≡◌ {A = CellDue} due.Nothing (due.Close o) = rw (items, none) at v in absurd cc
    | inr some ↦
        let r = is_close (is_over some.1 d.offset) some.1 o (sym (due_is some.0 some.1 some.2) ∙ v) in
        let P : OpenValue → Type 0 = λ p. Inmost nodes d p × (is_over p d.offset ≡ true) in
        subst P r.1 (inmost some.0 some.1 some.2, r.0)
  ]

-- ---- the next item of an open value

or_left : (a b : Bool) → (a || b) ≡ false → a ≡ false
or_left true b e = absurd cc
or_left false b e = refl

more_left : (n : ℕ) → eqb n 0 ≡ false → 0 < n
more_left n e = omega (arith, eqb-false n 0 e)

module _ (nodes : List Node) (l : Rules) (level offset : ℕ) (o : OpenValue) where
  next_by : (k : Order) → TypesConform nodes l level o k → over_by o offset k ≡ false → HasNext nodes o k
  next_by order.Elements t e = more_left o.left e
  next_by order.Keys t e = more_left o.left e
  next_by order.Values t e = tt
  next_by order.Fields t e = (l.depth - (level + 1), more_left o.left (or_left (eqb o.left 0) (leb o.stop offset) e), t.1, t.0)

  pub has_next : TypesConform nodes l level o o.order → is_over o offset ≡ false → HasNext nodes o o.order
  has_next t e = next_by o.order t e

-- a node that comes first is there
pub first_there : (nodes : List Node) (i n depth : ℕ) → 0 < n → Conform nodes i n depth → (x : Node) × First nodes i (n - 1) depth x
first_there nodes i zero depth lt s = absurd (omega arith)
first_there nodes i (suc n) depth lt s = let e : suc n - 1 ≡ n = omega arith in rw e (first_conforms nodes i n depth s)

-- the node of the next item
module _ (nodes : List Node) (l : Rules) (level : ℕ) (o : OpenValue) where
  node_by : (k : Order) → TypesConform nodes l level o k → HasNext nodes o k → IsSome (slice_get nodes o.node)
  node_by order.Elements t h = let f = first_there nodes o.node 1 _ (omega arith) t in rw f.1.get refl
  node_by order.Keys t h = let f = first_there nodes o.node 1 _ (omega arith) t.0 in rw f.1.get refl
  node_by order.Values t h = let f = first_there nodes o.node 1 _ (omega arith) t.0 in rw f.1.get refl
  node_by order.Fields t h = let f = first_there nodes o.node o.left _ h.1 t.0 in rw f.1.get refl

  pub node_there : TypesConform nodes l level o o.order → HasNext nodes o o.order → IsSome (slice_get nodes o.node)
  node_there t h = node_by o.order t h

-- the node of the cell
pub cell_there : (nodes : List Node) (l : Rules) (node : Option ℕ) → CellConforms nodes l node → CellThere nodes node
cell_there nodes l None s = tt
cell_there nodes l (Some node) s = let f = first_there nodes node 1 l.depth (omega arith) s in rw f.1.get refl

-- the node of the next field, which was read
module _ (nodes : List Node) (o : OpenValue) (h : HasNext nodes o order.Fields) where
  field_first : (x : Node) × First nodes o.node (o.left - 1) h.0 x
  field_first = first_there nodes o.node o.left h.0 h.1 h.3

  pub field_there : IsSome (slice_get nodes o.node)
  field_there = rw field_first.1.get refl

  pub field_read : (x : Node) → slice_get nodes o.node ≡ Some x → (node_at nodes o.node ≡ x) × (o.node + x.span ≤ length nodes)
  field_read x e =
      let same : field_first.0 ≡ x = cc (sym field_first.1.get ∙ e) in
      (rw same at field_first.1.here, rw same at field_first.1.within)
