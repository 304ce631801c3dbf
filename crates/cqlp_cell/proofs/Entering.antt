-- What is inside a value.
use Rattle.std.proofs.Common.{◌≡◌, ℕ, ◌+◌, ◌-◌, ◌^◌, ◌<◌, ◌≤◌, true, false, List, [], ◌∷◌, ◌++◌, length, Some, refl, sym, ◌∙◌, arith}
use Rattle.std.specs.Prelude.{slice_get, IsSome}
use Rattle.cqlp_note.specs.Limits.{Rules}
use Rattle.cqlp_kind.specs.declared.kind.Kind.{Kind}
use Rattle.cqlp_kind.specs.declared.kind.Kind.TheVariants as kind
use Rattle.cqlp_kind.specs.declared.node.Node.{Node}
use Rattle.cqlp_kind.specs.Types.{has_no_items, HasInner}
use Rattle.cqlp_cell.specs.declared.open_values.OpenValue.{OpenValue}
use Rattle.cqlp_cell.specs.declared.size.Sized.TheVariants as size
use Rattle.cqlp_cell.specs.declared.progress.CellDue.TheVariants as due
use Rattle.cqlp_cell.specs.declared.progress.DueValue.{DueValue}
use Rattle.cqlp_kind.specs.CellStep.{Close_of, cell_copies, values_of}
use Rattle.cqlp_cell.specs.Sizes.{is_counted}
use Rattle.cqlp_type.specs.Forests.{types_at, node_at, Conform}
use Rattle.cqlp_cell.specs.Progress.{CellState, open_symbols, place, due_value, open_after, state_after, rest_of, due_of, TypesConform, Conforms}
use Rattle.cqlp_cell.specs.Coming.{InnerDue, ValueDue}
use Rattle.cqlp_cell.specs.Reading.{order_by, counted_open, fields_open, entered, Decided, InnerConforms}
use Rattle.cqlp_cell.proofs.Opened.{last_stop_is, levels_symbols_is, open_join, first_there}
use Rattle.cqlp_cell.proofs.Coming.{first_type, one_value, value_due}

-- ---- the second type of a map

module _ (nodes : List Node) (v : DueValue) (depth : ℕ) (s : Conform nodes v.inner 2 depth) where
  pub key_there : IsSome (slice_get nodes v.inner)
  key_there = let f = first_there nodes v.inner 2 depth (omega arith) s in rw f.1.get refl

  pub key_read : (x : Node) → slice_get nodes v.inner ≡ Some x → (node_at nodes v.inner ≡ x) × (v.inner + x.span ≤ length nodes)
  key_read x e =
      let f = first_there nodes v.inner 2 depth (omega arith) s in
      let same : f.0 ≡ x = cc (sym f.1.get ∙ e) in
      (rw same at f.1.here, rw same at f.1.within)

-- ---- a value that is opened

pub not_scalar : (k : Kind) → is_counted k ≡ true → has_no_items k ≡ false
not_scalar kind.List t = refl
not_scalar kind.Set t = refl
not_scalar kind.Map t = refl
not_scalar k t = absurd cc

-- the types of the items of a list, a set or a map are in the table
pub counted_types : (nodes : List Node) (l : Rules) (level : ℕ) (v : DueValue) (stop count : ℕ) (k : Kind) → is_counted k ≡ true → HasInner k v.arity → Conform nodes v.inner v.arity (l.depth - (level + 1))
    → TypesConform nodes l level (record { order = (order_by k (v.inner + (node_at nodes v.inner).span)).0; node = v.inner; other = (order_by k (v.inner + (node_at nodes v.inner).span)).1; left = count; items = count; stop = stop }) (order_by k (v.inner + (node_at nodes v.inner).span)).0
counted_types nodes l level v stop count kind.List t h s = rw h at s
counted_types nodes l level v stop count kind.Set t h s = rw h at s
counted_types nodes l level v stop count kind.Map t h s = let f = first_type nodes v.inner 1 _ (rw h at s) in (f.alone, f.after)
counted_types nodes l level v stop count k t h s = absurd cc

-- the symbols of its items
pub counted_symbols : (nodes : List Node) (l : Rules) (level : ℕ) (v : DueValue) (stop count : ℕ) (k : Kind) → is_counted k ≡ true → HasInner k v.arity → Conform nodes v.inner v.arity (l.depth - (level + 1))
    → cell_copies count (values_of (types_at nodes v.inner v.arity) (level + 1) stop) ++ Close_of level stop count ∷ []
    ≡ open_symbols nodes level (record { order = (order_by k (v.inner + (node_at nodes v.inner).span)).0; node = v.inner; other = (order_by k (v.inner + (node_at nodes v.inner).span)).1; left = count; items = count; stop = stop })
counted_symbols nodes l level v stop count kind.List t h s = rw h refl
counted_symbols nodes l level v stop count kind.Set t h s = rw h refl
counted_symbols nodes l level v stop count kind.Map t h s =
    let f = first_type nodes v.inner 1 _ (rw h at s) in
    let key = one_value nodes v.inner _ (level + 1) stop f.alone in
    rw (h, f.types, key) refl
counted_symbols nodes l level v stop count k t h s = absurd cc

module _ (nodes : List Node) (d : CellState) (size : ℕ) (o : OpenValue) (s : Conforms nodes d) (v : ValueDue nodes d) (deep : length d.open_values < d.rules.depth) (types : TypesConform nodes d.rules (length d.open_values) o o.order)
    (front : d.offset + size ≤ o.stop) (within : o.stop ≤ (due_value nodes d).stop) where
  pub entered_conforms : Conforms nodes (entered (state_after nodes d size) o)
  entered_conforms =
      let e : 0 + length (open_after nodes d) ≡ length d.open_values = omega (arith, v.level) in
      record {
        open_conform = open_join nodes d.rules 0 d.stop (open_after nodes d) o (record { around = v.after; within = rw v.ends within; deep = rw e deep; types = rw e types });
        within = rw (last_stop_is d.stop (open_after nodes d) o) (omega arith);
        next_conforms = tt;
        bounded = s.bounded;
      }

pub entered_symbols : (nodes : List Node) (d : CellState) (size : ℕ) (o : OpenValue) → ValueDue nodes d → (place nodes (entered (state_after nodes d size) o)).symbols ≡ open_symbols nodes (length d.open_values) o ++ rest_of nodes d
entered_symbols nodes d size o v =
    let e : 0 + length (open_after nodes d) ≡ length d.open_values = omega (arith, v.level) in
    rw (levels_symbols_is nodes 0 (open_after nodes d) o, e) refl

-- a list, a set or a map
module _ (nodes : List Node) (d : CellState) (len count : ℕ) (s : Conforms nodes d) (due : due_of d ≡ due.Value) (decided : Decided nodes d len (size.Counted len)) where
  pub counted_due : ValueDue nodes d
  counted_due = value_due nodes d s due

  pub counted_inner : InnerDue nodes d
  counted_inner = counted_due.inner (not_scalar _ decided.can.1)

  abbrev counted : OpenValue
  counted = counted_open nodes (due_value nodes d) (d.offset + 4 + len) count

  pub counted_conforms : 4 ≤ len → Conforms nodes (entered (state_after nodes d 8) counted)
  counted_conforms le =
      entered_conforms nodes d 8 counted s counted_due counted_inner.deep (counted_types nodes d.rules (length d.open_values) (due_value nodes d) (d.offset + 4 + len) count _ decided.can.1 counted_inner.formed counted_inner.conforms) (omega arith) (omega (arith, decided.fits.0, counted_due.inside))

  pub counted_deep : length (open_after nodes d) < d.rules.depth
  counted_deep = omega (arith, counted_inner.deep, counted_due.level)

  pub counted_keys : InnerConforms nodes (due_value nodes d)
  counted_keys e =
      let two : (due_value nodes d).arity ≡ 2 = rw e at counted_inner.formed in
      (d.rules.depth - (length d.open_values + 1), rw two at counted_inner.conforms)

-- a tuple or a user-defined type
module _ (nodes : List Node) (d : CellState) (len : ℕ) (s : Conforms nodes d) (due : due_of d ≡ due.Value) (decided : Decided nodes d len (size.Fields len)) (low : (due_value nodes d).arity < 2 ^ 16) where
  pub fields_due : ValueDue nodes d
  fields_due = value_due nodes d s due

  pub fields_inner : InnerDue nodes d
  fields_inner = fields_due.inner decided.can.2

  abbrev fielded : OpenValue
  fielded = fields_open (due_value nodes d) (d.offset + 4 + len)

  pub fields_conforms : Conforms nodes (entered (state_after nodes d 4) fielded)
  fields_conforms = entered_conforms nodes d 4 fielded s fields_due fields_inner.deep (fields_inner.conforms, omega arith) (omega arith) (omega (arith, decided.fits.0, fields_due.inside))

  pub fields_deep : length (open_after nodes d) < d.rules.depth
  fields_deep = omega (arith, fields_inner.deep, fields_due.level)
