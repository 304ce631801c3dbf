-- The types of columns, which lie within one another (section 4.2.5.2 of native_protocol_v4.spec). At each level so many types are still to
-- be read, and then so many fields, each a name and a type. There is room for four levels: those of UDTs of which more is to come.
use Rattle.std.specs.Prelude.{ℕ, ◌+◌, ◌-◌, ◌^◌, ◌==◌, ◌&&◌, Bool, false, min, nat_lt, Option, Some, None, if◌then◌else◌}
use Rattle.cqlp_observer_facts.specs.declared.types.Level.{Level}
use Rattle.cqlp_observer_facts.specs.declared.types.Types.{Types}
use Rattle.cqlp_observer_facts.specs.declared.types.TypesNext.{TypesNext}
use Rattle.cqlp_observer_facts.specs.declared.types.TypesNext.TheVariants as next

abbrev pub level : (types fields : ℕ) → (qualified : Bool) → Level
level types fields qualified = record { types = types; fields = fields; qualified = qualified }

abbrev pub level_over : Level
level_over = level 0 0 false

abbrev pub is_over : Level → Bool
is_over l = l.types == 0 && l.fields == 0

abbrev pub levels : (first second third fourth : Level) → Types
levels first second third fourth = record { first = first; second = second; third = third; fourth = fourth }

-- so many columns, whose names may be qualified
abbrev pub columns_of : ℕ → (qualified : Bool) → Types
columns_of n qualified = levels (level 0 n qualified) level_over level_over level_over

-- so many types and fields at the innermost level
abbrev pub with_first : (types fields : ℕ) → Types → Types
with_first types fields t = levels (level types fields t.first.qualified) t.second t.third t.fourth

-- so many types more
abbrev pub with_types : ℕ → Types → Types
with_types n t = with_first (min (t.first.types + n) (2 ^ 32 - 1)) t.first.fields t

-- so many fields before all that
abbrev pub with_fields : ℕ → Types → Option Types
with_fields n t =
    if is_over t.first then Some (levels (level 0 n false) t.second t.third t.fourth)
    else if is_over t.fourth then Some (levels (level 0 n false) t.first t.second t.third)
    else None

abbrev pub innermost : Types → Types
innermost t = if is_over t.first then levels t.second t.third t.fourth level_over else t

-- A type, or a field, whose own name is after those of a keyspace and a table where it is qualified.
abbrev pub next_in : Types → TypesNext
next_in t =
    if nat_lt 0 t.first.types then next.Type (with_first (t.first.types - 1) t.first.fields t)
    else if nat_lt 0 t.first.fields then next.Names (if t.first.qualified then 2 else 0) (with_first 1 (t.first.fields - 1) t)
    else next.Over

abbrev pub types_next : Types → TypesNext
types_next t = next_in (innermost t)
