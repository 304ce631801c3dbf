-- A column that lies whole in a piece is read at once.
use Rattle.std.proofs.Common.{◌≡◌, ℕ, true, false, ◌+◌, ◌-◌, ◌≤◌, List, [], ◌∷◌, ◌++◌, length, take, drop, refl, sym, ap, subst, ◌∙◌, arith}
use Rattle.std.specs.Prelude.{◌==◌, nat_lt, Option, IfSome}
use Rattle.std.proofs.lemmas.Bool.Decides.{nat_tests}
use Rattle.std.proofs.lemmas.List.{length-drop, length-take-le}
use Rattle.std.proofs.lemmas.Option.{IfSome_then}
use Rattle.std.proofs.Math.Seq.{take-add}
use Rattle.cqlp_observer_facts.specs.declared.due.Due.{Due}
use Rattle.cqlp_observer_facts.specs.declared.due.Due.TheVariants as due
use Rattle.cqlp_observer_facts.specs.declared.rows.RowsField.{RowsField}
use Rattle.cqlp_observer_facts.specs.declared.rows.RowsField.TheVariants as rows
use Rattle.cqlp_observer_facts.specs.declared.reader.FactsReader.{FactsReader}
use Rattle.cqlp_observer_facts.specs.declared.types.Types.{Types}
use Rattle.cqlp_observer_facts.specs.declared.types.TypesNext.{TypesNext}
use Rattle.cqlp_observer_facts.specs.declared.types.TypesNext.TheVariants as next
use Rattle.cqlp_observer_facts.specs.Columns.{IsColumn, IsColumnOf, IsPlainColumn, PassesColumn, is_before_column, is_plain_of_column, next_column}
use Rattle.cqlp_observer_facts.specs.Due.{at}
use Rattle.cqlp_observer_facts.specs.Numbers.{short}
use Rattle.cqlp_observer_facts.specs.Reading.{before, gone_to, is_before, read, with_due}
use Rattle.cqlp_observer_facts.specs.Rows.{after_option, due_of, is_plain}
use Rattle.cqlp_observer_facts.specs.Types.{types_next, with_first}
use Rattle.cqlp_observer_facts.proofs.Fields.{before_field, nothing_in, read_field}
use Rattle.cqlp_observer_facts.proofs.Pieces.{before_passing, before_pieces, read_passing, read_pieces}

-- this field is due, after so many bytes
abbrev due_at : ℕ → Due → FactsReader → FactsReader
due_at n d s = record { flags = s.flags; opcode = s.opcode; due = d; front = []; passing = n; facts = s.facts }

is_due : (d : Due) (s : FactsReader) → s.passing ≡ 0 → length s.front ≡ 0 → s.due ≡ d → s ≡ due_at 0 d s
is_due d s none nothing is =
    ap (λ (n : ℕ). record { flags = s.flags; opcode = s.opcode; due = s.due; front = s.front; passing = n; facts = s.facts }) none
    ∙ ap (λ (b : List ℕ). record { flags = s.flags; opcode = s.opcode; due = s.due; front = b; passing = 0; facts = s.facts }) (nothing_in s.front nothing)
    ∙ ap (λ (e : Due). due_at 0 e s) is

short_front : (b : List ℕ) → short (take 2 b) ≡ short b
short_front [] = refl
short_front (x ∷ []) = refl
short_front (x ∷ y ∷ b) = refl

-- ---- the name, its bytes, and the type

name_read : (b : List ℕ) (t u : Types) (s : FactsReader) → types_next t ≡ next.Type u → 2 ≤ length b → read (take 2 b) (due_at 0 (due.Rows (rows.Name 0 t)) s) ≡ due_at (short b) (due.Rows (rows.Type u)) s
name_read b t u s typed long =
    read_field b (due_at 0 (due.Rows (rows.Name 0 t)) s) refl refl refl long
    ∙ ap (λ (n : ℕ). due_at n (due_of (types_next t)) s) (short_front b)
    ∙ ap (λ (x : TypesNext). due_at (short b) (due_of x) s) typed

bytes_read : (b : List ℕ) (n : ℕ) (d : Due) (s : FactsReader) → length b ≡ n → read b (due_at n d s) ≡ due_at 0 d s
bytes_read b n d s long =
    let none : n - length b ≡ 0 = omega (arith, long) in
    read_passing b (due_at n d s) (omega (arith, long)) ∙ ap (λ (m : ℕ). due_at m d s) none

type_read : (b : List ℕ) (u : Types) (s : FactsReader) → 2 ≤ length b → read (take 2 b) (due_at 0 (due.Rows (rows.Type u)) s) ≡ gone_to (at (after_option (short b) u)) s
type_read b u s long =
    read_field b (due_at 0 (due.Rows (rows.Type u)) s) refl refl refl long
    ∙ ap (λ (n : ℕ). gone_to (at (after_option n u)) s) (short_front b)

-- ---- all of them

abbrev name_of : List ℕ → List ℕ
name_of b = take (short b) (drop 2 b)

abbrev type_of : List ℕ → List ℕ
type_of b = take 2 (drop (2 + short b) b)

in_parts : (b : List ℕ) → take (2 + short b + 2) b ≡ (take 2 b ++ name_of b) ++ type_of b
in_parts b = take-add (2 + short b) 2 b ∙ ap (λ (x : List ℕ). x ++ type_of b) (take-add 2 (short b) b)

name_long : (b : List ℕ) → 2 + short b + 2 ≤ length b → length (name_of b) ≡ short b
name_long b within = length-take-le (short b) (drop 2 b) (omega (arith, length-drop 2 b, within))

named : (b : List ℕ) (t u : Types) (s : FactsReader) → types_next t ≡ next.Type u → 2 + short b + 2 ≤ length b → read (take 2 b ++ name_of b) (due_at 0 (due.Rows (rows.Name 0 t)) s) ≡ due_at 0 (due.Rows (rows.Type u)) s
named b t u s typed within =
    read_pieces (take 2 b) (name_of b) (due_at 0 (due.Rows (rows.Name 0 t)) s)
    ∙ ap (λ (r : FactsReader). read (name_of b) r) (name_read b t u s typed (omega (arith, within)))
    ∙ bytes_read (name_of b) (short b) (due.Rows (rows.Type u)) s (name_long b within)

column_read : (b : List ℕ) (t u : Types) (s : FactsReader) → types_next t ≡ next.Type u → 2 + short b + 2 ≤ length b → read (take (2 + short b + 2) b) (due_at 0 (due.Rows (rows.Name 0 t)) s) ≡ gone_to (at (after_option (short (drop (2 + short b) b)) u)) s
column_read b t u s typed within =
    ap (λ (x : List ℕ). read x (due_at 0 (due.Rows (rows.Name 0 t)) s)) (in_parts b)
    ∙ read_pieces (take 2 b ++ name_of b) (type_of b) (due_at 0 (due.Rows (rows.Name 0 t)) s)
    ∙ ap (λ (r : FactsReader). read (type_of b) r) (named b t u s typed within)
    ∙ type_read (drop (2 + short b) b) u s (omega (arith, length-drop (2 + short b) b, within))

name_before : (b : List ℕ) (t u : Types) (s : FactsReader) → types_next t ≡ next.Type u → 2 + short b + 2 ≤ length b → before (take 2 b ++ name_of b) (due_at 0 (due.Rows (rows.Name 0 t)) s) ≡ 0
name_before b t u s typed within =
    let m : FactsReader = due_at 0 (due.Rows (rows.Name 0 t)) s in
    let one : before (take 2 b) m ≡ 0 = before_field b m refl refl refl (omega (arith, within)) in
    let two : before (name_of b) (read (take 2 b) m) ≡ 0 =
    ap (λ (r : FactsReader). before (name_of b) r) (name_read b t u s typed (omega (arith, within)))
    ∙ before_passing (name_of b) (due_at (short b) (due.Rows (rows.Type u)) s) (omega (arith, name_long b within)) in
    before_pieces (take 2 b) (name_of b) m ∙ omega (arith, one, two)

column_before : (b : List ℕ) (t u : Types) (s : FactsReader) → types_next t ≡ next.Type u → 2 + short b + 2 ≤ length b → before (take (2 + short b + 2) b) (due_at 0 (due.Rows (rows.Name 0 t)) s) ≡ 0
column_before b t u s typed within =
    let m : FactsReader = due_at 0 (due.Rows (rows.Name 0 t)) s in
    let one : before (take 2 b ++ name_of b) m ≡ 0 = name_before b t u s typed within in
    let two : before (type_of b) (read (take 2 b ++ name_of b) m) ≡ 0 =
    ap (λ (r : FactsReader). before (type_of b) r) (named b t u s typed within)
    ∙ before_field (drop (2 + short b) b) (due_at 0 (due.Rows (rows.Type u)) s) refl refl refl (omega (arith, length-drop (2 + short b) b, within)) in
    ap (λ (x : List ℕ). before x m) (in_parts b) ∙ before_pieces (take 2 b ++ name_of b) (type_of b) m ∙ omega (arith, one, two)

-- the reader after it
after_column : (d : Due) (s : FactsReader) → s.passing ≡ 0 → length s.front ≡ 0 → with_due d s ≡ gone_to (at d) s
after_column d s none nothing =
    ap (λ (n : ℕ). record { flags = s.flags; opcode = s.opcode; due = d; front = s.front; passing = n; facts = s.facts }) none
    ∙ ap (λ (b : List ℕ). record { flags = s.flags; opcode = s.opcode; due = d; front = b; passing = 0; facts = s.facts }) (nothing_in s.front nothing)

pub passes_column : (b : List ℕ) (t : Types) (used : ℕ) (d : Due) (s : FactsReader) → s.passing ≡ 0 → length s.front ≡ 0 → s.due ≡ due.Rows (rows.Name 0 t) → IsColumn t b used d → PassesColumn b used d s
passes_column b t used d s none nothing is c =
    let m : FactsReader = due_at 0 (due.Rows (rows.Name 0 t)) s in
    let here : s ≡ m = is_due (due.Rows (rows.Name 0 t)) s none nothing is in
    let within : 2 + short b + 2 ≤ length b = omega (arith, c.long, c.within) in
    record {
      some = omega (arith, c.long);
      within = c.within;
      after =
          ap (λ (r : FactsReader). read (take used b) r) here
          ∙ ap (λ (n : ℕ). read (take n b) m) c.long
          ∙ column_read b t c.others s c.typed within
          ∙ ap (λ (e : Due). gone_to (at e) s) (sym c.leads)
          ∙ sym (after_column d s none nothing);
      message = ap (λ (r : FactsReader). is_before r) here;
      none =
          ap (λ (r : FactsReader). before (take used b) r) here
          ∙ ap (λ (n : ℕ). before (take n b) m) c.long
          ∙ column_before b t c.others s c.typed within;
    }

-- ---- of what is found

-- with one more column after it
type_first : (t : Types) → t.first.types ≡ 1 → types_next t ≡ next.Type (with_first 0 t.first.fields t)
type_first t one = rw one refl

after_plain : (id : ℕ) (u : Types) → is_plain_of_column id ≡ true → after_option id u ≡ due_of (types_next u)
after_plain id u plain =
    let n00 : (id == 0x00) ≡ false = grind (arith, nat_tests, plain) in
    let n20 : (id == 0x20) ≡ false = grind (arith, nat_tests, plain) in
    let n21 : (id == 0x21) ≡ false = grind (arith, nat_tests, plain) in
    let n22 : (id == 0x22) ≡ false = grind (arith, nat_tests, plain) in
    let n30 : (id == 0x30) ≡ false = grind (arith, nat_tests, plain) in
    let n31 : (id == 0x31) ≡ false = grind (arith, nat_tests, plain) in
    let is : is_plain id ≡ true = grind (arith, nat_tests, plain) in
    rw (n00, n20, n21, n22, n30, n31, is) refl

column_next : (m : ℕ) (t : Types) → is_before_column m t ≡ true → next_column (due.Rows (rows.Name 0 t)) ≡ due_of (types_next (with_first 0 t.first.fields t))
column_next m t more =
    let one : t.first.types ≡ 1 = grind (arith, nat_tests, more) in
    let some : nat_lt 0 t.first.fields ≡ true = grind (arith, nat_tests, more) in
    let over : (t.first.fields == 0) ≡ false = grind (arith, nat_tests, more) in
    let bare : t.first.qualified ≡ false = grind (arith, nat_tests, more) in
    rw (one, over, some, bare) refl

plain_column : (b : List ℕ) (m : ℕ) (t : Types) (n : ℕ) → is_before_column m t ≡ true → IsPlainColumn b n → IsColumnOf (rows.Name m t) b n (next_column (due.Rows (rows.Name m t)))
plain_column b m t n more c =
    let none : m ≡ 0 = grind (arith, nat_tests, more) in
    let one : t.first.types ≡ 1 = grind (arith, nat_tests, more) in
    record {
      types = t;
      name = ap (λ (k : ℕ). rows.Name k t) none;
      column = record {
        others = with_first 0 t.first.fields t;
        typed = type_first t one;
        long = c.long;
        within = c.within;
        leads = ap (λ (k : ℕ). next_column (due.Rows (rows.Name k t))) none ∙ column_next m t more ∙ sym (after_plain (short (drop (2 + short b) b)) (with_first 0 t.first.fields t) c.plain);
      };
    }

pub plain_column_found : (b : List ℕ) (m : ℕ) (t : Types) (r : Option ℕ) → is_before_column m t ≡ true → IfSome r (λ n. IsPlainColumn b n) → IfSome r (λ n. IsColumnOf (rows.Name m t) b n (next_column (due.Rows (rows.Name m t))))
plain_column_found b m t r more found = IfSome_then r found (λ n c. plain_column b m t n more c)

pub column_passes : (b : List ℕ) (f : RowsField) (s : FactsReader) (r : Option ℕ) → s.passing ≡ 0 → length s.front ≡ 0 → s.due ≡ due.Rows f → IfSome r (λ n. IsColumnOf f b n (next_column (due.Rows f))) → IfSome r (λ n. PassesColumn b n (next_column s.due) s)
column_passes b f s r none nothing is found =
    IfSome_then r found (λ n p. passes_column b p.types n (next_column s.due) s none nothing (is ∙ ap (λ (g : RowsField). due.Rows g) p.name) (subst (λ (d : Due). IsColumn p.types b n (next_column d)) (sym is) p.column))
