-- A part of a long content has some byte, within limits that a decoder takes.
use Rattle.std.proofs.Common.{◌≡◌, ◌≤◌, ℕ, zero, suc, Bool, true, false, if◌then◌else◌, Result, Ok, Err, refl, subst, sym, arith}
use Rattle.cqlp_note.specs.declared.limits.Limits.{Limits}
use Rattle.cqlp_note.specs.declared.limits.TheConstants.Limits.{TEXT, CELL, ENTRIES, DEPTH}
use Rattle.cqlp_note.specs.declared.limits.BadLimits.{BadLimits}
use Rattle.cqlp_note.specs.declared.limits.BadLimits.TheVariants as bad
use Rattle.cqlp_note.specs.Limits.{Rules, first_bad, is_in, rules_of}

none_bad : (r : Result Unit BadLimits) → ((b : BadLimits) → r ≡ Err b → ⊥) → r ≡ Ok tt
none_bad (Ok x) none = refl
none_bad (Err b) none = absurd (none b refl)

abbrev first_of : (text cell entries depth : Bool) → Result Unit BadLimits
first_of text cell entries depth =
    if text then (if cell then (if entries then (if depth then Ok tt else Err bad.Depth) else Err bad.Entries) else Err bad.Cell) else Err bad.Text

cell_is_in : (text cell entries depth : Bool) → first_of text cell entries depth ≡ Ok tt → cell ≡ true
cell_is_in true true e d is = refl
cell_is_in true false e d is = absurd cc
cell_is_in false c e d is = absurd cc

some_cell : (n : ℕ) → is_in CELL n ≡ true → 1 ≤ n
some_cell zero e = absurd cc
some_cell (suc n) e = omega arith

pub some_part : (l : Limits) (rules : Rules) → rules ≡ rules_of l → ((b : BadLimits) → first_bad l ≡ Err b → ⊥) → 1 ≤ rules.part
some_part l rules are none =
    subst (λ (z : Rules). 1 ≤ z.part) (sym are) (some_cell l.cell (cell_is_in (is_in TEXT l.text) (is_in CELL l.cell) (is_in ENTRIES l.entries) (is_in DEPTH l.depth) (none_bad (first_bad l) none)))

pub not_both : {X E : Type 0} (r : Result X E) (x : X) (e : E) → r ≡ Ok x → r ≡ Err e → ⊥
not_both (Ok y) x e is other = cc
not_both (Err y) x e is other = cc
