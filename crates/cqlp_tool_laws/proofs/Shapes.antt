-- Frames whose cells are values of their types.
use Rattle.std.proofs.Common.{◌≡◌, ℕ, suc, ◌+◌, ◌==◌, Bool, true, ◌&&◌, List, [], ◌∷◌, ◌++◌, length, Option, Some, None, refl, ap, ◌∙◌, arith}
use Rattle.std.specs.Prelude.{All, ◌^◌, not, nat_lt}
use Rattle.std.specs.List.{flat_map, list_all}
use Rattle.std.proofs.lemmas.Bool.Decides.{nat_tests}
use Rattle.cqlp_note.specs.Limits.{Rules}
use Rattle.cqlp_note.specs.Heading.{has}
use Rattle.cqlp_kind.specs.Types.{Types, NoMore, Type_and, first_types, how_many, followed_by, is_kind}
use Rattle.cqlp_kind.specs.Scalars.{kind_of, scalar_fits}
use Rattle.cqlp_type.specs.Trees.{Trees, NoTree, Tree_and, types_in, trees_in}
use Rattle.cqlp_cell.specs.Sizes.{is_counted}
use Rattle.cqlp_value.specs.Values.{Values, NoValue, Null_and, Empty_and, Scalar_and, Counted_and, Fields_and, values_in, type_copies, has_fields, values_fit, ValuesSpell}
use Rattle.cqlp_value.proofs.ScalarsWritten.{both_true}
use Rattle.cqlp_value.proofs.ValuesWritten.{is_the_kind}
use Rattle.cqlp_message.proofs.Agreements.{SpecAgrees, ColumnsAgree, MetadataAgrees}
use Rattle.cqlp_message.proofs.FramesWritten.{is_fit}
use Rattle.cqlp_message.proofs.PageWalks.{how_many-raw}
use Rattle.cqlp_message.specs.FrameValues.{TableName, Spec, Metadata, FrameValue}
use Rattle.cqlp_message.specs.Parts.{Part, Field_is, Type_is, Cell_is, PartWithin, PartsWithin, PartSpells, PartsSpell, cell_fits}
use Rattle.cqlp_message.specs.Bodies.{where_some, types_described, cell_types, column_types, message_parts}
use Rattle.cqlp_message.specs.Agreement.{bits, frame_agrees, has_its_cells}
use Rattle.cqlp_message.specs.Frames.{FrameSpells, frame_parts, announced_parts, unfit_of}

-- types of which these values are, each by its kind
abbrev pub AreOf : Types → Values → Type 0
AreOf NoMore NoValue = Unit {0}
AreOf (Type_and k inner ts) (Null_and vs) = AreOf ts vs
AreOf (Type_and k inner ts) (Empty_and vs) = AreOf ts vs
AreOf (Type_and k inner ts) (Scalar_and v vs) = AreOf ts vs
AreOf (Type_and k inner ts) (Counted_and j n items vs) = (j ≡ k) × (is_counted k ≡ true) × AreOf (type_copies n inner) items × AreOf ts vs
AreOf (Type_and k inner ts) (Fields_and j items vs) = (j ≡ k) × (has_fields k ≡ true) × AreOf (first_types (values_in items) inner) items × AreOf ts vs
AreOf ts vs = ⊥

-- ---- parts

-- each part is so
abbrev pub Each : (Part → Type 0) → List Part → Type 0
Each P [] = Unit {0}
Each P (p ∷ ps) = P p × Each P ps

pub each_join : (P : Part → Type 0) (ps qs : List Part) → Each P ps → Each P qs → Each P (ps ++ qs)
each_join P [] qs a b = b
each_join P (p ∷ ps) qs a b = (a.0, each_join P ps qs a.1 b)

pub each_left : (P : Part → Type 0) (ps qs : List Part) → Each P (ps ++ qs) → Each P ps
each_left P [] qs a = tt
each_left P (p ∷ ps) qs a = (a.0, each_left P ps qs a.1)

pub each_right : (P : Part → Type 0) (ps qs : List Part) → Each P (ps ++ qs) → Each P qs
each_right P [] qs a = a
each_right P (p ∷ ps) qs a = each_right P ps qs a.1

pub each_some : (P : Part → Type 0) {A : Type 0} (h : A → List Part) (o : Option A) → ((a : A) → Each P (h a)) → Each P (where_some h o)
each_some P h None each = tt
each_some P h (Some a) each = each a

pub each_all : (P : Part → Type 0) {A : Type 0} (h : A → List Part) (xs : List A) → ((a : A) → Each P (h a)) → Each P (flat_map h xs)
each_all P h [] each = tt
each_all P h (x ∷ xs) each = each_join P (h x) (flat_map h xs) (each x) (each_all P h xs each)

pub each_within : (l : Rules) (ps : List Part) → PartsWithin l ps → Each (PartWithin l) ps
each_within l [] a = tt
each_within l (p ∷ ps) a = (a.0, each_within l ps a.1)

-- ---- types and values of pages

many_in : (t : Trees) → how_many (types_in t) ≡ trees_in t
many_in NoTree = refl
many_in (Tree_and name h inner others) = ap suc (many_in others)

many_after : (ts us : Types) → how_many (followed_by ts us) ≡ how_many ts + how_many us
many_after NoMore us = omega arith
many_after (Type_and k inner others) us = let rest = many_after others us in omega arith

many_columns : (own : Bool) (cs : List Spec) → All (SpecAgrees own) cs → how_many (column_types cs) ≡ length cs
many_columns own [] each = refl
many_columns own (c ∷ cs) each =
    let one : trees_in c.tree ≡ 1 = (each 0 c (omega arith)).1.0 in
    let rest = many_columns own cs (λ k d lt. each (suc k) d (omega arith)) in
    omega (arith, many_after (types_in c.tree) (column_types cs), many_in c.tree)

reported_are : (flags columns : ℕ) (table : Option TableName) (o : Option (List Spec)) → ColumnsAgree flags columns table o → how_many (types_described columns o) ≡ columns
reported_are flags columns table None agree = how_many-raw columns
reported_are flags columns table (Some cs) agree = many_columns (not (has flags 0x01)) cs agree.1.each ∙ agree.1.number

pub columns_are : (m : Metadata) → MetadataAgrees m → how_many (cell_types m) ≡ m.columns
columns_are m agrees = reported_are (bits m.flags) m.columns m.table m.specs agrees.columns

pub same_number : (a b : ℕ) → (a == b) ≡ true → a ≡ b
same_number a b e = grind (arith, nat_tests)

-- each cell is a value of its type, or each part but a cell is one
abbrev pub IsOf : Part → Type 0
IsOf (Cell_is row column k inner v) = AreOf (Type_and k inner NoMore) v
IsOf p = Unit {0}

-- a frame whose parts agree, each cell of it a value of its type
pub record IsReady (f : FrameValue) : Type 0 where
  pub agrees : frame_agrees f ≡ true
  pub shape : has_its_cells f.message ≡ true
  pub are : Each IsOf (frame_parts f)

pub fit_are : (ts : Types) (vs : Values) → values_fit ts vs ≡ true → AreOf ts vs
fit_are NoMore NoValue e = tt
fit_are (Type_and k inner ts) NoValue e = absurd cc
fit_are NoMore (Null_and vs) e = absurd cc
fit_are NoMore (Empty_and vs) e = absurd cc
fit_are NoMore (Scalar_and v vs) e = absurd cc
fit_are NoMore (Counted_and j n items vs) e = absurd cc
fit_are NoMore (Fields_and j items vs) e = absurd cc
fit_are (Type_and k inner ts) (Null_and vs) e = fit_are ts vs e
fit_are (Type_and k inner ts) (Empty_and vs) e = fit_are ts vs e
fit_are (Type_and k inner ts) (Scalar_and v vs) e = fit_are ts vs (both_true (is_kind (kind_of v) k && scalar_fits v) (values_fit ts vs) e).1
fit_are (Type_and k inner ts) (Counted_and j n items vs) e =
    let a = both_true (is_kind j k && is_counted k && nat_lt n (2 ^ 31) && values_fit (type_copies n inner) items) (values_fit ts vs) e in
    let b = both_true (is_kind j k && is_counted k && nat_lt n (2 ^ 31)) (values_fit (type_copies n inner) items) a.0 in
    let c = both_true (is_kind j k && is_counted k) (nat_lt n (2 ^ 31)) b.0 in
    let d = both_true (is_kind j k) (is_counted k) c.0 in
    (is_the_kind j k d.0, d.1, fit_are (type_copies n inner) items b.1, fit_are ts vs a.1)
fit_are (Type_and k inner ts) (Fields_and j items vs) e =
    let a = both_true (is_kind j k && has_fields k && nat_lt 0 (values_in items) && values_fit (first_types (values_in items) inner) items) (values_fit ts vs) e in
    let b = both_true (is_kind j k && has_fields k && nat_lt 0 (values_in items)) (values_fit (first_types (values_in items) inner) items) a.0 in
    let c = both_true (is_kind j k && has_fields k) (nat_lt 0 (values_in items)) b.0 in
    let d = both_true (is_kind j k) (has_fields k) c.0 in
    (is_the_kind j k d.0, d.1, fit_are (first_types (values_in items) inner) items b.1, fit_are ts vs a.1)

spelled_are : (ts : Types) (vs : Values) (b : List ℕ) → ValuesSpell ts vs b → AreOf ts vs
spelled_are NoMore NoValue b s = tt
spelled_are (Type_and k inner ts) NoValue b s = absurd s
spelled_are NoMore (Null_and vs) b s = absurd s
spelled_are NoMore (Empty_and vs) b s = absurd s
spelled_are NoMore (Scalar_and v vs) b s = absurd s
spelled_are NoMore (Counted_and j n items vs) b s = absurd s
spelled_are NoMore (Fields_and j items vs) b s = absurd s
spelled_are (Type_and k inner ts) (Null_and vs) b s = spelled_are ts vs s.back s.that
spelled_are (Type_and k inner ts) (Empty_and vs) b s = spelled_are ts vs s.back s.that
spelled_are (Type_and k inner ts) (Scalar_and v vs) b s = spelled_are ts vs s.2.back s.2.that
spelled_are (Type_and k inner ts) (Counted_and j n items vs) b s = (s.0, s.1, spelled_are (type_copies n inner) items s.3.back s.3.that, spelled_are ts vs s.4.back s.4.that)
spelled_are (Type_and k inner ts) (Fields_and j items vs) b s = (s.0, s.1, spelled_are (first_types (values_in items) inner) items s.2 s.4, spelled_are ts vs s.5.back s.5.that)

fit_part : (p : Part) → cell_fits p ≡ true → IsOf p
fit_part (Cell_is row column k inner v) e = fit_are (Type_and k inner NoMore) v e
fit_part (Field_is f n v) e = tt
fit_part (Type_is t) e = tt

fit_parts : (ps : List Part) → list_all cell_fits ps ≡ true → Each IsOf ps
fit_parts [] e = tt
fit_parts (p ∷ ps) e = let both = both_true (cell_fits p) (list_all cell_fits ps) e in (fit_part p both.0, fit_parts ps both.1)

spelled_part : (p : Part) (b : List ℕ) → PartSpells p b → IsOf p
spelled_part (Cell_is row column k inner v) b s = spelled_are (Type_and k inner NoMore) v b s
spelled_part (Field_is f n v) b s = tt
spelled_part (Type_is t) b s = tt

spelled_parts : (ps : List Part) (b : List ℕ) → PartsSpell ps b → Each IsOf ps
spelled_parts [] b s = tt
spelled_parts (p ∷ ps) b s = (spelled_part p s.front s.this, spelled_parts ps s.back s.that)

pub fit_ready : (f : FrameValue) → unfit_of f ≡ None → IsReady f
fit_ready f e = let fit = is_fit f e in record { agrees = fit.agrees; shape = fit.shape; are = fit_parts (frame_parts f) fit.cells }

pub spelled_ready : (f : FrameValue) (x : ℕ) (b : List ℕ) → FrameSpells f x b → IsReady f
spelled_ready f x b s = record { agrees = s.agrees; shape = s.cells; are = each_join IsOf (announced_parts f) (message_parts f.message) (spelled_parts (announced_parts f) s.announced s.parts) (spelled_parts (message_parts f.message) s.body s.message) }
