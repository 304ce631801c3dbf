-- Parts that fit are spelled by the bytes that are written of them, and parts that bytes spell fit.
use Rattle.std.proofs.Common.{◌≡◌, ℕ, ◌<◌, ◌^◌, true, List, [], ◌∷◌, refl, arith}
use Rattle.std.specs.List.{All, list_all}
use Rattle.std.proofs.lemmas.List.Elements.{All-nil, All-cons, All-head, All-tail}
use Rattle.cqlp_note.proofs.Small.{Small, small_front, small_back}
use Rattle.cqlp_note.proofs.WrittenFields.{field_written, field_fits}
use Rattle.cqlp_type.specs.Trees.{is_tree}
use Rattle.cqlp_type.proofs.WrittenTrees.{both, and_of, tree_written, tree_fits}
use Rattle.cqlp_value.proofs.ValuesWritten.{value_written, value_spelled_fits}
use Rattle.cqlp_message.specs.Parts.{Part, Field_is, Type_is, Cell_is, PartSpells, PartsSpell, part_size, parts_size, part_bytes, parts_bytes, counts_fit, texts_fit, cell_fits, PartIsInRange}

-- the type of a part is one type
abbrev pub IsFormed : Part → Type 0
IsFormed (Type_is t) = is_tree t ≡ true
IsFormed part = Unit {0}

abbrev pub AreFormed : List Part → Type 0
AreFormed [] = Unit {0}
AreFormed (part ∷ parts) = IsFormed part × AreFormed parts

-- ---- what is written

part_written : (part : Part) → IsFormed part → PartIsInRange part → counts_fit part ≡ true → texts_fit part ≡ true → cell_fits part ≡ true → part_size part < 2 ^ 31 → PartSpells part (part_bytes part)
part_written (Field_is f n v) is r c t fits low = field_written n v r c t
part_written (Type_is tree) is r c t fits low =
    let w = tree_written tree is (record { texts = r; counts = c; short = t }) in record { one = w.0; formed = w.1; spelled = w.2 }
part_written (Cell_is row column k inner v) is r c t fits low = (value_written k inner v r fits low).0

pub parts_written : (parts : List Part) → AreFormed parts → All PartIsInRange parts → list_all counts_fit parts ≡ true → list_all texts_fit parts ≡ true → list_all cell_fits parts ≡ true → parts_size parts < 2 ^ 31
    → PartsSpell parts (parts_bytes parts)
parts_written [] is r c t fits low = refl
parts_written (part ∷ parts) is r c t fits low =
    let cs = both (counts_fit part) (list_all counts_fit parts) c in
    let ts = both (texts_fit part) (list_all texts_fit parts) t in
    let fs = both (cell_fits part) (list_all cell_fits parts) fits in
    record {
      front = part_bytes part;
      back = parts_bytes parts;
      whole = refl;
      this = part_written part is.0 (All-head PartIsInRange part parts r) cs.0 ts.0 fs.0 (omega arith);
      that = parts_written parts is.1 (All-tail PartIsInRange part parts r) cs.1 ts.1 fs.1 (omega arith);
    }

-- ---- what is spelled

pub record PartsFit (parts : List Part) : Type 0 where
  pub range : All PartIsInRange parts
  pub counts : list_all counts_fit parts ≡ true
  pub texts : list_all texts_fit parts ≡ true
  pub cells : list_all cell_fits parts ≡ true

part_fits : (part : Part) (b : List ℕ) → PartSpells part b → Small b → PartIsInRange part × (counts_fit part ≡ true) × (texts_fit part ≡ true) × (cell_fits part ≡ true)
part_fits (Field_is f n v) b s all = let a = field_fits n v b s all in (a.0, a.1, a.2, refl)
part_fits (Type_is tree) b s all = let a = (tree_fits tree b s.one s.formed s.spelled all).1 in (a.texts, a.counts, a.short, refl)
part_fits (Cell_is row column k inner v) b s all = let a = value_spelled_fits k inner v b s all in (a.1, refl, refl, a.0)

pub parts_fit : (parts : List Part) (b : List ℕ) → PartsSpell parts b → Small b → PartsFit parts
parts_fit [] b s all = record { range = All-nil PartIsInRange; counts = refl; texts = refl; cells = refl }
parts_fit (part ∷ parts) b s all =
    let this = part_fits part s.front s.this (small_front b s.front s.back s.whole all) in
    let that = parts_fit parts s.back s.that (small_back b s.front s.back s.whole all) in
    record {
      range = All-cons PartIsInRange part parts this.0 that.range;
      counts = and_of (counts_fit part) (list_all counts_fit parts) this.1 that.counts;
      texts = and_of (texts_fit part) (list_all texts_fit parts) this.2 that.texts;
      cells = and_of (cell_fits part) (list_all cell_fits parts) this.3 that.cells;
    }
