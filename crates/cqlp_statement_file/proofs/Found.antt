-- What is found in the entries of a map, and after one more.
use Rattle.std.proofs.Common.{◌≡◌, ◌∙◌, ℕ, true, false, List, [], ◌∷◌, ◌++◌, Option, Some, None, Vec, Ordering, Less, Equal, Greater, cond, if◌then◌else◌, refl, sym, ap, arith}
use Rattle.std.specs.BTreeMap.{insert_entry, is_at}
use Rattle.std.specs.Cmp.Lexicographic.{slice_cmp}
use Rattle.std.specs.Map.{lookup}
use Rattle.std.specs.Borrow.{Bor}
use Rattle.std.specs.Option.{is_some, option_copied}
use Rattle.std.specs.Ordering.{is_eq, match_ordering, nat_cmp}
use Rattle.std.specs.Str.{bytes_eq}
use Rattle.std.proofs.lemmas.Map.Text.{is_eq-slice_cmp}
use Rattle.std.proofs.lemmas.Slice.Eq.{bytes_eq-Decides}
use Rattle.cqlp_statement_file.specs.Texts.{StatementText, Texts, text_of, texts_in}

abbrev pub compare : {A : Type 0} → List ℕ → Vec ℕ A → Ordering
compare id k = slice_cmp nat_cmp id k.items

abbrev pub compare_keys : {A : Type 0} → Vec ℕ A → Vec ℕ A → Ordering
compare_keys k l = slice_cmp nat_cmp k.items l.items

-- a map finds what the list of its texts has
pub found : {A : Type 0} (es : List (Vec ℕ A × StatementText)) (id : List ℕ) → lookup (is_at (compare id)) es ≡ text_of (texts_in es) id
found [] id = refl
found (e ∷ es) id = λ i. cond (is_eq-slice_cmp id e.0.items i) (Some e.1) (found es id i)

-- what is found with one more text, whose id has none
abbrev pub or_this : (id own : List ℕ) → StatementText → Option StatementText → Option StatementText
or_this id own text other = if bytes_eq id own then Some text else other

-- behind the others
pub behind : (ts : Texts) (own : List ℕ) (text : StatementText) → text_of ts own ≡ None → (id : List ℕ) → text_of (ts ++ (own, text) ∷ []) id ≡ or_this id own text (text_of ts id)
behind [] own text none id = refl
behind ((k, t) ∷ ts) own text none id = grind (arith, bytes_eq-Decides id own, bytes_eq-Decides id k, bytes_eq-Decides own k, behind ts own text)

-- where an id has one, it stays
has : (ts : Texts) (own : List ℕ) (text : StatementText) (id : List ℕ) → is_some (text_of ts id) ≡ true → text_of ts id ≡ text_of (ts ++ (own, text) ∷ []) id
has [] own text id some = absurd (let no = some in cc)
has ((k, t) ∷ ts) own text id some = grind (arith, has ts own text id)

-- what another id has is the same
others : (ts : Texts) (own : List ℕ) (text : StatementText) (id : List ℕ) → bytes_eq id own ≡ false → text_of ts id ≡ text_of (ts ++ (own, text) ∷ []) id
others [] own text id differs = grind (arith)
others ((k, t) ∷ ts) own text id differs = grind (arith, others ts own text id)

pub stays : (ts : Texts) (own : List ℕ) (text : StatementText) → is_some (text_of ts own) ≡ true → (id : List ℕ) → text_of ts id ≡ text_of (ts ++ (own, text) ∷ []) id
stays ts own text some id = grind (arith, some, bytes_eq-Decides id own, has ts own text id, others ts own text id)

-- what is put into a map that has none for its key
placed : {A : Type 0} (es : List (Vec ℕ A × StatementText)) (e : Vec ℕ A × StatementText) (k : Vec ℕ A) (v : StatementText) (after : List (Vec ℕ A × StatementText)) (o : Ordering) (id : List ℕ) → is_eq o ≡ bytes_eq k.items e.0.items → text_of (texts_in (e ∷ es)) k.items ≡ None → text_of (texts_in after) id ≡ or_this id k.items v (text_of (texts_in es) id) → text_of (texts_in (match_ordering o ((k, v) ∷ e ∷ es) ((e.0, v) ∷ es) (e ∷ after))) id ≡ or_this id k.items v (text_of (texts_in (e ∷ es)) id)
placed es e k v after Less id same none later = refl
placed es e k v after Equal id same none later = grind (arith)
placed es e k v after Greater id same none later = grind (arith, bytes_eq-Decides id k.items, bytes_eq-Decides id e.0.items, bytes_eq-Decides k.items e.0.items)

tail_none : (k id : List ℕ) (t : StatementText) (ts : Texts) → text_of ((k, t) ∷ ts) id ≡ None → text_of ts id ≡ None
tail_none k id t ts none = grind (arith)

inserted : {A : Type 0} (es : List (Vec ℕ A × StatementText)) (k : Vec ℕ A) (v : StatementText) → text_of (texts_in es) k.items ≡ None → (id : List ℕ) → text_of (texts_in (insert_entry compare_keys es k v)) id ≡ or_this id k.items v (text_of (texts_in es) id)
inserted [] k v none id = refl
inserted (e ∷ es) k v none id =
    placed es e k v (insert_entry compare_keys es k v) (compare_keys k e.0) id (is_eq-slice_cmp k.items e.0.items) none (inserted es k v (tail_none e.0.items k.items e.1 (texts_in es) none) id)

none_from : {X : Type 0} (o : Option X) → false ≡ is_some o → o ≡ None
none_from None is = refl
none_from (Some x) is = absurd (let no = is in cc)

pub copied_some : {X : Type 0} (o : Option (Bor X)) → is_some (option_copied o) ≡ is_some o
copied_some None = refl
copied_some (Some x) = refl

pub added : {A : Type 0} (es after : List (Vec ℕ A × StatementText)) (ts : Texts) (k : Vec ℕ A) (v w : StatementText) → texts_in es ≡ ts → after ≡ insert_entry compare_keys es k v → v ≡ w → false ≡ is_some (text_of ts k.items) → (id : List ℕ) → text_of (texts_in after) id ≡ text_of (ts ++ (k.items, w) ∷ []) id
added {A} es after ts k v w same is kept none id =
    let absent : text_of ts k.items ≡ None = none_from (text_of ts k.items) none in
    ap (λ (x : List (Vec ℕ A × StatementText)). text_of (texts_in x) id) is ∙ inserted es k v (ap (λ (x : Texts). text_of x k.items) same ∙ absent) id
    ∙ (λ i. or_this id k.items (kept i) (text_of (same i) id)) ∙ sym (behind ts k.items w absent id)
