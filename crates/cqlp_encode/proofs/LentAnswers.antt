-- One answer of `encode_page` meets its clause.
use Rattle.std.proofs.Common.{◌≡◌, ℕ, ◌+◌, ◌<◌, ◌≤◌, ◌==◌, ◌&&◌, ◌⊎◌, nat_lt, nat_le, Bool, true, false, List, [], ◌∷◌, ◌++◌, length, take, Option, Some, None, IsSome, Ok, Err, refl, sym, ap, ◌∙◌, subst, inl, inr, append-nil, arith}
use Rattle.std.proofs.lemmas.List.{length-append, length-take}
use Rattle.std.proofs.lemmas.Bool.{lt-ltb, le-ltb}
use Rattle.std.proofs.lemmas.Bool.Decides.{nat_tests}
use Rattle.std.specs.Io.KnownBytes.{Appends}
use Rattle.cqlp_note.specs.Outputs.{Output, output, Offered}
use Rattle.cqlp_note.specs.Streams.{counted}
use Rattle.cqlp_value.specs.Values.{Values}
use Rattle.cqlp_message.specs.declared.unfit.Unfit.{Unfit}
use Rattle.cqlp_message.specs.FrameValues.{FrameValue}
use Rattle.cqlp_message.specs.Frames.{frame_bytes}
use Rattle.cqlp_message.specs.Pages.{cells_bytes, cells_fit, cells_size, cells_wanted, page_head, page_unfit_of, with_cells}
use Rattle.cqlp_message.proofs.PageCells.{cells_size_append}
use Rattle.cqlp_message.proofs.PageFrames.{page_written}
use Rattle.cqlp_encode.specs.Encoding.{Encodes}
use Rattle.cqlp_encode.specs.declared.lent_page.LentError.TheVariants as error
use Rattle.cqlp_encode.specs.LentCells.{Another, TooFew, Changes, EncodesLent, Stops, are_all, are_front, front_bytes, lent_unfit_of}
use Rattle.cqlp_encode.specs.LentLaws.{Lends, OneAnswerOfEncodePage}
use Rattle.cqlp_encode.proofs.LentPages.{cells_long, front_is}
use Rattle.cqlp_encode.proofs.Fronts.{front_fits, are_cells}

-- ---- two fronts of one list

-- the second goes on where the first ends, or the first goes on with some item
abbrev Either : (a b : List Values) → Type 0
Either a b = ((t : List Values) × (b ≡ a ++ t)) ⊎ ((v : Values) × (t : List Values) × (a ≡ b ++ v ∷ t))

compare : (a b r s : List Values) → a ++ r ≡ b ++ s → Either a b
compare [] b r s e = inl (b, refl)
compare (x ∷ a) [] r s e = inr (x, a, refl)
compare (x ∷ a) (y ∷ b) r s e =
    let heads : x ≡ y = cc in
    let tails : a ++ r ≡ b ++ s = cc in
    elim (compare a b r s tails) [
      | inl t ↦ inl (t.0, λ i. sym heads i ∷ t.1 i)
      | inr t ↦ inr (t.0, t.1, λ i. heads i ∷ t.2 i)
    ]

-- where a list with one item at its end goes on a front, the list goes on it too
snoc_front : (cells b : List Values) (v w : Values) (t : List Values) → cells ++ v ∷ [] ≡ b ++ w ∷ t → (u : List Values) × (cells ≡ b ++ u)
snoc_front cells [] v w t e = (cells, refl)
snoc_front [] (x ∷ b) v w t e = absurd (omega (arith, ap length e, length-append b (w ∷ t)))
snoc_front (c ∷ cells) (x ∷ b) v w t e =
    let heads : c ≡ x = cc in
    let tails : cells ++ v ∷ [] ≡ b ++ w ∷ t = cc in
    let r = snoc_front cells b v w t tails in
    (r.0, λ i. heads i ∷ r.1 i)

-- ---- what a target got

same_count : (o a b : Option (List ℕ)) (x y : List ℕ) (n m : ℕ) → IsSome o → n ≤ length x → m ≤ length y → Appends o a (take n x) → Appends o b (take m y) → b ≡ a → m ≡ n
same_count None a b x y n m known le le' s t e = absurd cc
same_count (Some xs) None b x y n m known le le' s t e = absurd s
same_count (Some xs) (Some ys) None x y n m known le le' s t e = absurd t
same_count (Some xs) (Some ys) (Some zs) x y n m known le le' s t e =
    let same : zs ≡ ys = cc in
    omega (arith, ap length s, ap length t, ap length same, length-append xs (take n x), length-append xs (take m y), length-take n x, length-take m y)

module _ (old new new' : Output) (known : IsSome old.given) (e : new'.given ≡ new.given) where
  counts : (x y : List ℕ) (n m : ℕ) → Offered old x n new → Offered old y m new' → m ≡ n
  counts x y n m o o' = same_count old.given new.given new'.given x y n m known o.bound o'.bound o.given o'.given e

  -- both took all, or both failed
  left_alike : (x y : List ℕ) (n m : ℕ) → nat_lt n (length x) ≡ nat_lt m (length y) → Offered old x n new → Offered old y m new' → new' ≡ new
  left_alike x y n m alike o o' = λ i. output (e i) ((o'.failures ∙ ap (λ (b : Bool). counted b old.failures) (sym alike) ∙ sym o.failures) i)

  all_alike : (x y : List ℕ) (n m : ℕ) → n ≡ length x → m ≡ length y → Offered old x n new → Offered old y m new' → new' ≡ new
  all_alike x y n m a b = left_alike x y n m (le-ltb n (length x) (omega (arith, a)) ∙ sym (le-ltb m (length y) (omega (arith, b))))

  cut_alike : (x y : List ℕ) (n m : ℕ) → n < length x → m < length y → Offered old x n new → Offered old y m new' → new' ≡ new
  cut_alike x y n m a b = left_alike x y n m (lt-ltb n (length x) a ∙ sym (lt-ltb m (length y) b))

-- ---- the outcomes of one page

and_both : (a b : Bool) → (a && b) ≡ true → (a ≡ true) × (b ≡ true)
and_both true true e = (refl, refl)
and_both true false e = absurd cc
and_both false b e = absurd cc

same_number : (n m : ℕ) → (n == m) ≡ true → n ≡ m
same_number n m e = grind (arith, nat_tests)

less_or_same : (n m : ℕ) → nat_le n m ≡ true → n ≤ m
less_or_same n m e = grind (arith, nat_tests)

false_not_true : {A : Type 0} (b : Bool) → b ≡ false → b ≡ true → A
false_not_true b e w = absurd cc

ended_all : (all lent : List Values) (ended : Bool) → Lends all lent ended → ended ≡ true → lent ≡ all
ended_all all lent ended l e = sym (l.1 ∙ ap (λ (x : List Values). lent ++ x) (l.2 e) ∙ append-nil lent)

module _ (f : FrameValue) (first all : List Values) (old : Output) (fits : lent_unfit_of f first ≡ None) where
  begins : page_unfit_of f (cells_size first) ≡ None
  begins = (are_cells f first fits).begins

  long : (cells : List Values) → length (front_bytes f (cells_size first) cells) ≡ length (page_head f (cells_size first)) + cells_size cells
  long cells = length-append (page_head f (cells_size first)) (cells_bytes cells) ∙ ap (λ (k : ℕ). length (page_head f (cells_size first)) + k) (cells_long cells)

  -- a front of a front is one
  shorter : (a b t : List Values) → b ≡ a ++ t → are_front f (cells_size first) b ≡ true → are_front f (cells_size first) a ≡ true
  shorter a b t is e =
      let parts = and_both (nat_le (length b) (cells_wanted f.message) && cells_fit f b) (nat_le (cells_size b) (cells_size first)) e in
      let others = and_both (nat_le (length b) (cells_wanted f.message)) (cells_fit f b) parts.0 in
      let number : length b ≤ cells_wanted f.message = less_or_same _ _ others.0 in
      let size : cells_size b ≤ cells_size first = less_or_same _ _ parts.1 in
      front_is f (cells_size first) a
      (omega (arith, number, ap length is, length-append a t))
      (front_fits f (cells_size first) a t begins (omega (arith, number, ap length is)) (ap (cells_fit f) (sym is) ∙ others.1))
      (omega (arith, size, ap cells_size is, cells_size_append a t))

  no_longer : (a b t : List Values) → b ≡ a ++ t → length (front_bytes f (cells_size first) a) ≤ length (front_bytes f (cells_size first) b)
  no_longer a b t is = omega (arith, long a, long b, ap cells_size is, cells_size_append a t)

  -- what refuses a cell comes to no more bytes
  behind : (cells : List Values) (v : Values) (rest b s : List Values) → all ≡ (cells ++ v ∷ []) ++ rest → all ≡ b ++ s → are_front f (cells_size first) (cells ++ v ∷ []) ≡ false → are_front f (cells_size first) b ≡ true → (u : List Values) × (cells ≡ b ++ u)
  behind cells v rest b s is at none front = elim (compare (cells ++ v ∷ []) b rest s (sym is ∙ at)) [
    | inl t ↦ false_not_true _ none (shorter (cells ++ v ∷ []) b t.0 t.1 front)
    | inr t ↦ snoc_front cells b v t.0 t.1 t.2
  ]

  -- a page that is done
  module _ (size : ℕ) (new : Output) (front : are_front f (cells_size first) all ≡ true) (are : are_all f (cells_size first) all ≡ true) (encoded : Encodes (with_cells f all) old (Ok size) new) where
    same : page_head f (cells_size first) ++ cells_bytes all ≡ frame_bytes (with_cells f all)
    same =
        let a = and_both (length all == cells_wanted f.message) (cells_size all == cells_size first) are in
        let b = and_both (nat_le (length all) (cells_wanted f.message) && cells_fit f all) (nat_le (cells_size all) (cells_size first)) front in
        let c = and_both (nat_le (length all) (cells_wanted f.message)) (cells_fit f all) b.0 in
        (page_written f (cells_size first) all begins (record { number = same_number _ _ a.0; fit = c.1; size = same_number _ _ a.1 })).1

    whole_size : size ≡ length (front_bytes f (cells_size first) all)
    whole_size = encoded.1 ∙ sym encoded.0.1 ∙ ap length (sym same)

    whole_offered : Offered old (front_bytes f (cells_size first) all) size new
    whole_offered = subst (λ (x : List ℕ). Offered old x size new) (sym same) encoded.2

  record Done (size : ℕ) (new : Output) : Type 0 where
    front : are_front f (cells_size first) all ≡ true
    are : are_all f (cells_size first) all ≡ true
    count : size ≡ length (front_bytes f (cells_size first) all)
    offered : Offered old (front_bytes f (cells_size first) all) size new

  done : (again : List Values) (ended : Bool) (size : ℕ) (new : Output) → Lends all again ended → EncodesLent f first again ended old (Ok size) new → Done size new
  done again ended size new l e =
      let is : again ≡ all = ended_all all again ended l e.1 in
      let front : are_front f (cells_size first) all ≡ true = ap (are_front f (cells_size first)) (sym is) ∙ e.2 in
      let are : are_all f (cells_size first) all ≡ true = ap (are_all f (cells_size first)) (sym is) ∙ e.3 in
      let encoded : Encodes (with_cells f all) old (Ok size) new = subst (λ (x : List Values). Encodes (with_cells f x) old (Ok size) new) is e.4 in
      record { front = front; are = are; count = whole_size size new front are encoded; offered = whole_offered size new front are encoded }

  -- a page of which other cells were lent
  record Changed (new : Output) : Type 0 where
    bytes : List ℕ
    offered : Offered old bytes (length bytes) new
    covers : (b s : List Values) → all ≡ b ++ s → are_front f (cells_size first) b ≡ true → length (front_bytes f (cells_size first) b) ≤ length bytes
    unlike : are_front f (cells_size first) all ≡ true → are_all f (cells_size first) all ≡ true → ⊥

  changed : (again : List Values) (ended : Bool) (new : Output) → Lends all again ended → Changes f (cells_size first) again ended old new → Changed new
  changed again ended new l (Another cells v is front none offered) =
      let at : all ≡ (cells ++ v ∷ []) ++ l.0 = l.1 ∙ ap (λ (x : List Values). x ++ l.0) is in
      let not : are_front f (cells_size first) (cells ++ v ∷ []) ≡ false = ap (are_front f (cells_size first)) (sym is) ∙ none in
      record {
        bytes = front_bytes f (cells_size first) cells;
        offered = offered;
        covers = λ b s e w. let u = behind cells v l.0 b s at e not w in no_longer b cells u.0 u.1;
        unlike = λ e w. false_not_true _ not (shorter (cells ++ v ∷ []) all l.0 at e);
      }
  changed again ended new l (TooFew end front none offered) =
      let is : again ≡ all = ended_all all again ended l end in
      record {
        bytes = front_bytes f (cells_size first) again;
        offered = offered;
        covers = λ b s e w. no_longer b again s (is ∙ e);
        unlike = λ e w. false_not_true _ none (ap (are_all f (cells_size first)) is ∙ w);
      }

  module _ (new new' : Output) (known : IsSome old.given) (e : new'.given ≡ new.given) where
    ok_ok : (s s' : ℕ) → Done s new → Done s' new' → (s' ≡ s) × (new' ≡ new)
    ok_ok s s' d d' = (d'.count ∙ sym d.count, all_alike old new new' known e _ _ s s' d.count d'.count d.offered d'.offered)

    ok_write : {A : Type 0} (s k : ℕ) (again : List Values) (ended : Bool) → Lends all again ended → Done s new → Stops f (cells_size first) again k old new' → A
    ok_write s k again ended l d t =
        let same : k ≡ s = counts old new new' known e _ _ s k d.offered t.offered in
        absurd (omega (arith, same, t.less, d.count, no_longer again all l.0 l.1))

    write_ok : {A : Type 0} (s k : ℕ) (again : List Values) (ended : Bool) → Lends all again ended → Stops f (cells_size first) again k old new → Done s new' → A
    write_ok s k again ended l t d =
        let same : s ≡ k = counts old new new' known e _ _ k s t.offered d.offered in
        absurd (omega (arith, same, t.less, d.count, no_longer again all l.0 l.1))

    changed_changed : Changed new → Changed new' → new' ≡ new
    changed_changed c c' = all_alike old new new' known e _ _ _ _ refl refl c.offered c'.offered

    changed_write : {A : Type 0} (k : ℕ) (again : List Values) (ended : Bool) → Lends all again ended → Changed new → Stops f (cells_size first) again k old new' → A
    changed_write k again ended l c t =
        let same : k ≡ length c.bytes = counts old new new' known e _ _ _ k c.offered t.offered in
        absurd (omega (arith, same, t.less, c.covers again l.0 l.1 t.front))

    write_changed : {A : Type 0} (k : ℕ) (again : List Values) (ended : Bool) → Lends all again ended → Stops f (cells_size first) again k old new → Changed new' → A
    write_changed k again ended l t c =
        let same : length c.bytes ≡ k = counts old new new' known e _ _ k _ t.offered c.offered in
        absurd (omega (arith, same, t.less, c.covers again l.0 l.1 t.front))

    write_write : (k k' : ℕ) (again again' : List Values) → Stops f (cells_size first) again k old new → Stops f (cells_size first) again' k' old new' → (k' ≡ k) × (new' ≡ new)
    write_write k k' again again' t t' =
        (counts old new new' known e _ _ k k' t.offered t'.offered, cut_alike old new new' known e _ _ k k' t.less t'.less t.offered t'.offered)

no_both : {A : Type 0} (o : Option Unfit) (why : Unfit) → o ≡ None → o ≡ Some why → A
no_both o why e w = let both = sym e ∙ w in absurd cc

pub one_answer : OneAnswerOfEncodePage
one_answer f first all again again' ended ended' old new new' (Ok s) (Ok s') known l l' a b e =
    let r = ok_ok f first all old a.0 new new' known e s s' (done f first all old a.0 again ended s new l a) (done f first all old a.0 again' ended' s' new' l' b) in
    (ap (λ (k : ℕ). Ok k) r.0, r.1)
one_answer f first all again again' ended ended' old new new' (Ok s) (Err (error.Unfit why)) known l l' a b e = no_both _ why a.0 b.0
one_answer f first all again again' ended ended' old new new' (Ok s) (Err error.Changed) known l l' a b e =
    let d = done f first all old a.0 again ended s new l a in
    absurd ((changed f first all old a.0 again' ended' new' l' b.1).unlike d.front d.are)
one_answer f first all again again' ended ended' old new new' (Ok s) (Err (error.Write k)) known l l' a b e =
    ok_write f first all old a.0 new new' known e s k again' ended' l' (done f first all old a.0 again ended s new l a) b.1
one_answer f first all again again' ended ended' old new new' (Err (error.Unfit why)) (Ok s) known l l' a b e = no_both _ why b.0 a.0
one_answer f first all again again' ended ended' old new new' (Err (error.Unfit why)) (Err (error.Unfit why')) known l l' a b e =
    let both : ◌≡◌ {A = Option Unfit} (Some why) (Some why') = sym a.0 ∙ b.0 in
    let same : why' ≡ why = cc in
    (ap (λ (w : Unfit). Err (error.Unfit w)) same, b.2 ∙ sym a.2)
one_answer f first all again again' ended ended' old new new' (Err (error.Unfit why)) (Err error.Changed) known l l' a b e = no_both _ why b.0 a.0
one_answer f first all again again' ended ended' old new new' (Err (error.Unfit why)) (Err (error.Write k)) known l l' a b e = no_both _ why b.0 a.0
one_answer f first all again again' ended ended' old new new' (Err error.Changed) (Ok s) known l l' a b e =
    let d = done f first all old b.0 again' ended' s new' l' b in
    absurd ((changed f first all old b.0 again ended new l a.1).unlike d.front d.are)
one_answer f first all again again' ended ended' old new new' (Err error.Changed) (Err (error.Unfit why)) known l l' a b e = no_both _ why a.0 b.0
one_answer f first all again again' ended ended' old new new' (Err error.Changed) (Err error.Changed) known l l' a b e =
    (refl, changed_changed f first all old a.0 new new' known e (changed f first all old a.0 again ended new l a.1) (changed f first all old a.0 again' ended' new' l' b.1))
one_answer f first all again again' ended ended' old new new' (Err error.Changed) (Err (error.Write k)) known l l' a b e =
    changed_write f first all old a.0 new new' known e k again' ended' l' (changed f first all old a.0 again ended new l a.1) b.1
one_answer f first all again again' ended ended' old new new' (Err (error.Write k)) (Ok s) known l l' a b e =
    write_ok f first all old a.0 new new' known e s k again ended l a.1 (done f first all old a.0 again' ended' s new' l' b)
one_answer f first all again again' ended ended' old new new' (Err (error.Write k)) (Err (error.Unfit why)) known l l' a b e = no_both _ why a.0 b.0
one_answer f first all again again' ended ended' old new new' (Err (error.Write k)) (Err error.Changed) known l l' a b e =
    write_changed f first all old a.0 new new' known e k again ended l a.1 (changed f first all old a.0 again' ended' new' l' b.1)
one_answer f first all again again' ended ended' old new new' (Err (error.Write k)) (Err (error.Write k')) known l l' a b e =
    let r = write_write f first all old a.0 new new' known e k k' again again' a.1 b.1 in
    (ap (λ (m : ℕ). Err (error.Write m)) r.0, r.1)
