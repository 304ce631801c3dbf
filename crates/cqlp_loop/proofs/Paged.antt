-- What a target takes of a page that is written with its cell after all else.
use Rattle.std.proofs.Common.{◌≡◌, ℕ, ◌+◌, ◌-◌, ◌<◌, true, false, List, [], ◌∷◌, ◌++◌, length, take, nat_lt, inl, inr, refl, sym, ap, ◌∙◌, subst, append-nil, arith}
use Rattle.std.proofs.lemmas.List.{length-append, take_all, take-append-le}
use Rattle.std.proofs.Math.Seq.{take-append-add}
use Rattle.std.proofs.lemmas.Bool.{lt-ltb, le-ltb}
use Rattle.std.specs.Prelude.{None, Result, Ok, Err}
use Rattle.std.specs.Io.KnownBytes.{Appends}
use Rattle.cqlp_note.specs.Outputs.{Output, Offered}
use Rattle.cqlp_note.specs.Streams.{counted}
use Rattle.cqlp_note.proofs.Appended.{appends_then}
use Rattle.cqlp_value.specs.Values.{values_size, values_bytes}
use Rattle.cqlp_message.specs.declared.frame.Frame.{Frame}
use Rattle.cqlp_message.specs.Owned.{frame_of}
use Rattle.cqlp_message.specs.Frames.{frame_bytes}
use Rattle.cqlp_message.specs.Pages.{page_head, with_cells, cells_fit, cells_wanted}
use Rattle.cqlp_message.proofs.PageFrames.{page_written}
use Rattle.cqlp_encode.specs.declared.page_writer.PageError.{PageError}
use Rattle.cqlp_encode.specs.declared.page_writer.PageError.TheVariants as error
use Rattle.cqlp_encode.specs.PageWriting.{PageState, page, After, Begins, Adds, Finishes, cell_error, one_more}
use Rattle.cqlp_loop.specs.Exchanges.{IsPage, WritesPage, cell}

-- ---- bytes after others

-- all of some bytes were taken
abbrev TakesAll : (old : Output) → List ℕ → (new : Output) → Type 0
TakesAll old bytes new = Appends old.given new.given bytes × (new.failures ≡ old.failures)

-- not all of them were
abbrev Cuts : (old : Output) → List ℕ → (new : Output) → Type 0
Cuts old bytes new = (n : ℕ) × (n < length bytes) × Offered old bytes n new

takes_all : (old new : Output) (bytes : List ℕ) (n : ℕ) → n ≡ length bytes → Offered old bytes n new → TakesAll old bytes new
takes_all old new bytes n is o =
    let none : nat_lt n (length bytes) ≡ false = le-ltb n (length bytes) (omega (arith, is)) in
    (subst (λ (x : List ℕ). Appends old.given new.given x) (take_all n bytes (omega (arith, is))) o.given, o.failures ∙ ap (λ b. counted b old.failures) none)

takes_then : (a b c : Output) (x y : List ℕ) → TakesAll a x b → TakesAll b y c → TakesAll a (x ++ y) c
takes_then a b c x y s t = (appends_then a.given b.given c.given x y s.0 t.0, t.1 ∙ s.1)

cuts_front : (old new : Output) (x y : List ℕ) (k : ℕ) → k < length x → Offered old x k new → Cuts old (x ++ y) new
cuts_front old new x y k short o =
    let less : k < length (x ++ y) = omega (arith, length-append x y) in
    let both : nat_lt k (length x) ≡ nat_lt k (length (x ++ y)) = lt-ltb k (length x) short ∙ sym (lt-ltb k (length (x ++ y)) less) in (
      k,
      less,
      record {
        bound = omega (arith, less);
        given = subst (λ (z : List ℕ). Appends old.given new.given z) (sym (take-append-le k x y (omega (arith, short)))) o.given;
        failures = o.failures ∙ ap (λ b. counted b old.failures) both;
      },
    )

cuts_back : (old mid new : Output) (x y : List ℕ) (k : ℕ) → k < length y → TakesAll old x mid → Offered mid y k new → Cuts old (x ++ y) new
cuts_back old mid new x y k short t o =
    let less : length x + k < length (x ++ y) = omega (arith, length-append x y) in
    let both : nat_lt k (length y) ≡ nat_lt (length x + k) (length (x ++ y)) = lt-ltb k (length y) short ∙ sym (lt-ltb (length x + k) (length (x ++ y)) less) in (
      length x + k,
      less,
      record {
        bound = omega (arith, less);
        given = subst (λ (z : List ℕ). Appends old.given new.given z) (sym (take-append-add x y k)) (appends_then old.given mid.given new.given x (take k y) t.0 o.given);
        failures = o.failures ∙ ap (λ b. counted b mid.failures) both ∙ ap (λ (n : ℕ). counted (nat_lt (length x + k) (length (x ++ y))) n) t.1;
      },
    )

-- ---- the page

module _ (f : Frame) (is : IsPage (frame_of f)) where
  whole : page_head (frame_of f) 8 ++ values_bytes cell ≡ frame_bytes (with_cells (frame_of f) (cell ∷ []))
  whole = ap (λ (x : List ℕ). page_head (frame_of f) 8 ++ x) (sym (append-nil (values_bytes cell))) ∙ (page_written (frame_of f) 8 (cell ∷ []) is.begins is.cells).1

  cut_whole : (old new : Output) → Cuts old (page_head (frame_of f) 8 ++ values_bytes cell) new → Cuts old (frame_bytes (with_cells (frame_of f) (cell ∷ []))) new
  cut_whole old new c = subst (λ (x : List ℕ). Cuts old x new) whole c

  pub begin_fails : (e : PageError) (old new : Output) → Begins f 8 old (Err e) new → WritesPage (with_cells (frame_of f) (cell ∷ [])) old (Err e) new
  begin_fails (error.Unfit why) old new b = let n = sym is.begins ∙ b.0 in absurd cc
  begin_fails (error.Write k) old new b = cut_whole old new (cuts_front old new (page_head (frame_of f) 8) (values_bytes cell) k (omega (arith, b.1, b.2)) b.3)
  begin_fails error.OutOfTurn old new b = absurd b
  begin_fails error.PastLength old new b = absurd b
  begin_fails error.NotDone old new b = absurd b

  no_error : (p : PageState) → p.frame ≡ f → p.failed ≡ false → After p 8 [] → cell_error p [] cell ≡ None
  no_error p same sound a =
      let wanted : cells_wanted (page p).message ≡ 1 = ap (λ (x : Frame). cells_wanted (frame_of x).message) same ∙ sym is.cells.number in
      let left : p.left ≡ 1 = omega (arith, a.left, wanted) in
      let free : p.free ≡ 8 = omega (arith, a.free) in
      let fit : cells_fit (page p) (cell ∷ []) ≡ true = ap (λ (x : Frame). cells_fit (frame_of x) (cell ∷ [])) same ∙ is.cells.fit in
      rw (sound, left, fit, free) refl

  head_taken : (p : PageState) (old mid : Output) → Begins f 8 old (Ok p) mid → TakesAll old (page_head (frame_of f) 8) mid
  head_taken p old mid b = takes_all old mid (page_head (frame_of f) 8) _ (sym b.3) b.4

  pub cell_fails : (e : PageError) (p q : PageState) (old mid new : Output) → Begins f 8 old (Ok p) mid → Adds p [] cell mid (Err e) new q → WritesPage (with_cells (frame_of f) (cell ∷ [])) old (Err e) new
  cell_fails (error.Write k) p q old mid new b (inl a) = let n = sym (no_error p b.0 b.1 b.2) ∙ a.0 in absurd cc
  cell_fails (error.Write k) p q old mid new b (inr a) = cut_whole old new (cuts_back old mid new (page_head (frame_of f) 8) (values_bytes cell) a.1.taken a.1.some (head_taken p old mid b) a.1.offered)
  cell_fails (error.Unfit why) p q old mid new b a = let n = sym (no_error p b.0 b.1 b.2) ∙ a.0 in absurd cc
  cell_fails error.OutOfTurn p q old mid new b a = let n = sym (no_error p b.0 b.1 b.2) ∙ a.0 in absurd cc
  cell_fails error.PastLength p q old mid new b a = let n = sym (no_error p b.0 b.1 b.2) ∙ a.0 in absurd cc
  cell_fails error.NotDone p q old mid new b a = let n = sym (no_error p b.0 b.1 b.2) ∙ a.0 in absurd cc

  done : (p q : PageState) (n : ℕ) (r : Result ℕ PageError) → p.frame ≡ f → After p 8 [] → q ≡ one_more p 8 → Finishes q n (cell ∷ []) r → (size : ℕ) × (r ≡ Ok size)
  done p q n (Ok size) same a is_more fin = (size, refl)
  done p q n (Err (error.Write k)) same a is_more fin = let g = sym fin.0 ∙ ap (λ (x : PageState). x.failed) is_more in absurd cc
  done p q n (Err error.NotDone) same a is_more fin =
      let wanted : cells_wanted (page p).message ≡ 1 = ap (λ (x : Frame). cells_wanted (frame_of x).message) same ∙ sym is.cells.number in
      let left : q.left ≡ p.left - 1 = ap (λ (x : PageState). x.left) is_more in
      let free : q.free ≡ p.free - 8 = ap (λ (x : PageState). x.free) is_more in
      let none : q.left + q.free ≡ 0 = omega (arith, a.left, a.free, wanted, left, free) in
      let g : false ≡ true = rw none at fin.1 in absurd cc
  done p q n (Err (error.Unfit why)) same a is_more fin = absurd fin
  done p q n (Err error.OutOfTurn) same a is_more fin = absurd fin
  done p q n (Err error.PastLength) same a is_more fin = absurd fin

  pub page_done : (p q : PageState) (old mid new : Output) (r : Result ℕ PageError) → Begins f 8 old (Ok p) mid → Adds p [] cell mid (Ok tt) new q → Finishes q 8 (cell ∷ []) r → WritesPage (with_cells (frame_of f) (cell ∷ [])) old r new
  page_done p q old mid new r b a fin =
      let ok = done p q 8 r b.0 b.2 a.3 fin in
      let all = takes_then old mid new (page_head (frame_of f) 8) (values_bytes cell) (head_taken p old mid b) (takes_all mid new (values_bytes cell) (values_size cell) (sym a.1) a.2) in
      rw ok.1 (subst (λ (x : List ℕ). TakesAll old x new) whole all)
