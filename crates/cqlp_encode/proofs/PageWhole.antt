-- A page that is written cell by cell is the frame with its cells.
use Rattle.std.proofs.Common.{◌≡◌, ℕ, false, List, [], ◌∷◌, ◌++◌, length, nat_lt, None, refl, sym, ap, ◌∙◌, subst, append_assoc, append-nil, arith}
use Rattle.std.proofs.lemmas.List.{length-append, take_all}
use Rattle.std.proofs.lemmas.Bool.{le-ltb}
use Rattle.std.specs.Io.KnownBytes.{Appends}
use Rattle.cqlp_note.specs.Outputs.{Output, Offered}
use Rattle.cqlp_note.specs.Streams.{counted}
use Rattle.cqlp_note.proofs.Appended.{appends_then}
use Rattle.cqlp_value.specs.Values.{Values, values_size, values_bytes}
use Rattle.cqlp_value.proofs.ValuesWritten.{written_size}
use Rattle.cqlp_message.specs.declared.frame.Frame.{Frame}
use Rattle.cqlp_message.specs.Owned.{frame_of}
use Rattle.cqlp_message.specs.FrameValues.{FrameValue}
use Rattle.cqlp_message.specs.Frames.{frame_bytes, frame_size, unfit_of}
use Rattle.cqlp_message.specs.Pages.{page_head, with_cells, cells_bytes, cells_size}
use Rattle.cqlp_message.proofs.PageFrames.{page_written}
use Rattle.cqlp_encode.specs.PageWriting.{PageState, page, After, AddsAll}
use Rattle.cqlp_encode.specs.Laws.{PageIsAsEncoded}
use Rattle.cqlp_encode.proofs.FramesTaken.{nothing_more}
use Rattle.cqlp_encode.proofs.PageSteps.{after_one_more}

-- all of these bytes were offered, and taken
abbrev TakesAll : (old : Output) → List ℕ → (new : Output) → Type 0
TakesAll old bytes new = Appends old.given new.given bytes × (new.failures ≡ old.failures)

takes_all : (old new : Output) (bytes : List ℕ) (n : ℕ) → n ≡ length bytes → Offered old bytes n new → TakesAll old bytes new
takes_all old new bytes n is o =
    let none : nat_lt n (length bytes) ≡ false = le-ltb n (length bytes) (omega (arith, is)) in
    (subst (λ (x : List ℕ). Appends old.given new.given x) (take_all n bytes (omega (arith, is))) o.given, o.failures ∙ ap (λ b. counted b old.failures) none)

offers_all : (old new : Output) (bytes : List ℕ) (n : ℕ) → n ≡ length bytes → TakesAll old bytes new → Offered old bytes n new
offers_all old new bytes n is t =
    let none : nat_lt n (length bytes) ≡ false = le-ltb n (length bytes) (omega (arith, is)) in
    record {
      bound = omega (arith, is);
      given = subst (λ (x : List ℕ). Appends old.given new.given x) (sym (take_all n bytes (omega (arith, is)))) t.0;
      failures = t.1 ∙ ap (λ b. counted b old.failures) (sym none);
    }

takes_then : (a b c : Output) (x y : List ℕ) → TakesAll a x b → TakesAll b y c → TakesAll a (x ++ y) c
takes_then a b c x y s t = (appends_then a.given b.given c.given x y s.0 t.0, t.1 ∙ s.1)

takes_none : (old new : Output) → new ≡ old → TakesAll old [] new
takes_none old new same = rw same (nothing_more old.given, refl)

-- the bytes of all cells
cells_taken : (cells before : List Values) (p q : PageState) (old new : Output) → AddsAll p before cells old new q → TakesAll old (cells_bytes cells) new
cells_taken [] before p q old new a = takes_none old new a.0
cells_taken (v ∷ cells) before p q old new (r, mid, one, others) =
    takes_then old mid new (values_bytes v) (cells_bytes cells) (takes_all old mid (values_bytes v) (values_size v) (sym one.1) one.2) (cells_taken cells (before ++ v ∷ []) r q mid new others)

same_frame : (cells before : List Values) (p q : PageState) (old new : Output) → AddsAll p before cells old new q → q.frame ≡ p.frame
same_frame [] before p q old new a = ap (λ (x : PageState). x.frame) a.1
same_frame (v ∷ cells) before p q old new (r, mid, one, others) = same_frame cells (before ++ v ∷ []) r q mid new others ∙ ap (λ (x : PageState). x.frame) one.3

after_all : (n : ℕ) (cells before : List Values) (p q : PageState) (old new : Output) → AddsAll p before cells old new q → After p n before → After q n (before ++ cells)
after_all n [] before p q old new a w = subst (λ (x : PageState). After x n (before ++ [])) (sym a.1) (subst (λ (x : List Values). After p n x) (sym (append-nil before)) w)
after_all n (v ∷ cells) before p q old new (r, mid, one, others) w =
    let next = after_one_more p n before v (values_size v) r refl one.3 one.0 w in
    subst (λ (x : List Values). After q n x) (append_assoc before (v ∷ []) cells) (after_all n cells (before ++ v ∷ []) r q mid new others next)

cells_long : (cells : List Values) → length (cells_bytes cells) ≡ cells_size cells
cells_long [] = refl
cells_long (v ∷ cells) = omega (arith, length-append (values_bytes v) (cells_bytes cells), written_size v, cells_long cells)

pub as_encoded : PageIsAsEncoded
as_encoded f n cells p q old mid new size begun added done =
    let g : FrameValue = with_cells (frame_of f) cells in
    let same : q.frame ≡ f = same_frame cells [] p q mid new added ∙ begun.0 in
    let a : After q n cells = after_all n cells [] p q mid new added begun.2 in
    let unfit : unfit_of g ≡ None = subst (λ (x : Frame). unfit_of (with_cells (frame_of x) cells) ≡ None) same done.3 in
    let count : size ≡ frame_size g 0 = subst (λ (x : Frame). size ≡ frame_size (with_cells (frame_of x) cells) 0) same done.2 in
    let bytes : page_head (frame_of f) n ++ cells_bytes cells ≡ frame_bytes g = subst (λ (x : Frame). page_head (frame_of x) n ++ cells_bytes cells ≡ frame_bytes (with_cells (frame_of x) cells)) same done.4 in
    let sizes : frame_size (frame_of f) n ≡ frame_size g 0 = subst (λ (x : Frame). frame_size (frame_of x) n ≡ frame_size (with_cells (frame_of x) cells) 0) same (page_written (page q) n cells a.begun (record { number = omega (arith, done.1, a.left); fit = a.fit; size = omega (arith, done.1, a.free) })).2 in
    let long : length (frame_bytes g) ≡ frame_size g 0 = ap length (sym bytes) ∙ omega (arith, length-append (page_head (frame_of f) n) (cells_bytes cells), begun.3, cells_long cells, sizes, done.1, a.free) in
    let head = takes_all old mid (page_head (frame_of f) n) _ (sym begun.3) begun.4 in
    let all = takes_then old mid new (page_head (frame_of f) n) (cells_bytes cells) head (cells_taken cells [] p q mid new added) in
    ((unfit, long), count, offers_all old new (frame_bytes g) size (omega (arith, count, long)) (subst (λ (x : List ℕ). TakesAll old x new) bytes all))
