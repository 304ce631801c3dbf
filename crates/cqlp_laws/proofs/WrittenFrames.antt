-- What is written of a frame is read back.
use Rattle.std.proofs.Common.{◌≡◌, ℕ, ◌≤◌, ◌^◌, List, [], ◌∷◌, ◌++◌, length, None, refl, sym, subst, append-nil, arith}
use Rattle.std.specs.Prelude.{map}
use Rattle.std.specs.List.{All}
use Rattle.std.proofs.lemmas.List.Elements.{All-nil, All-cons, All-head, All-tail}
use Rattle.std.proofs.lemmas.Bool.{le-ltb}
use Rattle.cqlp_value.specs.declared.value.Value.{Value}
use Rattle.cqlp_value.specs.Owned.{value_of}
use Rattle.cqlp_value.specs.Values.{Values, AreInRange}
use Rattle.cqlp_message.specs.FrameValues.{FrameValue}
use Rattle.cqlp_message.specs.Frames.{AllSpell, Flat, FlatAll, FrameIsInRange, frame_bytes}
use Rattle.cqlp_message.proofs.FramesWritten.{frame_written}
use Rattle.cqlp_message.specs.Pages.{page_unfit_of, with_cells}
use Rattle.cqlp_message.proofs.PageFrames.{is_page, page_written}
use Rattle.cqlp_message.proofs.Ranges.{page_range}
use Rattle.cqlp_message.proofs.Tallies.{small_enough}
use Rattle.cqlp_grammar.specs.Events.{Event}
use Rattle.cqlp_decode.specs.Reading.{Waits, Says, start, start_with}
use Rattle.cqlp_laws.specs.Frames.{verdict_between}
use Rattle.cqlp_laws.specs.Written.{WrittenIsRead, WrittenIsReadWithGifts, PageIsRead, PageIsReadWithGifts}
use Rattle.cqlp_laws.specs.Untyped.{NoneInUse}
use Rattle.cqlp_laws.proofs.FramesRead.{spelled_with_gifts}
use Rattle.cqlp_laws.proofs.PlainRuns.{nothing_in_use}

-- a page that can be begun is in range
abbrev CanBeBegun : FrameValue → ℕ → Type 0
CanBeBegun f n = page_unfit_of f n ≡ None → FrameIsInRange f

-- values in range are so as what they hold
pub owned_range : (vs : List Value) → All (λ v. AreInRange (value_of v)) vs → All AreInRange (map value_of vs)
owned_range [] each = All-nil AreInRange
owned_range (v ∷ vs) each = All-cons AreInRange (value_of v) (map value_of vs) (All-head (λ (x : Value). AreInRange (value_of x)) v vs each) (owned_range vs (All-tail (λ (x : Value). AreInRange (value_of x)) v vs each))

waits : (n : ℕ) → n ≤ 2 ^ 63 → verdict_between n ≡ Waits
waits n le = rw (le-ltb (2 ^ 63) n le) refl

pub written_with_gifts : (f : FrameValue) → FrameIsInRange f → WrittenIsReadWithGifts f
written_with_gifts f range l gifts s before w le fits within none =
    let b = frame_bytes f in
    let written = frame_written f range fits in
    let alone : AllSpell ((f, 0) ∷ []) b = record { front = b; back = []; whole = sym (append-nil b); this = written.0; that = refl } in
    let one : FlatAll l (length s) ((f, 0) ∷ []) ≡ Flat l (length s) f 0 = append-nil (Flat l (length s) f 0) in
    let said = spelled_with_gifts l gifts s b before ((f, 0) ∷ []) w alone (within, range.stream, tt) (le, tt) (subst (λ (es : List (ℕ × Event)). NoneInUse l gifts (s ++ b) before es) (sym one) none) in
    subst (λ (es : List (ℕ × Event)). Says l (start_with gifts) (s ++ b) (before ++ es) (verdict_between (length (s ++ b)))) one said

pub page_with_gifts : (f : FrameValue) (n : ℕ) (cells : List Values) → CanBeBegun f n → All AreInRange cells → PageIsReadWithGifts f n cells
page_with_gifts f n cells begun each l gifts s before w le e its within none =
    let range = page_range f cells (is_page f n e).bare (begun e) each in
    let page = page_written f n cells e its in
    let whole = with_cells f cells in
    let es = Flat l (length s) whole 0 in
    let said = written_with_gifts whole range l gifts s before w le page.0 within (subst (λ (b : List ℕ). NoneInUse l gifts (s ++ b) before es) page.1 none) in
    subst (λ (b : List ℕ). Says l (start_with gifts) (s ++ b) (before ++ es) (verdict_between (length (s ++ b)))) (sym page.1) said

pub written_is_read : (f : FrameValue) → FrameIsInRange f → WrittenIsRead f
written_is_read f range l fits within =
    let b = frame_bytes f in
    let written = frame_written f range fits in
    let small = small_enough f fits in
    let short : length b ≤ 2 ^ 63 = omega (arith, written.1, small) in
    let said = written_with_gifts f range l [] [] [] (start, (refl, refl), refl) (omega arith) fits within (nothing_in_use l b [] (Flat l 0 f 0)) in
    rw (waits (length b) short) at said

pub page_is_read : (f : FrameValue) (n : ℕ) (cells : List Values) → CanBeBegun f n → All AreInRange cells → PageIsRead f n cells
page_is_read f n cells begun each l e its within =
    let range = page_range f cells (is_page f n e).bare (begun e) each in
    let page = page_written f n cells e its in
    let said : Says l start (frame_bytes (with_cells f cells)) (Flat l 0 (with_cells f cells) 0) Waits = written_is_read (with_cells f cells) range l page.0 within in
    subst (λ (b : List ℕ). Says l start b (Flat l 0 (with_cells f cells) 0) Waits) (sym page.1) said
