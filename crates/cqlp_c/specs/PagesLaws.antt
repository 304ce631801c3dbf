-- Laws of pages that are written in batches.
use Rattle.std.specs.Prelude.{◌≡◌, ⊤, ℕ, zero, suc, ◌++◌, ◌⊎◌, List, [], ◌∷◌, length, drop, take, Option, Some, None, Result, Ok, Err}
use Rattle.std.specs.List.{flat_map}
use Rattle.cqlp_note.specs.declared.header.Header.{Header}
use Rattle.cqlp_grammar.specs.Events.{Event, Frame}
use Rattle.cqlp_message.specs.Owned.{frame_of}
use Rattle.cqlp_compose.specs.declared.page.OpenPage.{OpenPage}
use Rattle.cqlp_c.specs.declared.encode.CqlpEncoded.{CqlpEncoded}
use Rattle.cqlp_c.specs.declared.event.CqlpEvent.{CqlpEvent}
use Rattle.cqlp_c.specs.declared.numbers.TheConstants as numbers
use Rattle.cqlp_c.specs.declared.page.CqlpPut.{CqlpPut}
use Rattle.cqlp_c.specs.declared.from_c.BadEvent.{BadEvent}
use Rattle.cqlp_c.specs.EncodeLaws.{IsReadAs}
use Rattle.cqlp_c.specs.Pages.{Begins, Puts, code_of_ends}
use Rattle.cqlp_c.specs.FromC.{content_len, event_from_c}

-- ---- one answer

-- From one page, of the same events with the same contents, and into the same room, `cqlp_page_put` has one answer, but where memory is refused.
abbrev pub IsOneAnswerOfPagePut : Type 0
IsOneAnswerOfPagePut =
    (p : OpenPage) (cs : List CqlpEvent) (contents before : List ℕ) (a b : ℕ) (x y : Option OpenPage) (one other : List ℕ) (was t u : CqlpPut)
    → Puts (Some p) cs contents a x before one was t → Puts (Some p) cs contents b y before other was u
    → ((a ≡ b) × (x ≡ y) × (one ≡ other) × (t ≡ u)) ⊎ ((a ≡ numbers.NO_MEMORY) ⊎ (b ≡ numbers.NO_MEMORY))

-- a page, wherever it lies in memory
abbrev pub AreSamePages : (x y : Option OpenPage) → Type 0
AreSamePages None None = ⊤
AreSamePages (Some p) (Some q) = (frame_of p.frame ≡ frame_of q.frame) × (p.place ≡ q.place)
AreSamePages x y = ⊥

-- Of the same events with the same contents, with cells of as many bytes, and into the same room, `cqlp_page_begin` has one answer, but where memory is
-- refused.
abbrev pub IsOneAnswerOfPageBegin : Type 0
IsOneAnswerOfPageBegin =
    (cs : List CqlpEvent) (contents before : List ℕ) (size a b : ℕ) (x y : Option OpenPage) (one other : List ℕ) (was t u : CqlpEncoded)
    → Begins cs contents size None a before one x was t → Begins cs contents size None b before other y was u
    → ((a ≡ b) × AreSamePages x y × (one ≡ other) × (t ≡ u)) ⊎ ((a ≡ numbers.NO_MEMORY) ⊎ (b ≡ numbers.NO_MEMORY))

-- ---- what is written

abbrev pub event_then : Result Event BadEvent → List Event → List Event
event_then (Ok e) es = e ∷ es
event_then (Err why) es = []

-- the first events, this many, that C passes with these contents, one after the other
abbrev pub events_from_c : (n : ℕ) → List CqlpEvent → (contents : List ℕ) → List Event
events_from_c zero cs contents = []
events_from_c (suc n) [] contents = []
events_from_c (suc n) (c ∷ cs) contents = event_then (event_from_c c contents) (events_from_c n cs (drop (content_len c) contents))

-- A call of `cqlp_page_put`, whatever it answers: these are the events of the cells that were put, and the bytes of these.
pub record IsPut (p : OpenPage) (es : List Event) (bytes : List ℕ) (q : OpenPage) : Type 0 where
  pub cs : List CqlpEvent
  pub contents : List ℕ
  pub code : ℕ
  pub before : List ℕ
  pub after : List ℕ
  pub was : CqlpPut
  pub written : CqlpPut
  pub puts : Puts (Some p) cs contents code (Some q) before after was written
  pub events : es ≡ events_from_c written.events cs contents
  pub are : bytes ≡ take written.length after

-- Calls one after the other, each with its events and its bytes.
abbrev pub ArePuts : OpenPage → List (List Event × List ℕ) → OpenPage → Type 0
ArePuts p [] q = q ≡ p
ArePuts p (b ∷ bs) q = (mid : OpenPage) × IsPut p b.0 b.1 mid × ArePuts mid bs q

abbrev pub events_of : List (List Event × List ℕ) → List Event
events_of bs = flat_map (λ b. b.0) bs

abbrev pub bytes_of : List (List Event × List ℕ) → List ℕ
bytes_of bs = flat_map (λ b. b.1) bs

-- A page that `cqlp_page_begin` began, whose cells were put by calls of `cqlp_page_put`, and of which `cqlp_page_end` says that it is whole: what they put, one
-- after the other, is read as the events of the head and of the cells that were put.
abbrev pub PutPagesAreRead : Type 0
PutPagesAreRead =
    (cs : List CqlpEvent) (contents before after : List ℕ) (size : ℕ) (was written : CqlpEncoded) (p q : OpenPage) (calls : List (List Event × List ℕ))
    → Begins cs contents size None numbers.DONE before after (Some p) was written
    → ArePuts p calls q → code_of_ends (Some q) ≡ numbers.DONE
    → (h : Header) × (fields : List Event) × (events_from_c (length cs) cs contents ≡ Frame h ∷ fields)
    × IsReadAs h (fields ++ events_of calls) (take written.length after ++ bytes_of calls)
