-- What is known of the responses of a connection, and how what happens in them is written.
use Rattle.std.specs.Prelude.{◌≡◌, ℕ, ℤ, true, if◌then◌else◌, List, [], ◌++◌, Option, Some, None, IsSome, option_and_then}
use Rattle.cqlp_note.specs.declared.header.Header.{Header}
use Rattle.cqlp_note.specs.Limits.{Rules, rules_of}
use Rattle.cqlp_kind.specs.declared.node.Node.{Node}
use Rattle.cqlp_statement_types.specs.Types.{Given}
use Rattle.cqlp_capture_prepared.specs.Keeping.{Keeping, answered, named_under, types_of}
use Rattle.cqlp_capture_frames.specs.Happenings.{Happening, Manner, Begins, Says, Fails, Compressed, Unread, Gap, Ends, Closes}
use Rattle.cqlp_capture_rows.specs.declared.limits.TheConstants.{LIMITS}
use Rattle.cqlp_capture_rows.specs.declared.responses.TheConstants.{NO_HEADER}
use Rattle.cqlp_capture_rows.specs.declared.spot.FrameSpot.{FrameSpot}
use Rattle.cqlp_capture_frames.specs.Lines.{compressed_line, gap_line, line_place, refused_line, unread_line}
use Rattle.cqlp_capture_rows.specs.Spots.{frame_spot, spot}
use Rattle.cqlp_capture_rows.specs.Frames.{is_result}
use Rattle.cqlp_capture_rows.specs.Others.{OtherTypes, no_other_types, or_else, other_types_of, prepared_as, used_by}
use Rattle.cqlp_capture_rows.specs.Pages.{Page, cut_text, no_rows, page_after, rows_part}

abbrev pub rules : Rules
rules = rules_of LIMITS

-- The number of the connection, what is known of its statements and of those of other connections, where the frame that began last begins, and its
-- page.
pub record Responses : Type 0 where
  pub number : ℕ
  pub known : Keeping
  pub others : OtherTypes
  pub begun : FrameSpot
  pub page : Page

abbrev pub responses : ℕ → Keeping → OtherTypes → FrameSpot → Page → Responses
responses number known others begun page = record { number = number; known = known; others = others; begun = begun; page = page }

-- nothing came, and these types of statements were given
abbrev pub new_responses : Given → (number : ℕ) → Keeping → Responses
new_responses given number known = responses number known (no_other_types given) (frame_spot (spot number 0) NO_HEADER) no_rows

abbrev pub with_known : Keeping → Responses → Responses
with_known known r = responses r.number known r.others r.begun r.page

abbrev pub with_others : OtherTypes → Responses → Responses
with_others others r = responses r.number r.known others r.begun r.page

abbrev pub with_page : Page → Responses → Responses
with_page page r = responses r.number r.known r.others r.begun page

-- ---- a frame that came whole: a PREPARED says the types of its statement (section 4.2.5.4)

abbrev pub known_by : Header → Page → (types : List Node) → Keeping → Keeping
known_by h p types known = if is_result h.opcode then prepared_as p.id types known else known

-- ---- the types of a page: those that the last PREPARED on its connection said, or else those that the last one on another connection did, or else
-- those that were given

abbrev pub types_known : (id : List ℕ) → Responses → Option (List Node)
types_known id r = or_else (types_of id r.known) (other_types_of id r.others)

-- where an EXECUTE waits under its stream id, of the statement which that names
abbrev pub page_types : (stream : ℤ) → Responses → Option (List Node)
page_types stream r = option_and_then (λ id. types_known id r) (named_under stream r.known)

abbrev pub used_in : Option (List ℕ) → OtherTypes → OtherTypes
used_in None others = others
used_in (Some id) others = used_by id others

-- ---- what happens: its text, and what is known after it

abbrev pub text_of : Responses → Happening → List ℕ
text_of r (Begins at h) = []
text_of r (Says at e) = rows_part r.begun r.page e
text_of r (Fails at why) = cut_text r.page ++ refused_line (line_place r.number true) at why
text_of r (Compressed at h) = compressed_line (line_place r.number true) at
text_of r (Unread at h) = unread_line (line_place r.number true) at
text_of r (Gap at n cause) = gap_line (line_place r.number true) at n cause
text_of r (Ends types) = cut_text r.page
text_of r Closes = cut_text r.page

-- A frame answers what waits under its stream id, and uses the statement which that names. Once no more of it is read, no page is under way.
abbrev pub after : Responses → Happening → Responses
after r (Begins at h) =
    responses r.number (answered h.stream r.known) (used_in (named_under h.stream r.known) r.others) (frame_spot (spot r.number at) h) no_rows
after r (Says at e) = with_page (page_after r.page e) r
after r (Fails at why) = with_page no_rows r
after r (Compressed at h) = with_known (answered h.stream r.known) r
after r (Unread at h) = with_known (answered h.stream r.known) r
after r (Gap at n cause) = r
after r (Ends types) = with_known (known_by r.begun.header r.page types r.known) (with_page no_rows r)
after r Closes = with_page no_rows r

-- For what memory is asked: for the types of a page, and for those of a statement that is prepared.
abbrev pub AsksFor : Responses → Happening → Type 0
AsksFor r (Begins at h) = IsSome (page_types h.stream r)
AsksFor r (Ends types) = (is_result r.begun.header.opcode ≡ true) × IsSome r.page.id
AsksFor r h = ⊥

abbrev pub page_manner : Manner Responses
page_manner = record { text = text_of; after = after; types = λ r at h. page_types h.stream r }
