-- What the first bytes of a direction are.
use Rattle.std.specs.Prelude.{ℕ, Bool, true, false, ◌&&◌, ◌||◌, ◌==◌, List, ◌∷◌, if◌then◌else◌}
use Rattle.std.specs.Prelude.{bit_and, codes, length, take, drop, nat_eq, nat_le, nat_lt, slice_index, is_some}
use Rattle.std.specs.List.{starts_with}
use Rattle.cqlp_note.specs.Heading.{same}
use Rattle.cqlp_observer.specs.declared.heads.Heads.{Heads}
use Rattle.cqlp_observer.specs.declared.heads.Stage.{Stage}
use Rattle.cqlp_observer.specs.declared.heads.Stage.TheVariants as stage
use Rattle.cqlp_observer.specs.declared.opening.Opening.{Opening}
use Rattle.cqlp_observer.specs.declared.opening.Opening.TheVariants as begins
use Rattle.cqlp_observer.specs.Heads.{head_within}

-- A record of TLS: its kind is handshake or data, and its version 3 and another number.
abbrev pub is_tls : (kind version : ℕ) → Bool
is_tls kind version = ((kind == 0x16) || (kind == 0x17)) && (version == 0x03)

-- A response of HTTP, or a request with one of its usual methods ("HTTP/"; "GET ", "POST ", "PUT ", "HEAD ", "PRI ").
abbrev pub is_http : (responses : Bool) → List ℕ → Bool
is_http responses b =
    if responses then starts_with nat_eq b (codes "HTTP/")
    else starts_with nat_eq b (codes "GET ") || (starts_with nat_eq b (codes "POST ") || (starts_with nat_eq b (codes "PUT ")
    || (starts_with nat_eq b (codes "HEAD ") || starts_with nat_eq b (codes "PRI "))))

-- the first byte of a header: its version, and 0x80 in a response
abbrev pub version_of : (first : ℕ) → ℕ
version_of first = bit_and first 0x7F

abbrev pub is_other_version : (responses : Bool) → (first : ℕ) → Bool
is_other_version responses first =
    same responses (nat_le 0x80 first)
    && ((version_of first == 5) || ((version_of first == 6) || (nat_le 1 (version_of first) && nat_le (version_of first) 3)))

-- Nine bytes would be a header in version 4.
abbrev pub own_version : (responses : Bool) → ℕ
own_version responses = if responses then 0x84 else 0x04

abbrev pub is_head_of_other : (responses : Bool) → List ℕ → Bool
is_head_of_other responses b = is_some (head_within responses (own_version responses ∷ take 8 (drop 1 b)))

-- Where the first byte begins a frame, it says the version; else nine bytes have to be a header but for that.
abbrev pub opening : (responses from_start : Bool) → List ℕ → Opening
opening responses from_start b =
    if nat_lt (length b) 2 then begins.Frames
    else if is_tls (slice_index b 0) (slice_index b 1) then begins.Tls
    else if is_http responses b then begins.Http
    else if is_other_version responses (slice_index b 0) && (from_start || is_head_of_other responses b) then begins.OtherVersion (version_of (slice_index b 0))
    else begins.Frames

-- ---- of a direction, where nothing came before

abbrev pub is_between : Stage → Bool
is_between stage.Between = true
is_between g = false

abbrev pub opening_in : List ℕ → Heads → Opening
opening_in b s = if nat_lt 0 s.position then begins.Frames else opening s.responses (is_between s.stage) b
