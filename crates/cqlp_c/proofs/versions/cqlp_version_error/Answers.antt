use Rattle.std.proofs.Common.{◌≡◌, ℕ, ◌+◌, ◌≤◌, ℤ, List, ◌++◌, length, codes, decimal, refl, ap, ◌∙◌, subst, arith, rules, SFits}
use Rattle.std.specs.Int.{w16}
use Rattle.std.proofs.lemmas.Int.{to_z-of_z}
use Rattle.cqlp_message.specs.VersionError.{stream_under, version_error_bytes, version_in, version_text}
use Rattle.cqlp_c.specs.declared.numbers.TheConstants as numbers
use Rattle.cqlp_c.specs.Rooms.{PutsBytes}
use Rattle.cqlp_c.specs.Versions.{error_head}
use Rattle.cqlp_c.proofs.Written.{assembled, four_follow, text_long}
use Rattle.cqlp_c.proofs.versions.cqlp_version_error.Goals as goal

pub returns : goal.returns
returns c =
    let header = c.args.header.now in
    let room = c.args.bytes.now in
    let version = version_in header in
    let a = c.error_head-head.result in
    let n = c.as_bytes-number.result.now in
    let b : List ℕ = codes "Invalid or unsupported protocol version (" in
    let z : List ℕ = codes "); the lowest supported version is 4 and the greatest is 4" in
    let written = 15 + (41 + length n + 58) in
    let number : n ≡ decimal version = c.as_bytes-number.ensures.value ∙ c.format.ensures.text in
    let long : 41 + length n + 58 ≡ length (version_text version) = text_long b (decimal version) n z 41 58 refl refl number in
    let in_range : SFits w16 c.stream_under.result = search rules in
    let bare : a ≡ error_head (stream_under version header) (41 + length n + 58) = c.error_head-head.ensures ∙ ap (λ (s : ℤ). error_head s (41 + length n + 58)) (to_z-of_z w16 c.stream_under.result in_range ∙ c.stream_under.ensures) in
    let head : a ≡ error_head (stream_under version header) (length (version_text version)) = bare ∙ ap (error_head (stream_under version header)) long in
    let fifteen : length a ≡ 15 = ap length bare in
    let fits : written ≤ length room = omega (arith, c.if-bytes-text_len.false) in
    let sum : written ≡ length a + (length b + length n + length z) = omega (arith, fifteen) in
    let put = four_follow room c.put-end.new.room c.put-end-2.new.room c.put-end-3.new.room c.put.new.room a b n z c.put-end.result c.put-end-2.result c.put-end-3.result c.put.result written
    (record { behind = c.put-end.ensures.behind; first = c.put-end.ensures.first; others = c.put-end.ensures.others }) (record { behind = c.put-end-2.ensures.behind; first = c.put-end-2.ensures.first; others = c.put-end-2.ensures.others })
    (record { behind = c.put-end-3.ensures.behind; first = c.put-end-3.ensures.first; others = c.put-end-3.ensures.others }) (record { behind = c.put.ensures.behind; first = c.put.ensures.first; others = c.put.ensures.others }) sum fits in
    let all : ((a ++ b) ++ n) ++ z ≡ version_error_bytes header = assembled (error_head (stream_under version header) (length (version_text version))) (decimal version) a b n z head number in
    subst (λ (x : List ℕ). PutsBytes x numbers.DONE room c.put.new.room written) all put
