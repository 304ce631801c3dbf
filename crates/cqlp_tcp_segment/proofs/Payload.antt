-- The payload lies in the packet.
use Rattle.std.proofs.Common.{◌≡◌, ℕ, zero, suc, ◌+◌, ◌-◌, ◌*◌, ◌≤◌, Bool, true, false, cond, ◌⊎◌, inl, inr, List, [], ◌∷◌, ◌++◌, length, take, drop, Result, Ok, Err, refl, sym, ap, subst, ◌∙◌, arith, append_assoc}
use Rattle.std.specs.Prelude.{Option, Some, None, nat_lt, bit_and, ◌%◌, ◌==◌, ◌||◌, not, slice_index}
use Rattle.std.specs.Int.{w16, from_be_bytes}
use Rattle.std.proofs.lemmas.List.{take-append-drop, length-append, length-drop, length-take, drop-take, drop-drop, drop_at}
use Rattle.std.proofs.lemmas.Bool.{ltb-false}
use Rattle.cqlp_tcp_segment.specs.declared.link.LinkType.{LinkType}
use Rattle.cqlp_tcp_segment.specs.declared.link.LinkType.TheVariants as link
use Rattle.cqlp_tcp_segment.specs.declared.ether_type.IpVersion.{IpVersion}
use Rattle.cqlp_tcp_segment.specs.declared.ether_type.IpVersion.TheVariants.{V4, V6}
use Rattle.cqlp_tcp_segment.specs.declared.reason.NoSegment.{NoSegment}
use Rattle.cqlp_tcp_segment.specs.Fields.{number_16, Gives, ◌>>=◌}
use Rattle.cqlp_tcp_segment.specs.EtherType.{is_tag, untagged, raw_version, with_version, after_labels, after_session, of_type, after_ether_type}
use Rattle.cqlp_tcp_segment.specs.Link.{family_version, of_family, after_family, after_type, ip_packet}
use Rattle.cqlp_tcp_segment.specs.Ip.{Load, Above, above, is_extension, is_part, unit, past_extensions, version, header_4, total_4, is_fragment_4, load_4, size_6, load_6, carried_by_4, carried_by_6, carried_by}
use Rattle.cqlp_tcp_segment.specs.Tcp.{data_offset, header_length}
use Rattle.cqlp_tcp_segment.specs.Tunnels.{ends_before, is_plain_gre, gre_header, after_gre, in_gre, in_vxlan, in_packet, innermost}
use Rattle.cqlp_tcp_segment.specs.Segment.{Seen, seen, beyond, segment_with, segment_of}
use Rattle.cqlp_tcp_segment.specs.Laws.{seen_of}
use Rattle.cqlp_tcp_segment.specs.declared.segments.Segment.{Segment}

-- ---- steps that said something

pub bind_ok : {A B : Type 0} (r : Result A NoSegment) (f : A → Result B NoSegment) (y : B) → (r >>= f) ≡ Ok y → (x : A) × (r ≡ Ok x) × (f x ≡ Ok y)
bind_ok (Ok x) f y is = (x, refl, is)
bind_ok (Err why) f y is = absurd cc

guard_ok : {B : Type 0} (t : Bool) (why : NoSegment) (r : Result B NoSegment) (y : B) → cond t (Err why) r ≡ Ok y → (t ≡ false) × (r ≡ Ok y)
guard_ok true why r y is = absurd cc
guard_ok false why r y is = (refl, is)

chosen : {B : Type 0} (t : Bool) (p q r : B) → cond t p q ≡ r → (p ≡ r) ⊎ (q ≡ r)
chosen true p q r is = inl is
chosen false p q r is = inr is

same_ok : {B : Type 0} (x y : B) → ◌≡◌ {A = Result B NoSegment} (Ok x) (Ok y) → x ≡ y
same_ok x y is = cc

-- ---- ends of lists

abbrev IsEndOf : (end all : List ℕ) → Type 0
IsEndOf end all = (front : List ℕ) × (all ≡ front ++ end)

all_end : (b c : List ℕ) → b ≡ c → IsEndOf c b
all_end b c is = ([], is)

drop_end : (n : ℕ) (b : List ℕ) → IsEndOf (drop n b) b
drop_end n b = (take n b, sym (take-append-drop n b))

cons_end : (x : ℕ) (end b : List ℕ) → IsEndOf end b → IsEndOf end (x ∷ b)
cons_end x end b e = (x ∷ e.0, ap (λ (z : List ℕ). x ∷ z) e.1)

end_end : (end mid all : List ℕ) → IsEndOf end mid → IsEndOf mid all → IsEndOf end all
end_end end mid all e m = (m.0 ++ e.0, m.1 ∙ ap (λ (z : List ℕ). m.0 ++ z) e.1 ∙ sym (append_assoc m.0 e.0 end))

-- ---- headers of links

untagged_stops : (t : Bool) (why : NoSegment) (n : ℕ) (b : List ℕ) (x : ℕ × List ℕ) → cond t (Err why) (Ok (n, b)) ≡ Ok x → IsEndOf x.1 b
untagged_stops t why n b x is =
    let g = guard_ok t why (Ok (n, b)) x is in
    all_end b x.1 (ap (λ (z : ℕ × List ℕ). z.1) (same_ok (n, b) x g.1))

untagged_end : (n : ℕ) (b : List ℕ) (x : ℕ × List ℕ) → untagged n b ≡ Ok x → IsEndOf x.1 b
untagged_end n [] x is = untagged_stops (is_tag n) _ n [] x is
untagged_end n (p ∷ []) x is = untagged_stops (is_tag n) _ n (p ∷ []) x is
untagged_end n (p ∷ q ∷ []) x is = untagged_stops (is_tag n) _ n (p ∷ q ∷ []) x is
untagged_end n (p ∷ q ∷ h ∷ []) x is = untagged_stops (is_tag n) _ n (p ∷ q ∷ h ∷ []) x is
untagged_end n (p ∷ q ∷ h ∷ l ∷ b) x is = elim (chosen (is_tag n) _ _ _ is) [
  | inl more ↦ cons_end p x.1 (q ∷ h ∷ l ∷ b) (cons_end q x.1 (h ∷ l ∷ b) (cons_end h x.1 (l ∷ b) (cons_end l x.1 b (untagged_end (from_be_bytes w16 (h ∷ l ∷ [])) b x more))))
  | inr here ↦ all_end (p ∷ q ∷ h ∷ l ∷ b) x.1 (ap (λ (z : ℕ × List ℕ). z.1) (same_ok _ x here))
]

-- an answer that is a packet of IP
packet_end : (v : IpVersion) (b : List ℕ) (y : IpVersion × List ℕ) → ◌≡◌ {A = Result (IpVersion × List ℕ) NoSegment} (Ok (v, b)) (Ok y) → IsEndOf y.1 b
packet_end v b y is = all_end b y.1 (ap (λ (z : IpVersion × List ℕ). z.1) (same_ok (v, b) y is))

with_version_end : (b : List ℕ) (y : IpVersion × List ℕ) → with_version b ≡ Ok y → IsEndOf y.1 b
with_version_end b y is = let r = bind_ok (raw_version b) _ y is in packet_end r.0 b y r.2

labels_end : (b : List ℕ) (y : IpVersion × List ℕ) → after_labels b ≡ Ok y → IsEndOf y.1 b
labels_end [] y is = absurd cc
labels_end (p ∷ []) y is = absurd cc
labels_end (p ∷ q ∷ []) y is = absurd cc
labels_end (p ∷ q ∷ r ∷ []) y is = absurd cc
labels_end (p ∷ q ∷ r ∷ d ∷ b) y is =
    cons_end p y.1 (q ∷ r ∷ d ∷ b) (cons_end q y.1 (r ∷ d ∷ b) (cons_end r y.1 (d ∷ b) (cons_end d y.1 b (elim (chosen (r % 2 == 1) _ _ _ is) [
      | inl last ↦ with_version_end b y last
      | inr more ↦ labels_end b y more
    ]))))

session_end : (b : List ℕ) (y : IpVersion × List ℕ) → after_session b ≡ Ok y → IsEndOf y.1 b
unfolding after_session
session_end b y is =
    let g1 = guard_ok (nat_lt (length b) 8) _ _ y is in
    let g2 = guard_ok (not (number_16 0 b == 0x1100)) _ _ y g1.1 in
    elim (chosen (number_16 6 b == 0x0021) _ _ _ g2.1) [
      | inl four ↦ end_end y.1 (drop 8 b) b (packet_end V4 (drop 8 b) y four) (drop_end 8 b)
      | inr other ↦ elim (chosen (number_16 6 b == 0x0057) _ _ _ other) [
        | inl six ↦ end_end y.1 (drop 8 b) b (packet_end V6 (drop 8 b) y six) (drop_end 8 b)
        | inr none ↦ absurd cc
      ]
    ]

of_type_end : (n : ℕ) (b : List ℕ) (y : IpVersion × List ℕ) → of_type n b ≡ Ok y → IsEndOf y.1 b
of_type_end n b y is = elim (chosen (n == 0x0800) _ _ _ is) [
  | inl four ↦ packet_end V4 b y four
  | inr a ↦ elim (chosen (n == 0x86DD) _ _ _ a) [
    | inl six ↦ packet_end V6 b y six
    | inr c ↦ elim (chosen ((n == 0x8847) || (n == 0x8848)) _ _ _ c) [
      | inl labels ↦ labels_end b y labels
      | inr d ↦ elim (chosen (n == 0x8864) _ _ _ d) [
        | inl session ↦ session_end b y session
        | inr none ↦ absurd cc
      ]
    ]
  ]
]

ether_end : (n : ℕ) (b : List ℕ) (y : IpVersion × List ℕ) → after_ether_type n b ≡ Ok y → IsEndOf y.1 b
unfolding after_ether_type
ether_end n b y is =
    let u = bind_ok (untagged n b) _ y is in
    end_end y.1 u.0.1 b (of_type_end u.0.0 u.0.1 y u.2) (untagged_end n b u.0 u.1)

of_family_same : (o : Option IpVersion) (b : List ℕ) (y : IpVersion × List ℕ) → of_family o b ≡ Ok y → b ≡ y.1
of_family_same None b y is = absurd cc
of_family_same (Some v) b y is = ap (λ (z : IpVersion × List ℕ). z.1) (same_ok (v, b) y is)

family_end : (either : Bool) (b : List ℕ) (y : IpVersion × List ℕ) → after_family either b ≡ Ok y → IsEndOf y.1 b
family_end either b y is =
    let g = guard_ok (nat_lt (length b) 4) _ _ y is in
    end_end y.1 (drop 4 b) b (all_end (drop 4 b) y.1 (of_family_same (family_version either b) (drop 4 b) y g.1)) (drop_end 4 b)

type_end : (index header : ℕ) (b : List ℕ) (y : IpVersion × List ℕ) → after_type index header b ≡ Ok y → IsEndOf y.1 b
unfolding after_type
type_end index header b y is =
    let g = guard_ok (nat_lt (length b) header) _ _ y is in
    end_end y.1 (drop header b) b (ether_end (number_16 index b) (drop header b) y g.1) (drop_end header b)

pub ip_end : (l : LinkType) (b : List ℕ) (y : IpVersion × List ℕ) → ip_packet l b ≡ Ok y → IsEndOf y.1 b
unfolding ip_packet
ip_end link.Null b y is = family_end true b y is
ip_end link.Loop b y is = family_end false b y is
ip_end link.Ethernet b y is = type_end 12 14 b y is
ip_end link.LinuxSll b y is = type_end 14 16 b y is
ip_end link.LinuxSll2 b y is = type_end 0 20 b y is
ip_end link.Raw b y is = with_version_end b y is
ip_end link.Ipv4 b y is = packet_end V4 b y is
ip_end link.Ipv6 b y is = packet_end V6 b y is

-- ---- headers of IP

above_end : (kind size : ℕ) (b : List ℕ) (x : Above) → ◌≡◌ {A = Result Above NoSegment} (Ok (above kind size b)) (Ok x) → IsEndOf x.bytes b
above_end kind size b x is = all_end b x.bytes (ap (λ (z : Above). z.bytes) (same_ok (above kind size b) x is))

extensions_end : (left kind size : ℕ) (b : List ℕ) (x : Above) → past_extensions left kind size b ≡ Ok x → IsEndOf x.bytes b
extensions_end (suc left) kind size [] x is = absurd cc
extensions_end (suc left) kind size (p ∷ b) x is = cons_end p x.bytes b (extensions_end left kind size b x is)
extensions_end zero kind size [] x is = above_end kind size [] x (guard_ok (is_extension kind) _ _ x is).1
extensions_end zero kind size (p ∷ []) x is = above_end kind size (p ∷ []) x (guard_ok (is_extension kind) _ _ x is).1
extensions_end zero kind size (p ∷ q ∷ b) x is = elim (chosen (is_extension kind) _ _ _ is) [
  | inl more ↦
      let g1 = guard_ok (nat_lt size (8 + unit kind * q)) _ _ x more in
      let g2 = guard_ok (nat_lt (length b) (6 + unit kind * q)) _ _ x g1.1 in
      let g3 = guard_ok (is_part kind (number_16 0 b)) _ _ x g2.1 in
      cons_end p x.bytes (q ∷ b) (cons_end q x.bytes b (extensions_end (6 + unit kind * q) p (size - (8 + unit kind * q)) b x g3.1))
  | inr here ↦ above_end kind size (p ∷ q ∷ b) x here
]

load_end_4 : (beyond : ℕ) (b : List ℕ) (l : Load) → carried_by_4 beyond b ≡ Ok l → IsEndOf l.bytes b
unfolding carried_by_4
load_end_4 beyond b l is =
    let g1 = guard_ok (nat_lt (length b) 20) _ _ l is in
    let g2 = guard_ok (not (version b == 4)) _ _ l g1.1 in
    let g3 = guard_ok (nat_lt (header_4 b) 20 || nat_lt (total_4 beyond b) (header_4 b)) _ _ l g2.1 in
    let g4 = guard_ok (is_fragment_4 b) _ _ l g3.1 in
    let g5 = guard_ok (nat_lt (length b) (header_4 b)) _ _ l g4.1 in
    let same : load_4 beyond b ≡ l = same_ok (load_4 beyond b) l g5.1 in
    subst (λ (z : Load). IsEndOf z.bytes b) same (drop_end (header_4 b) b)

load_end_6 : (beyond : ℕ) (b : List ℕ) (l : Load) → carried_by_6 beyond b ≡ Ok l → IsEndOf l.bytes b
unfolding carried_by_6
load_end_6 beyond b l is =
    let g1 = guard_ok (nat_lt (length b) 40) _ _ l is in
    let g2 = guard_ok (not (version b == 6)) _ _ l g1.1 in
    let u = bind_ok (past_extensions 0 (slice_index b 6) (size_6 beyond b) (drop 40 b)) (λ x. Ok (load_6 b x)) l g2.1 in
    let same : load_6 b u.0 ≡ l = same_ok (load_6 b u.0) l u.2 in
    subst (λ (z : Load). IsEndOf z.bytes b) same (end_end u.0.bytes (drop 40 b) b (extensions_end 0 _ _ (drop 40 b) u.0 u.1) (drop_end 40 b))

pub load_end : (v : IpVersion) (beyond : ℕ) (b : List ℕ) (l : Load) → carried_by v beyond b ≡ Ok l → IsEndOf l.bytes b
load_end V4 beyond b l is = load_end_4 beyond b l is
load_end V6 beyond b l is = load_end_6 beyond b l is

-- ---- tunnels

after_gre_end : (b rest : List ℕ) (y : IpVersion × List ℕ) → after_gre b rest ≡ Ok y → IsEndOf y.1 rest
after_gre_end b rest y is = elim (chosen (number_16 2 b == 0x6558) _ _ _ is) [
  | inl frame ↦ type_end 12 14 rest y frame
  | inr other ↦ ether_end (number_16 2 b) rest y other
]

gre_end : (l : Load) (y : IpVersion × List ℕ) → in_gre l ≡ Ok y → IsEndOf y.1 l.bytes
unfolding in_gre
gre_end l y is =
    let g1 = guard_ok (ends_before 4 l) _ _ y is in
    let g2 = guard_ok (not (is_plain_gre l.bytes)) _ _ y g1.1 in
    let n = gre_header (slice_index l.bytes 0) in
    let g3 = guard_ok (ends_before n l) _ _ y g2.1 in
    end_end y.1 (drop n l.bytes) l.bytes (after_gre_end l.bytes (drop n l.bytes) y g3.1) (drop_end n l.bytes)

vxlan_end : (l : Load) (y : IpVersion × List ℕ) → in_vxlan l ≡ Ok y → IsEndOf y.1 l.bytes
unfolding in_vxlan
vxlan_end l y is =
    let g1 = guard_ok (ends_before 4 l || not (number_16 2 l.bytes == 4789)) _ _ y is in
    let g2 = guard_ok (ends_before 16 l) _ _ y g1.1 in
    let g3 = guard_ok (bit_and (slice_index l.bytes 8) 0x08 == 0) _ _ y g2.1 in
    end_end y.1 (drop 16 l.bytes) l.bytes (type_end 12 14 (drop 16 l.bytes) y g3.1) (drop_end 16 l.bytes)

pub in_packet_end : (l : Load) (y : IpVersion × List ℕ) → in_packet l ≡ Ok y → IsEndOf y.1 l.bytes
in_packet_end l y is = elim (chosen (l.protocol == 4) _ _ _ is) [
  | inl four ↦ packet_end V4 l.bytes y four
  | inr a ↦ elim (chosen (l.protocol == 41) _ _ _ a) [
    | inl six ↦ packet_end V6 l.bytes y six
    | inr b ↦ elim (chosen (l.protocol == 17) _ _ _ b) [
      | inl udp ↦ vxlan_end l y udp
      | inr c ↦ elim (chosen (l.protocol == 47) _ _ _ c) [
        | inl gre ↦ gre_end l y gre
        | inr none ↦ absurd cc
      ]
    ]
  ]
]

innermost_end : (packets beyond : ℕ) (ip : IpVersion × List ℕ) (l : Load) → innermost packets beyond ip ≡ Ok l → IsEndOf l.bytes ip.1
unfolding innermost
innermost_end zero beyond ip l is = absurd cc
innermost_end (suc packets) beyond ip l is =
    let outer = bind_ok (carried_by ip.0 beyond ip.1) _ l is in
    let here = load_end ip.0 beyond ip.1 outer.0 outer.1 in
    elim (chosen (outer.0.protocol == 6) _ _ _ outer.2) [
      | inl tcp ↦ subst (λ (z : Load). IsEndOf z.bytes ip.1) (same_ok outer.0 l tcp) here
      | inr tunnel ↦
          let inner = bind_ok (in_packet outer.0) (innermost packets beyond) l tunnel in
          end_end l.bytes outer.0.bytes ip.1 (end_end l.bytes inner.0.1 outer.0.bytes (innermost_end packets beyond inner.0 l inner.2) (in_packet_end outer.0 inner.0 inner.1)) here
    ]

-- what a tunnel carries is no longer than the packet of IP that carries it
pub in_packet_shorter : (v : IpVersion) (beyond : ℕ) (b : List ℕ) (l : Load) (y : IpVersion × List ℕ) → carried_by v beyond b ≡ Ok l → in_packet l ≡ Ok y → length y.1 ≤ length b
in_packet_shorter v beyond b l y outer inner =
    let e = end_end y.1 l.bytes b (in_packet_end l y inner) (load_end v beyond b l outer) in
    omega (arith, ap length e.1, length-append e.0 y.1)

-- ---- the header of TCP, and the payload

or_false : (s t : Bool) → (s || t) ≡ false → (s ≡ false) × (t ≡ false)
or_false true t is = absurd cc
or_false false t is = (refl, is)

pub header_within : (l : Load) (h : ℕ) → header_length l ≡ Ok h → (h ≤ l.size) × (h ≤ length l.bytes)
header_within l h is =
    let g1 = guard_ok (nat_lt l.size 20) _ _ h is in
    let g2 = guard_ok (nat_lt (length l.bytes) 20) _ _ h g1.1 in
    let g3 = guard_ok (nat_lt (data_offset l.bytes) 20 || nat_lt l.size (data_offset l.bytes)) _ _ h g2.1 in
    let g4 = guard_ok (nat_lt (length l.bytes) (data_offset l.bytes)) _ _ h g3.1 in
    let same : data_offset l.bytes ≡ h = same_ok (data_offset l.bytes) h g4.1 in
    let long = or_false (nat_lt (data_offset l.bytes) 20) (nat_lt l.size (data_offset l.bytes)) g3.0 in
    subst (λ (k : ℕ). (k ≤ l.size) × (k ≤ length l.bytes)) same (ltb-false _ _ long.1, ltb-false _ _ g4.0)

-- so many bytes as there are of a front
take_all_of : (n : ℕ) (xs : List ℕ) → take n xs ≡ take (length (take n xs)) xs
take_all_of zero xs = refl
take_all_of (suc n) [] = refl
take_all_of (suc n) (x ∷ xs) = ap (λ (z : List ℕ). x ∷ z) (take_all_of n xs)

payload_at : (front b : List ℕ) (h size : ℕ) → h ≤ size → h ≤ length b
    → (length front + h + length (drop h (take size b)) ≤ length (front ++ b))
    × (drop h (take size b) ≡ take (length (drop h (take size b))) (drop (length front + h) (front ++ b)))
payload_at front b h size within captured =
    let m = size - h in
    let all : h + m ≡ size = omega arith in
    let p = drop h (take size b) in
    let is : p ≡ take m (drop h b) = ap (λ (k : ℕ). drop h (take k b)) (sym all) ∙ drop-take h m b in
    let there : drop (length front + h) (front ++ b) ≡ drop h b = sym (drop-drop h (length front) (front ++ b)) ∙ ap (drop h) (drop_at front b (length front) refl) in (
      omega (arith, length-drop h (take size b), length-take size b, length-append front b),
      is ∙ take_all_of m (drop h b) ∙ ap (λ (k : ℕ). take k (drop h b)) (ap length (sym is)) ∙ ap (take (length p)) (sym there),
    )

-- what IP carries ends the packet, with what pads it
pub carried_end : (l : LinkType) (packet : List ℕ) (beyond : ℕ) (ip : IpVersion × List ℕ) (load : Load) → ip_packet l packet ≡ Ok ip → innermost 5 beyond ip ≡ Ok load → IsEndOf load.bytes packet
carried_end l packet beyond ip load a b = end_end load.bytes ip.1 packet (innermost_end 5 beyond ip load b) (ip_end l packet ip a)

pub carried_shorter : (l : LinkType) (packet : List ℕ) (beyond : ℕ) (ip : IpVersion × List ℕ) (load : Load) → ip_packet l packet ≡ Ok ip → innermost 5 beyond ip ≡ Ok load → length load.bytes ≤ length packet
carried_shorter l packet beyond ip load a b =
    let e = carried_end l packet beyond ip load a b in
    omega (arith, ap length e.1, length-append e.0 load.bytes)

pub segment_is : (l : LinkType) (packet : List ℕ) (original : ℕ) (ip : IpVersion × List ℕ) (load : Load) (h : ℕ) → ip_packet l packet ≡ Ok ip → innermost 5 (beyond original packet) ip ≡ Ok load → header_length load ≡ Ok h
    → segment_of l packet original ≡ Ok (segment_with h load packet)
unfolding segment_of
segment_is l packet original ip load h a b d = rw (a, b, d) refl

pub payload_there : (l : LinkType) (packet : List ℕ) (original : ℕ) (s : Seen) → segment_of l packet original ≡ Ok s
    → (s.offset + length s.payload ≤ length packet) × (s.payload ≡ take (length s.payload) (drop s.offset packet))
unfolding segment_of
payload_there l packet original s is =
    let ip = bind_ok (ip_packet l packet) _ s is in
    let load = bind_ok (innermost 5 (beyond original packet) ip.0) _ s ip.2 in
    let head = bind_ok (header_length load.0) _ s load.2 in
    let within = header_within load.0 head.0 head.1 in
    let e = carried_end l packet (beyond original packet) ip.0 load.0 ip.1 load.1 in
    let at = payload_at e.0 load.0.bytes head.0 load.0.size within.0 within.1 in
    let same : segment_with head.0 load.0 packet ≡ s = same_ok _ s head.2 in
    let far : length packet - length load.0.bytes + head.0 ≡ length e.0 + head.0 = omega (arith, ap length e.1, length-append e.0 load.0.bytes) in
    let p = drop head.0 (take load.0.size load.0.bytes) in
    subst (λ (z : Seen). (z.offset + length z.payload ≤ length packet) × (z.payload ≡ take (length z.payload) (drop z.offset packet))) same (
      omega (arith, at.0, far, ap length e.1),
      at.1 ∙ ap (λ (k : ℕ). take (length p) (drop k (e.0 ++ load.0.bytes))) (sym far) ∙ ap (λ (z : List ℕ). take (length p) (drop (length packet - length load.0.bytes + head.0) z)) (sym e.1),
    )

pub payload_all : (l : Load) (packet : List ℕ) (header : ℕ) → header_length l ≡ Ok header
    → length (drop header (take l.size l.bytes)) + (l.size - length l.bytes) ≡ l.size - header
payload_all l packet header is =
    let within = header_within l header is in
    omega (arith, within.0, within.1, length-drop header (take l.size l.bytes), length-take l.size l.bytes)

pub one_seen : (said : Result Seen NoSegment) (a b : Result Segment NoSegment) → Gives seen a said → Gives seen b said → seen_of a ≡ seen_of b
one_seen said (Ok s) (Ok t) p q = sym p ∙ q
one_seen said (Ok s) (Err v) p q = sym p ∙ q
one_seen said (Err u) (Ok t) p q = sym p ∙ q
one_seen said (Err u) (Err v) p q = sym p ∙ q
