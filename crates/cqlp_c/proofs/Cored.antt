-- A core that is made, and what it sees of a frame.
use Rattle.std.proofs.Common.{◌≡◌, ◌↔◌, ℕ, Bool, true, false, Option, None, Some, Ok, Err, refl, sym, subst, ◌∙◌, inl, inr, nat_lt, if◌then◌else◌}
use Rattle.std.specs.Prelude.{◌==◌}
use Rattle.cqlp_note.specs.declared.header.Header.{Header}
use Rattle.cqlp_note.specs.declared.opcode.Opcode.TheVariants as opcode
use Rattle.cqlp_note.specs.declared.header.TheConstants.Header.{LONGEST_BODY}
use Rattle.cqlp_note.specs.Heading.{has}
use Rattle.cqlp_session.specs.declared.ticket.Reply.TheVariants as reply
use Rattle.cqlp_session.specs.Client.{ClientCore, reply_to}
use Rattle.cqlp_session.specs.Signal.{signal_of}
use Rattle.cqlp_c.specs.declared.header.BadHeader.TheVariants as bad
use Rattle.cqlp_c.specs.declared.numbers.TheConstants as numbers
use Rattle.cqlp_c.specs.Cores.{Starts, StartsAnew, is_slot_count}
use Rattle.cqlp_c.specs.Events.{of_frame}
use Rattle.cqlp_c.specs.Headers.{header_in, header_of}
use Rattle.cqlp_c.specs.Servers.{event_fields}
use Rattle.cqlp_c.specs.Talked.{is_stream, signal_in}
use Rattle.cqlp_c.proofs.Conforming.{code_conforms}

started : {C : Type 0} (fresh : ℕ → C) (slots : ℕ) (b : Bool) (code code' : ℕ) (new new' : Option C) → StartsAnew fresh slots b code new → StartsAnew fresh slots b code' new' → ((code ≡ numbers.NO_MEMORY) ↔ (code' ≡ numbers.NO_MEMORY)) → (code' ≡ code) × (new' ≡ new)
started fresh slots false code code' new new' x y same = (y.0 ∙ sym x.0, y.1 ∙ sym x.1)
started fresh slots true code code' new new' (inl x) (inl y) same = (y.0 ∙ sym x.0, y.1 ∙ sym x.1)
started fresh slots true code code' new new' (inr x) (inr y) same = (y.0 ∙ sym x.0, y.1 ∙ sym x.1)
started fresh slots true code code' new new' (inl x) (inr y) same = absurd (let e = same.0 x.0 in let f = y.0 in cc)
started fresh slots true code code' new new' (inr x) (inl y) same = absurd (let e = same.1 y.0 in let f = x.0 in cc)

pub one_core : {C : Type 0} (fresh : ℕ → C) (slots : ℕ) (old : Option C) (code code' : ℕ) (new new' : Option C) → Starts fresh slots old code new → Starts fresh slots old code' new' → ((code ≡ numbers.NO_MEMORY) ↔ (code' ≡ numbers.NO_MEMORY)) → (code' ≡ code) × (new' ≡ new)
one_core fresh slots None code code' new new' x y same = started fresh slots (is_slot_count slots) code code' new new' x y same
one_core fresh slots (Some c) code code' new new' x y same = (y.0 ∙ sym x.0, y.1 ∙ sym x.1)

marked : (r : Bool) → ((if r then numbers.MARK_RESPONSE else numbers.MARK_NONE) == numbers.MARK_RESPONSE) ≡ r
marked true = refl
marked false = refl

pub heard : (at : ℕ) (h : Header) → is_stream h.stream ≡ true → signal_in (of_frame at h) ≡ Some (signal_of h)
heard at h is = rw is (rw (code_conforms h.opcode) (rw (marked h.response) refl))

pushed_by : (l f : ℕ) (h : Header) (c : ClientCore) (compressed long : Bool) → (if compressed then Err bad.Compressed else (if long then Err bad.Length else Ok (header_of (event_fields l f) opcode.Event))) ≡ Ok h → reply_to c (signal_of h) ≡ Ok reply.ServerEvent
pushed_by l f h c true long is = absurd cc
pushed_by l f h c false true is = absurd cc
pushed_by l f h c false false is = let same : header_of (event_fields l f) opcode.Event ≡ h = cc in subst (λ (z : Header). reply_to c (signal_of z) ≡ Ok reply.ServerEvent) same refl

pub pushed : (l f : ℕ) (h : Header) (c : ClientCore) → header_in (event_fields l f) ≡ Ok h → reply_to c (signal_of h) ≡ Ok reply.ServerEvent
pushed l f h c is = pushed_by l f h c (has f 0x01) (nat_lt LONGEST_BODY l) is
