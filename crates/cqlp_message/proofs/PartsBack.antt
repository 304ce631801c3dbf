-- Parts that come of the symbols of a header are those of a frame value, which agrees with what it announces.
use Rattle.std.proofs.Common.{◌≡◌, ℕ, zero, suc, ℤ, pos, Bool, true, false, ◌&&◌, ◌||◌, not, List, [], ◌∷◌, ◌++◌, Option, Some, None, refl, sym, ap, ◌∙◌, append_assoc, arith, inl, inr}
use Rattle.std.specs.Prelude.{FitsSigned, is_some, ◌==◌, if◌then◌else◌}
use Rattle.std.specs.Int.{w32, cast_signed}
use Rattle.std.proofs.lemmas.Bool.{eqb-true, lt-ltb}
use Rattle.std.proofs.lemmas.Int.{to_z-of_z}
use Rattle.std.proofs.lemmas.List.{append-nil}
use Rattle.cqlp_note.specs.declared.field.Field.TheVariants as field
use Rattle.cqlp_note.specs.declared.field.Notation.TheVariants as notation
use Rattle.cqlp_note.specs.declared.header.Header.{Header}
use Rattle.cqlp_note.specs.declared.opcode.Opcode.{Opcode}
use Rattle.cqlp_note.specs.declared.opcode.Opcode.TheVariants as opcode
use Rattle.cqlp_note.specs.Field as note
use Rattle.cqlp_note.specs.Heading.{has, answers, beside_number}
use Rattle.cqlp_note.specs.Limits.{Rules}
use Rattle.cqlp_kind.specs.Types.{Types}
use Rattle.cqlp_grammar.specs.declared.grammar.Group.TheVariants as group_of
use Rattle.cqlp_grammar.specs.declared.grammar.Role.TheVariants as role
use Rattle.cqlp_message.specs.FrameValues.{Octets, Message, Void, SetKeyspace, Rows, Prepared, Change, UnknownResult, FrameValue}
use Rattle.cqlp_grammar.specs.Productions.{Symbol, In, Extra, body, results, or_nothing, announced, message, payload, counted, plain, where_set}
use Rattle.cqlp_grammar.specs.Productions as productions
use Rattle.cqlp_message.specs.Parts.{Part, Field_is, Type_is, Cell_is}
use Rattle.cqlp_message.specs.Bodies.{message_parts, int, text, texts, bytes, where_some}
use Rattle.cqlp_message.specs.Bodies as bodies
use Rattle.cqlp_message.specs.Agreement.{there_if, bits, is_no_result, is_response, is_directed, frame_agrees, has_its_cells}
use Rattle.cqlp_message.specs.Frames.{frame_parts, header_of, TypesWithin}
use Rattle.cqlp_message.proofs.Derives.{Derives}
use Rattle.cqlp_message.proofs.Gives.{AreSound, Gives, Back, IsOf, take, sure, any, decided, by_number, field_back, int_view, uuid_back, text_back, bytes_back, other_back, none_back, pair_back, counted_back, texts_back, where_back, or_right}
use Rattle.cqlp_message.proofs.RequestsBack.{startup_back, options_back, query_message_back, prepare_back, execute_back, batch_back, register_back, auth_response_back}
use Rattle.cqlp_message.proofs.ResponsesBack.{error_back, change_back, event_back, ready_back, authenticate_back, supported_back, auth_challenge_back, auth_success_back}
use Rattle.cqlp_message.proofs.TypesBack.{page_back, prepared_back}

-- ---- messages

-- the parts are those of a message with this opcode
pub record IsMessage (l : Rules) (o : Opcode) (ps : List Part) : Type 0 where
  pub message : Message
  pub parts : ps ≡ message_parts message
  pub is : IsOf l o message

-- of the end of a message comes nothing
ended : (l : Rules) (ps : List Part) (described : Types) → Derives l ps (Extra ∷ []) described → ps ≡ []
ended l [] described d = refl
ended l (Field_is f n v ∷ ps) described d = absurd d
ended l (Type_is t ∷ ps) described d = absurd d
ended l (Cell_is row column k inner v ∷ ps) described d = absurd d

-- an item whose parts are all
all_parts : (l : Rules) {A : Type 0} (h : A → List Part) (P : A → Type 0) (described : A → Types) (ps : List Part) (x : Gives l A h P described (λ a. Extra ∷ []) ps) → ps ≡ h x.item
all_parts l h P described ps x = x.whole ∙ ap (λ t. h x.item ++ t) (ended l x.left (described x.item) x.derives) ∙ append-nil (h x.item)

of_back : {l : Rules} {o : Opcode} {ss : List Symbol} → Back l Message message_parts (IsOf l o) ss → (ps : List Part) (described : Types) → AreSound ps → Derives l ps (ss ++ Extra ∷ []) described → IsMessage l o ps
of_back {l} {o} b ps described s d =
    let x = b.run ps (Extra ∷ []) described s d in
    record { message = x.item; parts = all_parts l message_parts (IsOf l o) (λ m. described) ps x; is = x.holds }

-- ---- results

no_kind : (n : ℕ) → beside_number n results ≡ None → (n == 1) ≡ false → is_no_result n ≡ true
no_kind zero none other = refl
no_kind (suc zero) none other = absurd cc
no_kind (suc (suc zero)) none other = absurd cc
no_kind (suc (suc (suc zero))) none other = absurd cc
no_kind (suc (suc (suc (suc zero)))) none other = absurd cc
no_kind (suc (suc (suc (suc (suc zero))))) none other = absurd cc
no_kind (suc (suc (suc (suc (suc (suc n)))))) none other = or_right _ _ (lt-ltb 5 (suc (suc (suc (suc (suc (suc n)))))) (omega arith))

-- the kind of a result by its bits
kind_is : (z : ℤ) (k : ℕ) → FitsSigned w32 z → (bits z == k) ≡ true → z ≡ cast_signed w32 k
kind_is z k fits is = sym (to_z-of_z w32 z fits) ∙ ap (cast_signed w32) (eqb-true (bits z) k is)

with_kind : (z y : ℤ) (qs ps : List Part) → z ≡ y → qs ≡ ps → int field.ResultKind z ∷ qs ≡ int field.ResultKind y ∷ ps
with_kind z y qs ps a b = ap (λ k. int field.ResultKind k ∷ qs) a ∙ ap (λ t. int field.ResultKind y ∷ t) b

abbrev Beside : (l : Rules) (z : ℤ) (qs : List Part) (described : Types) → Option (List Symbol) → Type 0
Beside l z qs described o = (beside_number (bits z) results ≡ o) × Derives l qs (or_nothing o ++ Extra ∷ []) described

abbrev IsResult : (l : Rules) (z : ℤ) (qs : List Part) → Type 0
IsResult l z qs = IsMessage l opcode.Result (int field.ResultKind z ∷ qs)

module _ (l : Rules) (z : ℤ) (qs : List Part) (described : Types) (fits : FitsSigned w32 z) (s : AreSound qs) where
  rows_back : (bits z == 2) ≡ true → Beside l z qs described (Some (In field.MetaFlags notation.Int (role.MetaFlags true) ∷ [])) → IsResult l z qs
  rows_back is d =
      let x = page_back l qs (Extra ∷ []) described s d.1 in
      record { message = Rows x.item; parts = with_kind z (pos 2) _ _ (kind_is z 2 fits is) (all_parts l _ _ _ qs x); is = record { opcode = refl; agrees = x.holds.0; cells = x.holds.2; types = x.holds.1 } }

  keyspace_back : (bits z == 3) ≡ true → Beside l z qs described (Some (plain field.Keyspace notation.Text16 ∷ [])) → IsResult l z qs
  keyspace_back is d =
      let x = (text_back {l = l} field.Keyspace).run qs (Extra ∷ []) described s d.1 in
      record { message = SetKeyspace x.item; parts = with_kind z (pos 3) _ _ (kind_is z 3 fits is) (all_parts l _ _ _ qs x); is = record { opcode = refl; agrees = refl; cells = refl; types = tt } }

  statement_back : (bits z == 4) ≡ true → Beside l z qs described (Some (plain field.StatementId notation.Bytes16 ∷ In field.MetaFlags notation.Int role.PreparedFlags ∷ [])) → IsResult l z qs
  statement_back is d =
      let x = prepared_back l qs (Extra ∷ []) described s d.1 in
      record { message = Prepared x.item; parts = with_kind z (pos 4) _ _ (kind_is z 4 fits is) (all_parts l _ _ _ qs x); is = record { opcode = refl; agrees = x.holds.0; cells = refl; types = (x.holds.1, x.holds.2) } }

  changed_back : (bits z == 5) ≡ true → Beside l z qs described (Some productions.schema_change) → IsResult l z qs
  changed_back is d =
      let x = (change_back {l = l}).run qs (Extra ∷ []) described s d.1 in
      record { message = Change x.item; parts = with_kind z (pos 5) _ _ (kind_is z 5 fits is) (all_parts l _ _ _ qs x); is = record { opcode = refl; agrees = x.holds; cells = refl; types = tt } }

  other_kind : Beside l z qs described None → IsResult l z qs
  other_kind d = elim (decided (bits z == 1)) [
    | inl is ↦ record { message = Void; parts = with_kind z (pos 1) _ _ (kind_is z 1 fits is) (ended l qs described d.1); is = record { opcode = refl; agrees = refl; cells = refl; types = tt } }
    | inr is ↦ record { message = UnknownResult z; parts = with_kind z z _ _ refl (ended l qs described d.1); is = record { opcode = refl; agrees = no_kind (bits z) d.0 is; cells = refl; types = tt } }
  ]

  of_kind : Derives l qs (or_nothing (beside_number (bits z) results) ++ Extra ∷ []) described → IsResult l z qs
  of_kind d = by_number (bits z) results (Beside l z qs described) (IsResult l z qs) (refl, d) (rows_back, (keyspace_back, (statement_back, (changed_back, other_kind))))

result_back : (l : Rules) (ps : List Part) (described : Types) → AreSound ps → Derives l ps (body opcode.Result ++ Extra ∷ []) described → IsMessage l opcode.Result ps
result_back l ps described s d =
    take (IsMessage l opcode.Result) ps (field_back l notation.Int note.Int int_view field.ResultKind role.ResultKind ps (Extra ∷ []) described s d) λ z qs p s d. of_kind l z qs described p.1 s d

-- The parts that come of an opcode's body are those of a message with the opcode.
pub message_back : (l : Rules) (o : Opcode) (ps : List Part) (described : Types) → AreSound ps → Derives l ps (body o ++ Extra ∷ []) described → IsMessage l o ps
message_back l opcode.Error = of_back error_back
message_back l opcode.Startup = of_back startup_back
message_back l opcode.Ready = of_back ready_back
message_back l opcode.Authenticate = of_back authenticate_back
message_back l opcode.Options = of_back options_back
message_back l opcode.Supported = of_back supported_back
message_back l opcode.Query = of_back query_message_back
message_back l opcode.Result = result_back l
message_back l opcode.Prepare = of_back prepare_back
message_back l opcode.Execute = of_back execute_back
message_back l opcode.Register = of_back register_back
message_back l opcode.Event = of_back event_back
message_back l opcode.Batch = of_back batch_back
message_back l opcode.AuthChallenge = of_back auth_challenge_back
message_back l opcode.AuthResponse = of_back auth_response_back
message_back l opcode.AuthSuccess = of_back auth_success_back

-- ---- frames

abbrev tracing_parts : Option Octets → List Part
tracing_parts o = where_some (λ id. Field_is field.TraceId notation.Uuid (note.Uuid id) ∷ []) o

abbrev warnings_parts : Option (List Octets) → List Part
warnings_parts o = where_some (texts field.Warnings field.Warning) o

abbrev payload_parts : Option (List (Octets × Option Octets)) → List Part
payload_parts o = where_some (bodies.counted field.PayloadItems (λ i. text field.PayloadKey i.0 ∷ bytes field.PayloadValue i.1 ∷ [])) o

before_back : {l : Rules} (response : Bool) (flags : ℕ)
    → Back l (Option Octets × Option (List Octets)) (λ p. tracing_parts p.0 ++ warnings_parts p.1) (λ p. (there_if (response && has flags 0x02) p.0 ≡ true) × (there_if (response && has flags 0x08) p.1 ≡ true))
    (if response then where_set flags 0x02 (plain field.TraceId notation.Uuid ∷ []) ++ where_set flags 0x08 (counted field.Warnings group_of.Warnings ∷ []) else [])
before_back true flags = other_back _ _ (λ p. p) (λ p q. refl) (λ p q. (q.0.0, q.1.0)) (pair_back (where_back (uuid_back field.TraceId) flags 0x02) (where_back (texts_back field.Warnings field.Warning group_of.Warnings refl) flags 0x08))
before_back false flags = none_back _ _ (None, None) refl (refl, refl)

payload_back : {l : Rules} → Back l (List (Octets × Option Octets)) (bodies.counted field.PayloadItems (λ i. text field.PayloadKey i.0 ∷ bytes field.PayloadValue i.1 ∷ [])) sure payload
payload_back = other_back _ _ (λ p. p) (λ p q. refl) (λ p q. refl)
    (counted_back any field.PayloadItems group_of.PayloadItems (other_back _ _ (λ p. p) (λ p q. refl) (λ p q. refl) (pair_back (text_back field.PayloadKey) (bytes_back field.PayloadValue))))

abbrev Before : Type 0
Before = (Option Octets × Option (List Octets)) × Option (List (Octets × Option Octets))

abbrev IsBefore : (h : Header) → Before → Type 0
IsBefore h p = (there_if (h.response && has h.flags 0x02) p.0.0 ≡ true) × (there_if (h.response && has h.flags 0x08) p.0.1 ≡ true) × (there_if (has h.flags 0x04) p.1 ≡ true)

announced_back : {l : Rules} (h : Header) → Back l Before (λ p. (tracing_parts p.0.0 ++ warnings_parts p.0.1) ++ payload_parts p.1) (IsBefore h) (announced h)
announced_back h = other_back _ _ (λ p. p) (λ p q. refl) (λ p q. (q.0.0, q.0.1, q.1.0)) (pair_back (before_back h.response h.flags) (where_back payload_back h.flags 0x04))

five_agree : (a b c d e : Bool) → a ≡ false → b ≡ true → c ≡ true → d ≡ true → e ≡ true → (not a && b && c && d && e) ≡ true
five_agree a b c d e p q r s t = rw (p, q, r, s, t) refl

-- a request has neither a tracing id nor warnings
directed : {A B : Type 0} (r b c : Bool) (t : Option A) (w : Option B) → there_if (r && b) t ≡ true → there_if (r && c) w ≡ true → (r || (not (is_some t) && not (is_some w))) ≡ true
directed true b c t w p q = refl
directed false b c None None p q = refl
directed false b c None (Some w) p q = absurd cc
directed false b c (Some t) w p q = absurd cc

-- The parts are those of a frame with this header.
pub record IsFrame (l : Rules) (h : Header) (ps : List Part) : Type 0 where
  pub frame : FrameValue
  pub parts : frame_parts frame ≡ ps
  pub header : header_of frame h.length ≡ h
  pub agrees : frame_agrees frame ≡ true
  pub directed : is_directed frame ≡ true
  pub cells : has_its_cells frame.message ≡ true
  pub types : TypesWithin l frame.message

framed : (l : Rules) (h : Header) (ps : List Part) → has h.flags 0x01 ≡ false → answers h.opcode ≡ h.response → (p : Before) → IsBefore h p → (qs : List Part) → IsMessage l h.opcode qs
    → ps ≡ ((tracing_parts p.0.0 ++ warnings_parts p.0.1) ++ payload_parts p.1) ++ qs → IsFrame l h ps
framed l h ps plain direction p b qs m whole =
    let way : is_response m.message ≡ h.response = ap answers m.is.opcode ∙ direction in
    let tracing : there_if (is_response m.message && has h.flags 0x02) p.0.0 ≡ true = ap (λ r. there_if (r && has h.flags 0x02) p.0.0) way ∙ b.0 in
    let warnings : there_if (is_response m.message && has h.flags 0x08) p.0.1 ≡ true = ap (λ r. there_if (r && has h.flags 0x08) p.0.1) way ∙ b.1 in
    record {
      frame = record { flags = h.flags; stream = h.stream; tracing = p.0.0; warnings = p.0.1; payload = p.1; message = m.message };
      parts = ap (λ t. ((tracing_parts p.0.0 ++ warnings_parts p.0.1) ++ payload_parts p.1) ++ t) (sym m.parts) ∙ sym whole;
      header = rw (way, m.is.opcode) refl;
      agrees = five_agree _ _ _ _ _ plain tracing warnings b.2 m.is.agrees;
      directed = directed (is_response m.message) _ _ p.0.0 p.0.1 tracing warnings;
      cells = m.is.cells;
      types = m.is.types;
    }

-- The parts that come of the symbols of a lawful header are those of a frame with the header.
pub frame_back : (l : Rules) (h : Header) (ps : List Part) (described : Types) → has h.flags 0x01 ≡ false → answers h.opcode ≡ h.response → AreSound ps → Derives l ps (message h) described → IsFrame l h ps
frame_back l h ps described plain direction s d =
    let x = (announced_back {l = l} h).run ps (body h.opcode ++ Extra ∷ []) described s (rw (append_assoc (announced h) (body h.opcode) (Extra ∷ [])) at d) in
    framed l h ps plain direction x.item x.holds x.left (message_back l h.opcode x.left described x.sound x.derives) x.whole
