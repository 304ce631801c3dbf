-- The numbers that C gets, one by one. Programs that were compiled with them keep them, so none ever changes.
use Rattle.std.specs.Prelude.{◌≡◌, ℕ, zero, suc, List, [], ◌∷◌}
use Rattle.cqlp_c.specs.declared.numbers.TheConstants as n

-- so many numbers one after the other, from the first on
abbrev pub counted : (first count : ℕ) → List ℕ
counted i zero = []
counted i (suc k) = i ∷ counted (suc i) k

-- what a call answers, from 0 on
abbrev pub codes : List ℕ
codes =
    n.DONE ∷ n.BAD_TEXT ∷ n.BAD_CELL ∷ n.BAD_ENTRIES ∷ n.BAD_DEPTH ∷ n.NO_MEMORY ∷ n.NO_DECODER ∷ n.IN_USE ∷ n.NO_CLIENT ∷ n.BAD_SLOTS ∷
    n.NO_REQUEST ∷ n.BAD_PHASE ∷ n.SPENT ∷ n.FULL ∷ n.NO_FRAME ∷ n.NOT_RESPONSE ∷ n.NO_SUCH_STREAM ∷ n.WRONG_OPCODE ∷ n.NOT_CANCELLED ∷
    n.COMPRESSED ∷ n.BAD_OPCODE ∷ n.BAD_DIRECTION ∷ n.BAD_LENGTH ∷ n.NO_SERVER ∷ n.NOT_REQUEST ∷ n.BAD_ID ∷ n.ID_TAKEN ∷ n.NO_ROOM ∷ n.NO_TYPES ∷
    n.ENDED ∷ n.OFF ∷ n.BUSY ∷ n.OPEN ∷ n.TOO_MANY ∷ n.TOO_DEEP ∷ n.NOT_REFUSED ∷ n.IN_HEADER ∷ n.TOO_FAR ∷ n.NO_EVENT ∷ n.MISPLACED ∷ n.UNBUILT ∷
    n.TOO_MANY_FIELDS ∷ n.TOO_MANY_BYTES ∷ n.LEFT_OVER ∷ n.NO_SUCH_FRAME ∷ n.NO_PAGE ∷ n.NO_ROWS ∷ n.NOT_PAGE ∷ n.TOO_MANY_ROWS ∷ n.BAD_SIZE ∷
    n.PAST_SIZE ∷ n.NOT_ENDED ∷ n.NO_TYPE ∷ n.NO_VALUE ∷ n.CELLS_MISSING ∷ n.BYTES_MISSING ∷ []

-- what a call on columns answers beside that, from 60 on
abbrev pub codes_of_columns : List ℕ
codes_of_columns =
    n.TOO_MANY_COLUMNS ∷ n.BAD_KIND ∷ n.UNSUPPORTED ∷ n.NO_COLUMNS ∷ n.NO_COLUMN ∷ []

-- why a batch ends, from 0 on
abbrev pub stops : List ℕ
stops =
    n.STOP_MORE ∷ n.STOP_FULL ∷ n.STOP_REFUSED ∷ []

-- how a stream ends, from 0 on
abbrev pub ends : List ℕ
ends =
    n.END_WHOLE ∷ n.END_CUT ∷ n.END_REFUSED ∷ []

-- what an event is, from 1 on
abbrev pub tags : List ℕ
tags =
    n.TAG_FRAME ∷ n.TAG_BYTE ∷ n.TAG_SHORT ∷ n.TAG_INT ∷ n.TAG_LONG ∷ n.TAG_UUID ∷ n.TAG_COUNT ∷ n.TAG_TEXT ∷ n.TAG_BYTES ∷ n.TAG_BOUND ∷
    n.TAG_INET ∷ n.TAG_TYPE_NODE ∷ n.TAG_LEAF ∷ n.TAG_NULL ∷ n.TAG_EMPTY ∷ n.TAG_ENTER ∷ n.TAG_LEAVE ∷ n.TAG_PART ∷ n.TAG_END ∷ []

-- what a tag leaves open, from 0 on
abbrev pub marks : List ℕ
marks =
    n.MARK_NONE ∷ n.MARK_RESPONSE ∷ n.MARK_NULL ∷ n.MARK_UNSET ∷ n.MARK_LAST ∷ []

-- the fields of messages, from 1 on
abbrev pub fields : List ℕ
fields =
    n.FIELD_TRACE_ID ∷ n.FIELD_WARNINGS ∷ n.FIELD_WARNING ∷ n.FIELD_PAYLOAD_ITEMS ∷ n.FIELD_PAYLOAD_KEY ∷ n.FIELD_PAYLOAD_VALUE ∷ n.FIELD_OPTIONS ∷
    n.FIELD_OPTION_KEY ∷ n.FIELD_OPTION_VALUE ∷ n.FIELD_OPTION_VALUES ∷ n.FIELD_QUERY ∷ n.FIELD_STATEMENT_ID ∷ n.FIELD_EVENT_TYPES ∷
    n.FIELD_EVENT_TYPE ∷ n.FIELD_TOKEN ∷ n.FIELD_BATCH_TYPE ∷ n.FIELD_ENTRIES ∷ n.FIELD_ENTRY_KIND ∷ n.FIELD_CONSISTENCY ∷ n.FIELD_BATCH_FLAGS ∷
    n.FIELD_SERIAL_CONSISTENCY ∷ n.FIELD_TIMESTAMP ∷ n.FIELD_QUERY_FLAGS ∷ n.FIELD_VALUES ∷ n.FIELD_VALUE_NAME ∷ n.FIELD_VALUE ∷ n.FIELD_PAGE_SIZE ∷
    n.FIELD_PAGING_STATE ∷ n.FIELD_CLASS ∷ n.FIELD_ERROR_CODE ∷ n.FIELD_MESSAGE ∷ n.FIELD_REQUIRED ∷ n.FIELD_ALIVE ∷ n.FIELD_RECEIVED ∷
    n.FIELD_BLOCK_FOR ∷ n.FIELD_WRITE_TYPE ∷ n.FIELD_DATA_PRESENT ∷ n.FIELD_FAILURES ∷ n.FIELD_KEYSPACE ∷ n.FIELD_NAME ∷ n.FIELD_ARGUMENTS ∷
    n.FIELD_ARGUMENT ∷ n.FIELD_TABLE ∷ n.FIELD_RESULT_KIND ∷ n.FIELD_ROWS ∷ n.FIELD_META_FLAGS ∷ n.FIELD_COLUMNS ∷ n.FIELD_KEYS ∷ n.FIELD_KEY_INDEX ∷
    n.FIELD_COLUMN_NAME ∷ n.FIELD_CHANGE ∷ n.FIELD_TARGET ∷ n.FIELD_ADDRESS ∷ n.FIELD_TYPE_NAME ∷ n.FIELD_FIELDS ∷ n.FIELD_FIELD_NAME ∷ []

-- why a stream is refused, from 1 on
abbrev pub reasons : List ℕ
reasons =
    n.REASON_BAD_VERSION ∷ n.REASON_COMPRESSED ∷ n.REASON_BAD_OPCODE ∷ n.REASON_BAD_DIRECTION ∷ n.REASON_BAD_LENGTH ∷ n.REASON_OVERRUN ∷
    n.REASON_TOO_LONG ∷ n.REASON_BAD_UTF8 ∷ n.REASON_BAD_VALUE_LENGTH ∷ n.REASON_BAD_INET ∷ n.REASON_BAD_COUNT ∷ n.REASON_BAD_TYPE ∷
    n.REASON_TOO_DEEP ∷ n.REASON_TOO_MANY ∷ n.REASON_BAD_BATCH_KIND ∷ n.REASON_BAD_BATCH_FLAGS ∷ n.REASON_BAD_SIZE ∷ n.REASON_BAD_SCALAR ∷
    n.REASON_EXTRA_IN_VALUE ∷ n.REASON_STREAM_TOO_LONG ∷ []

-- how far a connection is set up, from 1 on
abbrev pub phases : List ℕ
phases =
    n.PHASE_FRESH ∷ n.PHASE_OPENING ∷ n.PHASE_CHALLENGED ∷ n.PHASE_READY ∷ n.PHASE_FAILED ∷ []

-- what a response is, from 1 on
abbrev pub replies : List ℕ
replies =
    n.REPLY_EVENT ∷ n.REPLY_ANSWER ∷ n.REPLY_DROPPED ∷ []

-- the opcodes, whose numbers are the standard's (section 2.4 of native_protocol_v4.spec)
abbrev pub opcodes : List ℕ
opcodes =
    n.OPCODE_ERROR ∷ n.OPCODE_STARTUP ∷ n.OPCODE_READY ∷ n.OPCODE_AUTHENTICATE ∷ n.OPCODE_OPTIONS ∷ n.OPCODE_SUPPORTED ∷ n.OPCODE_QUERY ∷
    n.OPCODE_RESULT ∷ n.OPCODE_PREPARE ∷ n.OPCODE_EXECUTE ∷ n.OPCODE_REGISTER ∷ n.OPCODE_EVENT ∷ n.OPCODE_BATCH ∷ n.OPCODE_AUTH_CHALLENGE ∷
    n.OPCODE_AUTH_RESPONSE ∷ n.OPCODE_AUTH_SUCCESS ∷ []

abbrev pub opcodes_ids : List ℕ
opcodes_ids =
    0x00 ∷ 0x01 ∷ 0x02 ∷ 0x03 ∷ 0x05 ∷ 0x06 ∷ 0x07 ∷ 0x08 ∷ 0x09 ∷ 0x0A ∷ 0x0B ∷ 0x0C ∷ 0x0D ∷ 0x0E ∷ 0x0F ∷ 0x10 ∷ []

-- the kinds of types, whose numbers are the ids of their options (section 4.2.5.2), and that of a cell whose type is not known
abbrev pub kinds : List ℕ
kinds =
    n.KIND_CUSTOM ∷ n.KIND_ASCII ∷ n.KIND_BIGINT ∷ n.KIND_BLOB ∷ n.KIND_BOOLEAN ∷ n.KIND_COUNTER ∷ n.KIND_DECIMAL ∷ n.KIND_DOUBLE ∷ n.KIND_FLOAT ∷
    n.KIND_INT ∷ n.KIND_TIMESTAMP ∷ n.KIND_UUID ∷ n.KIND_VARCHAR ∷ n.KIND_VARINT ∷ n.KIND_TIMEUUID ∷ n.KIND_INET ∷ n.KIND_DATE ∷ n.KIND_TIME ∷
    n.KIND_SMALLINT ∷ n.KIND_TINYINT ∷ n.KIND_LIST ∷ n.KIND_MAP ∷ n.KIND_SET ∷ n.KIND_UDT ∷ n.KIND_TUPLE ∷ n.KIND_RAW ∷ []

abbrev pub kinds_ids : List ℕ
kinds_ids =
    0x00 ∷ 0x01 ∷ 0x02 ∷ 0x03 ∷ 0x04 ∷ 0x05 ∷ 0x06 ∷ 0x07 ∷ 0x08 ∷ 0x09 ∷ 0x0B ∷ 0x0C ∷ 0x0D ∷ 0x0E ∷ 0x0F ∷ 0x10 ∷ 0x11 ∷ 0x12 ∷ 0x13 ∷ 0x14 ∷
    0x20 ∷ 0x21 ∷ 0x22 ∷ 0x30 ∷ 0x31 ∷ 0xFF ∷ []

-- what each number is
pub record ArePromised : Type 0 where
  pub of_codes : codes ≡ counted 0 56
  pub of_codes_of_columns : codes_of_columns ≡ counted 60 5
  pub of_stops : stops ≡ counted 0 3
  pub of_ends : ends ≡ counted 0 3
  pub of_tags : tags ≡ counted 1 19
  pub of_marks : marks ≡ counted 0 5
  pub of_fields : fields ≡ counted 1 56
  pub of_reasons : reasons ≡ counted 1 20
  pub of_phases : phases ≡ counted 1 5
  pub of_replies : replies ≡ counted 1 3
  pub of_opcodes : opcodes ≡ opcodes_ids
  pub of_kinds : kinds ≡ kinds_ids
