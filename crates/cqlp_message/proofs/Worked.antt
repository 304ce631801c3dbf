-- Worked frames: bytes that spell them, and their events.
use Rattle.std.proofs.Common.{◌≡◌, ◌-◌, ◌^◌, pos, negsuc, [], ◌∷◌, false, true, refl, lit≤, lit<}
use Rattle.std.specs.Prelude.{List, ℕ, Some, None, codes}
use Rattle.std.specs.Str.{is_utf8, chars}
use lib.Utf8.{encode}
use Rattle.cqlp_note.specs.declared.field.Field.TheVariants as field
use Rattle.cqlp_note.specs.declared.opcode.Opcode.TheVariants as opcode
use Rattle.cqlp_note.specs.declared.prim.Address.TheVariants as address
use Rattle.cqlp_note.specs.Field as note
use Rattle.cqlp_note.specs.Limits.{Rules}
use Rattle.cqlp_note.specs.Spelling.{Spells}
use Rattle.cqlp_kind.specs.declared.kind.Kind.TheVariants as kind
use Rattle.cqlp_type.specs.Trees.{Trees, NoTree, Tree_and, ListOf}
use Rattle.cqlp_type.specs.Trees.{Plain as PlainType}
use Rattle.cqlp_kind.specs.CellStep as cell
use Rattle.cqlp_kind.specs.Scalars as scalar
use Rattle.cqlp_kind.specs.Scalars.{scalar_of}
use Rattle.cqlp_value.specs.Values.{Values, NoValue, Null_and, Empty_and, Scalar_and, Counted_and}
use Rattle.cqlp_message.specs.FrameValues.{FrameValue, Options, Query, Error, Void, Rows, Prepared, Event}
use Rattle.cqlp_message.specs.FrameValues as value
use Rattle.cqlp_grammar.specs.Events as model
use Rattle.cqlp_message.specs.Frames.{FrameSpells, frame_bytes, Flat, IsWithin}

abbrev limits : Rules
limits = record { text = 32; cell = 32; entries = 2; depth = 2; part = 32; types = true; parts = true; lenient = false }

-- ---- a request for the supported options

abbrev options_request : FrameValue
options_request = record { flags = 0; stream = pos 0; tracing = None; warnings = None; payload = None; message = Options }

options_request_spelled : FrameSpells options_request 0 (4 ∷ 0 ∷ 0 ∷ 0 ∷ 5 ∷ 0 ∷ 0 ∷ 0 ∷ 0 ∷ [])
options_request_spelled = record {
  announced = [];
  body = [];
  extra = [];
  agrees = refl;
  cells = refl;
  parts = refl;
  message = refl;
  more = refl;
  lawful = record { plain = refl; direction = refl; bounded = lit≤ tt };
  whole = refl;
}

options_request_flat : Flat limits 0 options_request 0 ≡ (0, model.Frame (record { response = false; flags = 0; stream = pos 0; opcode = opcode.Options; length = 0 })) ∷ (9, model.End 0) ∷ []
options_request_flat = refl

-- ---- a query with a value that is not set

abbrev query_request : FrameValue
query_request = record {
  flags = 0;
  stream = pos 0;
  tracing = None;
  warnings = None;
  payload = None;
  message = Query (codes "q") (record { consistency = 1; flags = 1; values = Some ((None, note.Unset) ∷ []); page_size = None; paging = None; serial = None; timestamp = None });
}

query_request_spelled : FrameSpells query_request 0 (4 ∷ 0 ∷ 0 ∷ 0 ∷ 7 ∷ 0 ∷ 0 ∷ 0 ∷ 14 ∷ 0 ∷ 0 ∷ 0 ∷ 1 ∷ 0x71 ∷ 0 ∷ 1 ∷ 1 ∷ 0 ∷ 1 ∷ 255 ∷ 255 ∷ 255 ∷ 254 ∷ [])
unfolding Spells is_utf8 chars encode
query_request_spelled = record {
  announced = [];
  body = 0 ∷ 0 ∷ 0 ∷ 1 ∷ 0x71 ∷ 0 ∷ 1 ∷ 1 ∷ 0 ∷ 1 ∷ 255 ∷ 255 ∷ 255 ∷ 254 ∷ [];
  extra = [];
  agrees = refl;
  cells = refl;
  parts = refl;
  message =
      record {
        front = 0 ∷ 0 ∷ 0 ∷ 1 ∷ 0x71 ∷ [];
        back = 0 ∷ 1 ∷ 1 ∷ 0 ∷ 1 ∷ 255 ∷ 255 ∷ 255 ∷ 254 ∷ [];
        whole = refl;
        this = (record { head = 0 ∷ 0 ∷ 0 ∷ 1 ∷ []; counts = record { long = refl; is = refl }; parts = refl }, lit< tt, refl);
        that = record {
          front = 0 ∷ 1 ∷ [];
          back = 1 ∷ 0 ∷ 1 ∷ 255 ∷ 255 ∷ 255 ∷ 254 ∷ [];
          whole = refl;
          this = record { long = refl; is = refl };
          that = record {
            front = 1 ∷ [];
            back = 0 ∷ 1 ∷ 255 ∷ 255 ∷ 255 ∷ 254 ∷ [];
            whole = refl;
            this = record { long = refl; is = refl };
            that = record {
              front = 0 ∷ 1 ∷ [];
              back = 255 ∷ 255 ∷ 255 ∷ 254 ∷ [];
              whole = refl;
              this = record { long = refl; is = refl };
              that = record { front = 255 ∷ 255 ∷ 255 ∷ 254 ∷ []; back = []; whole = refl; this = record { long = refl; is = refl }; that = refl };
            };
          };
        };
      };
  more = refl;
  lawful = record { plain = refl; direction = refl; bounded = lit≤ tt };
  whole = refl;
}

query_request_flat : Flat limits 0 query_request 0 ≡
    (0, model.Frame (record { response = false; flags = 0; stream = pos 0; opcode = opcode.Query; length = 14 }))
    ∷ (9, model.Holds field.Query (note.Text (codes "q"))) ∷ (14, model.Holds field.Consistency (note.Short 1)) ∷ (16, model.Holds field.QueryFlags (note.Byte 1))
    ∷ (17, model.Holds field.Values (note.Count 1)) ∷ (19, model.Holds field.Value (note.Bound note.Unset)) ∷ (23, model.End 0) ∷ []
query_request_flat = refl

-- ---- the parts before a message, in their order

abbrev announced_response : FrameValue
announced_response = record {
  flags = 14;
  stream = pos 1;
  tracing = Some (0 ∷ 1 ∷ 2 ∷ 3 ∷ 4 ∷ 5 ∷ 6 ∷ 7 ∷ 8 ∷ 9 ∷ 10 ∷ 11 ∷ 12 ∷ 13 ∷ 14 ∷ 15 ∷ []);
  warnings = Some (codes "w" ∷ []);
  payload = Some ((codes "k", Some (255 ∷ [])) ∷ []);
  message = Void;
}

announced_response_flat : Flat limits 0 announced_response 0 ≡
    (0, model.Frame (record { response = true; flags = 14; stream = pos 1; opcode = opcode.Result; length = 35 }))
    ∷ (9, model.Holds field.TraceId (note.Uuid (0 ∷ 1 ∷ 2 ∷ 3 ∷ 4 ∷ 5 ∷ 6 ∷ 7 ∷ 8 ∷ 9 ∷ 10 ∷ 11 ∷ 12 ∷ 13 ∷ 14 ∷ 15 ∷ [])))
    ∷ (25, model.Holds field.Warnings (note.Count 1)) ∷ (27, model.Holds field.Warning (note.Text (codes "w")))
    ∷ (30, model.Holds field.PayloadItems (note.Count 1)) ∷ (32, model.Holds field.PayloadKey (note.Text (codes "k"))) ∷ (35, model.Holds field.PayloadValue (note.Bytes (Some (255 ∷ []))))
    ∷ (40, model.Holds field.ResultKind (note.Int (pos 1))) ∷ (44, model.End 0) ∷ []
announced_response_flat = refl

-- ---- an error of an unknown code, and three bytes more

abbrev unknown_error : FrameValue
unknown_error = record { flags = 0; stream = pos 0; tracing = None; warnings = None; payload = None; message = Error (pos 0x4321) (codes "x") value.Plain }

unknown_error_spelled : FrameSpells unknown_error 3 (0x84 ∷ 0 ∷ 0 ∷ 0 ∷ 0 ∷ 0 ∷ 0 ∷ 0 ∷ 10 ∷ 0 ∷ 0 ∷ 0x43 ∷ 0x21 ∷ 0 ∷ 1 ∷ 0x78 ∷ 0xAA ∷ 0xBB ∷ 0xCC ∷ [])
unfolding Spells is_utf8 chars encode
unknown_error_spelled = record {
  announced = [];
  body = 0 ∷ 0 ∷ 0x43 ∷ 0x21 ∷ 0 ∷ 1 ∷ 0x78 ∷ [];
  extra = 0xAA ∷ 0xBB ∷ 0xCC ∷ [];
  agrees = refl;
  cells = refl;
  parts = refl;
  message =
      record {
        front = 0 ∷ 0 ∷ 0x43 ∷ 0x21 ∷ [];
        back = 0 ∷ 1 ∷ 0x78 ∷ [];
        whole = refl;
        this = (0x4321, record { long = refl; is = refl }, refl);
        that = record { front = 0 ∷ 1 ∷ 0x78 ∷ []; back = []; whole = refl; this = (record { head = 0 ∷ 1 ∷ []; counts = record { long = refl; is = refl }; parts = refl }, refl); that = refl };
      };
  more = refl;
  lawful = record { plain = refl; direction = refl; bounded = lit≤ tt };
  whole = refl;
}

-- ---- a node that came up

abbrev node_event : FrameValue
node_event = record {
  flags = 0;
  stream = negsuc 0;
  tracing = None;
  warnings = None;
  payload = None;
  message = Event (codes "STATUS_CHANGE") (value.Node (codes "UP") (address.V4 (127 ∷ 0 ∷ 0 ∷ 1 ∷ [])) (pos 9042));
}

node_event_flat : Flat limits 0 node_event 0 ≡
    (0, model.Frame (record { response = true; flags = 0; stream = negsuc 0; opcode = opcode.Event; length = 28 }))
    ∷ (9, model.Holds field.EventType (note.Text (codes "STATUS_CHANGE"))) ∷ (24, model.Holds field.Change (note.Text (codes "UP")))
    ∷ (28, model.Holds field.Address (note.Inet (address.V4 (127 ∷ 0 ∷ 0 ∷ 1 ∷ [])) (pos 9042))) ∷ (37, model.End 0) ∷ []
node_event_flat = refl

-- ---- a prepared result, whose pages will not describe their columns

abbrev list_of_int : Trees
list_of_int = Tree_and [] ListOf (Tree_and [] (PlainType kind.Int) NoTree NoTree) NoTree

abbrev prepared_result : FrameValue
prepared_result = record {
  flags = 0;
  stream = pos 0;
  tracing = None;
  warnings = None;
  payload = None;
  message = Prepared (record {
    id = 0xAB ∷ [];
    flags = pos 1;
    columns = 1;
    keys = 0 ∷ [];
    table = Some (codes "k", codes "t");
    specs = record { table = None; name = codes "c"; tree = list_of_int } ∷ [];
    result = record { flags = pos 6; columns = 3; paging = Some None; table = None; specs = None };
  });
}

prepared_result_spelled : FrameSpells prepared_result 0 (0x84 ∷ 0 ∷ 0 ∷ 0 ∷ 8 ∷ 0 ∷ 0 ∷ 0 ∷ 0x2E ∷ 0 ∷ 0 ∷ 0 ∷ 4 ∷ 0 ∷ 1 ∷ 0xAB ∷ 0 ∷ 0 ∷ 0 ∷ 1 ∷ 0 ∷ 0 ∷ 0 ∷ 1 ∷ 0 ∷ 0 ∷ 0 ∷ 1 ∷ 0 ∷ 0 ∷ 0 ∷ 1 ∷ 0x6B ∷ 0 ∷ 1 ∷ 0x74 ∷ 0 ∷ 1 ∷ 0x63 ∷ 0 ∷ 0x20 ∷ 0 ∷ 9 ∷ 0 ∷ 0 ∷ 0 ∷ 6 ∷ 0 ∷ 0 ∷ 0 ∷ 3 ∷ 0xFF ∷ 0xFF ∷ 0xFF ∷ 0xFF ∷ [])
unfolding Spells is_utf8 chars encode
prepared_result_spelled = record {
  announced = [];
  body = 0 ∷ 0 ∷ 0 ∷ 4 ∷ 0 ∷ 1 ∷ 0xAB ∷ 0 ∷ 0 ∷ 0 ∷ 1 ∷ 0 ∷ 0 ∷ 0 ∷ 1 ∷ 0 ∷ 0 ∷ 0 ∷ 1 ∷ 0 ∷ 0 ∷ 0 ∷ 1 ∷ 0x6B ∷ 0 ∷ 1 ∷ 0x74 ∷ 0 ∷ 1 ∷ 0x63 ∷ 0 ∷ 0x20 ∷ 0 ∷ 9 ∷ 0 ∷ 0 ∷ 0 ∷ 6 ∷ 0 ∷ 0 ∷ 0 ∷ 3 ∷ 0xFF ∷ 0xFF ∷ 0xFF ∷ 0xFF ∷ [];
  extra = [];
  agrees = refl;
  cells = refl;
  parts = refl;
  message =
      record {
        front = 0 ∷ 0 ∷ 0 ∷ 4 ∷ [];
        back = 0 ∷ 1 ∷ 0xAB ∷ 0 ∷ 0 ∷ 0 ∷ 1 ∷ 0 ∷ 0 ∷ 0 ∷ 1 ∷ 0 ∷ 0 ∷ 0 ∷ 1 ∷ 0 ∷ 0 ∷ 0 ∷ 1 ∷ 0x6B ∷ 0 ∷ 1 ∷ 0x74 ∷ 0 ∷ 1 ∷ 0x63 ∷ 0 ∷ 0x20 ∷ 0 ∷ 9 ∷ 0 ∷ 0 ∷ 0 ∷ 6 ∷ 0 ∷ 0 ∷ 0 ∷ 3 ∷ 0xFF ∷ 0xFF ∷ 0xFF ∷ 0xFF ∷ [];
        whole = refl;
        this = (4, record { long = refl; is = refl }, refl);
        that = record {
          front = 0 ∷ 1 ∷ 0xAB ∷ [];
          back = 0 ∷ 0 ∷ 0 ∷ 1 ∷ 0 ∷ 0 ∷ 0 ∷ 1 ∷ 0 ∷ 0 ∷ 0 ∷ 1 ∷ 0 ∷ 0 ∷ 0 ∷ 1 ∷ 0x6B ∷ 0 ∷ 1 ∷ 0x74 ∷ 0 ∷ 1 ∷ 0x63 ∷ 0 ∷ 0x20 ∷ 0 ∷ 9 ∷ 0 ∷ 0 ∷ 0 ∷ 6 ∷ 0 ∷ 0 ∷ 0 ∷ 3 ∷ 0xFF ∷ 0xFF ∷ 0xFF ∷ 0xFF ∷ [];
          whole = refl;
          this = record { head = 0 ∷ 1 ∷ []; counts = record { long = refl; is = refl }; parts = refl };
          that = record {
            front = 0 ∷ 0 ∷ 0 ∷ 1 ∷ [];
            back = 0 ∷ 0 ∷ 0 ∷ 1 ∷ 0 ∷ 0 ∷ 0 ∷ 1 ∷ 0 ∷ 0 ∷ 0 ∷ 1 ∷ 0x6B ∷ 0 ∷ 1 ∷ 0x74 ∷ 0 ∷ 1 ∷ 0x63 ∷ 0 ∷ 0x20 ∷ 0 ∷ 9 ∷ 0 ∷ 0 ∷ 0 ∷ 6 ∷ 0 ∷ 0 ∷ 0 ∷ 3 ∷ 0xFF ∷ 0xFF ∷ 0xFF ∷ 0xFF ∷ [];
            whole = refl;
            this = (1, record { long = refl; is = refl }, refl);
            that = record {
              front = 0 ∷ 0 ∷ 0 ∷ 1 ∷ [];
              back = 0 ∷ 0 ∷ 0 ∷ 1 ∷ 0 ∷ 0 ∷ 0 ∷ 1 ∷ 0x6B ∷ 0 ∷ 1 ∷ 0x74 ∷ 0 ∷ 1 ∷ 0x63 ∷ 0 ∷ 0x20 ∷ 0 ∷ 9 ∷ 0 ∷ 0 ∷ 0 ∷ 6 ∷ 0 ∷ 0 ∷ 0 ∷ 3 ∷ 0xFF ∷ 0xFF ∷ 0xFF ∷ 0xFF ∷ [];
              whole = refl;
              this = (record { long = refl; is = refl }, lit< tt);
              that = record {
                front = 0 ∷ 0 ∷ 0 ∷ 1 ∷ [];
                back = 0 ∷ 0 ∷ 0 ∷ 1 ∷ 0x6B ∷ 0 ∷ 1 ∷ 0x74 ∷ 0 ∷ 1 ∷ 0x63 ∷ 0 ∷ 0x20 ∷ 0 ∷ 9 ∷ 0 ∷ 0 ∷ 0 ∷ 6 ∷ 0 ∷ 0 ∷ 0 ∷ 3 ∷ 0xFF ∷ 0xFF ∷ 0xFF ∷ 0xFF ∷ [];
                whole = refl;
                this = (record { long = refl; is = refl }, lit< tt);
                that = record {
                  front = 0 ∷ 0 ∷ [];
                  back = 0 ∷ 1 ∷ 0x6B ∷ 0 ∷ 1 ∷ 0x74 ∷ 0 ∷ 1 ∷ 0x63 ∷ 0 ∷ 0x20 ∷ 0 ∷ 9 ∷ 0 ∷ 0 ∷ 0 ∷ 6 ∷ 0 ∷ 0 ∷ 0 ∷ 3 ∷ 0xFF ∷ 0xFF ∷ 0xFF ∷ 0xFF ∷ [];
                  whole = refl;
                  this = record { long = refl; is = refl };
                  that = record {
                    front = 0 ∷ 1 ∷ 0x6B ∷ [];
                    back = 0 ∷ 1 ∷ 0x74 ∷ 0 ∷ 1 ∷ 0x63 ∷ 0 ∷ 0x20 ∷ 0 ∷ 9 ∷ 0 ∷ 0 ∷ 0 ∷ 6 ∷ 0 ∷ 0 ∷ 0 ∷ 3 ∷ 0xFF ∷ 0xFF ∷ 0xFF ∷ 0xFF ∷ [];
                    whole = refl;
                    this = (record { head = 0 ∷ 1 ∷ []; counts = record { long = refl; is = refl }; parts = refl }, refl);
                    that = record {
                      front = 0 ∷ 1 ∷ 0x74 ∷ [];
                      back = 0 ∷ 1 ∷ 0x63 ∷ 0 ∷ 0x20 ∷ 0 ∷ 9 ∷ 0 ∷ 0 ∷ 0 ∷ 6 ∷ 0 ∷ 0 ∷ 0 ∷ 3 ∷ 0xFF ∷ 0xFF ∷ 0xFF ∷ 0xFF ∷ [];
                      whole = refl;
                      this = (record { head = 0 ∷ 1 ∷ []; counts = record { long = refl; is = refl }; parts = refl }, refl);
                      that = record {
                        front = 0 ∷ 1 ∷ 0x63 ∷ [];
                        back = 0 ∷ 0x20 ∷ 0 ∷ 9 ∷ 0 ∷ 0 ∷ 0 ∷ 6 ∷ 0 ∷ 0 ∷ 0 ∷ 3 ∷ 0xFF ∷ 0xFF ∷ 0xFF ∷ 0xFF ∷ [];
                        whole = refl;
                        this = (record { head = 0 ∷ 1 ∷ []; counts = record { long = refl; is = refl }; parts = refl }, refl);
                        that = record {
                          front = 0 ∷ 0x20 ∷ 0 ∷ 9 ∷ [];
                          back = 0 ∷ 0 ∷ 0 ∷ 6 ∷ 0 ∷ 0 ∷ 0 ∷ 3 ∷ 0xFF ∷ 0xFF ∷ 0xFF ∷ 0xFF ∷ [];
                          whole = refl;
                          this = record {
                            one = refl;
                            formed = (refl, ((refl, refl), tt, tt), tt);
                            spelled = record {
                              front = 0 ∷ 0x20 ∷ [];
                              back = 0 ∷ 9 ∷ [];
                              whole = refl;
                              this = (0x20, refl, record { long = refl; is = refl });
                              that = record {
                                front = 0 ∷ 9 ∷ [];
                                back = [];
                                whole = refl;
                                this = (9, refl, record { long = refl; is = refl });
                                that = refl;
                              };
                            };
                          };
                          that = record {
                            front = 0 ∷ 0 ∷ 0 ∷ 6 ∷ [];
                            back = 0 ∷ 0 ∷ 0 ∷ 3 ∷ 0xFF ∷ 0xFF ∷ 0xFF ∷ 0xFF ∷ [];
                            whole = refl;
                            this = (6, record { long = refl; is = refl }, refl);
                            that = record {
                              front = 0 ∷ 0 ∷ 0 ∷ 3 ∷ [];
                              back = 0xFF ∷ 0xFF ∷ 0xFF ∷ 0xFF ∷ [];
                              whole = refl;
                              this = (record { long = refl; is = refl }, lit< tt);
                              that = record {
                                front = 0xFF ∷ 0xFF ∷ 0xFF ∷ 0xFF ∷ [];
                                back = [];
                                whole = refl;
                                this = (2 ^ 32 - 1, record { long = refl; is = refl }, lit≤ tt);
                                that = refl;
                              };
                            };
                          };
                        };
                      };
                    };
                  };
                };
              };
            };
          };
        };
      };
  more = refl;
  lawful = record { plain = refl; direction = refl; bounded = lit≤ tt };
  whole = refl;
}

prepared_result_flat : Flat limits 0 prepared_result 0 ≡
    (0, model.Frame (record { response = true; flags = 0; stream = pos 0; opcode = opcode.Result; length = 46 }))
    ∷ (9, model.Holds field.ResultKind (note.Int (pos 4))) ∷ (13, model.Holds field.StatementId (note.Bytes (Some (0xAB ∷ []))))
    ∷ (16, model.Holds field.MetaFlags (note.Int (pos 1))) ∷ (20, model.Holds field.Columns (note.Count 1)) ∷ (24, model.Holds field.Keys (note.Count 1)) ∷ (28, model.Holds field.KeyIndex (note.Short 0))
    ∷ (30, model.Holds field.Keyspace (note.Text (codes "k"))) ∷ (33, model.Holds field.Table (note.Text (codes "t"))) ∷ (36, model.Holds field.ColumnName (note.Text (codes "c")))
    ∷ (39, model.Node_of kind.List) ∷ (41, model.Node_of kind.Int)
    ∷ (43, model.Holds field.MetaFlags (note.Int (pos 6))) ∷ (47, model.Holds field.Columns (note.Count 3)) ∷ (51, model.Holds field.PagingState (note.Bytes None)) ∷ (55, model.End 0) ∷ []
prepared_result_flat = refl

-- two type options, one in the other, are within limits of two
prepared_result_within : IsWithin limits prepared_result
prepared_result_within = record {
  parts = (lit≤ tt, (lit≤ tt, (lit≤ tt, (lit≤ tt, (lit≤ tt, (lit≤ tt, (lit≤ tt, (lit≤ tt, (lit≤ tt, (((lit≤ tt, (lit≤ tt, tt, tt), tt), tt), (lit≤ tt, (lit≤ tt, (lit≤ tt, tt)))))))))))));
  types = (lit≤ tt, lit≤ tt);
  typed = refl;
}

-- ---- a page of one row, whose cell is a list of an int, a null and an empty one

abbrev list_of_three : Values
list_of_three = Counted_and kind.List 3 (Scalar_and (scalar.Int (pos 1)) (Null_and (Empty_and NoValue))) NoValue

abbrev page_result : FrameValue
page_result = record {
  flags = 0;
  stream = pos 0;
  tracing = None;
  warnings = None;
  payload = None;
  message = Rows (record {
    meta = record { flags = pos 1; columns = 1; paging = None; table = Some (codes "k", codes "t"); specs = Some (record { table = None; name = codes "c"; tree = list_of_int } ∷ []) };
    rows = 1;
    cells = list_of_three ∷ [];
  });
}

abbrev page_bytes : List ℕ
page_bytes = 0x84 ∷ 0 ∷ 0 ∷ 0 ∷ 8 ∷ 0 ∷ 0 ∷ 0 ∷ 0x35 ∷ 0 ∷ 0 ∷ 0 ∷ 2 ∷ 0 ∷ 0 ∷ 0 ∷ 1 ∷ 0 ∷ 0 ∷ 0 ∷ 1 ∷ 0 ∷ 1 ∷ 0x6B ∷ 0 ∷ 1 ∷ 0x74 ∷ 0 ∷ 1 ∷ 0x63 ∷ 0 ∷ 0x20 ∷ 0 ∷ 9 ∷ 0 ∷ 0 ∷ 0 ∷ 1 ∷ 0 ∷ 0 ∷ 0 ∷ 0x14 ∷ 0 ∷ 0 ∷ 0 ∷ 3 ∷ 0 ∷ 0 ∷ 0 ∷ 4 ∷ 0 ∷ 0 ∷ 0 ∷ 1 ∷ 0xFF ∷ 0xFF ∷ 0xFF ∷ 0xFF ∷ 0 ∷ 0 ∷ 0 ∷ 0 ∷ []

page_result_spelled : FrameSpells page_result 0 page_bytes
unfolding Spells is_utf8 chars encode scalar_of
page_result_spelled = record {
  announced = [];
  body = 0 ∷ 0 ∷ 0 ∷ 2 ∷ 0 ∷ 0 ∷ 0 ∷ 1 ∷ 0 ∷ 0 ∷ 0 ∷ 1 ∷ 0 ∷ 1 ∷ 0x6B ∷ 0 ∷ 1 ∷ 0x74 ∷ 0 ∷ 1 ∷ 0x63 ∷ 0 ∷ 0x20 ∷ 0 ∷ 9 ∷ 0 ∷ 0 ∷ 0 ∷ 1 ∷ 0 ∷ 0 ∷ 0 ∷ 0x14 ∷ 0 ∷ 0 ∷ 0 ∷ 3 ∷ 0 ∷ 0 ∷ 0 ∷ 4 ∷ 0 ∷ 0 ∷ 0 ∷ 1 ∷ 0xFF ∷ 0xFF ∷ 0xFF ∷ 0xFF ∷ 0 ∷ 0 ∷ 0 ∷ 0 ∷ [];
  extra = [];
  agrees = refl;
  cells = refl;
  parts = refl;
  message =
      record {
        front = 0 ∷ 0 ∷ 0 ∷ 2 ∷ [];
        back = 0 ∷ 0 ∷ 0 ∷ 1 ∷ 0 ∷ 0 ∷ 0 ∷ 1 ∷ 0 ∷ 1 ∷ 0x6B ∷ 0 ∷ 1 ∷ 0x74 ∷ 0 ∷ 1 ∷ 0x63 ∷ 0 ∷ 0x20 ∷ 0 ∷ 9 ∷ 0 ∷ 0 ∷ 0 ∷ 1 ∷ 0 ∷ 0 ∷ 0 ∷ 0x14 ∷ 0 ∷ 0 ∷ 0 ∷ 3 ∷ 0 ∷ 0 ∷ 0 ∷ 4 ∷ 0 ∷ 0 ∷ 0 ∷ 1 ∷ 0xFF ∷ 0xFF ∷ 0xFF ∷ 0xFF ∷ 0 ∷ 0 ∷ 0 ∷ 0 ∷ [];
        whole = refl;
        this = (2, record { long = refl; is = refl }, refl);
        that = record {
          front = 0 ∷ 0 ∷ 0 ∷ 1 ∷ [];
          back = 0 ∷ 0 ∷ 0 ∷ 1 ∷ 0 ∷ 1 ∷ 0x6B ∷ 0 ∷ 1 ∷ 0x74 ∷ 0 ∷ 1 ∷ 0x63 ∷ 0 ∷ 0x20 ∷ 0 ∷ 9 ∷ 0 ∷ 0 ∷ 0 ∷ 1 ∷ 0 ∷ 0 ∷ 0 ∷ 0x14 ∷ 0 ∷ 0 ∷ 0 ∷ 3 ∷ 0 ∷ 0 ∷ 0 ∷ 4 ∷ 0 ∷ 0 ∷ 0 ∷ 1 ∷ 0xFF ∷ 0xFF ∷ 0xFF ∷ 0xFF ∷ 0 ∷ 0 ∷ 0 ∷ 0 ∷ [];
          whole = refl;
          this = (1, record { long = refl; is = refl }, refl);
          that = record {
            front = 0 ∷ 0 ∷ 0 ∷ 1 ∷ [];
            back = 0 ∷ 1 ∷ 0x6B ∷ 0 ∷ 1 ∷ 0x74 ∷ 0 ∷ 1 ∷ 0x63 ∷ 0 ∷ 0x20 ∷ 0 ∷ 9 ∷ 0 ∷ 0 ∷ 0 ∷ 1 ∷ 0 ∷ 0 ∷ 0 ∷ 0x14 ∷ 0 ∷ 0 ∷ 0 ∷ 3 ∷ 0 ∷ 0 ∷ 0 ∷ 4 ∷ 0 ∷ 0 ∷ 0 ∷ 1 ∷ 0xFF ∷ 0xFF ∷ 0xFF ∷ 0xFF ∷ 0 ∷ 0 ∷ 0 ∷ 0 ∷ [];
            whole = refl;
            this = (record { long = refl; is = refl }, lit< tt);
            that = record {
              front = 0 ∷ 1 ∷ 0x6B ∷ [];
              back = 0 ∷ 1 ∷ 0x74 ∷ 0 ∷ 1 ∷ 0x63 ∷ 0 ∷ 0x20 ∷ 0 ∷ 9 ∷ 0 ∷ 0 ∷ 0 ∷ 1 ∷ 0 ∷ 0 ∷ 0 ∷ 0x14 ∷ 0 ∷ 0 ∷ 0 ∷ 3 ∷ 0 ∷ 0 ∷ 0 ∷ 4 ∷ 0 ∷ 0 ∷ 0 ∷ 1 ∷ 0xFF ∷ 0xFF ∷ 0xFF ∷ 0xFF ∷ 0 ∷ 0 ∷ 0 ∷ 0 ∷ [];
              whole = refl;
              this = (record { head = 0 ∷ 1 ∷ []; counts = record { long = refl; is = refl }; parts = refl }, refl);
              that = record {
                front = 0 ∷ 1 ∷ 0x74 ∷ [];
                back = 0 ∷ 1 ∷ 0x63 ∷ 0 ∷ 0x20 ∷ 0 ∷ 9 ∷ 0 ∷ 0 ∷ 0 ∷ 1 ∷ 0 ∷ 0 ∷ 0 ∷ 0x14 ∷ 0 ∷ 0 ∷ 0 ∷ 3 ∷ 0 ∷ 0 ∷ 0 ∷ 4 ∷ 0 ∷ 0 ∷ 0 ∷ 1 ∷ 0xFF ∷ 0xFF ∷ 0xFF ∷ 0xFF ∷ 0 ∷ 0 ∷ 0 ∷ 0 ∷ [];
                whole = refl;
                this = (record { head = 0 ∷ 1 ∷ []; counts = record { long = refl; is = refl }; parts = refl }, refl);
                that = record {
                  front = 0 ∷ 1 ∷ 0x63 ∷ [];
                  back = 0 ∷ 0x20 ∷ 0 ∷ 9 ∷ 0 ∷ 0 ∷ 0 ∷ 1 ∷ 0 ∷ 0 ∷ 0 ∷ 0x14 ∷ 0 ∷ 0 ∷ 0 ∷ 3 ∷ 0 ∷ 0 ∷ 0 ∷ 4 ∷ 0 ∷ 0 ∷ 0 ∷ 1 ∷ 0xFF ∷ 0xFF ∷ 0xFF ∷ 0xFF ∷ 0 ∷ 0 ∷ 0 ∷ 0 ∷ [];
                  whole = refl;
                  this = (record { head = 0 ∷ 1 ∷ []; counts = record { long = refl; is = refl }; parts = refl }, refl);
                  that = record {
                    front = 0 ∷ 0x20 ∷ 0 ∷ 9 ∷ [];
                    back = 0 ∷ 0 ∷ 0 ∷ 1 ∷ 0 ∷ 0 ∷ 0 ∷ 0x14 ∷ 0 ∷ 0 ∷ 0 ∷ 3 ∷ 0 ∷ 0 ∷ 0 ∷ 4 ∷ 0 ∷ 0 ∷ 0 ∷ 1 ∷ 0xFF ∷ 0xFF ∷ 0xFF ∷ 0xFF ∷ 0 ∷ 0 ∷ 0 ∷ 0 ∷ [];
                    whole = refl;
                    this = record {
                      one = refl;
                      formed = (refl, ((refl, refl), tt, tt), tt);
                      spelled = record {
                        front = 0 ∷ 0x20 ∷ [];
                        back = 0 ∷ 9 ∷ [];
                        whole = refl;
                        this = (0x20, refl, record { long = refl; is = refl });
                        that = record {
                          front = 0 ∷ 9 ∷ [];
                          back = [];
                          whole = refl;
                          this = (9, refl, record { long = refl; is = refl });
                          that = refl;
                        };
                      };
                    };
                    that = record {
                      front = 0 ∷ 0 ∷ 0 ∷ 1 ∷ [];
                      back = 0 ∷ 0 ∷ 0 ∷ 0x14 ∷ 0 ∷ 0 ∷ 0 ∷ 3 ∷ 0 ∷ 0 ∷ 0 ∷ 4 ∷ 0 ∷ 0 ∷ 0 ∷ 1 ∷ 0xFF ∷ 0xFF ∷ 0xFF ∷ 0xFF ∷ 0 ∷ 0 ∷ 0 ∷ 0 ∷ [];
                      whole = refl;
                      this = (record { long = refl; is = refl }, lit< tt);
                      that = record {
                        front = 0 ∷ 0 ∷ 0 ∷ 0x14 ∷ 0 ∷ 0 ∷ 0 ∷ 3 ∷ 0 ∷ 0 ∷ 0 ∷ 4 ∷ 0 ∷ 0 ∷ 0 ∷ 1 ∷ 0xFF ∷ 0xFF ∷ 0xFF ∷ 0xFF ∷ 0 ∷ 0 ∷ 0 ∷ 0 ∷ [];
                        back = [];
                        whole = refl;
                        this = (
                          refl,
                          refl,
                          0 ∷ 0 ∷ 0 ∷ 3 ∷ 0 ∷ 0 ∷ 0 ∷ 4 ∷ 0 ∷ 0 ∷ 0 ∷ 1 ∷ 0xFF ∷ 0xFF ∷ 0xFF ∷ 0xFF ∷ 0 ∷ 0 ∷ 0 ∷ 0 ∷ [],
                          record {
                            front = 0 ∷ 0 ∷ 0 ∷ 3 ∷ [];
                            back = 0 ∷ 0 ∷ 0 ∷ 4 ∷ 0 ∷ 0 ∷ 0 ∷ 1 ∷ 0xFF ∷ 0xFF ∷ 0xFF ∷ 0xFF ∷ 0 ∷ 0 ∷ 0 ∷ 0 ∷ [];
                            whole = refl;
                            this = (record { long = refl; is = refl }, lit< tt);
                            that = (
                              0 ∷ 0 ∷ 0 ∷ 1 ∷ [],
                              record { some = λ e. absurd cc; size = refl; is = refl },
                              record {
                                front = 0 ∷ 0 ∷ 0 ∷ 4 ∷ 0 ∷ 0 ∷ 0 ∷ 1 ∷ [];
                                back = 0xFF ∷ 0xFF ∷ 0xFF ∷ 0xFF ∷ 0 ∷ 0 ∷ 0 ∷ 0 ∷ [];
                                whole = refl;
                                this = (record { head = 0 ∷ 0 ∷ 0 ∷ 4 ∷ []; counts = record { long = refl; is = refl }; parts = refl }, lit< tt);
                                that = record {
                                  front = 0xFF ∷ 0xFF ∷ 0xFF ∷ 0xFF ∷ [];
                                  back = 0 ∷ 0 ∷ 0 ∷ 0 ∷ [];
                                  whole = refl;
                                  this = (2 ^ 32 - 1, record { long = refl; is = refl }, lit≤ tt);
                                  that = record {
                                    front = 0 ∷ 0 ∷ 0 ∷ 0 ∷ [];
                                    back = [];
                                    whole = refl;
                                    this = (record { head = 0 ∷ 0 ∷ 0 ∷ 0 ∷ []; counts = record { long = refl; is = refl }; parts = refl }, lit< tt);
                                    that = refl;
                                  };
                                };
                              },
                            );
                          },
                          record {
                            front = 0 ∷ 0 ∷ 0 ∷ 0x14 ∷ 0 ∷ 0 ∷ 0 ∷ 3 ∷ 0 ∷ 0 ∷ 0 ∷ 4 ∷ 0 ∷ 0 ∷ 0 ∷ 1 ∷ 0xFF ∷ 0xFF ∷ 0xFF ∷ 0xFF ∷ 0 ∷ 0 ∷ 0 ∷ 0 ∷ [];
                            back = [];
                            whole = refl;
                            this = (record { head = 0 ∷ 0 ∷ 0 ∷ 0x14 ∷ []; counts = record { long = refl; is = refl }; parts = refl }, lit< tt);
                            that = refl;
                          },
                        );
                        that = refl;
                      };
                    };
                  };
                };
              };
            };
          };
        };
      };
  more = refl;
  lawful = record { plain = refl; direction = refl; bounded = lit≤ tt };
  whole = refl;
}

-- these are the bytes that are written of it
page_result_written : frame_bytes page_result ≡ page_bytes
page_result_written = refl

page_result_flat : Flat limits 0 page_result 0 ≡
    (0, model.Frame (record { response = true; flags = 0; stream = pos 0; opcode = opcode.Result; length = 53 }))
    ∷ (9, model.Holds field.ResultKind (note.Int (pos 2))) ∷ (13, model.Holds field.MetaFlags (note.Int (pos 1))) ∷ (17, model.Holds field.Columns (note.Count 1))
    ∷ (21, model.Holds field.Keyspace (note.Text (codes "k"))) ∷ (24, model.Holds field.Table (note.Text (codes "t"))) ∷ (27, model.Holds field.ColumnName (note.Text (codes "c")))
    ∷ (30, model.Node_of kind.List) ∷ (32, model.Node_of kind.Int) ∷ (34, model.Holds field.Rows (note.Count 1))
    ∷ (38, model.Cell_at 0 0 (cell.Enter 0 kind.List 3)) ∷ (46, model.Cell_at 0 0 (cell.Leaf 1 (scalar.Int (pos 1)))) ∷ (54, model.Cell_at 0 0 (cell.Null 1)) ∷ (58, model.Cell_at 0 0 (cell.Empty 1))
    ∷ (62, model.Leave 0 3) ∷ (62, model.End 0) ∷ []
page_result_flat = refl
