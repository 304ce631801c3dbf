-- What PREPAREDs on other connections say of statements.
use Rattle.std.specs.Prelude.{ℕ, true, List, [], length, Option, Some, None, option_map}
use Rattle.cqlp_note.specs.Limits.{Rules, rules_of}
use Rattle.cqlp_kind.specs.declared.node.Node.{Node}
use Rattle.cqlp_tcp_reassembly.specs.declared.step.StreamStep.TheVariants as step
use Rattle.cqlp_statement_types.specs.Types.{Given, table_given}
use Rattle.cqlp_capture_prepared.specs.Keeping.{Keeping, new_keeping, noted, prepared, types_of}
use Rattle.cqlp_capture_frames.specs.Happenings.{Happening, Manner, Begins, Says, Fails, Compressed, Unread, Gap, Ends, Closes}
use Rattle.cqlp_capture_frames.specs.Directions.{begun, step_reported}
use Rattle.cqlp_capture_rows.specs.declared.other_limits.TheConstants.{OTHER_LIMITS, OTHER_STATEMENTS}
use Rattle.cqlp_capture_rows.specs.Pages.{id_after}

-- the statements that are known by their ids, those whose types were given, and the id that the frame named which is read
pub record OtherTypes : Type 0 where
  pub known : Keeping
  pub given : Given
  pub id : Option (List ℕ)

abbrev pub other_types : Keeping → Given → Option (List ℕ) → OtherTypes
other_types known given id = record { known = known; given = given; id = id }

-- No EXECUTE waits there.
abbrev pub no_other_types : Given → OtherTypes
no_other_types given = other_types (new_keeping OTHER_STATEMENTS 1) given None

-- A page has the types of a statement, which is used by that, if it is known.
abbrev pub used_by : (id : List ℕ) → OtherTypes → OtherTypes
used_by id o = other_types (noted id o.known) o.given o.id

-- ---- the types of a statement: those that the last PREPARED said, or else those that were given

abbrev pub or_else : {X : Type 0} → Option X → Option X → Option X
or_else None other = other
or_else (Some x) other = Some x

abbrev pub types_given : (id : List ℕ) → Given → Option (List Node)
types_given id g = option_map (λ t. t.nodes) (table_given g id)

abbrev pub other_types_of : (id : List ℕ) → OtherTypes → Option (List Node)
other_types_of id o = or_else (types_of id o.known) (types_given id o.given)

-- ---- a frame that came whole: a PREPARED says the types of its statement (section 4.2.5.4)

abbrev pub prepared_as : (id : Option (List ℕ)) → List Node → Keeping → Keeping
prepared_as None types known = known
prepared_as (Some id) types known = prepared id types known

abbrev pub learns : OtherTypes → Happening → OtherTypes
learns o (Begins at h) = other_types o.known o.given None
learns o (Says at e) = other_types o.known o.given (id_after o.id e)
learns o (Fails at why) = o
learns o (Compressed at h) = o
learns o (Unread at h) = o
learns o (Gap at n cause) = o
learns o (Ends types) = other_types (prepared_as o.id types o.known) o.given o.id
learns o Closes = o

-- Nothing is written of it.
abbrev pub learning_manner : Manner OtherTypes
learning_manner = record { text = λ o h. []; after = learns; types = λ o at h. None }

abbrev pub other_rules : Rules
other_rules = rules_of OTHER_LIMITS

-- These are all its bytes, which are read as those of a connection that begins with them.
abbrev pub learned : (frame : List ℕ) → OtherTypes → OtherTypes
learned frame o = (step_reported learning_manner true (step.Payload 0 (length frame)) 0 frame o (begun other_rules true true)).known
