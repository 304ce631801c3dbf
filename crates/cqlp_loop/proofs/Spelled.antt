-- The messages of the conversation have a spelling.
use Rattle.std.proofs.Common.{◌≡◌, ℤ, ◌∷◌, [], refl, ap, sym, subst, ◌∙◌}
use Rattle.std.specs.Prelude.{Result, Ok, Err}
use Rattle.cqlp_note.specs.Outputs.{Output}
use Rattle.cqlp_kind.specs.Scalars.{scalar_of}
use Rattle.cqlp_message.specs.FrameValues.{FrameValue, Message}
use Rattle.cqlp_message.specs.Pages.{with_cells}
use Rattle.cqlp_loop.specs.declared.request.Request.{Request}
use Rattle.cqlp_loop.specs.declared.request.Request.TheVariants.{Options, Startup, Query}
use Rattle.cqlp_loop.specs.declared.fault.LoopFault.{LoopFault}
use Rattle.cqlp_loop.specs.declared.fault.LoopFault.TheVariants as fault
use Rattle.cqlp_loop.specs.Exchanges.{IsPage, IsSpelled, Writes, Sends, cell, plain_frame, request_frame, reply_frame, reply_head}

pub request_spelled : (r : Request) (id : ℤ) → IsSpelled (request_frame r id)
request_spelled Options id = record { fits = refl }
request_spelled Startup id = record { fits = refl }
request_spelled Query id = record { fits = refl }

pub options_spelled : (id : ℤ) → IsSpelled (reply_frame Options id)
options_spelled id = record { fits = refl }

pub startup_spelled : (id : ℤ) → IsSpelled (reply_frame Startup id)
startup_spelled id = record { fits = refl }

pub page_spelled : (id : ℤ) → IsPage (plain_frame id (reply_head Query))
unfolding scalar_of
page_spelled id = record { begins = refl; cells = record { number = refl; fit = refl; size = refl } }

pub same_frame : (f : FrameValue) (id : ℤ) (m m' : Message) → f ≡ plain_frame id m → m ≡ m' → f ≡ plain_frame id m'
same_frame f id m m' e is = e ∙ ap (λ (x : Message). plain_frame id x) is

pub sends_writes : (r : Result (Unit {0}) LoopFault) (f g : FrameValue) (old new : Output) → f ≡ g → Sends f old r new → Writes g old r new
sends_writes (Ok u) f g old new is s = subst (λ (x : FrameValue). Sends x old (Ok u) new) is s
sends_writes (Err fault.SocketFault) f g old new is s = subst (λ (x : FrameValue). Sends x old (Err fault.SocketFault) new) is s
sends_writes (Err fault.BadReply) f g old new is s = absurd s
sends_writes (Err fault.TooManyTurns) f g old new is s = absurd s
sends_writes (Err fault.NoMemory) f g old new is s = absurd s
sends_writes (Err fault.WriteFault) f g old new is s = absurd s

-- ---- the frame of a reply, before the cells of a page

module _ (f : FrameValue) (id : ℤ) (m : Message) (r : Request) (frame : f ≡ plain_frame id m) (head : m ≡ reply_head r) where
  head_frame : (q : Request) → r ≡ q → f ≡ plain_frame id (reply_head q)
  head_frame q is = same_frame f id m (reply_head q) frame (head ∙ ap (λ (x : Request). reply_head x) is)

  pub options_frame : r ≡ Options → f ≡ reply_frame r id
  options_frame is = head_frame Options is ∙ ap (λ (x : Request). reply_frame x id) (sym is)

  pub startup_frame : r ≡ Startup → f ≡ reply_frame r id
  startup_frame is = head_frame Startup is ∙ ap (λ (x : Request). reply_frame x id) (sym is)

  pub query_frame : r ≡ Query → with_cells f (cell ∷ []) ≡ reply_frame r id
  query_frame is = ap (λ (x : FrameValue). with_cells x (cell ∷ [])) (head_frame Query is) ∙ ap (λ (x : Request). reply_frame x id) (sym is)

  pub options_fit : r ≡ Options → IsSpelled f
  options_fit is = subst IsSpelled (sym (head_frame Options is)) (options_spelled id)

  pub startup_fit : r ≡ Startup → IsSpelled f
  startup_fit is = subst IsSpelled (sym (head_frame Startup is)) (startup_spelled id)

  pub query_fit : r ≡ Query → IsPage f
  query_fit is = subst IsPage (sym (head_frame Query is)) (page_spelled id)
