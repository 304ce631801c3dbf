-- The conversation, turn by turn.
use Rattle.std.specs.Prelude.{◌≡◌, ℕ, zero, suc, ℤ, ◌/◌, ◌%◌, List, [], ◌∷◌, ◌++◌, Result, Ok, Err, ◌⊎◌}
use Rattle.cqlp_note.specs.declared.streams.Source as source
use Rattle.cqlp_note.specs.declared.streams.Target as target
use Rattle.cqlp_note.specs.declared.header.Header.{Header}
use Rattle.cqlp_note.specs.Outputs.{Output, written}
use Rattle.cqlp_session.specs.Client.{new_client}
use Rattle.cqlp_session.specs.Server.{new_server}
use Rattle.cqlp_loop.specs.declared.conversation.Socket.{Socket}
use Rattle.cqlp_loop.specs.declared.fault.LoopFault.{LoopFault}
use Rattle.cqlp_loop.specs.declared.fault.LoopFault.TheVariants as fault
use Rattle.cqlp_loop.specs.declared.request.Request.{Request}
use Rattle.cqlp_loop.specs.declared.request.Request.TheVariants.{Options, Startup, Query}
use Rattle.cqlp_loop.specs.Inboxes.{Supply, IsNew, supply}
use Rattle.cqlp_loop.specs.Callers.{CallerState, Prints, done_line}
use Rattle.cqlp_loop.specs.Callers as caller
use Rattle.cqlp_loop.specs.Hosts.{HostState}
use Rattle.cqlp_loop.specs.Hosts as host

-- ---- the script

-- what happens next: the client asks; the server takes a request; it answers the one that it took last of those that
-- are open; the client hears a reply; the last line is printed
pub data LoopStep : Type 0 where
  Asks : Request → LoopStep
  Takes : LoopStep
  Answers : Request → LoopStep
  Hears : LoopStep
  Closes : (count : ℕ) → LoopStep

-- one request and its reply
abbrev pub exchange : Request → List LoopStep
exchange r = Asks r ∷ Takes ∷ Answers r ∷ Hears ∷ []

-- two queries at a time, of which the later is answered first
abbrev pub exchange_pair : List LoopStep
exchange_pair =
    Asks Query ∷ Asks Query ∷ Takes ∷ Takes ∷ Answers Query ∷ Answers Query ∷ Hears ∷ Hears ∷ []

abbrev pub pairs : ℕ → List LoopStep
pairs zero = []
pairs (suc n) = exchange_pair ++ pairs n

-- a query alone, where one is left
abbrev pub last : ℕ → List LoopStep
last zero = []
last (suc n) = exchange Query

abbrev pub setting_up : List LoopStep
setting_up = exchange Options ++ exchange Startup

abbrev pub queries : (count : ℕ) → List LoopStep
queries count = pairs (count / 2) ++ last (count % 2)

-- The connection is set up, then come the queries, two at a time, and the last alone where their number is odd; and
-- then the last line.
abbrev pub script : (count : ℕ) → List LoopStep
script count = (setting_up ++ queries count) ++ Closes count ∷ []

-- ---- the scene

-- an end of the connection: what its source has left, and what its target was given
pub record End : Type 0 where
  pub source : Supply
  pub target : Output

abbrev pub end_of : {S T : Type 0} → source.Ghosts S → target.Ghosts T → Socket S T → End
end_of sources targets s = record { source = supply sources s.source; target = written targets s.target }

-- the two ends, and what the output was given
pub record Wires : Type 0 where
  pub client : End
  pub server : End
  pub out : Output

abbrev pub wires : (client server : End) → Output → Wires
wires client server out = record { client = client; server = server; out = out }

-- those of a conversation over these sockets
abbrev pub wires_of : {CS CT SS ST O : Type 0}
    → source.Ghosts CS → target.Ghosts CT → source.Ghosts SS → target.Ghosts ST → target.Ghosts O
    → (client : Socket CS CT) → (server : Socket SS ST) → (out : O) → Wires
wires_of cs ct ss st o client server out = wires (end_of cs ct client) (end_of ss st server) (written o out)

-- both ends, the ids of the requests that the server took and has not answered, the last first, and the streams
pub record Scene : Type 0 where
  pub caller : CallerState
  pub host : HostState
  pub unanswered : List ℤ
  pub wires : Wires

abbrev pub scene : CallerState → HostState → List ℤ → Wires → Scene
scene c h ids w = record { caller = c; host = h; unanswered = ids; wires = w }

-- a client and a server with nothing sent and nothing heard
pub record IsFresh (s : Scene) : Type 0 where
  pub client : s.caller.core ≡ new_client 2
  pub client_inbox : IsNew s.caller.inbox
  pub server : s.host.core ≡ new_server 2
  pub server_inbox : IsNew s.host.inbox
  pub unanswered : s.unanswered ≡ []

-- ---- one turn

-- nothing but these changes
abbrev pub with_client : Scene → CallerState → End → Scene
with_client s c e = record s { caller = c; wires = record s.wires { client = e } }

abbrev pub with_server : Scene → HostState → List ℤ → End → Scene
with_server s h ids e = record s { host = h; unanswered = ids; wires = record s.wires { server = e } }

abbrev pub with_out : Scene → Output → Scene
with_out s o = record s { wires = record s.wires { out = o } }

-- The server takes a request, whose id is then the last; or it takes none.
abbrev pub TakesOne : Scene → Result (Unit {0}) LoopFault → Scene → Type 0
TakesOne a r b =
    ((h : Header) × (r ≡ Ok tt) × host.Accepts a.host a.wires.server.source (Ok h) b.host b.wires.server.source
    × (b.unanswered ≡ h.stream ∷ a.unanswered))
    ⊎ ((e : LoopFault) × (r ≡ Err e)
    × host.Accepts a.host a.wires.server.source (Err e) b.host b.wires.server.source × (b.unanswered ≡ a.unanswered))

-- What comes of a turn: it is done, or a fault ends the conversation.
abbrev pub Comes : LoopStep → Scene → Result (Unit {0}) LoopFault → Scene → Type 0
Comes (Asks q) a r b =
    caller.Asks q a.caller a.wires.client.target r b.caller b.wires.client.target
    × (b ≡ with_client a b.caller (record a.wires.client { target = b.wires.client.target }))
Comes Takes a r b =
    TakesOne a r b
    × (b ≡ with_server a b.host b.unanswered (record a.wires.server { source = b.wires.server.source }))
Comes (Answers q) a r b =
    (id : ℤ) × (a.unanswered ≡ id ∷ b.unanswered)
    × host.Answers q id a.host a.wires.server.target r b.host b.wires.server.target
    × (b ≡ with_server a b.host b.unanswered (record a.wires.server { target = b.wires.server.target }))
Comes Hears a r b =
    caller.Hears a.caller a.wires.client.source a.wires.out r b.caller b.wires.client.source b.wires.out
    × (b ≡ with_out (with_client a b.caller (record a.wires.client { source = b.wires.client.source })) b.wires.out)
Comes (Closes count) a r b =
    Prints (done_line count) a.wires.out r b.wires.out × (b ≡ with_out a b.wires.out)

abbrev pub Does : LoopStep → (before after : Scene) → Type 0
Does t a b = Comes t a (Ok tt) b

-- ---- turns

-- one turn after the other
abbrev pub Plays : List LoopStep → (before after : Scene) → Type 0
Plays [] a b = b ≡ a
Plays (t ∷ turns) a b = (mid : Scene) × Does t a mid × Plays turns mid b

-- The first of these turns are played, and the next ends the conversation by this fault, which leaves these streams.
abbrev pub Breaks : LoopFault → List LoopStep → Scene → Wires → Type 0
Breaks e [] a left = ⊥
Breaks e (t ∷ turns) a left =
    ((b : Scene) × Comes t a (Err e) b × (b.wires ≡ left))
    ⊎ ((mid : Scene) × Does t a mid × Breaks e turns mid left)

-- What comes of these turns.
abbrev pub Ends : List LoopStep → Scene → Result (Unit {0}) LoopFault → Scene → Type 0
Ends turns a (Ok u) b = Plays turns a b
Ends turns a (Err e) b = Breaks e turns a b.wires

-- ---- the whole conversation

-- A client and a server begin and play the script, to its end or to a fault; or there is no memory for them, and
-- nothing is changed.
abbrev pub Talks : (count : ℕ) → (before : Wires) → Result (Unit {0}) LoopFault → (after : Wires) → Type 0
Talks count before r after =
    ((a : Scene) × (b : Scene) × IsFresh a × (a.wires ≡ before) × (b.wires ≡ after) × Ends (script count) a r b)
    ⊎ ((r ≡ Err fault.NoMemory) × (after ≡ before))

-- the same of what the client hears and what is printed
abbrev pub Converses : (count : ℕ) → (from : Supply) → (out : Output) → Result (Unit {0}) LoopFault → (left : Supply)
    → (out' : Output) → Type 0
Converses count from out r left out' =
    (before : Wires) × (after : Wires) × Talks count before r after
    × (before.client.source ≡ from) × (before.out ≡ out) × (after.client.source ≡ left) × (after.out ≡ out')
