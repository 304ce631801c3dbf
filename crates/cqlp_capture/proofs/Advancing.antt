-- What a step does with the bytes that were wanted, and with those that are passed over.
use Rattle.std.proofs.Common.{◌≡◌, ℕ, ◌+◌, ◌-◌, ◌<◌, ◌≤◌, List, [], ◌∷◌, ◌++◌, length, take, drop, Ok, Err, refl, sym, ap, subst, ◌∙◌, arith}
use Rattle.std.specs.Prelude.{Option, Some, None}
use Rattle.std.proofs.lemmas.List.{drop_all, length-append, length-take-le}
use Rattle.cqlp_note.proofs.Yields.{says_exact}
use Rattle.cqlp_capture.specs.declared.block.Block.{Block}
use Rattle.cqlp_capture.specs.declared.event.EventOutline.{EventOutline}
use Rattle.cqlp_capture.specs.declared.event.Emission.{Emission}
use Rattle.cqlp_capture.specs.declared.gathered.FoundBytes.{FoundBytes}
use Rattle.cqlp_capture.specs.declared.limits.CaptureLimits.{CaptureLimits}
use Rattle.cqlp_capture.specs.declared.place.Place.{Place}
use Rattle.cqlp_capture.specs.declared.place.Stage.{Stage}
use Rattle.cqlp_capture.specs.declared.interfaces.KnownInterface.{KnownInterface}
use Rattle.cqlp_capture.specs.declared.place.Stage.TheVariants.{Magic, FileHead, RecordHead, Data, Rest, SectionLength, SectionBody, BlockHead, InterfaceBody, OptionHead, TimeUnit, TimeOffset, EnhancedBody, PacketBody, SimpleBody, BlockData, Pass, BlockEnd}
use Rattle.cqlp_capture.specs.declared.reader.StepTaken.TheVariants as taken
use Rattle.cqlp_capture.specs.declared.refusal.CaptureRefusal.{CaptureRefusal}
use Rattle.cqlp_capture.specs.Blocks.{passing}
use Rattle.cqlp_capture.specs.Gathering.{Gathered, Finds, begun, bytes_at}
use Rattle.cqlp_capture.specs.Interfaces.{Interfaces, changed, interfaces}
use Rattle.cqlp_capture.specs.Places.{IsNear, IsKnownAt, IsPassing, ComesAfterHead}
use Rattle.cqlp_note.specs.Reader.{Got, says}
use Rattle.cqlp_capture.specs.Reading.{Event, Spot, after_emission, event_if, event_with, heard_first, wanted, read_at, step}
use Rattle.cqlp_capture.specs.Progress.{IsLawful, Moves, TakesStep, progress, spot_of}
use Rattle.cqlp_capture.proofs.Tests.{Fits, in_range}
use Rattle.cqlp_capture.proofs.Insides.{Inside, passing_inside}
use Rattle.cqlp_capture.proofs.Steps.{said_of, step_said, step_waits}
use Rattle.cqlp_capture.proofs.Leading.{Leads, read_leads}
use Rattle.cqlp_capture.proofs.Moving.{nothing, pass_moves}

known_few : (l : CaptureLimits) → Fits l → (s : Stage) (known : List KnownInterface) → IsKnownAt l s known → length known ≤ l.interfaces
known_few l fits Magic known is = let some = fits.some in let none : length known ≡ 0 = ap length is in omega arith
known_few l fits (FileHead f) known is = let some = fits.some in let none : length known ≡ 0 = ap length is in omega arith
known_few l fits (RecordHead r) known is = is
known_few l fits (Data r n) known is = is
known_few l fits (Rest r start left) known is = is
known_few l fits SectionLength known is = is
known_few l fits (SectionBody e) known is = is
known_few l fits (BlockHead o) known is = is
known_few l fits (InterfaceBody b) known is = is
known_few l fits (OptionHead b) known is = is
known_few l fits (TimeUnit b) known is = is
known_few l fits (TimeOffset b) known is = is
known_few l fits (EnhancedBody b) known is = is
known_few l fits (PacketBody b) known is = is
known_few l fits (SimpleBody b) known is = is
known_few l fits (BlockData b n) known is = is
known_few l fits (Pass b until) known is = is
known_few l fits (BlockEnd b) known is = is

-- fewer interfaces than numbers of 32 bits
pub known_numbered : (l : CaptureLimits) (p : Place) (t : Interfaces) (g : Gathered) → IsLawful l p t g → length t.known < 4294967296
known_numbered l p t g lawful =
    let fits = in_range l lawful.range in
    let few = fits.few in
    let known = known_few l fits p.stage t.known lawful.spot.known in
    omega arith

module _ (l : CaptureLimits) (p : Place) (t : Interfaces) (g g' : Gathered) (input b : List ℕ) (f : FoundBytes) (lawful : IsLawful l p t g) (found : Finds g (wanted p.stage) input f g') (are : b ≡ bytes_at f.lies input g'.held) where
  long : length b ≡ wanted p.stage
  long = ap length (are ∙ found.is) ∙ omega (arith, length-append g.pending (take f.used input), length-take-le f.used input found.within, found.count)

  module _ (u : Emission) (is : read_at l t.known p.offset p.stage b ≡ Ok u) where
    leads : Leads l t.known p.offset p.stage b u
    leads = read_leads l (in_range l lawful.range) (spot_of p t) b u lawful.spot long is

    pub change_fits : length (changed u.change t.known) ≤ t.room
    change_fits = subst (λ (n : ℕ). length (changed u.change t.known) ≤ n) (sym lawful.places) (known_few l (in_range l lawful.range) u.place.stage (changed u.change t.known) leads.near.known)

    pub read_lawful : IsLawful l u.place (interfaces (changed u.change t.known) t.room) g'
    read_lawful = record {
      room = found.room ∙ lawful.room;
      places = lawful.places;
      range = lawful.range;
      spot = leads.near;
      fewer = rw found.none (omega arith);
    }

    -- what is said of all of the input, and of the bytes that were used
    said : says (step l (spot_of p t)) 0 (g.pending ++ input) ≡ Got (record { at = u.at; event = event_if u.what b; after = after_emission t.known u }) (length g.pending + f.used)
    said = step_said l (spot_of p t) g.pending input b f.used found.count found.within (are ∙ found.is) ∙ ap (said_of t.known (length g.pending + f.used) b) is

    silent_moves : u.what ≡ None → Moves l (spot_of p t) g.pending input f.used (after_emission t.known u) g'.pending
    silent_moves none =
        let event : event_if u.what b ≡ None = ap (λ (o : Option EventOutline). event_if o b) none in
        let k = length g.pending + f.used in
        let exact = says_exact (step l (spot_of p t)) g.pending input _ f.used said in
        let over : drop k (g.pending ++ take f.used input) ≡ [] = drop_all k (g.pending ++ take f.used input) (omega (arith, length-append g.pending (take f.used input), length-take-le f.used input found.within)) in
        record {
          within = found.within;
          steps = (u.at, event_if u.what b) ∷ [];
          silent = ap (λ (o : Option Event). heard_first u.at o []) event;
          reads = (k, after_emission t.known u, exact, (refl, found.none ∙ sym over));
          first = λ no. absurd (let n : 1 ≡ 0 = ap length no in omega arith);
          later = λ _. found.none;
        }

    pub read_passes : (o : Option CaptureRefusal) → o ≡ None → u.what ≡ None → TakesStep (progress l p t g o) input (taken.Passed f.used) (progress l u.place (interfaces (changed u.change t.known) t.room) g' o)
    read_passes o unrefused none = record {
      moves = silent_moves none;
      none = found.none;
      paid = omega (arith, leads.pays, found.count, found.within);
      limits = refl;
      unrefused = unrefused;
    }

    pub read_hands : (o : Option CaptureRefusal) (w : EventOutline) → o ≡ None → u.what ≡ Some w → TakesStep (progress l p t g o) input (taken.Event u.at f.used w f.lies) (progress l u.place (interfaces (changed u.change t.known) t.room) g' o)
    read_hands o w unrefused some =
        let event : event_if u.what b ≡ Some (event_with w (bytes_at f.lies input g'.held)) = ap (λ (x : Option EventOutline). event_if x b) some ∙ ap (λ (z : List ℕ). Some (event_with w z)) are in (
          record {
            within = found.within;
            is = said ∙ ap (λ (x : Option Event). Got (record { at = u.at; event = x; after = after_emission t.known u }) (length g.pending + f.used)) event;
            left = λ i. record { limits = l; spot = after_emission t.known u; pending = found.none i; held = g'.held; refusal = unrefused i };
            lent = found.lent;
            kept = found.kept;
          },
          found.there,
        )

  pub read_fails : (r : CaptureRefusal) (room : ℕ) → read_at l t.known p.offset p.stage b ≡ Err r → (o : Option CaptureRefusal) → TakesStep (progress l p t g o) input (taken.Refused r) (progress l p t (begun [] room) (Some r))
  read_fails r room is o = record {
    is = step_said l (spot_of p t) g.pending input b f.used found.count found.within (are ∙ found.is) ∙ ap (said_of t.known (length g.pending + f.used) b) is;
    left = refl;
  }

-- ---- bytes that are passed over

module _ (l : CaptureLimits) (b : Block) (until : ℕ) (p : Place) (t : Interfaces) (g : Gathered) (input : List ℕ) (lawful : IsLawful l p t g) (here : p.stage ≡ Pass b until) where
  pub passing_is : IsPassing b p.offset until
  passing_is = let near = subst (λ (s : Stage). IsNear l p.offset s × ComesAfterHead p.offset s) here lawful.spot.place in near.0

  nothing_came : g.pending ≡ []
  nothing_came = nothing g.pending (let few = lawful.fewer in let one : wanted p.stage ≡ 1 = ap wanted here in omega arith)

  known_is : length t.known ≤ l.interfaces
  known_is = subst (λ (s : Stage). IsKnownAt l s t.known) here lawful.spot.known

  pub pass_waits : (o : Option CaptureRefusal) → o ≡ None → length input ≡ 0 → (room : ℕ) → TakesStep (progress l p t g o) input taken.More (progress l p t (begun [] room) o)
  pass_waits o unrefused empty room =
      let all : g.pending ++ input ≡ [] = ap (λ (x : List ℕ). x ++ input) nothing_came ∙ nothing input empty in
      let one : wanted p.stage ≡ 1 = ap wanted here in
      let none : length (g.pending ++ input) ≡ 0 = ap length all in
      record {
        all = refl;
        is = step_waits l (spot_of p t) (g.pending ++ input) (omega arith);
        left = λ i. record { limits = l; spot = spot_of p t; pending = sym all i; held = sym all i; refusal = unrefused i };
      }

  module _ (n : ℕ) (within : n ≤ length input) (some : 0 < n) (fits : n ≤ until - p.offset) where
    inside : Inside l b (p.offset + n) (passing b (p.offset + n) until)
    inside =
        let is = passing_is in
        let block = is.block in
        let before = is.some in
        let end = is.inside in
        let after = block.after in
        passing_inside l b (p.offset + n) until (record { block = block.block; after = omega arith; before = omega arith }) (omega arith) end

    abbrev there : Place
    there = record { offset = p.offset + n; stage = passing b (p.offset + n) until }

    pub pass_lawful : (room : ℕ) → room ≡ g.room → IsLawful l there t (begun [] room)
    pass_lawful room same = record {
      room = same ∙ lawful.room;
      places = lawful.places;
      range = lawful.range;
      spot = record { place = inside.near; known = inside.known t.known known_is };
      fewer = omega arith;
    }

    pub pass_passes : (o : Option CaptureRefusal) → o ≡ None → (room : ℕ) → TakesStep (progress l p t g o) input (taken.Passed n) (progress l there t (begun [] room) o)
    pass_passes o unrefused room =
        let is = passing_is in
        let before = is.some in
        let moves = pass_moves l t.known b until p.offset input n within some (omega arith) in
        let from : ◌≡◌ {A = Spot} (record { place = record { offset = p.offset; stage = Pass b until }; known = t.known }) (spot_of p t) = λ i. record { place = record { offset = p.offset; stage = sym here i }; known = t.known } in
        let moved = subst (λ (q : Spot). Moves l q [] input n (spot_of there t) []) from moves in
        record {
          moves = subst (λ (z : List ℕ). Moves l (spot_of p t) z input n (spot_of there t) []) (sym nothing_came) moved;
          none = refl;
          paid = omega (arith, inside.free, within, some);
          limits = refl;
          unrefused = unrefused;
        }
