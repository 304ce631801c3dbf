-- A message that is settled and paired.
use Rattle.std.proofs.Common.{inl, inr, ◌≡◌, ℕ, ◌-◌, Bool, refl, sym, ap, subst, ◌∙◌, Option, Result, Ok, Err, ℤ}
use Rattle.std.proofs.lemmas.Bool.{cases_Bool}
use Rattle.std.specs.Prelude.{IfOk, nat_le}
use Rattle.cqlp_observer.specs.declared.message.Message.{Message}
use Rattle.cqlp_observer.specs.declared.paired.Paired.{Paired}
use Rattle.cqlp_observer.specs.declared.pairing.Fate.{Fate}
use Rattle.cqlp_observer.specs.declared.pairing.Fate.TheVariants as fate_is
use Rattle.cqlp_observer.specs.declared.room.WatchRoom.{WatchRoom}
use Rattle.cqlp_observer.specs.Keeping.{Kept, cost_of}
use Rattle.cqlp_observer.specs.Messages.{id_of}
use Rattle.cqlp_observer.specs.Misses.{with_overtaken}
use Rattle.cqlp_observer.specs.Pairings.{IsPlaced, Pairs, Waiting, fate_of, paired, taken, under}
use Rattle.cqlp_observer.specs.Watches.{Fits, Watched, fitted, fitted_as, fitting, paired_by, settled, taken_by, report_then, text_beside, text_in, watched, with_count, with_missed}

-- by what becomes of it
pub settled_as : (m : Message Kept) (hr : Bool) (room : WatchRoom) (w : Watched) (o : Option (Message Kept)) (f : Fate) → o ≡ under (id_of m) w.waiting → f ≡ fate_of o m hr → settled m hr room w ≡ fitted_as f m room w
settled_as m hr room w o f found fate =
    ap (λ (p : Option (Message Kept)). fitted_as (fate_of p m hr) m room w) (sym found) ∙ ap (λ (g : Fate). fitted_as g m room w) (sym fate)

-- how many first bytes wait beside those under its id
beside_as : (m : Message Kept) (w : Watched) (o : Option (Message Kept)) (left beside : ℕ) → o ≡ under (id_of m) w.waiting → left ≡ text_in o → beside ≡ w.text - left → beside ≡ w.text - text_in (under (id_of m) w.waiting)
beside_as m w o left beside found left_is is = is ∙ ap (λ (n : ℕ). w.text - n) (left_is ∙ ap (λ (p : Option (Message Kept)). text_in p) found)

pub settled_meets : (m : Message Kept) (hr : Bool) (room : WatchRoom) (w : Watched) (o : Option (Message Kept)) (left beside : ℕ) → o ≡ under (id_of m) w.waiting → left ≡ text_in o → beside ≡ w.text - left → fate_is.Meets ≡ fate_of o m hr → fitting m (with_count beside w) ≡ settled m hr room w
settled_meets m hr room w o left beside found left_is is fate =
    ap (λ (n : ℕ). fitting m (with_count n w)) (beside_as m w o left beside found left_is is) ∙ sym (settled_as m hr room w o fate_is.Meets found fate)

pub settled_waits : (m : Message Kept) (hr : Bool) (room : WatchRoom) (w : Watched) (o : Option (Message Kept)) (left beside : ℕ) → o ≡ under (id_of m) w.waiting → left ≡ text_in o → beside ≡ w.text - left → fate_is.Waits ≡ fate_of o m hr → fitted m beside room w ≡ settled m hr room w
settled_waits m hr room w o left beside found left_is is fate =
    ap (λ (n : ℕ). fitted m n room w) (beside_as m w o left beside found left_is is) ∙ sym (settled_as m hr room w o fate_is.Waits found fate)

pub settled_overtaken : (m : Message Kept) (hr : Bool) (room : WatchRoom) (w : Watched) (o : Option (Message Kept)) → o ≡ under (id_of m) w.waiting → fate_is.IsOvertaken ≡ fate_of o m hr → fitting m (with_missed (with_overtaken w.missed) w) ≡ settled m hr room w
settled_overtaken m hr room w o found fate = sym (settled_as m hr room w o fate_is.IsOvertaken found fate)

-- its id and those that wait stay
fits_as : (m : Message Kept) (beside : ℕ) (room : WatchRoom) (w : Watched) → (id_of (fitted m beside room w).message ≡ id_of m) × ((fitted m beside room w).after.waiting ≡ w.waiting)
fits_as m beside room w = elim (cases_Bool (nat_le (cost_of m.kept) (room.text - beside))) [ inl fits ↦ rw fits (refl, refl) | inr over ↦ rw over (refl, refl) ]

settles_as : (f : Fate) (m : Message Kept) (room : WatchRoom) (w : Watched) → (id_of (fitted_as f m room w).message ≡ id_of m) × ((fitted_as f m room w).after.waiting ≡ w.waiting)
settles_as fate_is.IsReported m room w = (refl, refl)
settles_as fate_is.Meets m room w = (refl, refl)
settles_as fate_is.Waits m room w = fits_as m (text_beside m w) room w
settles_as fate_is.IsOvertaken m room w = (refl, refl)

pub placed_settled : (m settled_m : Message Kept) (hr : Bool) (room : WatchRoom) (w settled_w : Watched) (place : Result ℕ ℕ) → fitting settled_m settled_w ≡ settled m hr room w → IsPlaced (id_of m) w.waiting place → IsPlaced (id_of settled_m) settled_w.waiting place
placed_settled m settled_m hr room w settled_w place same placed =
    let keeps = settles_as (fate_of (under (id_of m) w.waiting) m hr) m room w in
    let id : id_of settled_m ≡ id_of m = ap (λ (x : Fits). id_of x.message) same ∙ keeps.0 in
    let waiting : settled_w.waiting ≡ w.waiting = ap (λ (x : Fits). x.after.waiting) same ∙ keeps.1 in
    subst (λ (i : ℤ). IsPlaced i settled_w.waiting place) (sym id) (subst (λ (v : Waiting Kept). IsPlaced (id_of m) v place) (sym waiting) placed)

pub paired_settled : {U E : Type 0} (r : Result U E) (reported : Option (Paired Kept)) (after : Waiting Kept) (hr known : Bool) (m settled_m : Message Kept) (room : WatchRoom) (w settled_w : Watched) → hr ≡ known → fitting settled_m settled_w ≡ settled m hr room w → IfOk r (λ _. paired reported after ≡ taken settled_m hr settled_w.waiting) → IfOk r (λ _. report_then reported (watched settled_w.requests settled_w.responses after settled_w.text settled_w.missed) ≡ taken_by known (settled m known room w))
paired_settled (Ok u) reported after hr known m settled_m room w settled_w same settles takes =
    ap (λ (p : Pairs Kept). paired_by p settled_w) takes
    ∙ ap (λ (x : Fits). taken_by hr x) settles
    ∙ ap (λ (b : Bool). taken_by b (settled m b room w)) same
paired_settled (Err e) reported after hr known m settled_m room w settled_w same settles takes = tt
