-- What is reported, one thing after the other.
use Rattle.std.proofs.Common.{◌≡◌, ◌∙◌, ℕ, Bool, true, false, List, [], ◌∷◌, ◌++◌, if◌then◌else◌, Option, Some, None, IsSome, Result, Ok, Err, refl, sym, ap, subst, append_assoc}
use Rattle.std.specs.Io.KnownBytes.{append_known}
use Rattle.cqlp_grammar.specs.declared.sink.SinkFault.{SinkFault}
use Rattle.cqlp_text.specs.Outputs.{Output, WritesText, output, with_text}
use Rattle.cqlp_text.specs.Written.{Written, Writes}
use Rattle.cqlp_text.proofs.Writing.{known_text}
use Rattle.cqlp_capture_summary.specs.Summaries.{Summary}
use Rattle.cqlp_capture_streams.specs.declared.fault.StreamsFault.{StreamsFault}
use Rattle.cqlp_capture_streams.specs.declared.fault.StreamsFault.TheVariants as fault
use Rattle.cqlp_capture_exchanges.specs.declared.connection.Connection.{Connection}
use Rattle.cqlp_capture_exchanges.specs.declared.filter.ExchangeFilter.{ExchangeFilter}
use Rattle.cqlp_capture_exchanges.specs.declared.form.ExchangeForm.{ExchangeForm}
use Rattle.cqlp_capture_exchanges.specs.Prepared.{Known}
use Rattle.cqlp_capture_exchanges.specs.Reports.{Report}
use Rattle.cqlp_capture_exchanges.specs.declared.sums.ExchangeSums.{ExchangeSums}
use Rattle.cqlp_capture_exchanges.specs.Accounts.{Account, FailsAmong, Finishes, Stops, ReportsOne, ReportsAll, account, with_all, with_report, with_shown, with_reported}
use Rattle.cqlp_capture_exchanges.specs.Filters.{shows}
use Rattle.cqlp_capture_exchanges.specs.Forms.{ending_of, noted_in, text_of}

pub with_others : (n : Connection) (ts us : List Report) (a : Account) → with_all n (ts ++ us) a ≡ with_all n us (with_all n ts a)
with_others n [] us a = refl
with_others n (t ∷ ts) us a = with_others n ts us (with_reported n t a)

known_more : (given : Option (List ℕ)) (text : List ℕ) → IsSome given → IsSome (append_known given text)
known_more None text k = k
known_more (Some bytes) text k = refl

known_shown : (d : Bool) (o : Option (List ℕ)) (text : List ℕ) (a b : Account) → a.output.given ≡ append_known o text → b.output.given ≡ o → IsSome o → IsSome (if d then a else b).output.given
known_shown true o text a b e f k = subst (λ z. IsSome z) (sym e) (known_more o text k)
known_shown false o text a b e f k = subst (λ z. IsSome z) (sym f) k

known_reported : (n : Connection) (t : Report) (a : Account) → IsSome a.output.given → IsSome (with_reported n t a).output.given
known_reported n t a k = known_shown (shows a.filter a.known a.first n t) a.output.given (text_of a.form a.known a.first a.summary n t) _ _ refl refl k

-- it is still known what the output was given
pub still_known : (n : Connection) (ts : List Report) (a : Account) → IsSome a.output.given → IsSome (with_all n ts a).output.given
still_known n [] a k = k
still_known n (t ∷ ts) a k = still_known n ts (with_reported n t a) (known_reported n t a k)

-- after some it is still known
pub known_after : (n : Connection) (ts : List Report) (old new : Account) → new ≡ with_all n ts old → IsSome old.output.given → IsSome new.output.given
known_after n ts old new e k = subst (λ (a : Account). IsSome a.output.given) (sym e) (still_known n ts old k)

-- ---- one

pub stops_one : (n : Connection) (t : Report) (old new : Account) → Stops n t old new → FailsAmong fault.Write n (t ∷ []) old new
stops_one n t old new h = record { front = []; one = t; rest = []; parts = refl; stops = h }

-- ---- some, and then others

-- the end of some reports is that of more behind others
fails_more : (n : Connection) (ts us : List Report) (old mid new : Account) (e : StreamsFault) → mid ≡ with_all n ts old → FailsAmong e n us mid new → FailsAmong e n (ts ++ us) old new
fails_more n ts us old mid new fault.Write e h = record {
  front = ts ++ h.front;
  one = h.one;
  rest = h.rest;
  parts = ap (λ z. ts ++ z) h.parts ∙ sym (append_assoc ts h.front (h.one ∷ h.rest));
  stops = subst (λ (z : Account). Stops n h.one z new) (ap (with_all n h.front) e ∙ sym (with_others n ts h.front old)) h.stops;
}
fails_more n ts us old mid new fault.NoMemory e h = record {
  front = ts ++ h.front;
  rest = h.rest;
  parts = ap (λ z. ts ++ z) h.parts ∙ sym (append_assoc ts h.front h.rest);
  accounted = h.accounted ∙ ap (with_all n h.front) e ∙ sym (with_others n ts h.front old);
}
fails_more n ts us old mid new fault.Read e h = absurd h
fails_more n ts us old mid new fault.TooManyTurns e h = absurd h
fails_more n ts us old mid new (fault.File f) e h = absurd h

-- and that of these and others behind them
fails_before : (n : Connection) (ts us : List Report) (old new : Account) (e : StreamsFault) → FailsAmong e n ts old new → FailsAmong e n (ts ++ us) old new
fails_before n ts us old new fault.Write h = record {
  front = h.front;
  one = h.one;
  rest = h.rest ++ us;
  parts = ap (λ z. z ++ us) h.parts ∙ append_assoc h.front (h.one ∷ h.rest) us;
  stops = h.stops;
}
fails_before n ts us old new fault.NoMemory h = record {
  front = h.front;
  rest = h.rest ++ us;
  parts = ap (λ z. z ++ us) h.parts ∙ append_assoc h.front h.rest us;
  accounted = h.accounted;
}
fails_before n ts us old new fault.Read h = absurd h
fails_before n ts us old new fault.TooManyTurns h = absurd h
fails_before n ts us old new (fault.File f) h = absurd h

-- a fault among these is one among these and others
pub fails_first : (n : Connection) (ts us : List Report) (old new : Account) (e : StreamsFault) → ReportsAll n ts old (Err e) new → ReportsAll n (ts ++ us) old (Err e) new
fails_first n ts us old new e h = fails_before n ts us old new e h

-- after some, a fault among others
pub fails_after : (n : Connection) (ts us more : List Report) (old mid new : Account) (e : StreamsFault) → mid ≡ with_all n ts old → FailsAmong e n us mid new → FailsAmong e n (ts ++ (us ++ more)) old new
fails_after n ts us more old mid new e is h = fails_more n ts (us ++ more) old mid new e is (fails_before n us more mid new e h)

pub reports_more : (n : Connection) (ts us : List Report) (old mid new : Account) (r : Result (Unit {0}) StreamsFault) → mid ≡ with_all n ts old → ReportsAll n us mid r new → ReportsAll n (ts ++ us) old r new
reports_more n ts us old mid new (Ok u) e h = h ∙ ap (with_all n us) e ∙ sym (with_others n ts us old)
reports_more n ts us old mid new (Err x) e h = fails_more n ts us old mid new x e h

-- memory is refused after some
pub refused_after : (n : Connection) (ts us : List Report) (old new : Account) → new ≡ with_all n ts old → FailsAmong fault.NoMemory n (ts ++ us) old new
refused_after n ts us old new e = record { front = ts; rest = us; parts = refl; accounted = e }

-- ---- a line that is written, or not

shown_is : {X : Type 0} (d : Bool) (x y : X) → d ≡ true → (if d then x else y) ≡ x
shown_is true x y e = refl
shown_is false x y e = absurd cc

hidden_is : {X : Type 0} (d : Bool) (x y : X) → d ≡ false → (if d then x else y) ≡ y
hidden_is true x y e = absurd cc
hidden_is false x y e = refl

reported_text : (f : ExchangeFilter) (form : ExchangeForm) (first : Option ℕ) (kn : Known) (m : Summary) (s : ExchangeSums) (old new : Output) (n : Connection) (t : Report) (r : Result (Unit {0}) SinkFault) → shows f kn first n t ≡ true → WritesText old (text_of form kn first m n t) r new → ReportsOne n t (account f form first kn m s old) r (account f form first kn (noted_in form kn n t m) (with_report t s) new)
reported_text f form first kn m s old new n t (Ok u) is writes =
    let m' = noted_in form kn n t m in
    ap (λ (o : Output). account f form first kn m' (with_report t s) o) writes ∙ sym (shown_is (shows f kn first n t) (account f form first kn m' (with_report t s) (with_text old (text_of form kn first m n t))) (account f form first kn m (with_report t s) old) is)
reported_text f form first kn m s old new n t (Err e) is writes = record { is_shown = is; rest = refl; within = writes }

-- a line was passed on, before and after which nothing waits
wrote : (w v : Written) (text : List ℕ) (r : Result (Unit {0}) SinkFault) → w.waiting ≡ [] → v.waiting ≡ [] → Writes w text r v → IsSome w.given → WritesText (output w.given w.failures) text r (output v.given v.failures)
wrote w v text r e g writes known =
    known_text w v w.given v.given w.failures v.failures w.lender text r (λ i. record { given = w.given; failures = w.failures; waiting = e i; lender = w.lender }) refl g writes known

pub reported_shown : (self : Account) (f : ExchangeFilter) (form : ExchangeForm) (first : Option ℕ) (kn : Known) (m m' : Summary) (s s' : ExchangeSums) (w v : Written) (n : Connection) (t : Report) (r : Result (Unit {0}) SinkFault) → account f form first kn m s (output w.given w.failures) ≡ self → s' ≡ with_report t s → m' ≡ noted_in form kn n t m → w.waiting ≡ [] → v.waiting ≡ [] → shows f kn first n t ≡ true → Writes w (text_of form kn first m n t) r v → IsSome self.output.given → ReportsOne n t self r (account f form first kn m' s' (output v.given v.failures))
reported_shown self f form first kn m m' s s' w v n t r view sums notes e g is writes known =
    let old = account f form first kn m s (output w.given w.failures) in
    let holds : IsSome w.given → ReportsOne n t old r (account f form first kn m' s' (output v.given v.failures)) =
    λ k. subst (λ (z : ExchangeSums). ReportsOne n t old r (account f form first kn m' z (output v.given v.failures))) (sym sums)
    (subst (λ (y : Summary). ReportsOne n t old r (account f form first kn y (with_report t s) (output v.given v.failures))) (sym notes)
    (reported_text f form first kn m s (output w.given w.failures) (output v.given v.failures) n t r is (wrote w v (text_of form kn first m n t) r e g writes k))) in
    subst (λ (a : Account). IsSome a.output.given → ReportsOne n t a r (account f form first kn m' s' (output v.given v.failures))) view holds known

pub reported_hidden : (self : Account) (f : ExchangeFilter) (form : ExchangeForm) (first : Option ℕ) (kn : Known) (m : Summary) (s s' : ExchangeSums) (o : Output) (n : Connection) (t : Report) → account f form first kn m s o ≡ self → s' ≡ with_report t s → shows f kn first n t ≡ false → account f form first kn m s' o ≡ with_shown n t self
reported_hidden self f form first kn m s s' o n t view sums is =
    ap (λ (z : ExchangeSums). account f form first kn m z o) sums
    ∙ sym (hidden_is (shows f kn first n t) (account f form first kn (noted_in form kn n t m) (with_report t s) (with_text o (text_of form kn first m n t))) (account f form first kn m (with_report t s) o) is)
    ∙ ap (with_shown n t) view

-- ---- the end

finish_text : (f : ExchangeFilter) (form : ExchangeForm) (first : Option ℕ) (kn : Known) (m : Summary) (s : ExchangeSums) (old new : Output) (r : Result (Unit {0}) SinkFault) → WritesText old (ending_of form m) r new → Finishes (account f form first kn m s old) r (account f form first kn m s new)
finish_text f form first kn m s old new (Ok u) writes = ap (λ (o : Output). account f form first kn m s o) writes
finish_text f form first kn m s old new (Err e) writes = (refl, writes)

pub finishes : (self : Account) (f : ExchangeFilter) (form : ExchangeForm) (first : Option ℕ) (kn : Known) (m : Summary) (s : ExchangeSums) (w v : Written) (r : Result (Unit {0}) SinkFault) → account f form first kn m s (output w.given w.failures) ≡ self → w.waiting ≡ [] → v.waiting ≡ [] → Writes w (ending_of form m) r v → IsSome self.output.given → Finishes self r (account f form first kn m s (output v.given v.failures))
finishes self f form first kn m s w v r view e g writes known =
    let holds : IsSome w.given → Finishes (account f form first kn m s (output w.given w.failures)) r (account f form first kn m s (output v.given v.failures)) =
    λ k. finish_text f form first kn m s (output w.given w.failures) (output v.given v.failures) r (wrote w v (ending_of form m) r e g writes k) in
    subst (λ (a : Account). IsSome a.output.given → Finishes a r (account f form first kn m s (output v.given v.failures))) view holds known
