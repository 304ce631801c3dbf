-- One answer of `encode`, of `write_value`, of `bind_value` and of `raw_value` meets its clause.
use Rattle.std.proofs.Common.{◌≡◌, ◌⊎◌, ℕ, ◌≤◌, ◌<◌, List, Option, Some, None, IsSome, Result, Ok, Err, take, inl, inr, refl, sym, ap, ◌∙◌, subst, arith}
use Rattle.std.specs.Io.KnownBytes.{Appends}
use Rattle.cqlp_note.specs.Outputs.{Output, output, Offered}
use Rattle.cqlp_message.specs.Frames.{frame_bytes}
use Rattle.cqlp_encode.specs.declared.writing.EncodeError.TheVariants as error
use Rattle.cqlp_value.specs.Owned.{value_of}
use Rattle.cqlp_value.specs.Values.{values_bytes}
use Rattle.cqlp_encode.specs.declared.value_writing.ValueError.TheVariants as value_error
use Rattle.cqlp_type.specs.declared.tree.TypeTree.{TypeTree}
use Rattle.cqlp_value.specs.declared.value.Value.{Value}
use Rattle.cqlp_message.specs.Owned.{bound_of}
use Rattle.cqlp_encode.specs.declared.binding.BindError.{BindError}
use Rattle.cqlp_encode.specs.declared.binding.BindError.TheVariants as bind_error
use Rattle.cqlp_encode.specs.Binding.{IsBound, IsRaw, Makes}
use Rattle.cqlp_encode.specs.declared.appending.AppendError.{AppendError}
use Rattle.cqlp_encode.specs.declared.appending.AppendError.TheVariants as append_error
use Rattle.cqlp_encode.specs.Laws.{AreSame, IsGranted, OneAnswerOfAppend, OneAnswerOfBindValue, OneAnswerOfEncode, OneAnswerOfRawValue, OneAnswerOfWriteValue}

same_given : (o a b : Option (List ℕ)) (bytes : List ℕ) → IsSome o → Appends o a bytes → Appends o b bytes → b ≡ a
same_given None a b bytes known s t = absurd cc
same_given (Some xs) None b bytes known s t = absurd s
same_given (Some xs) (Some ys) None bytes known s t = absurd t
same_given (Some xs) (Some ys) (Some zs) bytes known s t = ap (λ (x : List ℕ). Some x) (t ∙ sym s)

-- the target is left in one state by how many bytes it took
pub left_once : (old new new' : Output) (bytes : List ℕ) (n m : ℕ) → IsSome old.given → m ≡ n → Offered old bytes n new → Offered old bytes m new' → new' ≡ new
left_once old new new' bytes n m known e s t =
    let u : Offered old bytes n new' = rw e at t in
    λ i. output (same_given old.given new.given new'.given (take n bytes) known s.given u.given i) ((u.failures ∙ sym s.failures) i)

pub one_answer : OneAnswerOfEncode
one_answer f old new new' (Ok n) (Ok m) known a b e = (ap (λ (k : ℕ). Ok k) e, left_once old new new' (frame_bytes f) n m known e a.2 b.2)
one_answer f old new new' (Ok n) (Err (error.Unfit why)) known a b e = let both = sym a.0.0 ∙ b.0 in absurd cc
one_answer f old new new' (Ok n) (Err (error.Write m)) known a b e = absurd (omega (arith, a.1, b.1, e))
one_answer f old new new' (Err (error.Unfit why)) (Ok m) known a b e = let both = sym a.0 ∙ b.0.0 in absurd cc
one_answer f old new new' (Err (error.Unfit why)) (Err (error.Unfit why')) known a b e =
    let both : ◌≡◌ {A = Option _} (Some why) (Some why') = sym a.0 ∙ b.0 in
    let same : why' ≡ why = cc in
    (ap (λ w. Err (error.Unfit w)) same, b.1 ∙ sym a.1)
one_answer f old new new' (Err (error.Unfit why)) (Err (error.Write m)) known a b e = let both = sym a.0 ∙ b.0.0 in absurd cc
one_answer f old new new' (Err (error.Write n)) (Ok m) known a b e = absurd (omega (arith, a.1, b.1, e))
one_answer f old new new' (Err (error.Write n)) (Err (error.Unfit why)) known a b e = let both = sym a.0.0 ∙ b.0 in absurd cc
one_answer f old new new' (Err (error.Write n)) (Err (error.Write m)) known a b e = (ap (λ (k : ℕ). Err (error.Write k)) e, left_once old new new' (frame_bytes f) n m known e a.2 b.2)

never_lacks : (n room : ℕ) (r : Result ℕ AppendError) (Given : Type 0) → (n ≤ room) ⊎ (IsGranted r × Given) → r ≡ Err append_error.NoMemory → room < n → ⊥
never_lacks n room r Given (inl le) e lt = omega (arith, le, lt)
never_lacks n room r Given (inr g) e lt = subst IsGranted e g.0

turned : {A B C : Type 0} → A ⊎ (B × C) → A ⊎ (C × B)
turned (inl a) = inl a
turned (inr both) = inr (both.1, both.0)

pub one_append_answer : OneAnswerOfAppend
one_append_answer f room old new new' (Ok n) (Ok m) g a b = (ap (λ (k : ℕ). Ok k) (b.1 ∙ sym a.1), b.2 ∙ sym a.2)
one_append_answer f room old new new' (Ok n) (Err (append_error.Unfit why)) g a b = let both = sym a.0.0 ∙ b.0 in absurd cc
one_append_answer f room old new new' (Ok n) (Err append_error.NoMemory) g a b = absurd (never_lacks _ room (Err append_error.NoMemory) (IsGranted (Ok n)) (turned g) refl b.1)
one_append_answer f room old new new' (Err (append_error.Unfit why)) (Ok m) g a b = let both = sym a.0 ∙ b.0.0 in absurd cc
one_append_answer f room old new new' (Err (append_error.Unfit why)) (Err (append_error.Unfit why')) g a b =
    let both : ◌≡◌ {A = Option _} (Some why) (Some why') = sym a.0 ∙ b.0 in
    let same : why' ≡ why = cc in
    (ap (λ w. Err (append_error.Unfit w)) same, b.1 ∙ sym a.1)
one_append_answer f room old new new' (Err (append_error.Unfit why)) (Err append_error.NoMemory) g a b = let both = sym a.0 ∙ b.0 in absurd cc
one_append_answer f room old new new' (Err append_error.NoMemory) (Ok m) g a b = absurd (never_lacks _ room (Err append_error.NoMemory) (IsGranted (Ok m)) g refl a.1)
one_append_answer f room old new new' (Err append_error.NoMemory) (Err (append_error.Unfit why)) g a b = let both = sym a.0 ∙ b.0 in absurd cc
one_append_answer f room old new new' (Err append_error.NoMemory) (Err append_error.NoMemory) g a b = (refl, b.2 ∙ sym a.2)

pub one_value_answer : OneAnswerOfWriteValue
one_value_answer v t old new new' (Ok n) (Ok m) known a b e = (ap (λ (k : ℕ). Ok k) e, left_once old new new' (values_bytes (value_of v)) n m known e a.2 b.2)
one_value_answer v t old new new' (Ok n) (Err value_error.Unfit) known a b e = let both = sym a.0.fits ∙ b.0 in absurd cc
one_value_answer v t old new new' (Ok n) (Err value_error.TooLong) known a b e = absurd (omega (arith, a.0.short, b.1))
one_value_answer v t old new new' (Ok n) (Err (value_error.Write m)) known a b e = absurd (omega (arith, a.1, b.1, e))
one_value_answer v t old new new' (Err value_error.Unfit) (Ok m) known a b e = let both = sym a.0 ∙ b.0.fits in absurd cc
one_value_answer v t old new new' (Err value_error.Unfit) (Err value_error.Unfit) known a b e = (refl, b.1 ∙ sym a.1)
one_value_answer v t old new new' (Err value_error.Unfit) (Err value_error.TooLong) known a b e = let both = sym a.0 ∙ b.0 in absurd cc
one_value_answer v t old new new' (Err value_error.Unfit) (Err (value_error.Write m)) known a b e = let both = sym a.0 ∙ b.0.fits in absurd cc
one_value_answer v t old new new' (Err value_error.TooLong) (Ok m) known a b e = absurd (omega (arith, b.0.short, a.1))
one_value_answer v t old new new' (Err value_error.TooLong) (Err value_error.Unfit) known a b e = let both = sym a.0 ∙ b.0 in absurd cc
one_value_answer v t old new new' (Err value_error.TooLong) (Err value_error.TooLong) known a b e = (refl, b.2 ∙ sym a.2)
one_value_answer v t old new new' (Err value_error.TooLong) (Err (value_error.Write m)) known a b e = absurd (omega (arith, b.0.short, a.1))
one_value_answer v t old new new' (Err (value_error.Write n)) (Ok m) known a b e = absurd (omega (arith, a.1, b.1, e))
one_value_answer v t old new new' (Err (value_error.Write n)) (Err value_error.Unfit) known a b e = let both = sym a.0.fits ∙ b.0 in absurd cc
one_value_answer v t old new new' (Err (value_error.Write n)) (Err value_error.TooLong) known a b e = absurd (omega (arith, a.0.short, b.1))
one_value_answer v t old new new' (Err (value_error.Write n)) (Err (value_error.Write m)) known a b e = (ap (λ (k : ℕ). Err (value_error.Write k)) e, left_once old new new' (values_bytes (value_of v)) n m known e a.2 b.2)

-- ---- values that are bound, and raw cells

module _ {X : Type 0} (Is : X → Type 0) (Same : X → X → Type 0) (same : (x y : X) → Is x → Is y → Same x y) (v : Value) (t : Option TypeTree) where
  made_once : (r r' : Result X BindError) → Makes Is v t r → Makes Is v t r' → AreSame Same r r'
  made_once (Ok x) (Ok y) a b = same x y a.1 b.1
  made_once (Ok x) (Err bind_error.Unfit) a b = let both = sym a.0.fits ∙ b in absurd cc
  made_once (Ok x) (Err bind_error.TooLong) a b = absurd (omega (arith, a.0.short, b.1))
  made_once (Ok x) (Err bind_error.NoMemory) a b = tt
  made_once (Err bind_error.Unfit) (Ok y) a b = let both = sym a ∙ b.0.fits in absurd cc
  made_once (Err bind_error.Unfit) (Err bind_error.Unfit) a b = tt
  made_once (Err bind_error.Unfit) (Err bind_error.TooLong) a b = let both = sym a ∙ b.0 in absurd cc
  made_once (Err bind_error.Unfit) (Err bind_error.NoMemory) a b = let both = sym a ∙ b.0.fits in absurd cc
  made_once (Err bind_error.TooLong) (Ok y) a b = absurd (omega (arith, b.0.short, a.1))
  made_once (Err bind_error.TooLong) (Err bind_error.Unfit) a b = let both = sym a.0 ∙ b in absurd cc
  made_once (Err bind_error.TooLong) (Err bind_error.TooLong) a b = tt
  made_once (Err bind_error.TooLong) (Err bind_error.NoMemory) a b = absurd (omega (arith, b.0.short, a.1))
  made_once (Err bind_error.NoMemory) (Ok y) a b = tt
  made_once (Err bind_error.NoMemory) (Err bind_error.Unfit) a b = let both = sym a.0.fits ∙ b in absurd cc
  made_once (Err bind_error.NoMemory) (Err bind_error.TooLong) a b = absurd (omega (arith, a.0.short, b.1))
  made_once (Err bind_error.NoMemory) (Err bind_error.NoMemory) a b = tt

pub one_bound : OneAnswerOfBindValue
one_bound v t r r' a b = made_once (IsBound v t) (λ x y. bound_of x ≡ bound_of y) (λ x y p q. p.is ∙ sym q.is) v t r r' a b

pub one_raw : OneAnswerOfRawValue
one_raw v t r r' a b = made_once (IsRaw v t) (λ x y. value_of x ≡ value_of y) (λ x y p q. p.is ∙ sym q.is) v t r r' a b
