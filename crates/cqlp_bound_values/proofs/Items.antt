-- Values, one after the other.
use Rattle.std.proofs.Common.{◌≡◌, ℕ, suc, ◌-◌, ◌<◌, ◌&&◌, Bool, false, [], ◌++◌, ap, arith, if◌then◌else◌}
use Rattle.cqlp_bound_values.specs.Bindings.{Values, are_whole, found, is_missing, is_whole, others}
use Rattle.cqlp_bound_values.specs.Texts.{item_text, items_text}
use Rattle.cqlp_bound_values.specs.declared.form.Form.{Form}

pub one_more : (n r : ℕ) → r ≡ n → 0 < r → n ≡ suc (n - 1)
one_more n r same some = omega arith

-- the first one, and those after it
pub items_at : (n m : ℕ) (f : Form) (is_first : Bool) (v : Values) → n ≡ suc m → items_text n f is_first v ≡ item_text f is_first v ++ (if is_missing (found v) then [] else items_text m f false (others v))
items_at n m f is_first v one = ap (λ k. items_text k f is_first v) one

pub whole_at : (n m : ℕ) (v : Values) → n ≡ suc m → are_whole n v ≡ (is_whole (found v) && are_whole m (others v))
whole_at n m v one = ap (λ k. are_whole k v) one
