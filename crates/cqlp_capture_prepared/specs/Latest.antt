-- Values under their keys, at most so many, of which the latest stay.
use Rattle.std.specs.Prelude.{◌≡◌, ℕ, ◌≤◌, ◌-◌, Bool, List, [], ◌∷◌, length, take}
use Rattle.std.specs.Option.{option_map_or}
use Rattle.std.specs.Map.{lookup_entry, remove_entry}

-- the one that was put or used last first
pub record Latest (K V : Type 0) : Type 0 where
  pub limit : ℕ
  pub entries : List (K × V)

-- there is memory for just as many as there may be
pub record HasRoom {X : Type 0} (limit : ℕ) (entries : List X) (capacity : ℕ) : Type 0 where
  pub some : 1 ≤ limit
  pub within : length entries ≤ limit
  pub room : capacity ≡ limit

module _ {K V : Type 0} where
  abbrev pub latest : ℕ → List (K × V) → Latest K V
  latest limit entries = record { limit = limit; entries = entries }

  abbrev pub none_yet : (limit : ℕ) → Latest K V
  none_yet limit = latest limit []

  -- in front of as many of the others as there are places for
  abbrev pub in_front : K × V → Latest K V → Latest K V
  in_front e l = latest l.limit (e ∷ take (l.limit - 1) l.entries)

  -- without the one whose key passes
  abbrev pub without : (K → Bool) → Latest K V → Latest K V
  without test l = latest l.limit (remove_entry test l.entries)

  -- A value is put under a key, in place of the one that was there.
  abbrev pub put : (K → K → Bool) → K → V → Latest K V → Latest K V
  put eq k v l = in_front (k, v) (without (eq k) l)

  -- The one whose key passes is used, if there is one.
  abbrev pub used : (K → Bool) → Latest K V → Latest K V
  used test l = option_map_or (λ e. in_front e (without test l)) (lookup_entry test l.entries) l
