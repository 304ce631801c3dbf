-- The files of a capture, or of summaries, that a command line names.
use Rattle.std.specs.Prelude.{◌≡◌, ◌≢◌, ℕ, true, List, [], ◌∷◌, codes, map}
use Rattle.std.specs.Borrow.{Bor}
use Rattle.std.specs.List.{All}
use Rattle.cqlp_options.specs.declared.capture.CaptureOptions.{CaptureOptions}
use Rattle.cqlp_options.specs.declared.merge.MergeOptions.{MergeOptions}

abbrev pub texts_of : List (Bor (List ℕ)) → List (List ℕ)
texts_of = map (λ text. text.now)

-- the paths of the files behind the first, in order
abbrev pub more_files : CaptureOptions → List (List ℕ)
more_files options = texts_of options.more.items

-- the paths of all files, in order
abbrev pub all_files : CaptureOptions → List (List ℕ)
all_files options = options.file.now ∷ more_files options

-- standard input is none of several files
pub record GoesAlone (first : List ℕ) (others : List (List ℕ)) : Type 0 where
  pub first_alone : first ≡ codes "-" → others ≡ []
  pub no_other : All (λ file. file ≢ codes "-") others

-- What is followed goes alone.
abbrev pub FollowsOne : CaptureOptions → Type 0
FollowsOne options = options.follow ≡ true → more_files options ≡ []

abbrev pub IsInputAlone : CaptureOptions → Type 0
IsInputAlone options = GoesAlone options.file.now (more_files options)

-- ---- of summaries

abbrev pub summary_files : MergeOptions → List (List ℕ)
summary_files options = options.file.now ∷ texts_of options.more.items

abbrev pub IsMergeInputAlone : MergeOptions → Type 0
IsMergeInputAlone options = GoesAlone options.file.now (texts_of options.more.items)
