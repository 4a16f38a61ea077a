-- What a rule has to do with the calls of a lock. A pass is given by its number and by what it knows.
use Rattle.std.specs.Prelude.{◌≡◌, ◌≢◌, ℕ, List, [], ◌∷◌, ◌++◌, Option, Some, None, ⊤, slice_set}
use mathlib.Core.Option.{some}
use lib.ListN.{get_elem?}
use Rattle.named_lock.specs.declared.view.Known.{Known}
use Rattle.named_lock.specs.Known.{notes_of, AreAllPasses}

module _ {M S N : Type 0} (holds : M → S → List (Option N) → Type 0) where
  -- the rule holds for the state and the notes of all live passes, and the pass is one of them, at its number
  pub record HoldsForAll (number : ℕ) (k : Known M S N) (x : S) : Type 0 where
    pub passes : List (Option (Known M S N))
    pub all : AreAllPasses k.name k.all passes
    pub mine : get_elem? passes number ≡ some (Some k)
    pub rule : holds k.name x (notes_of passes)

  abbrev pub Stands : ℕ → Option (Known M S N) → S → Type 0
  Stands number None x = ⊥
  Stands number (Some k) x = HoldsForAll number k x

  -- the rule holds for the state, and the pass's note is the only one
  pub record HoldsForOne (number : ℕ) (k : Known M S N) (x : S) : Type 0 where
    pub notes : List (Option N)
    pub mine : get_elem? notes number ≡ some (Some k.note)
    pub others : (j : ℕ) (m : Option N) → j ≢ number → get_elem? notes j ≡ some m → m ≡ None
    pub rule : holds k.name x notes

  abbrev pub StandsAlone : ℕ → Option (Known M S N) → S → Type 0
  StandsAlone number None x = ⊥
  StandsAlone number (Some k) x = HoldsForOne number k x

  -- with whatever list of notes that has the pass's note at its number the rule holds for x, it holds for y with the pass's note replaced
  abbrev pub Replaces : ℕ → Option (Known M S N) → S → S → N → Type 0
  Replaces number None x y note = ⊤
  Replaces number (Some k) x y note = (notes : List (Option N)) → get_elem? notes number ≡ some (Some k.note) → holds k.name x notes
      → holds k.name y (slice_set notes number (Some note))

  -- wherever the rule holds for any state, it holds with the pass's note replaced by one note, and the other added for a new pass
  abbrev pub MaySplit : ℕ → Option (Known M S N) → N → N → Type 0
  MaySplit number None mine other = ⊤
  MaySplit number (Some k) mine other = (x : S) (notes : List (Option N)) → get_elem? notes number ≡ some (Some k.note) → holds k.name x notes
      → holds k.name x (slice_set notes number (Some mine) ++ Some other ∷ [])

  -- wherever the rule holds for any state, it holds with one note in place of those of two passes
  abbrev pub MayEnd : ℕ → Option (Known M S N) → ℕ → Option (Known M S N) → N → Type 0
  MayEnd i None j w note = ⊤
  MayEnd i (Some k) j None note = ⊤
  MayEnd i (Some k) j (Some l) note = (x : S) (notes : List (Option N)) → i ≢ j → get_elem? notes i ≡ some (Some k.note)
      → get_elem? notes j ≡ some (Some l.note) → holds k.name x notes
      → holds k.name x (slice_set (slice_set notes i (Some note)) j None)
