-- Writing the text of a profile: its lines, and what reading them gives.
use Rattle.std.specs.Prelude.{◌≡◌, ℕ, List, [], ◌∷◌, ◌++◌, Some, None, nat_eq, ⊤}
use Rattle.std.specs.List.{AllByRecursion, IsDistinct}
use Rattle.std.specs.List.Sorted.{IsPermutation, IsNonDecreasingBy}
use Rattle.std.specs.Map.{keys_of, lookup}
use Rattle.profile.specs.Counts.{Profiled}
use Rattle.profile.specs.Names.{Names, Tallied}
use Rattle.profile.specs.Texts.{Line, Entry, Site, IsLine, lines_text, text}

-- a line for each of these call sites of a name
abbrev pub site_lines : List ℕ → List (ℕ × ℕ) → List Line
site_lines n [] = []
site_lines n (s ∷ sites) = Site n s.0 s.1 ∷ site_lines n sites

-- the lines of one name: its entry, also where that is 0, and then each of its call sites once, by rising number
pub record AreOfName (n : List ℕ) (t : Tallied) (ls : List Line) : Type 0 where
  pub sites : List (ℕ × ℕ)
  pub each : IsPermutation t.sites sites
  pub rising : IsNonDecreasingBy (λ s. s.0) sites
  pub are : ls ≡ Entry n t.entry ∷ site_lines n sites

-- the lines of all names, in the order in which they were first named
abbrev pub AreOf : Names → List Line → Type 0
AreOf [] ls = ls ≡ []
AreOf (e ∷ ns) ls = (here rest : List Line) × AreOfName e.0 e.1 here × AreOf ns rest × (ls ≡ here ++ rest)

-- the bytes are the text of the profile's lines
pub record IsWritten (bytes : List ℕ) (p : Profiled) : Type 0 where
  pub names : Names
  pub named : p ≡ Some names
  pub lines : List Line
  pub of : AreOf names lines
  pub are : AllByRecursion IsLine lines
  pub spelled : bytes ≡ text lines

-- The same names in the same order, each with the same count of its entry, and the same counts of the same call sites.
abbrev pub HaveSameCounts : Names → Names → Type 0
HaveSameCounts [] [] = ⊤
HaveSameCounts [] (m ∷ ms) = ⊥
HaveSameCounts (n ∷ ns) [] = ⊥
HaveSameCounts (n ∷ ns) (m ∷ ms) =
    (m.0 ≡ n.0) × (m.1.entry ≡ n.1.entry) × ((k : ℕ) → lookup (nat_eq k) m.1.sites ≡ lookup (nat_eq k) n.1.sites) × HaveSameCounts ns ms

-- the same profile, but for the order in which call sites of one name were set
abbrev pub IsSameProfile : Profiled → Profiled → Type 0
IsSameProfile None None = ⊤
IsSameProfile None (Some ms) = ⊥
IsSameProfile (Some ns) None = ⊥
IsSameProfile (Some ns) (Some ms) = HaveSameCounts ns ms

-- What the steps of writing do.

-- lines were added
pub record Adds (ls : List Line) (old new : List ℕ) : Type 0 where
  pub are : AllByRecursion IsLine ls
  pub bytes : new ≡ old ++ lines_text ls

-- each call site of a name stands once in its table
abbrev pub HasEachOnce : Tallied → Type 0
HasEachOnce t = IsDistinct nat_eq (keys_of t.sites)

-- the lines of a name were added
pub record AddsName (n : List ℕ) (t : Tallied) (old new : List ℕ) : Type 0 where
  pub lines : List Line
  pub of : AreOfName n t lines
  pub once : HasEachOnce t
  pub adds : Adds lines old new

-- the lines of names were added
pub record AddsNames (ns : Names) (old new : List ℕ) : Type 0 where
  pub lines : List Line
  pub of : AreOf ns lines
  pub once : AllByRecursion (λ e. HasEachOnce e.1) ns
  pub adds : Adds lines old new

-- the lines of the names before those that are left were added
pub record AddsBefore (ns left : Names) (old new : List ℕ) : Type 0 where
  pub done : Names
  pub whole : ns ≡ done ++ left
  pub adds : AddsNames done old new
