-- Sites joined to groups, the last one first.
use Rattle.std.proofs.Common.{◌≡◌, ℕ, suc, ◌+◌, ◌<◌, ◌≤◌, List, [], ◌∷◌, ◌++◌, map, Bool, true, false, Option, Some, None, refl, ap, sym, subst, ◌∙◌}
use Rattle.std.proofs.Common.{arith, length, append_assoc, Bor}
use Rattle.std.specs.Prelude.{◌&&◌, ◌==◌, not, if◌then◌else◌}
use Rattle.std.specs.List.{AllByRecursion}
use Rattle.std.specs.Option.{option_map}
use Rattle.std.proofs.lemmas.Bool.{eqb-false}
use Rattle.std.proofs.lemmas.List.{append-nil, length-map}
use Rattle.il_core.specs.Limits.{max_size}
use Rattle.il_core.proofs.Found.{found_all}
use Rattle.il_laws.specs.Clone.{Fixed}
use Rattle.const_prop.specs.Sites.{words_at}
use Rattle.plan_laws.specs.Choosing.{is_candidate}
use Rattle.plan_laws.specs.Groups.{Group, fixed_from, fixed_of, grouped, is_empty, joined, may_move, reads_of}
use Rattle.plan_laws.specs.Summary.{CallSite, call_sites, numbered, summary_at}
use Rattle.call_graph.specs.Summaries.{Seen, site_of, summary_of}
use Rattle.call_graph.specs.declared.summary.Site.{Site}
use Rattle.call_graph.specs.declared.summary.Summary.{Summary}
use Rattle.clone_groups.specs.Gathering.{IsSmall, all_joined, site_at}
use Rattle.clone_groups.specs.Keys.{fixed_in}
use Rattle.clone_groups.proofs.Tables.{is_nothing}

-- sites of two lists
pub all_joined_append : (ss : List Seen) (main : ℕ) (xs ys : List CallSite) (gs : List Group)
    → all_joined ss main (xs ++ ys) gs ≡ all_joined ss main xs (all_joined ss main ys gs)
all_joined_append ss main [] ys gs = refl
all_joined_append ss main (x ∷ xs) ys gs =
    ap (λ (hs : List Group). if may_move ss main x then joined x (fixed_of ss x) hs else hs) (all_joined_append ss main xs ys gs)

grouped_is : (ss : List Seen) (main : ℕ) (xs : List CallSite) → all_joined ss main xs [] ≡ grouped ss main xs
grouped_is ss main [] = refl
grouped_is ss main (x ∷ xs) = ap (λ (hs : List Group). if may_move ss main x then joined x (fixed_of ss x) hs else hs) (grouped_is ss main xs)

-- the last site of a caller
numbered_last : (pid k n : ℕ) (before : List Site) (s : Site) → n ≡ k + length before
    → numbered pid k (map site_of (before ++ s ∷ [])) ≡ numbered pid k (map site_of before) ++ site_at pid n s ∷ []
numbered_last pid k n [] s e =
    let same : k ≡ n = omega arith in
    ap (λ (m : ℕ). site_at pid m s ∷ []) same
numbered_last pid k n (x ∷ before) s e =
    ap (λ (l : List CallSite). site_at pid k x ∷ l) (numbered_last pid (suc k) n before s (omega arith))

-- the last caller
sites_last : (before : List Summary) (r : Summary)
    → call_sites (map summary_of (before ++ r ∷ [])) ≡ call_sites (map summary_of before) ++ numbered r.pid 0 (map site_of r.sites)
sites_last [] r = append-nil (numbered r.pid 0 (map site_of r.sites))
sites_last (x ∷ before) r =
    ap (λ (l : List CallSite). numbered x.pid 0 (map site_of x.sites) ++ l) (sites_last before r)
    ∙ sym (append_assoc (numbered x.pid 0 (map site_of x.sites)) (call_sites (map summary_of before)) (numbered r.pid 0 (map site_of r.sites)))

-- what holds of all holds of the first ones and of the last one
pub record Parts (before : List Summary) (r : Summary) : Type 0 where
  pub front : AllByRecursion IsSmall (map summary_of before)
  pub last : IsSmall (summary_of r)

parts : (before : List Summary) (r : Summary) → AllByRecursion IsSmall (map summary_of (before ++ r ∷ [])) → Parts before r
parts [] r h = record { front = tt; last = h.0 }
parts (x ∷ before) r h = let rest = parts before r h.1 in record { front = (h.0, rest.front); last = rest.last }

module _ (ss : List Seen) (main : ℕ) where
  -- the loop over a caller's sites
  pub record Left (pid : ℕ) (sites left : List Site) (old now : List Group) : Type 0 where
    pub short : length left ≤ max_size
    pub rest : all_joined ss main (numbered pid 0 (map site_of left)) now ≡ all_joined ss main (numbered pid 0 (map site_of sites)) old

  pub one_joined : (pid : ℕ) (sites left before : List Site) (s : Site) (old now new : List Group) (n : ℕ) → left ≡ before ++ s ∷ [] → n ≡ length before
      → Left pid sites left old now → new ≡ all_joined ss main (site_at pid n s ∷ []) now → Left pid sites before old new
  one_joined pid sites left before s old now new n e number l is =
      let size = length_before in
      let most = l.short in
      record {
        short = omega arith;
        rest = ap (all_joined ss main (numbered pid 0 (map site_of before))) is
            ∙ sym (all_joined_append ss main (numbered pid 0 (map site_of before)) (site_at pid n s ∷ []) now)
            ∙ ap (λ (xs : List CallSite). all_joined ss main xs now) (sym (numbered_last pid 0 n before s (omega arith)))
            ∙ ap (λ (xs : List Site). all_joined ss main (numbered pid 0 (map site_of xs)) now) (sym e) ∙ l.rest;
      }
    where
      longer : (xs : List Site) → length (xs ++ s ∷ []) ≡ suc (length xs)
      longer [] = refl
      longer (y ∷ xs) = ap suc (longer xs)

      length_before : length left ≡ suc (length before)
      length_before = ap length e ∙ longer before

  -- the loop over the callers
  pub record LeftCallers (rs left : List Summary) (now : List Group) : Type 0 where
    pub small : AllByRecursion IsSmall (map summary_of left)
    pub rest : all_joined ss main (call_sites (map summary_of left)) now ≡ grouped ss main (call_sites (map summary_of rs))

  pub no_groups : (rs : List Summary) (now : List Group) → AllByRecursion IsSmall (map summary_of rs) → now ≡ [] → LeftCallers rs rs now
  no_groups rs now small none = record {
    small = small;
    rest = ap (all_joined ss main (call_sites (map summary_of rs))) none ∙ grouped_is ss main (call_sites (map summary_of rs));
  }

  pub few_sites : (rs left before : List Summary) (r : Summary) (now : List Group) → left ≡ before ++ r ∷ [] → LeftCallers rs left now
      → length r.sites ≤ max_size
  few_sites rs left before r now e l =
      let all = parts before r (subst (λ (xs : List Summary). AllByRecursion IsSmall (map summary_of xs)) e l.small) in
      let few : length (map site_of r.sites) ≤ max_size = all.last.sites in
      let same : length (map site_of r.sites) ≡ length r.sites = length-map r.sites site_of in
      omega arith

  pub callers_joined : (rs left before : List Summary) (r : Summary) (now new : List Group) → left ≡ before ++ r ∷ [] → LeftCallers rs left now
      → new ≡ all_joined ss main (numbered r.pid 0 (map site_of r.sites)) now → LeftCallers rs before new
  callers_joined rs left before r now new e l is = record {
    small = (parts before r (subst (λ (xs : List Summary). AllByRecursion IsSmall (map summary_of xs)) e l.small)).front;
    rest = ap (all_joined ss main (call_sites (map summary_of before))) is
        ∙ sym (all_joined_append ss main (call_sites (map summary_of before)) (numbered r.pid 0 (map site_of r.sites)) now)
        ∙ ap (λ (xs : List CallSite). all_joined ss main xs now) (sym (sites_last before r))
        ∙ ap (λ (xs : List Summary). all_joined ss main (call_sites (map summary_of xs)) now) (sym e) ∙ l.rest;
  }

  pub no_callers : (rs left : List Summary) (now : List Group) → length left ≡ 0 → LeftCallers rs left now
      → now ≡ grouped ss main (call_sites (map summary_of rs))
  no_callers rs left now none l =
      ap (λ (xs : List Summary). all_joined ss main (call_sites (map summary_of xs)) now) (sym (is_nothing left none)) ∙ l.rest

  pub no_sites_left : (pid : ℕ) (sites left : List Site) (old now : List Group) → length left ≡ 0 → Left pid sites left old now
      → now ≡ all_joined ss main (numbered pid 0 (map site_of sites)) old
  no_sites_left pid sites left old now none l =
      ap (λ (xs : List Site). all_joined ss main (numbered pid 0 (map site_of xs)) now) (sym (is_nothing left none)) ∙ l.rest

  -- one site
  module _ (caller number : ℕ) (s : Site) (gs : List Group) where
    abbrev x : CallSite
    x = site_at caller number s

    stays_if : (b : Bool) → b ≡ false → gs ≡ (if b then joined x (fixed_of ss x) gs else gs)
    stays_if true e = absurd cc
    stays_if false e = refl

    moves_if : (b : Bool) (fs : List Fixed) → b ≡ true → fs ≡ fixed_of ss x → joined x fs gs ≡ (if b then joined x (fixed_of ss x) gs else gs)
    moves_if true fs e same = ap (λ (l : List Fixed). joined x l gs) same
    moves_if false fs e same = absurd cc

    pub no_candidate : is_candidate main x ≡ false → gs ≡ all_joined ss main (x ∷ []) gs
    no_candidate e = stays_if (may_move ss main x) (ap (λ (b : Bool). b && not (is_empty (fixed_of ss x))) e)

    and_no : (a b : Bool) → b ≡ false → (a && b) ≡ false
    and_no true b e = e
    and_no false b e = refl

    pub nothing_known : fixed_of ss x ≡ [] → gs ≡ all_joined ss main (x ∷ []) gs
    nothing_known e = stays_if (may_move ss main x) (and_no (is_candidate main x) (not (is_empty (fixed_of ss x)))
        (ap (λ (l : List Fixed). not (is_empty l)) e))

    pub fixed_is : (o : Option (Bor Summary)) (r : Bor Summary) → option_map (λ (b : Bor Summary). summary_of b.now) o ≡ summary_at ss s.callee → o ≡ Some r
        → fixed_from 0 r.now.reads (words_at s.known) ≡ fixed_of ss x
    fixed_is o r e is =
        ap (λ (q : Option Seen). fixed_from 0 (reads_of q) (words_at s.known)) (ap (option_map (λ (b : Bor Summary). summary_of b.now)) (sym is) ∙ e)

    pub fixed_none : (o : Option (Bor Summary)) → option_map (λ (b : Bor Summary). summary_of b.now) o ≡ summary_at ss s.callee → o ≡ None → fixed_of ss x ≡ []
    fixed_none o e none =
        ap (λ (q : Option Seen). fixed_from 0 (reads_of q) (words_at s.known)) (sym e ∙ ap (option_map (λ (b : Bor Summary). summary_of b.now)) none)

    some_fixed : (fs : List Fixed) → 0 < length fs → not (is_empty fs) ≡ true
    some_fixed [] lt = absurd (omega arith)
    some_fixed (f ∷ fs) lt = refl

    pub moves_here : (fs : List Fixed) → is_candidate main x ≡ true → 0 < length fs → fs ≡ fixed_of ss x → joined x fs gs ≡ all_joined ss main (x ∷ []) gs
    moves_here fs e some same =
        let test : may_move ss main x ≡ true
        = ap (λ (b : Bool). b && not (is_empty (fixed_of ss x))) e ∙ ap (λ (l : List Fixed). not (is_empty l)) (sym same) ∙ some_fixed fs some in
        moves_if (may_move ss main x) fs test same

  pub small_reads : (pid : ℕ) (o : Option (Bor Summary)) (r : Bor Summary) → AllByRecursion IsSmall ss
      → option_map (λ (b : Bor Summary). summary_of b.now) o ≡ summary_at ss pid → o ≡ Some r → length r.now.reads ≤ 31
  small_reads pid o r all e is =
      let found : summary_at ss pid ≡ Some (summary_of r.now) = sym e ∙ ap (option_map (λ (b : Bor Summary). summary_of b.now)) is in
      let one = (found_all (λ (s : Seen). s.pid) IsSmall pid ss (summary_of r.now) all found).0 in
      let size = one.reads in
      let most = one.params in
      omega arith

-- some constants
pub some_items : (xs : List (ℕ × ℕ)) (n : ℕ) (b : Bool) → b ≡ (n == 0) → b ≡ false → n ≡ length xs → 0 < length (fixed_in xs)
some_items [] n b e is size = absurd (eqb-false n 0 (sym e ∙ is) size)
some_items (x ∷ xs) n b e is size = omega arith
