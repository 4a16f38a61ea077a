-- The clone groups at small call graphs, one for each clause of their rule.
use Rattle.std.proofs.Common.{◌≡◌, ℕ, List, [], ◌∷◌, map, Bool, refl, true, false}
use Rattle.std.specs.Prelude.{Option, Some, None}
use Rattle.il_laws.specs.Clone.{Fixed}
use Rattle.il_laws.specs.Known.{KnownSite}
use Rattle.il_laws.specs.Table.{Row}
use Rattle.il_laws.proofs.Rows.{squaring, squares_to, square, squares}
use Rattle.plan_laws.specs.Summary.{Summary, summary, summaries, numbered}
use Rattle.plan_laws.specs.Groups.{Member, Taken, Spent, clone_fits, groups, moves}
use Rattle.plan_laws.specs.Dead.{reachable, dead_routines}

abbrev fixed_to : ℕ → ℕ → Fixed
fixed_to param value = record { param = param; word = record { 0 = value } }

abbrev at_site : ℕ → ℕ → Member
at_site caller site = record { caller = caller; site = site }

abbrev new_for : ℕ → List Fixed → List Member → ℕ → ℕ → Taken
new_for callee fixed members count clone =
    record { group = record { callee = callee; fixed = fixed; members = members; count = count }; clone = clone; is_new = true }

abbrev old_for : ℕ → List Fixed → List Member → ℕ → ℕ → Taken
old_for callee fixed members count clone =
    record { group = record { callee = callee; fixed = fixed; members = members; count = count }; clone = clone; is_new = false }

abbrev row : ℕ → List Fixed → ℕ → Row
row callee fixed clone = record { callee = callee; fixed = fixed; clone = clone }

-- three calls of a square with 4: what is known of `main`
main_size : (summary squares).size ≡ 11
main_size = refl

main_known : map (λ (s : KnownSite). s.known) (summary squares).sites ≡ (Some 4 ∷ []) ∷ (Some 4 ∷ []) ∷ (Some 4 ∷ []) ∷ []
main_known = refl

main_reads : (summary square).reads ≡ true ∷ []
main_reads = refl

-- one group at its limit, none below it, and an old clone at no cost
abbrev fours : List Member
fours = at_site 1 0 ∷ at_site 1 1 ∷ at_site 1 2 ∷ []

three_fours : groups (summaries squaring) [] 1 2 207 ≡ new_for 0 (fixed_to 0 4 ∷ []) fours 3 2 ∷ []
three_fours = refl

at_its_cost : groups (summaries squaring) [] 1 2 206 ≡ new_for 0 (fixed_to 0 4 ∷ []) fours 3 2 ∷ []
at_its_cost = refl

none_below : groups (summaries squaring) [] 1 2 205 ≡ []
none_below = refl

used_again : groups (summaries squaring) (row 0 (fixed_to 0 4 ∷ []) 7 ∷ []) 1 8 0 ≡ old_for 0 (fixed_to 0 4 ∷ []) fours 3 7 ∷ []
used_again = refl

-- its three sites go to the clone, once the table has it
all_move : moves (summaries squaring) (row 0 (fixed_to 0 4 ∷ []) 2 ∷ []) 1 (numbered 1 0 (summary squares).sites)
    ≡ record { site = 0; callee = 2 } ∷ record { site = 1; callee = 2 } ∷ record { site = 2; callee = 2 } ∷ []
all_move = refl

none_move : moves (summaries squaring) (row 0 (fixed_to 0 5 ∷ []) 2 ∷ row 3 (fixed_to 0 4 ∷ []) 4 ∷ []) 1 (numbered 1 0 (summary squares).sites) ≡ []
none_move = refl

-- then only the clone is reached
abbrev after_moves : List Summary
after_moves = summary square ∷ summary (squares_to 2 2 2) ∷ summary (record square { pid = 2 }) ∷ []

reached : reachable after_moves 1 ≡ 1 ∷ 2 ∷ []
reached = refl

dead : dead_routines after_moves 1 ≡ 0 ∷ []
dead = refl

-- routines with two parameters of which the second isn't read, and with one and a `loop` to block 0
abbrev routine : ℕ → ℕ → List Bool → Bool → List KnownSite → Summary
routine pid size reads looped sites =
    record {
      pid = pid;
      size = size;
      charge = 0;
      params = 2;
      reads = reads;
      returns = 1;
      regs = 2;
      arrays = 0;
      elements = 0;
      entry = 1;
      start_loop = looped;
      sites = sites;
    }

abbrev calls : ℕ → ℕ → List (Option ℕ) → KnownSite
calls callee count known = record { callee = callee; count = count; known = known }

abbrev mixed : List Summary
mixed =
    routine 0 5 (true ∷ false ∷ []) false []
    ∷ routine 1 4 (true ∷ []) true []
    ∷ routine 2 9 [] false (
    calls 0 1 (Some 4 ∷ Some 7 ∷ []) ∷ calls 0 1 (Some 3 ∷ Some 7 ∷ []) ∷ calls 1 2 (Some 5 ∷ []) ∷ calls 0 1 (Some 4 ∷ Some 9 ∷ [])
    ∷ calls 0 3 (None ∷ Some 7 ∷ []) ∷ calls 1 0 (Some 6 ∷ []) ∷ calls 1 1 (Some 4294967295 ∷ []) ∷ []
    )
    ∷ routine 3 6 [] false (calls 2 1 [] ∷ calls 0 1 (Some 4 ∷ None ∷ []) ∷ []) ∷ []

-- by count, then by callee, then by constants; what isn't read, isn't known or never runs makes no key
abbrev four_key : ℕ → Taken
four_key clone = new_for 0 (fixed_to 0 4 ∷ []) (at_site 2 0 ∷ at_site 2 3 ∷ at_site 3 1 ∷ []) 3 clone

abbrev five_key : ℕ → Taken
five_key clone = new_for 1 (fixed_to 0 5 ∷ []) (at_site 2 2 ∷ []) 2 clone

abbrev three_key : ℕ → Taken
three_key clone = new_for 0 (fixed_to 0 3 ∷ []) (at_site 2 1 ∷ []) 1 clone

abbrev last_key : ℕ → Taken
last_key clone = new_for 1 (fixed_to 0 4294967295 ∷ []) (at_site 2 6 ∷ []) 1 clone

all_taken : groups mixed [] 3 4 302 ≡ four_key 4 ∷ five_key 5 ∷ three_key 6 ∷ last_key 7 ∷ []
all_taken = refl

three_taken : groups mixed [] 3 4 301 ≡ four_key 4 ∷ five_key 5 ∷ three_key 6 ∷ []
three_taken = refl

-- an old clone takes neither cost nor PID
five_old : groups mixed (row 1 (fixed_to 0 5 ∷ []) 9 ∷ []) 3 10 230
    ≡ four_key 10 ∷ old_for 1 (fixed_to 0 5 ∷ []) (at_site 2 2 ∷ []) 2 9 ∷ three_key 11 ∷ []
five_old = refl

-- constants of one key by their numbers, those of lower parameters first
abbrev by_constants : List Summary
by_constants =
    routine 0 5 (true ∷ true ∷ []) false []
    ∷ routine 3 6 [] false (
    calls 0 1 (Some 4 ∷ Some 1 ∷ []) ∷ calls 0 1 (None ∷ Some 0 ∷ []) ∷ calls 0 1 (Some 4 ∷ None ∷ []) ∷ calls 0 1 (Some 3 ∷ Some 9 ∷ []) ∷ []
    ) ∷ []

in_order : map (λ (t : Taken). t.group.members) (groups by_constants [] 3 4 1000000)
    ≡ (at_site 3 3 ∷ []) ∷ (at_site 3 2 ∷ []) ∷ (at_site 3 0 ∷ []) ∷ (at_site 3 1 ∷ []) ∷ []
in_order = refl

-- calls of `main` make no group, and one that doesn't fit leaves room for a later one
abbrev one_large : List Summary
one_large =
    routine 0 20 (true ∷ []) false [] ∷ routine 1 4 (true ∷ []) false []
    ∷ routine 3 6 (true ∷ []) false (calls 0 5 (Some 1 ∷ []) ∷ calls 1 1 (Some 2 ∷ []) ∷ calls 3 8 (Some 2 ∷ []) ∷ []) ∷ []

small_fits : groups one_large [] 3 4 477 ≡ new_for 1 (fixed_to 0 2 ∷ []) (at_site 3 1 ∷ []) 1 4 ∷ []
small_fits = refl

-- the limits of a clone, of the routines of a program, and of PIDs
abbrev spent : ℕ → ℕ → Spent
spent routines next = record { cost = 100; routines = routines; next = next }

cost_fits : clone_fits (spent 9 9) 136 (record { size = 6; regs = 1; arrays = 0; elements = 0 }) ≡ true
cost_fits = refl

cost_above : clone_fits (spent 9 9) 135 (record { size = 6; regs = 1; arrays = 0; elements = 0 }) ≡ false
cost_above = refl

size_above : clone_fits (spent 9 9) 10000000000 (record { size = 65537; regs = 1; arrays = 0; elements = 0 }) ≡ false
size_above = refl

size_fits : clone_fits (spent 9 9) 10000000000 (record { size = 65536; regs = 1; arrays = 0; elements = 0 }) ≡ true
size_fits = refl

routines_fit : clone_fits (spent 4095 9) 136 (record { size = 6; regs = 1; arrays = 0; elements = 0 }) ≡ true
routines_fit = refl

routines_above : clone_fits (spent 4096 9) 136 (record { size = 6; regs = 1; arrays = 0; elements = 0 }) ≡ false
routines_above = refl

pid_fits : clone_fits (spent 9 131071) 136 (record { size = 6; regs = 1; arrays = 0; elements = 0 }) ≡ true
pid_fits = refl

pid_above : clone_fits (spent 9 131072) 136 (record { size = 6; regs = 1; arrays = 0; elements = 0 }) ≡ false
pid_above = refl
