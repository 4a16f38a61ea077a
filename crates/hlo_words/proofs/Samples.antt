-- What the words of the commands say, at examples.
use Rattle.std.proofs.Common.{◌≡◌, ℕ, ◌+◌, refl, sym, ◌∙◌, ap, arith, [], ◌∷◌, length, codes, Some, None, true, false}
use Rattle.clap.specs.Faults.{fault_of}
use Rattle.clap.specs.Simple.{matches_of}
use Rattle.std.specs.Str.Parse.{AllDigits, digits_value}
use Rattle.std.proofs.lemmas.Fmt.{decimal_digit, digits_value-decimal}
use Rattle.std.proofs.lemmas.Str.Parse.{IsNumeralModel, numerals_by_value, tells_digits}
use Rattle.clap.proofs.OnLiterals.{clap_on_literals}
use Rattle.clap.specs.declared.error.kind.ErrorKind.TheVariants.{ArgumentConflict, DisplayHelp, UnknownArgument}
use Rattle.hlo_words.specs.Lines.{files_app, opt_app, turns_app}
use Rattle.hlo_words.specs.Settings.{IsNumberIn, IsOptSettings, IsRunSettings, IsRunIlSettings}

-- files in their order, one of them behind `--`, and the turns between them

mixed_says : IsRunSettings (codes "run" ∷ codes "a.c" ∷ codes "--turns" ∷ codes "5" ∷ codes "--" ∷ codes "-b" ∷ [])
    (record { turns = 5; files = codes "a.c" ∷ codes "-b" ∷ [] })
unfolding clap_on_literals
mixed_says = record {
  rows = matches_of (turns_app (codes "run")) (codes "run" ∷ codes "a.c" ∷ codes "--turns" ∷ codes "5" ∷ codes "--" ∷ codes "-b" ∷ []);
  read = record { taken = refl; found = refl };
  settings = record {
    turns = record { spelled = sym (decimal_digit 5 (omega arith)); least = omega arith; most = omega arith };
    files = record { given = refl; some = omega arith; most = omega arith };
  };
}

-- a profile and the flag between files, and no limit
profiled_says : IsOptSettings (codes "opt" ∷ codes "a.c" ∷ codes "--profile" ∷ codes "p.txt" ∷ codes "--stats" ∷ codes "b.c" ∷ [])
    (record { limit = 67108864; budget = 100; passes = 4; profile = Some (codes "p.txt"); stats = true; files = codes "a.c" ∷ codes "b.c" ∷ [] })
unfolding clap_on_literals
profiled_says = record {
  rows = matches_of opt_app (codes "opt" ∷ codes "a.c" ∷ codes "--profile" ∷ codes "p.txt" ∷ codes "--stats" ∷ codes "b.c" ∷ []);
  read = record { taken = refl; found = refl };
  limit = refl;
  budget = refl;
  passes = refl;
  profile = refl;
  stats = refl;
  files = record { given = refl; some = omega arith; most = omega arith };
}

-- a limit alone
limited_says : IsOptSettings (codes "opt" ∷ codes "--limit=9" ∷ codes "a.c" ∷ [])
    (record { limit = 9; budget = 100; passes = 4; profile = None; stats = false; files = codes "a.c" ∷ [] })
unfolding clap_on_literals
limited_says = record {
  rows = matches_of opt_app (codes "opt" ∷ codes "--limit=9" ∷ codes "a.c" ∷ []);
  read = record { taken = refl; found = refl };
  limit = record { spelled = sym (decimal_digit 9 (omega arith)); least = omega arith; most = omega arith };
  budget = refl;
  passes = refl;
  profile = refl;
  stats = refl;
  files = record { given = refl; some = omega arith; most = omega arith };
}

-- a number of passes alone
passes_say : IsOptSettings (codes "opt" ∷ codes "a.c" ∷ codes "--passes" ∷ codes "8" ∷ [])
    (record { limit = 67108864; budget = 100; passes = 8; profile = None; stats = false; files = codes "a.c" ∷ [] })
unfolding clap_on_literals
passes_say = record {
  rows = matches_of opt_app (codes "opt" ∷ codes "a.c" ∷ codes "--passes" ∷ codes "8" ∷ []);
  read = record { taken = refl; found = refl };
  limit = refl;
  budget = refl;
  passes = record { spelled = sym (decimal_digit 8 (omega arith)); least = omega arith; most = omega arith };
  profile = refl;
  stats = refl;
  files = record { given = refl; some = omega arith; most = omega arith };
}

-- a budget of nothing
budget_says : IsOptSettings (codes "opt" ∷ codes "--budget" ∷ codes "0" ∷ codes "a.c" ∷ [])
    (record { limit = 67108864; budget = 0; passes = 4; profile = None; stats = false; files = codes "a.c" ∷ [] })
unfolding clap_on_literals
budget_says = record {
  rows = matches_of opt_app (codes "opt" ∷ codes "--budget" ∷ codes "0" ∷ codes "a.c" ∷ []);
  read = record { taken = refl; found = refl };
  limit = refl;
  budget = record { spelled = sym (decimal_digit 0 (omega arith)); least = omega arith; most = omega arith };
  passes = refl;
  profile = refl;
  stats = refl;
  files = record { given = refl; some = omega arith; most = omega arith };
}

-- passes outside their range, and with a leading zero
nine_refused : (n : ℕ) → IsNumberIn 1 8 (codes "9") n → ⊥
nine_refused n h =
    let most = h.most in
    let same : 57 ∷ [] ≡ (48 + n) ∷ [] = h.spelled ∙ decimal_digit n (omega arith) in
    let digit : 57 ≡ 48 + n = cc same in
    absurd (omega (arith, digit))

none_refused : (n : ℕ) → IsNumberIn 1 8 (codes "0") n → ⊥
none_refused n h =
    let least = h.least in
    let most = h.most in
    let same : 48 ∷ [] ≡ (48 + n) ∷ [] = h.spelled ∙ decimal_digit n (omega arith) in
    let digit : 48 ≡ 48 + n = cc same in
    absurd (omega (arith, digit))

padded_refused : (n : ℕ) → IsNumberIn 1 8 (codes "04") n → ⊥
padded_refused n h =
    let most = h.most in
    let long : 2 ≡ 1 = ap length (h.spelled ∙ decimal_digit n (omega arith)) in
    absurd (omega (arith, long))

-- a budget above its range
own : IsNumeralModel (AllDigits 10) (digits_value 10)
own = numerals_by_value (AllDigits 10) tells_digits

dear_refused : (n : ℕ) → IsNumberIn 0 1000 (codes "1001") n → ⊥
dear_refused n h =
    let most = h.most in
    let same : 1001 ≡ n = ap (digits_value 10) h.spelled ∙ digits_value-decimal own n (omega (arith, most)) in
    absurd (omega (arith, same))

-- no turns are given
plain_says : IsRunIlSettings (codes "runil" ∷ codes "w.il" ∷ []) (record { turns = 1000000000; file = codes "w.il" })
unfolding clap_on_literals
plain_says = record {
  rows = matches_of (turns_app (codes "runil")) (codes "runil" ∷ codes "w.il" ∷ []);
  read = record { taken = refl; found = refl };
  turns = refl;
  file = refl;
}

-- an option that is given twice, one of another command, and help
twice_refused : fault_of (turns_app (codes "run")) (codes "run" ∷ codes "--turns=1" ∷ codes "--turns=1" ∷ codes "a.c" ∷ []) ≡ ArgumentConflict ∷ []
unfolding clap_on_literals
twice_refused = refl

passes_twice : fault_of opt_app (codes "opt" ∷ codes "--passes=2" ∷ codes "a.c" ∷ codes "--passes=3" ∷ []) ≡ ArgumentConflict ∷ []
unfolding clap_on_literals
passes_twice = refl

budget_twice : fault_of opt_app (codes "opt" ∷ codes "--budget=2" ∷ codes "a.c" ∷ codes "--budget=2" ∷ []) ≡ ArgumentConflict ∷ []
unfolding clap_on_literals
budget_twice = refl

other_refused : fault_of (files_app (codes "check")) (codes "check" ∷ codes "--turns" ∷ codes "1" ∷ codes "a.c" ∷ []) ≡ UnknownArgument ∷ []
unfolding clap_on_literals
other_refused = refl

help_refused : fault_of (files_app (codes "check")) (codes "check" ∷ codes "a.c" ∷ codes "--help" ∷ []) ≡ DisplayHelp ∷ []
unfolding clap_on_literals
help_refused = refl
