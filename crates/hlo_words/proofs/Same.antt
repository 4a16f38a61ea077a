-- Words say one thing.
use Rattle.std.proofs.Common.{◌≡◌, ℕ, ◌^◌, ◌<◌, lit<, List, [], ◌∷◌, get_or, Option, Some, None, sym, ◌∙◌, ap, subst, arith}
use Rattle.std.specs.Prelude.{codes}
use Rattle.std.specs.Str.Parse.{AllDigits, digits_value}
use Rattle.std.proofs.lemmas.Fmt.{digits_value-decimal}
use Rattle.std.proofs.lemmas.Str.Parse.{IsNumeralModel, numerals_by_value, tells_digits}
use Rattle.clap.specs.Walk.{Row, Text, all_of, first_of}
use Rattle.hlo_words.specs.Settings.{AreFiles, HasBudget, HasLimit, HasPasses, HasTurns, is_set, IsCheckSettings, IsNumberIn, IsOptSettings, IsRunIlSettings}
use Rattle.hlo_words.specs.Settings.{IsRunSettings, IsSettingsOf, IsTrainSettings, IsValue}
use Rattle.hlo_words.specs.declared.settings.CheckSettings.{CheckSettings}
use Rattle.hlo_words.specs.declared.settings.OptSettings.{OptSettings}
use Rattle.hlo_words.specs.declared.settings.RunIlSettings.{RunIlSettings}
use Rattle.hlo_words.specs.declared.settings.RunSettings.{RunSettings}

own : IsNumeralModel (AllDigits 10) (digits_value 10)
own = numerals_by_value (AllDigits 10) tells_digits

same_some : {A : Type 0} {x y : A} (o : Option A) → o ≡ Some x → o ≡ Some y → x ≡ y
same_some {A} {x} {y} o a b = let both : Some x ≡ Some y = sym a ∙ b in cc

same_number : (low high : ℕ) (text : Text) (m n : ℕ) → high < 2 ^ 64 → IsNumberIn low high text m → IsNumberIn low high text n → m ≡ n
same_number low high text m n lt a b =
    let p = a.most in
    let q = b.most in
    sym (digits_value-decimal own m (omega arith)) ∙ ap (digits_value 10) (sym a.spelled ∙ b.spelled) ∙ digits_value-decimal own n (omega arith)

same_value : (default low high : ℕ) (o : Option Text) (m n : ℕ) → high < 2 ^ 64 → IsValue default low high o m → IsValue default low high o n → m ≡ n
same_value default low high None m n lt a b = a ∙ sym b
same_value default low high (Some text) m n lt a b = same_number low high text m n lt a b

same_turns : (rows : List Row) (m n : ℕ) → HasTurns rows m → HasTurns rows n → m ≡ n
same_turns rows m n a b = same_value 1000000000 0 1000000000000 (first_of (codes "turns") rows) m n (lit< tt) a b

same_limit : (rows : List Row) (m n : ℕ) → HasLimit rows m → HasLimit rows n → m ≡ n
same_limit rows m n a b = same_value 67108864 1 1073741824 (first_of (codes "limit") rows) m n (lit< tt) a b

same_budget : (rows : List Row) (m n : ℕ) → HasBudget rows m → HasBudget rows n → m ≡ n
same_budget rows m n a b = same_value 100 0 1000 (first_of (codes "budget") rows) m n (lit< tt) a b

same_passes : (rows : List Row) (m n : ℕ) → HasPasses rows m → HasPasses rows n → m ≡ n
same_passes rows m n a b = same_value 4 1 8 (first_of (codes "passes") rows) m n (lit< tt) a b

same_files : (rows : List Row) (xs ys : List Text) → AreFiles rows xs → AreFiles rows ys → xs ≡ ys
same_files rows xs ys a b = same_some _ a.given b.given

pub same_opt : (words : List Text) (s t : OptSettings) → IsOptSettings words s → IsOptSettings words t → s ≡ t
same_opt words s t a b =
    let rows = a.read.found ∙ sym b.read.found in
    let limit : s.limit ≡ t.limit = same_limit b.rows _ _ (subst (λ r. HasLimit r s.limit) rows a.limit) b.limit in
    let budget : s.budget ≡ t.budget = same_budget b.rows _ _ (subst (λ r. HasBudget r s.budget) rows a.budget) b.budget in
    let passes : s.passes ≡ t.passes = same_passes b.rows _ _ (subst (λ r. HasPasses r s.passes) rows a.passes) b.passes in
    let stats : s.stats ≡ t.stats = sym a.stats ∙ ap (λ r. is_set (first_of (codes "stats") r)) rows ∙ b.stats in
    let profile : s.profile ≡ t.profile = sym a.profile ∙ ap (first_of (codes "profile")) rows ∙ b.profile in
    let files : s.files ≡ t.files = same_files b.rows _ _ (subst (λ r. AreFiles r s.files) rows a.files) b.files in
    λ i. record { limit = limit i; budget = budget i; passes = passes i; profile = profile i; stats = stats i; files = files i }

pub same_check : (words : List Text) (s t : CheckSettings) → IsCheckSettings words s → IsCheckSettings words t → s ≡ t
same_check words s t a b =
    let rows = a.read.found ∙ sym b.read.found in
    let files : s.files ≡ t.files = same_files b.rows _ _ (subst (λ r. AreFiles r s.files) rows a.files) b.files in
    λ i. record { files = files i }

pub same_settings : (name : Text) (words : List Text) (s t : RunSettings) → IsSettingsOf name words s → IsSettingsOf name words t → s ≡ t
same_settings name words s t a b =
    let rows = a.read.found ∙ sym b.read.found in
    let turns : s.turns ≡ t.turns = same_turns b.rows _ _ (subst (λ r. HasTurns r s.turns) rows a.settings.turns) b.settings.turns in
    let files : s.files ≡ t.files = same_files b.rows _ _ (subst (λ r. AreFiles r s.files) rows a.settings.files) b.settings.files in
    λ i. record { turns = turns i; files = files i }

pub same_run : (words : List Text) (s t : RunSettings) → IsRunSettings words s → IsRunSettings words t → s ≡ t
same_run words s t a b = same_settings (codes "run") words s t a b

pub same_train : (words : List Text) (s t : RunSettings) → IsTrainSettings words s → IsTrainSettings words t → s ≡ t
same_train words s t a b = same_settings (codes "train") words s t a b

pub same_runil : (words : List Text) (s t : RunIlSettings) → IsRunIlSettings words s → IsRunIlSettings words t → s ≡ t
same_runil words s t a b =
    let rows = a.read.found ∙ sym b.read.found in
    let turns : s.turns ≡ t.turns = same_turns b.rows _ _ (subst (λ r. HasTurns r s.turns) rows a.turns) b.turns in
    let one = same_some _ (subst (λ r. all_of (codes "files") r ≡ Some (s.file ∷ [])) rows a.file) b.file in
    let file : s.file ≡ t.file = ap (λ l. get_or l 0 []) one in
    λ i. record { turns = turns i; file = file i }
