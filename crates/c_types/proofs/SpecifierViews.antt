-- Specifiers and the constants of enumerations, by their parts.
use Rattle.std.proofs.Common.{◌≡◌, ℕ, ◌<◌, ◌^◌, ℤ, pos, Bool, true, false, if◌then◌else◌, Result, arith, List, map, Option, Some, None, refl, sym, ap, ◌∙◌}
use Rattle.std.specs.Option.{option_map}
use Rattle.std.specs.Int.{w64}
use Rattle.std.proofs.Common.{Fits, SFits, w32}
use Rattle.std.proofs.Math.Facts.{sfits_widen, sfits_to_z}
use Rattle.hlo_num.specs.declared.word.Ty.{Ty}
use Rattle.hlo_num.specs.Words.{signed}
use Rattle.c_types.specs.declared.constant.ConstantValue.{ConstantValue}
use Rattle.c_types.specs.Constants.{word_of_value}
use Rattle.c_typed.specs.Operators.{is_signed}
use Rattle.c_types.proofs.Orders.{follows_after}
use Rattle.c_tree.specs.declared.expression.Enumerator.{Enumerator, map-Enumerator}
use Rattle.c_tree.specs.declared.expression.Expr.{Expr}
use Rattle.c_tree.specs.declared.expression.Identifier.{Identifier}
use Rattle.c_tree.specs.declared.expression.Specifier.{Specifier}
use Rattle.c_tree.specs.declared.expression.Specifier.TheVariants as forms
use Rattle.c_tree.specs.declared.expression.Expr.TheOpen.{Specifier-F}
use Rattle.c_tree.specs.declared.expression.Specifiers.{Specifiers}
use Rattle.c_tree.specs.declared.expression.Expr.TheFolds.{fold_out-Enumerator, fold_out-Specifiers, fold-roll-Specifier}
use Rattle.c_types.specs.declared.fault.TypeFault.{TypeFault}
use Rattle.c_types.specs.declared.specifiers.Part.{Part}
use Rattle.c_types.specs.declared.specifiers.Site.{Site}
use Rattle.c_types.specs.declared.specifiers.Specified.{Specified}
use Rattle.c_types.specs.Enumerations.{enumerator, value_in}
use Rattle.c_types.specs.ExpressionRules as rules
use Rattle.c_types.specs.Follows.{Follows}
use Rattle.c_types.specs.Rules.{Here, Gives, Rule, followed, give, ◌>>=◌, in_order}
use Rattle.c_types.specs.Specifiers.{meaning}

pub specifying_is : (s : Specifiers) → rules.specifying s ≡ (λ site. in_order (map rules.reading s.items) >>= λ ps. rules.specified_or s.line (meaning site ps))
specifying_is s = fold_out-Specifiers rules.Typing (Rule Part) (ℤ → Rule ℤ) (Site → Rule Specified) rules.expression rules.specifier rules.enumeration_constant
    rules.specifiers s

constant_is : (x : Identifier) (o : Option Expr)
    → rules.enumeration_constant (map-Enumerator Expr Specifier Enumerator Specifiers rules.Typing (Rule Part) (ℤ → Rule ℤ) (Site → Rule Specified) rules.typing
    rules.reading rules.enumerating rules.specifying (record { name = x; value = o })) ≡
    (λ next. rules.given_value (option_map rules.typing o) next >>= λ v. enumerator x v)
constant_is x None = refl
constant_is x (Some e) = refl

pub enumerating_is : (e : Enumerator) → rules.enumerating e ≡ (λ next. rules.given_value (option_map rules.typing e.value) next >>= λ v. enumerator e.name v)
enumerating_is e = fold_out-Enumerator rules.Typing (Rule Part) (ℤ → Rule ℤ) (Site → Rule Specified) rules.expression rules.specifier rules.enumeration_constant
    rules.specifiers e ∙ constant_is e.name e.value

pub reading_enum : (l : ℕ) (tag : Option Identifier) (es : List Enumerator)
    → rules.reading (forms.Enum l tag es) ≡ (rules.declare_optional_tag tag >>= λ u. rules.all_enumerators (pos 0) (map rules.enumerating es))
reading_enum l tag es = ap rules.reading (sym (forms.rolls-Enum l tag es)) ∙ fold-roll-Specifier rules.Typing (Rule Part) (ℤ → Rule ℤ) (Site → Rule Specified)
    rules.expression rules.specifier rules.enumeration_constant rules.specifiers (Specifier-F.Enum l tag es)

-- a constant with a value of its own
pub given_constant : (x : Identifier) (t : rules.Typing) (v : ConstantValue) (w : ℕ) (h h' new : Here) (res : Result ℤ TypeFault)
    → rules.constant_valued t h ≡ Gives v h' → word_of_value v.value h' ≡ Gives w h' → Follows (λ n. n) (enumerator x (value_in v.ty w)) h' res new
    → Follows (λ n. n) (rules.given_number t >>= λ n. enumerator x n) h res new
given_constant x t v w h h' new res e g f = follows_after (λ n. n) (rules.given_number t) (λ n. enumerator x n) (value_in v.ty w) h h' new res
    (ap (λ r. followed r (λ c. word_of_value c.value >>= λ y. give (value_in c.ty y))) e ∙ ap (λ r. followed r (λ y. give (value_in v.ty y))) g) f

-- a word's value in a type fits a number of 64 bits
fits_either : (b : Bool) (w : ℕ) → Fits w32 w → SFits w64 (if b then signed w else pos w)
fits_either true w f = sfits_widen {w = w32} {w' = w64} tt (sfits_to_z {w = w32} {n = w} f)
fits_either false w f = let g : w < 2 ^ 32 = f.fits in record { sfits = omega (arith, g) }

pub fits_value : (ty : Ty) (w : ℕ) → Fits w32 w → SFits w64 (value_in ty w)
fits_value ty w f = fits_either (is_signed ty) w f
