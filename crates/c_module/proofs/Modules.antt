-- Bytes that are a module, and bytes that aren't.
use Rattle.std.proofs.Common.{◌≡◌, ℕ, suc, ◌+◌, List, drop, Ok, Err, refl, sym, ◌∙◌, ap, subst, arith, inl, inr}
use Rattle.std.specs.List.{AllByRecursion}
use Rattle.std.proofs.Math.Nat.{eq-or-lt_of_le}
use Rattle.std.proofs.lemmas.List.{take-append-drop}
use Rattle.c_parse.specs.Modules.{IsModule}
use Rattle.c_parse.specs.Promise.{Answers, IsAccepted, Spells, limit}
use Rattle.c_parse.specs.declared.fault.ParseFault.TheVariants.{At}
use Rattle.c_parse.specs.declared.fault.ParseKind.{ParseKind}
use Rattle.c_tree.specs.declared.declaration.Module.{Module}
use Rattle.c_tree.specs.declared.token.Token.{Token}
use Rattle.c_typed.specs.declared.function.TypedModule.{TypedModule}
use Rattle.c_types.specs.Rules.{Here, Gives, Breaks}
use Rattle.c_types.specs.Typing.{module_rules, start}
use Rattle.outside.specs.Told.{Told, Untold, Absent, Holds}
use Rattle.sym_tables.specs.Table.{Table}
use Rattle.c_module.specs.Files.{HoldsModule, HoldsFault, HoldsTokens}
use Rattle.c_module.specs.Limits.{KeepsLimits, functions_in}
use Rattle.c_module.specs.ModuleFaults.{IsModuleFault, IsTooLarge}
use Rattle.c_module.specs.Texts.{HasOnlyTokens, IsModuleText, IsOnlyModuleText}
use Rattle.c_module.specs.Told.{IsOtherFile, IsTextOf}
use Rattle.c_module.specs.declared.fault.ModuleFault.{ModuleFault}
use Rattle.c_module.specs.declared.fault.ModuleFault.TheVariants.{TooLong, Lexical, Syntax, Typing, TooLarge}
use Rattle.c_module.proofs.Elements.{all_middle}

limit_is : limit ≡ suc 255
unfolding limit
limit_is = refl

-- a module that is accepted is a module
spells : (m : Module) (ts : List Token) → IsAccepted m ts → Spells m ts
spells m ts h = (255, subst (λ n. IsModule n m ts) limit_is h)

-- tokens of a module have no fault
accepted_has_no_fault : (m : Module) (ts : List Token) (line : ℕ) (kind : ParseKind) → IsAccepted m ts → Answers ts (Err (At line kind)) → ⊥
accepted_has_no_fault m ts line kind h (place, fault, told) =
    elim (eq-or-lt_of_le fault.within) [
      | inr less ↦ fault.here less (m, drop (place + 1) ts, subst (λ l. IsAccepted m l) (sym (take-append-drop (place + 1) ts)) h)
      | inl end ↦ fault.whole end m h
    ]

-- the module of the only tokens is the only module
pub only_module : (bytes : List ℕ) (ts : List Token) (m : Module) → HasOnlyTokens bytes ts → Answers ts (Ok m) → IsOnlyModuleText bytes m
only_module bytes ts m scanned answer = record {
  text = record { tokens = ts; scanned = scanned.scanned; spelled = answer.0 };
  only = λ other text. answer.1 other (spells other ts (subst (λ l. IsAccepted other l) (sym (scanned.only text.tokens text.scanned)) text.spelled));
}

-- the rules give a module once
same_typed : {a b : TypedModule} {h k : Here} → Gives a h ≡ Gives b k → (a ≡ b) × (h ≡ k)
same_typed e = (cc, cc)

-- no routine of a module whose functions all keep the limits passes one
none_too_large : (number : ℕ) (old : Table) (bytes : List ℕ) (pid : ℕ) (new : Table) (m : Module) (t : TypedModule) (h : Here) → IsModuleText bytes m
    → module_rules number m (start old) ≡ Gives t h → AllByRecursion KeepsLimits (functions_in t) → IsTooLarge number old bytes pid new → ⊥
none_too_large number old bytes pid new m t h text typed kept fault =
    let same = same_typed (sym typed ∙ ap (λ x. module_rules number x (start old)) (sym (fault.text.only m text)) ∙ fault.typed) in
    let first = fault.first in
    first.past (all_middle KeepsLimits first.earlier first.later first.large
    (subst (AllByRecursion KeepsLimits) (ap functions_in same.0 ∙ first.whole) kept))

-- a module that follows the rules and keeps the limits has no fault
pub sound_has_no_fault : (number : ℕ) (old : Table) (bytes : List ℕ) (fault : ModuleFault) (new : Table) (m : Module) (t : TypedModule) (h : Here)
    → IsModuleText bytes m → module_rules number m (start old) ≡ Gives t h → AllByRecursion KeepsLimits (functions_in t)
    → IsModuleFault number old bytes fault new → ⊥
sound_has_no_fault number old bytes TooLong new m t h text typed kept fault = let short = text.scanned.short in omega (arith, fault, short)
sound_has_no_fault number old bytes (Lexical line kind) new m t h text typed kept fault = fault.1.refused text.tokens text.scanned.text
sound_has_no_fault number old bytes (Syntax line kind) new m t h text typed kept (ts, scanned, fault) =
    accepted_has_no_fault m ts line kind (subst (λ l. IsAccepted m l) (sym (scanned.only text.tokens text.scanned)) text.spelled) fault
sound_has_no_fault number old bytes (Typing line kind) new m t h text typed kept (n, only, broken) =
    let e : Gives t h ≡ Breaks line kind = sym typed ∙ ap (λ x. module_rules number x (start old)) (sym (only.only m text)) ∙ broken in
    absurd cc
sound_has_no_fault number old bytes (TooLarge pid) new m t h text typed kept fault = none_too_large number old bytes pid new m t h text typed kept fault

-- the same, as far as the file is told

pub holds_module : (told : Told) (ts slice : List Token) (m : Module) → HoldsTokens told ts → slice ≡ ts → Answers slice (Ok m) → HoldsModule told m
holds_module Untold ts slice m scanned is answer = tt
holds_module Absent ts slice m scanned is answer = scanned
holds_module (Holds bytes) ts slice m scanned is answer = only_module bytes ts m scanned (subst (λ l. Answers l (Ok m)) is answer)

pub file_has_no_fault : (number : ℕ) (old : Table) (told : Told) (fault : ModuleFault) (new : Table) (m : Module) (t : TypedModule) (h : Here)
    → IsTextOf told m → module_rules number m (start old) ≡ Gives t h → AllByRecursion KeepsLimits (functions_in t)
    → HoldsFault number old told fault new → ⊥
file_has_no_fault number old told fault new m t h file typed kept held =
    sound_has_no_fault number old file.bytes fault new m t h file.text typed kept (subst (λ x. HoldsFault number old x fault new) file.holds held)

pub same_module : (told : Told) (m n : Module) → IsTextOf told m → HoldsModule told n → n ≡ m
same_module told m n file held = let h = subst (λ t. HoldsModule t n) file.holds held in h.only m file.text

pub other_is_no_module : (told : Told) (m : Module) → IsOtherFile told → HoldsModule told m → ⊥
other_is_no_module told m file held = let h = subst (λ t. HoldsModule t m) file.holds held in file.none m h.text
