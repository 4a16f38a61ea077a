-- What `check` came to, and what it promises.
use Rattle.std.proofs.Common.{◌≡◌, ℕ, ◌⊎◌, List, [], refl, ◌∙◌, ap, subst, inl, inr}
use Rattle.c_module.specs.Told.{AreQuiet, AreRefused, AreWellFormedTexts}
use Rattle.c_module.specs.Verdict.{IsProgramCause, IsUnread, IsWant}
use Rattle.c_module.specs.declared.fault.FileFault.TheVariants as file_fault
use Rattle.c_module.specs.declared.fault.ProgramFault.{ProgramFault}
use Rattle.c_module.specs.declared.fault.ProgramFault.TheVariants.{File, Link, Memory}
use Rattle.hlo_words.specs.Settings.{IsCheckSettings}
use Rattle.hlo_words.specs.declared.settings.CheckSettings.{CheckSettings}
use Rattle.hlo_words.specs.declared.settings.WordsFault.{WordsFault}
use Rattle.hlo_words.specs.declared.settings.WordsFault.TheVariants as words_fault
use Rattle.hlo_words.proofs.Same.{same_check}
use Rattle.linker.specs.Linking.{refusal}
use Rattle.std.proofs.Common.{None}
use Rattle.outside.specs.Told.{Told}
use Rattle.sym_tables.specs.Table.{Table}
use Rattle.hlo_cmd.specs.Check.{AreWellTyped, AsksCheck, CheckPromise}
use Rattle.hlo_cmd.specs.Messages.{program_refusal, refusal_line, refusal_status, words_refusal}
use Rattle.hlo_cmd.proofs.Verdicts.{by_acceptance, by_fault, by_words, not_both, want_is_memory}

same_files : (words f g : List (List ℕ)) → AsksCheck words f → AsksCheck words g → f ≡ g
same_files words f g a b = ap (λ (s : CheckSettings). s.files) (same_check words _ _ a b)

module _ (words : List (List ℕ)) (tells : List ℕ → Told) (before after : List ℕ → ℕ) (Said : List ℕ → Type 0) (status : ℕ) where
  pub check_words : (syms : Table) (fault : WordsFault) → status ≡ refusal_status (words_refusal fault) → Said (refusal_line syms (words_refusal fault))
      → (fault ≡ words_fault.Usage → (s : CheckSettings) → IsCheckSettings words s → ⊥) → CheckPromise words tells before after Said status
  check_words syms words_fault.Usage e said none = record {
    known = inr (inl e);
    passed = λ zero. not_both status 2 0 e zero refl;
    modules = by_words (AsksCheck words) tells before after Said status syms words_fault.Usage e said (λ u files. none u (record { files = files }));
    complete = λ files names asked formed links quiet. absurd (none refl (record { files = files }) asked);
  }
  check_words syms words_fault.Memory e said none = record {
    known = inr (inr (inr (inr e)));
    passed = λ zero. not_both status 10 0 e zero refl;
    modules = by_words (AsksCheck words) tells before after Said status syms words_fault.Memory e said (λ u files. none u (record { files = files }));
    complete = λ files names asked formed links quiet. inr e;
  }

  module _ (files : List (List ℕ)) (asked : AsksCheck words files) where
    fault_status : (fault : ProgramFault) → status ≡ refusal_status (program_refusal fault) → (status ≡ 3) ⊎ ((status ≡ 5) ⊎ (status ≡ 10))
    fault_status (File file (file_fault.NoModule fault)) e = inl e
    fault_status (File file file_fault.CannotRead) e = inr (inl e)
    fault_status (File file file_fault.Memory) e = inr (inr e)
    fault_status (Link fault) e = inl e
    fault_status Memory e = inr (inr e)

    not_passed : {A : Type 0} → (status ≡ 3) ⊎ ((status ≡ 5) ⊎ (status ≡ 10)) → status ≡ 0 → A
    not_passed (inl e) zero = not_both status 3 0 e zero refl
    not_passed (inr (inl e)) zero = not_both status 5 0 e zero refl
    not_passed (inr (inr e)) zero = not_both status 10 0 e zero refl

    pub check_fault : (syms : Table) (fault : ProgramFault) → status ≡ refusal_status (program_refusal fault)
        → Said (refusal_line syms (program_refusal fault))
        → IsProgramCause fault files tells before after syms → (AreQuiet before after files → IsUnread fault → ⊥)
        → ((names : Table) → AreWellFormedTexts tells files names → refusal names ≡ None → AreQuiet before after files → IsWant fault)
        → CheckPromise words tells before after Said status
    check_fault syms fault e said cause reads complete = record {
      known = inr (inr (fault_status fault e));
      passed = λ zero. not_passed (fault_status fault e) zero;
      modules = by_fault (AsksCheck words) tells before after Said status (same_files words) files asked syms fault e said cause reads;
      complete = λ others names also formed links quiet.
          let at = same_files words others files also asked in
          inr (e ∙ want_is_memory fault
          (complete names (subst (λ l. AreWellFormedTexts tells l names) at formed) links (subst (AreQuiet before after) at quiet)));
    }

    pub check_passes : status ≡ 0 → Said [] → AreWellTyped tells files → (AreRefused tells files → ⊥) → CheckPromise words tells before after Said status
    check_passes e said typed never = record {
      known = inl e;
      passed = λ zero. (record { files = files; asked = asked; holds = typed }, said);
      modules = by_acceptance (AsksCheck words) tells before after Said status (same_files words) files asked (inl e) never;
      complete = λ others names also formed links quiet. inl e;
    }
