-- What `opt` came to, and what it promises.
use Rattle.std.proofs.Common.{◌≡◌, ℕ, suc, ◌^◌, ◌≤◌, ◌<◌, ◌⊎◌, false, List, Option, Some, None, length, nat_eq, refl, sym, ◌∙◌, ap, subst, inl, inr, arith}
use Rattle.std.specs.Prelude.{IfSome}
use Rattle.std.specs.Io.KnownBytes.{Appends, Keeps}
use Rattle.std.proofs.Math.Seq.{take-length}
use Rattle.c_module.specs.Files.{IsCause}
use Rattle.c_module.specs.Told.{AreQuiet, AreRefused, AreWellFormedTexts}
use Rattle.c_module.specs.Verdict.{EndsAt}
use Rattle.c_module.specs.declared.fault.FileFault.{FileFault}
use Rattle.c_module.specs.declared.fault.FileFault.TheVariants as file_fault
use Rattle.hlo_words.specs.Settings.{IsValue}
use Rattle.hlo_words.specs.declared.settings.OptSettings.{OptSettings}
use Rattle.hlo_words.specs.declared.settings.WordsFault.{WordsFault}
use Rattle.hlo_words.specs.declared.settings.WordsFault.TheVariants as words_fault
use Rattle.hlo_words.proofs.Same.{same_opt}
use Rattle.il_core.specs.Text.{text}
use Rattle.linker.specs.Linking.{refusal}
use Rattle.outside.specs.Faults.{NoneFalls, Rose}
use Rattle.outside.specs.Told.{Told, Holds}
use Rattle.profile.specs.Counts.{Counts, Profiled}
use Rattle.profile.proofs.ReadAgain.{all_fit}
use Rattle.std.specs.Borrow.{Bor}
use Rattle.sym_tables.specs.Table.{Table}
use Rattle.hlo_cmd.specs.Messages.{memory_line, profile_refusal, refusal_line, refusal_status, unread_line, words_refusal}
use Rattle.hlo_cmd.specs.Modules.{StopsRefused, StopsUnread}
use Rattle.hlo_cmd.specs.Opt.{AsksNothing, AsksOpt, HasBadProfile, HasFront, HasGoodProfile, IsInRange, IsOptStatus, IsQuiet, IsQuietProfile, OfAskedOpt}
use Rattle.hlo_cmd.specs.Opt.{OptPromise, Prints, PrintsFront, StopsDamaged, StopsTooSmall, report_line}
use Rattle.hlo_cmd.specs.Paging.{HasPrinted, IsAtPrinting, IsLate, IsOptCause, IsUnreadRefusal}
use Rattle.hlo_cmd.specs.Profiles.{HasCounts, HoldsBadLine, HoldsProfile, IsBadLine, IsProfileCause, IsProfileCauseOf, IsProfileText}
use Rattle.hlo_cmd.specs.declared.profiles.ProfileFault.{ProfileFault}
use Rattle.hlo_cmd.specs.declared.profiles.ProfileFault.TheVariants as profile_fault
use Rattle.hlo_cmd.specs.declared.refusal.Refusal.{Refusal}
use Rattle.hlo_cmd.specs.declared.refusal.Refusal.TheVariants as refusals
use Rattle.hlo_cmd.specs.declared.report.Report.{Report}
use Rattle.hlo_cmd.proofs.Verdicts.{not_both}

pub not_quiet : {A : Type 0} (status n : ℕ) → status ≡ n → nat_eq n 2 ≡ false → nat_eq n 3 ≡ false → nat_eq n 5 ≡ false → IsQuiet status → A
not_quiet status n e two three five (inl h) = not_both status n 2 e h two
not_quiet status n e two three five (inr (inl h)) = not_both status n 3 e h three
not_quiet status n e two three five (inr (inr h)) = not_both status n 5 e h five

prints : {A : Type 0} (status n : ℕ) → status ≡ n → nat_eq n 2 ≡ false → nat_eq n 3 ≡ false → nat_eq n 4 ≡ false → nat_eq n 5 ≡ false → nat_eq n 9 ≡ false
    → IsQuiet status ⊎ ((status ≡ 4) ⊎ (status ≡ 9)) → A
prints status n e two three four five nine (inl q) = not_quiet status n e two three five q
prints status n e two three four five nine (inr (inl h)) = not_both status n 4 e h four
prints status n e two three four five nine (inr (inr h)) = not_both status n 9 e h nine

-- the limit that words ask for is in its range
limit_in : (o : Option (List ℕ)) (n : ℕ) → IsValue 67108864 1 1073741824 o n → n ≤ 2 ^ 30
limit_in None n e = omega (arith, e)
limit_in (Some text) n h = let most = h.most in omega arith

-- there is at least one pass, and there are at most eight
passes_in : (o : Option (List ℕ)) (n : ℕ) → IsValue 4 1 8 o n → (0 < n) × (n ≤ 8)
passes_in None n e = (omega (arith, e), omega (arith, e))
passes_in (Some text) n h = let least = h.least in let most = h.most in (omega arith, omega arith)

-- the budget is in its range
budget_in : (o : Option (List ℕ)) (n : ℕ) → IsValue 100 0 1000 o n → n ≤ 1000
budget_in None n e = omega (arith, e)
budget_in (Some text) n h = let most = h.most in omega arith

pub in_range : (words : List (List ℕ)) (s : OptSettings) → AsksOpt words s → IsInRange s
in_range words s asked =
    let passes = passes_in _ s.passes asked.settings.passes in
    record { some = passes.0; passes = passes.1; budget = budget_in _ s.budget asked.settings.budget }

pub limit_most : (words : List (List ℕ)) (s : OptSettings) → AsksOpt words s → s.limit ≤ 2 ^ 30
limit_most words s asked = limit_in _ s.limit asked.settings.limit

-- a status from 2 to 10
known : (status n : ℕ) → status ≡ n → 2 ≤ n → n ≤ 10 → IsOptStatus status
known status n e low high = inr (omega (arith, e, low), omega (arith, e, high))

-- a count that rose since a later moment rose since an earlier one
rose_since : (first then now : ℕ) → first ≤ then → Rose then now → Rose first now
rose_since first then now le rose = omega (arith, le, rose)

quiet_since : (first then now : List ℕ → ℕ) (files : List (List ℕ)) → NoneFalls first then → AreQuiet first now files → AreQuiet then now files
quiet_since first then now files later quiet = λ k d lt rose. quiet k d lt (rose_since _ _ _ (later _) rose)

cause_since : (number : ℕ) (old new : Table) (fault : FileFault) (told : Told) (first then now : ℕ) → first ≤ then → IsCause number old fault told then now new
    → IsCause number old fault told first now new
cause_since number old new (file_fault.NoModule fault) told first then now le cause = cause
cause_since number old new file_fault.CannotRead told first then now le cause = rose_since first then now le cause
cause_since number old new file_fault.Memory told first then now le cause = cause

ends_since : (fault : FileFault) (files : List (List ℕ)) (file : List ℕ) (tells : List ℕ → Told) (first then now : List ℕ → ℕ) (syms : Table)
    → NoneFalls first then
    → EndsAt tells then now files file fault syms → EndsAt tells first now files file fault syms
ends_since fault files file tells first then now syms later cause = record {
  earlier = cause.earlier;
  later = cause.later;
  modules = cause.modules;
  ts = cause.ts;
  syms = cause.syms;
  whole = cause.whole;
  hold = cause.hold;
  cause = cause_since (suc (length cause.earlier)) cause.syms syms fault (tells file) (first file) (then file) (now file) (later file) cause.cause;
}

-- a told text of a profile has no line that doesn't fit, and another file holds no profile
no_bad_line : (told : Told) (bytes : List ℕ) (p : Profiled) (n : ℕ) → told ≡ Holds bytes → IsProfileText bytes p → HoldsBadLine told n → ⊥
no_bad_line told bytes p n e good bad = go (subst (λ (t : Told). HoldsBadLine t n) e bad)
  where
    go : IsBadLine bytes n → ⊥
    go (inl q) = let short = good.short in let long = q.1 in omega arith
    go (inr q) = all_fit good.read.is_text.lines good.read.is_text.are bytes n good.read.is_text.spelled q.1

no_profile : (told : Told) (bytes : List ℕ) (p : Profiled) → told ≡ Holds bytes → ((q : Profiled) → IsProfileText bytes q → ⊥) → HoldsProfile told p → ⊥
no_profile told bytes p e none held = none p (subst (λ (t : Told). HoldsProfile t p) e held)

module _ (words : List (List ℕ)) (tells : List ℕ → Told) (shelf shelf_now : List ℕ → ℕ) (before after : Option (List ℕ)) (out out_now : ℕ) (good : ℕ → Type 0)
    (disk disk_now : ℕ)
    (Said : List ℕ → Type 0) (status : ℕ) where
  Promise : Option Report → Type 0
  Promise report = OptPromise words tells shelf shelf_now before after out out_now good disk disk_now Said status report

  -- memory ran out
  by_memory : status ≡ 10 → Said memory_line → Keeps before after ⊎ OfAskedOpt words tells (PrintsFront tells good before after) → Promise None
  unfolding Promise
  by_memory e said front = record {
    known = known status 10 e (omega arith) (omega arith);
    usage = λ two. not_both status 10 2 e two refl;
    unusable = λ none. inr e;
    refused = λ three. not_both status 10 3 e three refl;
    bad_profile = λ four. not_both status 10 4 e four refl;
    unread = λ five. not_both status 10 5 e five refl;
    memory = λ ten. said;
    printed = λ zero. not_both status 10 0 e zero refl;
    unwritten = λ six. not_both status 10 6 e six refl;
    failed = λ seven. not_both status 10 7 e seven refl;
    damaged = λ eight. not_both status 10 8 e eight refl;
    small = λ nine. not_both status 10 9 e nine refl;
    front = front;
    quiet = λ q. prints status 10 e refl refl refl refl refl q;
    refuses = λ s asked good_one refused calm quiet whole. inr (inr e);
    refuses_profile = λ s name asked named bad calm. inr e;
    complete = λ s names asked reaches good_one formed links calm quiet writes whole. inr (inr e);
  }

  -- memory ran out before anything was put out
  pub opt_memory : status ≡ 10 → Said memory_line → Keeps before after
      → OptPromise words tells shelf shelf_now before after out out_now good disk disk_now Said status None
  unfolding Promise
  opt_memory e said kept = by_memory e said (inl kept)

  pub opt_words : (syms : Table) (fault : WordsFault) → status ≡ refusal_status (words_refusal fault) → Said (refusal_line syms (words_refusal fault))
      → (fault ≡ words_fault.Usage → AsksNothing words) → Keeps before after
      → OptPromise words tells shelf shelf_now before after out out_now good disk disk_now Said status None
  unfolding Promise
  opt_words syms words_fault.Usage e said none kept = record {
    known = known status 2 e (omega arith) (omega arith);
    usage = λ two. (none refl, said);
    unusable = λ nothing. inl e;
    refused = λ three. not_both status 2 3 e three refl;
    bad_profile = λ four. not_both status 2 4 e four refl;
    unread = λ five. not_both status 2 5 e five refl;
    memory = λ ten. not_both status 2 10 e ten refl;
    printed = λ zero. not_both status 2 0 e zero refl;
    unwritten = λ six. not_both status 2 6 e six refl;
    failed = λ seven. not_both status 2 7 e seven refl;
    damaged = λ eight. not_both status 2 8 e eight refl;
    small = λ nine. not_both status 2 9 e nine refl;
    front = inl kept;
    quiet = λ q. kept;
    refuses = λ s asked good_one refused calm quiet whole. absurd (none refl s asked);
    refuses_profile = λ s name asked named bad calm. absurd (none refl s asked);
    complete = λ s names asked reaches good_one formed links calm quiet writes whole. absurd (none refl s asked);
  }
  opt_words syms words_fault.Memory e said none kept = by_memory e said (inl kept)

  module _ (s : OptSettings) (asked : AsksOpt words s) where
    one : (q : OptSettings) → AsksOpt words q → q ≡ s
    one q also = same_opt words q s also.settings asked.settings

    same_profile : (q : OptSettings) → AsksOpt words q → q.profile ≡ s.profile
    same_profile q also = ap (λ (x : OptSettings). x.profile) (one q also)

    same_files : (q : OptSettings) → AsksOpt words q → q.files ≡ s.files
    same_files q also = ap (λ (x : OptSettings). x.files) (one q also)

    named_fault : (name : List ℕ) (file : Bor (List ℕ)) (syms : Table) (fault : ProfileFault) → s.profile ≡ Some name → file.now ≡ name
        → status ≡ refusal_status (profile_refusal file fault) → Said (refusal_line syms (profile_refusal file fault))
        → IsProfileCause fault (tells name) (shelf name) (shelf_now name) → Keeps before after → Promise None
    unfolding Promise
    named_fault name file syms (profile_fault.Line n) is same e said cause kept =
        let not_good : (q : OptSettings) → AsksOpt words q → HasGoodProfile tells q.profile → ⊥ = λ q also good_one.
        (let g : HasGoodProfile tells (Some name) = subst (HasGoodProfile tells) (same_profile q also ∙ is) good_one in
        no_bad_line (tells name) g.0 g.1 n g.2 g.3 cause) in
        record {
          known = known status 4 e (omega arith) (omega arith);
          usage = λ two. not_both status 4 2 e two refl;
          unusable = λ none. absurd (none s asked);
          refused = λ three. not_both status 4 3 e three refl;
          bad_profile = λ four. record { name = name; settings = s; number = n; asked = asked; named = is; bad = cause; said = said };
          unread = λ five. not_both status 4 5 e five refl;
          memory = λ ten. not_both status 4 10 e ten refl;
          printed = λ zero. not_both status 4 0 e zero refl;
          unwritten = λ six. not_both status 4 6 e six refl;
          failed = λ seven. not_both status 4 7 e seven refl;
          damaged = λ eight. not_both status 4 8 e eight refl;
          small = λ nine. not_both status 4 9 e nine refl;
          front = inl kept;
          quiet = λ q. kept;
          refuses = λ q also good_one refused calm quiet whole. absurd (not_good q also good_one);
          refuses_profile = λ q other also named bad calm. inl e;
          complete = λ q names also reaches good_one formed links calm quiet writes whole. absurd (not_good q also good_one);
        }
    named_fault name file syms profile_fault.CannotRead is same e said cause kept =
        let not_calm : (q : OptSettings) → AsksOpt words q → IsQuietProfile shelf shelf_now q.profile → ⊥ =
        λ q also calm. subst (IsQuietProfile shelf shelf_now) (same_profile q also ∙ is) calm cause in
        record {
          known = known status 5 e (omega arith) (omega arith);
          usage = λ two. not_both status 5 2 e two refl;
          unusable = λ none. absurd (none s asked);
          refused = λ three. not_both status 5 3 e three refl;
          bad_profile = λ four. not_both status 5 4 e four refl;
          unread = λ five. inl (record {
            name = name;
            settings = s;
            asked = asked;
            named = is;
            rose = cause;
            said = subst (λ (n : List ℕ). Said (unread_line n))
                same said;
          });
          memory = λ ten. not_both status 5 10 e ten refl;
          printed = λ zero. not_both status 5 0 e zero refl;
          unwritten = λ six. not_both status 5 6 e six refl;
          failed = λ seven. not_both status 5 7 e seven refl;
          damaged = λ eight. not_both status 5 8 e eight refl;
          small = λ nine. not_both status 5 9 e nine refl;
          front = inl kept;
          quiet = λ q. kept;
          refuses = λ q also good_one refused calm quiet whole. absurd (not_calm q also calm);
          refuses_profile = λ q other also named bad calm. absurd (not_calm q also (subst (IsQuietProfile shelf shelf_now) (sym named) calm));
          complete = λ q names also reaches good_one formed links calm quiet writes whole. absurd (not_calm q also calm);
        }
    named_fault name file syms profile_fault.Memory is same e said cause kept = by_memory e said (inl kept)

    -- the profile gave a fault
    pub opt_profile : (file : Bor (List ℕ)) (syms : Table) (fault : ProfileFault) → IfSome s.profile (λ (name : List ℕ). file.now ≡ name)
        → status ≡ refusal_status (profile_refusal file fault) → Said (refusal_line syms (profile_refusal file fault))
        → IsProfileCauseOf fault s.profile tells shelf shelf_now → Keeps before after
        → OptPromise words tells shelf shelf_now before after out out_now good disk disk_now Said status None
    unfolding Promise
    opt_profile file syms fault named e said cause kept = go s.profile refl named cause
      where
        go : (q : Option (List ℕ)) → s.profile ≡ q → IfSome q (λ (name : List ℕ). file.now ≡ name) → IsProfileCauseOf fault q tells shelf shelf_now
            → Promise None
        go None is h c = absurd c
        go (Some name) is h c = named_fault name file syms fault is h e said c kept

    module _ (counts : Counts) (counted : HasCounts tells s.profile counts) where
      -- where the words ask for a profile whose file is told, and is none, there were no counts
      not_bad : (q : OptSettings) (other : List ℕ) → AsksOpt words q → q.profile ≡ Some other → HasBadProfile tells other → ⊥
      not_bad q other also named bad = go s.profile (sym (same_profile q also) ∙ named) counted
        where
          go : (p : Option (List ℕ)) → p ≡ Some other → HasCounts tells p counts → ⊥
          go None is h = absurd cc
          go (Some name) is h =
              let same : name ≡ other = cc in
              no_profile (tells other) bad.bytes h.0 bad.holds bad.none (subst (λ (n : List ℕ). HoldsProfile (tells n) h.0) same h.1)

      asks : (Q : OptSettings → Counts → Type 0) → Q s counts → OfAskedOpt words tells Q
      asks Q h = record { settings = s; counts = counts; asked = asked; counted = counted; holds = h }

      whole_front : HasFront tells good before after s counts → Keeps before after ⊎ OfAskedOpt words tells (PrintsFront tells good before after)
      whole_front (inl kept) = inl kept
      whole_front (inr h) = inr (asks (PrintsFront tells good before after) h)

      module _ (shelf_then : List ℕ → ℕ) (later : NoneFalls shelf shelf_then) (names : Table) where
        quiet_then : (q : OptSettings) → AsksOpt words q → AreQuiet shelf shelf_now q.files → AreQuiet shelf_then shelf_now s.files
        quiet_then q also quiet = quiet_since shelf shelf_then shelf_now s.files later (subst (AreQuiet shelf shelf_now) (same_files q also) quiet)

        refused_as : (q : OptSettings) → AsksOpt words q → AreRefused tells q.files → AreRefused tells s.files
        refused_as q also h = subst (AreRefused tells) (same_files q also) h

        good_as : (q : OptSettings) → AsksOpt words q → good q.limit → good s.limit
        good_as q also h = subst good (ap (λ (x : OptSettings). x.limit) (one q also)) h

        -- it was refused
        pub opt_refused : (r : Refusal) → status ≡ refusal_status r → Said (refusal_line names r)
            → IsOptCause tells good before after s counts names shelf_then shelf_now out out_now disk disk_now r
            → (AreQuiet shelf_then shelf_now s.files → IsUnreadRefusal r → ⊥)
            → ((ns : Table) → AreWellFormedTexts tells s.files ns → refusal ns ≡ None → AreQuiet shelf_then shelf_now s.files → IsLate r)
            → (AreRefused tells s.files → IsAtPrinting r → ⊥)
            → OptPromise words tells shelf shelf_now before after out out_now good disk disk_now Said status None
        unfolding Promise
        opt_refused r e said cause reads complete unprinted = go r e said cause reads complete unprinted
          where
            go : (r : Refusal) → status ≡ refusal_status r → Said (refusal_line names r)
                → IsOptCause tells good before after s counts names shelf_then shelf_now out out_now disk disk_now r
                → (AreQuiet shelf_then shelf_now s.files → IsUnreadRefusal r → ⊥)
                → ((ns : Table) → AreWellFormedTexts tells s.files ns → refusal ns ≡ None → AreQuiet shelf_then shelf_now s.files → IsLate r)
                → (AreRefused tells s.files → IsAtPrinting r → ⊥)
                → Promise None
            go refusals.Usage e said cause reads complete unprinted = absurd cause
            go (refusals.Profile line) e said cause reads complete unprinted = absurd cause
            go (refusals.Text fault) e said cause reads complete unprinted = absurd cause
            go refusals.CannotReadInput e said cause reads complete unprinted = absurd cause
            go (refusals.Module file fault) e said cause reads complete unprinted =
                let kept = cause.1 in
                record {
                  known = known status 3 e (omega arith) (omega arith);
                  usage = λ two. not_both status 3 2 e two refl;
                  unusable = λ none. absurd (none s asked);
                  refused = λ three. asks (λ x c. StopsRefused tells shelf shelf_now Said x.files)
                      (inl (record {
                        file = file.now;
                        fault = fault;
                        names = names;
                        ends = ends_since (file_fault.NoModule fault) s.files file.now tells shelf
                            shelf_then shelf_now names later cause.0;
                        said = said;
                      }));
                  bad_profile = λ four. not_both status 3 4 e four refl;
                  unread = λ five. not_both status 3 5 e five refl;
                  memory = λ ten. not_both status 3 10 e ten refl;
                  printed = λ zero. not_both status 3 0 e zero refl;
                  unwritten = λ six. not_both status 3 6 e six refl;
                  failed = λ seven. not_both status 3 7 e seven refl;
                  damaged = λ eight. not_both status 3 8 e eight refl;
                  small = λ nine. not_both status 3 9 e nine refl;
                  front = inl kept;
                  quiet = λ q. kept;
                  refuses = λ q also good_one refused calm quiet whole. inl e;
                  refuses_profile = λ q other also named bad calm. absurd (not_bad q other also named bad);
                  complete = λ q ns also reaches good_one formed links calm quiet writes whole.
                      absurd (complete ns (subst (λ l. AreWellFormedTexts tells l ns) (same_files q also) formed) links (quiet_then q also quiet));
                }
            go (refusals.Link fault) e said cause reads complete unprinted =
                let kept = cause.1 in
                record {
                  known = known status 3 e (omega arith) (omega arith);
                  usage = λ two. not_both status 3 2 e two refl;
                  unusable = λ none. absurd (none s asked);
                  refused = λ three. asks (λ x c. StopsRefused tells shelf shelf_now Said x.files)
                      (inr (record { fault = fault; names = names; unlinked = cause.0; said = said }));
                  bad_profile = λ four. not_both status 3 4 e four refl;
                  unread = λ five. not_both status 3 5 e five refl;
                  memory = λ ten. not_both status 3 10 e ten refl;
                  printed = λ zero. not_both status 3 0 e zero refl;
                  unwritten = λ six. not_both status 3 6 e six refl;
                  failed = λ seven. not_both status 3 7 e seven refl;
                  damaged = λ eight. not_both status 3 8 e eight refl;
                  small = λ nine. not_both status 3 9 e nine refl;
                  front = inl kept;
                  quiet = λ q. kept;
                  refuses = λ q also good_one refused calm quiet whole. inl e;
                  refuses_profile = λ q other also named bad calm. absurd (not_bad q other also named bad);
                  complete = λ q ns also reaches good_one formed links calm quiet writes whole.
                      absurd (complete ns (subst (λ l. AreWellFormedTexts tells l ns) (same_files q also) formed) links (quiet_then q also quiet));
                }
            go (refusals.CannotRead file) e said cause reads complete unprinted =
                let kept = cause.1 in
                record {
                  known = known status 5 e (omega arith) (omega arith);
                  usage = λ two. not_both status 5 2 e two refl;
                  unusable = λ none. absurd (none s asked);
                  refused = λ three. not_both status 5 3 e three refl;
                  bad_profile = λ four. not_both status 5 4 e four refl;
                  unread = λ five. inr (asks (λ x c. StopsUnread tells shelf shelf_now Said x.files)
                      (record {
                        file = file.now;
                        names = names;
                        ends = ends_since file_fault.CannotRead s.files file.now tells shelf shelf_then shelf_now names
                            later cause.0;
                        said = said;
                      }));
                  memory = λ ten. not_both status 5 10 e ten refl;
                  printed = λ zero. not_both status 5 0 e zero refl;
                  unwritten = λ six. not_both status 5 6 e six refl;
                  failed = λ seven. not_both status 5 7 e seven refl;
                  damaged = λ eight. not_both status 5 8 e eight refl;
                  small = λ nine. not_both status 5 9 e nine refl;
                  front = inl kept;
                  quiet = λ q. kept;
                  refuses = λ q also good_one refused calm quiet whole. absurd (reads (quiet_then q also quiet) tt);
                  refuses_profile = λ q other also named bad calm. absurd (not_bad q other also named bad);
                  complete = λ q ns also reaches good_one formed links calm quiet writes whole. absurd (reads (quiet_then q also quiet) tt);
                }
            go refusals.CannotWrite e said cause reads complete unprinted = record {
              known = known status 6 e (omega arith) (omega arith);
              usage = λ two. not_both status 6 2 e two refl;
              unusable = λ none. absurd (none s asked);
              refused = λ three. not_both status 6 3 e three refl;
              bad_profile = λ four. not_both status 6 4 e four refl;
              unread = λ five. not_both status 6 5 e five refl;
              memory = λ ten. not_both status 6 10 e ten refl;
              printed = λ zero. not_both status 6 0 e zero refl;
              unwritten = λ six. (cause.0, asks (PrintsFront tells good before after) cause.1, said);
              failed = λ seven. not_both status 6 7 e seven refl;
              damaged = λ eight. not_both status 6 8 e eight refl;
              small = λ nine. not_both status 6 9 e nine refl;
              front = inr (asks (PrintsFront tells good before after) cause.1);
              quiet = λ q. prints status 6 e refl refl refl refl refl q;
              refuses = λ q also good_one refused calm quiet whole. absurd (unprinted (refused_as q also refused) tt);
              refuses_profile = λ q other also named bad calm. absurd (not_bad q other also named bad);
              complete = λ q ns also reaches good_one formed links calm quiet writes whole. absurd (writes cause.0);
            }
            go refusals.Repository e said cause reads complete unprinted = record {
              known = known status 7 e (omega arith) (omega arith);
              usage = λ two. not_both status 7 2 e two refl;
              unusable = λ none. absurd (none s asked);
              refused = λ three. not_both status 7 3 e three refl;
              bad_profile = λ four. not_both status 7 4 e four refl;
              unread = λ five. not_both status 7 5 e five refl;
              memory = λ ten. not_both status 7 10 e ten refl;
              printed = λ zero. not_both status 7 0 e zero refl;
              unwritten = λ six. not_both status 7 6 e six refl;
              failed = λ seven. (cause.0, asks (HasFront tells good before after) cause.1, said);
              damaged = λ eight. not_both status 7 8 e eight refl;
              small = λ nine. not_both status 7 9 e nine refl;
              front = whole_front cause.1;
              quiet = λ q. prints status 7 e refl refl refl refl refl q;
              refuses = λ q also good_one refused calm quiet whole. absurd (whole cause.0);
              refuses_profile = λ q other also named bad calm. absurd (not_bad q other also named bad);
              complete = λ q ns also reaches good_one formed links calm quiet writes whole. absurd (whole cause.0);
            }
            go (refusals.Damaged place kept_one found) e said cause reads complete unprinted = record {
              known = known status 8 e (omega arith) (omega arith);
              usage = λ two. not_both status 8 2 e two refl;
              unusable = λ none. absurd (none s asked);
              refused = λ three. not_both status 8 3 e three refl;
              bad_profile = λ four. not_both status 8 4 e four refl;
              unread = λ five. not_both status 8 5 e five refl;
              memory = λ ten. not_both status 8 10 e ten refl;
              printed = λ zero. not_both status 8 0 e zero refl;
              unwritten = λ six. not_both status 8 6 e six refl;
              failed = λ seven. not_both status 8 7 e seven refl;
              damaged = λ eight. asks (StopsDamaged good Said) (record {
                distrusted = cause.1;
                record_told = inl (place, (kept_one, (found, (cause.0, said))));
              });
              small = λ nine. not_both status 8 9 e nine refl;
              front = whole_front cause.2;
              quiet = λ q. prints status 8 e refl refl refl refl refl q;
              refuses = λ q also good_one refused calm quiet whole. absurd (unprinted (refused_as q also refused) tt);
              refuses_profile = λ q other also named bad calm. absurd (not_bad q other also named bad);
              complete = λ q ns also reaches good_one formed links calm quiet writes whole. absurd (cause.1 (good_as q also reaches));
            }
            go (refusals.Unreadable place) e said cause reads complete unprinted = record {
              known = known status 8 e (omega arith) (omega arith);
              usage = λ two. not_both status 8 2 e two refl;
              unusable = λ none. absurd (none s asked);
              refused = λ three. not_both status 8 3 e three refl;
              bad_profile = λ four. not_both status 8 4 e four refl;
              unread = λ five. not_both status 8 5 e five refl;
              memory = λ ten. not_both status 8 10 e ten refl;
              printed = λ zero. not_both status 8 0 e zero refl;
              unwritten = λ six. not_both status 8 6 e six refl;
              failed = λ seven. not_both status 8 7 e seven refl;
              damaged = λ eight. asks (StopsDamaged good Said) (record { distrusted = cause.0; record_told = inr (inl (place, said)) });
              small = λ nine. not_both status 8 9 e nine refl;
              front = whole_front cause.1;
              quiet = λ q. prints status 8 e refl refl refl refl refl q;
              refuses = λ q also good_one refused calm quiet whole. absurd (unprinted (refused_as q also refused) tt);
              refuses_profile = λ q other also named bad calm. absurd (not_bad q other also named bad);
              complete = λ q ns also reaches good_one formed links calm quiet writes whole. absurd (cause.0 (good_as q also reaches));
            }
            go (refusals.Unfit pid) e said cause reads complete unprinted = record {
              known = known status 8 e (omega arith) (omega arith);
              usage = λ two. not_both status 8 2 e two refl;
              unusable = λ none. absurd (none s asked);
              refused = λ three. not_both status 8 3 e three refl;
              bad_profile = λ four. not_both status 8 4 e four refl;
              unread = λ five. not_both status 8 5 e five refl;
              memory = λ ten. not_both status 8 10 e ten refl;
              printed = λ zero. not_both status 8 0 e zero refl;
              unwritten = λ six. not_both status 8 6 e six refl;
              failed = λ seven. not_both status 8 7 e seven refl;
              damaged = λ eight. asks (StopsDamaged good Said) (record { distrusted = cause.0; record_told = inr (inr (pid, said)) });
              small = λ nine. not_both status 8 9 e nine refl;
              front = whole_front cause.1;
              quiet = λ q. prints status 8 e refl refl refl refl refl q;
              refuses = λ q also good_one refused calm quiet whole. absurd (unprinted (refused_as q also refused) tt);
              refuses_profile = λ q other also named bad calm. absurd (not_bad q other also named bad);
              complete = λ q ns also reaches good_one formed links calm quiet writes whole. absurd (cause.0 (good_as q also reaches));
            }
            go (refusals.TooSmall pid need limit) e said cause reads complete unprinted =
                let kept = cause.1 in
                record {
                  known = known status 9 e (omega arith) (omega arith);
                  usage = λ two. not_both status 9 2 e two refl;
                  unusable = λ none. absurd (none s asked);
                  refused = λ three. not_both status 9 3 e three refl;
                  bad_profile = λ four. not_both status 9 4 e four refl;
                  unread = λ five. not_both status 9 5 e five refl;
                  memory = λ ten. not_both status 9 10 e ten refl;
                  printed = λ zero. not_both status 9 0 e zero refl;
                  unwritten = λ six. not_both status 9 6 e six refl;
                  failed = λ seven. not_both status 9 7 e seven refl;
                  damaged = λ eight. not_both status 9 8 e eight refl;
                  small = λ nine. asks (StopsTooSmall tells good Said) (record { pid = pid; need = need; limit = limit; small = cause.0; said = said });
                  front = inl kept;
                  quiet = λ q. kept;
                  refuses = λ q also good_one refused calm quiet whole. inr (inl e);
                  refuses_profile = λ q other also named bad calm. absurd (not_bad q other also named bad);
                  complete = λ q ns also reaches good_one formed links calm quiet writes whole. inr (inl e);
                }
            go refusals.Memory e said cause reads complete unprinted = by_memory e said (whole_front cause)

        -- the text was put out
        pub opt_printed : (report : Report) (total after_plan : ℕ) → status ≡ 0 → HasPrinted tells good before after s counts names total after_plan
            → Said (report_line s.stats report) → report.under_peak ≤ s.limit → report.cost_before ≡ total → report.cost_after ≡ after_plan
            → (AreRefused tells s.files → ⊥)
            → OptPromise words tells shelf shelf_now before after out out_now good disk disk_now Said status (Some report)
        opt_printed report total after_plan e h said peak cost_before cost_after never =
            let before_is = cost_before ∙ h.total_is in
            let less = h.planned.within_budget in
            let whole : Prints tells good before after Said report s counts = record {
              lowered = h.lowered;
              program = h.program;
              syms = names;
              planned = h.planned;
              printed = h.printed;
              peak = peak;
              cost_before = before_is;
              cost_after = λ g. cost_after ∙ h.after_is g;
              within_budget = λ g. let after_is = cost_after ∙ h.after_is g in rw (before_is, after_is) less;
              said = said;
            } in
            let front : PrintsFront tells good before after s counts = record {
              lowered = h.lowered;
              program = h.program;
              syms = names;
              planned = h.planned;
              printed = λ g. (length (text h.program), subst (Appends before after) (sym (take-length (text h.program))) (h.printed g));
            } in
            record {
              known = inl e;
              usage = λ two. not_both status 0 2 e two refl;
              unusable = λ none. absurd (none s asked);
              refused = λ three. not_both status 0 3 e three refl;
              bad_profile = λ four. not_both status 0 4 e four refl;
              unread = λ five. not_both status 0 5 e five refl;
              memory = λ ten. not_both status 0 10 e ten refl;
              printed = λ zero. asks (Prints tells good before after Said report) whole;
              unwritten = λ six. not_both status 0 6 e six refl;
              failed = λ seven. not_both status 0 7 e seven refl;
              damaged = λ eight. not_both status 0 8 e eight refl;
              small = λ nine. not_both status 0 9 e nine refl;
              front = inr (asks (PrintsFront tells good before after) front);
              quiet = λ q. prints status 0 e refl refl refl refl refl q;
              refuses = λ q also good_one refused calm quiet whole. absurd (never (refused_as q also refused));
              refuses_profile = λ q other also named bad calm. absurd (not_bad q other also named bad);
              complete = λ q ns also reaches good_one formed links calm quiet writes whole. inl e;
            }
