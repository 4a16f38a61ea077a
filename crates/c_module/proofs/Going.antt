-- Going over files in order, and what each end of it says of them.
use Rattle.std.proofs.Common.{◌≡◌, ℕ, zero, suc, ◌+◌, ◌<◌, ◌≤◌, List, [], ◌∷◌, ◌++◌, Some, None, Result, Ok, Err, length, get_or, take, drop, map, refl}
use Rattle.std.proofs.Common.{sym, ◌∙◌, ap, subst, arith, inl, inr, length-append}
use Rattle.std.specs.Prelude.{All, IfErr, IfOk, IsErr}
use Rattle.std.specs.List.{AllByRecursion}
use Rattle.std.proofs.Math.Seq.{get_or-append_seam}
use Rattle.std.proofs.lemmas.Grind.{flat_map-append}
use Rattle.std.proofs.lemmas.List.{append-nil, length-take-le, take_more}
use Rattle.c_tree.specs.declared.declaration.Module.{Module}
use Rattle.c_typed.specs.declared.function.TypedModule.{TypedModule}
use Rattle.c_typed.specs.Views.{function_of, functions_of}
use Rattle.c_types.specs.Rules.{Here, Gives}
use Rattle.c_types.specs.Typing.{module_rules, start}
use Rattle.linker.specs.Linking.{refusal}
use Rattle.outside.specs.Faults.{Rose}
use Rattle.outside.specs.Told.{Told}
use Rattle.program_laws.specs.Typed.{AreTypedAs}
use Rattle.sym_tables.specs.Table.{Table}
use Rattle.c_module.specs.Files.{HoldsFault, HoldsModule, HoldsTyped, IsCause}
use Rattle.c_module.specs.Limits.{AreWellFormed, KeepsLimits, functions_in}
use Rattle.c_module.specs.Told.{AreIllFormed, AreQuiet, AreRefused, AreTextsOf, AreWellFormedTexts, HaveOther, IsTextOf}
use Rattle.c_module.specs.Verdict.{EndsAt, HoldModules, HoldWellFormed, IsProgramCause, IsUnread, IsWant, Passes}
use Rattle.c_module.specs.declared.fault.FileFault.{FileFault}
use Rattle.c_module.specs.declared.fault.FileFault.TheVariants.{NoModule, CannotRead, Memory}
use Rattle.c_module.specs.declared.fault.ModuleFault.{ModuleFault}
use Rattle.c_module.specs.declared.fault.ProgramFault.{ProgramFault}
use Rattle.c_module.specs.declared.fault.ProgramFault.TheVariants as program
use Rattle.c_module.proofs.Elements.{all_behind, all_both, all_front, around}
use Rattle.c_module.proofs.Modules.{file_has_no_fault, other_is_no_module, same_module}

-- ## Files and their modules

-- one more file that is the text of a module
one_more : (tells : List ℕ → Told) (files : List (List ℕ)) (modules : List Module) (file : List ℕ) (m : Module) → HoldModules tells files modules
    → HoldsModule (tells file) m → HoldModules tells (files ++ file ∷ []) (modules ++ m ∷ [])
one_more tells [] [] file m held h = (h, tt)
one_more tells [] (n ∷ modules) file m held h = absurd held
one_more tells (f ∷ files) [] file m held h = absurd held
one_more tells (f ∷ files) (n ∷ modules) file m held h = (held.0, one_more tells files modules file m held.1 h)

-- there are as many modules as files
as_many : (tells : List ℕ → Told) (files : List (List ℕ)) (modules : List Module) → HoldModules tells files modules → length modules ≡ length files
as_many tells [] [] held = refl
as_many tells [] (m ∷ modules) held = absurd held
as_many tells (f ∷ files) [] held = absurd held
as_many tells (f ∷ files) (m ∷ modules) held = ap suc (as_many tells files modules held.1)

-- each file has its module
module_at : (tells : List ℕ → Told) (files : List (List ℕ)) (modules : List Module) (k : ℕ) (d : List ℕ) → HoldModules tells files modules
    → k < length files → (m : Module) × HoldsModule (tells (get_or files k d)) m
module_at tells [] modules k d held h = absurd (omega (arith, h))
module_at tells (f ∷ files) [] k d held h = absurd held
module_at tells (f ∷ files) (m ∷ modules) zero d held h = (m, held.0)
module_at tells (f ∷ files) (m ∷ modules) (suc k) d held h = module_at tells files modules k d held.1 (omega (arith, h))

-- what holds of all elements holds of one in the middle
in_middle : (P : List ℕ → Type 0) (xs ys zs : List (List ℕ)) (y : List ℕ) → All P zs → zs ≡ xs ++ y ∷ ys → P y
in_middle P xs ys zs y all is =
    let seam : get_or (xs ++ y ∷ ys) (length xs) y ≡ y = get_or-append_seam xs y ys y in
    let longer : length xs < length zs = omega (arith, ap length is, length-append xs (y ∷ ys)) in
    subst P (ap (λ l. get_or l (length xs) y) is ∙ seam) (all (length xs) y longer)

-- told files have one list of modules
same_modules : (tells : List ℕ → Told) (files : List (List ℕ)) (ms ns : List Module) → AreTextsOf tells files ms → HoldModules tells files ns → ns ≡ ms
same_modules tells [] [] [] texts held = refl
same_modules tells [] [] (n ∷ ns) texts held = absurd held
same_modules tells [] (m ∷ ms) ns texts held = absurd texts
same_modules tells (f ∷ files) [] ns texts held = absurd texts
same_modules tells (f ∷ files) (m ∷ ms) [] texts held = absurd held
same_modules tells (f ∷ files) (m ∷ ms) (n ∷ ns) texts held =
    ap (λ x. x ∷ ns) (same_module (tells f) m n texts.0 held.0) ∙ ap (λ l. m ∷ l) (same_modules tells files ms ns texts.1 held.1)

-- texts around the one of a file
record TextsAround (tells : List ℕ → Told) (earlier : List (List ℕ)) (file : List ℕ) (ms : List Module) : Type 0 where
  pub first : List Module
  pub here : Module
  pub rest : List Module
  pub whole : ms ≡ first ++ here ∷ rest
  pub texts : AreTextsOf tells earlier first
  pub text : IsTextOf (tells file) here

texts_around : (tells : List ℕ → Told) (earlier : List (List ℕ)) (file : List ℕ) (later : List (List ℕ)) (ms : List Module)
    → AreTextsOf tells (earlier ++ file ∷ later) ms → TextsAround tells earlier file ms
texts_around tells [] file later [] texts = absurd texts
texts_around tells [] file later (m ∷ ms) texts = record { first = []; here = m; rest = ms; whole = refl; texts = tt; text = texts.0 }
texts_around tells (f ∷ earlier) file later [] texts = absurd texts
texts_around tells (f ∷ earlier) file later (m ∷ ms) texts =
    let r = texts_around tells earlier file later ms texts.1 in
    record { first = m ∷ r.first; here = r.here; rest = r.rest; whole = ap (λ l. m ∷ l) r.whole; texts = (texts.0, r.texts); text = r.text }

-- the modules of the first files
record HeldFront (tells : List ℕ → Told) (first : List (List ℕ)) (ns : List Module) : Type 0 where
  pub front : List Module
  pub rest : List Module
  pub whole : ns ≡ front ++ rest
  pub held : HoldModules tells first front

held_front : (tells : List ℕ → Told) (first later : List (List ℕ)) (ns : List Module) → HoldModules tells (first ++ later) ns → HeldFront tells first ns
held_front tells [] later ns held = record { front = []; rest = ns; whole = refl; held = tt }
held_front tells (f ∷ first) later [] held = absurd held
held_front tells (f ∷ first) later (n ∷ ns) held =
    let r = held_front tells first later ns held.1 in
    record { front = n ∷ r.front; rest = r.rest; whole = ap (λ l. n ∷ l) r.whole; held = (held.0, r.held) }

-- ## Modules that follow the rules

-- the functions of modules with one more behind them
pub functions_more : (ts : List TypedModule) (t : TypedModule) → functions_of (ts ++ t ∷ []) ≡ functions_of ts ++ functions_in t
functions_more ts t =
    flat_map-append (λ (m : TypedModule). map function_of m.functions) ts (t ∷ []) ∙ ap (λ l. functions_of ts ++ l) (append-nil (functions_in t))

-- the modules take the names to one table
same_names : (number : ℕ) (old : Table) (ms : List Module) (ts us : List TypedModule) (a b : Table) → AreTypedAs number old ms ts a
    → AreTypedAs number old ms us b → a ≡ b
same_names number old [] [] [] a b x y = x ∙ sym y
same_names number old [] [] (u ∷ us) a b x y = absurd y
same_names number old [] (t ∷ ts) us a b x y = absurd x
same_names number old (m ∷ ms) [] us a b x y = absurd x
same_names number old (m ∷ ms) (t ∷ ts) [] a b x y = absurd y
same_names number old (m ∷ ms) (t ∷ ts) (u ∷ us) a b (h, gives, rest) (k, same, others) =
    let e : Gives t h ≡ Gives u k = sym gives ∙ same in
    let s : h ≡ k = cc e in
    same_names (suc number) h.syms ms ts us a b rest (subst (λ x. AreTypedAs (suc number) x.syms ms us b) (sym s) others)

-- one more module, whose number is the next one
typed_more : (number place : ℕ) (old : Table) (ms : List Module) (ts : List TypedModule) (between : Table) (m : Module) (t : TypedModule) (h : Here)
    → place ≡ number + length ms → AreTypedAs number old ms ts between → module_rules place m (start between) ≡ Gives t h
    → AreTypedAs number old (ms ++ m ∷ []) (ts ++ t ∷ []) h.syms
typed_more number place old [] [] between m t h at typed gives =
    let here : place ≡ number = omega (arith, at) in
    (h, ap (λ i. module_rules i m (start old)) (sym here) ∙ ap (λ s. module_rules place m (start s)) (sym typed) ∙ gives, refl)
typed_more number place old [] (u ∷ ts) between m t h at typed gives = absurd typed
typed_more number place old (n ∷ ms) [] between m t h at typed gives = absurd typed
typed_more number place old (n ∷ ms) (u ∷ ts) between m t h at (k, first, rest) gives =
    (k, first, typed_more (suc number) place k.syms ms ts between m t h (omega (arith, at)) rest gives)

-- modules in front of others, with the table between them
record TypedFront (number place : ℕ) (old : Table) (ms rest : List Module) (ts : List TypedModule) (new : Table) : Type 0 where
  pub front : List TypedModule
  pub behind : List TypedModule
  pub between : Table
  pub whole : ts ≡ front ++ behind
  pub before : AreTypedAs number old ms front between
  pub after : AreTypedAs place between rest behind new

typed_front : (number place : ℕ) (old : Table) (ms rest : List Module) (ts : List TypedModule) (new : Table) → place ≡ number + length ms
    → AreTypedAs number old (ms ++ rest) ts new → TypedFront number place old ms rest ts new
typed_front number place old [] rest ts new at typed =
    let here : number ≡ place = omega (arith, at) in
    record { front = []; behind = ts; between = old; whole = refl; before = refl; after = subst (λ i. AreTypedAs i old rest ts new) here typed }
typed_front number place old (m ∷ ms) rest [] new at typed = absurd typed
typed_front number place old (m ∷ ms) rest (t ∷ ts) new at (h, gives, more) =
    let r = typed_front (suc number) place h.syms ms rest ts new (omega (arith, at)) more in
    record { front = t ∷ r.front; behind = r.behind; between = r.between; whole = ap (λ l. t ∷ l) r.whole; before = (h, gives, r.before); after = r.after }

-- the functions of the front keep the limits where all do
front_keeps : (front behind ts : List TypedModule) → ts ≡ front ++ behind → AllByRecursion KeepsLimits (functions_of ts)
    → AllByRecursion KeepsLimits (functions_of front) × AllByRecursion KeepsLimits (functions_of behind)
front_keeps front behind ts whole kept =
    let both = subst (AllByRecursion KeepsLimits)
    (ap functions_of whole ∙ flat_map-append (λ (m : TypedModule). map function_of m.functions) front behind) kept in
    (all_front KeepsLimits (functions_of front) (functions_of behind) both, all_behind KeepsLimits (functions_of front) (functions_of behind) both)

-- a file before which well formed modules stand has no fault where it is the text of the next of them
next_has_no_fault : (place : ℕ) (between : Table) (told : Told) (fault : ModuleFault) (known : Table) (m : Module) (rest : List Module)
    (ts : List TypedModule) (new : Table) → IsTextOf told m → AreTypedAs place between (m ∷ rest) ts new
    → AllByRecursion KeepsLimits (functions_of ts) → HoldsFault place between told fault known → ⊥
next_has_no_fault place between told fault known m rest [] new text typed kept has = typed
next_has_no_fault place between told fault known m rest (t ∷ ts) new text (h, gives, more) kept has =
    file_has_no_fault place between told fault known m t h text gives (all_front KeepsLimits (functions_in t) (functions_of ts) kept) has

-- ## What ends it

module _ (tells : List ℕ → Told) (before after : List ℕ → ℕ) (files : List (List ℕ)) where
  -- a file among told ones that are well formed has no fault: the modules before it, by which going over the files came to
  -- it, are those that were told
  no_fault : (names : Table) → AreWellFormedTexts tells files names → (file : List ℕ) (fault : ModuleFault) (known : Table)
      → EndsAt tells before after files file (NoModule fault) known → ⊥
  no_fault names told file fault known ends =
      let x = texts_around tells ends.earlier file ends.later told.modules (subst (λ l. AreTextsOf tells l told.modules) ends.whole told.texts) in
      let formed = subst (λ l. AreWellFormed l told.ts names) x.whole told.formed in
      let same : ends.modules ≡ x.first = same_modules tells ends.earlier x.first ends.modules x.texts ends.hold.held in
      let many = as_many tells ends.earlier ends.modules ends.hold.held in
      let at : suc (length ends.earlier) ≡ 1 + length x.first = omega (arith, many, ap length same) in
      let y = typed_front 1 (suc (length ends.earlier)) [] x.first (x.here ∷ x.rest) told.ts names at formed.typed in
      let between : ends.syms ≡ y.between = same_names 1 [] x.first ends.ts y.front ends.syms y.between
      (subst (λ l. AreTypedAs 1 [] l ends.ts ends.syms) same ends.hold.formed.typed) y.before in
      next_has_no_fault (suc (length ends.earlier)) y.between (tells file) fault known x.here x.rest y.behind names x.text y.after
      (front_keeps y.front y.behind told.ts y.whole formed.limits).1
      (subst (λ s. HoldsFault (suc (length ends.earlier)) s (tells file) fault known) between ends.cause)

  -- told files that are well formed have one table of names
  one_table : (names : Table) → AreWellFormedTexts tells files names → (modules : List Module) (ts : List TypedModule) (syms : Table)
      → HoldWellFormed tells files modules ts syms → syms ≡ names
  one_table names told modules ts syms hold =
      let same = same_modules tells files told.modules modules told.texts hold.held in
      same_names 1 [] told.modules ts told.ts syms names (subst (λ l. AreTypedAs 1 [] l ts syms) same hold.formed.typed) told.formed.typed

  -- where told files are well formed and link, and no count rose, want of memory alone ends it
  pub only_want : (fault : ProgramFault) (known : Table) → IsProgramCause fault files tells before after known → (names : Table)
      → AreWellFormedTexts tells files names → refusal names ≡ None → AreQuiet before after files → IsWant fault
  only_want (program.File file (NoModule fault)) known ends names told links quiet = absurd (no_fault names told file.now fault known ends)
  only_want (program.File file CannotRead) known ends names told links quiet =
      absurd (in_middle (λ f. Rose (before f) (after f) → ⊥) ends.earlier ends.later files file.now quiet ends.whole ends.cause)
  only_want (program.File file Memory) known ends names told links quiet = tt
  only_want (program.Link fault) known unlinked names told links quiet =
      let same = one_table names told unlinked.modules unlinked.ts known unlinked.hold in
      let e : Some fault ≡ None = sym unlinked.refused ∙ ap refusal same ∙ links in
      absurd cc
  only_want program.Memory known cause names told links quiet = tt

  -- where no count rose, no file couldn't be read
  pub none_unread : (fault : ProgramFault) (known : Table) → IsProgramCause fault files tells before after known → AreQuiet before after files
      → IsUnread fault → ⊥
  none_unread (program.File file (NoModule fault)) known ends quiet unread = unread
  none_unread (program.File file CannotRead) known ends quiet unread =
      in_middle (λ f. Rose (before f) (after f) → ⊥) ends.earlier ends.later files file.now quiet ends.whole ends.cause
  none_unread (program.File file Memory) known ends quiet unread = unread
  none_unread (program.Link fault) known cause quiet unread = unread
  none_unread program.Memory known cause quiet unread = unread

  -- the same of an answer
  pub wants : {T : Type 0} (answer : Result T ProgramFault) (known : Table)
      → IfErr answer (λ fault. IsProgramCause fault files tells before after known) → (names : Table) → AreWellFormedTexts tells files names
      → refusal names ≡ None → AreQuiet before after files → IfErr answer IsWant
  wants (Ok x) known cause names told links quiet = tt
  wants (Err fault) known cause names told links quiet = only_want fault known cause names told links quiet

  pub reads : {T : Type 0} (answer : Result T ProgramFault) (known : Table)
      → IfErr answer (λ fault. IsProgramCause fault files tells before after known) → AreQuiet before after files
      → IfErr answer (λ fault. IsUnread fault → ⊥)
  reads (Ok x) known cause quiet = tt
  reads (Err fault) known cause quiet = none_unread fault known cause quiet

  -- ## Files that pass

  none_other : (modules : List Module) → HoldModules tells files modules → HaveOther tells files → ⊥
  none_other modules held other =
      let at = other.among in
      let found = module_at tells files modules at.0 other.file held at.1 in
      other_is_no_module (tells other.file) found.0 other.other (subst (λ f. HoldsModule (tells f) found.0) at.2 found.1)

  none_ill : (modules : List Module) (ts : List TypedModule) (syms : Table) → HoldWellFormed tells files modules ts syms → AreIllFormed tells files → ⊥
  none_ill modules ts syms hold ill =
      let x = held_front tells ill.first ill.later modules (subst (λ l. HoldModules tells l modules) ill.whole hold.held) in
      let same : x.front ≡ ill.modules = same_modules tells ill.first ill.modules x.front ill.texts x.held in
      let y = typed_front 1 (1 + length x.front) [] x.front x.rest ts syms refl (subst (λ l. AreTypedAs 1 [] l ts syms) x.whole hold.formed.typed) in
      ill.broken y.front y.between (subst (λ l. AreWellFormed l y.front y.between) same (record {
        typed = y.before;
        limits = (front_keeps y.front y.behind ts y.whole hold.formed.limits).0;
      }))

  pub none_refused : (syms : Table) → Passes tells files syms → AreRefused tells files → ⊥
  none_refused syms passes (inl other) = none_other passes.modules passes.accepted.hold.held other
  none_refused syms passes (inr (inl ill)) = none_ill passes.modules passes.ts syms passes.accepted.hold ill
  none_refused syms passes (inr (inr unlinked)) =
      let same = one_table unlinked.syms unlinked.formed passes.modules passes.ts syms passes.accepted.hold in
      unlinked.apart (ap refusal (sym same) ∙ passes.accepted.links)

  -- the same of an answer
  pub refuses : {T E : Type 0} {P : T → Type 0} (answer : Result T E) (syms : Table) → ((x : T) → P x → Passes tells files syms)
      → IfOk answer P → AreRefused tells files → IsErr answer
  refuses (Ok x) syms passes ok refused = absurd (none_refused syms (passes x ok) refused)
  refuses (Err fault) syms passes ok refused = refl

-- ## Step by step

-- the files so far are the texts of well formed modules
pub record Passed (tells : List ℕ → Told) (files : List (List ℕ)) (syms : Table) : Type 0 where
  pub modules : List Module
  pub ts : List TypedModule
  pub hold : HoldWellFormed tells files modules ts syms

-- none of them
pub none_yet : (tells : List ℕ → Told) (syms : Table) → syms ≡ [] → Passed tells [] syms
none_yet tells syms is = record { modules = []; ts = []; hold = record { held = tt; formed = record { typed = is; limits = tt } } }

-- the cause, where the count of the one that ended it rose since an earlier moment
earlier_count : (number : ℕ) (old known : Table) (told same : Told) (first before after : ℕ) (fault : FileFault) → told ≡ same → first ≤ before
    → IsCause number old fault told before after known → IsCause number old fault same first after known
earlier_count number old known told same first before after (NoModule fault) e low cause = subst (λ t. HoldsFault number old t fault known) e cause
earlier_count number old known told same first before after CannotRead e low cause = omega (arith, low, cause)
earlier_count number old known told same first before after Memory e low cause = tt

-- a file of the list, as the loop comes to it
module _ (tells : List ℕ → Told) (files : List (List ℕ)) (k : ℕ) (name : List ℕ) (less : k < length files) (is : name ≡ get_or files k name) where
  so_many : (modules : List Module) → HoldModules tells (take k files) modules → length modules ≡ k
  so_many modules held = as_many tells (take k files) modules held ∙ length-take-le k files (omega (arith, less))

  -- it is the text of a module that is well formed, and so were those before it
  pub hold_more : (modules : List Module) (ts : List TypedModule) (syms new : Table) (number : ℕ) (told : Told) (t : TypedModule)
      → HoldWellFormed tells (take k files) modules ts syms → number ≡ suc k → told ≡ tells name → (held : HoldsTyped number syms told t new)
      → AllByRecursion KeepsLimits (functions_in t)
      → HoldWellFormed tells (take (k + 1) files) (modules ++ held.found ∷ []) (ts ++ t ∷ []) new
  hold_more modules ts syms new number told t hold is_number same held kept =
      let more : take k files ++ name ∷ [] ≡ take (k + 1) files = ap (λ x. take k files ++ x ∷ []) is ∙ sym (take_more files k name less) in
      let next : number ≡ 1 + length modules = omega (arith, so_many modules hold.held, is_number) in
      let typed = typed_more 1 number [] modules ts syms held.found t held.here next hold.formed.typed held.typed in
      record {
        held = subst (λ l. HoldModules tells l (modules ++ held.found ∷ [])) more
            (one_more tells (take k files) modules name held.found hold.held (subst (λ d. HoldsModule d held.found) same held.held));
        formed = record {
          typed = subst (λ s. AreTypedAs 1 [] (modules ++ held.found ∷ []) (ts ++ t ∷ []) s) (sym held.names) typed;
          limits = subst (AllByRecursion KeepsLimits) (sym (functions_more ts t))
              (all_both KeepsLimits (functions_of ts) (functions_in t) hold.formed.limits kept);
        };
      }

  pub up_to_next : (syms new : Table) (number : ℕ) (told : Told) (t : TypedModule) → Passed tells (take k files) syms → number ≡ suc k
      → told ≡ tells name → HoldsTyped number syms told t new → AllByRecursion KeepsLimits (functions_in t) → Passed tells (take (k + 1) files) new
  up_to_next syms new number told t passed is_number same held kept = record {
    modules = passed.modules ++ held.found ∷ [];
    ts = passed.ts ++ t ∷ [];
    hold = hold_more passed.modules passed.ts syms new number told t passed.hold is_number same held kept;
  }

  -- going over the files ends at it
  pub ends_here : (first before after : List ℕ → ℕ) (told : Told) (syms known : Table) (number : ℕ) (fault : FileFault)
      → Passed tells (take k files) syms → number ≡ suc k → told ≡ tells name → first name ≤ before name
      → IsCause number syms fault told (before name) (after name) known → EndsAt tells first after files name fault known
  ends_here first before after told syms known number fault passed is_number same low cause =
      let next : number ≡ suc (length (take k files)) = is_number ∙ ap suc (sym (length-take-le k files (omega (arith, less)))) in
      record {
        earlier = take k files;
        later = drop (k + 1) files;
        modules = passed.modules;
        ts = passed.ts;
        syms = syms;
        whole = around files k name less is;
        hold = passed.hold;
        cause = subst (λ i. IsCause i syms fault (tells name) (first name) (after name) known) next
            (earlier_count number syms known told (tells name) (first name) (before name) (after name) fault same low cause);
      }
