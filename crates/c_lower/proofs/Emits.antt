-- What a piece of a draft puts in front of the code that follows.
use Rattle.std.proofs.Common.{◌≡◌, ℕ, zero, suc, ◌<◌, ◌≤◌, List, [], ◌∷◌, ◌++◌, map, length, get_or, refl, sym, ap, ◌∙◌, arith, Bool, true, false}
use Rattle.std.proofs.Common.{append_assoc, append-nil, length-append, length-set, get_or-set_same, get_or-set_other}
use Rattle.std.specs.Prelude.{slice_set}
use Rattle.il_core.specs.declared.instr.Block.{Block}
use Rattle.il_core.specs.declared.instr.Instr.{Instr}
use Rattle.il_core.specs.declared.instr.End.{End}
use Rattle.il_core.specs.declared.instr.End.TheVariants as ends
use Rattle.lower_laws.specs.Code as code
use Rattle.lower_laws.specs.Code.{Code, Numbers}
use Rattle.c_lower.specs.Drafts.{Draft, write, finish, next_label, mark, reach, begin_block, branch}
use Rattle.c_lower.specs.Settled.{settle, settled}

-- the blocks of a draft in which each label has the block that f gives, in front of code
abbrev pub joined : (ℕ → ℕ) → Draft → Code → List Block
joined f s k = map (settled f) s.done ++ record { instrs = s.here ++ k.here.instrs; end = k.here.end } ∷ k.later

-- a list has grown, and what was there stays
pub record Grown (a b : List ℕ) : Type 0 where
  pub more : length a ≤ length b
  pub keeps : (l : ℕ) → l < length a → get_or b l 0 ≡ get_or a l 0

-- f has the labels that came between two drafts, and r the locals that are declared by the second
pub record Agrees (f r : ℕ → ℕ) (s s1 : Draft) : Type 0 where
  pub labels : (l : ℕ) → length s.targets ≤ l → l < length s1.targets → f l ≡ get_or s1.targets l 0
  pub locals : (x : ℕ) → x < length s1.locals → r x ≡ get_or s1.locals x 0

-- Between two drafts came the code that c puts in front of what follows, where f and r are right, and declarators with
-- the registers that d puts in front of those that follow.
pub record Emits (f r : ℕ → ℕ) (d : List ℕ → List ℕ) (c : Code → Code) (s s1 : Draft) : Type 0 where
  pub targets : Grown s.targets s1.targets
  pub locals : Grown s.locals s1.locals
  pub declares : (k : List ℕ) → s1.locals ++ k ≡ s.locals ++ d k
  pub code : Agrees f r s s1 → (k : Code) → joined f s1 k ≡ joined f s (c k)

pub grown_none : (a : List ℕ) → Grown a a
grown_none a = record { more = omega arith; keeps = λ l h. refl }

pub grown_then : {a b c : List ℕ} → Grown a b → Grown b c → Grown a c
grown_then {a = a} {b = b} {c = c} p q = record {
  more = omega (arith, p.more, q.more);
  keeps = λ l h. let g : l < length b = omega (arith, p.more) in q.keeps l g ∙ p.keeps l h;
}

get_front : (a : List ℕ) (x : ℕ) (b : List ℕ) (l : ℕ) → l < length a → get_or (a ++ x ∷ b) l 0 ≡ get_or a l 0
get_front [] x b l h = absurd (omega arith)
get_front (y ∷ a) x b zero h = refl
get_front (y ∷ a) x b (suc l) h = get_front a x b l (omega arith)

get_last : (a : List ℕ) (x : ℕ) → get_or (a ++ x ∷ []) (length a) 0 ≡ x
get_last [] x = refl
get_last (y ∷ a) x = get_last a x

pub grown_one : (a : List ℕ) (x : ℕ) → Grown a (a ++ x ∷ [])
grown_one a x = record { more = omega (arith, length-append a (x ∷ [])); keeps = λ l h. get_front a x [] l h }

-- one piece after another
pub one_then : {f r : ℕ → ℕ} {d e : List ℕ → List ℕ} {c k : Code → Code} {s s1 s2 : Draft} → Emits f r d c s s1 → Emits f r e k s1 s2 →
    Emits f r (λ l. d (e l)) (λ l. c (k l)) s s2
one_then {f = f} {r = r} {d = d} {e = e} {c = c} {k = k} {s = s} {s1 = s1} {s2 = s2} p q = record {
  targets = grown_then p.targets q.targets;
  locals = grown_then p.locals q.locals;
  declares = λ l. q.declares l ∙ p.declares (e l);
  code = λ g l.
      let g1 : Agrees f r s s1 = record {
        labels = λ a h i. let j : a < length s2.targets = omega (arith, q.targets.more) in g.labels a h j ∙ q.targets.keeps a i;
        locals = λ x h. let j : x < length s2.locals = omega (arith, q.locals.more) in g.locals x j ∙ q.locals.keeps x h;
      } in
      let g2 : Agrees f r s1 s2 = record {
        labels = λ a h i. let j : length s.targets ≤ a = omega (arith, p.targets.more) in g.labels a j i;
        locals = λ x h. g.locals x h;
      } in
      q.code g2 l ∙ p.code g1 (k l);
}

pub none : {f r : ℕ → ℕ} (s : Draft) → Emits f r (λ l. l) (λ k. k) s s
none s = record { targets = grown_none s.targets; locals = grown_none s.locals; declares = λ k. refl; code = λ g k. refl }

-- an instruction, and the end of a block
pub puts : {f r : ℕ → ℕ} (i : Instr) (s : Draft) → Emits f r (λ l. l) (code.put i) s (write i s)
unfolding write
puts {f = f} i s = record {
  targets = grown_none s.targets;
  locals = grown_none s.locals;
  declares = λ k. refl;
  code = λ g k. ap (λ (h : List Instr). map (settled f) s.done ++ record { instrs = h; end = k.here.end } ∷ k.later)
      (append_assoc s.here (i ∷ []) k.here.instrs);
}

map_last : (f : ℕ → ℕ) (a : List Block) (x : Block) (k : List Block) → map (settled f) (a ++ x ∷ []) ++ k ≡ map (settled f) a ++ settled f x ∷ k
map_last f [] x k = refl
map_last f (b ∷ a) x k = ap (λ l. settled f b ∷ l) (map_last f a x k)

pub closes : {f r : ℕ → ℕ} (e : End) (s : Draft) → Emits f r (λ l. l) (code.close (settle f e)) s (finish e s)
unfolding finish
closes {f = f} e s = record {
  targets = grown_none s.targets;
  locals = grown_none s.locals;
  declares = λ k. refl;
  code = λ g k. map_last f s.done _ _
      ∙ ap (λ (h : List Instr). map
      (settled f) s.done ++ record { instrs = h; end = settle f e } ∷ record { instrs = k.here.instrs; end = k.here.end } ∷ k.later)
      (sym (append-nil s.here));
}

-- a label alone adds no code
pub marks : {f r : ℕ → ℕ} (b : ℕ) (s : Draft) → Emits f r (λ l. l) (λ k. k) s (mark b s)
unfolding mark
marks b s = record { targets = grown_one s.targets b; locals = grown_none s.locals; declares = λ k. refl; code = λ g k. refl }

-- code that names a new label whose block is known
pub known : {f r : ℕ → ℕ} {d : List ℕ → List ℕ} {s s1 : Draft} (b : ℕ) (c : ℕ → Code → Code) → Emits f r d (c (f (next_label s))) (mark b s) s1 →
    Emits f r d (c b) s s1
unfolding mark next_label
known {f = f} {r = r} {d = d} {s = s} {s1 = s1} b c p =
    let grown = grown_one s.targets b in
    let more : suc (length s.targets) ≤ length s1.targets = omega (arith, p.targets.more, length-append s.targets (b ∷ [])) in
    let new : length s.targets < length (s.targets ++ b ∷ []) = omega (arith, length-append s.targets (b ∷ [])) in
    record {
      targets = grown_then grown p.targets;
      locals = p.locals;
      declares = p.declares;
      code = λ g k.
          let there : length s.targets ≤ length s.targets = omega arith in
          let is : f (length s.targets) ≡ b = g.labels (length s.targets) there (omega (arith, more)) ∙ p.targets.keeps (length s.targets) new
          ∙ get_last s.targets b in
          let g1 : Agrees f r (mark b s) s1 = record {
            labels = λ a h i. let j : length s.targets ≤ a = omega (arith, h, length-append s.targets (b ∷ [])) in g.labels a j i;
            locals = g.locals;
          } in
          p.code g1 k ∙ ap (λ v. joined f s (c v k)) is;
    }

-- code that names a new label whose place is reached behind it, at block b
pub hole : {f r : ℕ → ℕ} {d : List ℕ → List ℕ} {s s1 : Draft} (b : ℕ) (c : ℕ → Code → Code) → Emits f r d (c (f (next_label s))) (mark 0 s) s1 →
    Emits f r d (c b) s (reach (next_label s) b s1)
unfolding mark next_label reach
hole {f = f} {r = r} {d = d} {s = s} {s1 = s1} b c p =
    let n = length s.targets in
    let size : length (slice_set s1.targets n b) ≡ length s1.targets = length-set s1.targets n b in
    let more : suc (length s.targets) ≤ length s1.targets = omega (arith, p.targets.more, length-append s.targets (0 ∷ [])) in
    let lt : length s.targets < length s1.targets = omega (arith, more) in
    record {
      targets = record {
        more = omega (arith, size, more);
        keeps = λ l h.
            let ne : l ≡ length s.targets → ⊥ = λ e. omega (arith, e, h) in
            let m : l < length (s.targets ++ 0 ∷ []) = omega (arith, h, length-append s.targets (0 ∷ [])) in
            get_or-set_other s1.targets n l b 0 ne ∙ p.targets.keeps l m ∙ get_front s.targets 0 [] l h;
      };
      locals = p.locals;
      declares = p.declares;
      code = λ g k.
          let there : length s.targets ≤ length s.targets = omega arith in
          let is : f (length s.targets) ≡ b = g.labels (length s.targets) there (omega (arith, lt, size)) ∙ get_or-set_same s1.targets n b 0 lt in
          let g1 : Agrees f r (mark 0 s) s1 = record {
            labels = λ a h i.
                let j : suc (length s.targets) ≤ a = omega (arith, h, length-append s.targets (0 ∷ [])) in
                let ne : a ≡ length s.targets → ⊥ = λ e. omega (arith, e, j) in
                g.labels a (omega (arith, j)) (omega (arith, i, size)) ∙ get_or-set_other s1.targets n a b 0 ne;
            locals = g.locals;
          } in
          p.code g1 k ∙ ap (λ v. joined f s (c v k)) is;
    }

-- a jump to a block that is known, a block that is begun, and a branch
pub jumps : {f r : ℕ → ℕ} (b : ℕ) (s : Draft) → Emits f r (λ l. l) (code.close (ends.Jump b)) s (finish (ends.Jump (next_label s)) (mark b s))
jumps b s = known b (λ v k. code.close (ends.Jump v) k) (closes (ends.Jump (next_label s)) (mark b s))

pub begins : {f r : ℕ → ℕ} (b : Bool) (n : Numbers) (s : Draft) → Emits f r (λ l. l) (code.label b n) s (begin_block b n s)
begins true n s = jumps (suc n.block) s
begins false n s = none s

pub branches : {f r : ℕ → ℕ} (x l : ℕ) (n : Numbers) (s : Draft) → Emits f r (λ l. l) (code.close (ends.Branch x (suc n.block) (f l))) s (branch x l n s)
branches {f = f} x l n s = known (suc n.block) (λ v k. code.close (ends.Branch x v (f l)) k) (closes (ends.Branch x (next_label s) l) (mark (suc n.block) s))

-- as many locals are declared
pub still : {f r : ℕ → ℕ} {d : List ℕ → List ℕ} {c : Code → Code} {s s1 : Draft} {n : ℕ} → n ≤ length s.locals → Emits f r d c s s1 → n ≤ length s1.locals
still h p = omega (arith, h, p.locals.more)
