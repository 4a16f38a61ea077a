-- The readers of the words that are made of others.
use Rattle.std.proofs.Common.{ℕ, ◌≡◌, refl, sym, ◌∙◌, ap, true, false, nat_eq, if◌then◌else◌, List, [], ◌∷◌, ◌++◌, append-nil, Some, None, is_some, eq-eqb}
use Rattle.c_tree.specs.declared.token.Token.{Token}
use Rattle.c_tree.specs.declared.token.TokenKind.{TokenKind}
use Rattle.c_tree.specs.declared.token.TokenKind.TheVariants as kinds
use Rattle.c_tree.specs.declared.token.Punct.{Punct}
use Rattle.c_tree.specs.declared.token.Punct.TheVariants as p
use Rattle.c_tree.specs.declared.token.Reserved.{Reserved}
use Rattle.c_tree.specs.declared.expression.Identifier.{Identifier}
use Rattle.hlo_num.specs.declared.word.Ty.TheVariants.{Int}
use Rattle.c_parse.proofs.Numbers.{name_exact, constant_exact}
use Rattle.c_parse.specs.Classes.{class, punct, look, member, row_of, classes}
use Rattle.c_parse.specs.Languages.{line_if, lined, sign, among, made, optional, lead, trail, built}
use Rattle.c_parse.specs.Trees.{Sized, name_of, constant_of}
use Rattle.c_parse.specs.Expressions.{identifier, constant}
use Rattle.c_parse.specs.Reading.{Reply, Found, picked_reply, read_picked, read_sign, read_among, read_made, read_optional, read_lead, read_trail, read_built}
use Rattle.c_parse.proofs.Members.{row_exact, subset, apart, if_true, member-subset, member-left, member-right, among_exact, sign_exact}
use Rattle.c_parse.proofs.Rows.{reads_built}
use Rattle.c_parse.proofs.Readers.{Reads, reads_picked, reads_made, reads_both, reads_either, reads_absent, some_front}

pub subset_of : (xs ys : List ℕ) → ((k : ℕ) → member k xs ≡ true → member k ys ≡ true) → subset xs ys ≡ true
subset_of [] ys f = refl
subset_of (x ∷ xs) ys f = if_true _ _ (f x (if_true _ _ (eq-eqb x x refl))) ∙ subset_of xs ys (λ k h. f k (tail k h))
  where
    tail : (k : ℕ) → member k xs ≡ true → member k (x ∷ xs) ≡ true
    tail k h = member-right k (x ∷ []) xs h

pub subset_self : (xs : List ℕ) → subset xs xs ≡ true
subset_self xs = subset_of xs xs (λ k h. h)

pub subset_left : (xs ys : List ℕ) → subset xs (xs ++ ys) ≡ true
subset_left xs ys = subset_of xs (xs ++ ys) (λ k h. member-left k xs ys h)

pub subset_right : (xs ys : List ℕ) → subset ys (xs ++ ys) ≡ true
subset_right xs ys = subset_of ys (xs ++ ys) (λ k h. member-right k xs ys h)

-- sample tokens
abbrev pub token : TokenKind → Token
token k = record { kind = k; line = 0; «from» = 0; to = 0 }

abbrev pub mark : Punct → Token
mark q = token (kinds.Punct q)

abbrev pub reserved : Reserved → Token
reserved r = token (kinds.Word r)

abbrev pub Some_of : {A : Type 0} → (A → List Token → Type 0) → Type 0
Some_of {A} L = (a : A) × (us : List Token) × L a us

pub has_line : (t : Token) → is_some (line_if (class t) t) ≡ true
has_line t = ap is_some (if_true (Some t.line) None (eq-eqb (class t) (class t) refl))

pub some_sign : (t : Token) → Some_of (sign (class t))
some_sign t = (t.line, t ∷ [], (t, refl, if_true _ _ (eq-eqb (class t) (class t) refl)))

pub reads_sign : (t : Token) → nat_eq 0 (class t) ≡ false → (follow : ℕ → List ℕ)
    → Reads (sign (class t)) (sign (class t)) (read_sign (class t)) (read_sign (class t)) (class t ∷ []) follow
reads_sign t pos follow = reads_picked (line_if (class t)) (class t ∷ []) (sign_exact (class t)) (ap (λ z. if z then true else false) pos) t (has_line t) follow

pub reads_among : {A : Type 0} (table : List (ℕ × A)) → member 0 (classes table) ≡ false → (t : Token) → is_some (lined t.line (row_of (class t) table)) ≡ true
    → (follow : A × ℕ → List ℕ) → Reads (among table) (among table) (read_among table) (read_among table) (classes table) follow
reads_among table no_end t has follow = reads_picked (λ t. lined t.line (row_of (class t) table)) (classes table) (among_exact table) no_end t has follow

-- a token of a table is spelled by it alone
pub from_table : {A : Type 0} (table : List (ℕ × A)) (u : Token) → member (class u) (classes table) ≡ true → (a : A × ℕ) × among table a (u ∷ [])
from_table table u h = let x = some_front (lined u.line (row_of (class u) table)) (sym (among_exact table u) ∙ h) in (x.0, (u, refl, x.1))

pub from_sign : (k : ℕ) (u : Token) → member (class u) (k ∷ []) ≡ true → (l : ℕ) × sign k l (u ∷ [])
from_sign k u h = let x = some_front (line_if k u) (sym (sign_exact k u) ∙ h) in (x.0, (u, refl, x.1))

pub reads_identifier : (follow : Identifier → List ℕ) → Reads identifier identifier (read_picked name_of) (read_picked name_of) (1 ∷ []) follow
reads_identifier follow = reads_picked name_of (1 ∷ []) name_exact refl (token (kinds.Name [])) refl follow

pub reads_constant : (follow : Sized → List ℕ) → Reads constant constant (read_picked constant_of) (read_picked constant_of) (2 ∷ []) follow
reads_constant follow = reads_picked constant_of (2 ∷ []) constant_exact refl (token (kinds.Constant (record { 0 = 0 }) Int)) refl follow

module _ {A : Type 0} {L V : A → List Token → Type 0} {r q : List Token → Reply A} {next : List ℕ} {follow : A → List ℕ} (R : Reads L V r q next follow) where
  pub reads_lead : (t : Token) → nat_eq 0 (class t) ≡ false → Some_of L
      → Reads (lead (class t) L) (lead (class t) V) (read_lead (class t) r) (read_lead (class t) q) (class t ∷ []) follow
  reads_lead t pos any = reads_made (reads_both (reads_sign t pos (λ _. next)) R (λ a us l. any) (λ a. subset_self next)) (λ c. c.1) follow (λ c k h. h)

  pub reads_trail : (t : Token) → nat_eq 0 (class t) ≡ false → (after : List ℕ) → ((a : A) → member (class t) (follow a) ≡ true)
      → Reads (trail L (class t)) (trail V (class t)) (read_trail r (class t)) (read_trail q (class t)) next (λ _. after)
  reads_trail t pos after has = reads_made (reads_both R (reads_sign t pos (λ _. after)) (λ a us l. some_sign t) (λ a. if_true _ _ (has a))) (λ c. c.0)
      (λ _. after) (λ c k h. h)

  pub reads_optional : (ks after : List ℕ) → subset next ks ≡ true → apart after ks ≡ true → ((a : A) → subset after (follow a) ≡ true)
      → Reads (optional L) (optional V) (read_optional ks r) (read_optional ks q) (next ++ after) (λ _. after)
  reads_optional ks after here away ends = reads_either (reads_made R Some (λ _. after) (λ a k h. member-subset k after (follow a) (ends a) h))
      (reads_absent None after) ks here away

  -- a list of L with commas between, made by a first element and one after another
  pub reads_listed : {B : Type 0} (first : A → B) (g : B → A → B) (after : List ℕ) (w : List Token) → Some_of L
      → ((a : A) → subset (punct p.Comma ∷ after) (follow a) ≡ true) → apart after (punct p.Comma ∷ []) ≡ true → member (look w) after ≡ true
      → member (look w) (punct p.Comma ∷ []) ≡ false
      → Reads (built g (made first L) (lead (punct p.Comma) L)) (built g (made first V) (lead (punct p.Comma) V))
      (read_built (punct p.Comma ∷ []) g (read_made first r) (read_lead (punct p.Comma) r))
      (read_built (punct p.Comma ∷ []) g (read_made first q) (read_lead (punct p.Comma) q)) next (λ _. after)
  reads_listed first g after w any fits stops w_in w_out = reads_built
      (reads_made R first (λ _. punct p.Comma ∷ after) (λ a k h. member-subset k (punct p.Comma ∷ after) (follow a) (fits a) h))
      (reads_lead (mark p.Comma) refl any) (punct p.Comma ∷ []) g after w refl
      (λ a. refl) (λ a. subset_right (punct p.Comma ∷ []) after) (λ a. subset_of (punct p.Comma ∷ []) (follow a)
      (λ k h. member-subset k (punct p.Comma ∷ after) (follow a) (fits a) (member-left k (punct p.Comma ∷ []) after h)))
      (λ a. subset_of after (follow a) (λ k h. member-subset k (punct p.Comma ∷ after) (follow a) (fits a) (member-right k (punct p.Comma ∷ []) after h))) stops
      refl (λ a. member-subset (look w) (punct p.Comma ∷ after) (follow a) (fits a) (member-right (look w) (punct p.Comma ∷ []) after w_in)) w_out

-- a list that isn't empty is there where an element is
pub some_listed : {A B : Type 0} {L : A → List Token → Type 0} (first : A → B) (g : B → A → B) → Some_of L
    → Some_of (built g (made first L) (lead (punct p.Comma) L))
some_listed first g x = (first x.0, x.1, ((first x.0, []), refl, (x.1, [], sym (append-nil x.1), (x.0, refl, x.2), refl)))

-- the front token, where a table has its class
pub among_front : {A : Type 0} (table : List (ℕ × A)) (ts : List Token) (t : Token) (rest : List Token) (a : A) → ts ≡ t ∷ rest
    → row_of (class t) table ≡ Some a → (member (look ts) (classes table) ≡ true) × (read_among table ts ≡ Found (a, t.line) rest)
among_front table ts t rest a e h = (
  ap (λ z. member (look z) (classes table)) e ∙ row_exact (class t) table ∙ ap is_some h,
  ap (read_among table) e ∙ ap (λ z. picked_reply t rest (lined t.line z)) h,
)
