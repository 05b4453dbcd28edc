-- What is given by a statement, by a declaration, and by either of them.
use Rattle.std.proofs.Common.{◌≡◌, ℕ, ◌≤◌, List, [], ◌∷◌, Result, Ok, Err, sym, subst, ◌∙◌, ap, arith}
use Rattle.std.specs.Prelude.{max}
use Rattle.std.proofs.lemmas.Bool.{false≢true}
use Rattle.ck_base.specs.Tokens.{Lexeme}
use Rattle.ck_base.specs.declared.refusal.Refusal.{Refusal}
use Rattle.ck_base.specs.declared.refusal.Refusal.TheVariants.{Code, NoMemory}
use Rattle.c_tree.specs.declared.syntax.NodeKind.{NodeKind}
use Rattle.c_tree.specs.declared.syntax.NodeKind.TheVariants as Kinds
use Rattle.c_tree.specs.Syntax.{Syn, Syns, node, nil, more}
use Rattle.c_tree.specs.Readings as meant
use Rattle.c_tree.specs.Scopes.{Doing, enter, in_scope}
use Rattle.c_tree.specs.Declarations.{declaration}
use Rattle.c_tree.specs.Programs.{readings}
use Rattle.c_tree.specs.Statements.{statement_of}
use Rattle.c_elaborator.specs.declared.work.Work.{Work}
use Rattle.c_elaborator.specs.declared.items.Items.{Items}
use Rattle.c_elaborator.specs.Answers.{Done, Answers, freely}
use Rattle.c_elaborator.specs.Items.{ItemsThere, OnlyThere, IsItems}
use Rattle.c_elaborator.specs.Parts.{IsStatement, PartsFit, AreParts}
use Rattle.c_elaborator.specs.Scoped.{Leaves}
use Rattle.c_elaborator.proofs.Scoping.{in_scope_items}
use Rattle.c_readings.specs.Within.{PartWithin, PartsWithin, PartThat, PartsThat, depth, depths}
use Rattle.c_readings.proofs.Kids.{cut, no_parts}
use Rattle.c_statements.specs.Only.{ItemThere}
use Rattle.c_statements.specs.Statements.{inside_of}

-- what is there is said otherwise
pub said : (u v : Work) (d : Doing meant.Items) (There Other : Work → Items → Type 0) (r : Result Items Refusal) →
    ((i : Items) → There v i → Other v i) → Answers freely u v d There IsItems r → Answers freely u v d Other IsItems r
said u v d There Other (Ok i) f a = record { whole = a.whole; grows = a.grows; there = f i a.there; gives = a.gives }
said u v d There Other (Err (Code code place)) f a = a
said u v d There Other (Err NoMemory) f a = a

pub some_items : (u v : Work) (d : Doing meant.Items) (x : Syn) (r : Result Items Refusal) →
    Answers freely u v d (ItemThere x) IsItems r → Answers freely u v d ItemsThere IsItems r
some_items u v d x r a = said u v d (ItemThere x) ItemsThere r (λ i h. h.0) a

pub of_one : (u v : Work) (d : Doing meant.Items) (r : Result Items Refusal) →
    Answers freely u v d OnlyThere IsItems r → Answers freely u v d ItemsThere IsItems r
of_one u v d r a = said u v d OnlyThere ItemsThere r (λ i h. h.0) a

pub as_statement : (u v : Work) (d : Doing meant.Items) (x : Syn) (r : Result Items Refusal) →
    Answers freely u v d OnlyThere IsItems r → Answers freely u v d (ItemThere x) IsItems r
as_statement u v d x r a = said u v d OnlyThere (ItemThere x) r (λ i h. (h.0, λ e. h.1)) a

pub as_declaration : (u v : Work) (d : Doing meant.Items) (t : Lexeme) (xs : Syns) (r : Result Items Refusal) →
    Answers freely u v d ItemsThere IsItems r → Answers freely u v d (ItemThere (node Kinds.Declaration t xs)) IsItems r
as_declaration u v d t xs r a =
    said u v d ItemsThere (ItemThere (node Kinds.Declaration t xs)) r (λ i h. (h, λ e. absurd (false≢true (sym e)))) a

-- by its kind
pub stated : (u v : Work) (t : Lexeme) (xs : Syns) (c : meant.Context) (k j : NodeKind) (r : Result Items Refusal) →
    k ≡ j → Answers freely u v (statement_of j t xs (readings xs) c) OnlyThere IsItems r →
    Answers freely u v (statement_of k t xs (readings xs) c) (ItemThere (node k t xs)) IsItems r
stated u v t xs c k j r e a =
    subst (λ (i : NodeKind).
    Answers freely u v (statement_of i t xs (readings xs) c) (ItemThere (node i t xs)) IsItems r)
    (sym e) (as_statement u v (statement_of j t xs (readings xs) c) (node j t xs) r a)

pub declared : (u v : Work) (t : Lexeme) (xs : Syns) (c : meant.Context) (k : NodeKind) (r : Result Items Refusal) →
    k ≡ Kinds.Declaration → Answers freely u v (declaration t.pos (readings xs)) ItemsThere IsItems r →
    Answers freely u v (statement_of k t xs (readings xs) c) (ItemThere (node k t xs)) IsItems r
declared u v t xs c k r e a =
    subst (λ (i : NodeKind).
    Answers freely u v (statement_of i t xs (readings xs) c) (ItemThere (node i t xs)) IsItems r)
    (sym e) (as_declaration u v (declaration t.pos (readings xs)) t xs r a)

pub within : (u v : Work) (t : Lexeme) (xs : Syns) (c : meant.Context) (k j : NodeKind) (r : Result Items Refusal) →
    k ≡ j → Answers freely u v (inside_of j t xs (readings xs) c) OnlyThere IsItems r →
    Answers freely u v (inside_of k t xs (readings xs) c) OnlyThere IsItems r
within u v t xs c k j r e a =
    subst (λ (i : NodeKind). Answers freely u v (inside_of i t xs (readings xs) c) OnlyThere IsItems r) (sym e) a

-- a statement in a scope of its own
pub one_in_scope : (u v w x : Work) (d : Doing meant.Items) (i : Items) →
    Done freely u v enter (Unit {0}) (λ s a. Unit {0}) → Done freely v w d (OnlyThere w i) (IsItems w i) → Leaves w x →
    Done freely u x (in_scope d) (OnlyThere x i) (IsItems x i)
one_in_scope u v w x d i e a l =
    let b = in_scope_items u v w x d i e (of_one v w d (Ok i) a) l in
    record { whole = b.whole; grows = b.grows; there = (b.there, a.there.1); gives = b.gives }

-- ---- the parts of a statement

pub record Two (w : Work) (Are : Syns → Type 0) (d a b : ℕ) : Type 0 where
  pub first : PartWithin w d a
  pub second : PartWithin w d b
  pub have : Are (more first.syntax (more second.syntax nil))

pub record Three (w : Work) (Are : Syns → Type 0) (d a b c : ℕ) : Type 0 where
  pub first : PartWithin w d a
  pub second : PartWithin w d b
  pub third : PartWithin w d c
  pub have : Are (more first.syntax (more second.syntax (more third.syntax nil)))

pub record Four (w : Work) (Are : Syns → Type 0) (d a b c e : ℕ) : Type 0 where
  pub first : PartWithin w d a
  pub second : PartWithin w d b
  pub third : PartWithin w d c
  pub fourth : PartWithin w d e
  pub have : Are (more first.syntax (more second.syntax (more third.syntax (more fourth.syntax nil))))

-- the first of parts, none of which goes deeper
record Cut (w : Work) (d k : ℕ) (ks : List ℕ) (xs : Syns) : Type 0 where
  first : PartWithin w d k
  others : Syns
  are : AreParts w ks others
  low : depths others ≤ d
  is : xs ≡ more first.syntax others

cut_off : (w : Work) (d k : ℕ) (ks : List ℕ) (xs : Syns) → AreParts w (k ∷ ks) xs → depths xs ≤ d → Cut w d k ks xs
cut_off w d k ks xs p le =
    let c = cut w k ks xs p in
    let e : depths xs ≡ max (depth c.head) (depths c.tail) = ap depths c.is in
    record {
      first = record { syntax = c.head; is = c.first; within = omega arith };
      others = c.tail;
      are = c.others;
      low = omega arith;
      is = c.is;
    }

pub two_that : {Are : Syns → Type 0} {d : ℕ} (w : Work) (ks : List ℕ) (a b : ℕ) → ks ≡ a ∷ b ∷ [] →
    PartsThat Are w d ks → Two w Are d a b
two_that {Are} {d} w ks a b e h =
    let p = h.parts in
    let x = cut_off w d a (b ∷ []) p.syntax (subst (λ (z : List ℕ). AreParts w z p.syntax) e p.are) p.within in
    let y = cut_off w d b [] x.others x.are x.low in
    record {
      first = x.first;
      second = y.first;
      have = subst Are (x.is ∙ ap (more x.first.syntax) (y.is
          ∙ ap (more y.first.syntax) (no_parts w y.others y.are))) h.have;
    }

pub three_that : {Are : Syns → Type 0} {d : ℕ} (w : Work) (ks : List ℕ) (a b c : ℕ) → ks ≡ a ∷ b ∷ c ∷ [] →
    PartsThat Are w d ks → Three w Are d a b c
three_that {Are} {d} w ks a b c e h =
    let p = h.parts in
    let x = cut_off w d a (b ∷ c ∷ []) p.syntax (subst (λ (z : List ℕ). AreParts w z p.syntax) e p.are) p.within in
    let y = cut_off w d b (c ∷ []) x.others x.are x.low in
    let z = cut_off w d c [] y.others y.are y.low in
    record {
      first = x.first;
      second = y.first;
      third = z.first;
      have = subst Are (x.is ∙ ap (more x.first.syntax) (y.is ∙ ap (more y.first.syntax)
          (z.is ∙ ap (more z.first.syntax) (no_parts w z.others z.are)))) h.have;
    }

pub four_that : {Are : Syns → Type 0} {d : ℕ} (w : Work) (ks : List ℕ) (a b c f : ℕ) → ks ≡ a ∷ b ∷ c ∷ f ∷ [] →
    PartsThat Are w d ks → Four w Are d a b c f
four_that {Are} {d} w ks a b c f e h =
    let p = h.parts in
    let x = cut_off w d a (b ∷ c ∷ f ∷ []) p.syntax (subst (λ (z : List ℕ). AreParts w z p.syntax) e p.are) p.within in
    let y = cut_off w d b (c ∷ f ∷ []) x.others x.are x.low in
    let z = cut_off w d c (f ∷ []) y.others y.are y.low in
    let g = cut_off w d f [] z.others z.are z.low in
    record {
      first = x.first;
      second = y.first;
      third = z.first;
      fourth = g.first;
      have = subst Are (x.is ∙ ap (more x.first.syntax) (y.is ∙ ap (more y.first.syntax) (z.is
          ∙ ap (more z.first.syntax) (g.is ∙ ap (more g.first.syntax) (no_parts w g.others g.are))))) h.have;
    }

pub one_statement : {d : ℕ} (w : Work) (k : ℕ) → (h : PartWithin w d k) → IsStatement h.syntax →
    PartThat IsStatement w d k
one_statement w k h e = record { part = h; has = e }
