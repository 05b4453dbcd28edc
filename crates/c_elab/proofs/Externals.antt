-- External declarations, one after the other, and the whole file.
use Rattle.std.proofs.Common.{◌≡◌, ℕ, List, [], ◌∷◌, Some, Result, Ok, Err, refl, sym, ap, subst, ◌∙◌}
use Rattle.ck_base.specs.declared.positions.Pos.{Pos}
use Rattle.ck_base.specs.declared.refusal.Refusal.{Refusal}
use Rattle.ck_base.specs.declared.refusal.Refusal.TheVariants.{Code, NoMemory}
use Rattle.std.specs.Prelude.{slice_get}
use Rattle.ck_base.specs.Tokens.{Lexeme}
use Rattle.c_tree.specs.declared.syntax.Node.{Node}
use Rattle.c_tree.specs.declared.syntax.Tree.{Tree}
use Rattle.c_tree.specs.declared.typed.Typed.{Typed}
use Rattle.c_tree.specs.Syntax.{Syn, Syns, StandsAt}
use Rattle.c_tree.specs.Readings.{Reading}
use Rattle.c_tree.specs.Scopes.{State, Doing, Fault, give, continued, ◌>>◌}
use Rattle.c_tree.specs.Declarations.{declaration}
use Rattle.c_tree.specs.Passed.{call_name, calls_in}
use Rattle.c_tree.specs.Programs.{reading, readings, all_externals, parts, typing, finished, ended, earliest}
use Rattle.c_tree.specs.Programs.{last_faults, beginning}
use Rattle.c_tree.specs.Typing.{Reads, IsSpelled}
use Rattle.c_expressions.specs.Nodes.{IsWhole}
use Rattle.c_elaborator.specs.declared.work.Work.{Work}
use Rattle.c_elaborator.specs.Work.{Shows}
use Rattle.c_elaborator.specs.Answers.{Done, Answers, freely, NothingThere, IsNothing}
use Rattle.c_elaborator.specs.Parts.{IsPart, AreParts}
use Rattle.c_elaborator.proofs.Sequencing.{free_law, answers_at, also_then, failed}
use Rattle.c_readings.proofs.Kids.{cut, no_parts, opened, parts_kept}
use Rattle.c_statements.proofs.Stating.{readings_more, readings_nil}
use Rattle.c_elaborator.specs.declared.items.Items.{Items}
use Rattle.c_elaborator.specs.Items.{ItemsThere, IsItems}
use Rattle.c_finish.specs.Finished.{Finished, IsSyntax}
use Rattle.c_elab.specs.Elaborated.{Elaborated}
use Rattle.c_elab.proofs.Written.{written}

-- what is left, and the step that was done
pub record FileSoFar (u v : Work) (xs : Syns) (ks : List ℕ) : Type 0 where
  pub rest : Syns
  pub are : AreParts v ks rest
  pub before : Doing Unit
  pub done : Done freely u v before (Unit {0}) (λ s a. Unit {0})
  pub is : (s : State) → all_externals (readings xs) s ≡ (before >> all_externals (readings rest)) s

pub file_begins : (u : Work) (ks : List ℕ) → IsWhole u.nodes → (xs : Syns) → AreParts u ks xs → FileSoFar u u xs ks
file_begins u ks w xs p = record {
  rest = xs;
  are = p;
  before = give tt;
  done = record {
    whole = w;
    grows = free_law.same u;
    there = tt;
    gives = λ s t. record { value = tt; state = s; is = refl; stays = tt; shows = t; fits = tt };
  };
  is = λ s. refl;
}

pub file_ends : (u v : Work) (xs : Syns) → FileSoFar u v xs [] →
    Answers freely u v (all_externals (readings xs)) NothingThere IsNothing (Ok tt)
file_ends u v xs f =
    answers_at freely u v (all_externals (readings xs)) f.before NothingThere IsNothing (Ok tt)
    (λ s k. f.is s ∙ ap (λ (rs : List Reading). (f.before >> all_externals rs) s)
    (ap readings (no_parts v f.rest f.are) ∙ readings_nil) ∙ nothing_more (f.before s)) f.done
  where
    nothing_more : (r : Result (Unit × State) Fault) → continued r (λ a. give tt) ≡ r
    nothing_more (Ok x) = refl
    nothing_more (Err e) = refl

turned : (d e g : Doing Unit) (s : State) → (d >> (e >> g)) s ≡ ((d >> e) >> g) s
turned d e g s = at (d s)
  where
    at : (r : Result (Unit × State) Fault) → continued r (λ a. e >> g) ≡ continued (continued r (λ a. e)) (λ a. g)
    at (Ok x) = refl
    at (Err y) = refl

pub file_fails : (u v w : Work) (xs : Syns) (k : ℕ) (ks : List ℕ) (q : Refusal) → FileSoFar u v xs (k ∷ ks) →
    ((y : Syn) → IsPart v k y → Answers freely v w (reading y).external NothingThere IsNothing (Err q)) →
    Answers freely u w (all_externals (readings xs)) NothingThere IsNothing (Err q)
file_fails u v w xs k ks q f h =
    let c = cut v k ks f.rest f.are in
    answers_at freely u w (all_externals (readings xs))
    (f.before >> ((reading c.head).external >> all_externals (readings c.tail))) NothingThere IsNothing (Err q)
    (λ s t. f.is s ∙ ap (λ (rs : List Reading). (f.before >> all_externals rs) s)
    (ap readings c.is ∙ readings_more c.head c.tail))
    (also_then freely free_law u v w f.before ((reading c.head).external >> all_externals (readings c.tail)) (Unit {0})
    (λ s a. Unit {0}) NothingThere IsNothing (Err q) f.done
    (failed freely v w w (reading c.head).external
    (λ a. all_externals (readings c.tail)) NothingThere IsNothing NothingThere IsNothing q (h c.head c.first)))

pub file_steps : (u v w : Work) (xs : Syns) (k : ℕ) (ks : List ℕ) → FileSoFar u v xs (k ∷ ks) →
    ((y : Syn) → IsPart v k y → Done freely v w (reading y).external (Unit {0}) (λ s a. Unit {0})) → FileSoFar u w xs ks
file_steps u v w xs k ks f h =
    let c = cut v k ks f.rest f.are in
    let a = h c.head c.first in
    record {
      rest = c.tail;
      are = parts_kept v w ks c.tail a.grows c.others;
      before = f.before >> (reading c.head).external;
      done = also_then freely free_law u v w f.before (reading c.head).external (Unit {0})
          (λ s b. Unit {0}) NothingThere IsNothing (Ok tt) f.done a;
      is = λ s. f.is s ∙ ap (λ (rs : List Reading). (f.before >> all_externals rs) s)
          (ap readings c.is ∙ readings_more c.head c.tail)
          ∙ turned f.before (reading c.head).external (all_externals (readings c.tail)) s;
    }

-- ---- the whole file

pub elaborated : (x : Syn) (t : State) (a : Unit) (r : Result Typed Refusal) →
    all_externals (readings (parts x)) beginning ≡ Ok (a, t) →
    Finished (ended (call_name (calls_in x)) (earliest (last_faults t)) t) r → Elaborated x r
unfolding typing
elaborated x t a (Ok p) e h =
    record {
      program = h.program;
      given = ap (finished (call_name (calls_in x))) e ∙ h.is;
      shows = h.shows;
      ordered = h.ordered;
    }
elaborated x t a (Err (Code code place)) e h = ap (finished (call_name (calls_in x))) e ∙ h
elaborated x t a (Err NoMemory) e h = tt

pub elaboration_fails : (x : Syn) (u v : Work) (q : Refusal) → Shows u beginning →
    Answers freely u v (all_externals (readings (parts x))) NothingThere IsNothing (Err q) → Elaborated x (Err q)
unfolding typing
elaboration_fails x u v (Code code place) h a = ap (finished (call_name (calls_in x))) (a beginning h)
elaboration_fails x u v NoMemory h a = tt

pub nothing_done : (w : Work) → IsWhole w.nodes → Done freely w w (give (tt {0})) (Unit {0}) (λ s a. Unit {0})
nothing_done w h = record {
  whole = h;
  grows = free_law.same w;
  there = tt;
  gives = λ s t. record { value = tt; state = s; is = refl; stays = tt; shows = t; fits = tt };
}

-- ---- the root

pub root_is : (w : Work) (tree : Tree) (file : List ℕ) (x : Syn) → w.tree.now ≡ tree → w.file.now ≡ file →
    Reads tree file x → IsPart w tree.root x
root_is w tree file x e f r = record {
  stands = subst (λ (t : Tree). StandsAt t.nodes tree.root x) (sym e) r.stands;
  spelled = subst (λ (b : List ℕ). IsSpelled b x) (sym f) r.spelled;
  written = written r.tokens x r.derives r.accepted;
}

-- the tree stays
pub syntax_is : (w v : Work) (tree : Tree) (x : Syn) → w.tree.now ≡ tree → v.tree.now ≡ w.tree.now →
    StandsAt tree.nodes tree.root x → IsSyntax v x
syntax_is w v tree x e f h = subst (λ (t : Tree). StandsAt t.nodes t.root x) (sym (f ∙ e)) h

pub root_parts : (w : Work) (k : ℕ) (x : Syn) (n : Node) → IsPart w k x → slice_get w.tree.now.nodes k ≡ Some n →
    AreParts w n.kids (parts x)
root_parts w k x n p g = let o = opened w k x n p g in
    subst (λ (y : Syn). AreParts w n.kids (parts y)) (sym o.is) o.node.parts

-- ---- a declaration of the file

pub declared_fails : (u w : Work) (t : Lexeme) (xs : Syns) (p : Pos) (e : Refusal) → t.pos ≡ p →
    Answers freely u w (declaration p (readings xs)) ItemsThere IsItems (Err e) →
    Answers freely u w (declaration t.pos (readings xs) >> give (tt {0})) NothingThere IsNothing (Err e)
declared_fails u w t xs p e i a =
    failed freely u w w (declaration t.pos (readings xs))
    (λ j. give (tt {0})) ItemsThere IsItems NothingThere IsNothing e
    (subst (λ (q : Pos). Answers freely u w (declaration q (readings xs)) ItemsThere IsItems (Err e)) (sym i) a)

pub declared_done : (u w : Work) (t : Lexeme) (xs : Syns) (p : Pos) (i : Items) → t.pos ≡ p →
    Done freely u w (declaration p (readings xs)) (ItemsThere w i) (IsItems w i) →
    Done freely u w (declaration t.pos (readings xs) >> give (tt {0})) (Unit {0}) (λ s a. Unit {0})
declared_done u w t xs p i e a =
    also_then freely free_law u w w (declaration t.pos (readings xs)) (give (tt {0})) (ItemsThere w i)
    (IsItems w i) NothingThere IsNothing (Ok tt)
    (subst (λ (q : Pos). Done freely u w (declaration q (readings xs)) (ItemsThere w i) (IsItems w i)) (sym e) a)
    (nothing_done w a.whole)
