-- String literals that are added.
use Rattle.std.proofs.Common.{◌≡◌, ℕ, ◌≤◌, true, List, [], ◌∷◌, ◌++◌, length, map, Result, refl, sym}
use Rattle.std.proofs.Common.{ap, subst, ◌∙◌, arith}
use Rattle.std.specs.Prelude.{nat_le}
use Rattle.std.proofs.lemmas.Bool.{le-leb}
use Rattle.std.proofs.lemmas.List.{length-map}
use Rattle.ck_base.specs.declared.positions.Pos.{Pos}
use Rattle.ck_base.specs.Tokens.{Lexeme}
use Rattle.c_tree.specs.declared.typed.Literal.{Literal}
use Rattle.c_tree.specs.Types.{Ty, Array, char}
use Rattle.c_tree.specs.Terms as tree
use Rattle.c_tree.specs.Terms.{Text, leaf}
use Rattle.c_tree.specs.Layout.{size_limit}
use Rattle.c_tree.specs.Syntax.{Syns}
use Rattle.c_tree.specs.Views.{text_of}
use Rattle.c_tree.specs.Expressions.{gives, text, text_bytes}
use Rattle.c_tree.specs.Scopes.{State, need, change, ◌>>◌}
use Rattle.c_expressions.specs.declared.nodes.Nodes.{Nodes}
use Rattle.c_expressions.specs.declared.nodes.Operand.{Operand}
use Rattle.c_expressions.specs.Nodes.{IsWhole, HasType, type_in}
use Rattle.c_elaborator.specs.declared.work.Work.{Work}
use Rattle.c_elaborator.specs.Work.{Shows}
use Rattle.ck_base.specs.declared.refusal.Refusal.{Refusal}
use Rattle.c_elaborator.specs.Answers.{Quiet, Still, Answers, quietly, OperandThere, IsOperand}
use Rattle.c_elaborator.specs.Rules.{writing, giving_leaf}
use Rattle.c_elaborator.proofs.Growing.{begins_same, quiet_nodes, shows_nodes}
use Rattle.c_elaborator.proofs.Sequencing.{changed, quiet_law, quiet_then}
use Rattle.c_elaborator.proofs.Unevaluated.{stands_literals}

-- the work with these literals
abbrev pub with_literals : Work → List Literal → Work
with_literals w ls = record w { nodes = record w.nodes { p = record w.nodes.p { literals = ls } } }

abbrev pub with_text : Text → State → State
with_text x s = record s { texts = s.texts ++ x ∷ [] }

map_push : {A B : Type 0} (f : A → B) (xs : List A) (y : A) → map f (xs ++ y ∷ []) ≡ map f xs ++ f y ∷ []
map_push f [] y = refl
map_push f (x ∷ xs) y = ap (λ zs. f x ∷ zs) (map_push f xs y)

pub whole_literals : (w : Work) (ls : List Literal) → IsWhole w.nodes → IsWhole (with_literals w ls).nodes
whole_literals w ls h = record { facts = h.facts; typed = h.typed; void_there = h.void_there; void = h.void }

pub quiet_literal : (w : Work) (ls : List Literal) (x : Literal) → ls ≡ w.nodes.p.literals ++ x ∷ [] →
    Quiet w (with_literals w ls)
quiet_literal w ls x e = record {
  keeps = record {
    more_types = omega arith;
    more_terms = omega arith;
    more_actions = omega arith;
    types = λ k h. refl;
    terms = λ k h. refl;
    values = λ v. v;
    actions = λ v k h. refl;
    file = refl;
    tree = refl;
  };
  literals = (x ∷ [], e);
  uses = begins_same w.uses.items;
  addressed = begins_same w.addressed.items;
  fillings = refl;
  definitions = refl;
  waiting = refl;
}

pub still_text : (x : Text) (s : State) → Still s (with_text x s)
still_text x s = record {
  tags = omega arith;
  kinds = λ n k h. h;
  statics = refl;
  routines = refl;
  locals = refl;
  pending = refl;
}

pub shows_literal : (w : Work) (ls : List Literal) (x : Literal) (s : State) → ls ≡ w.nodes.p.literals ++ x ∷ [] →
    Shows w s → Shows (with_literals w ls) (with_text (text_of x) s)
shows_literal w ls x s e h = record {
  stands =
      let t = stands_literals w.nodes.scopes w.nodes.p ls s h.stands in
      record {
        scopes = t.scopes;
        tags = t.tags;
        tag_types = t.tag_types;
        kinds = t.kinds;
        tagged = t.tagged;
        members = t.members;
        objects = t.objects;
        globals = t.globals;
        begun = t.begun;
        routines = t.routines;
        locals = t.locals;
        int = t.int;
        linked = t.linked;
      };
  texts = ap (map text_of) e ∙ map_push text_of w.nodes.p.literals x ∙ ap (λ ts. ts ++ text_of x ∷ []) h.texts;
  used_objects = h.used_objects;
  used_functions = h.used_functions;
  addressed = h.addressed;
  fillings = h.fillings;
  definitions = h.definitions;
  waiting = h.waiting;
  closed = record {
    file = h.closed.file;
    members = h.closed.members;
    values = h.closed.values;
    uses = h.closed.uses;
    addressed = h.closed.addressed;
    fillings = h.closed.fillings;
    definitions = λ j d i. let there = h.closed.definitions j d i in
        record { function = there.function; body = there.body; vars = there.vars };
  };
}

pub literal_number : (w : Work) (s : State) → Shows w s → length w.nodes.p.literals ≡ length s.texts
literal_number w s h = sym (length-map w.nodes.p.literals text_of) ∙ ap length h.texts

pub writing_is : (bs : List ℕ) (p : Pos) (k : ℕ) (s : State) → length bs ≤ size_limit → k ≡ length s.texts →
    writing bs p s ≡ giving_leaf (tree.Literal k) (Array char (length bs)) p
    (with_text (record { place = p; bytes = bs }) s)
writing_is bs p k s h e =
    let test : nat_le (length bs) size_limit ≡ true = le-leb (length bs) size_limit h in
    ap (λ b. (need b 140 p >> change (with_text (record { place = p; bytes = bs }))
    >> gives (leaf (tree.Literal (length s.texts)) (Array char (length bs)) p) p) s) test
    ∙ ap (λ (n : ℕ). giving_leaf (tree.Literal n) (Array char (length bs)) p
    (with_text (record { place = p; bytes = bs }) s)) (sym e)

-- a literal by its bytes
pub text_is : (t : Lexeme) (xs : Syns) (bs : List ℕ) (s : State) → bs ≡ text_bytes t xs →
    text t xs s ≡ writing bs t.pos s
unfolding text
text_is t xs bs s e = ap (λ (cs : List ℕ). writing cs t.pos s) (sym e)

-- the array is made, the literal is added, and the expression names it
pub written_answers : (w : Work) (n : Nodes) (ls : List Literal) (x : Literal) (v : Work) (k of : ℕ)
    (r : Result Operand Refusal) → HasType w.nodes n of (Array char (length x.bytes)) → ls ≡ n.p.literals ++ x ∷ [] →
    k ≡ length n.p.literals → length x.bytes ≤ size_limit →
    Answers quietly (with_literals (record w { nodes = n }) ls) v
    (giving_leaf (tree.Literal k) (type_in n of) x.pos) OperandThere IsOperand r →
    Answers quietly w v (writing x.bytes x.pos) OperandThere IsOperand r
written_answers w n ls x v k of r t e q h a =
    let m : Work = record w { nodes = n } in
    let y = with_literals m ls in
    changed quietly quiet_law w y v (with_text (text_of x)) (writing x.bytes x.pos)
    (giving_leaf (tree.Literal k) (Array char (length x.bytes)) x.pos) OperandThere IsOperand r
    (whole_literals m ls t.keeps.whole) (quiet_then w m y (quiet_nodes w n t.keeps) (quiet_literal m ls x e))
    (λ s i. still_text (text_of x) s) (λ s i. shows_literal m ls x s e (shows_nodes w n s t.keeps i))
    (λ s i. writing_is x.bytes x.pos k s h (q ∙ literal_number m s (shows_nodes w n s t.keeps i)))
    (subst (λ (u : Ty). Answers quietly y v (giving_leaf (tree.Literal k) u x.pos) OperandThere IsOperand r) t.is.is a)
