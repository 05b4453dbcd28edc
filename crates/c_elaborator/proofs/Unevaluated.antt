-- Operands that are not evaluated.
use Rattle.std.proofs.Common.{◌≡◌, ℕ, ◌<◌, ◌≤◌, List, [], length, map, take, refl, sym, ap, subst, ◌∙◌, arith}
use Rattle.std.specs.Global.{Vec}
use Rattle.std.proofs.lemmas.List.{append-nil}
use Rattle.std.proofs.Math.Seq.{take-append_seam}
use Rattle.c_tree.specs.declared.typed.Literal.{Literal}
use Rattle.c_tree.specs.declared.typed.Typed.{Typed}
use Rattle.c_tree.specs.Conversions as meant
use Rattle.c_tree.specs.Types.{Ty}
use Rattle.c_tree.specs.Scopes.{State, Doing, continued, change, give, ◌>>◌}
use Rattle.c_tree.specs.Expressions.{unevaluated}
use Rattle.c_tree.specs.Views.{types_of, actions_of, text_of}
use Rattle.c_types.specs.declared.scopes.Scopes.{Scopes}
use Rattle.c_types.specs.Stands.{Stands}
use Rattle.c_expressions.specs.declared.nodes.Operand.{Operand}
use Rattle.c_expressions.specs.Nodes.{IsWhole, type_in}
use Rattle.c_elaborator.specs.declared.work.Use.{Use}
use Rattle.c_elaborator.specs.declared.work.Filling.{Filling}
use Rattle.c_elaborator.specs.declared.work.Definition.{Definition}
use Rattle.c_elaborator.specs.declared.marks.Mark.{Mark}
use Rattle.c_elaborator.specs.declared.work.Work.{Work}
use Rattle.c_elaborator.specs.Work.{Shows, DefinitionIsThere, filling_of, definition_of, option_seen, seen_of}
use Rattle.c_elaborator.specs.Answers.{Keeps, Quiet, Still, quietly, Done, OperandThere, IsOperand, operand_in}
use Rattle.c_elaborator.specs.Answers.{TypeThere}
use Rattle.c_elaborator.specs.Answers.{IsType, Begins}
use Rattle.c_elaborator.specs.Marks.{IsMark, IsBack, with_those}
use Rattle.c_elaborator.proofs.Growing.{seen_same, definitions_same}
use Rattle.c_elaborator.proofs.Sequencing.{told}
use Rattle.c_elaborator.proofs.Using.{stands_still}

-- the state with the uses, addresses and literals of another one
abbrev pub undone : State → State → State
undone s t = record t { texts = s.texts; statics = s.statics; routines = s.routines; locals = s.locals }

still_undone : (s t : State) → Still s t → Still t (undone s t)
still_undone s t h = record {
  tags = omega arith;
  kinds = λ n k h. h;
  statics = sym h.statics;
  routines = sym h.routines;
  locals = sym h.locals;
  pending = refl;
}

pub stands_literals : (sc : Scopes) (p : Typed) (ls : List Literal) (s : State) → Stands sc p s →
    Stands sc (record p { literals = ls }) s
stands_literals sc p ls s h = record {
  scopes = h.scopes;
  tags = h.tags;
  tag_types = h.tag_types;
  kinds = h.kinds;
  tagged = h.tagged;
  members = h.members;
  objects = h.objects;
  globals = h.globals;
  begun = h.begun;
  routines = h.routines;
  locals = h.locals;
  int = h.int;
  linked = h.linked;
}

definition_later : (u v : Work) (s : State) (d : Definition) → Keeps u v → DefinitionIsThere u s d →
    DefinitionIsThere v s d
definition_later u v s d k h = record {
  function = h.function;
  body = let a = h.body in let b = k.more_actions in omega arith;
  vars = λ j x e. let a : x.of < length u.nodes.p.types = h.vars j x e in
      let b : length u.nodes.p.types ≤ length v.nodes.p.types = k.more_types in omega arith;
}

shows_undone : (u v : Work) (us : Vec Use) (ks : Vec ℕ) (ls : List Literal) (s t : State) → us.items ≡ u.uses.items →
    ks.items ≡ u.addressed.items → ls ≡ u.nodes.p.literals → Quiet u v → Still s t → Shows u s → Shows v t →
    Shows (with_those v us ks ls) (undone s t)
shows_undone u v us ks ls s t a b c q still hu hv = record {
  stands = stands_literals v.nodes.scopes v.nodes.p ls (undone s t)
      (stands_still v.nodes.scopes v.nodes.p t (undone s t) (still_undone s t still) refl refl hv.stands);
  texts = ap (map text_of) c ∙ hu.texts;
  used_objects = λ j x e. rw a (hu.used_objects j x e);
  used_functions = λ j x e. rw a (hu.used_functions j x e);
  addressed = λ j x e. rw b (hu.addressed j x e);
  fillings = λ j x e. hu.fillings j x e ∙ ap (λ (fs : Vec Filling). filling_of j fs.items) (sym q.fillings);
  definitions = λ j f e. hu.definitions j f e
      ∙ sym (definitions_same (seen_of (types_of u.nodes.p.types) (actions_of u.nodes.p))
      (seen_of (types_of v.nodes.p.types) (actions_of v.nodes.p)) j u.definitions.items
      (λ i d g. let there = hu.closed.definitions i d g in
      seen_same (types_of u.nodes.p.types) (types_of v.nodes.p.types) (actions_of u.nodes.p) (actions_of v.nodes.p) d
      (λ l x r. q.keeps.types x.of (there.vars l x r)) (q.keeps.actions hu.closed.values d.body there.body)))
      ∙ ap (λ (ds : Vec Definition). option_seen (seen_of (types_of v.nodes.p.types) (actions_of v.nodes.p))
      (definition_of j ds.items)) (sym q.definitions);
  waiting = hv.waiting;
  closed = record {
    file = hv.closed.file;
    members = λ n x ms i j k m e. hv.closed.members n x ms i j k m e;
    values = hv.closed.values;
    uses = λ j x e. hu.closed.uses j x (rw a at e);
    addressed = λ j x e. hu.closed.addressed j x (rw b at e);
    fillings = λ j x e. hu.closed.fillings j x (rw q.fillings at e);
    definitions =
        λ j d e. let there = definition_later u v s d q.keeps (hu.closed.definitions j d (rw q.definitions at e)) in
        record { function = there.function; body = there.body; vars = there.vars };
  };
}

whole_literals : (v : Work) (us : Vec Use) (ks : Vec ℕ) (ls : List Literal) → IsWhole v.nodes →
    IsWhole (with_those v us ks ls).nodes
whole_literals v us ks ls h = record { facts = h.facts; typed = h.typed; void_there = h.void_there; void = h.void }

quiet_undone : (u v : Work) (us : Vec Use) (ks : Vec ℕ) (ls : List Literal) → us.items ≡ u.uses.items →
    ks.items ≡ u.addressed.items → ls ≡ u.nodes.p.literals → Quiet u v → Quiet u (with_those v us ks ls)
quiet_undone u v us ks ls a b c q = record {
  keeps = record {
    more_types = q.keeps.more_types;
    more_terms = q.keeps.more_terms;
    more_actions = q.keeps.more_actions;
    types = q.keeps.types;
    terms = q.keeps.terms;
    values = q.keeps.values;
    actions = q.keeps.actions;
    file = q.keeps.file;
    tree = q.keeps.tree;
  };
  literals = ([], c ∙ sym (append-nil u.nodes.p.literals));
  uses = ([], a ∙ sym (append-nil u.uses.items));
  addressed = ([], b ∙ sym (append-nil u.addressed.items));
  fillings = q.fillings;
  definitions = q.definitions;
  waiting = q.waiting;
}

undone_done : {A : Type 0} (u v : Work) (us : Vec Use) (ks : Vec ℕ) (ls : List Literal) (d : Doing A) (T : Type 0)
    (I : A → Type 0) → us.items ≡ u.uses.items → ks.items ≡ u.addressed.items → ls ≡ u.nodes.p.literals →
    Done quietly u v d T (λ s a. I a) → Done quietly u (with_those v us ks ls) (unevaluated d) T (λ s a. I a)
undone_done u v us ks ls d T I a b c h = record {
  whole = whole_literals v us ks ls h.whole;
  grows = quiet_undone u v us ks ls a b c h.grows;
  there = h.there;
  gives = λ s t. let g = h.gives s t in record {
    value = g.value;
    state = undone s g.state;
    is = ap (λ r. continued r (λ x. change (λ z.
        record z { texts = s.texts; statics = s.statics; routines = s.routines; locals = s.locals }) >> give x))
        g.is;
    stays = record {
      tags = g.stays.tags;
      kinds = g.stays.kinds;
      statics = refl;
      routines = refl;
      locals = refl;
      pending = g.stays.pending;
    };
    shows = shows_undone u v us ks ls s g.state a b c h.grows g.stays t g.shows;
    fits = g.fits;
  };
}

begun : {A : Type 0} (xs ys : List A) (n : ℕ) → n ≡ length xs → Begins xs ys → take n ys ≡ xs
begun xs ys n e b = rw (e, b.1) (take-append_seam xs b.0)

-- What is given without being evaluated: a value that hangs on types and expressions alone
pub unevaluated_done : {A : Type 0} (u v w : Work) (m : Mark) (d : Doing A) (T : Work → Type 0)
    (I : Work → A → Type 0) →
    ((us : Vec Use) (ks : Vec ℕ) (ls : List Literal) → T v → T (with_those v us ks ls)) →
    ((us : Vec Use) (ks : Vec ℕ) (ls : List Literal) (a : A) → I v a → I (with_those v us ks ls) a) →
    IsMark u m → IsBack v m w → Done quietly u v d (T v) (λ s a. I v a) →
    Done quietly u w (unevaluated d) (T w) (λ s a. I w a)
unevaluated_done {A} u v w m d T I f g mark back h =
    let ls = take m.literals v.nodes.p.literals in
    let z = with_those v w.uses w.addressed ls in
    let k = undone_done u v w.uses w.addressed ls d (T v) (I v)
    (back.uses ∙ begun u.uses.items v.uses.items m.uses mark.uses h.grows.uses)
    (back.addressed ∙ begun u.addressed.items v.addressed.items m.addressed mark.addressed h.grows.addressed)
    (begun u.nodes.p.literals v.nodes.p.literals m.literals mark.literals h.grows.literals) h in
    subst (λ (x : Work). Done quietly u x (unevaluated d) (T x) (λ s a. I x a)) (sym back.is)
    (told quietly u z (unevaluated d) (T v) (T z) (λ s a. I v a) (λ s a. I z a) (f w.uses w.addressed ls)
    (λ s a t i. g w.uses w.addressed ls a i) k)

pub unevaluated_operand : (u v w : Work) (m : Mark) (d : Doing meant.Operand) (o : Operand) → IsMark u m →
    IsBack v m w → Done quietly u v d (OperandThere v o) (IsOperand v o) →
    Done quietly u w (unevaluated d) (OperandThere w o) (IsOperand w o)
unevaluated_operand u v w m d o mark back h =
    unevaluated_done u v w m d (λ x. OperandThere x o) (λ x a. a ≡ operand_in x o) (λ us ks ls t. t)
    (λ us ks ls a i. i) mark back h

pub unevaluated_type : (u v w : Work) (m : Mark) (d : Doing Ty) (k : ℕ) → IsMark u m → IsBack v m w →
    Done quietly u v d (TypeThere v k) (IsType v k) → Done quietly u w (unevaluated d) (TypeThere w k) (IsType w k)
unevaluated_type u v w m d k mark back h =
    unevaluated_done u v w m d (λ x. TypeThere x k) (λ x a. a ≡ type_in x.nodes k) (λ us ks ls t. t)
    (λ us ks ls a i. i) mark back h
