-- External declarations and function definitions, by their parts.
use Rattle.std.proofs.Common.{◌≡◌, ℕ, ◌<◌, List, [], ◌∷◌, length, Some, false, Result, Ok, Err, refl, sym, ap, subst}
use Rattle.std.proofs.Common.{◌∙◌, arith}
use Rattle.std.specs.Prelude.{slice_get, slice_index_or}
use Rattle.ck_base.specs.declared.refusal.Refusal.{Refusal}
use Rattle.ck_base.specs.Tokens.{Lexeme}
use Rattle.c_tree.specs.declared.syntax.Node.{Node}
use Rattle.c_tree.specs.declared.syntax.NodeKind.{NodeKind}
use Rattle.c_tree.specs.declared.syntax.NodeKind.TheVariants as Kinds
use Rattle.c_tree.specs.Syntax.{Syn, Syns, nil, more}
use Rattle.c_tree.specs.Readings as meant
use Rattle.c_tree.specs.Readings.{Reading}
use Rattle.c_tree.specs.Scopes.{Doing, give, refuse, ◌>>=◌}
use Rattle.c_tree.specs.Programs.{reading, readings, external_of, function_definition, define_named}
use Rattle.c_elaborator.specs.declared.work.Work.{Work}
use Rattle.c_elaborator.specs.Answers.{Answers, Done, freely, quietly, NothingThere, IsNothing}
use Rattle.c_elaborator.specs.Parts.{IsPart, AreParts}
use Rattle.c_elaborator.proofs.Sequencing.{free_law, freed}
use Rattle.c_declarators.specs.declared.parts.Specified.{Specified}
use Rattle.c_declarators.specs.Parts.{SpecifiedThere, IsSpecified, in_any, DerivedThere, ShowsDerived}
use Rattle.c_declarators.specs.declared.parts.Wrap.{Wrap}
use Rattle.c_declarators.specs.declared.parts.Wrap.TheVariants.{Point, Row, Gives}
use Rattle.c_readings.specs.Kids.{HasNot}
use Rattle.c_readings.proofs.Kids.{opened, cut, no_parts, count, counted}
use Rattle.c_elaborator.proofs.Shown.{then_for}
use Rattle.c_statements.proofs.Following.{for_each, fails_freed}
use Rattle.c_statements.proofs.Standing.{reading_node, some_specified, is_some_specified}
use Rattle.c_elab.specs.Functions.{first_prototype, defines_from}

-- what a node is outside of functions
pub external_answers : (u w : Work) (k : ℕ) (x : Syn) (n : Node) (r : Result (Unit {0}) Refusal) → IsPart u k x →
    slice_get u.tree.now.nodes k ≡ Some n →
    ((t : Lexeme) (xs : Syns) → t.pos ≡ n.pos → AreParts u n.kids xs →
    Answers freely u w (external_of n.kind t xs (readings xs)) NothingThere IsNothing r) →
    Answers freely u w (reading x).external NothingThere IsNothing r
external_answers u w k x n r p g h =
    let o = opened u k x n p g in
    subst (λ (q : Reading). Answers freely u w q.external NothingThere IsNothing r)
    (sym (ap reading o.is ∙ reading_node n.kind o.token o.parts)) (h o.token o.parts o.node.place o.node.parts)

pub other_external : (k : NodeKind) (t : Lexeme) (xs : Syns) (rs : List Reading) → (k ≡ Kinds.FunctionDefinition → ⊥) →
    (k ≡ Kinds.Declaration → ⊥) → external_of k t xs rs ≡ give tt
other_external Kinds.FunctionDefinition t xs rs h g = absurd (h refl)
other_external Kinds.Declaration t xs rs h g = absurd (g refl)
other_external k t xs rs h g = refl

-- ---- function definitions

three_is : (t : Lexeme) (x y z : Syn) →
    function_definition t (more x (more y (more z nil))) (readings (more x (more y (more z nil)))) ≡ defines_from x y z
unfolding function_definition readings
three_is t x y z = refl

pub from_three : (u w : Work) (ks : List ℕ) (a b c : ℕ) (r : Result (Unit {0}) Refusal) → ks ≡ a ∷ b ∷ c ∷ [] →
    ((x y z : Syn) → IsPart u a x → IsPart u b y → IsPart u c z →
    Answers freely u w (defines_from x y z) NothingThere IsNothing r) →
    (t : Lexeme) (xs : Syns) → AreParts u ks xs →
    Answers freely u w (function_definition t xs (readings xs)) NothingThere IsNothing r
from_three u w ks a b c r e h t xs p =
    let m = cut u a (b ∷ c ∷ []) xs (subst (λ (z : List ℕ). AreParts u z xs) e p) in
    let n = cut u b (c ∷ []) m.tail m.others in
    let o = cut u c [] n.tail n.others in
    let is : xs ≡ more m.head (more n.head (more o.head nil)) =
    m.is ∙ ap (more m.head) (n.is ∙ ap (more n.head) (o.is ∙ ap (more o.head) (no_parts u o.tail o.others))) in
    subst (λ (ys : Syns). Answers freely u w (function_definition t ys (readings ys)) NothingThere IsNothing r) (sym is)
    (subst (λ (d : Doing Unit). Answers freely u w d NothingThere IsNothing r) (sym (three_is t m.head n.head o.head))
    (h m.head n.head o.head m.first n.first o.first))

not_three_is : (t : Lexeme) (xs : Syns) → (count xs ≡ 3 → ⊥) → function_definition t xs (readings xs) ≡ refuse 120 t.pos
unfolding function_definition readings
not_three_is t nil h = refl
not_three_is t (more x nil) h = refl
not_three_is t (more x (more y nil)) h = refl
not_three_is t (more x (more y (more z nil))) h = absurd (h refl)
not_three_is t (more x (more y (more z (more a xs)))) h = refl

pub not_three : (w : Work) (ks : List ℕ) (t : Lexeme) (xs : Syns) → HasNot 3 ks → AreParts w ks xs →
    function_definition t xs (readings xs) ≡ refuse 120 t.pos
not_three w ks t xs h p = not_three_is t xs (λ e. h (sym (counted w ks xs p) ∙ e))

-- the declarator that is made last stands first
pub first_is : (ws : List Wrap) (a : Wrap) → 0 < length ws → a ≡ slice_index_or ws 0 a →
    first_prototype ws ≡ first_prototype (a ∷ [])
first_is [] a l e = absurd (omega arith)
first_is (w ∷ ws) a l e = only w a ws (sym e)
  where
    only : (w a : Wrap) (ws : List Wrap) → w ≡ a → first_prototype (w ∷ ws) ≡ first_prototype (a ∷ [])
    only w a ws e = one w ws ∙ ap (λ (v : Wrap). first_prototype (v ∷ [])) e
      where
        one : (w : Wrap) (ws : List Wrap) → first_prototype (w ∷ ws) ≡ first_prototype (w ∷ [])
        one (Point q) ws = refl
        one (Row n) ws = refl
        one (Gives p) ws = refl

-- ---- specifiers and declarators that are refused

pub unspecified : (u v w : Work) (x y z : Syn) (e : Refusal) →
    Answers quietly u v ((reading x).specified false) SpecifiedThere (in_any IsSpecified) (Err e) →
    Answers freely u w (defines_from x y z) NothingThere IsNothing (Err e)
unspecified u v w x y z e a =
    fails_freed u v w ((reading x).specified false)
    (λ s. (reading y).derived >>= λ d. define_named s d d.name z (reading z)) SpecifiedThere
    (in_any IsSpecified) NothingThere IsNothing e a

pub underived : (u v w o : Work) (x y z : Syn) (s : Specified) (e : Refusal) →
    Done quietly u v ((reading x).specified false) (SpecifiedThere v s) (in_any IsSpecified v s) →
    Answers quietly v w (reading y).derived DerivedThere ShowsDerived (Err e) →
    Answers freely u o (defines_from x y z) NothingThere IsNothing (Err e)
underived u v w o x y z s e a b =
    let d = (reading x).specified false in
    let rest : meant.Specified → Doing Unit = λ t. (reading y).derived >>= λ m. define_named t m m.name z (reading z) in
    then_for freely free_law u v o d rest (SpecifiedThere v s) (in_any IsSpecified v s) NothingThere IsNothing (Err e)
    (freed u v d SpecifiedThere (in_any IsSpecified) (Ok s) a)
    (for_each freely v o (in_any IsSpecified v s) (IsSpecified v s) rest NothingThere IsNothing (Err e)
    (some_specified v s) (is_some_specified v s) (λ st t h. h)
    (λ t h. fails_freed v w o (reading y).derived
    (λ m. define_named t m m.name z (reading z)) DerivedThere ShowsDerived NothingThere IsNothing e b))
