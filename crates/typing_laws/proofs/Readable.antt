-- Every part of a syntax that fits is read so, whatever stands around it, and with that a whole file.
use Rattle.std.proofs.Common.{◌≡◌, ℕ, true, List, [], ◌∷◌, Option, Some, None, Ok, subst}
use Rattle.ck_base.specs.Tokens.{Lexeme}
use Rattle.c_tree.specs.declared.syntax.NodeKind.{NodeKind}
use Rattle.c_tree.specs.Syntax.{Syn, Syns, node, nil, more}
use Rattle.c_tree.specs.Types.{Ty}
use Rattle.c_tree.specs.Scopes.{State, give}
use Rattle.c_tree.specs.Readings.{Reading}
use Rattle.c_tree.specs.Statements.{case_label, case_value}
use Rattle.c_tree.specs.Declarators.{constant}
use Rattle.c_tree.specs.Programs.{reading_of, reading, readings, all_externals}
use Rattle.typing_laws.specs.Fitting.{KindFits, IsFit, AreFit}
use Rattle.typing_laws.proofs.Facts.{TypeOk, Inv, Kept}
use Rattle.typing_laws.proofs.Growing.{grows_self}
use Rattle.typing_laws.proofs.Steps.{given, first_then}
use Rattle.typing_laws.proofs.Operators.{onward}
use Rattle.typing_laws.proofs.Evaluated.{ReadsExpression, ReadAll, expression_ok, weaker, regain}
use Rattle.typing_laws.proofs.Tags.{AllDeclared, enumerator_ok, constant_ok}
use Rattle.typing_laws.proofs.Formed.{specifiers_ok, declarator_ok, member_of_ok, parameter_of_ok}
use Rattle.typing_laws.proofs.Prototypes.{prototype_ok, kind_type_ok}
use Rattle.typing_laws.proofs.Filled.{AllInitialize, initializer_ok}
use Rattle.typing_laws.proofs.Declared.{ReadsInit, AllInits, DeclaresAs, AllDeclareAs, init_declarator_ok}
use Rattle.typing_laws.proofs.Stated.{ReadsItem, AllItems, all_items_ok, statement_ok}
use Rattle.typing_laws.proofs.Functions.{Outside, ReadsBody, external_ok}

pub record Good (x : Syn) (r : Reading) : Type 0 where
  pub init : ReadsInit r
  pub declares : DeclaresAs r
  pub item : ReadsItem x r
  pub body : ReadsBody r
  pub external : (s : State) → Outside s → (y : Unit {0} × State) → r.external s ≡ Ok y → Outside y.1

abbrev AllGood : Syns → List Reading → Type 0
AllGood nil [] = Unit {0}
AllGood (more x xs) (r ∷ rs) = Good x r × AllGood xs rs
AllGood xs rs = ⊥

good_expressions : (xs : Syns) (rs : List Reading) → AllGood xs rs → ReadAll rs
good_expressions nil [] h = tt
good_expressions (more x xs) (r ∷ rs) h = (h.0.init.declared.expression, good_expressions xs rs h.1)
good_expressions nil (r ∷ rs) h = absurd h
good_expressions (more x xs) [] h = absurd h

good_declared : (xs : Syns) (rs : List Reading) → AllGood xs rs → AllDeclared rs
good_declared nil [] h = tt
good_declared (more x xs) (r ∷ rs) h = (h.0.init.declared, good_declared xs rs h.1)
good_declared nil (r ∷ rs) h = absurd h
good_declared (more x xs) [] h = absurd h

good_initialize : (xs : Syns) (rs : List Reading) → AllGood xs rs → AllInitialize rs
good_initialize nil [] h = tt
good_initialize (more x xs) (r ∷ rs) h = (h.0.init.initializer, good_initialize xs rs h.1)
good_initialize nil (r ∷ rs) h = absurd h
good_initialize (more x xs) [] h = absurd h

good_inits : (xs : Syns) (rs : List Reading) → AllGood xs rs → AllInits rs
good_inits nil [] h = tt
good_inits (more x xs) (r ∷ rs) h = (h.0.init, good_inits xs rs h.1)
good_inits nil (r ∷ rs) h = absurd h
good_inits (more x xs) [] h = absurd h

good_declares : (xs : Syns) (rs : List Reading) → AllGood xs rs → AllDeclareAs rs
good_declares nil [] h = tt
good_declares (more x xs) (r ∷ rs) h = (h.0.declares, good_declares xs rs h.1)
good_declares nil (r ∷ rs) h = absurd h
good_declares (more x xs) [] h = absurd h

good_items : (xs : Syns) (rs : List Reading) → AllGood xs rs → AllItems xs rs
good_items nil [] h = tt
good_items (more x xs) (r ∷ rs) h = (h.0.item, good_items xs rs h.1)
good_items nil (r ∷ rs) h = absurd h
good_items (more x xs) [] h = absurd h

-- the body of a definition is its third part
third_body : (xs : Syns) (rs : List Reading) → AllGood xs rs → (r q p : Reading) → rs ≡ r ∷ q ∷ p ∷ [] → ReadsBody p
third_body xs rs h r q p e = take_third xs (subst (AllGood xs) e h)
  where
    take_third : (xs : Syns) → AllGood xs (r ∷ q ∷ p ∷ []) → ReadsBody p
    take_third nil h = absurd h
    take_third (more x nil) h = absurd h.1
    take_third (more x (more y nil)) h = absurd h.1.1
    take_third (more x (more y (more z nil))) h = h.1.1.0.body
    take_third (more x (more y (more z (more w ws)))) h = absurd h.1.1.1

label_ok : (rs : List Reading) (of : Ty) (s : State) → ReadAll rs → Inv true s → (y : Option ℕ × State) →
    case_label rs of s ≡ Ok y → Kept true true s (λ q v. Unit {0}) y
unfolding case_label
label_ok [] of s h i y e =
    given (Kept true true s (λ q v. Unit {0})) None s y e (record { inv = i; grown = grows_self true s; post = tt })
label_ok (r ∷ rs) of s h i y e =
    let z = first_then (constant r s) (λ k. give (Some (case_value of k))) y e in
    let k = regain true s (λ q c. Unit {0}) z.0 i (constant_ok r s h.0 (weaker true s i) z.0 z.1) in
    onward true true s z.0 y k (given (Kept true true z.0.1 (λ q v. Unit {0})) (Some (case_value of z.0.0)) z.0.1 y z.2
    (record { inv = k.inv; grown = grows_self true z.0.1; post = tt }))

good_node : (k : NodeKind) (t : Lexeme) (xs : Syns) (rs : List Reading) → KindFits k t xs → AllGood xs rs →
    Good (node k t xs) (reading_of k t xs rs)
good_node k t xs rs f h =
    let exprs = good_expressions xs rs h in
    let decls = good_declared xs rs h in
    let expression : ReadsExpression (reading_of k t xs rs) = record {
      operand = λ m s i y e. expression_ok m k t xs rs s f i exprs y e;
      type = λ m alone s i y e. regain m s (λ q t. TypeOk q.tags t) y i
          (kind_type_ok k t xs rs alone s decls (weaker m s i) y e);
    } in
    record {
      init = record {
        declared = record {
          expression = expression;
          specified = λ alone s i y e. specifiers_ok alone t xs rs s decls i y e;
          derived = λ s i y e. declarator_ok k t xs rs s decls i y e;
          prototype = λ s i y e. prototype_ok rs s decls i y e;
          parameter = λ only s i y e. parameter_of_ok t rs only s decls i y e;
          members = λ ms s i p y e. member_of_ok t xs rs ms s decls p i y e;
          enumerator = λ z s i y e. enumerator_ok t rs z s decls i y e;
        };
        initializer = initializer_ok k t xs rs f exprs (good_initialize xs rs h);
      };
      declares = λ p s o i w y e. init_declarator_ok xs rs p s (good_inits xs rs h) o i w y e;
      item = record {
        expression = expression;
        item = λ c s o i w y e. statement_ok k t xs rs c s f (good_items xs rs h) decls
            (good_declares xs rs h) o i w y e;
        label = λ of s i y e. label_ok rs of s exprs i y e;
      };
      body = λ c s o i w y e. all_items_ok c xs rs s (good_items xs rs h) o i w y e;
      external = λ s o y e. external_ok k t xs rs s decls (good_declares xs rs h) (third_body xs rs h) o y e;
    }

mutual
  unfolding IsFit AreFit reading readings

  pub good : (x : Syn) → IsFit x → Good x (reading x)
  good (node k t xs) f = good_node k t xs (readings xs) f.0 (all_good xs f.1)

  pub all_good : (xs : Syns) → AreFit xs → AllGood xs (readings xs)
  all_good nil f = tt
  all_good (more x xs) f = (good x f.0, all_good xs f.1)

pub externals_ok : (xs : Syns) (rs : List Reading) (s : State) → AllGood xs rs → Outside s → (y : Unit {0} × State) →
    all_externals rs s ≡ Ok y → Outside y.1
externals_ok nil [] s h o y e = given (λ (z : Unit {0} × State). Outside z.1) tt s y e o
externals_ok (more x xs) (r ∷ rs) s h o y e =
    let z = first_then (r.external s) (λ _. all_externals rs) y e in
    externals_ok xs rs z.0.1 h.1 (h.0.external s o z.0 z.1) y z.2
externals_ok nil (r ∷ rs) s h o y e = absurd h
externals_ok (more x xs) [] s h o y e = absurd h
