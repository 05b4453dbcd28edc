-- What a name gives.
use Rattle.std.proofs.Common.{◌≡◌, ℕ, Option, Some, None, Result, refl, sym, ap, subst, ◌∙◌}
use Rattle.std.specs.Prelude.{option_map, ℤ}
use Rattle.ck_base.specs.declared.positions.Pos.{Pos}
use Rattle.ck_base.specs.Tokens.{Lexeme}
use Rattle.ck_base.specs.declared.refusal.Refusal.{Refusal}
use Rattle.ck_int.specs.Kinds.{kept_of}
use Rattle.c_expressions.specs.declared.nodes.Operand.{Operand}
use Rattle.c_expressions.specs.Answers as nodes
use Rattle.c_expressions.specs.Nodes as nodes_are
use Rattle.c_elaborator.specs.Answers.{Answers, quietly, OperandThere, IsOperand}
use Rattle.c_elaborator.proofs.Sequencing.{lift_operand}
use Rattle.c_tree.specs.Types.{Ty, int}
use Rattle.c_tree.specs.Terms.{Var, Constant, leaf}
use Rattle.c_tree.specs.Scopes as meant
use Rattle.c_tree.specs.Scopes.{State, find_name}
use Rattle.c_tree.specs.Expressions.{gives, named, denoted}
use Rattle.c_tree.specs.Views.{types_of}
use Rattle.c_types.specs.declared.entries.Entity.{Entity}
use Rattle.c_types.specs.declared.entries.Entity.TheVariants as entities
use Rattle.c_types.specs.Stands.{entity_kept, entity_seen, named as type_there}
use Rattle.c_types.proofs.Looking.{type_is}
use Rattle.c_expressions.specs.declared.nodes.Nodes.{Nodes}
use Rattle.c_elaborator.specs.declared.work.Work.{Work}
use Rattle.c_elaborator.specs.declared.work.Name.{Name}
use Rattle.c_elaborator.specs.Parts.{token_of}
use Rattle.c_elaborator.specs.Rules.{denoting, giving_leaf}

denoted_is : (n : Nodes) (o : Option Entity) (e : Option meant.Entity) (t : Lexeme) (s : State) →
    option_map (entity_kept (types_of n.p.types)) o ≡ option_map entity_seen e → denoted e t s ≡ denoting n o t.pos s
denoted_is n None None t s h = refl
denoted_is n None (Some e) t s h = absurd cc
denoted_is n (Some o) None t s h = absurd cc
denoted_is n (Some (entities.Local k of)) (Some (meant.Local j u)) t s h =
    let a : k ≡ j = cc in
    let b : type_there (types_of n.p.types) of ≡ Some u = cc in
    ap (λ (i : ℕ). giving_leaf (Var i) u t.pos s) (sym a)
    ∙ ap (λ (v : Ty). giving_leaf (Var k) v t.pos s) (sym (type_is n.p of u b))
denoted_is n (Some (entities.Static k)) (Some (meant.Static j)) t s h =
    let a : k ≡ j = cc in ap (λ (i : ℕ). denoted (Some (meant.Static i)) t s) (sym a)
denoted_is n (Some (entities.Routine k)) (Some (meant.Routine j)) t s h =
    let a : k ≡ j = cc in ap (λ (i : ℕ). denoted (Some (meant.Routine i)) t s) (sym a)
denoted_is n (Some (entities.Alias of)) (Some (meant.Alias u)) t s h = refl
denoted_is n (Some (entities.Enumerator z)) (Some (meant.Enumerator y)) t s h =
    let a : z ≡ y = cc in ap (λ (i : ℤ). denoted (Some (meant.Enumerator i)) t s) (sym a)
denoted_is n (Some (entities.Library k of)) (Some (meant.Library j u)) t s h = refl
denoted_is n (Some _) (Some _) t s h = absurd cc

pub named_is : (w : Work) (x : Name) (o : Option Entity) (s : State) →
    option_map (entity_kept (types_of w.nodes.p.types)) o
    ≡ option_map entity_seen (find_name s.scopes (token_of w x).text) →
    named (token_of w x) s ≡ denoting w.nodes o x.pos s
unfolding named
named_is w x o s h = denoted_is w.nodes o (find_name s.scopes (token_of w x).text) (token_of w x) s h

pub constant_lifts : (w : Work) (n : Nodes) (r : Result Operand Refusal) (k : ℕ) (z : ℤ) (p : Pos) → k ≡ kept_of z →
    nodes.Answers w.nodes n (gives (leaf (Constant k) int p) p) nodes_are.IsOperand r →
    Answers quietly w (record w { nodes = n }) (giving_leaf (Constant (kept_of z)) int p) OperandThere IsOperand r
constant_lifts w n r k z p e a =
    subst (λ (j : ℕ). Answers quietly w (record w { nodes = n })
    (giving_leaf (Constant j) int p) OperandThere IsOperand r) e
    (lift_operand w n (giving_leaf (Constant k) int p) r a)
