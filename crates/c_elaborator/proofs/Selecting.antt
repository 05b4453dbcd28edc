-- What a member gives, once it was sought.
use Rattle.std.proofs.Common.{◌≡◌, ℕ, List, Result, Ok, Err, refl, sym, ap, subst, ◌∙◌}
use Rattle.ck_base.specs.declared.positions.Pos.{Pos}
use Rattle.c_tree.specs.Types.{Ty, bare}
use Rattle.c_tree.specs.Terms.{Member, step}
use Rattle.c_tree.specs.Scopes.{State, Fault, Doing, some_or, continued, ◌>>=◌}
use Rattle.c_tree.specs.Conversions.{Operand, operand_type}
use Rattle.c_tree.specs.Expressions.{gives, as_qualified, member, member_from, members_in}
use Rattle.c_operand_rules.specs.Members.{MembersAreSpelled, finding}
use Rattle.c_elaborator.specs.declared.work.Work.{Work}
use Rattle.c_elaborator.specs.Work.{Shows}

-- the members are named as the file of the scopes has them
pub spelled : (w : Work) (s : State) → Shows w s → MembersAreSpelled w.nodes.scopes.file.now s
spelled w s h = subst (λ file. MembersAreSpelled file s) (sym h.closed.file) h.closed.members

together : {A B C : Type 0} (r : Result (A × State) Fault) (f : A → Doing B) (g : B → Doing C) →
    continued r (λ a. f a >>= g) ≡ continued (continued r f) g
together (Ok x) f g = refl
together (Err e) f g = refl

-- an expression of the member that was found
abbrev pub membering : Operand → Pos → ℕ × Ty → Doing Operand
membering a p m = gives (step (Member m.0) a.is (as_qualified (operand_type a) m.1) p) a.first

-- a member is sought, and then an expression is made of it
pub member_found : (a : Operand) (name : List ℕ) (p : Pos) (t : Ty) (m : ℕ × Ty) (s : State) → t ≡ operand_type a →
    finding t name a.first s ≡ Ok (m, s) → member a name p s ≡ membering a p m s
member_found a name p t m s e h =
    together (members_in s (bare (operand_type a)) a.first s) (λ ms. some_or (member_from 0 ms name) 133 a.first)
    (membering a p)
    ∙ ap (λ (u : Ty). continued (finding u name a.first s) (membering a p)) (sym e)
    ∙ ap (λ r. continued r (membering a p)) h
