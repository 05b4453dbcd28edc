-- Parts of declarators, and what they make.
use Rattle.std.proofs.Common.{◌≡◌, ℕ, List, [], ◌∷◌, ◌++◌, map, refl, sym, ap, ◌∙◌}
use Rattle.std.specs.Prelude.{reverse}
use Rattle.std.proofs.lemmas.Grind.{reverse_onto}
use Rattle.c_tree.specs.Types.{in_signature, also}
use Rattle.c_tree.specs.Views.{tys}
use Rattle.c_tree.specs.Scopes as meant_scopes
use Rattle.c_tree.specs.Scopes.{State}
use Rattle.c_tree.specs.Readings as meant
use Rattle.c_tree.specs.Declarators as meant_types
use Rattle.c_tree.specs.Declarators.{wrap_on, form_on, formed, plainly, signature}
use Rattle.c_types.specs.declared.scopes.Scope.{Scope}
use Rattle.c_expressions.specs.declared.nodes.Nodes.{Nodes}
use Rattle.c_expressions.specs.Nodes.{type_in}
use Rattle.c_elaborator.specs.declared.work.Work.{Work}
use Rattle.c_elaborator.specs.Work.{Shows}
use Rattle.c_declarators.specs.declared.parts.Param.{Param}
use Rattle.c_declarators.specs.declared.parts.Wrap.{Wrap}
use Rattle.c_declarators.specs.declared.parts.Wrap.TheVariants.{Point, Row, Gives}
use Rattle.c_declarators.specs.declared.parts.Formed.{Formed}
use Rattle.c_declarators.specs.Parts.{IsWrap, AreWraps, HasFaults, param_in}
use Rattle.c_declarators.specs.Forming.{MakesOf, formed_in, gives_on, made_on, all_on, signature_types}

-- ---- one part

signature_is : (w : Work) (ps : List Param) → signature (map (param_in w) ps) ≡ tys (signature_types w.nodes ps)
signature_is w [] = refl
signature_is w (p ∷ ps) = ap (λ ts. also (in_signature (type_in w.nodes p.of)) ts) (signature_is w ps)

gives_is : (R : Scope → meant_scopes.Scope → Type 0) (s : State) (w : Work) (ps : List Param) (x : meant.Prototype)
    (f : meant_types.Formed) → x.params ≡ map (param_in w) ps →
    wrap_on s (meant.Gives x) f ≡ gives_on (tys (signature_types w.nodes ps)) f
gives_is R s w ps x f e = ap (λ qs. gives_on (signature qs) f) e ∙ ap (λ ts. gives_on ts f) (signature_is w ps)

wrap_is : (R : Scope → meant_scopes.Scope → Type 0) (s : State) (w : Work) (a : Wrap) (b : meant.Wrap)
    (f : meant_types.Formed) → IsWrap R w a b → wrap_on s b f ≡ made_on s w.nodes a f
wrap_is R s w (Point q) (meant.Point r) f h = ap (λ x. wrap_on s (meant.Point x) f) h
wrap_is R s w (Row n) (meant.Row m) f h = ap (λ x. wrap_on s (meant.Row x) f) h
wrap_is R s w (Gives p) (meant.Gives x) f h = gives_is R s w p.params.items x f h.params
wrap_is R s w (Point q) (meant.Row m) f h = absurd h
wrap_is R s w (Point q) (meant.Gives x) f h = absurd h
wrap_is R s w (Row n) (meant.Point r) f h = absurd h
wrap_is R s w (Row n) (meant.Gives x) f h = absurd h
wrap_is R s w (Gives p) (meant.Point r) f h = absurd h
wrap_is R s w (Gives p) (meant.Row m) f h = absurd h

-- ---- all parts, the last of the list first

-- the last of some parts, and those before it
record Split (R : Scope → meant_scopes.Scope → Type 0) (w : Work) (xs : List Wrap) (x : Wrap) (ys : List meant.Wrap) :
    Type 0 where
  before : List meant.Wrap
  last : meant.Wrap
  is : ys ≡ before ++ last ∷ []
  are : AreWraps R w xs before
  one : IsWrap R w x last

split : (R : Scope → meant_scopes.Scope → Type 0) (w : Work) (xs : List Wrap) (x : Wrap) (ys : List meant.Wrap) →
    AreWraps R w (xs ++ x ∷ []) ys → Split R w xs x ys
split R w [] x [] h = absurd h
split R w [] x (y ∷ []) h = record { before = []; last = y; is = refl; are = tt; one = h.0 }
split R w [] x (y ∷ z ∷ ys) h = absurd h.1
split R w (v ∷ xs) x [] h = absurd h
split R w (v ∷ xs) x (y ∷ ys) h =
    let r : Split R w xs x ys = split R w xs x ys h.1 in
    record { before = y ∷ r.before; last = r.last; is = ap (λ zs. y ∷ zs) r.is; are = (h.0, r.are); one = r.one }

form_on-last : (s : State) (ys : List meant.Wrap) (y : meant.Wrap) (f : meant_types.Formed) →
    form_on s (ys ++ y ∷ []) f ≡ wrap_on s y (form_on s ys f)
form_on-last s [] y f = refl
form_on-last s (z ∷ ys) y f = form_on-last s ys y (wrap_on s z f)

none_there : (R : Scope → meant_scopes.Scope → Type 0) (w : Work) (ys : List meant.Wrap) → AreWraps R w [] ys → ys ≡ []
none_there R w [] h = refl
none_there R w (y ∷ ys) h = absurd h

pub form_is : (R : Scope → meant_scopes.Scope → Type 0) (s : State) (w : Work) (xs : List Wrap) (ys : List meant.Wrap)
    (f : meant_types.Formed) → AreWraps R w (reverse xs) ys → form_on s ys f ≡ all_on s w.nodes xs f
form_is R s w [] ys f h = ap (λ zs. form_on s zs f) (none_there R w ys h)
form_is R s w (x ∷ xs) ys f h =
    let e : reverse (x ∷ xs) ≡ reverse xs ++ x ∷ [] = reverse_onto xs x [] in
    let r : Split R w (reverse xs) x ys = split R w (reverse xs) x ys (rw e at h) in
    ap (λ zs. form_on s zs f) r.is ∙ form_on-last s r.before r.last f
    ∙ wrap_is R s w x r.last (form_on s r.before f) r.one
    ∙ ap (made_on s w.nodes x) (form_is R s w xs r.before f r.are)

-- the type that is made is the one that is meant
pub formed_is : (R : Scope → meant_scopes.Scope → Type 0) (w : Work) (n : Nodes) (g : Formed) (of : ℕ) (xs : List Wrap)
    (ys : List meant.Wrap) (s : State) → MakesOf w.nodes n g (λ s. all_on s w.nodes xs (plainly (type_in w.nodes of))) →
    AreWraps R w (reverse xs) ys → Shows w s →
    formed s (type_in w.nodes of) ys ≡ formed_in n g
unfolding formed
formed_is R w n g of xs ys s m a h = form_is R s w xs ys (plainly (type_in w.nodes of)) a ∙ sym (m.is s h.stands)

pub faults_in : (n : Nodes) (f : Formed) → HasFaults f.faults (formed_in n f)
faults_in n f = record { lacks = refl; misfits = refl; too_large = refl }
