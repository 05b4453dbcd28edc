-- Declarators along the growth of the work, and part by part.
use Rattle.std.proofs.Common.{◌≡◌, List, [], ◌∷◌, ◌++◌, Option, sym, ap, ◌∙◌}
use Rattle.std.specs.Prelude.{reverse}
use Rattle.std.proofs.lemmas.List.{reverse-append}
use Rattle.std.proofs.lemmas.List.Elements.{All-push}
use Rattle.c_tree.specs.Scopes as meant_scopes
use Rattle.c_tree.specs.Readings as meant
use Rattle.c_tree.specs.Declarators.{wrapped}
use Rattle.c_types.specs.declared.scopes.Scope.{Scope}
use Rattle.c_elaborator.specs.declared.work.Work.{Work}
use Rattle.c_elaborator.specs.declared.work.Name.{Name}
use Rattle.c_declarators.specs.declared.parts.Wrap.{Wrap}
use Rattle.c_declarators.specs.declared.parts.Wrap.TheVariants.{Point, Row, Gives}
use Rattle.c_declarators.specs.declared.parts.Derived.{Derived}
use Rattle.c_declarators.specs.Forming.{WrapIsThere}
use Rattle.c_declarators.specs.Parts.{name_token, IsWrap, AreWraps, IsDerived, DerivedThere}

-- ---- part by part

pub nothing_derived : (R : Scope → meant_scopes.Scope → Type 0) (w : Work) (d : Derived) (n : Option Name) →
    d.name ≡ n → d.wraps.items ≡ [] → IsDerived R w d (record { name = name_token w n; wraps = [] })
nothing_derived R w d n e f = record { name = ap (name_token w) (sym e); wraps = rw f tt }

pub part_derived : (R : Scope → meant_scopes.Scope → Type 0) (w : Work) (d e : Derived) (a : Wrap) (x : meant.Derived)
    (b : meant.Wrap) → e.name ≡ d.name → e.wraps.items ≡ d.wraps.items ++ a ∷ [] → IsDerived R w d x → IsWrap R w a b →
    IsDerived R w e (wrapped b x)
part_derived R w d e a x b n i h k =
    let r : reverse (d.wraps.items ++ a ∷ []) ≡ a ∷ reverse d.wraps.items = reverse-append d.wraps.items (a ∷ []) in
    record { name = h.name ∙ ap (name_token w) (sym n); wraps = rw (i, r) (k, h.wraps) }

pub part_there : (w : Work) (d e : Derived) (a : Wrap) → e.wraps.items ≡ d.wraps.items ++ a ∷ [] → DerivedThere w d →
    WrapIsThere w.nodes a → DerivedThere w e
part_there w d e a i h k = rw i (All-push (WrapIsThere w.nodes) d.wraps.items a h k)

-- ---- without the scopes of parameters

wrap_weaker : (R S : Scope → meant_scopes.Scope → Type 0) (w : Work) (a : Wrap) (b : meant.Wrap) →
    ((c : Scope) (m : meant_scopes.Scope) → R c m → S c m) → IsWrap R w a b → IsWrap S w a b
wrap_weaker R S w (Point q) (meant.Point r) f h = h
wrap_weaker R S w (Row n) (meant.Row m) f h = h
wrap_weaker R S w (Gives p) (meant.Gives x) f h = record { params = h.params; scope = f p.scope x.scope h.scope }
wrap_weaker R S w (Point q) (meant.Row m) f h = absurd h
wrap_weaker R S w (Point q) (meant.Gives x) f h = absurd h
wrap_weaker R S w (Row n) (meant.Point r) f h = absurd h
wrap_weaker R S w (Row n) (meant.Gives x) f h = absurd h
wrap_weaker R S w (Gives p) (meant.Point r) f h = absurd h
wrap_weaker R S w (Gives p) (meant.Row m) f h = absurd h

wraps_weaker : (R S : Scope → meant_scopes.Scope → Type 0) (w : Work) (xs : List Wrap) (ys : List meant.Wrap) →
    ((c : Scope) (m : meant_scopes.Scope) → R c m → S c m) → AreWraps R w xs ys → AreWraps S w xs ys
wraps_weaker R S w [] [] f h = tt
wraps_weaker R S w [] (y ∷ ys) f h = absurd h
wraps_weaker R S w (x ∷ xs) [] f h = absurd h
wraps_weaker R S w (x ∷ xs) (y ∷ ys) f h = (wrap_weaker R S w x y f h.0, wraps_weaker R S w xs ys f h.1)

-- less may be asked of the scopes
pub derived_weaker : (R S : Scope → meant_scopes.Scope → Type 0) (w : Work) (d : Derived) (x : meant.Derived) →
    ((c : Scope) (m : meant_scopes.Scope) → R c m → S c m) → IsDerived R w d x → IsDerived S w d x
derived_weaker R S w d x f h =
    record { name = h.name; wraps = wraps_weaker R S w (reverse d.wraps.items) x.wraps f h.wraps }
