-- Declarators without the scopes of their parameters.
use Rattle.std.proofs.Common.{List, [], ◌∷◌}
use Rattle.c_tree.specs.Scopes as meant_scopes
use Rattle.c_tree.specs.Readings as meant
use Rattle.c_types.specs.declared.scopes.Scope.{Scope}
use Rattle.c_elaborator.specs.declared.work.Work.{Work}
use Rattle.c_declarators.specs.declared.parts.Wrap.{Wrap}
use Rattle.c_declarators.specs.declared.parts.Wrap.TheVariants.{Point, Row, Gives}
use Rattle.c_declarators.specs.Parts.{IsWrap, AreWraps}

wrap_weaker : (R S : Scope → meant_scopes.Scope → Type 0) (w : Work) (a : Wrap) (b : meant.Wrap) →
    ((c : Scope) (m : meant_scopes.Scope) → R c m → S c m) → IsWrap R w a b → IsWrap S w a b
wrap_weaker R S w (Point q) (meant.Point r) f h = h
wrap_weaker R S w (Row n) (meant.Row m) f h = h
wrap_weaker R S w (Gives p) (meant.Gives x) f h = record { params = h.params; scope = f p.scope x.scope h.scope }
wrap_weaker R S w (Point q) (meant.Row m) f h = absurd h
wrap_weaker R S w (Point q) (meant.Gives x) f h = absurd h
wrap_weaker R S w (Row n) (meant.Point r) f h = absurd h
wrap_weaker R S w (Row n) (meant.Gives x) f h = absurd h
wrap_weaker R S w (Gives p) (meant.Point r) f h = absurd h
wrap_weaker R S w (Gives p) (meant.Row m) f h = absurd h

pub wraps_weaker : (R S : Scope → meant_scopes.Scope → Type 0) (w : Work) (xs : List Wrap) (ys : List meant.Wrap) →
    ((c : Scope) (m : meant_scopes.Scope) → R c m → S c m) → AreWraps R w xs ys → AreWraps S w xs ys
wraps_weaker R S w [] [] f h = tt
wraps_weaker R S w [] (y ∷ ys) f h = absurd h
wraps_weaker R S w (x ∷ xs) [] f h = absurd h
wraps_weaker R S w (x ∷ xs) (y ∷ ys) f h = (wrap_weaker R S w x y f h.0, wraps_weaker R S w xs ys f h.1)
