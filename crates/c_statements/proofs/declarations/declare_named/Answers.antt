use Rattle.std.proofs.Common.{◌≡◌, Some, None, refl, sym, ap, ◌∙◌}
use Rattle.c_tree.specs.Readings as meant
use Rattle.c_tree.specs.Scopes.{Doing, refuse}
use Rattle.c_tree.specs.Declarations.{declare_named}
use Rattle.c_elaborator.specs.declared.work.Work.{Work}
use Rattle.c_declarators.specs.Parts.{name_token}
use Rattle.c_statements.proofs.declarations.declare_named.Goals as goal

pub returns-in-None : goal.returns-in-None
returns-in-None c = λ y e b hy he hb st h.
    ap (λ o. declare_named y e o b st) (he.name ∙ ap (name_token c.args.work.now) c.in-None.is)
    ∙ ap (λ p. (let d : Doing meant.Items = refuse 120 p in d) st) hy.first

pub declare_so-requires : goal.declare_so-requires
declare_so-requires c = record {
  whole = c.requires.whole;
  specified = c.requires.specified;
  parts = rw c.as_slice.ensures.value c.requires.derived;
  behind = c.requires.behind;
}

pub returns-in-Some : goal.returns-in-Some
returns-in-Some c = λ y e b hy he hb. c.declare_so.ensures y e b hy
    (he.name ∙ ap (name_token c.args.work.now) c.in-Some.is) (rw c.as_slice.ensures.value he.wraps) hb
