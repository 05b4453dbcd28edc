use Rattle.std.proofs.Common.{◌≡◌, List, ℕ, [], ◌∷◌, refl, sym, ap, subst, ◌∙◌}
use Rattle.c_tree.specs.Readings as meant
use Rattle.c_tree.specs.Syntax.{Syns, nil, more}
use Rattle.c_tree.specs.Scopes.{Doing}
use Rattle.c_tree.specs.Declarations.{declaration}
use Rattle.c_tree.specs.Programs.{readings}
use Rattle.c_elaborator.specs.declared.work.Work.{Work}
use Rattle.c_elaborator.specs.Answers.{Answers, freely}
use Rattle.c_elaborator.specs.Parts.{AreParts}
use Rattle.c_readings.proofs.Kids.{cut, no_parts}
use Rattle.c_elaborator.specs.Items.{ItemsThere, IsItems}
use Rattle.c_statements.proofs.Standing.{declaration_none, declaration_is}
use Rattle.c_readings.specs.Within.{PartsWithin}
use Rattle.c_readings.proofs.Within.{first_within, others_within}
use Rattle.c_statements.proofs.declarations.declaration.Goals as goal

pub declare_list-requires : goal.declare_list-requires
declare_list-requires c =
    let u : Work = c.args.work.now in
    let h = subst (λ (ks : List ℕ). PartsWithin u c.args.depth ks) c.in-Some.ensures c.requires.parts in
    record {
      whole = c.requires.whole;
      part = first_within u c.in-Some.x.first c.in-Some.x.others.now h;
      parts = others_within u c.in-Some.x.first c.in-Some.x.others.now h;
    }

pub returns-in-None : goal.returns-in-None
returns-in-None c = λ xs a s h.
    let u : Work = c.args.work.now in
    let e : xs ≡ nil = no_parts u xs (subst (λ (ks : List ℕ). AreParts u ks xs) c.in-None.ensures a) in
    ap (λ (ys : Syns). declaration c.args.pos (readings ys) s) e
    ∙ ap (λ (d : Doing meant.Items). d s) (declaration_none c.args.pos)

pub returns-in-Some : goal.returns-in-Some
returns-in-Some c = λ xs a.
    let u : Work = c.args.work.now in
    let w : Work = c.declare_list.new.work in
    let m = cut u c.in-Some.x.first c.in-Some.x.others.now xs
    (subst (λ (ks : List ℕ). AreParts u ks xs) c.in-Some.ensures a) in
    subst (λ (ys : Syns). Answers freely u w (declaration c.args.pos (readings ys)) ItemsThere IsItems
    c.declare_list.result) (sym m.is)
    (subst (λ (d : Doing meant.Items). Answers freely u w d ItemsThere IsItems c.declare_list.result)
    (sym (declaration_is c.args.pos m.head m.tail)) (c.declare_list.ensures m.head m.tail m.first m.others))
