-- The beginning of a file.
use Rattle.std.proofs.Common.{◌≡◌, ℕ, List, [], Some, map, refl, ap, ◌∙◌}
use Rattle.std.specs.Prelude.{slice_get}
use Rattle.c_tree.specs.declared.typed.Typed.{Typed}
use Rattle.c_tree.specs.Programs.{beginning}
use Rattle.c_tree.specs.Views.{text_of}
use Rattle.c_interner.specs.Numbers.{AddsTypes}
use Rattle.c_types.specs.Stands.{Stands}
use Rattle.c_elaborator.specs.declared.work.Work.{Work}
use Rattle.c_elaborator.specs.Work.{Shows, pending_of}

nothing_at : {A B : Type 0} (xs : List A) (k : ℕ) (x : A) → xs ≡ [] → slice_get xs k ≡ Some x → B
nothing_at {A} {B} xs k x e g = let h = rw e at g in absurd (none h)
  where
    none : slice_get [] k ≡ Some x → ⊥
    none h = cc

pub shows_beginning : (w : Work) (p q : Typed) → w.nodes.scopes.file.now ≡ w.file.now → p.literals ≡ [] → p.stmts ≡ [] →
    AddsTypes p q → AddsTypes q w.nodes.p → Stands w.nodes.scopes w.nodes.p beginning →
    w.uses.items ≡ [] → w.addressed.items ≡ [] → w.fillings.items ≡ [] → w.definitions.items ≡ [] →
    w.waiting.items ≡ [] → Shows w beginning
shows_beginning w p q d a b f g h u v x y z =
    let ls : w.nodes.p.literals ≡ [] =
    ap (λ (r : Typed). r.literals) g.rest ∙ ap (λ (r : Typed). r.literals) f.rest ∙ a in
    let ss : w.nodes.p.stmts ≡ [] = ap (λ (r : Typed). r.stmts) g.rest ∙ ap (λ (r : Typed). r.stmts) f.rest ∙ b in
    record {
      stands = h;
      texts = ap (map text_of) ls;
      used_objects = λ k i e. nothing_at [] k i refl e;
      used_functions = λ k i e. nothing_at [] k i refl e;
      addressed = λ k i e. nothing_at [] k i refl e;
      fillings = λ k i e. nothing_at [] k i refl e;
      definitions = λ k i e. nothing_at [] k i refl e;
      waiting = ap (map pending_of) z;
      closed = record {
        file = d;
        members = λ n t ms i j k m e. nothing_at [] n t refl i;
        values = λ k i e. nothing_at w.nodes.p.stmts k i ss e;
        uses = λ k i e. nothing_at w.uses.items k i u e;
        addressed = λ k i e. nothing_at w.addressed.items k i v e;
        fillings = λ k i e. nothing_at w.fillings.items k i x e;
        definitions = λ k i e. nothing_at w.definitions.items k i y e;
      };
    }
