-- A struct or union is named by its tag alone.
use Rattle.std.proofs.Common.{◌≡◌, ℕ, ◌<◌, true, sym, ap, ◌∙◌}
use Rattle.c_tree.specs.declared.syntax.RecordKind.{RecordKind}
use Rattle.c_tree.specs.Types.{Tagged}
use Rattle.c_tree.specs.Scopes.{State, Doing, give, continued, ◌>>=◌}
use Rattle.c_tree.specs.Declarators.{kind_at}
use Rattle.c_types.specs.Naming.{IsTagOf}
use Rattle.c_expressions.specs.Nodes.{type_in, type_count}
use Rattle.c_elaborator.specs.declared.work.Work.{Work}
use Rattle.c_elaborator.specs.Work.{Shows}
use Rattle.c_elaborator.specs.Answers.{quietly, Done, TypeThere, IsType}

-- a number names the type of a struct or union, whatever its kind
abbrev pub NamesTag : Work → ℕ → ℕ → Type 0
NamesTag w n r = (s : State) (k : RecordKind) → Shows w s → kind_at s n k ≡ true → type_in w.nodes r ≡ Tagged n

-- a step that gives a struct or union, and then its type
pub tagged_done : (u v : Work) (k : RecordKind) (d : Doing ℕ) (n r : ℕ) (T : Type 0) →
    Done quietly u v d T (IsTagOf k n) → r < type_count v.nodes → NamesTag v n r →
    Done quietly u v (d >>= λ m. give (Tagged m)) (TypeThere v r) (IsType v r)
tagged_done u v k d n r T a l names = record {
  whole = a.whole;
  grows = a.grows;
  there = l;
  gives = λ s h. let m = a.gives s h in
      record {
        value = Tagged m.value;
        state = m.state;
        is = ap (λ o. continued o (λ j. give (Tagged j))) m.is;
        stays = m.stays;
        shows = m.shows;
        fits = ap Tagged m.fits.0 ∙ sym (names m.state k m.shows m.fits.1);
      };
}
