-- What a node of the tree shows.
use Rattle.std.proofs.Common.{◌≡◌, ℕ, ◌-◌, ◌<◌, ◌≤◌, ⊎_elim, List, length, take, drop, Some, None, refl, sym, ap, subst}
use Rattle.std.proofs.Common.{◌∙◌}
use Rattle.std.proofs.Common.{arith, length-drop}
use Rattle.std.specs.Prelude.{min, slice_get}
use Rattle.std.proofs.lemmas.List.{take_min}
use Rattle.std.proofs.lemmas.Bool.{cases_lt}
use Rattle.std.proofs.lemmas.Option.{slice_get_past}
use Rattle.std.specs.Borrow.{Bor}
use Rattle.ck_base.specs.declared.positions.Span.{Span}
use Rattle.c_tree.specs.declared.syntax.Node.{Node}
use Rattle.c_tree.specs.Syntax.{Syn, node, StandsAt, stands}
use Rattle.c_tree.specs.Typing.{IsSpelled}
use Rattle.c_types.specs.Stands.{text_at}
use Rattle.c_elaborator.specs.declared.work.Part.{Part}
use Rattle.c_elaborator.specs.declared.work.Work.{Work}
use Rattle.c_elaborator.specs.Parts.{IsPart, IsWritten}
use Rattle.c_elaborator.specs.Nodes.{IsNode}

pub text_spelled : (file : List ℕ) (s : Span) → take (s.end - s.start) (drop s.start file) ≡ text_at file s
text_spelled file s =
    let e = min s.end (length file) in
    let cut : take (s.end - s.start) (drop s.start file)
    ≡ take (min (s.end - s.start) (length file - s.start)) (drop s.start file) =
    sym (subst (λ (n : ℕ). take (min (s.end - s.start) n) (drop s.start file)
    ≡ take (s.end - s.start) (drop s.start file)) (length-drop s.start file)
    (take_min (s.end - s.start) (drop s.start file))) in
    ⊎_elim
    (λ (a : e < s.start).
    let none : min (s.end - s.start) (length file - s.start) ≡ 0 = omega arith in
    let same : e - min s.start e ≡ 0 = omega arith in
    cut ∙ ap (λ n. take n (drop s.start file)) none ∙ sym (ap (λ n. take n (drop (min s.start e) file)) same))
    (λ (b : s.start ≤ e).
    let many : min (s.end - s.start) (length file - s.start) ≡ e - s.start = omega arith in
    let at : s.start ≡ min s.start e = omega arith in
    cut ∙ ap (λ n. take n (drop s.start file)) many ∙ ap (λ n. take (e - n) (drop n file)) at)
    (cases_lt e s.start)

-- what a node shows of its number
abbrev IsRead : Work → Node → Syn → Type 0
IsRead w n x = (ks : Bor (List ℕ)) → ks.now ≡ n.kids →
    IsNode w (let p : Part = record {
      kind = n.kind;
      name = record { span = n.text; pos = n.pos };
      first = n.first;
      kids = ks;
    } in p) x

node_read : (w : Work) (k : ℕ) (n : Node) (x : Syn) → slice_get w.tree.now.nodes k ≡ Some n →
    StandsAt w.tree.now.nodes k x → IsSpelled w.file.now x → IsWritten x → IsRead w n x
unfolding IsSpelled IsWritten
node_read w k n _ e (stands {n = m} {t = t} {xs = xs} f p s i kids) sp wr =
    let same : m ≡ n = cc in
    subst (λ (a : Node). IsRead w a (node m.kind t xs)) same
    (λ ks q. record {
      kind = refl;
      pos = sym p;
      span = sym s;
      text = sp.0 ∙ text_spelled w.file.now t.span ∙ ap (text_at w.file.now) (sym s);
      fits = wr.0;
      kinds = wr.1;
      first = sym i;
      parts = record { stand = rw q kids; spelled = sp.1; written = wr.2 };
    })

-- the node of a part is there
pub part_there : (nodes : List Node) (k : ℕ) (x : Syn) → length nodes ≤ k → StandsAt nodes k x → ⊥
part_there nodes k _ le (stands {n = m} f p s i kids) =
    let e : slice_get nodes k ≡ None = slice_get_past nodes k le in absurd cc

pub part_read : (w : Work) (k : ℕ) (n : Node) (ks : Bor (List ℕ)) (x : Syn) → slice_get w.tree.now.nodes k ≡ Some n →
    ks.now ≡ n.kids → IsPart w k x →
    IsNode w (let p : Part = record {
      kind = n.kind;
      name = record { span = n.text; pos = n.pos };
      first = n.first;
      kids = ks;
    } in p) x
part_read w k n ks x e q h = node_read w k n x e h.stands h.spelled h.written ks q
