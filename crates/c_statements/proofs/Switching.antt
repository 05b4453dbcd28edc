-- What stands in the braces of a switch, one after the other.
use Rattle.std.proofs.Common.{◌≡◌, ℕ, List, [], ◌∷◌, ◌++◌, length, map, Option, Result, Ok, Err, refl, sym, ap, subst}
use Rattle.std.proofs.Common.{◌∙◌}
use Rattle.std.specs.Prelude.{not}
use Rattle.std.proofs.lemmas.List.{map-append, length-map}
use Rattle.ck_base.specs.declared.positions.Pos.{Pos}
use Rattle.ck_base.specs.declared.refusal.Refusal.{Refusal}
use Rattle.ck_base.specs.declared.refusal.Refusal.TheVariants.{Code, NoMemory}
use Rattle.c_tree.specs.Terms.{Label}
use Rattle.c_tree.specs.Declarations.{both}
use Rattle.c_tree.specs.declared.typed.SwitchLabel.{SwitchLabel}
use Rattle.c_tree.specs.Syntax.{Syn, Syns, nil, more}
use Rattle.c_tree.specs.Types.{Ty}
use Rattle.c_tree.specs.Readings as meant
use Rattle.c_tree.specs.Readings.{Reading}
use Rattle.c_tree.specs.Scopes.{State, Doing, Fault, give, refuse, continued, ◌>>=◌}
use Rattle.c_tree.specs.Statements as statements
use Rattle.c_tree.specs.Statements.{switch_item, switch_items, no_cases, add_label, has_label}
use Rattle.c_tree.specs.Views.{label_of}
use Rattle.c_tree.specs.Programs.{reading, readings}
use Rattle.c_expressions.specs.Nodes.{IsWhole}
use Rattle.c_elaborator.specs.declared.work.Work.{Work}
use Rattle.c_elaborator.specs.Answers.{Done, Answers, quietly, freely, action_in}
use Rattle.c_elaborator.specs.Parts.{IsPart, AreParts}
use Rattle.c_elaborator.proofs.Sequencing.{free_law, freed, then, failed, gave, answers_at, need_true, need_false}
use Rattle.c_plain_rules.specs.Cases.{Cases}
use Rattle.c_elaborator.specs.declared.items.Items.{Items}
use Rattle.c_elaborator.specs.Items.{ActionsThere, ItemsThere, IsItems, items_in}
use Rattle.c_plain_rules.specs.Control.{AddsLabel, labels_in}
use Rattle.c_statements.specs.Statements.{LabelThere, IsLabel, CasesThere, IsCases, cases_in}
use Rattle.c_statements.proofs.Gather.{items_joined, there_both}
use Rattle.c_elaborator.proofs.Going.{then_from, items_kept, actions_there}
use Rattle.c_statements.specs.Switching.{CasesSoFar}
use Rattle.c_readings.proofs.Kids.{cut, no_parts, parts_kept}
use Rattle.c_statements.proofs.Stating.{readings_more}

abbrev rest_of : meant.Context → Ty → Syns → statements.Cases → Doing statements.Cases
rest_of c of xs a = switch_items c of xs (readings xs) a

nothing_left : (c : meant.Context) (of : Ty) (d : Doing statements.Cases) (s : State) → (d >>= rest_of c of nil) s ≡ d s
nothing_left c of d s = at (d s)
  where
    at : (o : Result (statements.Cases × State) Fault) → continued o (rest_of c of nil) ≡ o
    at (Ok x) = refl
    at (Err e) = refl

one_more : (c : meant.Context) (of : Ty) (x : Syn) (xs : Syns) (a : statements.Cases) →
    rest_of c of (more x xs) a ≡ (switch_item c of x (reading x) a >>= rest_of c of xs)
one_more c of x xs a = ap (λ (rs : List Reading). switch_items c of (more x xs) rs a) (readings_more x xs)

pub cases_begin : (c : meant.Context) (of : Ty) (u : Work) (ks : List ℕ) (found : Cases) → IsWhole u.nodes →
    found.items.vars.items ≡ [] → found.items.actions.items ≡ [] → labels_in found ≡ [] → (xs : Syns) →
    AreParts u ks xs → CasesSoFar c of u u xs ks found
cases_begin c of u ks found w e f g xs p =
    let nothing : cases_in u found ≡ no_cases =
    ap (λ vs. (let x : statements.Cases = record {
      items = record { vars = vs; actions = map (action_in u) found.items.actions.items };
      labels = map label_of (labels_in found);
    } in x)) e
    ∙ ap (λ fs. (let x : statements.Cases = record {
      items = record { vars = []; actions = map (action_in u) fs };
      labels = map label_of (labels_in found);
    } in x)) f
    ∙ ap (λ ls. (let x : statements.Cases = record {
      items = record { vars = []; actions = [] };
      labels = map label_of ls;
    } in x)) g in
    record {
      rest = xs;
      parts = p;
      before = give (cases_in u found);
      done = gave freely free_law u (cases_in u found) (CasesThere u found) w
          (subst (λ (z : List ℕ). ActionsThere u z) (sym f) tt);
      is = λ s. ap (λ (a : statements.Cases). rest_of c of xs a s) (sym nothing);
    }

pub cases_end : (c : meant.Context) (of : Ty) (u v : Work) (xs : Syns) (found : Cases) →
    CasesSoFar c of u v xs [] found →
    Answers freely u v (switch_items c of xs (readings xs) no_cases) CasesThere IsCases (Ok found)
cases_end c of u v xs found r =
    answers_at freely u v (switch_items c of xs (readings xs) no_cases) r.before CasesThere IsCases (Ok found)
    (λ s k. r.is s ∙ ap (λ (ys : Syns). (r.before >>= rest_of c of ys) s) (no_parts v r.rest r.parts)
    ∙ nothing_left c of r.before s) r.done

pub cases_fail : (c : meant.Context) (of : Ty) (u v w : Work) (xs : Syns) (k : ℕ) (ks : List ℕ) (found : Cases)
    (e : Refusal) → CasesSoFar c of u v xs (k ∷ ks) found →
    ((y : Syn) → IsPart v k y →
    Answers freely v w (switch_item c of y (reading y) (cases_in v found)) CasesThere IsCases (Err e)) →
    Answers freely u w (switch_items c of xs (readings xs) no_cases) CasesThere IsCases (Err e)
cases_fail c of u v w xs k ks found e r h =
    let m = cut v k ks r.rest r.parts in
    let a = cases_in v found in
    answers_at freely u w (switch_items c of xs (readings xs) no_cases)
    (r.before >>= rest_of c of r.rest) CasesThere IsCases (Err e) (λ s t. r.is s)
    (then freely free_law u v w r.before (rest_of c of r.rest) a (CasesThere v found) CasesThere IsCases (Err e) r.done
    (answers_at freely v w (rest_of c of r.rest a)
    (switch_item c of m.head (reading m.head) a >>= rest_of c of m.tail) CasesThere IsCases (Err e)
    (λ s t. ap (λ (ys : Syns). rest_of c of ys a s) m.is
    ∙ ap (λ (d : Doing statements.Cases). d s) (one_more c of m.head m.tail a))
    (failed freely v w w (switch_item c of m.head (reading m.head) a)
    (rest_of c of m.tail) CasesThere IsCases CasesThere IsCases e (h m.head m.first))))

pub cases_step : (c : meant.Context) (of : Ty) (u v w : Work) (xs : Syns) (k : ℕ) (ks : List ℕ) (found longer : Cases) →
    CasesSoFar c of u v xs (k ∷ ks) found →
    ((y : Syn) → IsPart v k y →
    Done freely v w (switch_item c of y (reading y) (cases_in v found)) (CasesThere w longer)
    (IsCases w longer)) → CasesSoFar c of u w xs ks longer
cases_step c of u v w xs k ks found longer r h =
    let m = cut v k ks r.rest r.parts in
    let a = h m.head m.first in
    record {
      rest = m.tail;
      parts = parts_kept v w ks m.tail a.grows m.others;
      before = r.before >>= λ b. switch_item c of m.head (reading m.head) b;
      done = then freely free_law u v w r.before (λ b. switch_item c of m.head (reading m.head) b) (cases_in v found)
          (CasesThere v found) CasesThere IsCases (Ok longer) r.done a;
      is = λ s. r.is s ∙ ap (λ (ys : Syns). (r.before >>= rest_of c of ys) s) m.is ∙ turned r.before m.head m.tail s;
    }
  where
    turned : (d : Doing statements.Cases) (x : Syn) (ys : Syns) (s : State) →
        (d >>= rest_of c of (more x ys)) s ≡ ((d >>= λ b. switch_item c of x (reading x) b) >>= rest_of c of ys) s
    turned d x ys s = at (d s)
      where
        at : (o : Result (statements.Cases × State) Fault) →
            continued o (rest_of c of (more x ys))
            ≡ continued (continued o (λ b. switch_item c of x (reading x) b)) (rest_of c of ys)
        at (Ok z) = ap (λ (e : Doing statements.Cases). e z.1) (one_more c of x ys z.0)
        at (Err e) = refl

-- ---- one of what stands there

-- a label, which is added or refused
pub labelled : (u v : Work) (d : Doing (Option ℕ)) (l : Option ℕ) (p : Pos) (cases : Cases) (r : Result Cases Refusal) →
    Done quietly u v d (LabelThere v l) (IsLabel v l) → CasesThere u cases → AddsLabel cases l p r →
    Answers freely u v (d >>= λ a. add_label a p (cases_in u cases)) CasesThere IsCases r
labelled u v d l p cases (Ok new) a t h =
    let ls = map label_of (labels_in cases) in
    let x : SwitchLabel = record { value = l; before = length cases.items.actions.items } in
    let there : CasesThere v new =
    subst (λ (i : Items). ItemsThere v i) (sym h.1)
    (actions_there u v cases.items.actions.items a.grows.keeps t) in
    then_from freely free_law u v v d (λ y. add_label y p (cases_in u cases)) (give (cases_in v new)) (LabelThere v l)
    (IsLabel v l) CasesThere IsCases (Ok new) (freed u v d LabelThere IsLabel (Ok l) a)
    (λ o s b m n e.
    ap (λ (y : Option ℕ). add_label y p (cases_in u cases) s) e
    ∙ need_true (not (has_label l ls)) 131 p (give
    (record {
      items = items_in u cases.items;
      labels = ls ++ record { value = l; before = length (map (action_in u) cases.items.actions.items) }
          ∷ [];
    })) s (ap not h.0)
    ∙ ap (λ (n : ℕ).
    give (let z : statements.Cases = record {
      items = items_in u cases.items;
      labels = ls ++ record { value = l; before = n } ∷ [];
    } in z) s) (length-map cases.items.actions.items (action_in u))
    ∙ ap (λ (ms : List Label). give (let z : statements.Cases = record { items = items_in u cases.items; labels = ms }
    in z) s) (sym (map-append label_of (labels_in cases) (x ∷ [])) ∙ ap (map label_of) (sym h.2))
    ∙ ap (λ (i : meant.Items).
    give (let z : statements.Cases = record { items = i; labels = map label_of (labels_in new) } in z) s)
    (sym (items_kept u v cases.items a.grows.keeps m.closed.values t) ∙ ap (items_in v) (sym h.1)))
    (gave freely free_law v (cases_in v new) (CasesThere v new) a.whole there)
labelled u v d l p cases (Err (Code code place)) a t h =
    let ls = map label_of (labels_in cases) in
    then_from freely free_law u v v d (λ y. add_label y p (cases_in u cases)) (refuse code place) (LabelThere v l)
    (IsLabel v l) CasesThere IsCases (Err (Code code place)) (freed u v d LabelThere IsLabel (Ok l) a)
    (λ o s b m n e.
    ap (λ (y : Option ℕ). add_label y p (cases_in u cases) s) e
    ∙ need_false (not (has_label l ls)) 131 p
    (give (record {
      items = items_in u cases.items;
      labels = ls ++ record { value = l; before = length (map (action_in u) cases.items.actions.items) }
          ∷ [];
    })) s (ap not h.0)
    ∙ ap (λ (n : ℕ). refuse n p s) (sym h.1) ∙ ap (λ (q : Pos). refuse code q s) (sym h.2))
    (λ s n. refl)
labelled u v d l p cases (Err NoMemory) a t h = tt

-- a declaration or a statement
pub more_items : (u v : Work) (d : Doing meant.Items) (given : Items) (cases longer : Cases) →
    Done freely u v d (ItemsThere v given) (IsItems v given) → CasesThere u cases →
    longer.items.vars.items ≡ cases.items.vars.items ++ given.vars.items →
    longer.items.actions.items ≡ cases.items.actions.items ++ given.actions.items →
    labels_in longer ≡ labels_in cases →
    Done freely u v
    (d >>= λ i. give
    (let z : statements.Cases = record {
      items = both (items_in u cases.items) i;
      labels = map label_of (labels_in cases);
    } in z)) (CasesThere v longer) (IsCases v longer)
more_items u v d given cases longer a t e f g =
    let ls = map label_of (labels_in cases) in
    let there : CasesThere v longer =
    subst (λ (z : List ℕ). ActionsThere v z) (sym f)
    (there_both v cases.items.actions.items given.actions.items
    (actions_there u v cases.items.actions.items a.grows t) a.there) in
    then_from freely free_law u v v d (λ i. give
    (let z : statements.Cases = record { items = both (items_in u cases.items) i; labels = ls } in z))
    (give (cases_in v longer)) (ItemsThere v given) (IsItems v given) CasesThere IsCases (Ok longer) a
    (λ o s i m n q.
    ap (λ (y : meant.Items).
    give (let z : statements.Cases = record { items = both (items_in u cases.items) y; labels = ls } in z) s) q
    ∙ ap (λ (y : meant.Items).
    give (let z : statements.Cases = record { items = both y (items_in v given); labels = ls } in z) s)
    (sym (items_kept u v cases.items a.grows m.closed.values t))
    ∙ ap (λ (y : meant.Items). give (let z : statements.Cases = record { items = y; labels = ls } in z) s)
    (items_joined v cases.items given longer.items e f)
    ∙ ap (λ (ms : List SwitchLabel).
    give (let z : statements.Cases = record { items = items_in v longer.items; labels = map label_of ms } in z) s)
    (sym g))
    (gave freely free_law v (cases_in v longer) (CasesThere v longer) a.whole there)
