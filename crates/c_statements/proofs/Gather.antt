-- Lists of declarations and statements, one after the other.
use Rattle.std.proofs.Common.{◌≡◌, ℕ, List, [], ◌∷◌, ◌++◌, map, Result, Ok, Err, refl, sym, ap, subst, ◌∙◌}
use Rattle.std.proofs.Common.{append_assoc}
use Rattle.std.proofs.lemmas.List.{map-append, append-nil}
use Rattle.ck_base.specs.declared.refusal.Refusal.{Refusal}
use Rattle.c_tree.specs.Syntax.{Syn, Syns}
use Rattle.c_tree.specs.Readings as meant
use Rattle.c_tree.specs.Readings.{Reading}
use Rattle.c_tree.specs.Scopes.{State, Doing, Fault, give, continued, ◌>>=◌}
use Rattle.c_tree.specs.Declarations.{no_items, both, declare_all}
use Rattle.c_tree.specs.Statements.{all_items}
use Rattle.c_tree.specs.Programs.{reading, readings}
use Rattle.c_expressions.specs.Nodes.{IsWhole}
use Rattle.c_elaborator.specs.declared.work.Work.{Work}
use Rattle.c_elaborator.specs.Answers.{Done, Answers, freely, action_in}
use Rattle.c_elaborator.specs.Parts.{IsPart, AreParts}
use Rattle.c_elaborator.proofs.Sequencing.{free_law, then, failed, gave, answers_at}
use Rattle.c_elaborator.specs.declared.items.Items.{Items}
use Rattle.c_elaborator.specs.Items.{ActionsThere, ItemsThere, IsItems, items_in}
use Rattle.c_statements.specs.Gather.{gather, SoFar}
use Rattle.c_readings.proofs.Kids.{cut, no_parts, parts_kept}
use Rattle.c_elaborator.proofs.Going.{then_from, items_kept, actions_there}
use Rattle.c_statements.proofs.Stating.{readings_more, readings_nil}

pub all_items_is : (c : meant.Context) (rs : List Reading) → all_items c rs ≡ gather (λ r. r.item c) rs
all_items_is c [] = refl
all_items_is c (r ∷ rs) =
    ap (λ (d : Doing meant.Items). r.item c >>= λ a. d >>= λ b. give (both a b)) (all_items_is c rs)

pub declare_all_is : (y : meant.Specified) (rs : List Reading) → declare_all y rs ≡ gather (λ r. r.declared y) rs
declare_all_is y [] = refl
declare_all_is y (r ∷ rs) =
    ap (λ (d : Doing meant.Items). r.declared y >>= λ a. d >>= λ b. give (both a b)) (declare_all_is y rs)

pub gathered : (u w : Work) (c : meant.Context) (rs : List Reading) (r : Result Items Refusal) →
    Answers freely u w (gather (λ q. q.item c) rs) ItemsThere IsItems r →
    Answers freely u w (all_items c rs) ItemsThere IsItems r
gathered u w c rs r h = subst (λ (d : Doing meant.Items). Answers freely u w d ItemsThere IsItems r)
    (sym (all_items_is c rs)) h

both_nothing : (a : meant.Items) → both a no_items ≡ a
both_nothing a =
    ap (λ vs. (let x : meant.Items = record { vars = vs; actions = a.actions ++ [] } in x)) (append-nil a.vars)
    ∙ ap (λ fs. (let x : meant.Items = record { vars = a.vars; actions = fs } in x)) (append-nil a.actions)

both_both : (a b c : meant.Items) → both a (both b c) ≡ both (both a b) c
both_both a b c =
    ap (λ vs. (let x : meant.Items = record { vars = vs; actions = a.actions ++ (b.actions ++ c.actions) } in x))
    (sym (append_assoc a.vars b.vars c.vars))
    ∙ ap (λ fs. (let x : meant.Items = record { vars = (a.vars ++ b.vars) ++ c.vars; actions = fs } in x))
    (sym (append_assoc a.actions b.actions c.actions))

abbrev joined : (Reading → Doing meant.Items) → List Reading → meant.Items → Doing meant.Items
joined step rs a = gather step rs >>= λ b. give (both a b)

begins : (step : Reading → Doing meant.Items) (rs : List Reading) (s : State) →
    gather step rs s ≡ joined step rs no_items s
begins step rs s = at (gather step rs s)
  where
    at : (o : Result (meant.Items × State) Fault) → o ≡ continued o (λ b. give (both no_items b))
    at (Ok x) = refl
    at (Err e) = refl

ends : (step : Reading → Doing meant.Items) (d : Doing meant.Items) (s : State) → (d >>= joined step []) s ≡ d s
ends step d s = at (d s)
  where
    at : (o : Result (meant.Items × State) Fault) → continued o (joined step []) ≡ o
    at (Ok x) = ap (λ (a : meant.Items). Ok (a, x.1)) (both_nothing x.0)
    at (Err e) = refl

turns : (step : Reading → Doing meant.Items) (d : Doing meant.Items) (q : Reading) (rs : List Reading) (s : State) →
    (d >>= joined step (q ∷ rs)) s ≡ ((d >>= λ a. step q >>= λ y. give (both a y)) >>= joined step rs) s
turns step d q rs s = first (d s)
  where
    third : (a y : meant.Items) (o : Result (meant.Items × State) Fault) →
        continued (continued o (λ b. give (both y b))) (λ b. give (both a b))
        ≡ continued o (λ b. give (both (both a y) b))
    third a y (Ok x) = ap (λ (b : meant.Items). Ok (b, x.1)) (both_both a y x.0)
    third a y (Err e) = refl

    second : (a : meant.Items) (o : Result (meant.Items × State) Fault) →
        continued (continued o (λ y. gather step rs >>= λ b. give (both y b))) (λ b. give (both a b))
        ≡ continued (continued o (λ y. give (both a y))) (joined step rs)
    second a (Ok x) = third a x.0 (gather step rs x.1)
    second a (Err e) = refl

    first : (o : Result (meant.Items × State) Fault) →
        continued o (joined step (q ∷ rs)) ≡ continued (continued o (λ a. step q >>= λ y. give (both a y)))
        (joined step rs)
    first (Ok x) = second x.0 (step q x.1)
    first (Err e) = refl

stops : (step : Reading → Doing meant.Items) (q : Reading) (rs : List Reading) (a : meant.Items) (s : State) →
    joined step (q ∷ rs) a s ≡ (step q >>= λ y. (gather step rs >>= λ b. give (both y b)) >>= λ b. give (both a b)) s
stops step q rs a s = at (step q s)
  where
    at : (o : Result (meant.Items × State) Fault) →
        continued (continued o (λ y. gather step rs >>= λ b. give (both y b))) (λ b. give (both a b))
        ≡ continued o (λ y. (gather step rs >>= λ b. give (both y b)) >>= λ b. give (both a b))
    at (Ok x) = refl
    at (Err e) = refl

-- ---- what was found so far

pub so_far_begins : (step : Reading → Doing meant.Items) (u : Work) (ks : List ℕ) (found : Items) → IsWhole u.nodes →
    found.vars.items ≡ [] → found.actions.items ≡ [] → (xs : Syns) → AreParts u ks xs → SoFar step u u xs ks found
so_far_begins step u ks found w e f xs p =
    let nothing : items_in u found ≡ no_items =
    ap (λ vs. (let x : meant.Items = record { vars = vs; actions = map (action_in u) found.actions.items } in x)) e
    ∙ ap (λ fs. (let x : meant.Items = record { vars = []; actions = map (action_in u) fs } in x)) f in
    record {
      rest = xs;
      parts = p;
      before = give (items_in u found);
      done = gave freely free_law u (items_in u found) (ItemsThere u found) w
          (subst (λ (z : List ℕ). ActionsThere u z) (sym f) tt);
      is = λ s. begins step (readings xs) s ∙ ap (λ (a : meant.Items). joined step (readings xs) a s) (sym nothing);
    }

pub so_far_ends : (step : Reading → Doing meant.Items) (u v : Work) (xs : Syns) (found : Items) →
    SoFar step u v xs [] found → Answers freely u v (gather step (readings xs)) ItemsThere IsItems (Ok found)
so_far_ends step u v xs found r =
    answers_at freely u v (gather step (readings xs)) r.before ItemsThere IsItems (Ok found)
    (λ s k. r.is s ∙ ap (λ (rs : List Reading). (r.before >>= joined step rs) s)
    (ap readings (no_parts v r.rest r.parts) ∙ readings_nil) ∙ ends step r.before s) r.done

pub so_far_fails : (step : Reading → Doing meant.Items) (u v w : Work) (xs : Syns) (k : ℕ) (ks : List ℕ) (found : Items)
    (e : Refusal) → SoFar step u v xs (k ∷ ks) found →
    ((y : Syn) → IsPart v k y → Answers freely v w (step (reading y)) ItemsThere IsItems (Err e)) →
    Answers freely u w (gather step (readings xs)) ItemsThere IsItems (Err e)
so_far_fails step u v w xs k ks found e r h =
    let c = cut v k ks r.rest r.parts in
    let a = items_in v found in
    let q = reading c.head in
    answers_at freely u w (gather step (readings xs)) (r.before >>= joined step (readings r.rest)) ItemsThere IsItems
    (Err e) (λ s t. r.is s)
    (then freely free_law u v w r.before (joined step (readings r.rest)) a (ItemsThere v found) ItemsThere IsItems
    (Err e) r.done
    (answers_at freely v w (joined step (readings r.rest) a)
    (step q >>= λ y. (gather step (readings c.tail) >>= λ b. give (both y b)) >>= λ b. give (both a b)) ItemsThere
    IsItems (Err e)
    (λ s t. ap (λ (rs : List Reading). joined step rs a s) (ap readings c.is ∙ readings_more c.head c.tail)
    ∙ stops step q (readings c.tail) a s)
    (failed freely v w w (step q) (λ y. (gather step (readings c.tail) >>= λ b. give (both y b))
    >>= λ b. give (both a b)) ItemsThere IsItems ItemsThere IsItems e (h c.head c.first))))

pub items_joined : (w : Work) (found more longer : Items) → longer.vars.items ≡ found.vars.items ++ more.vars.items →
    longer.actions.items ≡ found.actions.items ++ more.actions.items →
    both (items_in w found) (items_in w more) ≡ items_in w longer
items_joined w found more longer e f =
    ap (λ vs. (let x : meant.Items = record {
      vars = vs;
      actions = map (action_in w) found.actions.items ++ map (action_in w) more.actions.items;
    } in x)) (sym e)
    ∙ ap (λ fs. (let x : meant.Items = record { vars = longer.vars.items; actions = fs } in x))
    (sym (map-append (action_in w) found.actions.items more.actions.items) ∙ ap (map (action_in w)) (sym f))

pub there_both : (w : Work) (xs ys : List ℕ) → ActionsThere w xs → ActionsThere w ys → ActionsThere w (xs ++ ys)
there_both w [] ys a b = b
there_both w (x ∷ xs) ys a b = (a.0, there_both w xs ys a.1 b)

pub so_far_steps : (step : Reading → Doing meant.Items) (u v w : Work) (xs : Syns) (k : ℕ) (ks : List ℕ)
    (found more longer : Items) → SoFar step u v xs (k ∷ ks) found →
    ((y : Syn) → IsPart v k y → Done freely v w (step (reading y)) (ItemsThere w more) (IsItems w more)) →
    longer.vars.items ≡ found.vars.items ++ more.vars.items →
    longer.actions.items ≡ found.actions.items ++ more.actions.items → SoFar step u w xs ks longer
so_far_steps step u v w xs k ks found more longer r h e f =
    let c = cut v k ks r.rest r.parts in
    let q = reading c.head in
    let a = h c.head c.first in
    let there : ItemsThere w longer =
    subst (λ (z : List ℕ). ActionsThere w z) (sym f)
    (there_both w found.actions.items more.actions.items
    (actions_there v w found.actions.items a.grows r.done.there) a.there) in
    record {
      rest = c.tail;
      parts = parts_kept v w ks c.tail a.grows c.others;
      before = r.before >>= λ b. step q >>= λ y. give (both b y);
      done = then freely free_law u v w r.before (λ b. step q >>= λ y. give (both b y)) (items_in v found)
          (ItemsThere v found) ItemsThere IsItems (Ok longer) r.done
          (then_from freely free_law v w w (step q) (λ y. give (both (items_in v found) y)) (give (items_in w longer))
          (ItemsThere w more) (IsItems w more) ItemsThere IsItems (Ok longer) a
          (λ o s y m t g.
          ap (λ (z : meant.Items). give (both (items_in v found) z) s) g
          ∙ ap (λ (z : meant.Items). give (both z (items_in w more)) s)
          (sym (items_kept v w found a.grows m.closed.values r.done.there))
          ∙ ap (λ (z : meant.Items). give z s) (items_joined w found more longer e f))
          (gave freely free_law w (items_in w longer) (ItemsThere w longer) a.whole there));
      is = λ s. r.is s ∙ ap (λ (rs : List Reading). (r.before >>= joined step rs) s)
          (ap readings c.is ∙ readings_more c.head c.tail) ∙ turns step r.before q (readings c.tail) s;
    }
