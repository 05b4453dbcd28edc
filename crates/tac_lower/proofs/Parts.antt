-- What typing gives of each statement of a function.
use Rattle.std.proofs.Common.{◌≡◌, ℕ, zero, suc, ◌+◌, true, List, [], ◌∷◌, ◌++◌, map, length, get_or, Option, Some}
use Rattle.std.proofs.Common.{None, refl, ap, ◌∙◌, subst, arith}
use Rattle.std.specs.Prelude.{slice_get, sum_by}
use Rattle.std.proofs.lemmas.List.{length-map}
use Rattle.std.proofs.lemmas.List.Sums.{sum_by-append, sum_by-cons}
use Rattle.ck_base.specs.declared.positions.Pos.{Pos}
use Rattle.c_tree.specs.declared.typed.Stmt.{Stmt}
use Rattle.c_tree.specs.declared.typed.StmtKind.{StmtKind}
use Rattle.c_tree.specs.declared.typed.StmtKind.TheVariants as stmts
use Rattle.c_tree.specs.declared.typed.SwitchLabel.{SwitchLabel}
use Rattle.c_tree.specs.declared.typed.Typed.{Typed}
use Rattle.c_tree.specs.Terms as tree
use Rattle.c_tree.specs.Terms.{Term, Terms, terms, with_term, no_terms, type_of, Action, Actions, Form, action, actions}
use Rattle.c_tree.specs.TreeWeight.{terms_weight, action_weight, actions_weight}
use Rattle.c_tree.specs.Views.{kind_action, stmt_from, no_action, terms_of, term_at, parts, listed, is_some, label_of}
use Rattle.c_tree.specs.Counts.{value_copies, init_copies}
use Rattle.c_tree.specs.Views.{values, same_number, IsOrdered}
use Rattle.c_tree.specs.WellTyped.{Frame, Inside, TermFits, TermsFit, FormFits, ActionFits, ActionsFit, TestsFit}
use Rattle.c_tree.specs.WellTyped.{inside_of, in_loop, in_switch, count_of, declared, all_declared}
use Rattle.c_tree.specs.Types as ty
use Rattle.c_tree.proofs.Forest.{forest_reads}
use Rattle.tac_lower.proofs.Copying.{part_by}
use Rattle.tac_lower.specs.Copied.{copied_in, copies_in, part_copies}
use Rattle.tac_lower.specs.Nodes.{expression, weight_in, IsTyped}
use Rattle.tac_lower.specs.Parts.{statement, heft_in, hefts_in, declared_by, all_declared_by}
use Rattle.tac_lower.specs.Parts.{or_none, IsPlaced, TestFits, EvaluatePart, InitPart, BlockPart, IfPart, LoopPart}
use Rattle.tac_lower.specs.Parts.{ForPart, SwitchPart, ReturnPart, PartFits}

-- ---- one statement is made of its parts

all_same : (f g : ℕ → Action) (xs : List ℕ) → ((j a : ℕ) → slice_get xs j ≡ Some a → f a ≡ g a) → map f xs ≡ map g xs
all_same f g [] h = refl
all_same f g (x ∷ xs) h =
    ap (λ z. z ∷ map f xs) (h 0 x refl) ∙ ap (λ z. g x ∷ z) (all_same f g xs (λ j a e. h (suc j) a e))

and_last : (f g : ℕ → Action) (xs : List ℕ) (y : ℕ) → ((j a : ℕ) → slice_get (xs ++ y ∷ []) j ≡ Some a → f a ≡ g a) →
    map f xs ++ f y ∷ [] ≡ map g xs ++ g y ∷ []
and_last f g [] y h = ap (λ z. z ∷ []) (h 0 y refl)
and_last f g (x ∷ xs) y h =
    ap (λ z. z ∷ (map f xs ++ f y ∷ [])) (h 0 x refl) ∙ ap (λ z. g x ∷ z) (and_last f g xs y (λ j a e. h (suc j) a e))

parts_same : (es : List Term) (kd : StmtKind) (q : Pos) (f g : ℕ → Action) →
    ((j a : ℕ) → slice_get (parts kd) j ≡ Some a → f a ≡ g a) → kind_action es kd q f ≡ kind_action es kd q g
parts_same es (stmts.Expr a) q f g h = refl
parts_same es (stmts.Init var offset a) q f g h = refl
parts_same es (stmts.Block vars body) q f g h =
    ap (λ z. action (tree.Block vars) (terms []) (actions z) q) (all_same f g body h)
parts_same es (stmts.If a x None) q f g h =
    ap (λ z. action tree.If (terms (term_at es a ∷ [])) (actions (z ∷ [])) q) (h 0 x refl)
parts_same es (stmts.If a x (Some y)) q f g h =
    ap (λ z. action tree.If (terms (term_at es a ∷ [])) (actions (z ∷ f y ∷ [])) q) (h 0 x refl)
    ∙ ap (λ z. action tree.If (terms (term_at es a ∷ [])) (actions (g x ∷ z ∷ [])) q) (h 1 y refl)
parts_same es (stmts.While a x) q f g h =
    ap (λ z. action tree.While (terms (term_at es a ∷ [])) (actions (z ∷ [])) q) (h 0 x refl)
parts_same es (stmts.Do x a) q f g h =
    ap (λ z. action tree.Do (terms (term_at es a ∷ [])) (actions (z ∷ [])) q) (h 0 x refl)
parts_same es (stmts.For vars first a b x) q f g h =
    ap (λ z. action (tree.For vars (length first) (is_some a) (is_some b))
    (terms (listed (term_at es) a ++ listed (term_at es) b)) (actions z) q) (and_last f g first x h)
parts_same es (stmts.Switch a vars labels body) q f g h =
    ap (λ z. action (tree.Switch vars (map label_of labels)) (terms (term_at es a ∷ [])) (actions z) q)
    (all_same f g body h)
parts_same es stmts.Break q f g h = refl
parts_same es stmts.Continue q f g h = refl
parts_same es (stmts.Return a) q f g h = refl
parts_same es stmts.Empty q f g h = refl

module _ (p : Typed) (o : IsOrdered p) where
  statement_is : (k : ℕ) (s : Stmt) → slice_get p.stmts k ≡ Some s →
      statement p k ≡ kind_action (terms_of p) s.kind s.pos (statement p)
  statement_is k s h =
      let r = forest_reads (stmt_from (terms_of p)) no_action p.stmts k s h in
      r.is ∙ parts_same (terms_of p) s.kind s.pos (λ j. get_or r.seen j no_action) (statement p)
      (λ j a e. r.before a (o.parts_before k j a s h e))

both_entered : (g : ℕ → ℕ) (xs ys : List ℕ) → sum_by g (xs ++ ys) ≡ sum_by g xs + sum_by g ys
both_entered g xs ys = sum_by-append g xs ys

module _ (f : Frame) (o : IsOrdered f.program) where
  abbrev x : ℕ → Term
  x j = expression f.program j

  abbrev st : ℕ → Action
  st j = statement f.program j

  of_action : (i : Inside) (n : Form) (xs : Terms) (ys : Actions) (q : Pos) → ActionFits f i (action n xs ys q) →
      TermsFit f xs × FormFits f i n xs (count_of ys) × ActionsFit f (inside_of n i) ys
  unfolding ActionFits
  of_action i n xs ys q h = (h.0, h.1, h.2)

  of_term : (a : Term) (xs : Terms) → TermsFit f (with_term a xs) → TermFits f a × TermsFit f xs
  unfolding TermsFit
  of_term a xs h = (h.0, h.1)

  of_first : (i : Inside) (a : Action) (ys : Actions) → ActionsFit f i (tree.with_action a ys) →
      ActionFits f i a × ActionsFit f i ys
  unfolding ActionsFit
  of_first i a ys h = (h.0, h.1)

  each_placed : (i : Inside) (ks : List ℕ) → ActionsFit f i (actions (map st ks)) → (j a : ℕ) →
      slice_get ks j ≡ Some a → IsPlaced f i a
  each_placed i [] h j a g = absurd cc
  each_placed i (k ∷ ks) h zero a g =
      let e : k ≡ a = cc in subst (λ z. IsPlaced f i z) e
      (record { fits = (of_first i (st k) (actions (map st ks)) h).0 })
  each_placed i (k ∷ ks) h (suc j) a g = each_placed i ks (of_first i (st k) (actions (map st ks)) h).1 j a g

  hefts : (ks : List ℕ) → actions_weight (actions (map st ks)) ≡ hefts_in f.program ks
  hefts [] = refl
  hefts (k ∷ ks) = omega (arith, sum_by-cons (λ j. heft_in f.program j) k ks, hefts ks)

  -- with one behind them
  front_placed : (i : Inside) (ks : List ℕ) (y : ℕ) → ActionsFit f i (actions (map st ks ++ st y ∷ [])) → (j a : ℕ) →
      slice_get ks j ≡ Some a → IsPlaced f i a
  front_placed i [] y h j a g = absurd cc
  front_placed i (k ∷ ks) y h zero a g =
      let e : k ≡ a = cc in subst (λ z. IsPlaced f i z) e
      (record { fits = (of_first i (st k) (actions (map st ks ++ st y ∷ [])) h).0 })
  front_placed i (k ∷ ks) y h (suc j) a g =
      front_placed i ks y (of_first i (st k) (actions (map st ks ++ st y ∷ [])) h).1 j a g

  last_placed : (i : Inside) (ks : List ℕ) (y : ℕ) → ActionsFit f i (actions (map st ks ++ st y ∷ [])) → IsPlaced f i y
  last_placed i [] y h = record { fits = (of_first i (st y) (actions []) h).0 }
  last_placed i (k ∷ ks) y h = last_placed i ks y (of_first i (st k) (actions (map st ks ++ st y ∷ [])) h).1

  hefts_last : (ks : List ℕ) (y : ℕ) →
      actions_weight (actions (map st ks ++ st y ∷ [])) ≡ hefts_in f.program ks + heft_in f.program y
  hefts_last [] y = omega arith
  hefts_last (k ∷ ks) y = omega (arith, sum_by-cons (λ j. heft_in f.program j) k ks, hefts_last ks y)

  all_entered : (g : ℕ → ℕ) (ks : List ℕ) →
      sum_by g (all_declared (actions (map st ks))) ≡ all_declared_by f.program g ks
  all_entered g [] = refl
  all_entered g (k ∷ ks) = omega (
    arith,
    both_entered g (declared (st k)) (all_declared (actions (map st ks))),
    sum_by-cons (λ j. declared_by f.program g j) k ks,
    all_entered g ks,
  )

  entered_last : (g : ℕ → ℕ) (ks : List ℕ) (y : ℕ) →
      sum_by g (all_declared (actions (map st ks ++ st y ∷ [])))
      ≡ all_declared_by f.program g ks + declared_by f.program g y
  entered_last g [] y = omega (arith, both_entered g (declared (st y)) [])
  entered_last g (k ∷ ks) y =
      omega (
        arith,
        both_entered g (declared (st k)) (all_declared (actions (map st ks ++ st y ∷ []))),
        sum_by-cons (λ j. declared_by f.program g j) k ks,
        entered_last g ks y,
      )

  module _ (i : Inside) (k : ℕ) (s : Stmt) (there : slice_get f.program.stmts k ≡ Some s) (w : IsPlaced f i k) where
    abbrev Is : StmtKind → Type 0
    Is kd = s.kind ≡ kd

    same : (kd : StmtKind) → Is kd → st k ≡ kind_action (terms_of f.program) kd s.pos st
    same kd is = statement_is f.program o k s there ∙ ap (λ z. kind_action (terms_of f.program) z s.pos st) is

    weighs : (kd : StmtKind) → Is kd →
        heft_in f.program k ≡ action_weight (kind_action (terms_of f.program) kd s.pos st)
    weighs kd is = ap action_weight (same kd is)

    enters : (g : ℕ → ℕ) (kd : StmtKind) → Is kd →
        declared_by f.program g k ≡ sum_by g (declared (kind_action (terms_of f.program) kd s.pos st))
    enters g kd is = ap (λ z. sum_by g (declared z)) (same kd is)

    -- what it copies, by its expressions and the statements in it
    copies : (kd : StmtKind) → Is kd →
        init_copies f.program.types f.program.exprs kd + sum_by (copies_in f.program) (values kd)
        + sum_by (part_copies f.program) (parts kd) ≡ part_copies f.program k
    copies kd is = part_by f.program o k s kd there is

    fits : (n : Form) (xs : Terms) (ys : Actions) → st k ≡ action n xs ys s.pos →
        TermsFit f xs × FormFits f i n xs (count_of ys) × ActionsFit f (inside_of n i) ys
    fits n xs ys e = of_action i n xs ys s.pos (subst (λ z. ActionFits f i z) e w.fits)

    abbrev one : ℕ → Terms
    one a = with_term (x a) no_terms

    typed : (a : ℕ) → TermsFit f (one a) → IsTyped f a
    typed a h = record { fits = (of_term (x a) no_terms h).0 }

    evaluate_part : (a : ℕ) → Is (stmts.Expr a) → EvaluatePart f k a
    evaluate_part a is =
        let h = fits tree.Evaluate (one a) (actions []) (same (stmts.Expr a) is) in
        record {
          value = typed a h.0;
          weight = omega (arith, weighs (stmts.Expr a) is);
          copies = omega (arith, copies (stmts.Expr a) is);
        }

    value_copied : (a : ℕ) → copied_in f.program a ≡ value_copies f.program.types (slice_get f.program.exprs a)
    unfolding copied_in
    value_copied a = refl

    init_part : (v n a : ℕ) → Is (stmts.Init v n a) → InitPart f k v n a
    init_part v n a is =
        let h = fits (tree.Init v n) (one a) (actions []) (same (stmts.Init v n a) is) in
        record {
          value = typed a h.0;
          lies = h.1;
          weight = omega (arith, weighs (stmts.Init v n a) is);
          copies = omega (arith, copies (stmts.Init v n a) is, value_copied a);
        }

    block_part : (vars body : List ℕ) → Is (stmts.Block vars body) → BlockPart f i k vars body
    block_part vars body is =
        let h = fits (tree.Block vars) no_terms (actions (map st body)) (same (stmts.Block vars body) is) in
        record {
          vars_there = h.1;
          body_fits = record { each = each_placed i body h.2 };
          weight = omega (arith, weighs (stmts.Block vars body) is, hefts body);
          copies = omega (arith, copies (stmts.Block vars body) is);
          enters = λ g. omega (
            arith,
            enters g (stmts.Block vars body) is,
            both_entered g vars (all_declared (actions (map st body))),
            all_entered g body,
          );
        }

    some_same : (a b : ℕ) → Some a ≡ Some b → a ≡ b
    some_same a b e = cc

    if_part : (c a : ℕ) (b : Option ℕ) → Is (stmts.If c a b) → IfPart f i k c a b
    if_part c a None is =
        let h = fits tree.If (one c) (actions (st a ∷ [])) (same (stmts.If c a None) is) in
        record {
          test = record { typed = typed c h.0; scalar = h.1.0 };
          first = record { fits = (of_first i (st a) (actions []) h.2).0 };
          second = λ j e. absurd cc;
          weight = omega (arith, weighs (stmts.If c a None) is);
          copies = omega (arith, copies (stmts.If c a None) is);
          enters = λ g. omega (arith, enters g (stmts.If c a None) is, both_entered g (declared (st a)) []);
        }
    if_part c a (Some b) is =
        let h = fits tree.If (one c) (actions (st a ∷ st b ∷ [])) (same (stmts.If c a (Some b)) is) in
        let r = of_first i (st a) (actions (st b ∷ [])) h.2 in
        record {
          test = record { typed = typed c h.0; scalar = h.1.0 };
          first = record { fits = r.0 };
          second = λ j e. subst (λ z. IsPlaced f i z) (some_same b j e)
              (record { fits = (of_first i (st b) (actions []) r.1).0 });
          weight = omega (arith, weighs (stmts.If c a (Some b)) is);
          copies = omega (arith, copies (stmts.If c a (Some b)) is);
          enters = λ g. omega (
            arith,
            enters g (stmts.If c a (Some b)) is,
            both_entered g (declared (st a)) (declared (st b) ++ []),
            both_entered g (declared (st b)) [],
          );
        }

    while_part : (c a : ℕ) → Is (stmts.While c a) → LoopPart f k c a
    while_part c a is =
        let h = fits tree.While (one c) (actions (st a ∷ [])) (same (stmts.While c a) is) in
        record {
          test = record { typed = typed c h.0; scalar = h.1.0 };
          body_fits = record { fits = (of_first in_loop (st a) (actions []) h.2).0 };
          weight = omega (arith, weighs (stmts.While c a) is);
          copies = omega (arith, copies (stmts.While c a) is);
          enters = λ g. omega (arith, enters g (stmts.While c a) is, both_entered g (declared (st a)) []);
        }

    do_part : (a c : ℕ) → Is (stmts.Do a c) → LoopPart f k c a
    do_part a c is =
        let h = fits tree.Do (one c) (actions (st a ∷ [])) (same (stmts.Do a c) is) in
        record {
          test = record { typed = typed c h.0; scalar = h.1.0 };
          body_fits = record { fits = (of_first in_loop (st a) (actions []) h.2).0 };
          weight = omega (arith, weighs (stmts.Do a c) is);
          copies = omega (arith, copies (stmts.Do a c) is);
          enters = λ g. omega (arith, enters g (stmts.Do a c) is, both_entered g (declared (st a)) []);
        }

    tests_typed : (a b : Option ℕ) → TermsFit f (terms (listed x a ++ listed x b)) →
        TestsFit (is_some a) (is_some b) (terms (listed x a ++ listed x b)) → (j : ℕ) → a ≡ Some j → TestFits f j
    tests_typed None b h g j e = absurd cc
    tests_typed (Some a) None h g j e =
        subst (λ z. TestFits f z) (some_same a j e) (record { typed = typed a h; scalar = g })
    tests_typed (Some a) (Some b) h g j e =
        subst (λ z. TestFits f z) (some_same a j e)
        (record { typed = record { fits = (of_term (x a) (one b) h).0 }; scalar = g })

    steps_typed : (a b : Option ℕ) → TermsFit f (terms (listed x a ++ listed x b)) → (j : ℕ) → b ≡ Some j → IsTyped f j
    steps_typed a None h j e = absurd cc
    steps_typed None (Some b) h j e = subst (λ z. IsTyped f z) (some_same b j e) (typed b h)
    steps_typed (Some a) (Some b) h j e =
        subst (λ z. IsTyped f z) (some_same b j e) (typed b (of_term (x a) (one b) h).1)

    tests_weigh : (a b : Option ℕ) →
        terms_weight (terms (listed x a ++ listed x b))
        ≡ or_none (weight_in f.program) a + or_none (weight_in f.program) b
    tests_weigh None None = refl
    tests_weigh None (Some b) = omega arith
    tests_weigh (Some a) None = omega arith
    tests_weigh (Some a) (Some b) = omega arith

    tests_copy : (a b : Option ℕ) →
        sum_by (copies_in f.program) (listed same_number a ++ listed same_number b)
        ≡ or_none (copies_in f.program) a + or_none (copies_in f.program) b
    tests_copy None None = refl
    tests_copy None (Some b) = omega arith
    tests_copy (Some a) None = omega arith
    tests_copy (Some a) (Some b) = omega arith

    for_part : (vars first : List ℕ) (a b : Option ℕ) (y : ℕ) → Is (stmts.For vars first a b y) →
        ForPart f k vars first a b y
    for_part vars first a b y is =
        let h = fits (tree.For vars (length first) (is_some a) (is_some b)) (terms (listed x a ++ listed x b))
        (actions (map st first ++ st y ∷ [])) (same (stmts.For vars first a b y) is) in
        record {
          vars_there = h.1.0;
          first_fits = record { each = front_placed in_loop first y h.2 };
          test_fits = tests_typed a b h.0 h.1.1;
          step_fits = steps_typed a b h.0;
          body_fits = last_placed in_loop first y h.2;
          weight = omega (arith, weighs (stmts.For vars first a b y) is, tests_weigh a b, hefts_last first y);
          copies = omega (
            arith,
            copies (stmts.For vars first a b y) is,
            tests_copy a b,
            sum_by-append (part_copies f.program) first (y ∷ []),
          );
          enters = λ g. omega (
            arith,
            enters g (stmts.For vars first a b y) is,
            both_entered g vars (all_declared (actions (map st first ++ st y ∷ []))),
            entered_last g first y,
          );
        }

    switch_part : (on : ℕ) (vars : List ℕ) (labels : List SwitchLabel) (body : List ℕ) →
        Is (stmts.Switch on vars labels body) → SwitchPart f i k on vars labels body
    switch_part on vars labels body is =
        let h = fits (tree.Switch vars (map label_of labels)) (one on) (actions (map st body))
        (same (stmts.Switch on vars labels body) is) in
        record {
          value = typed on h.0;
          integer = h.1.1;
          vars_there = h.1.0;
          body_fits = record { each = each_placed (in_switch i) body h.2 };
          weight = omega (arith, weighs (stmts.Switch on vars labels body) is, length-map labels label_of, hefts body);
          copies = omega (arith, copies (stmts.Switch on vars labels body) is);
          enters = λ g. omega (
            arith,
            enters g (stmts.Switch on vars labels body) is,
            both_entered g vars (all_declared (actions (map st body))),
            all_entered g body,
          );
        }

    return_part : (a : Option ℕ) → Is (stmts.Return a) → ReturnPart f k a
    return_part None is =
        let h = fits tree.Return no_terms (actions []) (same (stmts.Return None) is) in
        record {
          nothing = λ e. h.1;
          value = λ j e. absurd cc;
          given = λ j e. absurd cc;
          weight = omega (arith, weighs (stmts.Return None) is);
          copies = omega (arith, copies (stmts.Return None) is);
        }
    return_part (Some a) is =
        let h = fits tree.Return (one a) (actions []) (same (stmts.Return (Some a)) is) in
        record {
          nothing = λ e. absurd cc;
          value = λ j e. subst (λ z. IsTyped f z) (some_same a j e) (typed a h.0);
          given = λ j e. subst (λ z. ty.compatible (type_of (x z)) f.gives ≡ true) (some_same a j e) h.1;
          weight = omega (arith, weighs (stmts.Return (Some a)) is);
          copies = omega (arith, copies (stmts.Return (Some a)) is);
        }

    by_kind : (kd : StmtKind) → Is kd → PartFits f i k kd
    by_kind (stmts.Expr a) is = evaluate_part a is
    by_kind (stmts.Init v n a) is = init_part v n a is
    by_kind (stmts.Block vars body) is = block_part vars body is
    by_kind (stmts.If c a b) is = if_part c a b is
    by_kind (stmts.While c a) is = while_part c a is
    by_kind (stmts.Do a c) is = do_part a c is
    by_kind (stmts.For vars first a b y) is = for_part vars first a b y is
    by_kind (stmts.Switch on vars labels body) is = switch_part on vars labels body is
    by_kind stmts.Break is = (fits tree.Break no_terms (actions []) (same stmts.Break is)).1
    by_kind stmts.Continue is = (fits tree.Continue no_terms (actions []) (same stmts.Continue is)).1
    by_kind (stmts.Return a) is = return_part a is
    by_kind stmts.Empty is = tt

    pub part_fits : PartFits f i k s.kind
    part_fits = by_kind s.kind refl
